use Rattle.std.proofs.Common.{◌≡◌, List, [], ◌∷◌, ◌++◌, sym, ◌∙◌, ap, arith}
use Rattle.std.proofs.lemmas.List.{get_or_default, map_push}
use Rattle.trust.specs.Trusting.{holds}
use Rattle.realise.specs.Holdings.{Holdings}
use Rattle.handlers.specs.Viewing.{bare, desk_at, desks_of}
use Rattle.handlers.proofs.ViewLemmas.{places_in, places_out}
use Rattle.handlers.proofs.view.desks_at.Goals as goal
use Rattle.handlers.proofs.view.desks_at.Goals.{then-has_place+in_ok-push, else-has_place}

pub loop-place-preserved : goal.loop-place-preserved
loop-place-preserved c =
    let desks : List Holdings = c.args.desks.now in
    let here = c.loop-place.place in
    elim c.if-has_place.branch [
      | then-has_place+in_ok-push w ↦
          let at : w.index-desks-place.result ≡ desk_at desks here = w.index-desks-place.is
          ∙ get_or_default desks here w.index-desks-place.result bare (omega arith) in
          ap (λ v. desks_of v.items) w.found-is ∙ ap desks_of w.in_ok-push.ensures.items ∙ map_push (λ d. d.now) c.loop-place.found.items _
          ∙ (λ i. c.loop-place.invariant i ++ at i ∷ []) ∙ sym (places_in (desk_at desks) (holds c.args.set) here (sym w.if-has_place.ensures))
      | else-has_place w ↦
          ap (λ v. desks_of v.items) w.found-is ∙ c.loop-place.invariant
          ∙ sym (places_out (desk_at desks) (holds c.args.set) here (sym w.if-has_place.ensures))
    ]
