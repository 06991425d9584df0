use Rattle.std.proofs.Common.{◌≡◌, ◌∙◌, sym, ap, subst, refl, List, ℕ, [], ◌∷◌, ◌++◌, Some, None, append_assoc}
use Rattle.std.proofs.lemmas.List.{append-nil}
use Rattle.model.specs.declared.refusal.Refusal.TheVariants.{BadUsers}
use Rattle.model.specs.Talk.{Names, Refuses, GetsNext}
use Rattle.session.specs.Ahead.{Searched, LooksAhead}
use Rattle.session.proofs.FeedLemmas.{cut-line, cut-rest, piece-all, piece-line, input-line, piece-rest}
use Rattle.session.proofs.AheadLemmas.{searched-held, searched-line, found-line}
use Rattle.session.proofs.ahead.look_on.Goals as goal

pub loop-line-init : goal.loop-line-init
loop-line-init c = ([], refl, λ mode input p. subst (λ (t : List ℕ). Searched mode t c.args.session.now c.args.held.now.items) (sym (append-nil input)) p)

pub returns-in-Users-clause-found : goal.returns-in-Users-clause-found
returns-in-Users-clause-found c = λ mode input p more.
    let i = c.loop-line.invariant in
    let rest = c.loop-line.rest.now in
    let line = c.in-Some.line.now in
    let after = c.in-Some.after.now in
    let cut = cut-line rest line after c.in-Some.ensures.parts in
    let held : Searched mode ((input ++ i.0) ++ line) c.loop-line.session c.hold.new.held.items =
    searched-held (input ++ i.0) c.loop-line.session c.loop-line.held.items line c.hold.new.held.items (i.2 mode input p) cut.1 c.in_ok-hold.ensures in
    let look = rw c.in-Users.is at c.in_ok-users.ensures.found in
    let g : GetsNext c.loop-line.session c.hold.new.held.items (Names c.in-Users.users.items) =
    subst (λ (t : List ℕ). GetsNext c.loop-line.session t (Names c.in-Users.users.items)) c.as_slice.ensures.value look in
    let all : ((input ++ i.0) ++ line) ++ 10 ∷ (after ++ more) ≡ (input ++ c.args.piece.now) ++ more =
    sym (append_assoc ((input ++ i.0) ++ line) (10 ∷ after) more) ∙ ap (λ t. t ++ more) (piece-line input i.0 line rest c.args.piece.now after i.1 cut.0) in
    subst (λ (t : List ℕ). LooksAhead mode t (Some c.in-Users.users.items)) all
    (found-line ((input ++ i.0) ++ line) c.loop-line.session c.hold.new.held.items (Names c.in-Users.users.items) (Some c.in-Users.users.items)
    (after ++ more) held g refl (λ e. cc))

pub returns-in-Refused-clause-found : goal.returns-in-Refused-clause-found
returns-in-Refused-clause-found c = λ mode input p more.
    let i = c.loop-line.invariant in
    let rest = c.loop-line.rest.now in
    let line = c.in-Some.line.now in
    let after = c.in-Some.after.now in
    let cut = cut-line rest line after c.in-Some.ensures.parts in
    let held : Searched mode ((input ++ i.0) ++ line) c.loop-line.session c.hold.new.held.items =
    searched-held (input ++ i.0) c.loop-line.session c.loop-line.held.items line c.hold.new.held.items (i.2 mode input p) cut.1 c.in_ok-hold.ensures in
    let look = rw c.in-Refused.is at c.in_ok-users.ensures.found in
    let g : GetsNext c.loop-line.session c.hold.new.held.items (Refuses BadUsers) =
    subst (λ (t : List ℕ). GetsNext c.loop-line.session t (Refuses BadUsers)) c.as_slice.ensures.value look in
    let all : ((input ++ i.0) ++ line) ++ 10 ∷ (after ++ more) ≡ (input ++ c.args.piece.now) ++ more =
    sym (append_assoc ((input ++ i.0) ++ line) (10 ∷ after) more) ∙ ap (λ t. t ++ more) (piece-line input i.0 line rest c.args.piece.now after i.1 cut.0) in
    subst (λ (t : List ℕ). LooksAhead mode t None) all
    (found-line ((input ++ i.0) ++ line) c.loop-line.session c.hold.new.held.items (Refuses BadUsers) None (after ++ more) held g refl (λ e. refl))

pub loop-line-preserved : goal.loop-line-preserved
loop-line-preserved c =
    let i = c.loop-line.invariant in
    let rest = c.loop-line.rest.now in
    let line = c.in-Some.line.now in
    let after = c.in-Some.after.now in
    let cut = cut-line rest line after c.in-Some.ensures.parts in
    let look = rw c.in-Other.is at c.in_ok-users.ensures.found in
    let g : GetsNext c.loop-line.session c.hold.new.held.items look.0 =
    subst (λ (t : List ℕ). GetsNext c.loop-line.session t look.0) c.as_slice.ensures.value look.1 in (
      i.0 ++ (line ++ 10 ∷ []),
      piece-rest i.0 line rest c.args.piece.now after i.1 cut.0,
      λ mode input p.
          let held : Searched mode ((input ++ i.0) ++ line) c.loop-line.session c.hold.new.held.items =
          searched-held (input ++ i.0) c.loop-line.session c.loop-line.held.items line c.hold.new.held.items (i.2 mode input p) cut.1 c.in_ok-hold.ensures in
          rw c.clear.ensures.items
          (subst (λ (t : List ℕ). Searched mode t c.look_at.new.session []) (input-line input i.0 line)
          (searched-line ((input ++ i.0) ++ line) c.loop-line.session c.look_at.new.session c.hold.new.held.items look.0 held g look.2 look.3 look.4)),
    )

pub returns-clause-found : goal.returns-clause-found
returns-clause-found c = λ mode input p.
    let i = c.loop-line.invariant in
    subst (λ (t : List ℕ). Searched mode t c.loop-line.session c.hold-2.new.held.items) (piece-all input i.0 c.loop-line.rest.now c.args.piece.now i.1)
    (searched-held (input ++ i.0) c.loop-line.session c.loop-line.held.items c.loop-line.rest.now c.hold-2.new.held.items (i.2 mode input p)
    (cut-rest c.loop-line.rest.now c.in_default.ensures.parts) c.in_ok-hold-2.ensures)
