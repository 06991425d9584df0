use Rattle.std.proofs.Common.{◌≡◌, sym, ◌∙◌, subst, inr, [], ◌∷◌, ◌++◌, length, take}
use Rattle.std.specs.Prelude.{Some}
use Rattle.std.proofs.lemmas.List.{map-id}
use Rattle.std.proofs.lemmas.Result.{err_from_is_err_and}
use Rattle.std.proofs.lemmas.Iterator.Adapters.{YieldsList-from_vec}
use Rattle.std.proofs.lemmas.Iterator.Consumers.{YieldsList-turn, YieldsList-so_far}
use Rattle.files.specs.Parts.{AreParts}
use Rattle.files.proofs.FileLemmas.{NamedSoFar, parts_push, named_push, refused_at}
use Rattle.files.proofs.parts.parts_of.Goals as goal

pub returns-in_err-part-clause-refused : goal.returns-in_err-part-clause-refused
returns-in_err-part-clause-refused g c =
    let given = c.into_iter-file-iterator.ensures.into_iter_gives in
    let list = YieldsList-from_vec {s = c.into_iter-file-iterator.result} c.args.files.items given.0 (given.1 ∙ c.args.files.ok.0) in
    let turn = YieldsList-turn list c.loop-file.yielded c.loop-file.file-iterator c.loop-file.yielded_by
    c.next.result c.next.new.self c.in-Some.file c.in-Some.is c.next.ensures.steps in
    let yielded : c.loop-file.yielded ≡ take (length c.loop-file.yielded) c.args.files.items =
    sym (map-id c.loop-file.yielded) ∙ YieldsList-so_far list c.loop-file.yielded c.loop-file.file-iterator c.loop-file.yielded_by in
    let told = err_from_is_err_and c.from_residual.result c.from_residual.ensures.1 in
    rw (told.1, told.2)
    (inr (refused_at g.I.Read.remaining g.I.Faults.failed c.args.files.items (length c.loop-file.yielded) c.in-Some.file
    c.loop-file.parts.items c.in_err-part.field-0.0 turn.0 turn.1
    (subst (λ files. AreParts g.I.Read.remaining files c.loop-file.parts.items) yielded c.loop-file.invariant.0) c.in_err-part.ensures.refused))

pub loop-file-preserved : goal.loop-file-preserved
loop-file-preserved g c =
    let remaining = g.I.Read.remaining in
    let parts = c.loop-file.parts.items in
    let part = c.in_ok-part.field-0.part in
    let users = c.in_ok-part.field-0.users in (
      subst (AreParts remaining (c.loop-file.yielded ++ c.in-Some.file ∷ [])) (sym c.in_ok-push.ensures.items)
          (parts_push remaining c.loop-file.yielded c.in-Some.file parts part c.loop-file.invariant.0 c.in_ok-part.ensures.part),
      subst (λ ps. NamedSoFar remaining ps (Some c.unwrap_or.result)) (sym c.in_ok-push.ensures.items)
          (subst (λ us. NamedSoFar remaining (parts ++ part ∷ []) (Some us)) (sym c.unwrap_or.ensures)
          (named_push remaining parts part c.loop-file.named users c.loop-file.invariant.1 c.in_ok-part.ensures.users)),
    )
