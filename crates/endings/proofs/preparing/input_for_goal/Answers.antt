use Rattle.std.proofs.Common.{◌≡◌, ◌∙◌, Some, rules, subst, sym}
use Rattle.std.proofs.lemmas.Option.{same_Some}
use Rattle.model.specs.Classes.{Admission, known_at}
use Rattle.model.specs.Worlds.{Resolved}
use Rattle.outputs.specs.Kept.{HasOutput}
use Rattle.model.specs.Endings.{labels_from}
use Rattle.endings.proofs.preparing.input_for_goal.Goals as goal

pub returns-clause-needed : goal.returns-clause-needed
returns-clause-needed c tree settled has a r known resolved =
    let his : Admission = c.in-Some.admitted.now in
    let found : known_at c.args.desk.now.known c.args.goal.now.derivation ≡ Some his = search rules in
    let kept : c.args.goal.now.resolved ≡ Some c.in-Some-resolved.resolved.now = search rules in
    let output : HasOutput settled c.in-Some-resolved.resolved.now.scratch (labels_from c.in-Some-resolved.resolved.now) his.derivation tree =
    record { input = c.in_ok-input.input; input_is = search rules; has = has } in
    subst (λ (x : Admission). HasOutput settled r.scratch (labels_from r) x.derivation tree) (same_Some _ _ (sym found ∙ known))
    (subst (λ (k : Resolved). HasOutput settled k.scratch (labels_from k) his.derivation tree) (same_Some _ _ (sym kept ∙ resolved)) output)
