use Rattle.std.proofs.Common.{◌≡◌, ◌∙◌, List, Some, rules, subst, sym}
use Rattle.std.proofs.lemmas.Option.{same_Some}
use Rattle.model.specs.Classes.{Admission, known_at}
use Rattle.model.specs.Worlds.{Label}
use Rattle.outputs.specs.Kept.{HasOutput}
use Rattle.outputs.specs.Below.{AreCandidates}
use Rattle.handlers.specs.Offering.{AreLabels}
use Rattle.handlers.proofs.OfferLemmas.{are_labels}
use Rattle.handlers.proofs.offers.input_for_offer.Goals as goal

pub returns-clause-needed : goal.returns-clause-needed
returns-clause-needed c tree settled has a known =
    let his : Admission = c.in-Some.admitted.now in
    let found : known_at c.args.desk.now.known c.args.path.now ≡ Some his = search rules in
    let same : his ≡ a = same_Some _ _ (sym found ∙ known) in
    let labels : List Label = c.in_ok-candidates.candidates in
    let are : AreCandidates c.args.desk.now.known his.derivation c.args.desk.now.records labels = search rules in
    let output : HasOutput settled his.class.path labels his.derivation tree = record { input = c.in_ok-input.input; input_is = search rules; has = has } in
    subst (λ x. (ls : List Label) × AreLabels c.args.desk.now x.derivation ls × HasOutput settled x.class.path ls x.derivation tree) same
    (labels, are_labels c.args.desk.now his labels are, output)
