use Rattle.std.proofs.Common.{◌≡◌, List, Ok, sym, ◌∙◌, subst}
use Rattle.model.specs.Archives.{IsTree}
use Rattle.model.specs.Paths.{IsPath}
use Rattle.records.proofs.PathOrderLemmas.{once}
use Rattle.records.specs.Sound.{IsSoundRecord}
use Rattle.repair.proofs.RelabellingLemmas.{label_paths, if_any}
use Rattle.model.specs.Repairs.{Replacement, replacements_of}
use Rattle.laws.proofs.ServedLemmas.{ok_is}
use Rattle.repair.specs.Served.{served_in, IsRelabelledBy}
use Rattle.repair.specs.AtHand.{IsMade}
use Rattle.repair.specs.Counting.{made_in, IsToRepair, IsAtHand}
use Rattle.repair.proofs.relabelling.serve.Goals as goal
use Rattle.repair.proofs.relabelling.serve.Goals.{After-relabelled}

pub returns-clause-sound : goal.returns-clause-sound
returns-clause-sound c =
    let r = c.args.chosen.now in
    if_any c.relabelled.result (IsSoundRecord r) (record {
      tree = subst IsTree c.tree.ensures c.sound.ensures;
      path = subst IsPath c.path.ensures c.sound-2.ensures;
      labels = label_paths r.labels (rw (← c.labels.ensures.labels) (c.in_ok-replacements.ensures.sound));
      once = once r.labels c.labels.ensures.in_order;
    })

-- its labels are replaced in one way
one_way : (c : After-relabelled) (replacements : List Replacement) → IsRelabelledBy c.args.served.now.entries c.args.chosen.now replacements
    → replacements ≡ c.deref.result.now
one_way c replacements to =
    let r = c.args.chosen.now in
    let is : replacements_of (served_in c.args.served.now.entries r.class.rank) r.labels ≡ Ok c.in_ok-replacements.replacements.items =
    rw (← c.labels.ensures.labels, ← c.class.ensures, ← c.rank.ensures.rank) c.in_ok-replacements.ensures.replacements in
    ok_is replacements c.in_ok-replacements.replacements.items _ to is ∙ sym c.deref.ensures.value

pub returns-clause-computed : goal.returns-clause-computed
returns-clause-computed c = λ replacements to needs none told.
    let same = one_way (goal.at.returns-clause-computed c).After-relabelled replacements to in
    c.relabelled.ensures.computed (subst (IsToRepair c.args.chosen.now) same needs)
    (λ there. none (subst (IsAtHand c.args.cache.now c.args.chosen.now) (sym same) there)) told

pub returns-clause-made : goal.returns-clause-made
returns-clause-made c = λ replacements to needs step told.
    let same = one_way (goal.at.returns-clause-made c).After-relabelled replacements to in
    let made = c.relabelled.ensures.made (subst (IsToRepair c.args.chosen.now) same needs) step told in
    subst (IsMade (made_in c.relabelled.new.cache.made) c.args.chosen.now) (sym same) made

pub returns-clause-idle : goal.returns-clause-idle
returns-clause-idle c = λ replacements to none.
    let same = one_way (goal.at.returns-clause-idle c).After-relabelled replacements to in
    c.relabelled.ensures.idle (λ needs. none (subst (IsToRepair c.args.chosen.now) (sym same) needs))
