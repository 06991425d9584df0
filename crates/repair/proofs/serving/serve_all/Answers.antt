use Rattle.std.proofs.Common.{◌≡◌, ◌≢◌, ◌<◌, ◌≤◌, ◌∙◌, ap, sym, refl, subst, arith, length, get_or, All, Err}
use Rattle.std.proofs.lemmas.Result.{err_from_is_err_and}
use Rattle.std.proofs.lemmas.List.{take_all}
use Rattle.std.proofs.lemmas.List.Elements.{All-push}
use Rattle.model.specs.declared.refusal.Refusal.TheVariants.{Memory}
use Rattle.model.specs.Classes.{Class}
use Rattle.model.specs.Repairs.{chosen_in}
use Rattle.rewrite.proofs.StepLemmas.{take_next}
use Rattle.records.specs.Sound.{IsSoundRecord}
use Rattle.repair.specs.AtHand.{IsMade}
use Rattle.repair.specs.Counting.{made_in}
use Rattle.repair.specs.Prepared.{HasRepair, HasRepaired}
use Rattle.repair.specs.declared.cache.Cache.{Cache}
use Rattle.repair.proofs.ServingLemmas.{serve_refused, serve_step}
use Rattle.repair.proofs.PreparedLemmas.{err_is, repairs_all, all_next, all_until, has_one, has_rest}
use Rattle.repair.proofs.serving.serve_all.Goals as goal
use Rattle.repair.proofs.serving.serve_all.Goals.{After-serve}

-- the record that is served, and its place
within : (c : After-serve) → c.loop-chosen.chosen-index < length c.args.plan.now.records
within c = subst (λ xs. c.loop-chosen.chosen-index < length xs) c.records-records.ensures.records c.loop-chosen-test.true

is_there : (c : After-serve) → c.chosen-item.result ≡ get_or c.args.plan.now.records c.loop-chosen.chosen-index c.chosen-item.result
is_there c = c.chosen-item.is ∙ ap (λ xs. get_or xs c.loop-chosen.chosen-index c.chosen-item.result) c.records-records.ensures.records

-- where all is at hand, the cache stays
stays : (c : After-serve) → HasRepaired c.args.plan.now (made_in c.args.cache.now.made) → c.serve.new.cache ≡ c.args.cache.now
stays c had =
    let before = c.loop-chosen.invariant.at_hand had in
    let r = c.chosen-item.result in
    let has = has_one c.args.plan.now c.records-records.ensures.in_order c.loop-chosen.chosen-index r c.loop-chosen.served.entries (within c) (is_there c)
    c.serve.ensures.low c.loop-chosen.invariant.served (made_in c.args.cache.now.made) before.1 in
    c.serve.ensures.same (λ replacements to needs. subst (λ (cache : Cache). IsMade (made_in cache.made) r replacements) (sym before.0) (has replacements to needs)) ∙ before.0

pub returns-in_err-realisation-clause-served : goal.returns-in_err-realisation-clause-served
returns-in_err-realisation-clause-served c =
    let a = (goal.at.returns-in_err-realisation-clause-served c).After-serve in
    let p = err_from_is_err_and c.from_residual.result c.from_residual.ensures.1 in
    rw (p.1, p.2) (serve_refused c.args.plan.now c.records-records.ensures.in_order c.loop-chosen.chosen-index c.chosen-item.result
    c.loop-chosen.served.entries (within a) (is_there a) c.serve.ensures.low c.loop-chosen.invariant.served
    c.in_err-realisation.field-0.0 c.in_err-realisation.ensures.served)

pub returns-in_err-realisation-clause-made : goal.returns-in_err-realisation-clause-made
returns-in_err-realisation-clause-made c step told =
    let a = (goal.at.returns-in_err-realisation-clause-made c).After-serve in
    let p = err_from_is_err_and c.from_residual.result c.from_residual.ensures.1 in
    let why = c.in_err-realisation.field-0.0 in
    let other : why ≢ Memory = λ memory. told (p.1 ∙ ap Err (p.2 ∙ memory)) in
    all_until c.args.plan.now c.records-records.ensures.in_order c.loop-chosen.chosen-index c.chosen-item.result c.loop-chosen.served.entries
    (within a) (is_there a) c.serve.ensures.low c.loop-chosen.invariant.served (made_in c.loop-chosen.cache.made) (made_in c.serve.new.cache.made)
    c.serve.ensures.others
    (λ replacements to needs. c.in_err-realisation.ensures.made replacements to needs (c.loop-chosen.invariant.step ∙ step) (λ e. other (err_is why Memory _ refl e)))
    (c.loop-chosen.invariant.made step) why c.in_err-realisation.ensures.served other

pub returns-in_err-realisation-clause-at_hand : goal.returns-in_err-realisation-clause-at_hand
returns-in_err-realisation-clause-at_hand c = stays (goal.at.returns-in_err-realisation-clause-at_hand c).After-serve

pub returns-in_err-class-clause-at_hand : goal.returns-in_err-class-clause-at_hand
returns-in_err-class-clause-at_hand c = stays (goal.at.returns-in_err-class-clause-at_hand c).After-serve

pub returns-in_err-put_served-clause-at_hand : goal.returns-in_err-put_served-clause-at_hand
returns-in_err-put_served-clause-at_hand c = stays (goal.at.returns-in_err-put_served-clause-at_hand c).After-serve

pub loop-chosen-preserved : goal.loop-chosen-preserved
loop-chosen-preserved c =
    let a = (goal.at.loop-chosen-preserved c).After-serve in
    let plan = c.args.plan.now in
    let in_order = c.records-records.ensures.in_order in
    let k = c.loop-chosen.chosen-index in
    let r = c.chosen-item.result in
    let before = c.loop-chosen.invariant in
    record {
      served = serve_step plan in_order k r c.loop-chosen.served.entries (within a) (is_there a) c.serve.ensures.low before.served
          c.in_ok-realisation.realisation c.in_ok-class.class c.put_served.new.served.entries
          (c.in_ok-class.ensures.cases ∙ c.path.ensures ∙ ap (λ (d : Class). d.path) c.class.ensures) c.in_ok-realisation.ensures.served c.in_ok-put_served.ensures;
      sound = rw (take_next plan.records k r (within a) (is_there a)) (All-push IsSoundRecord _ r before.sound c.in_ok-realisation.ensures.sound);
      made = λ step. all_next plan in_order k r c.loop-chosen.served.entries (within a) (is_there a) c.serve.ensures.low before.served
          (made_in c.loop-chosen.cache.made) (made_in c.serve.new.cache.made) c.serve.ensures.others
          (λ replacements to needs. c.in_ok-realisation.ensures.made replacements to needs (before.step ∙ step) (λ e. cc)) (before.made step);
      step = c.serve.ensures.step ∙ before.step;
      at_hand = λ had. (
        stays a had,
        has_rest plan in_order k r c.loop-chosen.served.entries (within a) (is_there a) c.serve.ensures.low before.served
            (made_in c.args.cache.now.made) (before.at_hand had).1 c.in_ok-realisation.realisation c.in_ok-realisation.ensures.served,
      );
    }

pub returns-clause-made : goal.returns-clause-made
returns-clause-made c step told =
    let records = c.args.plan.now.records in
    let choice = chosen_in records in
    let made = made_in c.loop-chosen.cache.made in
    let done : length records ≤ c.loop-chosen.chosen-index =
    subst (λ xs. length xs ≤ c.loop-chosen.chosen-index) c.records-records.ensures.records (omega (arith, c.loop-chosen-test.false)) in
    repairs_all choice made records
    (subst (All (HasRepair choice made)) (take_all c.loop-chosen.chosen-index records done) (c.loop-chosen.invariant.made step))
