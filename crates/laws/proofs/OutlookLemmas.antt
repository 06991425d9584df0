-- What comes next of a goal, against what its plan is answered.
use Rattle.std.proofs.Common.{◌≡◌, ℕ, Bool, true, false, inl, inr, refl, sym, ◌∙◌, ap, List, [], ◌∷◌, Option, Some, None, Ok, Err}
use Rattle.std.specs.Prelude.{◌≢◌, ◌+◌, nat_lt, length, not, is_none, filter}
use Rattle.std.specs.List.{list_any}
use Rattle.std.specs.Option.{option_or}
use Rattle.model.specs.declared.refusal.Refusal.TheVariants.{NotRealised, ClosureTooLarge, UnknownDerivation, UnknownGoal, WrongState}
use Rattle.model.specs.Limits.{most_entries}
use Rattle.model.specs.Classes.{Admission, known_at}
use Rattle.model.specs.Derivations.{Derivation}
use Rattle.model.specs.Worlds.{Record, Desk, Pin, Status, Waiting, Planned, Building, Done, Failed, Goal, known_of, pin_of}
use Rattle.model.specs.Orders.{least_from, least}
use Rattle.model.specs.Choices.{visible_records, record_before, is_of, is_pinned, choose_of, choose_among, plan_by, small_plan, closure_plan, Plan}
use Rattle.model.specs.Goals.{goal_at, as_seen, is_waiting}
use Rattle.model.specs.Results.{then_do, ok_or}
use Rattle.model.specs.Closures.{served_plan}
use Rattle.model.specs.Resolutions.{input_classes, resolved_over}
use Rattle.model.specs.Outcomes.{Observation, Outcome, check, need}
use Rattle.model.specs.GoalRequests.{plan_resolved, resolve_for}
use Rattle.model.specs.Outlooks.{Lacks, Ready, Outlook, is_realised, first_lacking, lacks_or_ready, next_of, outlook_of, HasInputs, OutlooksForetellPlans}
use Rattle.model.proofs.BoolLemmas.{either}
use Rattle.laws.proofs.ServedLemmas.{ok_is}

-- ---- what is chosen

-- of a list with a member there is a least one
least_there : {X : Type 0} (before : X → X → Bool) (best : X) (xs : List X) → is_none (least_from before (Some best) xs) ≡ false
unfolding least_from
least_there before best [] = refl
least_there before best (x ∷ xs) = least_there before _ xs

or_there : {X : Type 0} (a b : Option X) → is_none b ≡ false → is_none (option_or a b) ≡ false
or_there None b t = t
or_there (Some x) b t = refl

-- among the records of a class one is chosen, unless there are none
chosen_of : (pin : Option (List ℕ)) (rs : List Record) → is_none (choose_of pin rs) ≡ is_none (least record_before rs)
unfolding least_from
chosen_of pin [] = refl
chosen_of pin (r ∷ rs) =
    or_there (least record_before (filter (is_pinned pin) (r ∷ rs))) (least_from record_before (Some r) rs) (least_there record_before r rs)
    ∙ sym (least_there record_before r rs)

least_of_class : (class : List ℕ) (rs : List Record) → is_none (least record_before (filter (is_of class) rs)) ≡ not (is_realised rs class)
unfolding least_from
least_of_class class [] = refl
least_of_class class (r ∷ rs) = elim (either (is_of class r)) [
  | inl t ↦ rw t (least_there record_before r (filter (is_of class) rs))
  | inr f ↦ rw f (least_of_class class rs)
]

-- a record is chosen for a class exactly where there is one of it
pub choice_lacks : (records : List Record) (pins : List Pin) (class : List ℕ) → is_none (choose_among records pins class) ≡ not (is_realised records class)
unfolding choose_among
choice_lacks records pins class = chosen_of (pin_of pins class) (filter (is_of class) records) ∙ least_of_class class records

-- ---- the first that lacks

some_lacking : (records : List Record) (pins : List Pin) (classes : List (List ℕ)) (class : List ℕ) → first_lacking records classes ≡ Some class
    → list_any (λ c. is_none (choose_among records pins c)) classes ≡ true
some_lacking records pins [] class e = cc
some_lacking records pins (c ∷ cs) class e = elim (either (not (is_realised records c))) [
  | inl t ↦ rw (choice_lacks records pins c ∙ t) refl
  | inr f ↦ rw (choice_lacks records pins c ∙ f) (some_lacking records pins cs class (rw f at e))
]

none_lacking : (records : List Record) (pins : List Pin) (classes : List (List ℕ)) → first_lacking records classes ≡ None
    → list_any (λ c. is_none (choose_among records pins c)) classes ≡ false
none_lacking records pins [] e = refl
none_lacking records pins (c ∷ cs) e = elim (either (not (is_realised records c))) [
  | inl t ↦ absurd (let no : Some c ≡ None = rw t at e in cc)
  | inr f ↦ rw (choice_lacks records pins c ∙ f) (none_lacking records pins cs (rw f at e))
]

-- ---- plans

plan_lacks : (view : List Desk) (pins : List Pin) (classes sources : List (List ℕ)) (class : List ℕ) → first_lacking (visible_records view) classes ≡ Some class
    → closure_plan view pins classes sources ≡ Err NotRealised
unfolding plan_by
plan_lacks view pins classes sources class e = rw (some_lacking (visible_records view) pins classes class e) refl

small_other : (p : Plan) → small_plan p ≢ Err NotRealised
small_other p e = elim (either (nat_lt most_entries (length p.records + length p.sources))) [
  | inl t ↦ (let no : Err ClosureTooLarge ≡ Err NotRealised = rw t at e in cc)
  | inr f ↦ (let no : Ok p ≡ Err NotRealised = rw f at e in cc)
]

plan_has : (view : List Desk) (pins : List Pin) (classes sources : List (List ℕ)) → first_lacking (visible_records view) classes ≡ None
    → closure_plan view pins classes sources ≢ Err NotRealised
unfolding plan_by
plan_has view pins classes sources e refused = small_other _ (rw (none_lacking (visible_records view) pins classes e) at refused)

-- ---- goals

lacks_is : (o : Option (List ℕ)) (class : List ℕ) → lacks_or_ready o ≡ Lacks class → o ≡ Some class
lacks_is None class e = cc
lacks_is (Some c) class e = cc

ready_is : (o : Option (List ℕ)) → lacks_or_ready o ≡ Ready → o ≡ None
ready_is None e = refl
ready_is (Some c) e = cc

module _ (s : Observation) (n : ℕ) (g : Goal) where
  -- the plan of a goal that is so far, as its user sees it, and whose derivation is known so
  abbrev plan_of : Option Admission → Status → Outcome
  plan_of known seen = check WrongState (is_waiting seen) (need UnknownDerivation known (λ a. plan_resolved s n g (resolve_for s a.derivation)))

  lacks_so : (known : Option Admission) (seen : Status) (class : List ℕ) → next_of s known seen ≡ Lacks class → plan_of known seen ≡ Err NotRealised
  lacks_so None Waiting class e = cc
  lacks_so (Some a) Waiting class e =
      let d : Derivation = a.derivation in
      let refused = plan_lacks s.view s.desk.pins (input_classes (known_of s.desk) d) d.sources class (lacks_is _ class e) in
      ap (λ p. plan_resolved s n g (then_do (then_do p served_plan) (resolved_over (input_classes (known_of s.desk) d) d))) refused
  lacks_so known Planned class e = cc
  lacks_so known (Building job) class e = cc
  lacks_so known (Done path) class e = cc
  lacks_so known (Failed why) class e = cc

  ready_so : (a : Admission) (seen : Status) → is_waiting seen ≡ true → next_of s (Some a) seen ≡ Ready → HasInputs s a.derivation
  ready_so a Waiting waits e =
      plan_has s.view s.desk.pins (input_classes (known_of s.desk) a.derivation) a.derivation.sources (ready_is _ e)
  ready_so a Planned waits e = cc
  ready_so a (Building job) waits e = cc
  ready_so a (Done path) waits e = cc
  ready_so a (Failed why) waits e = cc

module _ (s : Observation) (n : ℕ) (o : Outlook) where
  -- it is that of the goal of the number
  there : (found : Option Goal) → then_do (ok_or UnknownGoal found) (λ g. Ok (outlook_of s g)) ≡ Ok o → (g : Goal) × (found ≡ Some g) × (outlook_of s g ≡ o)
  there None is = cc
  there (Some g) is = (g, refl, ok_is (outlook_of s g) o (Ok (outlook_of s g)) refl is)

pub outlooks_foretell : OutlooksForetellPlans
outlooks_foretell s n o is =
    let own = there s n o (goal_at n s.desk.goals) is in
    let next : next_of s (known_at (known_of s.desk) own.0.derivation) (as_seen s.reach own.0.status) ≡ o.next = ap (λ (x : Outlook). x.next) own.2 in
    record {
      lacks = λ class e.
          rw own.1 (lacks_so s n own.0 (known_at (known_of s.desk) own.0.derivation) (as_seen s.reach own.0.status) class (next ∙ e));
      ready = λ e g a here waits known.
          let same : own.0 ≡ g = (let two : Some own.0 ≡ Some g = sym own.1 ∙ here in cc) in
          ready_so s n g a (as_seen s.reach g.status) waits
          (ap (λ k. next_of s k (as_seen s.reach g.status)) (sym known)
          ∙ ap (λ (x : Goal). next_of s (known_at (known_of s.desk) x.derivation) (as_seen s.reach x.status)) (sym same) ∙ next ∙ e);
    }
