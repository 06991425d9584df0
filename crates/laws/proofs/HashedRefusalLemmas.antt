-- Where an event is refused for a reason that is found before any path is made, nothing is hashed.
use Rattle.std.proofs.Common.{◌≡◌, ℕ, true, false, inl, inr, refl, sym, ◌∙◌, ap, subst, List, [], ◌∷◌, Err}
use Rattle.std.specs.Prelude.{All}
use Rattle.std.proofs.lemmas.Bool.{true≢false}
use Rattle.std.proofs.lemmas.List.Elements.{All-head}
use Rattle.model.specs.declared.refusal.Refusal.{Refusal}
use Rattle.model.specs.declared.refusal.Refusal.TheVariants.{Quota, RewriteRefused}
use Rattle.model.specs.declared.refusal.RewriteFault.TheVariants.{Accidental, Overlap}
use Rattle.model.specs.Worlds.{Setup, World, Desk, Pin, Label, Job, Goal, Status, Waiting, Planned, Building, Done, Failed}
use Rattle.model.specs.Archives.{Tree}
use Rattle.model.specs.Classes.{Admission, Known}
use Rattle.model.specs.Derivations.{Derivation}
use Rattle.model.specs.Goals.{is_in}
use Rattle.model.specs.Closures.{served_plan}
use Rattle.model.specs.Events.{Request, AddSource, AddDerivation, Offer, Closure, Take, Plan, Event}
use Rattle.model.specs.Replies as replies
use Rattle.model.specs.Replies.{Refused}
use Rattle.model.specs.Outcomes.{reaches, Observation, observation_of, reply_of, desk_after}
use Rattle.model.specs.Steps.{outcome_of, reply_to, after}
use Rattle.model.specs.HashedTexts.{texts_of_event}
use Rattle.model.specs.HashedValues.{IsOutputRefused, OutputNotTrue, NoRoomForOutput, IsDerivationRefused, NotAdmitted, NoRoomForDerivation, IsClosureRefused, IsTakeRefused, TakeRefused, NoRoomForEntries, IsPlanRefused, PlanRefused, TextRefused, IsRefusedWith, IsGivenBy, Says, IsOutputPath, IsValueOf, Given, Ended, NotGiven, IsHashedFor, comes_after_path, OtherRefusalsHashNothing}
use Rattle.laws.proofs.ServedLemmas.{some_same}
use Rattle.laws.proofs.DerivationRequestLemmas.{admit_refusals}
use Rattle.laws.proofs.ClosureRequestLemmas.{served_plan_refused, refused_as}
use Rattle.laws.proofs.HashedValueLemmas.{each_text}

-- ---- the refusals with which a path is made

abbrev Late : Refusal → Type 0
Late why = comes_after_path why ≡ true

late_if : (why is : Refusal) → why ≡ is → Late is → Late why
late_if why is e late = subst Late (sym e) late

output_late : (under : List ℕ) (labels : List Label) (a : Admission) (tree : Tree) (why : Refusal) (path : List ℕ)
    → IsOutputRefused under labels a tree why path → Late why
output_late under labels a tree why path (OutputNotTrue is settles for_path) = late_if why (RewriteRefused Accidental) is refl
output_late under labels a tree why path (NoRoomForOutput s is settles same) = late_if why Quota is refl

derivation_late : (known : Known) (text : List ℕ) (why : Refusal) (path : List ℕ) → IsDerivationRefused known text why path → Late why
derivation_late known text why path (NotAdmitted d read new refused is) = admit_refusals Late refl refl known d why refused
derivation_late known text why path (NoRoomForDerivation d a is read new admitted own) = late_if why Quota is refl

closure_late : (view : List Desk) (pins : List Pin) (classes sources : List (List ℕ)) (why : Refusal) (path : List ℕ)
    → IsClosureRefused view pins classes sources why path → Late why
closure_late view pins classes sources why path is = refused_as Late (served_plan is.plan) why (served_plan_refused Late refl (λ fault. refl) is.plan) is.refused

take_late : (view : List Desk) (pins : List Pin) (class : List ℕ) (why : Refusal) (path : List ℕ) → IsTakeRefused view pins class why path → Late why
take_late view pins class why path (TakeRefused is) = closure_late view pins (class ∷ []) [] why path is
take_late view pins class why path (NoRoomForEntries entries is given own) = late_if why Quota is refl

plan_late : (view : List Desk) (pins : List Pin) (known : Known) (d : Derivation) (why : Refusal) (path : List ℕ)
    → IsPlanRefused view pins known d why path → Late why
plan_late view pins known d why path (PlanRefused is) = closure_late view pins _ d.sources why path is
plan_late view pins known d why path (TextRefused entries is given own refused) = late_if why (RewriteRefused Overlap) is refl

request_late : (s : Observation) (r : Request) (why : Refusal) (path : List ℕ) → IsRefusedWith s r why path → Late why
request_late s (AddSource name tree) why path is = late_if why Quota is.0 refl
request_late s (AddDerivation text) why path is = derivation_late _ text why path is
request_late s (Offer derivation tree) why path is = output_late _ _ is.admission tree why path is.output
request_late s (Closure class) why path is = closure_late _ _ (class ∷ []) [] why path is
request_late s (Take class) why path is = take_late _ _ class why path is
request_late s (Plan n) why path is = plan_late _ _ _ is.admission.derivation why path is.plan
request_late s r why path is = absurd is

-- ---- an event that is refused

not_done : (job : Job) (path : List ℕ) (s : Status) → is_in job s ≡ true → s ≡ Done path → ⊥
not_done job path Waiting built e = absurd (cc)
not_done job path Planned built e = absurd (cc)
not_done job path (Building other) built e = absurd (cc)
not_done job path (Done other) built e = absurd (cc)
not_done job path (Failed why) built e = absurd (cc)

not_failed : (job : Job) (why : Refusal) (s : Status) → is_in job s ≡ true → s ≡ Failed why → ⊥
not_failed job why Waiting built e = absurd (cc)
not_failed job why Planned built e = absurd (cc)
not_failed job why (Building other) built e = absurd (cc)
not_failed job why (Done other) built e = absurd (cc)
not_failed job why (Failed other) built e = absurd (cc)

-- a goal that stays as it is was not ended
not_ended : (job : Job) (bytes : List ℕ) (d : Desk) (path : List ℕ) → IsOutputPath job bytes d d path → ⊥
not_ended job bytes d path is =
    let same : is.goal ≡ is.ended = some_same is.goal is.ended (sym is.there ∙ is.later) in
    let built : is_in job is.ended.status ≡ true = subst (λ (g : Goal). is_in job g.status ≡ true) same is.built in
    elim is.status [ inl done ↦ not_done job path is.ended.status built done | inr failed ↦ not_failed job failed.why is.ended.status built failed.failed ]

module _ (setup : Setup) (w : World) (e : Event) (why : Refusal) (refused : outcome_of setup w e ≡ Err why) where
  told : reply_to setup w e ≡ Refused why
  told = ap reply_of refused

  stays : (x : List ℕ) → after setup w e x ≡ w x
  stays x = ap (λ o. desk_after setup e.actor o x (reaches setup w x e.actor) (w x)) refused

  none_given : (s : Observation) (r : Request) (later : Desk) (path : List ℕ) → IsGivenBy s r (Refused why) later path → ⊥
  none_given s (AddSource name tree) later path is = absurd (cc)
  none_given s (AddDerivation text) later path is = (let no = is.says in absurd (cc))
  none_given s (Offer derivation tree) later path is = absurd (cc)
  none_given s (Closure class) later path is = (let no = is.says in absurd (cc))
  none_given s (Take class) later path is = (let no = is.says in absurd (cc))
  none_given s (Plan n) later path is = (let no = is.says in absurd (cc))
  none_given s r later path is = is

  says_late : (other : Refusal) (path : List ℕ) → Says (reply_to setup w e) other
      → IsRefusedWith (observation_of setup w e.actor) e.request other path → Late why
  says_late other path says is = elim says [
    | inl t ↦
        let both : Refused why ≡ Refused other = sym told ∙ t in
        let same : why ≡ other = cc in
        late_if why other same (request_late (observation_of setup w e.actor) e.request other path is)
    | inr f ↦ (let no : Refused why ≡ replies.Status (Failed other) = sym told ∙ f in absurd (cc))
  ]

  value_late : (path : List ℕ) → IsValueOf setup w e path → Late why
  value_late path (Given is) =
      absurd (none_given (observation_of setup w e.actor) e.request (after setup w e e.actor) path
      (subst (λ r. IsGivenBy (observation_of setup w e.actor) e.request r (after setup w e e.actor) path) told is))
  value_late path (Ended n bytes x asked is) =
      absurd (not_ended (record { leader = e.actor; number = n }) bytes (w x) path (subst (λ d. IsOutputPath (record { leader = e.actor; number = n }) bytes (w x) d path) (stays x) is))
  value_late path (NotGiven other says is) = says_late other path says is

  texts_late : (xs ys : List (List ℕ)) → comes_after_path why ≡ false → All (IsHashedFor (IsValueOf setup w e) xs) ys → ys ≡ []
  texts_late xs [] early all = refl
  texts_late xs (y ∷ ys) early all =
      let h = All-head (IsHashedFor (IsValueOf setup w e) xs) y ys all in
      absurd (true≢false (sym (value_late _ h.value) ∙ early))

pub others_hash_nothing : OtherRefusalsHashNothing
others_hash_nothing setup w e why refused early = texts_late setup w e why refused (texts_of_event setup w e) (texts_of_event setup w e) early (each_text setup w e)
