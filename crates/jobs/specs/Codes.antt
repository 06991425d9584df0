-- The codes by which proofs tell goals and their jobs apart.
use Rattle.std.specs.Prelude.{◌≡◌, ℕ, ◌⊎◌, List, [], ◌∷◌, get_or, Option, None, Some, refl}
use Rattle.std.proofs.Common.{inl, inr}
use Rattle.std.specs.Coded.{Coded, code_by, coded×, coded⊎, coded_ℕ, coded_list, coded_option}
use Rattle.model.specs.declared.refusal.Refusal.{Refusal}
use Rattle.model.specs.declared.refusal.Refusal.TheVariants.{UnknownUser, Quota, BadUsers, BadName, TooLarge, BadNar, BadPath, BadLine, BadDerivation, MissingInput, RankTooHigh, UnknownDerivation, UnknownGoal, WrongState, NotRealised, RewriteRefused, NotHeld, ClosureTooLarge, InUse, BuilderFailed, BadOutput, InputFault, OutputFault, Memory, Clash, Stopped}
use Rattle.model.specs.declared.refusal.RewriteFault.TheVariants.{InName, Overlap, Accidental}
use Rattle.model.specs.Worlds.{Resolved, Job, Status, Waiting, Planned, Building, Done, Failed, Goal}
use Rattle.records.specs.Codes.{resolved_code}
use Rattle.events.specs.Codes.{job_code}
use Rattle.jobs.specs.Owned.{Owned, OwnedByAll}

abbrev pub refusal_code : Coded Refusal
refusal_code = code_by ℕ coded_ℕ place_of refusal_at refused_back
  where
    -- the refusals, each at its place
    refusals : List Refusal
    refusals =
        Memory ∷ UnknownUser ∷ Quota ∷ BadUsers ∷ BadName ∷ TooLarge ∷ BadNar ∷ BadPath ∷ BadLine ∷ BadDerivation ∷ MissingInput ∷ RankTooHigh
        ∷ UnknownDerivation ∷ UnknownGoal ∷ WrongState ∷ NotRealised ∷ RewriteRefused InName ∷ RewriteRefused Overlap ∷ RewriteRefused Accidental
        ∷ NotHeld ∷ ClosureTooLarge ∷ InUse ∷ BuilderFailed ∷ BadOutput ∷ InputFault ∷ OutputFault ∷ Clash ∷ Stopped ∷ []

    refusal_at : ℕ → Refusal
    refusal_at place = get_or refusals place Memory

    place_of : Refusal → ℕ
    place_of Memory = 0
    place_of UnknownUser = 1
    place_of Quota = 2
    place_of BadUsers = 3
    place_of BadName = 4
    place_of TooLarge = 5
    place_of BadNar = 6
    place_of BadPath = 7
    place_of BadLine = 8
    place_of BadDerivation = 9
    place_of MissingInput = 10
    place_of RankTooHigh = 11
    place_of UnknownDerivation = 12
    place_of UnknownGoal = 13
    place_of WrongState = 14
    place_of NotRealised = 15
    place_of (RewriteRefused InName) = 16
    place_of (RewriteRefused Overlap) = 17
    place_of (RewriteRefused Accidental) = 18
    place_of NotHeld = 19
    place_of ClosureTooLarge = 20
    place_of InUse = 21
    place_of BuilderFailed = 22
    place_of BadOutput = 23
    place_of InputFault = 24
    place_of OutputFault = 25
    place_of Clash = 26
    place_of Stopped = 27

    refused_back : (why : Refusal) → refusal_at (place_of why) ≡ why
    refused_back Memory = refl
    refused_back UnknownUser = refl
    refused_back Quota = refl
    refused_back BadUsers = refl
    refused_back BadName = refl
    refused_back TooLarge = refl
    refused_back BadNar = refl
    refused_back BadPath = refl
    refused_back BadLine = refl
    refused_back BadDerivation = refl
    refused_back MissingInput = refl
    refused_back RankTooHigh = refl
    refused_back UnknownDerivation = refl
    refused_back UnknownGoal = refl
    refused_back WrongState = refl
    refused_back NotRealised = refl
    refused_back (RewriteRefused InName) = refl
    refused_back (RewriteRefused Overlap) = refl
    refused_back (RewriteRefused Accidental) = refl
    refused_back NotHeld = refl
    refused_back ClosureTooLarge = refl
    refused_back InUse = refl
    refused_back BuilderFailed = refl
    refused_back BadOutput = refl
    refused_back InputFault = refl
    refused_back OutputFault = refl
    refused_back Clash = refl
    refused_back Stopped = refl

abbrev pub status_code : Coded Status
status_code = code_by (Option Job ⊎ (Option (List ℕ) ⊎ Refusal))
    (coded⊎ (coded_option job_code) (coded⊎ (coded_option (coded_list coded_ℕ)) refusal_code)) parts_of made_of back
  where
    parts_of : Status → Option Job ⊎ (Option (List ℕ) ⊎ Refusal)
    parts_of Waiting = inl None
    parts_of Planned = inr (inl None)
    parts_of (Building job) = inl (Some job)
    parts_of (Done path) = inr (inl (Some path))
    parts_of (Failed why) = inr (inr why)

    made_of : Option Job ⊎ (Option (List ℕ) ⊎ Refusal) → Status
    made_of (inl None) = Waiting
    made_of (inl (Some job)) = Building job
    made_of (inr (inl None)) = Planned
    made_of (inr (inl (Some path))) = Done path
    made_of (inr (inr why)) = Failed why

    back : (s : Status) → made_of (parts_of s) ≡ s
    back Waiting = refl
    back Planned = refl
    back (Building job) = refl
    back (Done path) = refl
    back (Failed why) = refl

abbrev pub goal_code : Coded Goal
goal_code =
    code_by (List ℕ × (Option Resolved × Status)) (coded× (coded_list coded_ℕ) (coded× (coded_option resolved_code) status_code))
    (λ g. (g.derivation, (g.resolved, g.status))) (λ p. record { derivation = p.0; resolved = p.1.0; status = p.1.1 }) (λ _. refl)

abbrev pub owned_code : Coded Owned
owned_code =
    code_by (List ℕ × List Goal) (coded× (coded_list coded_ℕ) (coded_list goal_code)) (λ o. (o.owner, o.goals))
    (λ p. record { owner = p.0; goals = p.1 }) (λ _. refl)

abbrev pub owned_by_all_code : Coded OwnedByAll
owned_by_all_code =
    code_by (List (List ℕ) × List (List Goal)) (coded× (coded_list (coded_list coded_ℕ)) (coded_list (coded_list goal_code)))
    (λ o. (o.users, o.goals)) (λ p. record { users = p.0; goals = p.1 }) (λ _. refl)
