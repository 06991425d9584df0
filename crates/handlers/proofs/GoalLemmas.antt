-- The goals of users, and the trees that they are built from.
use Rattle.std.proofs.Common.{◌≡◌, ◌≢◌, ℕ, zero, suc, ◌<◌, Bool, true, List, [], ◌∷◌, ◌++◌, length, get_or, refl, sym, ◌∙◌, ap, Some, None}
use Rattle.std.specs.Prelude.{All, map, slice_set}
use Rattle.std.proofs.lemmas.List.{get_or-set_same, get_or-set_other, set-get_or}
use Rattle.std.proofs.lemmas.List.Elements.{All-nil, All-cons, All-head, All-tail, All-get_or, All-push, All-weaker}
use Rattle.std.proofs.lemmas.Option.{slice_get_within, get_or_from_slice_get}
use Rattle.model.specs.Worlds.{Source, Entry, path_of_entry, Resolved, Goal}
use Rattle.model.specs.Goals.{goal_at, new_goal}
use Rattle.trust.specs.Naming.{trusted_at}
use Rattle.store.specs.Stored.{Extends}
use Rattle.model.specs.KeptClosures.{is_planned}
use Rattle.handlers.specs.Sound.{Beside, IsStored, IsResolvedIn, AreGoalsSound}
use Rattle.handlers.specs.Parts.{goals_of, beside_at}

-- ---- a later table

stored_kept : (old new : List Source) → Extends old new → (e : Entry) → IsStored old e → IsStored new e
stored_kept old new later e there = later (path_of_entry e) (rw there refl) ∙ there

resolved_kept : (old new : List Source) → Extends old new → (g : Goal) → IsResolvedIn old g → IsResolvedIn new g
resolved_kept old new later g sound r is =
    let own = sound r is in
    (own.0, λ needs. All-weaker (IsStored old) (IsStored new) (stored_kept old new later) r.closure (own.1 needs))

-- sound goals stay so
pub goals_kept : (old new : List Source) → Extends old new → (goals : List Goal) → AreGoalsSound old goals → AreGoalsSound new goals
goals_kept old new later goals sound =
    All-weaker (IsResolvedIn old) (IsResolvedIn new) (resolved_kept old new later) goals sound

pub all_goals_kept : (old new : List Source) → Extends old new → (goals : List (List Goal)) → All (AreGoalsSound old) goals → All (AreGoalsSound new) goals
all_goals_kept old new later goals sound = All-weaker (AreGoalsSound old) (AreGoalsSound new) (goals_kept old new later) goals sound

-- ---- one user's goals

-- those at a place of the list, or past its end
pub goals_sound_at : (table : List Source) (goals : List (List Goal)) (i : ℕ) → All (AreGoalsSound table) goals → AreGoalsSound table (goals_of goals i)
goals_sound_at table [] i sound = All-nil (IsResolvedIn table)
goals_sound_at table (first ∷ rest) zero sound = All-head (AreGoalsSound table) first rest sound
goals_sound_at table (first ∷ rest) (suc i) sound = goals_sound_at table rest i (All-tail (AreGoalsSound table) first rest sound)

-- what a goal may yet be built from is stored
pub goal_stored : (table : List Source) (goals : List Goal) (n : ℕ) (g : Goal) (r : Resolved) → AreGoalsSound table goals → goal_at n goals ≡ Some g
    → is_planned g.status ≡ true → g.resolved ≡ Some r → All (IsStored table) r.closure
goal_stored table goals zero g r sound there needs resolved = cc
goal_stored table goals (suc n) g r sound there needs resolved =
    let at : get_or goals n g ≡ g = get_or_from_slice_get goals n g g there in
    let own : IsResolvedIn table (get_or goals n g) =
    All-get_or (IsResolvedIn table) goals n g (slice_get_within goals n g there) sound in
    (own r (ap (λ (x : Goal). x.resolved) at ∙ resolved)).1 (ap (λ (x : Goal). is_planned x.status) at ∙ needs)

-- ---- users who have no goals yet

abbrev pub none_of : {X : Type 0} → List X → List (List Goal)
none_of users = map (λ _. []) users

pub no_goals : {X : Type 0} (users : List X) (k : ℕ) → goals_of (none_of users) k ≡ []
no_goals [] k = refl
no_goals (u ∷ users) zero = refl
no_goals (u ∷ users) (suc k) = no_goals users k

pub none_counted : {X : Type 0} (users : List X) → length (none_of users) ≡ length users
none_counted [] = refl
none_counted (u ∷ users) = ap (λ n. suc n) (none_counted users)

pub none_sound : {X : Type 0} (table : List Source) (users : List X) → All (AreGoalsSound table) (none_of users)
none_sound table [] = All-nil (AreGoalsSound table)
none_sound table (u ∷ users) =
    All-cons (AreGoalsSound table) [] (none_of users) (All-nil (IsResolvedIn table)) (none_sound table users)

-- ---- the goals of the user at a place are others

-- what others have beside their desks is the same
pub beside_elsewhere : (users : List (List ℕ)) (trust : ℕ → ℕ → Bool) (goals : List (List Goal)) (i : ℕ) (changed : List Goal) (k : ℕ) → k ≢ i
    → beside_at users trust (slice_set goals i changed) k ≡ beside_at users trust goals k
beside_elsewhere users trust goals i changed k apart =
    let B : List Goal → Beside = λ own. record { trusted = trusted_at users trust k; goals = own } in
    ap B (get_or-set_other goals i k changed [] apart)

pub beside_here : (users : List (List ℕ)) (trust : ℕ → ℕ → Bool) (goals : List (List Goal)) (i : ℕ) (changed : List Goal) → i < length goals
    → record { trusted = trusted_at users trust i; goals = changed } ≡ beside_at users trust (slice_set goals i changed) i
beside_here users trust goals i changed below =
    let B : List Goal → Beside = λ own. record { trusted = trusted_at users trust i; goals = own } in
    ap B (sym (get_or-set_same goals i changed [] below))

-- they are what they were
pub goals_put_back : (goals : List (List Goal)) (i : ℕ) (changed : List Goal) → changed ≡ goals_of goals i → slice_set goals i changed ≡ goals
goals_put_back goals i changed same = ap (λ own. slice_set goals i own) same ∙ set-get_or goals i []

-- ---- goals that are not planned yet

-- one more
pub goals_more : (table : List Source) (goals : List Goal) (path : List ℕ) → AreGoalsSound table goals → AreGoalsSound table (goals ++ new_goal path ∷ [])
goals_more table goals path sound = All-push (IsResolvedIn table) goals (new_goal path) sound (λ r resolved. absurd (none_is resolved))
  where
    none_is : {r : Resolved} → None ≡ Some r → ⊥
    none_is e = cc
