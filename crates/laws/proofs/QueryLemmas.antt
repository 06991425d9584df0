-- What a query comes to, and that it leaves the desks of all as they are.
use Rattle.std.proofs.Common.{◌≡◌, ℕ, Bool, true, false, List, refl, Err}
use Rattle.std.specs.Prelude.{bytes_eq, if◌then◌else◌}
use Rattle.model.specs.declared.refusal.Refusal.{Refusal}
use Rattle.model.specs.declared.refusal.Refusal.TheVariants.{UnknownUser, UnknownGoal, NotHeld, NotRealised, ClosureTooLarge, RewriteRefused}
use Rattle.model.specs.Worlds.{Setup, World, is_user}
use Rattle.model.specs.Events.{Request, Fetch, Closure, Status, is_query}
use Rattle.model.specs.Replies as replies
use Rattle.model.specs.Replies.{Reply, is_failure}
use Rattle.model.specs.Goals.{as_seen}
use Rattle.model.specs.Outcomes.{reaches, Observation, observation_of, Outcome, becomes, desk_after}
use Rattle.model.specs.Steps.{outcome}
use Rattle.model.specs.Laws.{QueriesChangeNothing}
use Rattle.model.proofs.BoolLemmas.{same_bytes}
use Rattle.laws.proofs.OutcomeLemmas.{checked}
use Rattle.laws.proofs.SourceRequestLemmas.{fetch_cases}
use Rattle.laws.proofs.ClosureRequestLemmas.{closure_cases}
use Rattle.laws.proofs.GoalRequestLemmas.{status_cases}

-- a query is answered, or refused, and its user's desk stays as it is; neither the reply nor the refusal is a failure of the store
pub query_cases : (P : Outcome → Type 0) (setup : Setup) (s : Observation) (request : Request) → is_query request ≡ true
    → ((reply : Reply) → is_failure reply ≡ false → P (becomes s.desk reply))
    → ((why : Refusal) → is_failure (replies.Refused why) ≡ false → P (Err why))
    → P (outcome setup s request)
unfolding outcome
query_cases P setup s (Fetch path) asks told refused = fetch_cases P s.desk path (λ tree held. told (replies.Tree tree) refl) (λ absent. refused NotHeld refl)
query_cases P setup s (Closure class) asks told refused =
    closure_cases P s class (λ entries. told (replies.Closure entries) refl)
    (refused NotRealised refl) (refused ClosureTooLarge refl) (λ why. refused (RewriteRefused why) refl)
query_cases P setup s (Status n) asks told refused =
    status_cases P s n (λ g there. told (replies.Status (as_seen s.reach g.status)) refl) (λ absent. refused UnknownGoal refl)
query_cases P setup s request asks told refused = absurd (cc)

-- an outcome for a user leaves each desk of a world, whom its user reaches or not
abbrev Leaves : Setup → World → List ℕ → Outcome → Type 0
Leaves setup w u o = (x : List ℕ) (reached : Bool) → desk_after setup u o x reached (w x) ≡ w x

-- one that gives a user his own desk does
told : (setup : Setup) (w : World) (u : List ℕ) (reply : Reply) → Leaves setup w u (becomes (w u) reply)
told setup w u reply x reached = own (bytes_eq x u) refl
  where
    own : (b : Bool) → bytes_eq x u ≡ b → (if b then w u else w x) ≡ w x
    own true is = rw (same_bytes x u is) refl
    own false is = refl

pub no_change : QueriesChangeNothing
no_change setup w e asks i x =
    checked (Leaves setup w e.actor) UnknownUser (is_user setup e.actor) (outcome setup (observation_of setup w e.actor) e.request)
    (λ known. query_cases (Leaves setup w e.actor) setup (observation_of setup w e.actor) e.request asks
    (λ reply own. told setup w e.actor reply) (λ why own y reached. refl))
    (λ stranger y reached. refl) x (reaches setup w x e.actor) i
