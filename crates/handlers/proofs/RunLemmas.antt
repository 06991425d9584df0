-- What handlers promise of their own fields, said of all parts; and the facts that a store keeps afterwards.
use Rattle.std.proofs.Common.{◌≡◌, ℕ, ◌<◌, get_or, Bool, List, length, sym, ◌∙◌, ap, subst, Some, Result}
use Rattle.std.specs.Prelude.{slice_set}
use Rattle.std.specs.Vec.{with_items}
use Rattle.std.proofs.lemmas.List.{set-get_or, with_items_is}
use Rattle.model.specs.declared.refusal.Refusal.{Refusal}
use Rattle.model.specs.Worlds.{Source, Setup, Goal}
use Rattle.model.specs.Events.{Request}
use Rattle.events.specs.declared.reply.Reply.{Reply}
use Rattle.trust.specs.Naming.{place_of, name_at}
use Rattle.trust.proofs.PlaceLemmas.{place_found}
use Rattle.realise.specs.Holdings.{Holdings}
use Rattle.handlers.specs.declared.state.State.{State}
use Rattle.handlers.specs.Parts.{Parts, goals_of}
use Rattle.handlers.specs.Handling.{IsHandled, IsHandledByAll, IsHandledAtDesk, IsHandledByDesk, IsHandledByTrust, IsReadAtPlace}
use Rattle.handlers.specs.Handling.{IsHandledByObservation, IsHandledAtPlace, IsHandledByGoals, IsHandledByAllGoals}
use Rattle.trust.proofs.UsersLemmas.{distinct_users}
use Rattle.handlers.proofs.HandlingLemmas.{Asks, at_desk, by_desk, by_reading, by_observation, at_place, by_goals, parts_with}
use Rattle.handlers.specs.Runs.{IsRun}

asks_of : (p : Parts) (actor : List ℕ) (i : ℕ) → IsRun p → place_of p.setup.users actor ≡ Some i → Asks p actor i
asks_of p actor i run found = record {
  listed = run.listed;
  within = run.within;
  paired = run.paired;
  sound = run.sound;
  with_goals = run.with_goals;
  goals_sound = run.goals_sound;
  found = found;
}

-- a store keeps its facts under whatever a handler promises
pub still_run : (old new : Parts) (i : ℕ) (request : Request) (result : Result Reply Refusal) → IsRun old → i < length old.setup.users
    → IsHandledByAll old i request result new → IsRun new
still_run old new i request result run below handles =
    let handled : IsHandled old (record { actor = name_at old.setup.users i; request = request }) result new =
    handles (name_at old.setup.users i) (place_found old.setup.users i (distinct_users old.setup.users run.listed) below) in
    let users : old.setup.users ≡ new.setup.users = sym (ap (λ (s : Setup). s.users) handled.setup) in
    let count : length old.setup.users ≡ length new.setup.users = ap (λ (us : List (List ℕ)). length us) users in
    record {
      paired = handled.paired ∙ run.paired ∙ count;
      listed = rw (← users) run.listed;
      within = rw (← users) handled.trust;
      sound = rw handled.setup handled.sound;
      with_goals = handled.with_goals ∙ run.with_goals ∙ count;
      goals_sound = handled.goals_sound;
      supported = handled.supported run.supported;
    }

-- parts with another desk at a place, and another table
abbrev pub with_desk : Parts → ℕ → List Source → Holdings → Parts
with_desk p i table now = record p { table = table; desks = slice_set p.desks i now }

-- a handler of one desk and the table
pub at_own_desk : (p : Parts) (i : ℕ) (d : Holdings) (request : Request) (result : Result Reply Refusal) (table : List Source) (now : Holdings)
    → IsRun p → d ≡ get_or p.desks i d → IsHandledAtDesk p.setup.charge p.table d request result table now
    → IsHandledByAll p i request result (with_desk p i table now)
at_own_desk p i d request result table now run here handles actor found =
    at_desk p (record { actor = actor; request = request }) i (asks_of p actor i run found) d table now result
    (subst (λ (x : Holdings). IsHandledAtDesk p.setup.charge p.table x request result table now) here handles)

-- a handler of one desk
pub by_own_desk : (p : Parts) (i : ℕ) (d : Holdings) (request : Request) (result : Result Reply Refusal) (now : Holdings)
    → IsRun p → d ≡ get_or p.desks i d → IsHandledByDesk p.table d request result now
    → IsHandledByAll p i request result (with_desk p i p.table now)
by_own_desk p i d request result now run here handles actor found =
    by_desk p (record { actor = actor; request = request }) i (asks_of p actor i run found) d now result
    (subst (λ (x : Holdings). IsHandledByDesk p.table x request result now) here handles)

-- a handler of whom the user trusts
pub by_own_trust : (p : Parts) (i : ℕ) (request : Request) (result : Result Reply Refusal) (now : ℕ → ℕ → Bool)
    → IsRun p → IsHandledByTrust p.setup.users i p.trust request result now
    → IsHandledByAll p i request result (record p { trust = now })
by_own_trust p i request result now run handles actor found =
    handles p.setup.charge p.goals p.table p.desks actor found run.paired run.sound run.goals_sound run.within

-- a handler that reads
pub by_own_reading : (p : Parts) (i : ℕ) (request : Request) (result : Result Reply Refusal)
    → IsRun p → IsReadAtPlace p.setup.users p.trust p.goals i request result
    → IsHandledByAll p i request result p
by_own_reading p i request result run handles actor found =
    by_reading p (record { actor = actor; request = request }) i (asks_of p actor i run found) result handles

-- a handler that reads what the user sees, and changes the table and his desk
pub by_own_observation : (p : Parts) (i : ℕ) (request : Request) (result : Result Reply Refusal) (table : List Source) (now : Holdings)
    → IsRun p → IsHandledByObservation p.trust p.setup.charge p.table p.desks i request result table now
    → IsHandledByAll p i request result (with_desk p i table now)
by_own_observation p i request result table now run handles actor found =
    by_observation p (record { actor = actor; request = request }) i (asks_of p actor i run found) table now result handles

-- a handler that changes the user's goals, the table and his desk
pub at_own_place : (p : Parts) (i : ℕ) (request : Request) (result : Result Reply Refusal) (changed : List Goal) (table : List Source) (now : Holdings)
    → IsRun p → IsHandledAtPlace p.setup.users p.setup.charge p.trust p.goals p.table p.desks i request result changed table now
    → IsHandledByAll p i request result (parts_with p i changed table now)
at_own_place p i request result changed table now run handles actor found =
    at_place p (record { actor = actor; request = request }) i (asks_of p actor i run found) changed table now result handles

-- a handler that reads his desk, and changes his goals
pub by_own_goals : (p : Parts) (i : ℕ) (d : Holdings) (request : Request) (result : Result Reply Refusal) (changed : List Goal)
    → IsRun p → d ≡ get_or p.desks i d → IsHandledByGoals d (goals_of p.goals i) request result changed
    → IsHandledByAll p i request result (record p { goals = slice_set p.goals i changed })
by_own_goals p i d request result changed run here handles actor found =
    subst (λ (ds : List Holdings). IsHandled p (record { actor = actor; request = request }) result (record p { goals = slice_set p.goals i changed; desks = ds }))
    (set-get_or p.desks i d)
    (by_goals p (record { actor = actor; request = request }) i (asks_of p actor i run found) d changed result
    (subst (λ (x : Holdings). IsHandledByGoals x (goals_of p.goals i) request result changed) here handles))

-- a handler that changes the goals of all
pub by_all_goals : (p : Parts) (i : ℕ) (request : Request) (result : Result Reply Refusal) (now : List (List Goal))
    → IsRun p → IsHandledByAllGoals p.setup.users i p.trust p.goals request result now
    → IsHandledByAll p i request result (record p { goals = now })
by_all_goals p i request result now run handles actor found =
    handles p.setup.charge p.table p.desks actor found run.paired run.sound run.goals_sound run.within

-- the same where the new goals and desks are said by an equation
pub at_place_of : (p : Parts) (i : ℕ) (request : Request) (result : Result Reply Refusal) (changed : List Goal) (table : List Source) (now : Holdings)
    (goals : List (List Goal)) (desks : List Holdings)
    → IsRun p → goals ≡ slice_set p.goals i changed → desks ≡ slice_set p.desks i now
    → IsHandledAtPlace p.setup.users p.setup.charge p.trust p.goals p.table p.desks i request result changed table now
    → IsHandledByAll p i request result (record p { goals = goals; table = table; desks = desks })
at_place_of p i request result changed table now goals desks run own here handles =
    rw (own, here) (at_own_place p i request result changed table now run handles)

pub by_observation_of : (p : Parts) (i : ℕ) (request : Request) (result : Result Reply Refusal) (table : List Source) (now : Holdings) (desks : List Holdings)
    → IsRun p → desks ≡ slice_set p.desks i now
    → IsHandledByObservation p.trust p.setup.charge p.table p.desks i request result table now
    → IsHandledByAll p i request result (record p { table = table; desks = desks })
by_observation_of p i request result table now desks run here handles =
    rw here (by_own_observation p i request result table now run handles)

pub by_goals_of : (p : Parts) (i : ℕ) (d : Holdings) (request : Request) (result : Result Reply Refusal) (changed : List Goal) (goals : List (List Goal))
    → IsRun p → goals ≡ slice_set p.goals i changed → d ≡ get_or p.desks i d → IsHandledByGoals d (goals_of p.goals i) request result changed
    → IsHandledByAll p i request result (record p { goals = goals })
by_goals_of p i d request result changed goals run own here handles =
    rw own (by_own_goals p i d request result changed run here handles)

-- desks that a state lent, as a slice, come back as its desks
pub lent_back : (s : State) (new : List Holdings) → length new ≡ length s.desks.items → (with_items s.desks new).items ≡ new
lent_back s new paired = with_items_is s.desks new (paired ∙ sym s.desks.ok.0)
