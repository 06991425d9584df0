-- A core that takes an event in the place of another one that is the same.
use Rattle.std.proofs.Common.{◌≡◌, ℕ, Bool, List, true, false, refl, sym, ◌∙◌, subst, Result, Ok, Err}
use Rattle.std.specs.Prelude.{OnOk, MatchBool, ◌||◌}
use Rattle.std.specs.Global.{Global}
use Rattle.std.specs.declared.sync.Arc.{Arc}
use Rattle.model.specs.Worlds.{Setup, World, Source}
use Rattle.model.specs.Events.{Event, Request, Fetch, Closure, Status, is_query}
use Rattle.model.specs.Laws.{QueriesChangeNothing}
use Rattle.model.specs.Replies.{Reply, Refused, is_memory, is_clash, is_refused}
use Rattle.model.specs.Steps.{after}
use Rattle.handlers.specs.Parts.{IsStep, stored_after}
use Rattle.handlers.specs.Stored.{stored_by}
use Rattle.store.specs.Stored.{put_all}
use Rattle.events.specs.Terms.{reply_of}
use Rattle.schedule.specs.declared.state.Core.{Core}
use Rattle.schedule.specs.Standing.{world_of, setup_of, stored_in, HasHashed, IsUnchanged}
use Rattle.schedule.specs.Stepping.{IsCoreStep, HasStepped}
use Rattle.schedule.proofs.RunLemmas.{hashed_kept}
use Rattle.schedule.proofs.HeldLemmas.{swept_alike}
use Rattle.history.specs.Histories.{event_in}
use Rattle.std.specs.Arc.{arc_value}
use Rattle.cores.specs.declared.lag.Lag.{Lag}
use Rattle.cores.specs.declared.lag.Lag.TheVariants.{Nothing, Row, Sweep, Unknown}
use Rattle.cores.specs.Turns.{Behind, HasTaken, IsSwept, CatchesUp, changes_nothing}
use Rattle.history.specs.declared.row.Row as rows

-- ---- nothing changed

pub unchanged : (core : Core) → IsUnchanged core core
unchanged core = record { setup = refl; world = refl; stored = refl }

pub unchanged_then : (a b c : Core) → IsUnchanged a b → IsUnchanged b c → IsUnchanged a c
unchanged_then a b c first second = record {
  setup = second.setup ∙ first.setup;
  world = second.world ∙ first.world;
  stored = second.stored ∙ first.stored;
}

pub unchanged_back : (a b : Core) → IsUnchanged a b → IsUnchanged b a
unchanged_back a b same = record { setup = sym same.setup; world = sym same.world; stored = sym same.stored }

-- a core that is the same has the texts that the other one has
pub has_hashed : (texts : List (List ℕ)) (a b : Core) → IsUnchanged a b → HasHashed texts a → HasHashed texts b
has_hashed texts a b same hashed = hashed_kept texts a b same.stored hashed

-- ---- a step

-- what one core promises of a step, another one that is the same does
pub step_from : (a b c : Core) (event : Event) (reply : Reply) → IsUnchanged a b → IsCoreStep b event reply c → IsCoreStep a event reply c
step_from a b c event reply same step = record {
  step = λ some no_clash.
      subst (λ (x : Setup × World). IsStep x.0 x.1 event reply (world_of c)) (λ i. (same.setup i, same.world i)) (step.step some no_clash);
  refused = λ refused. unchanged_then a b c same (step.refused refused);
  setup = step.setup ∙ same.setup;
  at_once = λ why needs is. step.at_once why needs (rw (same.setup, same.world) is);
  no_memory = λ none. step.no_memory (rw (same.setup, same.world) none);
  taken = λ clash. rw (← same.setup, ← same.world, ← same.stored) (step.taken clash);
  no_clash = λ texts clean hashed within. step.no_clash texts clean (has_hashed texts a b same hashed) (rw (same.setup, same.world) within);
  hashed = λ texts hashed within. step.hashed texts (has_hashed texts a b same hashed) (rw (same.setup, same.world) within);
  well_formed = step.well_formed;
  going = step.going;
}

-- so it does under other names
pub taken_over : (a b c old new : Core) (event : Event) (made given : Reply) → IsUnchanged a b → IsCoreStep b event made c → a ≡ old → c ≡ new → made ≡ given
    → IsCoreStep old event given new
taken_over a b c old new event made given same step was is told =
    subst (λ (r : Reply). IsCoreStep old event r new) told
    (subst (λ (x : Core × Core). IsCoreStep x.0 event made x.1) (λ i. (was i, is i)) (step_from a b c event made same step))

-- ---- what a core lacks

taken_from : (a b s : Core) (event : Event) → HasTaken a event s → IsUnchanged a b → HasTaken b event s
taken_from a b s event taken same = record {
  setup = taken.setup ∙ sym same.setup;
  world = taken.world ∙ (λ i. after (sym same.setup i) (sym same.world i) event);
  stored = taken.stored ∙ (λ i. stored_after (sym same.setup i) (sym same.world i) event (sym same.stored i));
}

-- a core that stays the same lacks what it lacked
pub behind_still : (lag : Lag) (a b s : Core) → Behind lag a s → IsUnchanged a b → Behind lag b s
behind_still Nothing a b s behind same = unchanged_then b a s (unchanged_back a b same) behind
behind_still (Row row) a b s behind same = taken_from a b s (event_in (arc_value row)) behind same
behind_still Sweep a b s behind same = record {
  setup = behind.setup ∙ sym same.setup;
  world = behind.world ∙ sym same.world;
  stored = behind.stored ∙ swept_alike a b (sym same.setup) (sym same.world) (sym same.stored);
}
behind_still Unknown a b s behind same = tt

-- a sweep of a core that is the same is a sweep of this one
pub swept_from : (a b new : Core) → IsUnchanged a b → IsSwept b new → IsSwept a new
swept_from a b new same swept = record {
  setup = swept.setup ∙ same.setup;
  world = swept.world ∙ same.world;
  stored = swept.stored ∙ swept_alike b a same.setup same.world same.stored;
}

-- where what it lacks stays, too
pub behind_kept : (old lag : Lag) (a b s : Core) → Behind old a s → lag ≡ old → IsUnchanged a b → Behind lag b s
behind_kept old lag a b s behind kept same = subst (λ (l : Lag). Behind l b s) (sym kept) (behind_still old a b s behind same)

-- ---- what it takes

-- a core that lacks nothing is as the other one
pub caught_nothing : (lag : Lag) (old : Core) → lag ≡ Nothing → CatchesUp lag old old
caught_nothing lag old is shown behind = unchanged_back old shown (subst (λ (l : Lag). Behind l old shown) is behind)

-- two that have taken the same are the same
pub caught_row : (lag : Lag) (event : Event) (old new : Core) → ((shown : Core) → Behind lag old shown → HasTaken old event shown) → HasTaken old event new
    → CatchesUp lag old new
caught_row lag event old new lacks taken shown behind =
    let other : HasTaken old event shown = lacks shown behind in
    record {
      setup = taken.setup ∙ sym other.setup;
      world = taken.world ∙ sym other.world;
      stored = taken.stored ∙ sym other.stored;
    }

-- and so are two that were swept
pub caught_sweep : (lag : Lag) (old new : Core) → lag ≡ Sweep → IsSwept old new → CatchesUp lag old new
caught_sweep lag old new is swept shown behind =
    let other : IsSwept old shown = subst (λ (l : Lag). Behind l old shown) is behind in
    record {
      setup = swept.setup ∙ sym other.setup;
      world = swept.world ∙ sym other.world;
      stored = swept.stored ∙ sym other.stored;
    }

pub on_ok : {T E : Type 0} (result : Result T E) (A B : Type 0) → (A → B) → OnOk result A → OnOk result B
on_ok (Ok x) A B f a = f a
on_ok (Err e) A B f a = tt

-- a refusal that has no memory, or two texts of one digest, is one
no_memory : (reply : Reply) → is_refused reply ≡ false → is_memory reply ≡ false
no_memory (Refused why) some = cc
no_memory reply some = refl

no_clash : (reply : Reply) → is_refused reply ≡ false → is_clash reply ≡ false
no_clash (Refused why) some = cc
no_clash reply some = refl

-- a core whose reply is no refusal has taken the event
pub has_taken : (old new : Core) (event : Event) (reply : Reply) → HasStepped old event reply new → is_refused reply ≡ false → HasTaken old event new
has_taken old new event reply stepped some = record {
  setup = stepped.step.setup;
  world = (stepped.step.step (no_memory reply some) (no_clash reply some)).world;
  stored = stepped.stored some;
}

-- ---- what changes nothing

-- a query stores nothing
stores_nothing : (setup : Setup) (w : World) (u : List ℕ) (request : Request) (sources : List Source) → is_query request ≡ true
    → put_all (stored_by setup w u request) sources ≡ sources
stores_nothing setup w u (Fetch path) sources asks = refl
stores_nothing setup w u (Closure class) sources asks = refl
stores_nothing setup w u (Status n) sources asks = refl
stores_nothing setup w u request sources asks = absurd (cc)

-- a core that took a query which was not refused is as it was
query_taken : (old new : Core) (event : Event) → QueriesChangeNothing → is_query event.request ≡ true → HasTaken old event new → IsUnchanged old new
query_taken old new event queries asks taken = record {
  setup = taken.setup;
  world = taken.world ∙ queries (setup_of old) (world_of old) event asks;
  stored = taken.stored ∙ stores_nothing (setup_of old) (world_of old) event.actor event.request (stored_in old) asks;
}

-- what a core lacks of one that took an event, where that was refused or is a query, and where it is neither
lacks_by : (lag lacked : Lag) (old new : Core) (event : Event) (reply : Reply) (refused asks : Bool) → is_refused reply ≡ refused
    → is_query event.request ≡ asks → QueriesChangeNothing → HasStepped old event reply new → (HasTaken old event new → Behind lacked old new)
    → MatchBool (refused || asks) (lag ≡ Nothing) (lag ≡ lacked) → Behind lag old new
lacks_by lag lacked old new event reply true asks is_it is queries stepped lacks lag_is =
    subst (λ (l : Lag). Behind l old new) (sym lag_is) (stepped.step.refused is_it)
lacks_by lag lacked old new event reply false true is_it is queries stepped lacks lag_is =
    subst (λ (l : Lag). Behind l old new) (sym lag_is) (query_taken old new event queries is (has_taken old new event reply stepped is_it))
lacks_by lag lacked old new event reply false false is_it is queries stepped lacks lag_is =
    subst (λ (l : Lag). Behind l old new) (sym lag_is) (lacks (has_taken old new event reply stepped is_it))

-- a core lacks nothing of one that took the event of a row which changes nothing, and else that event
pub behind_after : (lag : Lag) (row : Arc rows.Row Global) (old new : Core) → QueriesChangeNothing
    → HasStepped old (event_in (arc_value row)) (reply_of (arc_value row).reply) new
    → MatchBool (changes_nothing (arc_value row)) (lag ≡ Nothing) (lag ≡ Row row) → Behind lag old new
behind_after lag row old new queries stepped lag_is =
    lacks_by lag (Row row) old new (event_in (arc_value row)) (reply_of (arc_value row).reply) _ _ refl refl queries stepped (λ taken. taken) lag_is
