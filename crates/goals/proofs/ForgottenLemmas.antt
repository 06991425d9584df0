-- What was built is taken from the desk of a user of a state.
use Rattle.std.proofs.Common.{◌≡◌, ℕ, Bool, true, false, List, map, Ok}
use Rattle.std.specs.Prelude.{◌||◌, bytes_eq, slice_set}
use Rattle.std.specs.List.{list_any}
use Rattle.model.specs.Worlds.{Goal}
use Rattle.model.specs.ForgetRequests.{builds_with, let_go}
use Rattle.model.specs.Events as events
use Rattle.model.specs.Replies as replies
use Rattle.trust.specs.Trusting.{IsReach, trusts}
use Rattle.trust.specs.Naming.{names}
use Rattle.events.specs.declared.reply.Reply as Rust
use Rattle.events.specs.Terms.{reply_of}
use Rattle.realise.specs.Held.{paths_held}
use Rattle.desk_records.specs.RecordLists.{is_recorded_at}
use Rattle.realise.specs.Holdings.{Holdings, is_needed, without_records}
use Rattle.jobs.specs.Owned.{OwnedByAll, goals_at, with_goals_at}
use Rattle.handlers.specs.declared.state.State.{State}
use Rattle.handlers.specs.States.{parts_of}
use Rattle.handlers.specs.Viewing.{desk_at}
use Rattle.handlers.specs.Handling.{IsHandledByAll}
use Rattle.goals.proofs.StateLemmas.{all_so}
use Rattle.goals.proofs.ForgetLemmas.{forget_done}

module _ (s : State) (place : ℕ) (class path : List ℕ) where
  abbrev desk : Holdings
  desk = desk_at s.desks.items place

  abbrev own : List Goal
  own = goals_at place s.jobs

  pub forgotten : (set : ℕ → Bool) → IsReach (trusts s.trust) place set → list_any (is_recorded_at class path) desk.records ≡ true
      → (is_needed class path desk || list_any (builds_with (names s.users set) class path) own) ≡ false
      → list_any (bytes_eq path) (paths_held desk.archives) ≡ true → (reply : Rust.Reply) → reply_of reply ≡ replies.Ok
      → (jobs : OwnedByAll) (after : Holdings) → jobs ≡ with_goals_at place (map (let_go class path) own) s.jobs → after ≡ without_records class path desk
      → IsHandledByAll (parts_of s) place (events.Forget class path) (Ok reply)
      (record (parts_of s) { goals = jobs.goals; desks = slice_set s.desks.items place after })
  forgotten set reach there free held reply told jobs after left taken =
      all_so s place (events.Forget class path) (Ok reply) jobs (map (let_go class path) own) s.table.sources left after
      (rw taken (λ actor found.
      forget_done s.users s.limits.charge (trusts s.trust) s.jobs.goals s.table.sources s.desks.items place class path s.run.listed s.run.paired s.run.sound
      s.run.goals_sound s.run.within actor found set reach there free held reply told))
