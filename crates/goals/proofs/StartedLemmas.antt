-- What becomes of a goal of a user of a state that is started.
use Rattle.std.proofs.Common.{◌≡◌, ◌≢◌, ℕ, true, false, ◌⊎◌, inl, inr, List, length, refl, sym, ◌∙◌, ap, subst, Some, None, Result, Ok, Err}
use Rattle.std.specs.Prelude.{All, MatchResult, slice_set}
use Rattle.std.proofs.lemmas.List.{set-get_or}
use Rattle.model.specs.declared.refusal.Refusal.{Refusal}
use Rattle.model.specs.declared.refusal.Refusal.TheVariants.{Memory, Quota}
use Rattle.model.specs.Worlds.{Source, Record, Entry, Resolved, Job, Status, Building, Done, Failed, Goal}
use Rattle.model.specs.Goals.{with_goal_at, in_status, job_of}
use Rattle.model.specs.Events as events
use Rattle.model.specs.Replies as replies
use Rattle.trust.specs.Trusting.{trusts}
use Rattle.trust.specs.Naming.{name_at}
use Rattle.trust.proofs.PlaceLemmas.{name_found}
use Rattle.realise.specs.Holdings.{Holdings}
use Rattle.jobs.specs.Owned.{OwnedByAll, goals_at, ChangesGoal}
use Rattle.events.specs.declared.reply.Reply as Rust
use Rattle.events.specs.Terms.{reply_of}
use Rattle.handlers.specs.declared.state.State.{State}
use Rattle.handlers.specs.States.{parts_of, HasPlace, Handles}
use Rattle.handlers.specs.Runs.{IsRun}
use Rattle.handlers.specs.Parts.{Parts}
use Rattle.handlers.specs.Sound.{IsStored}
use Rattle.handlers.specs.Handling.{IsHandledByAll}
use Rattle.handlers.specs.Viewing.{bare, desk_at}
use Rattle.handlers.proofs.RunLemmas.{still_run}
use Rattle.handlers.specs.Taking.{with_built, CopiesEntries}
use Rattle.goals.specs.Planning.{fails}
use Rattle.goals.specs.Reusing.{UsesAgain}
use Rattle.goals.specs.Starting.{IsToStart, IsNotToStart, IsJoined, HasNoRoom, uncopied_status}
use Rattle.goals.proofs.StateLemmas.{HandlesAt, with_goals, left_so, all_so}
use Rattle.goals.proofs.StoredLemmas.{put_stored, built_stored}
use Rattle.goals.proofs.StartLemmas.{goal_closure, no_memory, not_to_start, entered, left, failed, done, full, lacking, changed_so, entered_goal}
use Rattle.goals.proofs.PlanLemmas.{others_kept}
use Rattle.goals.proofs.JoinLemmas.{running_there}

-- it is none that is to be started, or memory is refused
pub untimely_so : (s : State) (place n : ℕ) (why : Refusal) → IsNotToStart (goals_at place s.jobs) n why → Handles s place (events.Start n) (Err why) s
untimely_so s place n why untimely = left_so s place (events.Start n) (Err why) (λ actor found.
    not_to_start s.users s.limits.charge (trusts s.trust) s.jobs.goals s.table.sources s.desks.items place n s.run.listed s.run.paired s.run.within s.run.sound
    s.run.goals_sound actor found why untimely)

module _ (s : State) (place n : ℕ) (below : HasPlace s place) (r : Resolved) (it : IsToStart (goals_at place s.jobs) n r) where
  abbrev own : List Goal
  own = goals_at place s.jobs

  abbrev desk : Holdings
  desk = desk_at s.desks.items place

  abbrev old : List Source
  old = s.table.sources

  abbrev Copies : List Entry → Result (Unit {0}) Refusal → List Source → Holdings → Type 0
  Copies entries result table after = CopiesEntries s.limits.charge old desk entries result table after

  -- the parts of the state with these goals, this table, and this desk of his
  abbrev pub started : OwnedByAll → List Source → Holdings → Parts
  started new table after = record (parts_of s) { goals = new.goals; table = table; desks = slice_set s.desks.items place after }

  -- so a start ends
  abbrev pub Starts : Result Rust.Reply Refusal → OwnedByAll → List Source → Holdings → Type 0
  Starts result new table after = IsHandledByAll (parts_of s) place (events.Start n) result (started new table after)

  pub run_started : (result : Result Rust.Reply Refusal) (new : OwnedByAll) (table : List Source) (after : Holdings) → Starts result new table after
      → IsRun (started new table after)
  run_started result new table after starts = still_run (parts_of s) (started new table after) place (events.Start n) result s.run below starts

  pub owned_started : (change : Goal → Goal) (new : OwnedByAll) → ChangesGoal place n change s.jobs new → new.users ≡ s.users
  owned_started change new changes = ap (λ (j : OwnedByAll). j.users) (changes it.goal it.there) ∙ s.owned

  pub its_closure : All (IsStored old) r.closure
  its_closure = (goal_closure old s.jobs.goals place n r s.run.goals_sound it).1

  -- memory is refused before anything changed
  pub no_memory_so : Handles s place (events.Start n) (Err Memory) s
  no_memory_so = left_so s place (events.Start n) (Err Memory) (λ actor found.
      no_memory s.users s.limits.charge (trusts s.trust) s.jobs.goals old s.desks.items place n s.run.listed s.run.paired s.run.within s.run.sound
      s.run.goals_sound actor found r it)

  -- it is in another state, over a table that has what was copied
  turned : (result : Result Rust.Reply Refusal) (new : OwnedByAll) (status : Status) (table : List Source) (after : Holdings)
      → ChangesGoal place n (in_status status) s.jobs new → table ≡ old
      → HandlesAt s place (events.Start n) result (with_goal_at n (in_status status it.goal) own) old after → Starts result new table after
  turned result new status table after changes same handles =
      all_so s place (events.Start n) result new (with_goal_at n (in_status status it.goal) own) table (changes it.goal it.there) after
      (rw same handles)

  -- the entries are not copied, and not for want of room
  pub lacking_so : (entries : List Entry) (why : Refusal) (table : List Source) (after : Holdings) → All (IsStored old) entries
      → Copies entries (Err why) table after → why ≢ Quota → Starts (Err why) s.jobs table after
  lacking_so entries why table after there copies other =
      all_so s place (events.Start n) (Err why) s.jobs own table (others_kept s.jobs s.jobs place refl) after
      (rw copies.kept.sources (λ actor found.
      lacking s.users s.limits.charge (trusts s.trust) s.jobs.goals old s.desks.items place n s.run.listed s.run.paired s.run.within s.run.sound
      s.run.goals_sound actor found r it table after entries why there copies other))

  -- what is not copied leaves all
  module _ (entries : List Entry) (why : Refusal) (table : List Source) (after : Holdings) (copies : Copies entries (Err why) table after) where
    pub put_back : started s.jobs table after ≡ parts_of s
    put_back =
        let desks : slice_set s.desks.items place after ≡ s.desks.items =
        ap (slice_set s.desks.items place) copies.kept.desk ∙ set-get_or s.desks.items place bare in
        λ i. record (parts_of s) { table = copies.kept.sources i; desks = desks i }

    pub left_copies : Copies entries (Err why) old desk
    left_copies =
        subst (λ (t : List Source). Copies entries (Err why) t desk) copies.kept.sources
        (subst (λ (d : Holdings). Copies entries (Err why) table d) copies.kept.desk copies)

  -- ---- nothing is used again

  module _ (none : UsesAgain (parts_of s) place n r None) (job : Job) (joined : IsJoined (trusts s.trust) place (length s.users) n r s.jobs job)
      (entering : OwnedByAll) (enters : ChangesGoal place n (in_status (Building job)) s.jobs entering) (table : List Source) (after : Holdings) where
    -- it is built
    pub entered_so : (reply : Rust.Reply) → reply_of reply ≡ replies.Status (Building job) → Copies r.closure (Ok tt) table after
        → Starts (Ok reply) entering table after
    entered_so reply told copies =
        turned (Ok reply) entering (Building job) table after enters (copies.stored ∙ put_stored old r.closure its_closure) (λ actor found.
        let running = running_there s.users s.limits.charge (trusts s.trust) s.jobs old s.desks.items s.run.listed s.run.paired s.run.within actor place found
        joined.set s.owned s.run.with_goals joined.joins in
        let leader : name_at s.jobs.users place ≡ actor = ap (λ us. name_at us place) s.owned ∙ (name_found s.users actor place found).1 in
        let J : List ℕ → Job = λ u. record { leader = u; number = n } in
        entered s.users s.limits.charge (trusts s.trust) s.jobs.goals old s.desks.items place n s.run.listed s.run.paired s.run.within s.run.sound
        s.run.goals_sound actor found r it table after job reply
        (none.is it.goal it.there s.users s.limits.charge actor s.run.listed found s.run.paired s.run.within)
        copies (joined.is ∙ (λ i. job_of (sym running i) (J (leader i)) r)) told)

    -- its closure is not copied: it leaves the job
    module _ (why : Refusal) (leaving : OwnedByAll) (leaves : ChangesGoal place n (in_status (uncopied_status why)) entering leaving) where
      has_left : ChangesGoal place n (in_status (uncopied_status why)) s.jobs leaving
      has_left g there =
          changed_so s.jobs entering place n g job there (with_goals s place below) (enters g there) leaving (uncopied_status why)
          (leaves (in_status (Building job) g) (entered_goal s.jobs entering place n g job there (with_goals s place below) (enters g there)))

      pub left_job : (result : Result Rust.Reply Refusal) → Copies r.closure (Err why) table after
          → MatchResult result (λ reply. (fails why ≡ true) × (reply_of reply ≡ replies.Status (Failed why))) (λ e. (fails why ≡ false) × (e ≡ why))
          → Starts result leaving table after
      left_job result copies told =
          turned result leaving (uncopied_status why) table after has_left copies.kept.sources (λ actor found.
          left s.users s.limits.charge (trusts s.trust) s.jobs.goals old s.desks.items place n s.run.listed s.run.paired s.run.within s.run.sound
          s.run.goals_sound actor found r it table after why result copies told)

      pub owned_left : leaving.users ≡ s.users
      owned_left = owned_started (in_status (uncopied_status why)) leaving has_left

  -- ---- what was built is used again

  module _ (q : Record) (again : UsesAgain (parts_of s) place n r (Some q)) where
    pub both_stored : All (IsStored old) (with_built r.closure q)
    both_stored = built_stored old r.closure q its_closure (again.stored q refl)

    -- there is room for both
    pub done_so : (new : OwnedByAll) (table : List Source) (after : Holdings) (reply : Rust.Reply) → reply_of reply ≡ replies.Status (Done q.path)
        → ChangesGoal place n (in_status (Done q.path)) s.jobs new → Copies (with_built r.closure q) (Ok tt) table after → Starts (Ok reply) new table after
    done_so new table after reply told changes copies =
        turned (Ok reply) new (Done q.path) table after changes (copies.stored ∙ put_stored old (with_built r.closure q) both_stored) (λ actor found.
        done s.users s.limits.charge (trusts s.trust) s.jobs.goals old s.desks.items place n s.run.listed s.run.paired s.run.within s.run.sound
        s.run.goals_sound actor found r it table after q
        (again.is it.goal it.there s.users s.limits.charge actor s.run.listed found s.run.paired s.run.within) (again.stored q refl) reply copies told)

  -- there is none
  module _ (none : HasNoRoom (parts_of s) place n r) (reply : Rust.Reply) (told : reply_of reply ≡ replies.Status (Failed Quota))
      (new : OwnedByAll) (changes : ChangesGoal place n (in_status (Failed Quota)) s.jobs new) (table : List Source) (after : Holdings) where
    pub failed_so : Copies r.closure (Ok tt) table after ⊎ Copies r.closure (Err Quota) table after → Starts (Ok reply) new table after
    failed_so (inl copies) =
        turned (Ok reply) new (Failed Quota) table after changes (copies.stored ∙ put_stored old r.closure its_closure) (λ actor found.
        full s.users s.limits.charge (trusts s.trust) s.jobs.goals old s.desks.items place n s.run.listed s.run.paired s.run.within s.run.sound
        s.run.goals_sound actor found r it table after none.built
        (none.again.is it.goal it.there s.users s.limits.charge actor s.run.listed found s.run.paired s.run.within) (none.again.stored none.built refl)
        reply none.over copies told)
    failed_so (inr copies) =
        turned (Ok reply) new (Failed Quota) table after changes copies.kept.sources (λ actor found.
        failed s.users s.limits.charge (trusts s.trust) s.jobs.goals old s.desks.items place n s.run.listed s.run.paired s.run.within s.run.sound
        s.run.goals_sound actor found r it table after Quota reply copies refl told)
