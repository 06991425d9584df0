-- Builds that are finished: the record that is used again is on a desk that is seen, and labels what the closure has.
use Rattle.std.proofs.Common.{◌≡◌, ℕ, true, List, [], Option, None, Some}
use Rattle.std.specs.Prelude.{filter, flat_map}
use Rattle.std.proofs.lemmas.Bool.{cond_both}
use Rattle.model.specs.Classes.{Admission, known_at}
use Rattle.model.specs.Worlds.{Record, Resolved, Status, Waiting, Planned, Building, Done, Failed, Goal, Desk, known_of}
use Rattle.model.specs.FinishedBuilds.{is_record_at, built_at, built_in, built_on, is_labelled_by, finished_build}
use Rattle.model.specs.Goals.{same_resolved}
use Rattle.laws.proofs.MemberLemmas.{In, from_filter, from_flat_map}
use Rattle.laws.proofs.ClosureLemmas.{least_in}

built_there : (r : Resolved) (records : List Record) (path : List ℕ) (kept : Option Resolved) (known : Option Admission) (q : Record)
    → In q (built_at r records path kept known) → In q records
built_there r records path None known q h = absurd h
built_there r records path (Some k) None q h = absurd h
built_there r records path (Some k) (Some a) q h =
    cond_both (same_resolved k r) (filter (is_record_at a.class.path path) records) [] (λ xs. In q xs → In q records)
    (λ same there. (from_filter (is_record_at a.class.path path) q records there).0) (λ other none. absurd none) h

built_status : (r : Resolved) (d : Desk) (g : Goal) (status : Status) (q : Record) → In q (built_in r d g status) → In q d.records
built_status r d g Waiting q h = absurd h
built_status r d g Planned q h = absurd h
built_status r d g (Building job) q h = absurd h
built_status r d g (Done path) q h = built_there r d.records path g.resolved (known_at (known_of d) g.derivation) q h
built_status r d g (Failed why) q h = absurd h

-- the record that is used again
pub record IsFinished (view : List Desk) (r : Resolved) (q : Record) : Type 0 where
  pub desk : Desk
  pub seen : In desk view
  pub there : In q desk.records
  pub labelled : is_labelled_by r q ≡ true

pub finished : (view : List Desk) (r : Resolved) (q : Record) → finished_build view r ≡ Some q → IsFinished view r q
finished view r q e =
    let a = from_filter (is_labelled_by r) q (flat_map (built_on r) view) (least_in _ q _ e) in
    let b = from_flat_map (built_on r) q view a.0 in
    let c = from_flat_map (λ g. built_in r b.0 g g.status) q b.0.goals b.2 in
    record { desk = b.0; seen = b.1; there = built_status r b.0 c.0 c.0.status q c.2; labelled = a.1 }
