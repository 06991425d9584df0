use Rattle.std.proofs.Common.{◌≡◌, drop}
use Rattle.std.specs.List.{list_any}
use Rattle.model.specs.ForgetRequests.{is_entry_at}
use Rattle.jobs.proofs.forgetting.has_entry_at.Given as goal

abbrev pub invariant-loop-entry : goal.invariant-loop-entry
invariant-loop-entry l = list_any (is_entry_at l.class l.path) (drop l.entry-index l.entries) ≡ list_any (is_entry_at l.class l.path) l.entries
