-- What crosses threads of two cores.
use denote.Param.Send.{IsSend, IsSync, sendable, view_send}
use denote.Param.SendFields.{declared_send, declared_sync, variants_send}
use Rattle.std.proofs.Crossing.{crosses}
use Rattle.nar.proofs.node.Node.TheLaws.TheKnot.{both_send-Node, both_sync-Node}
use Rattle.nar.specs.contracts.tree.Tree as Tree
use Rattle.model.specs.contracts.refusal.Refusal as Refusal
use Rattle.model.proofs.refusal.Refusal.TheSendSync as refusals
use Rattle.storepath.specs.contracts.path.StorePath as StorePath
use Rattle.storepath.proofs.path.StorePath.TheSendSync as paths
use Rattle.storepath.proofs.name.Name.TheSendSync as names
use Rattle.classes.proofs.admissions.Admissions.TheSendSync as admissions
use Rattle.classes.proofs.admitted.Admitted.TheSendSync as admitted
use Rattle.trust.proofs.pairs.Trust.TheSendSync as trusts
use Rattle.trust.proofs.users.Users.TheSendSync as users
use Rattle.records.specs.contracts.record.Record as Record
use Rattle.records.proofs.record.Record.TheSendSync as records
use Rattle.realise.specs.contracts.desk.Desk as Desk
use Rattle.realise.proofs.desk.Desk.TheSendSync as desks
use Rattle.rewrite.specs.contracts.named.Named as Named
use Rattle.rewrite.proofs.named.Named.TheSendSync as nameds
use Rattle.store.specs.contracts.table.Table as Table
use Rattle.records.specs.contracts.realisation.Realisation as Realisation
use Rattle.records.specs.contracts.realisation.Source as Source
use Rattle.records.specs.contracts.entries.Entry as Entry
use Rattle.records.specs.contracts.entries.Closure as Closure
use Rattle.records.specs.contracts.resolved.Resolved as Resolved
use Rattle.repair.specs.contracts.repair.Repair as Repair
use Rattle.repair.specs.contracts.replacements.Replacement as Replacement
use Rattle.repair.proofs.replacements.Replacement.TheSendSync as replacements
use Rattle.repair.specs.contracts.kept.Kept as Kept
use Rattle.repair.specs.contracts.made.Made as Made
use Rattle.repair.specs.contracts.cache.Cache as Cache
use Rattle.resolving.specs.contracts.served.Served as Served
use Rattle.resolving.specs.contracts.resolution.Resolution as Resolution
use Rattle.resolving.specs.contracts.last_resolved.LastResolved as LastResolved
use Rattle.jobs.specs.contracts.goal.Goal as Goal
use Rattle.jobs.specs.contracts.goals.Goals as Goals
use Rattle.jobs.specs.contracts.users.Jobs as Jobs
use Rattle.outputs.proofs.input.Input.TheSendSync as inputs
use Rattle.outputs.specs.contracts.output.SettledTree as SettledTree
use Rattle.outputs.specs.contracts.placed.Placed as Placed
use Rattle.outputs.specs.contracts.settlement.Settlement as Settlement
use Rattle.outputs.specs.contracts.settlements.Settlements as Settlements
use Rattle.outputs.specs.contracts.sources.Sources as Sources
use Rattle.events.specs.contracts.event.Event as Event
use Rattle.events.specs.contracts.reply.Reply as Reply
use Rattle.handlers.specs.contracts.state.State as State
use Rattle.schedule.specs.contracts.state.Core as Core
use Rattle.schedule.specs.contracts.work.Work as Work
use Rattle.schedule.specs.contracts.work.Ready as Ready
use Rattle.history.specs.contracts.row.Row as Row
use Rattle.cores.specs.contracts.lag.Lag as Lag
use Rattle.cores.specs.contracts.cores.Cores as Cores
use Rattle.cores.specs.contracts.cores.Cores.TheInside as CoresInside
use Rattle.cores.proofs.CacheCrossing.{LruCache-send, LruCache-sync}

-- ---- trees, and what holds them

tree_send : IsSend Tree.the_row
tree_send = search (sendable, crosses, both_send-Node, both_sync-Node) depth 60

tree_sync : IsSync Tree.the_row
tree_sync = search (sendable, crosses, both_send-Node, both_sync-Node) depth 60

path_send : IsSend StorePath.the_row
path_send = paths.the_send

path_sync : IsSync StorePath.the_row
path_sync = paths.the_sync

refusal_send : IsSend Refusal.the_row
refusal_send = refusals.the_send

refusal_sync : IsSync Refusal.the_row
refusal_sync = refusals.the_sync

table_send : IsSend Table.the_row
table_send = search (sendable, crosses, tree_send, path_send) depth 60 fits 5000

table_sync : IsSync Table.the_row
table_sync = search (sendable, crosses, tree_sync, path_sync) depth 60 fits 5000

record_send : IsSend Record.the_row
record_send = records.the_send

record_sync : IsSync Record.the_row
record_sync = records.the_sync

realisation_send : IsSend Realisation.the_row
realisation_send = search (sendable, crosses, record_send, tree_send) depth 60 fits 5000

realisation_sync : IsSync Realisation.the_row
realisation_sync = search (sendable, crosses, record_sync, tree_sync) depth 60 fits 5000

source_send : IsSend Source.the_row
source_send = search (sendable, crosses, path_send, tree_send) depth 60 fits 5000

source_sync : IsSync Source.the_row
source_sync = search (sendable, crosses, path_sync, tree_sync) depth 60 fits 5000

entry_send : IsSend Entry.the_row
entry_send = search (sendable, crosses, realisation_send, source_send) depth 60 fits 5000

entry_sync : IsSync Entry.the_row
entry_sync = search (sendable, crosses, realisation_sync, source_sync) depth 60 fits 5000

closure_send : IsSend Closure.the_row
closure_send = search (sendable, crosses, entry_send, entry_sync) depth 60 fits 5000

closure_sync : IsSync Closure.the_row
closure_sync = search (sendable, crosses, entry_send, entry_sync) depth 60 fits 5000

resolved_send : IsSend Resolved.the_row
resolved_send = search (sendable, crosses, path_send, closure_send) depth 60 fits 5000

resolved_sync : IsSync Resolved.the_row
resolved_sync = search (sendable, crosses, path_sync, closure_sync) depth 60 fits 5000

-- ---- rows

event_send : IsSend Event.the_row
event_send = search (sendable, crosses, tree_send, path_send) depth 60 fits 5000

event_sync : IsSync Event.the_row
event_sync = search (sendable, crosses, tree_sync, path_sync) depth 60 fits 5000

pub reply_send : IsSend Reply.the_row
reply_send = search (sendable, crosses, tree_send, path_send, closure_send) depth 60 fits 5000

reply_sync : IsSync Reply.the_row
reply_sync = search (sendable, crosses, tree_sync, path_sync, closure_sync) depth 60 fits 5000

pub row_send : IsSend Row.the_row
row_send = declared_send Row.the_type (search sendable, (event_send, (reply_send, tt)))

pub row_sync : IsSync Row.the_row
row_sync = declared_sync Row.the_type (search sendable, (event_sync, (reply_sync, tt)))

-- ---- goals

goal_send : IsSend Goal.the_row
goal_send = search (sendable, crosses, path_send, resolved_send) depth 60 fits 5000

goal_sync : IsSync Goal.the_row
goal_sync = search (sendable, crosses, path_sync, resolved_sync) depth 60 fits 5000

goals_send : IsSend Goals.the_row
goals_send = search (sendable, crosses, goal_send) depth 60 fits 5000

goals_sync : IsSync Goals.the_row
goals_sync = search (sendable, crosses, goal_sync) depth 60 fits 5000

jobs_send : IsSend Jobs.the_row
jobs_send = search (sendable, crosses, goals_send) depth 60 fits 5000

jobs_sync : IsSync Jobs.the_row
jobs_sync = search (sendable, crosses, goals_sync) depth 60 fits 5000

-- ---- records that were repaired

replacement_send : IsSend Replacement.the_row
replacement_send = replacements.the_send

replacement_sync : IsSync Replacement.the_row
replacement_sync = replacements.the_sync

repair_send : IsSend Repair.the_row
repair_send = search (sendable, crosses, path_send, tree_send, replacement_send, realisation_send, refusal_send) depth 60 fits 5000

repair_sync : IsSync Repair.the_row
repair_sync = search (sendable, crosses, path_sync, tree_sync, replacement_sync, realisation_sync, refusal_sync) depth 60 fits 5000

kept_send : IsSend Kept.the_row
kept_send = declared_send Kept.the_type (search (LruCache-send, sendable, crosses, path_send, path_sync, repair_send) depth 40, (search sendable, (search sendable, (search sendable, tt))))

kept_sync : IsSync Kept.the_row
kept_sync = declared_sync Kept.the_type (search (LruCache-sync, sendable, crosses, path_sync, repair_sync) depth 40, (search sendable, (search sendable, (search sendable, tt))))

made_send : IsSend Made.the_row
made_send = search (sendable, crosses, path_send, repair_send) depth 60 fits 5000

made_sync : IsSync Made.the_row
made_sync = search (sendable, crosses, path_sync, repair_sync) depth 60 fits 5000

pub cache_send : IsSend Cache.the_row
cache_send = search (sendable, crosses, made_send, kept_send) depth 60 fits 5000

cache_sync : IsSync Cache.the_row
cache_sync = search (sendable, crosses, made_sync, kept_sync) depth 60 fits 5000

-- ---- cores

desk_send : IsSend Desk.the_row
desk_send = desks.the_send

desk_sync : IsSync Desk.the_row
desk_sync = desks.the_sync

state_send : IsSend State.the_row
state_send = declared_send State.the_type (
  users.the_send,
  (trusts.the_send, (jobs_send, (search (sendable, crosses, desk_send) depth 60 fits 5000, (table_send, (search sendable depth 20, tt))))),
)

state_sync : IsSync State.the_row
state_sync = declared_sync State.the_type (
  users.the_sync,
  (trusts.the_sync, (jobs_sync, (search (sendable, crosses, desk_sync) depth 60 fits 5000, (table_sync, (search sendable depth 20, tt))))),
)

pub core_send : IsSend Core.the_row
core_send = declared_send Core.the_type (state_send, (cache_send, (search sendable, tt)))

pub core_sync : IsSync Core.the_row
core_sync = declared_sync Core.the_type (state_sync, (cache_sync, (search sendable, tt)))

-- ---- values that were made before a step

placed_send : IsSend Placed.the_row
placed_send = declared_send Placed.the_type (tree_send, (names.the_send, (path_send, tt)))

placed_sync : IsSync Placed.the_row
placed_sync = declared_sync Placed.the_type (tree_sync, (names.the_sync, (path_sync, tt)))

sources_send : IsSend Sources.the_row
sources_send = declared_send Sources.the_type (search (crosses, placed_send) depth 5, (search sendable, tt))

sources_sync : IsSync Sources.the_row
sources_sync = declared_sync Sources.the_type (search (crosses, placed_sync) depth 5, (search sendable, tt))

named_send : IsSend Named.the_row
named_send = nameds.the_send

named_sync : IsSync Named.the_row
named_sync = nameds.the_sync

output_send : IsSend SettledTree.the_row
output_send = search (sendable, crosses, named_send, named_sync, tree_send) depth 40 fits 5000

output_sync : IsSync SettledTree.the_row
output_sync = search (sendable, crosses, named_send, named_sync, tree_sync) depth 40 fits 5000

settlement_send : IsSend Settlement.the_row
settlement_send = declared_send Settlement.the_type (inputs.the_send, (tree_send, (search (sendable, crosses, output_send, refusal_send) depth 20, tt)))

settlement_sync : IsSync Settlement.the_row
settlement_sync = declared_sync Settlement.the_type (inputs.the_sync, (tree_sync, (search (sendable, crosses, output_sync, refusal_sync) depth 20, tt)))

settlements_send : IsSend Settlements.the_row
settlements_send = declared_send Settlements.the_type (search (crosses, settlement_send) depth 5, (search sendable, tt))

settlements_sync : IsSync Settlements.the_row
settlements_sync = declared_sync Settlements.the_type (search (crosses, settlement_sync) depth 5, (search sendable, tt))

served_send : IsSend Served.the_row
served_send = search (sendable, crosses, path_send) depth 60 fits 5000

resolution_send : IsSend Resolution.the_row
resolution_send = search (sendable, crosses, admitted.the_send, served_send, resolved_send) depth 60 fits 5000

last_resolved_send : IsSend LastResolved.the_row
last_resolved_send = search (sendable, crosses, resolution_send) depth 60 fits 5000

ready_send : IsSend Ready.the_row
ready_send =
    declared_send Ready.the_type
    (declared_send Work.the_type (sources_send, (admissions.the_send, (settlements_send, (cache_send, (last_resolved_send, tt))))), tt)

-- ---- both cores

lag_send : IsSend Lag.the_row
lag_send = variants_send Lag.enum (tt, ((search (sendable, crosses, row_send, row_sync) depth 20, tt), (tt, (tt, tt))))

pub cores_send : IsSend Cores.the_row
cores_send =
    let inside : IsSend CoresInside.the_row =
    declared_send CoresInside.the_type
    (search (sendable, crosses, core_send, core_sync) depth 20, (search (sendable, crosses, core_send, core_sync) depth 20, (lag_send, (ready_send, tt)))) in
    search view_send depth 5
