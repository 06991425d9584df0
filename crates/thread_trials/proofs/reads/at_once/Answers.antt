use denote.Ref.{NamedLft}
use denote.Exit.{yes}
use denote.Param.Send.{IsSend, sendable, arg_send, param_send}
use denote.Param.SendFields.{declared_send}
use Rattle.std.specs.contracts.vec.Vec as Vec
use Rattle.std.specs.contracts.alloc.Global as Global
use Rattle.std.specs.contracts.impls.GlobalAllocator.TheImpl.{ghosts}
use Rattle.std.proofs.Crossing.{crosses, Vec-send}
use Rattle.cores.proofs.CoreCrossing.{row_send}
use Rattle.history.specs.contracts.row.Row as Row
use Rattle.thread_trials.specs.contracts.reads.Lines as Lines
use Rattle.thread_trials.proofs.reads.at_once.Goals as goal

trace_send : IsSend (Vec.the_row Row.the_row Global.the_row ghosts)
trace_send = Vec-send Row.the_row row_send

lines_send : (a : NamedLft) → IsSend (Lines.the_row a)
lines_send a = declared_send (Lines.the_type a) (search (sendable, crosses) depth 20, (trace_send, tt))

pub all_at_once-requires-send-T : goal.all_at_once-requires-send-T
all_at_once-requires-send-T g c κs within = param_send _ _ (arg_send _ yes _ (lines_send _))
