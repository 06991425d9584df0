use denote.Ref.{NamedLft}
use denote.Exit.{yes}
use denote.Param.Send.{IsSend, sendable, arg_send, param_send}
use denote.Param.SendFields.{declared_send}
use Rattle.std.proofs.Crossing.{crosses}
use Rattle.cores.proofs.CoreCrossing.{row_send, row_sync}
use Rattle.thread_trials.specs.contracts.held.Preparing as Preparing
use Rattle.thread_trials.proofs.held.at_once.Goals as goal

preparing_send : (a : NamedLft) → IsSend (Preparing.the_row a)
preparing_send a =
    declared_send (Preparing.the_type a)
    (search (sendable, crosses) depth 20, (search (sendable, crosses, row_send, row_sync) depth 20, (search (sendable, crosses) depth 20, tt)))

pub all_at_once-requires-send-T : goal.all_at_once-requires-send-T
all_at_once-requires-send-T g c κs within = param_send _ _ (arg_send _ yes _ (preparing_send _))
