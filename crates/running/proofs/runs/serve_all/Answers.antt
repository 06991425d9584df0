use denote.Exit.{yes}
use denote.Param.{param}
use denote.Param.Send.{arg_send, param_send}
use mir.Syntax.{named}
use Rattle.running.proofs.Sending.{store_send}
use Rattle.running.proofs.runs.serve_all.Goals as goal

pub all_at_once-requires-send-S : goal.all_at_once-requires-send-S
all_at_once-requires-send-S g c κs within =
    param_send _ _ (arg_send _ yes _ (store_send (record { mir = named 2; lft = κs.1.1.0 }) (param 0 g.row.J) (param 1 g.row.R) g.J.FrontId g.J.Ledger c.type_bounds.sync-R))
