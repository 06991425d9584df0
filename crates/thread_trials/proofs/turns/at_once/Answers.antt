use denote.RattleType.{RattleType}
use denote.Ref.{NamedLft}
use denote.Exit.{yes}
use denote.Param.{param}
use denote.Param.Send.{IsSend, IsSync, sendable, arg_send, param_send, shr_send, view_send}
use denote.Param.SendFields.{declared_send, as_row_send}
use denote.Struct.Field.{shr_ref_field, row_field}
use mir.Syntax.{named}
use Rattle.std.proofs.Crossing.{send, crosses}
use Rattle.std.specs.declared.sync.ledger.Ledger as Ledger
use Rattle.history.specs.declared.front_id.FrontId as FrontId
use Rattle.book.specs.contracts.front.Front as Front
use Rattle.thread_trials.specs.contracts.turns.Member as Member
use Rattle.thread_trials.specs.contracts.turns.Member.TheInside as Inside
use Rattle.book.proofs.Crossing.{front_sync, pass_send}
use Rattle.thread_trials.proofs.turns.at_once.Goals as goal

inside_send : (a : NamedLft) (J R T : RattleType) (n : FrontId.Ghosts J.Denot) (l : Ledger.Ghosts J.Denot) → IsSync R → IsSend T
    → IsSend (Inside.the_row a J R T n l)
inside_send a J R T n l y s =
    let front : IsSync (Front.the_row J n l) = front_sync J n l in
    declared_send (Inside.the_type a J R T n l) (
      search (shr_send, y) depth 5,
      (
        send,
        (
          as_row_send (shr_ref_field a (Front.the_row J n l) tt) (shr_send a.mir a.lft (Front.the_row J n l) front),
          (pass_send J n l, (as_row_send (row_field T) s, (search (sendable, crosses) depth 60 fits 5000, tt))),
        ),
      ),
    )

member_send : (a : NamedLft) (J R T : RattleType) (n : FrontId.Ghosts J.Denot) (l : Ledger.Ghosts J.Denot) → IsSync R → IsSend T
    → IsSend (Member.the_row a J R T n l)
member_send a J R T n l y s = let inside : IsSend (Inside.the_row a J R T n l) = inside_send a J R T n l y s in search (view_send, inside) depth 5

pub each_at_once-requires-send-S : goal.each_at_once-requires-send-S
each_at_once-requires-send-S g c κs within =
    param_send _ _ (arg_send _ yes _ (member_send (record { mir = named 1; lft = κs.1.1.1.0 }) (param 0 g.row.J) (param 1 g.row.R) (param 2 g.row.T) g.J.FrontId g.J.Ledger c.type_bounds.sync-R c.type_bounds.send-T))
