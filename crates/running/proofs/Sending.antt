-- The store that sessions and workers share goes to other threads.
use denote.RattleType.{RattleType}
use denote.Ref.{NamedLft}
use denote.Struct.Field.{shr_ref_field}
use denote.Param.Send.{IsSend, IsSync, sendable, shr_send, view_send}
use denote.Param.SendFields.{declared_send, as_row_send}
use Rattle.std.specs.declared.sync.ledger.Ledger as Ledger
use Rattle.history.specs.declared.front_id.FrontId as FrontId
use Rattle.book.specs.contracts.front.Front as Front
use Rattle.running.specs.contracts.shared.SharedStore as SharedStore
use Rattle.running.specs.contracts.shared.SharedStore.TheInside as SharedInside
use Rattle.book.proofs.Crossing.{front_sync, pass_send}

module _ (a : NamedLft) (J R : RattleType) (n : FrontId.Ghosts J.Denot) (l : Ledger.Ghosts J.Denot) where
  inside_send : IsSync R → IsSend (SharedInside.the_row a J R n l)
  inside_send y =
      let front : IsSync (Front.the_row J n l) = front_sync J n l in
      declared_send (SharedInside.the_type a J R n l) (
        search (shr_send, y) depth 5,
        (as_row_send (shr_ref_field a (Front.the_row J n l) tt) (shr_send a.mir a.lft (Front.the_row J n l) front), (pass_send J n l, (search sendable, tt))),
      )

  pub store_send : IsSync R → IsSend (SharedStore.the_row a J R n l)
  store_send y = let inside : IsSend (SharedInside.the_row a J R n l) = inside_send y in search (view_send, inside) depth 5
