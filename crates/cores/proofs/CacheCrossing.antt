-- Caches may cross threads as their keys and values may. A key is shared by its node and the map, so to send it asks `Sync` too.
use denote.RattleType.{RattleType}
use denote.Param.Send.{IsSend, IsSync, sendable, view_send, view_sync, recorded_send, recorded_sync}
use denote.Param.SendFields.{declared_send, declared_sync, as_row_send, as_row_sync}
use Rattle.std.specs.declared.cmp.Eq as total
use Rattle.std.specs.declared.cmp.PartialEq as eq
use Rattle.std.specs.declared.hash.Hash as hash
use Rattle.std.specs.declared.hash.Hasher as hasher
use Rattle.std.specs.declared.hash.BuildHasher as builder
use Rattle.std.specs.contracts.alloc.Global as Global
use Rattle.std.specs.contracts.impls.GlobalAllocator.TheImpl.{ghosts}
use Rattle.std.proofs.Crossing as heap
use Rattle.std.proofs.MapsCrossing.{HashMap-send, HashMap-sync}
use Rattle.lru.proofs.Crosses.{List-send, List-sync, Deed-send, Deed-sync, KeyRef-send, KeyRef-sync}
use Rattle.lru.specs.contracts.cache.LruCache as LruCache
use Rattle.lru.specs.contracts.cache.LruCache.TheInside as Inside
use Rattle.lru.specs.contracts.entry.Deed as Deed
use Rattle.lru.specs.contracts.entry.Slot as Slot
use Rattle.lru.specs.contracts.key_ref.KeyRef as KeyRef
use Rattle.lru.specs.contracts.list.List as Nodes
use Rattle.lru.specs.contracts.nodes.Nodes as Linked

module _ (K V : RattleType) where
  deed_send : IsSend (Deed.the_row K V Global.the_row ghosts)
  deed_send = Deed-send K V Global.the_row ghosts heap.frees

  deed_sync : IsSync (Deed.the_row K V Global.the_row ghosts)
  deed_sync = Deed-sync K V Global.the_row ghosts

  slot_send : IsSend (Slot.the_row K V Global.the_row ghosts)
  slot_send = search (sendable, deed_send) depth 20

  slot_sync : IsSync (Slot.the_row K V Global.the_row ghosts)
  slot_sync = search (sendable, deed_sync) depth 20

module _ (K V S H : RattleType) (q : total.Ghosts K.Denot) (e : eq.Ghosts K.Denot) (h : hash.Ghosts K.Denot)
    (b : builder.Ghosts S.Denot H.Denot) (w : hasher.Ghosts H.Denot) where
  nodes_send : IsSend K → IsSync K → IsSend V → IsSend S → IsSend (Linked.the_row K V S Global.the_row H q e h b w ghosts)
  nodes_send sk yk sv ss =
      let key : IsSend (KeyRef.the_row K) = KeyRef-send K yk in
      let slot : IsSend (Slot.the_row K V Global.the_row ghosts) = slot_send K V in
      let list : IsSend (Nodes.the_row K V) = List-send K V sk yk sv in
      declared_send (Linked.the_type K V S Global.the_row H q e h b w ghosts)
      (search (as_row_send, recorded_send, HashMap-send) depth 8, (slot, (slot, (list, (heap.send, tt)))))

  nodes_sync : IsSync K → IsSync V → IsSync S → IsSync (Linked.the_row K V S Global.the_row H q e h b w ghosts)
  nodes_sync yk yv ys =
      let key : IsSync (KeyRef.the_row K) = KeyRef-sync K yk in
      let slot : IsSync (Slot.the_row K V Global.the_row ghosts) = slot_sync K V in
      let list : IsSync (Nodes.the_row K V) = List-sync K V yk yv in
      declared_sync (Linked.the_type K V S Global.the_row H q e h b w ghosts)
      (search (as_row_sync, recorded_sync, HashMap-sync) depth 8, (slot, (slot, (list, (heap.sync, tt)))))

  inside_send : IsSend K → IsSync K → IsSend V → IsSend S → IsSend (Inside.the_row K V S Global.the_row H q e h b w ghosts)
  inside_send sk yk sv ss = declared_send (Inside.the_type K V S Global.the_row H q e h b w ghosts) (nodes_send sk yk sv ss, (search sendable depth 8, tt))

  inside_sync : IsSync K → IsSync V → IsSync S → IsSync (Inside.the_row K V S Global.the_row H q e h b w ghosts)
  inside_sync yk yv ys = declared_sync (Inside.the_type K V S Global.the_row H q e h b w ghosts) (nodes_sync yk yv ys, (search sendable depth 8, tt))

  pub LruCache-send : IsSend K → IsSync K → IsSend V → IsSend S → IsSend (LruCache.the_row K V S Global.the_row H q e h b w ghosts)
  LruCache-send sk yk sv ss = let inside = inside_send sk yk sv ss in search view_send depth 5

  pub LruCache-sync : IsSync K → IsSync V → IsSync S → IsSync (LruCache.the_row K V S Global.the_row H q e h b w ghosts)
  LruCache-sync yk yv ys = let inside = inside_sync yk yv ys in search view_sync depth 5
