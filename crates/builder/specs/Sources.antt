-- The queue of a round, while its source puts tickets.
use Rattle.std.specs.Prelude.{◌≡◌, ℕ, List, [], ◌++◌}
use Rattle.atomic_table.specs.Seated.{TableId}
use Rattle.atomic_table.specs.declared.badge.Badge.{Badge}
use Rattle.crossbeam_channel.specs.declared.flavors.array.Key.{Key}
use Rattle.crossbeam_channel.specs.declared.flavors.array.Rows.{Rows}
use Rattle.crossbeam_channel.specs.declared.flavors.array.Doing.{Doing}
use Rattle.crossbeam_channel.specs.Claims.{Pass, view, IsSeatAt}
use Rattle.builder.specs.declared.ticket.Ticket.{Ticket}
use Rattle.builder.specs.declared.queue.QueueEnd.{QueueEnd}
use Rattle.builder.specs.Queue.{producer}
use Rattle.builder.specs.Tickets.{AreGoals, AreStops}

-- the token of the producer of a queue that has this name: goals alone were put, and no end came back
pub record IsFilling {Q M L A : Type 0} (table : TableId) (key : Badge (Key Ticket)) (out : ℕ) (ring : Rows (Badge (Key Ticket)) (Doing Ticket QueueEnd) Q M (Key Ticket) L A) (token : Pass Ticket QueueEnd) : Type 0 where
  pub seat : IsSeatAt ring token
  pub table_is : token.table_id ≡ table
  pub key_is : token.me.0.of ≡ key
  pub producer_is : view token ≡ producer (view token).put out []
  pub goals : AreGoals (view token).put

-- what a source gave was put into an empty queue, and then Stops
pub record FedAndStopped (gave : List Ticket → Type 0) (old new : QueueEnd) : Type 0 where
  pub tickets : List Ticket
  pub gives : gave tickets
  pub goals : AreGoals tickets
  pub stops : List Ticket
  pub are : AreStops stops
  pub put : new ≡ producer (tickets ++ stops) old.out []
