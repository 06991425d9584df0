use Rattle.std.proofs.Common.{◌≡◌, ◌+◌, ◌-◌, ◌*◌, [], length, true}
use Rattle.nar.specs.NodeTrees.{last_name_of}
use Rattle.tree_text.specs.TextReading.{items_at, text_at}
use Rattle.nar.proofs.ReadEntries.{behind}
use Rattle.tree_text.proofs.reader.+parse.Given as goal

abbrev pub decreases-read_text : goal.decreases-read_text
decreases-read_text l = 4 * l.depth

abbrev pub decreases-read_item : goal.decreases-read_item
decreases-read_item l = 4 * l.depth + 1

abbrev pub decreases-read_items : goal.decreases-read_items
decreases-read_items l = 4 * l.depth + 2

abbrev pub decreases-read_listed : goal.decreases-read_listed
decreases-read_listed l = 4 * l.depth + 3

abbrev pub invariant-read_items-loop : goal.invariant-read_items-loop
invariant-read_items-loop l =
    let node = text_at l.depth in
    let left = length l.bytes - l.counter in
    items_at node (length l.bytes) true [] l.bytes ≡ behind l.entries.items (items_at node left l.first (last_name_of l.entries.items) l.rest)
