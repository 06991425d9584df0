-- Entries.
use Rattle.std.specs.Prelude.{Bool, false}
use Rattle.model.specs.Worlds as worlds
use Rattle.records.specs.declared.entries.Item.{Item}
use Rattle.records.specs.declared.entries.Item.TheVariants as item

-- what contracts see of an entry
abbrev pub entry_of : Item → worlds.Entry
entry_of (item.Record r) = worlds.OfRecord r
entry_of (item.Source s) = worlds.OfSource s

-- whether an entry is that of a record: of one for the same class at the same path, with the same labels
abbrev pub is_entry_of : worlds.Record → worlds.Entry → Bool
is_entry_of r (worlds.OfSource s) = false
is_entry_of r (worlds.OfRecord q) = worlds.same_record q r
