use Rattle.std.proofs.Common.{◌/◌, ap, ◌∙◌, get_or, length}
use Rattle.path_sets.specs.Slots.{slot_of}
use Rattle.path_sets.proofs.SlotLemmas.{none_set, zeros}
use Rattle.path_sets.proofs.slots.Slots.new.Goals as goal

pub returns : goal.returns
returns c = λ w.
    let slot = slot_of (length c.in_ok-vec.field-0.items) w in
    none_set c.in_ok-vec.field-0.items slot
    (ap (λ words. get_or words (slot / 64) 0) (c.in_ok-vec.ensures.items_if_clones_equal (λ y same. same)) ∙ zeros c.words_for-words.result (slot / 64))
