use Rattle.std.proofs.Common.{rules, ◌≡◌, ◌<◌, ◌/◌, ◌%◌, ◌^◌, ap, ◌∙◌, eqb, refl, length, arith, List, ℕ}
use Rattle.std.proofs.lemmas.List.{get_or_read_under}
use Rattle.std.specs.Prelude.{bit_and}
use Rattle.path_sets.specs.Slots.{is_marked, is_set, slot_of}
use Rattle.path_sets.proofs.SlotLemmas.{read_bit}
use Rattle.path_sets.proofs.slots.Slots.are_marked.Goals as goal

pub returns : goal.returns
returns c =
    let words : List ℕ = c.self.inside.words.items in
    let long : c.len.result ≡ length words = search rules in
    let slot : ℕ = c.slot_of-slot.result in
    let inside : slot / 64 < length words = let below = c.slot_of-slot.ensures.below in omega (arith, long, below) in
    let word = get_or_read_under words (slot / 64) (length words) c.index.result.now 0 c.index.ensures inside refl in
    ap (λ n. eqb (bit_and (n / 2 ^ (slot % 64)) 1) 1) word ∙ read_bit words slot
    ∙ ap (is_set words) (c.slot_of-slot.ensures.slot ∙ ap (λ n. slot_of n c.args.window.now) long)
    ∙ ap (λ ws. is_marked ws c.args.window.now) c.self.view_is
