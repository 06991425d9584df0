use Rattle.std.proofs.Common.{rules, ◌≡◌, ◌<◌, ◌/◌, ◌%◌, length, get_or, set, ap, ◌∙◌, arith, refl, ℕ, List, eqb}
use Rattle.std.specs.Prelude.{◌||◌}
use Rattle.std.proofs.lemmas.List.{get_or_read_under, length-set}
use Rattle.path_sets.specs.Slots.{is_marked, is_set, slot_of, with_mark}
use Rattle.path_sets.proofs.SlotLemmas.{bit_more, with_bit}
use Rattle.path_sets.proofs.slots.Slots.mark.Goals as goal

pub returns : goal.returns
returns c =
    let words : List ℕ = c.self.inside.words.items in
    let long : c.len.result ≡ length words = search rules in
    let slot : ℕ = c.slot_of-slot.result in
    let inside : slot / 64 < length words = let below = c.slot_of-slot.ensures.below in omega (arith, long, below) in
    let word = get_or_read_under words (slot / 64) (length words) c.index_mut.result.now 0 c.index_mut.ensures.value inside refl in
    let now : List ℕ = set words (slot / 64) (with_bit (get_or words (slot / 64) 0) (slot % 64)) in
    λ w. ap (λ n. is_marked (set words (slot / 64) (with_bit n (slot % 64))) w) word
    ∙ ap (λ n. is_set now (slot_of n w)) (length-set words (slot / 64) (with_bit (get_or words (slot / 64) 0) (slot % 64)))
    ∙ bit_more words slot inside (slot_of (length words) w)
    ∙ ap (λ n. eqb n (slot_of (length words) w) || is_marked words w) (c.slot_of-slot.ensures.slot ∙ ap (λ n. slot_of n c.args.digits.now) long)
    ∙ ap (λ ws. with_mark c.args.digits.now ws w) c.self.view_is
