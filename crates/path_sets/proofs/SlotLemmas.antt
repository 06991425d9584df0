-- Slots of hash parts.
use Rattle.std.proofs.Common.{◌≡◌, ℕ, ◌<◌, ◌*◌, ◌/◌, ◌%◌, ◌^◌, inl, inr, true, false, eqb, List, [], ◌∷◌, ◌++◌, length, get_or, set, replicate, refl, ap, sym, ◌∙◌, subst, arith, w64}
use Rattle.std.specs.Prelude.{◌||◌, bit_and, bit_or}
use Rattle.std.specs.Int.{bit_at}
use Rattle.std.specs.Str.{bytes_eq}
use Rattle.std.proofs.Math.Bool.{or-true}
use Rattle.std.proofs.lemmas.Bool.{false≢true, or_cases, cases_eq, cases_lt, ne_eqb, eq-eqb}
use Rattle.std.proofs.lemmas.List.{get_or-replicate, get_or-set_same, get_or-set_other, get_or_past, length-replicate}
use Rattle.std.proofs.lemmas.List.Folds.{list_any-append}
use Rattle.std.proofs.lemmas.Nat.Bits.{bit_at_set_same, bit_at_set_other, bit_at-zero, shr_and_one}
use Rattle.std.proofs.lemmas.Slice.Eq.{bytes_eq-Decides}
use Rattle.model.specs.Occurrences.{among}
use Rattle.path_sets.specs.Slots.{is_marked, is_set, slot_of, with_mark}

-- ---- bits of words

-- a word of which one bit more is set
abbrev pub with_bit : ℕ → ℕ → ℕ
with_bit word bit = bit_or word (1 * 2 ^ bit % 2 ^ 64)

-- no bit of zeros is set
pub none_set : (words : List ℕ) (slot : ℕ) → get_or words (slot / 64) 0 ≡ 0 → is_set words slot ≡ false
unfolding is_set
none_set words slot zero = ap (λ word. eqb (bit_at word (slot % 64)) 1) zero ∙ ap (λ b. eqb b 1) (bit_at-zero (slot % 64))

-- words of zeros
pub zeros : (count i : ℕ) → get_or {A = ℕ} (replicate count 0) i 0 ≡ 0
zeros count i = elim (cases_lt i count) [
  | inl inside ↦ get_or-replicate count i 0 0 inside
  | inr past ↦ get_or_past (replicate count 0) i 0 (let long = length-replicate {A = ℕ} count 0 in omega (arith, long, past))
]

-- how a bit is read
pub read_bit : (words : List ℕ) (slot : ℕ) → eqb (bit_and (get_or words (slot / 64) 0 / 2 ^ (slot % 64)) 1) 1 ≡ is_set words slot
unfolding is_set
read_bit words slot = ap (λ b. eqb b 1) (shr_and_one (get_or words (slot / 64) 0) (slot % 64))

-- a bit that is set, and no other has changed
module _ (words : List ℕ) (slot : ℕ) (inside : slot / 64 < length words) where
  abbrev word : ℕ
  word = get_or words (slot / 64) 0

  abbrev pub now : List ℕ
  now = set words (slot / 64) (with_bit word (slot % 64))

  here : get_or now (slot / 64) 0 ≡ with_bit word (slot % 64)
  here = get_or-set_same words (slot / 64) (with_bit word (slot % 64)) 0 inside

  same_bit : is_set now slot ≡ true
  unfolding is_set
  same_bit = eq-eqb (bit_at (get_or now (slot / 64) 0) (slot % 64)) 1
      (ap (λ w. bit_at w (slot % 64)) here ∙ bit_at_set_same w64 word (slot % 64) (omega arith))

  other_bit : (other : ℕ) → (slot ≡ other → ⊥) → is_set now other ≡ is_set words other
  unfolding is_set
  other_bit other apart =
      ap (λ b. eqb b 1) (elim (cases_eq (other / 64) (slot / 64)) [
        | inl shared ↦ ap (λ n. bit_at (get_or now n 0) (other % 64)) shared ∙ ap (λ w. bit_at w (other % 64)) here
            ∙ bit_at_set_other w64 word (slot % 64) (omega arith) (other % 64) (λ bit. apart (omega (arith, bit, shared)))
            ∙ ap (λ n. bit_at (get_or words n 0) (other % 64)) (sym shared)
        | inr elsewhere ↦ ap (λ w. bit_at w (other % 64)) (get_or-set_other words (slot / 64) (other / 64) (with_bit word (slot % 64)) 0 elsewhere)
      ])

  pub bit_more : (other : ℕ) → is_set now other ≡ (eqb slot other || is_set words other)
  bit_more other = elim (cases_eq slot other) [
    | inl same ↦ subst (λ n. is_set now n ≡ (eqb slot n || is_set words n)) same (same_bit ∙ sym (ap (λ b. b || is_set words slot) (eq-eqb slot slot refl)))
    | inr apart ↦ other_bit other apart ∙ sym (ap (λ b. b || is_set words other) (ne_eqb slot other apart))
  ]

-- ---- hash parts

-- where the slot of one hash part more is marked, the slots of all are
pub marked_more : (parts : List (List ℕ)) (old new part window : List ℕ) → (among parts window ≡ true → is_marked old window ≡ true)
    → is_marked new window ≡ with_mark part old window
    → among (parts ++ part ∷ []) window ≡ true → is_marked new window ≡ true
marked_more parts old new part window marked more there =
    more ∙ elim (or_cases (among parts window) (bytes_eq part window || false) (sym (list_any-append (λ p. bytes_eq p window) parts (part ∷ [])) ∙ there)) [
      | inl before ↦ ap (λ b. eqb (slot_of (length old) part) (slot_of (length old) window) || b) (marked before)
          ∙ or-true (eqb (slot_of (length old) part) (slot_of (length old) window))
      | inr last ↦ elim (or_cases (bytes_eq part window) false last) [
        | inl same ↦ ap (λ b. b || is_marked old window) (eq-eqb (slot_of (length old) part) (slot_of (length old) window)
            (ap (slot_of (length old)) ((bytes_eq-Decides part window).0 same)))
        | inr never ↦ absurd (false≢true never)
      ]
    ]
