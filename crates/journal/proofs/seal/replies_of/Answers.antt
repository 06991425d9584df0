use Rattle.std.proofs.Common.{◌≡◌, ◌-◌, ℕ, List, length, drop, sym, ◌∙◌, ap, arith, length-drop}
use Rattle.std.proofs.lemmas.List.{take_all}
use Rattle.std.proofs.lemmas.Slice.Eq.{bytes_eq-Decides}
use Rattle.std.specs.Prelude.{slice_range}
use Rattle.hex.specs.Hex.{decode_sized}
use Rattle.journal.specs.Seals.{seal_of}
use Rattle.journal.proofs.SealLemmas.{length-seal, decodes}
use Rattle.journal.proofs.seal.replies_of.Goals as goal

-- the end of a row
row_end : (row digits : List ℕ) → digits ≡ slice_range row 73 (length row) → digits ≡ drop 73 row
row_end row digits is = is ∙ take_all (length row - 73) (drop 73 row) (omega (arith, length-drop 73 row))

pub returns-in_default : goal.returns-in_default
returns-in_default c = λ digest is same.
    let some = c.get.ensures.lookup.1 (length-seal c.args.before.now c.told-before digest c.args.row.now same, omega arith) in
    let none = rw c.in_default.is at some in
    absurd (cc none)

pub returns-in_default-from_hex : goal.returns-in_default-from_hex
returns-in_default-from_hex c = λ digest is same.
    let here = row_end c.args.row.now c.in-Some.digits.now c.in-Some.ensures.lookup.0.2 in
    c.in_default-from_hex.not-Ok digest
    (c.from_hex.ensures ∙ ap (λ (l : List ℕ). decode_sized l 32) here ∙ decodes c.args.before.now c.told-before digest c.args.row.now is same)

pub returns-then-eq : goal.returns-then-eq
returns-then-eq c = (
  c.seal_of.ensures.digest,
  sym ((bytes_eq-Decides c.as_slice.result.now c.args.row.now).0 (sym c.eq.ensures ∙ c.if-eq.true)) ∙ c.as_slice.ensures.value ∙ c.in_ok-seal.ensures.row,
)

pub returns : goal.returns
returns c = λ digest is same.
    let here = row_end c.args.row.now c.in-Some.digits.now c.in-Some.ensures.lookup.0.2 in
    let found = decodes c.args.before.now c.told-before digest c.args.row.now is same in
    let given = c.in-Ok.ensures ∙ ap (λ (l : List ℕ). decode_sized l 32) here ∙ found in
    let equal : c.in-Ok.replies ≡ digest = cc given in
    let is_row : c.as_slice.result.now ≡ c.args.row.now =
    c.as_slice.ensures.value ∙ c.in_ok-seal.ensures.row ∙ ap (λ (l : List ℕ). seal_of c.args.before.now l) equal ∙ sym same in
    let told = sym c.if-eq.false ∙ c.eq.ensures ∙ (bytes_eq-Decides c.as_slice.result.now c.args.row.now).1 is_row in
    absurd (cc told)
