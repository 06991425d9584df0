use Rattle.std.proofs.Common.{List, ℕ, ◌∷◌, [], ◌++◌, ◌∙◌, ap, sym, arith}
use Rattle.journal.specs.Rows.{at_rest}
use Rattle.journal.proofs.RowLemmas.{rest_more, rest_rows}
use Rattle.journal.proofs.rows.Rows.and.Goals as goal

pub returns : goal.returns
returns c =
    let last = c.in_ok-extend_from_slice-3.ensures.items
    ∙ ap (λ (l : List ℕ). l ++ 10 ∷ 35 ∷ []) (c.in_ok-extend_from_slice-2.ensures.items
    ∙ ap (λ (l : List ℕ). l ++ c.args.row.now) c.in_ok-extend_from_slice.ensures.items) in
    rest_rows c.args.self.bytes.items c.args.row.now _ c.requires
    (rest_more c.args.self.bytes.items c.args.row.now c.pop-gate.new.self.items _ c.args.self.bytes.len
    (omega (arith, c.args.self.bytes.ok.0)) c.args.self.rest c.pop-gate.ensures.rest last)

pub invariant_of-result : goal.invariant_of-result
invariant_of-result c =
    let last = c.in_ok-extend_from_slice-3.ensures.items
    ∙ ap (λ (l : List ℕ). l ++ 10 ∷ 35 ∷ []) (c.in_ok-extend_from_slice-2.ensures.items
    ∙ ap (λ (l : List ℕ). l ++ c.args.row.now) c.in_ok-extend_from_slice.ensures.items) in
    let is = rest_more c.args.self.bytes.items c.args.row.now c.pop-gate.new.self.items _ c.args.self.bytes.len
    (omega (arith, c.args.self.bytes.ok.0)) c.args.self.rest c.pop-gate.ensures.rest last in
    record { rest = is ∙ ap at_rest (sym (rest_rows c.args.self.bytes.items c.args.row.now _ c.requires is)) }
