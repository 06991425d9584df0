use Rattle.std.proofs.Common.{◌≡◌, ℕ, ◌+◌, List, ◌∷◌, [], ◌++◌, length, get_or, drop, map, refl, sym, ◌∙◌, ap, append_assoc, arith}
use Rattle.std.proofs.lemmas.Result.{err_from_is_err_and}
use Rattle.model.specs.Worlds.{Entry, Label}
use Rattle.model.specs.Endings.{label_of_entry}
use Rattle.records.proofs.LoopLemmas.{drop_next}
use Rattle.records.proofs.resolved.Resolved.labels.Goals as goal

pub returns-in_err-label_of : goal.returns-in_err-label_of
returns-in_err-label_of c =
    let p = err_from_is_err_and c.from_residual.result c.from_residual.ensures.1 in
    rw (p.1, p.2) (record { labels = tt; in_order = tt; memory = refl })

pub returns-in_err-push : goal.returns-in_err-push
returns-in_err-push c =
    let p = err_from_is_err_and c.from_residual-in_err-push.result c.from_residual-in_err-push.ensures.1 in
    rw (p.1, p.2) (record { labels = tt; in_order = tt; memory = refl })

pub loop-entry-preserved : goal.loop-entry-preserved
loop-entry-preserved c =
    let i : ℕ = c.loop-entry.entry-index in
    let all : List Entry = c.args.self.now.closure in
    let are : c.closure-entry-items.result.now ≡ all = c.closure-entry-items.ensures in
    let e : Entry = c.entry-item.result in
    let entry : e ≡ get_or all i e = c.entry-item.is ∙ ap (λ (es : List Entry). get_or es i e) are in
    let split : drop i all ≡ e ∷ drop (i + 1) all = drop_next all i e (let count = ap length are in omega (arith, count)) entry in
    let rest : List Label = map label_of_entry (drop (i + 1) all) in
    ap (λ ls. ls ++ rest) (c.in_ok-push.ensures.items ∙ ap (λ (l : Label). c.loop-entry.labels.items ++ l ∷ []) c.in_ok-label_of.ensures)
    ∙ append_assoc c.loop-entry.labels.items (label_of_entry e ∷ []) rest
    ∙ ap (λ es. c.loop-entry.labels.items ++ map label_of_entry es) (sym split)
    ∙ c.loop-entry.invariant
