use Rattle.std.proofs.Common.{rules, ◌≡◌, ◌++◌, ◌-◌, ◌<◌, ◌+◌, List, ◌∷◌, [], length, true, false, codes, arith, subst, sym, ap, ◌∙◌}
use Rattle.std.proofs.lemmas.Result.{err_from_is_err_and}
use Rattle.std.specs.Str.{bytes_eq}
use Rattle.model.proofs.ReadingLemmas.{fails_on}
use Rattle.nar.specs.NodeTrees.{last_name_of, NamedNode}
use Rattle.tree_text.specs.TextReading.{items_at, item_at, text_at, closes}
use Rattle.nar.proofs.ReadEntries.{behind}
use Rattle.tree_text.proofs.ReadItems.{text_at-listed, text_at-leaf, items_at-closing, items_at-no_separator, items_at-bad_item, items_at-push}
use Rattle.tree_text.proofs.reader.+parse.Goals as goal

pub read_text-returns-then-eq : goal.read_text-returns-then-eq
read_text-returns-then-eq t c =
    let some : 0 < c.args.depth = omega arith in
    let is : bytes_eq c.in_ok-kind.kind.now (codes "d(") ≡ true = search rules in
    rw (text_at-listed c.args.depth c.args.bytes.now c.in_ok-kind.kind.now c.in_ok-kind.rest.now some c.in_ok-kind.ensures.read is) c.read_listed.ensures

pub read_text-returns : goal.read_text-returns
read_text-returns t c =
    let some : 0 < c.args.depth = omega arith in
    let is : bytes_eq c.in_ok-kind.kind.now (codes "d(") ≡ false = search rules in
    rw (text_at-leaf c.args.depth c.args.bytes.now c.in_ok-kind.kind.now c.in_ok-kind.rest.now some c.in_ok-kind.ensures.read is) c.read_leaf.ensures

pub read_items-returns-then-is_closed : goal.read_items-returns-then-is_closed
read_items-returns-then-is_closed t c =
    let here : closes c.loop.rest.now ≡ true = search rules in
    c.loop.invariant ∙ ap (behind c.loop.entries.items) (items_at-closing _ _ _ _ _ here)

pub read_items-returns-in_err-start : goal.read_items-returns-in_err-start
read_items-returns-in_err-start t c =
    let p = err_from_is_err_and c.from_residual.result c.from_residual.ensures.1 in
    let room : 0 < length c.args.bytes.now - c.loop.counter = omega arith in
    let here : closes c.loop.rest.now ≡ false = search rules in
    rw (p.1, p.2)
    (fails_on _ _ _ (λ e. c.loop.invariant ∙ ap (behind c.loop.entries.items) (items_at-no_separator _ _ _ _ _ room here e)) c.in_err-start.ensures)

pub read_items-returns-in_err-entry : goal.read_items-returns-in_err-entry
read_items-returns-in_err-entry t c =
    let p = err_from_is_err_and c.from_residual-in_err-entry.result c.from_residual-in_err-entry.ensures.1 in
    let room : 0 < length c.args.bytes.now - c.loop.counter = omega arith in
    let here : closes c.loop.rest.now ≡ false = search rules in
    let start = c.in_ok-start.start.now in
    let same = ap (λ es. item_at (text_at c.args.depth) (last_name_of es) start) (sym c.deref.ensures.value) in
    rw (p.1, p.2)
    (fails_on _ _ _ (λ e. c.loop.invariant ∙ ap (behind c.loop.entries.items) (items_at-bad_item _ _ _ _ _ _ room here c.in_ok-start.ensures (same ∙ e)))
    c.in_err-entry.ensures)

pub read_items-returns : goal.read_items-returns
unfolding items_at
read_items-returns t c =
    let spent : length c.args.bytes.now - c.loop.counter ≡ 0 = omega arith in
    let es = c.loop.entries.items in
    c.loop.invariant ∙ ap (λ m. behind es (items_at (text_at c.args.depth) m c.loop.first (last_name_of es) c.loop.rest.now)) spent

pub read_items-loop-preserved : goal.read_items-loop-preserved
read_items-loop-preserved t c =
    let e : NamedNode = c.in_ok-entry.entry in
    let es = c.loop.entries.items in
    let pushed : c.push.new.self.items ≡ es ++ e ∷ [] = search rules in
    let here : closes c.loop.rest.now ≡ false = search rules in
    let lt : c.loop.counter < length c.args.bytes.now = omega arith in
    let bytes = c.args.bytes.now in
    let after = c.in_ok-entry.after.now in
    let start = c.in_ok-start.start.now in
    let node = text_at c.args.depth in
    let same = ap (λ xs. item_at node (last_name_of xs) start) (sym c.deref.ensures.value) in
    let read = same ∙ c.in_ok-entry.ensures in
    let More : List NamedNode → Type 0 = λ xs.
    items_at node (length bytes) true [] bytes ≡ behind xs (items_at node (length bytes - (c.loop.counter + 1)) false (last_name_of xs) after) in
    subst More (sym pushed)
    (items_at-push node (length bytes) c.loop.counter bytes c.loop.rest.now start after c.loop.first es e lt here c.in_ok-start.ensures read c.loop.invariant)
