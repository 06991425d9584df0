use Rattle.std.proofs.Common.{rules, ◌≡◌, ◌+◌, ◌++◌, ◌<◌, ◌∷◌, [], true, false, not, List, ℕ, length, drop, map, refl, sym, ap, ◌∙◌, subst, arith}
use Rattle.std.specs.Prelude.{bytes_eq}
use Rattle.std.specs.List.{list_any}
use Rattle.std.proofs.lemmas.Bool.{not-true, not-false}
use Rattle.indexmap.specs.IndexSet.{insert_key}
use Rattle.records.specs.declared.desk_entry.DeskEntry.{DeskEntry}
use Rattle.realise.specs.Held.{paths_held, charged_beside}
use Rattle.records.specs.DeskEntries.{entry_path}
use Rattle.realise.specs.Holdings.{archive_of}
use Rattle.realise.proofs.ChargingLemmas.{among, beside, counted_again, counted_first, counted_fits}
use Rattle.realise.proofs.holding.Holding.charged_beside.Goals.{then-branch, else-branch}
use Rattle.realise.proofs.holding.Holding.charged_beside.Goals as goal

pub loop-entry-preserved-then-has : goal.loop-entry-preserved-then-has
loop-entry-preserved-then-has c =
    let held = paths_held c.args.self.now.archives in
    let e : DeskEntry × ℕ = c.entry-item.result in
    let counted : List (List ℕ) = c.loop-entry.counted.keys in
    let there : list_any (bytes_eq (entry_path e.0)) held ≡ true = search rules in
    counted_again held counted c.args.entries.now c.loop-entry.entry-index c.loop-entry.more e (omega arith) c.entry-item.is c.loop-entry.invariant
    (among (bytes_eq (entry_path e.0)) held counted there)

pub overflow_add-more : goal.overflow_add-more
overflow_add-more c =
    let held = paths_held c.args.self.now.archives in
    let e : DeskEntry × ℕ = c.entry-item.result in
    let counted : List (List ℕ) = c.loop-entry.counted.keys in
    let absent : list_any (bytes_eq (entry_path e.0)) held ≡ false = search rules in
    let copy : c.in_ok-clone.field-0 ≡ entry_path e.0 = search rules in
    let new : list_any (bytes_eq c.in_ok-clone.field-0) counted ≡ false = not-true _ (sym c.in_ok-insert.ensures.added ∙ c.if-branch.true) in
    let both = beside (bytes_eq (entry_path e.0)) held counted absent ∙ ap (λ p. list_any (bytes_eq p) counted) (sym copy) ∙ new in
    let fits = counted_fits held counted c.args.entries.now c.loop-entry.entry-index c.loop-entry.more e (omega arith) c.entry-item.is c.loop-entry.invariant in
    omega (arith, fits both c.requires.countable)

pub loop-entry-preserved : goal.loop-entry-preserved
loop-entry-preserved c =
    let held = paths_held c.args.self.now.archives in
    let e : DeskEntry × ℕ = c.entry-item.result in
    let path = entry_path e.0 in
    let entries = c.args.entries.now in
    let counted : List (List ℕ) = c.loop-entry.counted.keys in
    let lt : c.loop-entry.entry-index < length entries = omega arith in
    let absent : list_any (bytes_eq path) held ≡ false = search rules in
    let copy : c.in_ok-clone.field-0 ≡ path = search rules in
    let keys : c.insert.new.self.keys ≡ insert_key bytes_eq counted path = c.in_ok-insert.ensures.keys ∙ ap (insert_key bytes_eq counted) copy in
    let added : c.in_ok-insert.field-0 ≡ not (list_any (bytes_eq path) counted) =
    c.in_ok-insert.ensures.added ∙ ap (λ p. not (list_any (bytes_eq p) counted)) copy in
    let both = beside (bytes_eq path) held counted absent in
    let Counted : List (List ℕ) → ℕ → Type 0 = λ ks more.
    more + charged_beside (map archive_of (drop (c.loop-entry.entry-index + 1) entries)) (held ++ ks) ≡ charged_beside (map archive_of entries) held in
    elim c.if-branch.branch [
      | then-branch w ↦
          let new : list_any (bytes_eq path) counted ≡ false = not-true _ (sym added ∙ w.if-branch.true) in
          let put : c.insert.new.self.keys ≡ counted ++ path ∷ [] = keys ∙ rw new refl in
          subst (Counted c.insert.new.self.keys) (sym w.more-is) (subst (λ ks. Counted ks (c.loop-entry.more + e.1)) (sym put)
          (counted_first held counted entries c.loop-entry.entry-index c.loop-entry.more e lt c.entry-item.is c.loop-entry.invariant (both ∙ new)))
      | else-branch w ↦
          let old : list_any (bytes_eq path) counted ≡ true = not-false _ (sym added ∙ w.if-branch.false) in
          let put : c.insert.new.self.keys ≡ counted = keys ∙ rw old refl in
          subst (Counted c.insert.new.self.keys) (sym w.more-is) (subst (λ ks. Counted ks c.loop-entry.more) (sym put)
          (counted_again held counted entries c.loop-entry.entry-index c.loop-entry.more e lt c.entry-item.is c.loop-entry.invariant (both ∙ old)))
    ]
