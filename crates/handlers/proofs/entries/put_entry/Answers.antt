use Rattle.std.proofs.Common.{◌≡◌, ℕ, inl, inr, refl, ◌∙◌, ap, subst, rules, List, Bool, true, false, Some, None}
use Rattle.std.specs.Prelude.{if◌then◌else◌}
use Rattle.std.proofs.lemmas.Result.{err_from_is_err_and}
use Rattle.model.specs.Archives.{Tree}
use Rattle.model.specs.Worlds.{Source, tree_at}
use Rattle.store.specs.Stored.{put_once}
use Rattle.handlers.specs.Adding.{IsFree}
use Rattle.handlers.proofs.entries.put_entry.Goals as goal

pub returns-in_err-reserve : goal.returns-in_err-reserve
returns-in_err-reserve c =
    let p = err_from_is_err_and c.from_residual.result c.from_residual.ensures.1 in
    rw (p.1, p.2) (record {
      free = tt;
      desk = tt;
      table = tt;
      there = tt;
      kept = record { sources = c.in_err-reserve.ensures.kept; desk = refl };
      refused = inl refl;
    })

pub returns-in_err-is_stored : goal.returns-in_err-is_stored
returns-in_err-is_stored c =
    let p = err_from_is_err_and c.from_residual-in_err-is_stored.result c.from_residual-in_err-is_stored.ensures.1 in
    let e = c.in_err-is_stored.ensures in
    rw (p.1, p.2) (record {
      free = tt;
      desk = tt;
      table = tt;
      there = tt;
      kept = record { sources = c.in_ok-reserve.ensures.kept; desk = e.1 };
      refused = elim e.0 [
        | inl memory ↦ inl memory
        | inr told ↦ inr (search rules)
      ];
    })

pub add_if-requires-clause-absent : goal.add_if-requires-clause-absent
add_if-requires-clause-absent c = c.requires.absent

pub add_if-requires-clause-closed : goal.add_if-requires-clause-closed
add_if-requires-clause-closed c = c.requires.closed

pub put_new-requires-clause-stored : goal.put_new-requires-clause-stored
put_new-requires-clause-stored c = search rules

free_if : (path : List ℕ) (tree : Tree) (sources : List Source) (is : Bool) → tree_at path sources ≡ (if is then Some tree else None) → IsFree path tree sources
free_if path tree sources true stored = inr stored
free_if path tree sources false stored = inl stored

pub returns-clause-free : goal.returns-clause-free
returns-clause-free c =
    let stored : tree_at c.args.path c.reserve.new.self.sources ≡ (if c.in_ok-is_stored.is_stored then Some c.args.tree else None) = search rules in
    subst (IsFree c.args.path c.args.tree) c.in_ok-reserve.ensures.kept
    (free_if c.args.path c.args.tree c.reserve.new.self.sources c.in_ok-is_stored.is_stored stored)

pub returns-clause-table : goal.returns-clause-table
returns-clause-table c =
    c.put_new.ensures.stored ∙ ap (put_once (record { path = c.args.path; tree = c.args.tree })) c.in_ok-reserve.ensures.kept
