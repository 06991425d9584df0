use Rattle.std.proofs.Common.{◌≡◌, ◌++◌, ◌∷◌, [], false, ap, sym, ◌∙◌}
use Rattle.std.specs.Prelude.{is_some, bytes_eq}
use Rattle.std.specs.Map.{lookup}
use Rattle.indexmap.proofs.CallerLemmas.{insert_entry-new}
use Rattle.rewrite.proofs.ImageLemmas.{none_there}
use Rattle.resolving.proofs.served.put_first.Goals as goal

pub returns-in_ok-_none : goal.returns-in_ok-_none
returns-in_ok-_none c =
    let table = c.args.paths.now.entries in
    let class = c.args.class.now in
    let none : is_some (lookup (bytes_eq class) table) ≡ false = sym c.if-not-contains_key.ensures in
    let put : c.insert.new.self.entries ≡ table ++ (c.in_ok-clone.field-0, c.in_ok-clone-2.field-0) ∷ [] =
    c.in_ok-_none.ensures.entries ∙ insert_entry-new bytes_eq c.args.paths.now c.in_ok-clone.field-0 c.in_ok-clone-2.field-0
    (ap (λ k. lookup (bytes_eq k) table) c.in_ok-clone.ensures.cases ∙ none_there (lookup (bytes_eq class) table) none) in
    rw none (put ∙ ap (λ k. table ++ (k, c.in_ok-clone-2.field-0) ∷ []) c.in_ok-clone.ensures.cases
    ∙ ap (λ p. table ++ (class, p) ∷ []) c.in_ok-clone-2.ensures.cases)
