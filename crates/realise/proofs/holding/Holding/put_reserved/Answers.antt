use Rattle.std.proofs.Common.{◌≡◌, ◌+◌, ◌<◌, ◌^◌, List, ℕ, false, ap, sym, subst, ◌∙◌, arith}
use Rattle.std.specs.Prelude.{bytes_eq}
use Rattle.std.specs.List.{list_any}
use Rattle.indexmap.proofs.CallerLemmas.{insert_entry-new}
use Rattle.realise.specs.Held.{Held, paths_held, bytes_held, with_archive}
use Rattle.realise.proofs.HoldingLemmas.{absent_held, put_last, bytes_last}
use Rattle.realise.proofs.holding.Holding.put_reserved.Goals as goal

pub overflow_add-self : goal.overflow_add-self
overflow_add-self c =
    let held : List (List ℕ × ℕ) = c.self.inside.archives.entries in
    let a : List ℕ × ℕ = (c.args.path, c.args.archive) in
    let absent : list_any (bytes_eq c.args.path) (paths_held held) ≡ false =
    ap (λ (h : Held). list_any (bytes_eq c.args.path) (paths_held h.archives)) c.self.view_is ∙ sym c.has.ensures ∙ c.if-has.false in
    let bytes : bytes_held (with_archive a held) ≡ bytes_held held + c.args.archive = ap bytes_held (put_last held a absent) ∙ bytes_last held a in
    let fits : bytes_held (with_archive a held) < 2 ^ 64 =
    subst (λ (h : Held). bytes_held (with_archive a h.archives) < 2 ^ 64) (sym c.self.view_is) c.requires.fits in
    omega (arith, c.self.invariant, bytes, fits)

pub invariant_of-self : goal.invariant_of-self
invariant_of-self c =
    let held : List (List ℕ × ℕ) = c.self.inside.archives.entries in
    let absent : list_any (bytes_eq c.args.path) (paths_held held) ≡ false =
    ap (λ (h : Held). list_any (bytes_eq c.args.path) (paths_held h.archives)) c.self.view_is ∙ sym c.has.ensures ∙ c.if-has.false in
    let entries = rw c.unwrap-absent.ensures at c.insert.ensures.entries in
    ap (λ n. n + c.args.archive) c.self.invariant ∙ sym (bytes_last held (c.args.path, c.args.archive))
    ∙ ap bytes_held (sym (entries ∙ insert_entry-new bytes_eq c.self.inside.archives c.args.path c.args.archive (absent_held c.args.path held absent)))

pub returns-clause-put : goal.returns-clause-put
returns-clause-put c =
    let held : List (List ℕ × ℕ) = c.self.inside.archives.entries in
    let absent : list_any (bytes_eq c.args.path) (paths_held held) ≡ false =
    ap (λ (h : Held). list_any (bytes_eq c.args.path) (paths_held h.archives)) c.self.view_is ∙ sym c.has.ensures ∙ c.if-has.false in
    let entries = rw c.unwrap-absent.ensures at c.insert.ensures.entries in
    entries ∙ insert_entry-new bytes_eq c.self.inside.archives c.args.path c.args.archive (absent_held c.args.path held absent)
    ∙ sym (put_last held (c.args.path, c.args.archive) absent) ∙ ap (λ (h : Held). with_archive (c.args.path, c.args.archive) h.archives) c.self.view_is
