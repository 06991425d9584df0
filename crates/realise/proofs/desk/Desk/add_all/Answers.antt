use Rattle.std.proofs.Common.{◌≡◌, ◌+◌, ◌<◌, ◌^◌, ℕ, List, refl, sym, ap, subst, ◌∙◌, arith}
use Rattle.path_sets.specs.PathSets.{AreNew}
use Rattle.records.specs.declared.desk_entry.DeskEntry.{DeskEntry}
use Rattle.realise.specs.Held.{paths_held, bytes_held, with_archives, IsSetOf}
use Rattle.realise.specs.Holdings.{Holdings, paths_of, bare, holds_each, charged_all, sources_in, IsClosed}
use Rattle.realise.specs.Kept.{holdings_of}
use Rattle.realise.proofs.SeveralLemmas.{sources_new, made}
use Rattle.realise.proofs.KeepingLemmas.{kept, entries_bytes, entries_held}
use Rattle.realise.proofs.desk.Desk.add_all.Goals as goal

pub invariant_of-self : goal.invariant_of-self
invariant_of-self c =
    kept c.self.inside c.self.inside.known c.self.inside.records c.reserve.new.self refl refl c.in_err-reserve.ensures.kept c.self.invariant

pub put_parts-requires : goal.put_parts-requires
put_parts-requires c =
    let entries : List (DeskEntry × ℕ) = c.args.entries.items in
    let new : AreNew c.self.inside.known.sources (sources_in (bare entries)) =
    subst (λ (d : Holdings). AreNew d.known.sources (sources_in (bare entries))) (sym c.self.view_is)
    (sources_new (bare entries) c.args.self.now c.requires.absent) in
    record { absent = subst (AreNew c.self.inside.known.sources) (sym c.in_ok-parts.ensures.paths_are) new }

pub invariant_of-self-in_err-put_parts : goal.invariant_of-self-in_err-put_parts
invariant_of-self-in_err-put_parts c =
    kept c.self.inside c.put_parts.new.known c.put_parts.new.records c.reserve.new.self c.in_err-put_parts.ensures.1 c.in_err-put_parts.ensures.2
    c.in_ok-reserve.ensures.kept c.self.invariant

pub put_all_reserved-requires-clause-fits : goal.put_all_reserved-requires-clause-fits
put_all_reserved-requires-clause-fits c =
    let entries : List (DeskEntry × ℕ) = c.args.entries.items in
    let d : Holdings = holdings_of c.self.inside in
    let archives : List (List ℕ × ℕ) = c.in_ok-parts.parts.archives.items in
    let fits : d.charge + charged_all entries d < 2 ^ 64 =
    subst (λ (h : Holdings). h.charge + charged_all entries h < 2 ^ 64) (sym c.self.view_is) c.requires.fits in
    let bytes = ap (λ held. bytes_held (with_archives archives held)) c.in_ok-reserve.ensures.kept
    ∙ entries_bytes c.self.inside c.self.invariant entries archives c.in_ok-parts.ensures.archives_are in
    omega (arith, bytes, fits)

-- once all are put
module _ (c : goal.After-put_all_reserved) where
  abbrev entries : List (DeskEntry × ℕ)
  entries = c.args.entries.items

  abbrev before : Holdings
  before = holdings_of c.self.inside

  abbrev archives : List (List ℕ × ℕ)
  archives = c.put_all_reserved.new.self.archives

  abbrev after : Holdings
  after = record before { known = c.put_parts.new.known; records = c.put_parts.new.records; archives = archives; charge = bytes_held archives }

  held : archives ≡ with_archives c.in_ok-parts.parts.archives.items c.self.inside.holding.archives
  held = c.put_all_reserved.ensures ∙ ap (with_archives c.in_ok-parts.parts.archives.items) c.in_ok-reserve.ensures.kept

  view : after ≡ holds_each entries before
  view =
      let parts = c.in_ok-parts.parts in
      let are = c.in_ok-parts.ensures in
      let bytes = ap bytes_held held ∙ entries_bytes c.self.inside c.self.invariant entries parts.archives.items are.archives_are in
      made entries before c.put_parts.new.known parts.sources.items parts.records.items c.put_parts.new.records archives (bytes_held archives)
      are.paths_are are.records_are c.in_ok-put_parts.ensures.0 c.in_ok-put_parts.ensures.1 (held ∙ ap (λ more. with_archives more before.archives) are.archives_are) bytes

pub invariant_of-self-2 : goal.invariant_of-self-2
invariant_of-self-2 c =
    let all = entries c in
    let paths = entries_held c.self.inside c.self.invariant all c.in_ok-parts.parts.archives.items c.in_ok-parts.ensures.archives_are in
    record {
      closed = subst IsClosed (sym (view c)) (subst (λ (h : Holdings). IsClosed (holds_each all h)) (sym c.self.view_is) c.requires.closed);
      held = subst (λ (h : Holdings). IsSetOf (paths_held (archives c)) (paths_of h)) (sym (view c))
          (subst (λ found. IsSetOf (paths_held found) (paths_of (holds_each all (before c)))) (sym (held c)) paths);
    }

pub returns : goal.returns
returns c = view c ∙ ap (holds_each (entries c)) c.self.view_is
