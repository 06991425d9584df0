use Rattle.std.proofs.Common.{◌≡◌, ◌+◌, ◌<◌, ◌^◌, ℕ, List, ap, refl, sym, ◌∙◌, subst, arith}
use Rattle.model.specs.Classes.{Known}
use Rattle.records.specs.Recorded.{Recorded}
use Rattle.realise.specs.declared.desk.Desk.TheInside.{Inside}
use Rattle.realise.specs.Held.{Held, bytes_held, with_archive}
use Rattle.records.specs.DeskEntries.{entry_path}
use Rattle.realise.specs.Holdings.{Holdings, charged_more, holds_entry, known_with, IsNewSource, IsClosedWithEntry}
use Rattle.realise.specs.Kept.{holdings_of, IsConsistent}
use Rattle.realise.proofs.KeepingLemmas.{kept, new_source, entry_bytes, entry_view, entry_kept}
use Rattle.realise.proofs.desk.Desk.add_if.Given.{Over}
use Rattle.realise.proofs.desk.Desk.add_if.Goals as goal

pub put_entry_if-requires-clause-absent : goal.put_entry_if-requires-clause-absent
put_entry_if-requires-clause-absent g c =
    let new = new_source c.args.entry c.args.self.now c.requires.absent in
    subst (λ (d : Holdings). IsNewSource c.args.entry d.known) (sym c.self.view_is) new

pub put_reserved-requires-clause-fits : goal.put_reserved-requires-clause-fits
put_reserved-requires-clause-fits g c =
    let e = c.args.entry in
    let d : Inside = c.self.inside in
    let held : Held = c.reserve.new.self in
    let path : c.in_ok-path.path ≡ entry_path e = c.in_ok-path.ensures.cases ∙ c.path.ensures in
    let bytes = ap (λ (p : List ℕ). bytes_held (with_archive (p, c.args.archive) held.archives)) path
    ∙ entry_bytes d c.self.invariant e c.args.archive held c.in_ok-reserve.ensures.kept in
    let fits : (holdings_of d).charge + charged_more (entry_path e) c.args.archive (holdings_of d) < 2 ^ 64 =
    subst (λ (h : Holdings). h.charge + charged_more (entry_path e) c.args.archive h < 2 ^ 64) (sym c.self.view_is) c.requires.fits in
    omega (arith, bytes, fits)

pub invariant_of-self : goal.invariant_of-self
invariant_of-self g c = kept c.self.inside c.self.inside.known c.self.inside.records c.reserve.new.self refl refl c.in_err-reserve.ensures.kept c.self.invariant

pub invariant_of-self-in_err-path : goal.invariant_of-self-in_err-path
invariant_of-self-in_err-path g c =
    kept c.self.inside c.self.inside.known c.self.inside.records c.reserve.new.self refl refl c.in_ok-reserve.ensures.kept c.self.invariant

pub invariant_of-self-in_err-told : goal.invariant_of-self-in_err-told
invariant_of-self-in_err-told g c =
    kept c.self.inside c.put_entry_if.new.known c.put_entry_if.new.records c.reserve.new.self c.in_err-told.ensures.1 c.in_err-told.ensures.2
    c.in_ok-reserve.ensures.kept c.self.invariant

-- after its path was put
module _ (g : Over) (c : goal.After-put_reserved g) where
  put : c.put_reserved.new.self.archives ≡ with_archive (entry_path c.args.entry, c.args.archive) c.reserve.new.self.archives
  put =
      c.put_reserved.ensures.put
      ∙ ap (λ (p : List ℕ). with_archive (p, c.args.archive) c.reserve.new.self.archives) (c.in_ok-path.ensures.cases ∙ c.path.ensures)

pub invariant_of-self-2 : goal.invariant_of-self-2
invariant_of-self-2 g c =
    let e = c.args.entry in
    let d : Inside = c.self.inside in
    let own : IsClosedWithEntry (holdings_of d) e = subst (λ (h : Holdings). IsClosedWithEntry h e) (sym c.self.view_is) c.requires.closed in
    subst (λ (known : Known). IsConsistent (record d { known = known; records = c.put_entry_if.new.records; holding = c.put_reserved.new.self }))
    (sym c.in_ok-told.ensures.1)
    (subst (λ (records : List Recorded). IsConsistent (record d { known = known_with e d.known; records = records; holding = c.put_reserved.new.self }))
    (sym c.in_ok-told.ensures.2)
    (entry_kept d c.self.invariant e c.args.archive c.reserve.new.self c.put_reserved.new.self own c.in_ok-reserve.ensures.kept (put g c)))

pub returns : goal.returns
returns g c =
    let e = c.args.entry in
    let d : Inside = c.self.inside in
    let told = c.in_ok-told.ensures in (
      told.0,
      (λ i. holdings_of (record d { known = told.1 i; records = told.2 i; holding = c.put_reserved.new.self }))
          ∙ entry_view d c.self.invariant e c.args.archive c.reserve.new.self c.put_reserved.new.self c.in_ok-reserve.ensures.kept (put g c)
          ∙ ap (holds_entry e c.args.archive) c.self.view_is,
    )
