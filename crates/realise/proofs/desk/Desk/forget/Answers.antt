use Rattle.std.proofs.Common.{◌≡◌, ◌++◌, List, ℕ, map, true, false, ap, sym, ◌∙◌, subst}
use Rattle.std.specs.Prelude.{bytes_eq}
use Rattle.std.specs.List.{list_any}
use Rattle.model.specs.Classes.{is_one_of}
use Rattle.records.specs.Recorded.{Recorded}
use Rattle.realise.specs.declared.desk.Desk.TheInside.{Inside}
use Rattle.realise.specs.Held.{paths_held}
use Rattle.desk_records.specs.RecordLists.{is_recorded_at}
use Rattle.realise.specs.Holdings.{Holdings, is_needed, stays_held, without_records}
use Rattle.realise.specs.Kept.{holdings_of}
use Rattle.realise.proofs.ForgettingLemmas.{held_there, kept_view, kept_consistent, gone_view, gone_consistent}
use Rattle.realise.proofs.desk.Desk.forget.Goals as goal

module _ (d : Inside) (h : Holdings) (view : holdings_of d ≡ h) (class path : List ℕ) where
  -- what is asked of the desk is asked of its parts
  is_there_too : list_any (is_recorded_at class path) h.records ≡ true → list_any (is_recorded_at class path) d.records ≡ true
  is_there_too there = subst (λ (x : Holdings). list_any (is_recorded_at class path) x.records ≡ true) (sym view) there

  free_too : is_needed class path h ≡ false → is_needed class path (holdings_of d) ≡ false
  free_too free = subst (λ (x : Holdings). is_needed class path x ≡ false) (sym view) free

pub invariant_of-self : goal.invariant_of-self
invariant_of-self c =
    let d = c.self.inside in
    let class = c.args.class.now in
    let path = c.args.path.now in
    let gone : stays_held class path (holdings_of d) ≡ false =
    ap (λ (rs : List Recorded). is_one_of (d.known.sources ++ map (λ r. r.path) rs) path) (sym (c.remove.ensures)) ∙ sym c.is_there.ensures ∙ c.if-not-is_there.true in
    gone_consistent d c.self.invariant class path c.remove.new.self c.remove.ensures c.remove-then-not-is_there.new.self c.remove-then-not-is_there.ensures.removed
    c.remove-then-not-is_there.ensures.gone gone (free_too d c.args.self.now c.self.view_is class path c.requires.free)

pub invariant_of-self-else-not-is_there : goal.invariant_of-self-else-not-is_there
invariant_of-self-else-not-is_there c =
    let d = c.self.inside in
    let class = c.args.class.now in
    let path = c.args.path.now in
    let stays : stays_held class path (holdings_of d) ≡ true =
    ap (λ (rs : List Recorded). is_one_of (d.known.sources ++ map (λ r. r.path) rs) path) (sym (c.remove.ensures)) ∙ sym c.is_there.ensures ∙ c.if-not-is_there.false in
    kept_consistent d c.self.invariant class path c.remove.new.self c.remove.ensures stays (free_too d c.args.self.now c.self.view_is class path c.requires.free)
    (is_there_too d c.args.self.now c.self.view_is class path c.requires.there)

pub returns-then-not-is_there-clause-value : goal.returns-then-not-is_there-clause-value
returns-then-not-is_there-clause-value c =
    let d = c.self.inside in
    let class = c.args.class.now in
    let path = c.args.path.now in
    let gone : stays_held class path (holdings_of d) ≡ false =
    ap (λ (rs : List Recorded). is_one_of (d.known.sources ++ map (λ r. r.path) rs) path) (sym (c.remove.ensures)) ∙ sym c.is_there.ensures ∙ c.if-not-is_there.true in
    gone_view d c.self.invariant class path c.remove.new.self c.remove.ensures c.remove-then-not-is_there.new.self c.remove-then-not-is_there.ensures.removed
    c.remove-then-not-is_there.ensures.gone gone ∙ ap (without_records class path) c.self.view_is

pub returns-then-not-is_there-clause-held : goal.returns-then-not-is_there-clause-held
returns-then-not-is_there-clause-held c =
    let class = c.args.class.now in
    let path = c.args.path.now in
    subst (λ (x : Holdings). list_any (bytes_eq path) (paths_held x.archives) ≡ true) c.self.view_is
    (held_there c.self.inside c.self.invariant class path (is_there_too c.self.inside c.args.self.now c.self.view_is class path c.requires.there))

pub returns-else-not-is_there-clause-value : goal.returns-else-not-is_there-clause-value
returns-else-not-is_there-clause-value c =
    let d = c.self.inside in
    let class = c.args.class.now in
    let path = c.args.path.now in
    let stays : stays_held class path (holdings_of d) ≡ true =
    ap (λ (rs : List Recorded). is_one_of (d.known.sources ++ map (λ r. r.path) rs) path) (sym (c.remove.ensures)) ∙ sym c.is_there.ensures ∙ c.if-not-is_there.false in
    kept_view d c.self.invariant class path c.remove.new.self c.remove.ensures stays ∙ ap (without_records class path) c.self.view_is

pub returns-else-not-is_there-clause-held : goal.returns-else-not-is_there-clause-held
returns-else-not-is_there-clause-held c =
    let class = c.args.class.now in
    let path = c.args.path.now in
    subst (λ (x : Holdings). list_any (bytes_eq path) (paths_held x.archives) ≡ true) c.self.view_is
    (held_there c.self.inside c.self.invariant class path (is_there_too c.self.inside c.args.self.now c.self.view_is class path c.requires.there))
