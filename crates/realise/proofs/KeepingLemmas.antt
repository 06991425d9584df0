-- What a desk's type keeps, while the desk changes.
use Rattle.std.proofs.Common.{◌≡◌, ℕ, true, false, Option, None, Some, ◌+◌, List, [], ◌∷◌, ◌++◌, map, refl, sym, ap, ◌∙◌, subst, Result, Ok, Err, MatchResult}
use Rattle.std.specs.Prelude.{bytes_eq}
use Rattle.std.specs.List.{list_any}
use Rattle.std.proofs.lemmas.List.Elements.{All-push, All-weaker}
use Rattle.std.proofs.lemmas.List.Folds.{list_any-append}
use Rattle.model.specs.declared.refusal.Refusal.{Refusal}
use Rattle.model.specs.declared.refusal.Refusal.TheVariants.{Memory}
use Rattle.model.specs.Classes.{Known, Admission, Class}
use Rattle.model.specs.Worlds.{Label}
use Rattle.records.specs.Recorded.{Recorded}
use Rattle.records.specs.declared.desk_entry.DeskEntry.{DeskEntry}
use Rattle.records.specs.declared.desk_entry.DeskEntry.TheVariants as entry
use Rattle.realise.specs.declared.desk.Desk.TheInside.{Inside}
use Rattle.realise.specs.Held.{Held, paths_held, bytes_held, with_archive, with_archives, charged_beside, IsSetOf}
use Rattle.records.specs.DeskEntries.{entry_path}
use Rattle.realise.specs.Holdings.{Holdings, paths_of, archive_of, is_on, known_with, records_with, IsNewSource, holds_entry, holds_each, charged_more, charged_all, is_at, has_labelled, IsClosed, IsClosedWith, IsClosedWithEntry}
use Rattle.realise.specs.Kept.{holdings_of, IsConsistent}
use Rattle.realise.proofs.HoldingLemmas.{bytes_with, held_with, bytes_beside, held_beside, charged_entries, held_entries}
use Rattle.realise.proofs.ChargingLemmas.{paths_more}

-- ---- what is held stays

-- what is known of derivations is of no account
pub with_known : (d : Inside) (known : Known) → known.sources ≡ d.known.sources → IsConsistent d → IsConsistent (record d { known = known })
with_known d known same is =
    subst (λ (sources : List (List ℕ)). IsConsistent (record d { known = record { derivations = known.derivations; sources = sources } })) (sym same)
    (record { closed = is.closed; held = is.held })

pub same_sources : (result : Result (Unit {0}) Refusal) (old new : Known) (derivations : List Admission)
    → MatchResult result (λ _. new ≡ record old { derivations = derivations }) (λ e. (e ≡ Memory) × (new ≡ old)) → new.sources ≡ old.sources
same_sources (Ok done) old new derivations is = ap (λ (k : Known). k.sources) is
same_sources (Err why) old new derivations is = ap (λ (k : Known). k.sources) is.1

-- nor is the room for what may be held
pub kept : (d : Inside) (known : Known) (records : List Recorded) (holding : Held) → known ≡ d.known → records ≡ d.records
    → holding.archives ≡ d.holding.archives → IsConsistent d → IsConsistent (record d { known = known; records = records; holding = holding })
kept d known records holding known_is records_are archives_are is =
    rw (known_is, records_are) (record {
      closed = is.closed;
      held = subst (λ held. IsSetOf (paths_held held) (paths_of (holdings_of d))) (sym archives_are) is.held;
    })

-- ---- one entry more

-- a desk with an entry more among its sources or its records
abbrev pub has_entry : DeskEntry → Held → Inside → Inside
has_entry e held d = record d { known = known_with e d.known; records = records_with e d.records; holding = held }

-- a source that is not on a desk is not known there
pub new_source : (e : DeskEntry) (d : Holdings) → is_on e d ≡ false → IsNewSource e d.known
new_source (entry.Source path) d absent = absent
new_source (entry.Record r) d absent = tt

module _ (d : Inside) (is : IsConsistent d) (e : DeskEntry) (archive : ℕ) where
  abbrev before : Holdings
  before = holdings_of d

  abbrev more : ℕ
  more = charged_more (entry_path e) archive before

  -- the bytes that are held with it
  pub entry_bytes : (held : Held) → held.archives ≡ d.holding.archives
      → bytes_held (with_archive (entry_path e, archive) held.archives) ≡ before.charge + more
  entry_bytes held same =
      ap (λ had. bytes_held (with_archive (entry_path e, archive) had)) same
      ∙ bytes_with (entry_path e, archive) d.holding.archives (paths_of before) is.held

module _ (d : Inside) (is : IsConsistent d) where
  -- the desk then
  pub entry_view : (e : DeskEntry) (archive : ℕ) (held new : Held) → held.archives ≡ d.holding.archives
      → new.archives ≡ with_archive (entry_path e, archive) held.archives
      → holdings_of (record (has_entry e held d) { holding = new }) ≡ holds_entry e archive (holdings_of d)
  entry_view (entry.Source path) archive held new same put =
      let there = put ∙ ap (with_archive (path, archive)) same in
      let bytes = ap bytes_held put ∙ entry_bytes d is (entry.Source path) archive held same in
      λ i. record (holdings_of d) { known = record d.known { sources = d.known.sources ++ path ∷ [] }; archives = there i; charge = bytes i }
  entry_view (entry.Record r) archive held new same put =
      let there = put ∙ ap (with_archive (r.path, archive)) same in
      let bytes = ap bytes_held put ∙ entry_bytes d is (entry.Record r) archive held same in
      λ i. record (holdings_of d) { records = d.records ++ r ∷ []; archives = there i; charge = bytes i }

-- what a label names is on the desk still
still_labelled : (e : DeskEntry) (archive : ℕ) (d : Holdings) (path : List ℕ) (class : Option Class) → has_labelled d path class ≡ true
    → has_labelled (holds_entry e archive d) path class ≡ true
still_labelled (entry.Source own) archive d path None is = list_any-append (λ p. bytes_eq p path) d.known.sources (own ∷ []) ∙ rw is refl
still_labelled (entry.Source own) archive d path (Some class) is = is
still_labelled (entry.Record r) archive d path None is = is
still_labelled (entry.Record r) archive d path (Some class) is = list_any-append (is_at path class) d.records (r ∷ []) ∙ rw is refl

still_closed : (e : DeskEntry) (archive : ℕ) (d : Holdings) (r : Recorded) → IsClosedWith d r → IsClosedWith (holds_entry e archive d) r
still_closed e archive d r =
    All-weaker (λ (l : Label). has_labelled d l.path l.class ≡ true) (λ (l : Label). has_labelled (holds_entry e archive d) l.path l.class ≡ true)
    (λ l is. still_labelled e archive d l.path l.class is) r.labels

closed_with : (e : DeskEntry) (archive : ℕ) (d : Holdings) → IsClosed d → IsClosedWithEntry d e → IsClosed (holds_entry e archive d)
closed_with (entry.Source path) archive d closed own =
    All-weaker (IsClosedWith d) (IsClosedWith (holds_entry (entry.Source path) archive d)) (still_closed (entry.Source path) archive d) d.records closed
closed_with (entry.Record r) archive d closed own =
    let now = holds_entry (entry.Record r) archive d in
    All-push (IsClosedWith now) d.records r (All-weaker (IsClosedWith d) (IsClosedWith now) (still_closed (entry.Record r) archive d) d.records closed)
    (still_closed (entry.Record r) archive d r own)

-- it keeps what its type keeps
pub entry_kept : (d : Inside) → IsConsistent d → (e : DeskEntry) (archive : ℕ) (held new : Held) → IsClosedWithEntry (holdings_of d) e
    → held.archives ≡ d.holding.archives → new.archives ≡ with_archive (entry_path e, archive) held.archives
    → IsConsistent (record (has_entry e held d) { holding = new })
entry_kept d is e archive held new own same put =
    let view = entry_view d is e archive held new same put in
    let put_there : new.archives ≡ with_archive (entry_path e, archive) d.holding.archives = put ∙ ap (with_archive (entry_path e, archive)) same in
    record {
      closed = subst IsClosed (sym view) (closed_with e archive (holdings_of d) is.closed own);
      held = subst (λ (h : Holdings). IsSetOf (paths_held new.archives) (paths_of h)) (sym view)
          (subst (λ held. IsSetOf (paths_held held) (paths_of (holds_entry e archive (holdings_of d)))) (sym put_there)
          (λ q. held_with (entry_path e, archive) d.holding.archives (paths_of (holdings_of d)) is.held q ∙ paths_more (bytes_eq q) e archive (holdings_of d)));
    }

-- ---- several entries more

module _ (d : Inside) (is : IsConsistent d) (es : List (DeskEntry × ℕ)) (archives : List (List ℕ × ℕ)) (are : archives ≡ map archive_of es) where
  abbrev now : Holdings
  now = holdings_of d

  -- the bytes that are held with them
  pub entries_bytes : bytes_held (with_archives archives d.holding.archives) ≡ now.charge + charged_all es now
  entries_bytes =
      bytes_beside archives d.holding.archives (paths_of now) is.held
      ∙ ap (λ n. now.charge + n) (ap (λ more. charged_beside more (paths_of now)) are ∙ charged_entries es (paths_of now) now (λ q. refl))

  -- the paths that are held with them
  pub entries_held : IsSetOf (paths_held (with_archives archives d.holding.archives)) (paths_of (holds_each es now))
  entries_held q =
      held_beside archives d.holding.archives (paths_of now) is.held q
      ∙ ap (λ more. list_any (bytes_eq q) (paths_of now ++ paths_held more)) are ∙ held_entries es (paths_of now) now (λ p. refl) q
