-- A desk with several entries more.
use Rattle.std.proofs.Common.{◌≡◌, ℕ, ◌+◌, true, false, not, List, [], ◌∷◌, ◌++◌, map, refl, sym, ap, ◌∙◌, append_assoc, append-nil, arith}
use Rattle.std.specs.Prelude.{bytes_eq, All}
use Rattle.std.proofs.lemmas.Bool.{not-true, or_parts}
use Rattle.std.proofs.lemmas.List.Elements.{All-nil, All-cons, All-head, All-tail}
use Rattle.std.proofs.lemmas.List.Folds.{list_any-append}
use Rattle.model.specs.Classes.{Known, is_one_of}
use Rattle.model.specs.Reach.{is_among}
use Rattle.model.specs.Worlds.{are_distinct}
use Rattle.model.proofs.BoolLemmas.{both_parts, bytes_eq_sym}
use Rattle.path_sets.specs.PathSets.{AreNew}
use Rattle.records.specs.Recorded.{Recorded}
use Rattle.records.specs.declared.desk_entry.DeskEntry.{DeskEntry}
use Rattle.records.specs.declared.desk_entry.DeskEntry.TheVariants as entry
use Rattle.records.specs.DeskEntries.{entry_path}
use Rattle.realise.specs.Held.{with_archive, with_archives}
use Rattle.realise.specs.Holdings.{Holdings, archive_of, is_on, holds_entry, holds_each, charged_more, charged_all, bare, sources_in, records_in, AreAbsent}

-- ---- what is on the desk then

-- a desk with these sources and records more, whose archives are these, and which are charged so many bytes
abbrev pub with_parts : List (List ℕ) → List Recorded → List (List ℕ × ℕ) → ℕ → Holdings → Holdings
with_parts sources records archives more d = record d {
  known = record d.known { sources = d.known.sources ++ sources };
  records = d.records ++ records;
  archives = with_archives archives d.archives;
  charge = d.charge + more;
}

-- one entry first, and then the parts of the others
parts_after : (e : DeskEntry) (archive more : ℕ) (es : List DeskEntry) (archives : List (List ℕ × ℕ)) (d : Holdings)
    → with_parts (sources_in es) (records_in es) archives more (holds_entry e archive d)
    ≡ with_parts (sources_in (e ∷ es)) (records_in (e ∷ es)) ((entry_path e, archive) ∷ archives) (charged_more (entry_path e) archive d + more) d
unfolding with_archives
parts_after (entry.Source path) archive more es archives d =
    let charge : (d.charge + charged_more path archive d) + more ≡ d.charge + (charged_more path archive d + more) = omega arith in
    λ i. record d {
      known = record d.known { sources = append_assoc d.known.sources (path ∷ []) (sources_in es) i };
      records = d.records ++ records_in es;
      archives = with_archives archives (with_archive (path, archive) d.archives);
      charge = charge i;
    }
parts_after (entry.Record r) archive more es archives d =
    let charge : (d.charge + charged_more r.path archive d) + more ≡ d.charge + (charged_more r.path archive d + more) = omega arith in
    λ i. record d {
      known = record d.known { sources = d.known.sources ++ sources_in es };
      records = append_assoc d.records (r ∷ []) (records_in es) i;
      archives = with_archives archives (with_archive (r.path, archive) d.archives);
      charge = charge i;
    }

-- entries added one after another are their sources, their records and their archives
pub each_parts : (es : List (DeskEntry × ℕ)) (d : Holdings)
    → holds_each es d ≡ with_parts (sources_in (bare es)) (records_in (bare es)) (map archive_of es) (charged_all es d) d
unfolding with_archives
each_parts [] d =
    let none : d.charge ≡ d.charge + 0 = omega arith in
    λ i. record d {
      known = record d.known { sources = sym (append-nil d.known.sources) i };
      records = sym (append-nil d.records) i;
      charge = none i;
    }
each_parts (e ∷ es) d =
    let next = holds_entry e.0 e.1 d in
    each_parts es next ∙ parts_after e.0 e.1 (charged_all es next) (bare es) (map archive_of es) d

-- what is known, the records, the archives and the charge together
pub made : (es : List (DeskEntry × ℕ)) (d : Holdings) (known : Known) (paths : List (List ℕ)) (added new : List Recorded) (archives : List (List ℕ × ℕ)) (charge : ℕ)
    → paths ≡ sources_in (bare es) → added ≡ records_in (bare es) → known ≡ record d.known { sources = d.known.sources ++ paths } → new ≡ d.records ++ added
    → archives ≡ with_archives (map archive_of es) d.archives → charge ≡ d.charge + charged_all es d
    → record d { known = known; records = new; archives = archives; charge = charge } ≡ holds_each es d
made es d known paths added new archives charge are_paths are_added known_is new_is archives_are charge_is =
    let sources : known ≡ record d.known { sources = d.known.sources ++ sources_in (bare es) } =
    known_is ∙ ap (λ ps. record d.known { sources = d.known.sources ++ ps }) are_paths in
    let all : new ≡ d.records ++ records_in (bare es) = new_is ∙ ap (λ rs. d.records ++ rs) are_added in
    (λ i. record d { known = sources i; records = all i; archives = archives_are i; charge = charge_is i }) ∙ sym (each_parts es d)

-- ---- the sources among them

sources_absent : (es : List DeskEntry) (d : Holdings) → All (λ e. is_on e d ≡ false) es → All (λ path. is_one_of d.known.sources path ≡ false) (sources_in es)
sources_absent [] d all = All-nil (λ path. is_one_of d.known.sources path ≡ false)
sources_absent (entry.Source path ∷ es) d all =
    All-cons (λ p. is_one_of d.known.sources p ≡ false) path (sources_in es) (All-head (λ e. is_on e d ≡ false) (entry.Source path) es all)
    (sources_absent es d (All-tail (λ e. is_on e d ≡ false) (entry.Source path) es all))
sources_absent (entry.Record r ∷ es) d all = sources_absent es d (All-tail (λ e. is_on e d ≡ false) (entry.Record r) es all)

-- paths that are not known, and of which none is this one
still_absent : (known paths : List (List ℕ)) (path : List ℕ) → All (λ p. is_one_of known p ≡ false) paths → is_among path paths ≡ false
    → All (λ p. is_one_of (known ++ path ∷ []) p ≡ false) paths
still_absent known [] path all others = All-nil (λ p. is_one_of (known ++ path ∷ []) p ≡ false)
still_absent known (p ∷ paths) path all others =
    let both = or_parts (bytes_eq p path) (is_among path paths) others in
    let old : is_one_of known p ≡ false = All-head (λ q. is_one_of known q ≡ false) p paths all in
    let other : bytes_eq path p ≡ false = bytes_eq_sym path p ∙ both.0 in
    let here : is_one_of (known ++ path ∷ []) p ≡ false = list_any-append (λ n. bytes_eq n p) known (path ∷ []) ∙ rw (old, other) refl in
    All-cons (λ q. is_one_of (known ++ path ∷ []) q ≡ false) p paths here
    (still_absent known paths path (All-tail (λ q. is_one_of known q ≡ false) p paths all) both.1)

pub new_paths : (known paths : List (List ℕ)) → All (λ p. is_one_of known p ≡ false) paths → are_distinct paths ≡ true → AreNew known paths
unfolding are_distinct
new_paths known [] all distinct = tt
new_paths known (path ∷ paths) all distinct =
    let both = both_parts (not (is_among path paths)) (are_distinct paths) distinct in
    let others : is_among path paths ≡ false = not-true (is_among path paths) both.0 in (
      All-head (λ p. is_one_of known p ≡ false) path paths all,
      new_paths (known ++ path ∷ []) paths (still_absent known paths path (All-tail (λ p. is_one_of known p ≡ false) path paths all) others) both.1,
    )

pub sources_new : (es : List DeskEntry) (d : Holdings) → AreAbsent es d → AreNew d.known.sources (sources_in es)
sources_new es d absent = new_paths d.known.sources (sources_in es) (sources_absent es d absent.absent) absent.distinct
