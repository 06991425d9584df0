-- Entries of a closure that are not on a desk: what is asked of them before they are added.
use Rattle.std.proofs.Common.{◌≡◌, ℕ, ◌+◌, ◌<◌, ◌≤◌, Bool, true, false, cond, inl, inr, List, [], ◌∷◌, ◌++◌, length, get_or}
use Rattle.std.proofs.Common.{drop, refl, sym, ◌∙◌, ap, subst, append_assoc, arith, Result, Ok, Err}
use Rattle.std.specs.Prelude.{All, map, filter, bytes_eq, not, ◌||◌, IfErr}
use Rattle.std.specs.Result.{IsErrAnd}
use Rattle.std.proofs.lemmas.List.{drop_all, append-nil}
use Rattle.std.proofs.lemmas.List.Elements.{All-nil, All-cons, All-head, All-tail, All-push}
use Rattle.std.proofs.lemmas.List.Sums.{sum_by-le}
use Rattle.std.proofs.lemmas.Bool.{and_from, not_from_false}
use Rattle.model.specs.Reach.{is_among}
use Rattle.model.specs.Worlds.{Source, Record, Desk, OfSource, OfRecord, path_of_entry, tree_at, are_distinct, charge_of, is_within, has_entry, with_entry, with_all, missing, with_entries}
use Rattle.model.specs.Worlds as worlds
use Rattle.model.specs.Archives.{nar}
use Rattle.model.specs.Closures.{entry_before, tree_of_entry}
use Rattle.model.proofs.BoolLemmas.{either, same_bytes, both_parts}
use Rattle.laws.proofs.MemberLemmas.{In}
use Rattle.laws.proofs.SetLemmas.{Ascends, irreflexive, clash}
use Rattle.records.proofs.EntryOrderLemmas.{entry_before-Weak}
use Rattle.records.specs.declared.desk_entry.DeskEntry.{DeskEntry}
use Rattle.records.specs.declared.desk_entry.DeskEntry.TheVariants as entry
use Rattle.records.specs.Recorded.{with_tree, without_tree}
use Rattle.records.specs.DeskEntries.{entry_with}
use Rattle.records.proofs.LoopLemmas.{drop_next}
use Rattle.realise.specs.Holdings.{bare, Holdings, is_on, sources_in, AreCountable, AreAbsent}
use Rattle.handlers.specs.Sound.{IsClosure}
use Rattle.handlers.specs.Taking.{entry_without, counted, missing_on, AreCopyable}

abbrev pub bare_entries : List worlds.Entry → List DeskEntry
bare_entries es = bare (map counted es)

-- a source before which another one stands has another path
not_again : (s : Source) (es : List worlds.Entry) → ((y : worlds.Entry) → In y es → entry_before (OfSource s) y ≡ true)
    → is_among s.path (sources_in (bare_entries es)) ≡ false
not_again s [] up = refl
not_again s (OfRecord r ∷ es) up = not_again s es (λ y h. up y (inr h))
not_again s (OfSource t ∷ es) up = elim (either (bytes_eq t.path s.path)) [
  | inl same ↦
      let path : t.path ≡ s.path = same_bytes t.path s.path same in
      let up_to : entry_before (OfSource s) (OfSource (record { path = s.path; tree = t.tree })) ≡ true =
      subst (λ p. entry_before (OfSource s) (OfSource (record { path = p; tree = t.tree })) ≡ true) path (up (OfSource t) (inl refl)) in
      absurd (clash (entry_before (OfSource s) (OfSource s)) up_to (irreflexive entry_before entry_before-Weak (OfSource s)))
  | inr other ↦ rw other (not_again s es (λ y h. up y (inr h)))
]

sources_distinct : (es : List worlds.Entry) → Ascends entry_before es → are_distinct (sources_in (bare_entries es)) ≡ true
unfolding are_distinct
sources_distinct [] up = refl
sources_distinct (OfRecord r ∷ es) up = sources_distinct es up.1
sources_distinct (OfSource s ∷ es) up =
    and_from (not (is_among s.path (sources_in (bare_entries es)))) _ (not_from_false (is_among s.path (sources_in (bare_entries es))) (not_again s
    es up.0)) (sources_distinct es up.1)

not_true : (b : Bool) → not b ≡ true → b ≡ false
not_true true h = cc
not_true false h = refl

or_none : (a b : Bool) → (a || b) ≡ false → (a ≡ false) × (b ≡ false)
or_none true b h = cc
or_none false b h = (refl, h)

bare_all : (P : DeskEntry → Type 0) (es : List worlds.Entry) → All (λ e. P (entry_without e)) es → All P (bare_entries es)
bare_all P [] all = All-nil P
bare_all P (e ∷ es) all = All-cons P (entry_without e) (bare_entries es) (All-head (λ e. P (entry_without e)) e es all)
    (bare_all P es (All-tail (λ e. P (entry_without e)) e es all))

filtered_all : {X : Type 0} (p : X → Bool) (P : X → Type 0) → ((x : X) → p x ≡ true → P x) → (xs : List X) → All P (filter p xs)
filtered_all p P own [] = All-nil P
filtered_all p P own (x ∷ xs) = elim (either (p x)) [
  | inl t ↦ rw t (All-cons P x (filter p xs) (own x t) (filtered_all p P own xs))
  | inr f ↦ rw f (filtered_all p P own xs)
]

-- the sources among some of the entries are among theirs
fewer_sources : (p : worlds.Entry → Bool) (path : List ℕ) (es : List worlds.Entry) → is_among path (sources_in (bare_entries es)) ≡ false
    → is_among path (sources_in (bare_entries (filter p es))) ≡ false
fewer_sources p path [] none = refl
fewer_sources p path (OfRecord r ∷ es) none = elim (either (p (OfRecord r))) [
  | inl t ↦ rw t (fewer_sources p path es none)
  | inr f ↦ rw f (fewer_sources p path es none)
]
fewer_sources p path (OfSource s ∷ es) none =
    let parts = or_none (bytes_eq s.path path) (is_among path (sources_in (bare_entries es))) none in
    elim (either (p (OfSource s))) [
      | inl t ↦ rw (t, parts.0) (fewer_sources p path es parts.1)
      | inr f ↦ rw f (fewer_sources p path es parts.1)
    ]

still_distinct : (p : worlds.Entry → Bool) (es : List worlds.Entry) → are_distinct (sources_in (bare_entries es)) ≡ true
    → are_distinct (sources_in (bare_entries (filter p es))) ≡ true
unfolding are_distinct
still_distinct p [] once = refl
still_distinct p (OfRecord r ∷ es) once = elim (either (p (OfRecord r))) [
  | inl t ↦ rw t (still_distinct p es once)
  | inr f ↦ rw f (still_distinct p es once)
]
still_distinct p (OfSource s ∷ es) once =
    let parts = both_parts (not (is_among s.path (sources_in (bare_entries es)))) (are_distinct (sources_in (bare_entries es))) once in
    let rest = still_distinct p es parts.1 in
    elim (either (p (OfSource s))) [
      | inl t ↦ rw t (and_from (not (is_among s.path (sources_in (bare_entries (filter p es))))) _
          (not_from_false (is_among s.path (sources_in (bare_entries (filter p es))))
          (fewer_sources p s.path es (not_true (is_among s.path (sources_in (bare_entries es))) parts.0))) rest)
      | inr f ↦ rw f rest
    ]

-- the entries of a closure may be copied together
pub closure_copyable : (entries : List worlds.Entry) → IsClosure entries → AreCopyable entries
closure_copyable entries closure = record {
  labelled = closure.whole.labelled;
  distinct = sources_distinct entries closure.in_order;
  few = (let few = closure.few in omega (arith, few));
}

pub are_absent : (d : Holdings) (entries : List worlds.Entry) → AreCopyable entries → AreAbsent (bare_entries (missing_on d entries)) d
are_absent d entries copyable = record {
  absent = bare_all (λ e. is_on e d ≡ false) (missing_on d entries)
      (filtered_all (λ e. not (is_on (entry_without e) d)) (λ e. is_on (entry_without e) d ≡ false) (λ e h. not_true (is_on (entry_without e) d) h) entries);
  distinct = still_distinct (λ e. not (is_on (entry_without e) d)) entries copyable.distinct;
}

fewer : {X : Type 0} (p : X → Bool) (xs : List X) → length (filter p xs) ≤ length xs
fewer p [] = omega arith
fewer p (x ∷ xs) = elim (either (p x)) [
  | inl t ↦ rw t (let rest = fewer p xs in omega (arith, rest))
  | inr f ↦ rw f (let rest = fewer p xs in omega (arith, rest))
]

length-map : {X Y : Type 0} (f : X → Y) (xs : List X) → length (map f xs) ≡ length xs
length-map f [] = refl
length-map f (x ∷ xs) = let rest = length-map f xs in omega (arith, rest)

-- no tree has more bytes than a tree may have, so they can be counted together
pub are_countable : (d : Holdings) (entries : List worlds.Entry) (found : List (DeskEntry × ℕ)) → AreCopyable entries
    → found ≡ map counted (missing_on d entries)
    → All (λ e. e.1 ≤ 67108864) found → AreCountable found
are_countable d entries found copyable is small =
    let count : length found ≤ 1025 = (let few = fewer (λ e. not (is_on (entry_without e) d)) entries in
    let same : length found ≡ length (missing_on d entries) = ap (λ (es : List (DeskEntry × ℕ)). length es) is ∙ length-map counted (missing_on d entries) in
    let most = copyable.few in omega (arith, few, same, most)) in
    let sum = sum_by-le (λ (e : DeskEntry × ℕ). e.1) 67108864 found small in
    omega (arith, sum, count)

-- what holds of an error
pub if_err : {T E : Type 0} (r : Result T E) (P : E → Type 0) → IsErrAnd r P → IfErr r P
if_err (Ok x) P is = tt
if_err (Err why) P is = is

-- what is put on a desk for an entry
its_missing : (e : worlds.Entry) (missing : DeskEntry) → entry_with (tree_of_entry e) missing ≡ e → entry_without e ≡ missing
its_missing (OfSource s) (entry.Source path) is = cc
its_missing (OfSource s) (entry.Record r) is = cc
its_missing (OfRecord r) (entry.Source path) is = cc
its_missing (OfRecord r) (entry.Record q) is = (let same : with_tree r.tree q ≡ r = cc in ap (λ x. entry.Record (without_tree x)) (sym same))

-- an entry is found exactly where it is not on the desk
missing_one : (d : Holdings) (e : worlds.Entry) (rest : List worlds.Entry) (old : List (DeskEntry × ℕ)) (b : Bool) (missing : DeskEntry)
    → entry_without e ≡ missing
    → is_on missing d ≡ b
    → cond b old (old ++ (missing, length (nar (tree_of_entry e))) ∷ []) ++ map counted (missing_on d rest) ≡ old ++ map counted (missing_on d (e ∷ rest))
missing_one d e rest old true missing put is = let on : is_on (entry_without e) d ≡ true = ap (λ m. is_on m d) put ∙ is in rw on refl
missing_one d e rest old false missing put is =
    let off : is_on (entry_without e) d ≡ false = ap (λ m. is_on m d) put ∙ is in
    rw off (append_assoc old ((missing, length (nar (tree_of_entry e))) ∷ []) (map counted (missing_on d rest))
    ∙ ap (λ m. old ++ (m, length (nar (tree_of_entry e))) ∷ map counted (missing_on d rest)) (sym put))

-- the bytes of each stay small
small_next : (old new : List (DeskEntry × ℕ)) (b : Bool) (missing : DeskEntry) (bytes : ℕ) → new ≡ cond b old (old ++ (missing, bytes) ∷ []) → bytes ≤ 67108864
    → All (λ e. e.1 ≤ 67108864) old → All (λ e. e.1 ≤ 67108864) new
small_next old new true missing bytes now small was = subst (All (λ (e : DeskEntry × ℕ). e.1 ≤ 67108864)) (sym now) was
small_next old new false missing bytes now small was =
    subst (All (λ (e : DeskEntry × ℕ). e.1 ≤ 67108864)) (sym now) (All-push (λ (e : DeskEntry × ℕ). e.1 ≤ 67108864) old (missing, bytes) was small)

-- one turn of the loop that finds them
pub missing_next : (d : Holdings) (es : List worlds.Entry) (i : ℕ) (e : worlds.Entry) (missing : DeskEntry) (old new all : List (DeskEntry × ℕ)) → i < length es
    → e ≡ get_or es i e → entry_with (tree_of_entry e) missing ≡ e
    → new ≡ cond (is_on missing d) old (old ++ (missing, length (nar (tree_of_entry e))) ∷ [])
    → length (nar (tree_of_entry e)) ≤ 67108864
    → old ++ map counted (missing_on d (drop i es)) ≡ all → All (λ (e : DeskEntry × ℕ). e.1 ≤ 67108864) old
    → record { found : new ++ map counted (missing_on d (drop (i + 1) es)) ≡ all; small : All (λ (e : DeskEntry × ℕ). e.1 ≤ 67108864) new }
missing_next d es i e missing old new all below here is now bytes was small =
    let put = its_missing e missing is in
    let rest : List worlds.Entry = drop (i + 1) es in
    record {
      found = ap (λ xs. xs ++ map counted (missing_on d rest)) now
          ∙ missing_one d e rest old (is_on missing d) missing put refl
          ∙ ap (λ xs. old ++ map counted (missing_on d xs)) (sym (drop_next es i e below here)) ∙ was;
      small = small_next old new (is_on missing d) missing (length (nar (tree_of_entry e))) now bytes small;
    }

-- and its end
pub missing_done : (d : Holdings) (es : List worlds.Entry) (i : ℕ) (found all : List (DeskEntry × ℕ)) → length es ≤ i
    → found ++ map counted (missing_on d (drop i es)) ≡ all → found ≡ all
missing_done d es i found all over was =
    sym (append-nil found) ∙ ap (λ xs. found ++ map counted (missing_on d xs)) (sym (drop_all i es over)) ∙ was
