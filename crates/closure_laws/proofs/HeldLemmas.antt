-- Desks whose paths were made by texts that are hashed, whose records are sound, and which have the sources that they need.
use Rattle.std.proofs.Common.{◌≡◌, ◌⊎◌, ℕ, zero, suc, true, inl, inr, refl, sym, ap, ◌∙◌, subst, List, [], ◌∷◌, ◌++◌, Option, None, Some}
use Rattle.std.specs.Prelude.{◌&&◌, map, not, bytes_eq, is_none, slice_get, slice_set, if◌then◌else◌}
use Rattle.std.proofs.lemmas.Bool.{cond_both}
use Rattle.model.specs.Paths.{IsPath}
use Rattle.model.specs.Classes.{Class}
use Rattle.model.specs.Worlds.{Source, Label, Record, Entry, OfSource, OfRecord, Resolved, Waiting, Goal, Desk, path_of_entry, has_source, has_entry, with_source, with_record, with_all, missing, with_entries}
use Rattle.model.specs.Goals.{goal_at, in_status, is_building, with_goal_at, with_goal}
use Rattle.model.specs.Choices.{source_path_of, sources_below}
use Rattle.model.specs.Closures.{class_of_entry, path_of_class, IsWhole}
use Rattle.model.specs.FinishedBuilds.{is_record_at}
use Rattle.model.specs.ForgetRequests.{is_built_from, let_go, without_records}
use Rattle.model.proofs.BoolLemmas.{either, same_bytes}
use Rattle.laws.proofs.MemberLemmas.{In, in_of, contains_of, from_any, in_left, in_right, in_append, from_map, from_filter, in_filter, from_filter_map}
use Rattle.laws.proofs.ServedLemmas.{some_same}
use Rattle.laws.proofs.WholeLemmas.{no_source}
use Rattle.records.specs.Sound.{IsSoundRecord}
use Rattle.closure_laws.proofs.PrintedLemmas.{IsPrinted}

-- ---- what was made

-- a path that was made, by a text that is hashed
abbrev pub IsMadePath : List (List ℕ) → List ℕ → Type 0
IsMadePath texts path = IsPath path × IsPrinted texts path

-- a sound record whose path was made, with those that it labels
pub record IsMadeRecord (texts : List (List ℕ)) (r : Record) : Type 0 where
  pub sound : IsSoundRecord r
  pub path : IsMadePath texts r.path
  pub labels : (l : Label) → In l r.labels → IsMadePath texts l.path

abbrev pub IsMadeEntry : List (List ℕ) → Entry → Type 0
IsMadeEntry texts (OfSource s) = IsMadePath texts s.path
IsMadeEntry texts (OfRecord r) = IsMadeRecord texts r

-- ---- what is there

-- a source is at a path
abbrev pub HasSource : List Source → List ℕ → Type 0
HasSource sources path = (s : Source) × In s sources × (s.path ≡ path)

-- each source that a record labels is there
abbrev pub HasLabelled : List Source → Record → Type 0
HasLabelled sources r = (path : List ℕ) → In path (sources_below r) → HasSource sources path

-- so is each source of a closure
abbrev pub HasClosure : List Source → Resolved → Type 0
HasClosure sources r = (s : Source) → In (OfSource s) r.closure → HasSource sources s.path

-- so it is with each goal that is built
abbrev pub HasBuilt : List Source → Goal → Type 0
HasBuilt sources g = is_building g.status ≡ true → (r : Resolved) → g.resolved ≡ Some r → HasClosure sources r

-- what a desk holds was made, and it has the sources that its records label, and that goals are built from
pub record IsHeld (texts : List (List ℕ)) (d : Desk) : Type 0 where
  pub sources : (s : Source) → In s d.sources → IsMadePath texts s.path
  pub records : (r : Record) → In r d.records → IsMadeRecord texts r
  pub labelled : (r : Record) → In r d.records → HasLabelled d.sources r
  pub building : (g : Goal) → In g d.goals → HasBuilt d.sources g

has_more : (old later : List Source) → ((s : Source) → In s old → In s later) → (path : List ℕ) → HasSource old path → HasSource later path
has_more old later more path has = (has.0, more has.0 has.1, has.2)

-- a desk that has all sources of another, and else what was made and has the sources that it needs
pub record GrowsTo (texts : List (List ℕ)) (old later : Desk) : Type 0 where
  pub sources : (s : Source) → In s later.sources → In s old.sources ⊎ IsMadePath texts s.path
  pub kept : (s : Source) → In s old.sources → In s later.sources
  pub records : (r : Record) → In r later.records → In r old.records ⊎ (IsMadeRecord texts r × HasLabelled later.sources r)
  pub goals : (g : Goal) → In g later.goals → In g old.goals ⊎ HasBuilt later.sources g

pub held_grown : (texts : List (List ℕ)) (old later : Desk) → IsHeld texts old → GrowsTo texts old later → IsHeld texts later
held_grown texts old later is grows = record {
  sources = λ s h. elim (grows.sources s h) [ inl there ↦ is.sources s there | inr made ↦ made ];
  records = λ r h. elim (grows.records r h) [ inl there ↦ is.records r there | inr new ↦ new.0 ];
  labelled = λ r h path below. elim (grows.records r h) [
    | inl there ↦ has_more old.sources later.sources grows.kept path (is.labelled r there path below)
    | inr new ↦ new.1 path below
  ];
  building = λ g h built r kept s k. elim (grows.goals g h) [
    | inl there ↦ has_more old.sources later.sources grows.kept s.path (is.building g there built r kept s k)
    | inr new ↦ new built r kept s k
  ];
}

-- a desk with the same sources, records and goals
pub held_same : (texts : List (List ℕ)) (old later : Desk) → IsHeld texts old → later.sources ≡ old.sources → later.records ≡ old.records
    → later.goals ≡ old.goals
    → IsHeld texts later
held_same texts old later is sources records goals = held_grown texts old later is (record {
  sources = λ s h. inl (subst (In s) sources h);
  kept = λ s h. subst (In s) (sym sources) h;
  records = λ r h. inl (subst (In r) records h);
  goals = λ g h. inl (subst (In g) goals h);
})

-- a goal of a number is a goal
pub goal_in : (n : ℕ) (g : Goal) (goals : List Goal) → goal_at n goals ≡ Some g → In g goals
goal_in zero g goals at = absurd (cc)
goal_in (suc i) g goals at = by i goals at
  where
    by : (i : ℕ) (goals : List Goal) → slice_get goals i ≡ Some g → In g goals
    by i [] at = absurd (cc)
    by zero (h ∷ goals) at = inl (some_same h g at)
    by (suc i) (h ∷ goals) at = inr (by i goals at)

-- ---- one thing more

last_is : {X : Type 0} (P : X → Type 0) (x z : X) → In x (z ∷ []) → P z → P x
last_is P x z h p = elim h [ inl e ↦ subst P e p | inr none ↦ absurd none ]

pushed : {X : Type 0} (P : X → Type 0) (xs : List X) (z x : X) → In x (xs ++ z ∷ []) → P z → In x xs ⊎ P x
pushed P xs z x h p = elim (in_append x xs (z ∷ []) h) [ inl a ↦ inl a | inr b ↦ inr (last_is P x z b p) ]

pub held_source : (texts : List (List ℕ)) (s : Source) (d : Desk) → IsHeld texts d → IsMadePath texts s.path → IsHeld texts (with_source s d)
held_source texts s d is made = held_grown texts d (with_source s d) is (record {
  sources = λ x h. pushed (λ (z : Source). IsMadePath texts z.path) d.sources s x h made;
  kept = λ x h. in_left x d.sources (s ∷ []) h;
  records = λ r h. inl h;
  goals = λ g h. inl h;
})

pub held_record : (texts : List (List ℕ)) (r : Record) (d : Desk) → IsHeld texts d → IsMadeRecord texts r → HasLabelled d.sources r
    → IsHeld texts (with_record r d)
held_record texts r d is made has = held_grown texts d (with_record r d) is (record {
  sources = λ s h. inl h;
  kept = λ s h. h;
  records = λ x h. pushed (λ (z : Record). IsMadeRecord texts z × HasLabelled d.sources z) d.records r x h (made, has);
  goals = λ g h. inl h;
})

slice_put : (i : ℕ) (x g : Goal) (goals : List Goal) → In g (slice_set goals i x) → In g goals ⊎ (x ≡ g)
slice_put i x g [] h = absurd h
slice_put zero x g (z ∷ goals) h = elim h [ inl e ↦ inr e | inr r ↦ inl (inr r) ]
slice_put (suc i) x g (z ∷ goals) h = elim h [
  | inl e ↦ inl (inl e)
  | inr r ↦ elim (slice_put i x g goals r) [ inl a ↦ inl (inr a) | inr e ↦ inr e ]
]

goal_put : (n : ℕ) (x g : Goal) (goals : List Goal) → In g (with_goal_at n x goals) → In g goals ⊎ (x ≡ g)
goal_put zero x g goals h = inl h
goal_put (suc n) x g goals h = slice_put n x g goals h

-- another goal in the place of one
pub held_goal : (texts : List (List ℕ)) (n : ℕ) (x : Goal) (d : Desk) → IsHeld texts d → HasBuilt d.sources x → IsHeld texts (with_goal n x d)
held_goal texts n x d is has = held_grown texts d (with_goal n x d) is (record {
  sources = λ s h. inl h;
  kept = λ s h. h;
  records = λ r h. inl h;
  goals = λ g h. elim (goal_put n x g d.goals h) [ inl there ↦ inl there | inr e ↦ inr (subst (HasBuilt d.sources) e has) ];
})

-- a goal more
pub held_new : (texts : List (List ℕ)) (x : Goal) (d later : Desk) → IsHeld texts d → HasBuilt d.sources x → later.sources ≡ d.sources
    → later.records ≡ d.records
    → later.goals ≡ d.goals ++ x ∷ [] → IsHeld texts later
held_new texts x d later is has sources records goals = held_grown texts d later is (record {
  sources = λ s h. inl (subst (In s) sources h);
  kept = λ s h. subst (In s) (sym sources) h;
  records = λ r h. inl (subst (In r) records h);
  goals = λ g h. pushed (HasBuilt later.sources) d.goals x g (subst (In g) goals h) (subst (λ all. HasBuilt all x) (sym sources) has);
})

-- ---- what is forgotten

waits_built : (sources : List Source) (g : Goal) → HasBuilt sources (in_status Waiting g)
waits_built sources g built r kept s k = absurd (cc)

let_go_in : (class path : List ℕ) (sources : List Source) (g : Goal) (goals : List Goal) → In g (map (let_go class path) goals)
    → In g goals ⊎ HasBuilt sources g
let_go_in class path sources g goals h =
    let w = from_map (let_go class path) g goals h in
    subst (λ x. In x goals ⊎ HasBuilt sources x) w.2
    (cond_both (is_building w.0.status && is_built_from class path w.0.resolved) (in_status Waiting w.0) w.0 (λ x. In x goals ⊎ HasBuilt sources x)
    (λ waits. inr (waits_built sources w.0)) (λ stays. inl w.1))

pub held_without : (texts : List (List ℕ)) (class path : List ℕ) (d : Desk) → IsHeld texts d → IsHeld texts (without_records class path d)
held_without texts class path d is = held_grown texts d (without_records class path d) is (record {
  sources = λ s h. inl h;
  kept = λ s h. h;
  records = λ r h. inl (from_filter (λ q. not (is_record_at class path q)) r d.records h).0;
  goals = λ g h. let_go_in class path d.sources g d.goals h;
})

-- ---- entries

-- a desk with entries more has these, and what it had
pub record AddsAll (entries : List Entry) (d later : Desk) : Type 0 where
  pub sources : (s : Source) → In s later.sources → In s d.sources ⊎ In (OfSource s) entries
  pub kept : (s : Source) → In s d.sources → In s later.sources
  pub added : (s : Source) → In (OfSource s) entries → In s later.sources
  pub records : (r : Record) → In r later.records → In r d.records ⊎ In (OfRecord r) entries
  pub goals : later.goals ≡ d.goals

pub source_same : (s t : Source) → OfSource s ≡ OfSource t → s ≡ t
source_same s t e = cc

-- what was pushed before, or stands among the others
pushed_or : {X : Type 0} (f : X → Entry) (z x : X) (xs : List X) (es : List Entry) → In x (xs ++ z ∷ []) ⊎ In (f x) es → In x xs ⊎ In (f x) (f z ∷ es)
pushed_or f z x xs es (inl a) = elim (in_append x xs (z ∷ []) a) [ inl b ↦ inl b | inr b ↦ inr (inl (last_is (λ y. f z ≡ f y) x z b refl)) ]
pushed_or f z x xs es (inr b) = inr (inr b)

further : {X : Type 0} (f : X → Entry) (x : X) (z : Entry) (xs : List X) (es : List Entry) → In x xs ⊎ In (f x) es → In x xs ⊎ In (f x) (z ∷ es)
further f x z xs es (inl a) = inl a
further f x z xs es (inr b) = inr (inr b)

adds_all : (entries : List Entry) (d : Desk) → AddsAll entries d (with_all entries d)
unfolding with_all
adds_all [] d = record { sources = λ s h. inl h; kept = λ s h. h; added = λ s h. absurd h; records = λ r h. inl h; goals = refl }
adds_all (OfSource z ∷ es) d =
    let all = adds_all es (with_source z d) in
    record {
      sources = λ s h. pushed_or OfSource z s d.sources es (all.sources s h);
      kept = λ s h. all.kept s (in_left s d.sources (z ∷ []) h);
      added = λ s h. elim h [ inl e ↦ all.kept s (in_right s d.sources (z ∷ []) (inl (source_same z s e))) | inr r ↦ all.added s r ];
      records = λ r h. further OfRecord r (OfSource z) d.records es (all.records r h);
      goals = all.goals;
    }
adds_all (OfRecord z ∷ es) d =
    let all = adds_all es (with_record z d) in
    record {
      sources = λ s h. further OfSource s (OfRecord z) d.sources es (all.sources s h);
      kept = λ s h. all.kept s h;
      added = λ s h. elim h [ inl e ↦ absurd (no_source s z (sym e)) | inr r ↦ all.added s r ];
      records = λ r h. pushed_or OfRecord z r d.records es (all.records r h);
      goals = all.goals;
    }

-- entries that a desk does not have are entries
lacks : (entries : List Entry) (d : Desk) (e : Entry) → In e (missing entries d) → In e entries
lacks entries d e h = (from_filter (λ x. not (has_entry x d)) e entries h).0

-- each source among entries is on the desk to which they are copied
pub entries_have : (entries : List Entry) (d : Desk) (s : Source) → In (OfSource s) entries → HasSource (with_entries entries d).sources s.path
entries_have entries d s h =
    let all = adds_all (missing entries d) d in
    elim (either (has_source s.path d)) [
      | inl t ↦
          let w = from_any (λ (x : Source). bytes_eq x.path s.path) d.sources t in
          (w.0, all.kept w.0 w.1, same_bytes w.0.path s.path w.2)
      | inr f ↦
          let lacking : not (has_entry (OfSource s) d) ≡ true = ap not f in
          (s, all.added s (in_filter (λ x. not (has_entry x d)) (OfSource s) entries h lacking), refl)
    ]

-- ---- labels of sources

named_by : (l : Label) (path : List ℕ) (class : Option Class) → (if is_none class then Some l.path else None) ≡ Some path → (class ≡ None) × (l.path ≡ path)
named_by l path None e = (refl, cc)
named_by l path (Some c) e = absurd (cc)

-- a source that a record labels is the path of a label that has no class
pub below_label : (r : Record) (path : List ℕ) → In path (sources_below r) → (l : Label) × In l r.labels × (l.class ≡ None) × (l.path ≡ path)
below_label r path h =
    let w = from_filter_map source_path_of path r.labels h in
    let named = named_by w.0 path w.0.class w.2 in
    (w.0, w.1, named.0, named.1)

entry_of_source : (e : Entry) (path : List ℕ) (class : Option Class) → path_of_entry e ≡ path → path_of_class (class_of_entry e) ≡ path_of_class class
    → class ≡ None
    → (s : Source) × (e ≡ OfSource s) × (s.path ≡ path)
entry_of_source (OfSource s) path class same of none = (s, refl, same)
entry_of_source (OfRecord r) path class same of none = let no : Some r.class.path ≡ None = of ∙ ap path_of_class none in absurd (cc)

-- the sources that an entry of a whole closure labels are entries
whole_source : (entries : List Entry) (r : Record) → IsWhole entries → In (OfRecord r) entries → (path : List ℕ) → In path (sources_below r)
    → (s : Source) × In (OfSource s) entries × (s.path ≡ path)
whole_source entries r whole h path below =
    let l = below_label r path below in
    let w = whole.labelled (OfRecord r) l.0 (contains_of entries (OfRecord r) h) (contains_of r.labels l.0 l.1) in
    let s = entry_of_source w.1 l.0.path l.0.class w.4.0 w.4.1 l.2 in
    (s.0, subst (λ e. In e entries) s.1 (in_of entries w.1 (w.0, w.2, w.3)), s.2 ∙ l.3)

-- a desk to which a whole closure is copied
pub held_entries : (texts : List (List ℕ)) (entries : List Entry) (d : Desk) → IsHeld texts d → ((e : Entry) → In e entries → IsMadeEntry texts e)
    → IsWhole entries
    → IsHeld texts (with_entries entries d)
held_entries texts entries d is made whole =
    let later : Desk = with_entries entries d in
    let all = adds_all (missing entries d) d in
    held_grown texts d later is (record {
      sources = λ s h. elim (all.sources s h) [ inl there ↦ inl there | inr new ↦ inr (made (OfSource s) (lacks entries d (OfSource s) new)) ];
      kept = all.kept;
      records = λ r h. elim (all.records r h) [
        | inl there ↦ inl there
        | inr new ↦
            let entry = lacks entries d (OfRecord r) new in
            inr (
              made (OfRecord r) entry,
              λ path below. (let s = whole_source entries r whole entry path below in subst (HasSource later.sources) s.2 (entries_have entries d s.0 s.1)),
            )
      ];
      goals = λ g h. inl (subst (In g) all.goals h);
    })
