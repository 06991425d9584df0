-- How the least record is found, one after another, and what it is with its tree.
use Rattle.std.proofs.Common.{◌≡◌, ℕ, Bool, true, false, inl, inr, refl, sym, ◌∙◌, ap, subst, List, [], ◌∷◌, ◌++◌, Option, Some, None}
use Rattle.std.specs.Prelude.{bytes_eq, map, filter, option_map, All, is_some}
use Rattle.std.specs.Option.{option_or}
use Rattle.std.specs.Borrow.{Bor}
use Rattle.std.proofs.lemmas.List.Elements.{All-head, All-tail, filter-append}
use Rattle.std.proofs.lemmas.List.{map-append}
use Rattle.model.specs.Archives.{Tree}
use Rattle.model.specs.Worlds.{Source, Pin, pin_of, tree_at}
use Rattle.model.specs.Orders.{lesser, least_from, least}
use Rattle.model.specs.Choices.{record_before, is_of, is_pinned, choose_of, choose_among}
use Rattle.model.proofs.BoolLemmas.{either}
use Rattle.laws.proofs.ClosureLemmas.{from_other, least_in}
use Rattle.laws.proofs.MemberLemmas.{In, in_right, in_map, from_filter, from_flat_map}
use Rattle.records.specs.Recorded.{Recorded}
use Rattle.desk_records.specs.RecordLists.{is_record_of}
use Rattle.realise.specs.Holdings.{Holdings, paths_of}
use Rattle.choose.specs.Visible.{Visible, seen, desks_of, IsStored, IsDeskStored, AreStored, recorded_before, is_recorded_at, is_any_or_at, those_at, records_on, is_recorded_pinned, choose_recorded, choose_in}
use Rattle.records.specs.Trees.{record_at}

-- ---- the least

pub least_from_append : {X : Type 0} (before : X → X → Bool) (best : Option X) (xs ys : List X)
    → least_from before best (xs ++ ys) ≡ least_from before (least_from before best xs) ys
unfolding least_from
least_from_append before best [] ys = refl
least_from_append before best (x ∷ xs) ys = least_from_append before (Some (lesser before best x)) xs ys

-- ---- loops

pub least_end : {X : Type 0} (before : X → X → Bool) (best : Option X) (xs : List X) → xs ≡ [] → least_from before best xs ≡ best
unfolding least_from
least_end before best xs e = ap (least_from before best) e

-- one record more
pub least_next : (p : Recorded → Bool) (best : Option Recorded) (x : Recorded) (xs ys : List Recorded) → ys ≡ x ∷ xs
    → least_from recorded_before (least_from recorded_before best (filter p (x ∷ []))) (filter p xs) ≡ least_from recorded_before best (filter p ys)
unfolding least_from
least_next p best x xs ys e = elim (either (p x)) [ inl t ↦ rw (e, t) refl | inr f ↦ rw (e, f) refl ]

-- one that is not at the path that is given, and one that is, or where none is
pub lesser_none : (path : Option (List ℕ)) (best : Option Recorded) (x : Recorded) → is_any_or_at path x ≡ false
    → best ≡ least_from recorded_before best (those_at path (x ∷ []))
unfolding least_from
lesser_none path best x f = rw f refl

pub lesser_some : (path : Option (List ℕ)) (best : Option Recorded) (x : Recorded) → is_any_or_at path x ≡ true
    → Some (lesser recorded_before best x) ≡ least_from recorded_before best (those_at path (x ∷ []))
unfolding least_from
lesser_some path best x t = rw t refl

-- one desk more
pub least_desk : (p : Recorded → Bool) (best : Option Recorded) (c : List ℕ) (d : Bor Holdings) (ds es : List (Bor Holdings)) → es ≡ d ∷ ds
    → least_from recorded_before (least_from recorded_before best (filter p (filter (is_record_of c) d.now.records))) (filter p (records_on c (desks_of ds)))
    ≡ least_from recorded_before best (filter p (records_on c (desks_of es)))
least_desk p best c d ds es e =
    let here = filter (is_record_of c) d.now.records in
    rw (e, filter-append p here (records_on c (desks_of ds)))
    (sym (least_from_append recorded_before best (filter p here) (filter p (records_on c (desks_of ds)))))

-- all where no path is given
pub all_there : (rs : List Recorded) → those_at None rs ≡ rs
all_there [] = refl
all_there (r ∷ rs) = ap (λ rest. r ∷ rest) (all_there rs)

pub those_pinned : (path : List ℕ) (rs : List Recorded) → those_at (Some path) rs ≡ filter (is_recorded_pinned (Some path)) rs
those_pinned path [] = refl
those_pinned path (r ∷ rs) = elim (either (is_recorded_at path r)) [
  | inl t ↦ rw t (ap (λ rest. r ∷ rest) (those_pinned path rs))
  | inr f ↦ rw f (those_pinned path rs)
]

-- ---- records with their trees

filter_at : (table : List Source) (c : List ℕ) (rs : List Recorded)
    → filter (is_of c) (map (record_at table) rs) ≡ map (record_at table) (filter (is_record_of c) rs)
filter_at table c [] = refl
filter_at table c (r ∷ rs) = elim (either (bytes_eq r.class.path c)) [
  | inl t ↦ rw t (ap (λ rest. record_at table r ∷ rest) (filter_at table c rs))
  | inr f ↦ rw f (filter_at table c rs)
]

seen_records : (table : List Source) (c : List ℕ) (desks : List Holdings)
    → filter (is_of c) (seen table desks).records ≡ map (record_at table) (records_on c desks)
seen_records table c [] = refl
seen_records table c (d ∷ desks) =
    filter-append (is_of c) (map (record_at table) d.records) (seen table desks).records
    ∙ (λ i. filter_at table c d.records i ++ seen_records table c desks i)
    ∙ sym (map-append (record_at table) (filter (is_record_of c) d.records) (records_on c desks))

pinned_at : (table : List Source) (pin : Option (List ℕ)) (rs : List Recorded)
    → filter (is_pinned pin) (map (record_at table) rs) ≡ map (record_at table) (filter (is_recorded_pinned pin) rs)
pinned_at table None [] = refl
pinned_at table (Some path) [] = refl
pinned_at table None (r ∷ rs) = pinned_at table None rs
pinned_at table (Some path) (r ∷ rs) = elim (either (bytes_eq r.path path)) [
  | inl t ↦ rw t (ap (λ rest. record_at table r ∷ rest) (pinned_at table (Some path) rs))
  | inr f ↦ rw f (pinned_at table (Some path) rs)
]

lesser_at : (table : List Source) (best : Option Recorded) (x : Recorded)
    → lesser record_before (option_map (record_at table) best) (record_at table x) ≡ record_at table (lesser recorded_before best x)
lesser_at table None x = refl
lesser_at table (Some b) x = elim (either (recorded_before x b)) [ inl t ↦ rw t refl | inr f ↦ rw f refl ]

least_at : (table : List Source) (best : Option Recorded) (xs : List Recorded)
    → least_from record_before (option_map (record_at table) best) (map (record_at table) xs) ≡ option_map (record_at table)
    (least_from recorded_before best xs)
unfolding least_from
least_at table best [] = refl
least_at table best (x ∷ xs) =
    ap (λ b. least_from record_before (Some b) (map (record_at table) xs)) (lesser_at table best x)
    ∙ least_at table (Some (lesser recorded_before best x)) xs

or_at : (table : List Source) (a b : Option Recorded) → option_or (option_map (record_at table) a) (option_map (record_at table) b) ≡ option_map
    (record_at table) (option_or a b)
or_at table None b = refl
or_at table (Some x) b = refl

-- what is chosen is the least record, with its tree
pub choose_seen : (table : List Source) (desks : List Holdings) (pins : List Pin) (c : List ℕ)
    → choose_in (seen table desks) pins c ≡ option_map (record_at table) (choose_recorded (pin_of pins c) (records_on c desks))
unfolding choose_among
choose_seen table desks pins c =
    let pin = pin_of pins c in
    let rs = records_on c desks in
    ap (choose_of pin) (seen_records table c desks)
    ∙ ap (λ these. option_or (least record_before these) (least record_before (map (record_at table) rs))) (pinned_at table pin rs)
    ∙ (λ i. option_or (least_at table None (filter (is_recorded_pinned pin) rs) i) (least_at table None rs i))
    ∙ or_at table (least recorded_before (filter (is_recorded_pinned pin) rs)) (least recorded_before rs)

-- ---- what is chosen is in the table

pub all_in : {X : Type 0} (P : X → Type 0) (xs : List X) (x : X) → All P xs → In x xs → P x
all_in P [] x a h = absurd h
all_in P (y ∷ xs) x a h = elim h [ inl e ↦ subst P e (All-head P y xs a) | inr r ↦ all_in P xs x (All-tail P y xs a) r ]

pub chosen_stored : (table : List Source) (desks : List Holdings) (pin : Option (List ℕ)) (c : List ℕ) (r : Recorded) → AreStored table desks
    → choose_recorded pin (records_on c desks) ≡ Some r → is_some (tree_at r.path table) ≡ true
chosen_stored table desks pin c r stored e =
    let rs = records_on c desks in
    let there : In r rs = elim (from_other (least recorded_before (filter (is_recorded_pinned pin) rs)) (least recorded_before rs) r e) [
      | inl a ↦ (from_filter (is_recorded_pinned pin) r rs (least_in recorded_before r (filter (is_recorded_pinned pin) rs) a)).0
      | inr b ↦ least_in recorded_before r rs b
    ] in
    let w = from_flat_map (λ (d : Holdings). filter (is_record_of c) d.records) r desks there in
    all_in (IsStored table) (paths_of w.0) r.path (all_in (IsDeskStored table) desks w.0 stored w.1)
    (in_right r.path w.0.known.sources (map (λ (q : Recorded). q.path) w.0.records)
    (in_map (λ (q : Recorded). q.path) r w.0.records (from_filter (is_record_of c) r w.0.records w.2).0))

-- ---- pins

none_pinned : (rs : List Recorded) → filter (is_recorded_pinned None) rs ≡ []
none_pinned [] = refl
none_pinned (r ∷ rs) = none_pinned rs

pub no_pin : (rs : List Recorded) → None ≡ least recorded_before (filter (is_recorded_pinned None) rs)
unfolding least_from
no_pin rs = rw (none_pinned rs) refl

-- ---- the choice of a view

pub view_choice : (view : Visible) (table : List Source) (desks : List Holdings) (pins : List Pin) (c : List ℕ) (o : Option Recorded)
    → seen table desks ≡ view → o ≡ choose_recorded (pin_of pins c) (records_on c desks) → choose_in view pins c ≡ option_map (record_at table) o
view_choice view table desks pins c o is e = ap (λ v. choose_in v pins c) (sym is) ∙ choose_seen table desks pins c ∙ ap (option_map (record_at table)) (sym e)

pub record_is : (table : List Source) (r : Recorded) (t : Tree) → Some t ≡ tree_at r.path table
    → record { class = r.class; path = r.path; tree = t; labels = r.labels } ≡ record_at table r
record_is table r t e = rw (← e) refl

pub false_true : false ≡ true → ⊥
false_true e = cc

-- what the call of `choice` gives, over the desks of a view
pub found_choice : (view : Visible) (table : List Source) (inside desks : List (Bor Holdings)) (pins : List Pin) (c : List ℕ) (o : Option Recorded)
    → seen table (desks_of inside) ≡ view → desks ≡ inside
    → o ≡ choose_recorded (pin_of pins c) (records_on c (desks_of desks)) → choose_in view pins c ≡ option_map (record_at table) o
found_choice view table inside desks pins c o is same e =
    view_choice view table (desks_of inside) pins c o is (e ∙ ap (λ ds. choose_recorded (pin_of pins c) (records_on c (desks_of ds))) same)

pub found_stored : (table : List Source) (inside desks : List (Bor Holdings)) (pin : Option (List ℕ)) (c : List ℕ) (r : Recorded)
    → AreStored table (desks_of inside) → desks ≡ inside → Some r ≡ choose_recorded pin (records_on c (desks_of desks)) → is_some (tree_at r.path table) ≡ true
found_stored table inside desks pin c r stored same e = chosen_stored table (desks_of inside) pin c r stored
    (sym (e ∙ ap (λ ds. choose_recorded pin (records_on c (desks_of ds))) same))

pub not_there : (o : Option Tree) → o ≡ None → is_some o ≡ true → ⊥
not_there o e h = false_true (ap is_some (sym e) ∙ h)

-- the realisation that is made of a record's copy and a tree's
pub made_record : (table : List Source) (kept copy : Recorded) (tree : Tree) (path : List ℕ) (found : Option Tree) → copy ≡ kept → path ≡ kept.path
    → found ≡ tree_at path table → found ≡ Some tree
    → Some (record { class = copy.class; path = copy.path; tree = tree; labels = copy.labels }) ≡ option_map (record_at table) (Some kept)
made_record table kept copy tree path found e p f s =
    let at : Some tree ≡ tree_at kept.path table = sym s ∙ f ∙ ap (λ q. tree_at q table) p in
    rw e (ap Some (record_is table kept tree at))
