-- The records below a derivation, one step after another.
use Rattle.std.proofs.Common.{◌≡◌, ℕ, zero, suc, ◌+◌, ◌≤◌, Bool, true, false, ◌&&◌, ◌||◌, not, inl, inr, List, [], ◌∷◌, ◌++◌, length, drop, take, get_or, ◌<◌, cond, append-nil, append_assoc, length-append, refl, sym, ap, ◌∙◌, arith}
use Rattle.std.specs.Prelude.{bytes_eq, nat_le, filter, Some, if◌then◌else◌}
use Rattle.std.specs.List.{list_any, IsDistinct}
use Rattle.std.proofs.Math.Seq.{drop-append_seam}
use Rattle.std.proofs.lemmas.Bool.Decides.{nat_tests}
use Rattle.std.proofs.lemmas.Bool.{or_parts, or_left, or_right}
use Rattle.std.proofs.lemmas.List.{take_more}
use Rattle.std.proofs.lemmas.List.Folds.{list_any_none}
use Rattle.std.proofs.lemmas.List.Elements.{filter-append, All-from_recursion}
use Rattle.std.proofs.lemmas.Map.Keys.{IsDistinct-tail, IsDistinct-head}
use Rattle.model.specs.Classes.{Class}
use Rattle.model.specs.Worlds.{Label}
use Rattle.model.proofs.BoolLemmas.{either, or_cases, both_parts, same_bytes}
use Rattle.records.specs.Recorded.{Recorded}
use Rattle.desk_records.specs.RecordLists.{is_recorded_at, is_record_of}
use Rattle.realise.proofs.ForgettingLemmas.{any_kept}
use Rattle.outputs.specs.Reaching.{is_for, is_label_for, is_named_in, has_class, is_named, is_record_named, is_known, is_news, chosen, AreSame, below_at, fresh_at, IsReached}
use Rattle.outputs.specs.declared.below.Reached.{Reached}
use Rattle.outputs.proofs.SameLemmas.{here_itself}

pub or_false : (b : Bool) → (b || false) ≡ b
or_false true = refl
or_false false = refl

or_true : (b : Bool) → (b || true) ≡ true
or_true true = refl
or_true false = refl

pub and_false : (b : Bool) → (b && false) ≡ false
and_false true = refl
and_false false = refl

pub same_tests : (a b : Bool) → (a ≡ true → b ≡ true) → (b ≡ true → a ≡ true) → a ≡ b
same_tests true b f g = sym (f refl)
same_tests false true f g = g refl
same_tests false false f g = refl

-- ---- one step more

-- what marks p and not q could refer to, where q alone refers to nothing
only_new : (p q s : Bool) → (q && s) ≡ false → (p && s) ≡ ((p && not q) && s)
only_new true true true h = cc
only_new true true false h = refl
only_new true false s h = refl
only_new false q s h = refl

any_new : (p q s : Recorded → Bool) (xs : List Recorded) → list_any (λ a. q a && s a) xs ≡ false
    → list_any (λ a. p a && s a) xs ≡ list_any (λ a. (p a && not (q a)) && s a) xs
any_new p q s [] h = refl
any_new p q s (x ∷ xs) h =
    let both = or_parts (q x && s x) (list_any (λ a. q a && s a) xs) h in
    λ i. only_new (p x) (q x) (s x) both.0 i || any_new p q s xs both.1 i

module _ (records : List Recorded) (inputs : List ℕ → Bool) where
  abbrev below : ℕ → List ℕ → List ℕ → Bool
  below = below_at records inputs

  abbrev fresh : ℕ → List ℕ → List ℕ → Bool
  fresh = fresh_at records inputs

  -- one step more: what is reached, and what those reached in the last step refer to
  pub one_more : (k : ℕ) (class path : List ℕ) → below (suc k) class path ≡ (below k class path || is_named_in (chosen (fresh k) records) class path)
  unfolding below_at
  one_more zero class path =
      ap (λ b. inputs class || b) (sym (any_kept (λ r. list_any (is_label_for path class) r.labels) (λ r. fresh zero r.class.path r.path) records))
  one_more (suc k) class path =
      let named = λ (r : Recorded). list_any (is_label_for path class) r.labels in
      let kept = any_kept named (λ r. fresh (suc k) r.class.path r.path) records in
      elim (either (below (suc k) class path)) [
        | inl t ↦ rw t refl
        | inr f ↦
            let none = or_parts (below k class path) (list_any (λ a. below k a.class.path a.path && named a) records) f in
            let same = any_new (λ a. below (suc k) a.class.path a.path) (λ a. below k a.class.path a.path) named records none.1 in
            ap (λ b. below (suc k) class path || b) (same ∙ sym kept)
      ]

  again : (k n : ℕ) → ((c p : List ℕ) → below n c p ≡ below k c p) → (class path : List ℕ) → below (suc n) class path ≡ below (suc k) class path
  unfolding below_at
  again k n same class path = λ i. same class path i || list_any (λ a. same a.class.path a.path i && list_any (is_label_for path class) a.labels) records

  -- where nothing is reached in a step, no later step reaches anything
  pub stays : (k : ℕ) → chosen (fresh k) records ≡ [] → (n : ℕ) → k ≤ n → (class path : List ℕ) → below n class path ≡ below k class path
  stays k none zero h class path = let e : zero ≡ k = omega arith in ap (λ m. below m class path) e
  stays k none (suc n) h class path = elim (either (nat_le k n)) [
    | inl t ↦
        let lower : k ≤ n = grind (arith, nat_tests) in
        let before = stays k none n lower in
        let settled : (c p : List ℕ) → below (suc k) c p ≡ below k c p =
        λ c p. one_more k c p ∙ ap (λ rs. below k c p || is_named_in rs c p) none ∙ or_false (below k c p) in
        again k n (λ c p. before c p) class path ∙ settled class path
    | inr f ↦ let e : suc n ≡ k = grind (arith, nat_tests) in ap (λ m. below m class path) e
  ]

-- ---- the same records

-- of one class at one path are all of those that are chosen, or none
pub chosen_at : (test : List ℕ → List ℕ → Bool) (class path : List ℕ) (records : List Recorded)
    → filter (is_recorded_at class path) (chosen test records) ≡ (if test class path then filter (is_recorded_at class path) records else [])
chosen_at test class path [] = elim (either (test class path)) [ inl t ↦ rw t refl | inr n ↦ rw n refl ]
chosen_at test class path (r ∷ records) =
    let rest = chosen_at test class path records in
    elim (either (is_recorded_at class path r)) [
      | inl here ↦
          let both = both_parts (bytes_eq r.class.path class) (bytes_eq r.path path) here in
          let own : test r.class.path r.path ≡ test class path = λ i. test (same_bytes r.class.path class both.0 i) (same_bytes r.path path both.1 i) in
          elim (either (test class path)) [
            | inl t ↦
                let his = own ∙ t in
                let more : filter (is_recorded_at class path) (chosen test records) ≡ filter (is_recorded_at class path) records = rw t at rest in
                rw (his, t) (rw here (ap (λ rs. r ∷ rs) more))
            | inr n ↦
                let his = own ∙ n in
                let none : filter (is_recorded_at class path) (chosen test records) ≡ [] = rw n at rest in
                rw (his, n) none
          ]
      | inr away ↦ elim (either (test r.class.path r.path)) [ inl t ↦ rw t (rw away rest) | inr n ↦ rw (n, away) rest ]
    ]

has_key : (test : Recorded → Bool) (xs : List Recorded) → list_any test xs ≡ true
    → (r : Recorded) × (list_any test (filter (is_recorded_at r.class.path r.path) xs) ≡ true)
has_key test [] found = absurd (let wrong : false ≡ true = found in cc)
has_key test (x ∷ xs) found = elim (either (test x)) [
  | inl t ↦ (x, let here = here_itself x in rw here (or_left (test x) _ t))
  | inr n ↦
      let rest : list_any test xs ≡ true = rw n at found in
      let other = has_key test xs rest in
      let r = other.0 in (
        r,
        elim (either (is_recorded_at r.class.path r.path x)) [
          | inl here ↦ rw here (or_right (test x) _ other.1)
          | inr away ↦ rw away other.1
        ],
      )
]

found_too : (test : Recorded → Bool) (xs ys : List Recorded) → AreSame xs ys → list_any test xs ≡ true → list_any test ys ≡ true
found_too test xs ys same found =
    let key = has_key test xs found in
    let here = is_recorded_at key.0.class.path key.0.path in
    some_kept here ys (ap (list_any test) (sym (same key.0.class.path key.0.path)) ∙ key.1)
  where
    some_kept : (keep : Recorded → Bool) (zs : List Recorded) → list_any test (filter keep zs) ≡ true → list_any test zs ≡ true
    some_kept keep [] t = t
    some_kept keep (z ∷ zs) t = elim (either (keep z)) [
      | inl k ↦ elim (or_cases (test z) (list_any test (filter keep zs)) (rw k at t)) [
        | inl u ↦ or_left (test z) _ u
        | inr u ↦ or_right (test z) _ (some_kept keep zs u)
      ]
      | inr n ↦ or_right (test z) _ (some_kept keep zs (rw n at t))
    ]

pub any_same : (test : Recorded → Bool) (xs ys : List Recorded) → AreSame xs ys → list_any test xs ≡ list_any test ys
any_same test xs ys same = same_tests (list_any test xs) (list_any test ys) (found_too test xs ys same) (found_too test ys xs (λ c p. sym (same c p)))

-- ---- groups, one after another

abbrev pub joined : (List ℕ → List Recorded) → List (List ℕ) → List Recorded
joined group [] = []
joined group (c ∷ classes) = group c ++ joined group classes

joined-append : (group : List ℕ → List Recorded) (cs ds : List (List ℕ)) → joined group (cs ++ ds) ≡ joined group cs ++ joined group ds
joined-append group [] ds = refl
joined-append group (c ∷ cs) ds = ap (λ rs. group c ++ rs) (joined-append group cs ds) ∙ sym (append_assoc (group c) (joined group cs) (joined group ds))

pub joined_more : (group : List ℕ → List Recorded) (classes : List (List ℕ)) (i : ℕ) (c : List ℕ) → i < length classes → c ≡ get_or classes i c
    → joined group (take (i + 1) classes) ≡ joined group (take i classes) ++ group c
joined_more group classes i c lt is =
    ap (joined group) (take_more classes i c lt) ∙ joined-append group (take i classes) (get_or classes i c ∷ [])
    ∙ ap (λ d. joined group (take i classes) ++ (group d ++ [])) (sym is) ∙ ap (λ rs. joined group (take i classes) ++ rs) (append-nil (group c))

-- ---- sets

-- a label that has no class of an input, and was not seen, is news
pub news_one : (inputs : List (List ℕ)) (seen : List (List ℕ × List ℕ)) (path class : List ℕ) (l : Label) (own : Class) → l.class ≡ Some own
    → has_class inputs own.path ≡ false → is_named seen l.path own.path ≡ false → (old : Bool)
    → cond (bytes_eq l.path path && bytes_eq own.path class) true old ≡ (old || is_news inputs seen class path l)
news_one inputs seen path class l own is no_input not_seen old =
    news ∙ ap (λ o. old || ((bytes_eq l.path path && is_for class o) && not (is_known inputs seen class path))) (sym is)
  where
    news : cond (bytes_eq l.path path && bytes_eq own.path class) true old
        ≡ (old || ((bytes_eq l.path path && bytes_eq own.path class) && not (is_known inputs seen class path)))
    news = elim (either (bytes_eq l.path path && bytes_eq own.path class)) [
      | inl t ↦
          let both = both_parts (bytes_eq l.path path) (bytes_eq own.path class) t in
          let one : has_class inputs class ≡ false = ap (has_class inputs) (sym (same_bytes own.path class both.1)) ∙ no_input in
          let two : is_named seen path class ≡ false =
          (λ i. is_named seen (sym (same_bytes l.path path both.0) i) (sym (same_bytes own.path class both.1) i)) ∙ not_seen in
          rw (t, one, two) (sym (or_true old))
      | inr n ↦ rw n (sym (or_false old))
    ]

none_of : (c : List ℕ) (classes : List (List ℕ)) → IsDistinct bytes_eq (c ∷ classes) → has_class classes c ≡ false
none_of c classes distinct = list_any_none (bytes_eq c) classes (All-from_recursion (λ d. bytes_eq c d ≡ false) classes (IsDistinct-head bytes_eq c classes distinct))

joined_at : (class path : List ℕ) (group : List ℕ → List Recorded) (target : List Recorded)
    → ((c : List ℕ) → filter (is_recorded_at class path) (group c) ≡ (if bytes_eq class c then target else [])) → (classes : List (List ℕ))
    → IsDistinct bytes_eq classes → filter (is_recorded_at class path) (joined group classes) ≡ (if has_class classes class then target else [])
joined_at class path group target own [] distinct = refl
joined_at class path group target own (c ∷ classes) distinct =
    let at = is_recorded_at class path in
    let split = filter-append at (group c) (joined group classes) in
    let rest = joined_at class path group target own classes (IsDistinct-tail bytes_eq c classes distinct) in
    elim (either (bytes_eq class c)) [
      | inl t ↦
          let first : filter at (group c) ≡ target = own c ∙ rw t refl in
          let no_more : has_class classes class ≡ false =
          ap (has_class classes) (same_bytes class c t) ∙ none_of c classes distinct in
          let none : filter at (joined group classes) ≡ [] = rest ∙ rw no_more refl in
          split ∙ (λ i. first i ++ none i) ∙ append-nil target ∙ rw t refl
      | inr n ↦
          let first : filter at (group c) ≡ [] = own c ∙ rw n refl in
          split ∙ ap (λ rs. rs ++ filter at (joined group classes)) first ∙ rest ∙ rw n refl
    ]

-- the records of classes
pub of_classes : (classes : List (List ℕ)) (records : List Recorded) → IsDistinct bytes_eq classes
    → AreSame (joined (λ c. filter (is_record_of c) records) classes) (chosen (λ class path. has_class classes class) records)
of_classes classes records distinct class path =
    joined_at class path (λ c. filter (is_record_of c) records) (filter (is_recorded_at class path) records)
    (λ c. chosen_at (λ own p. bytes_eq own c) class path records) classes distinct
    ∙ sym (chosen_at (λ own p. has_class classes own) class path records)

both_chosen : (p q : List ℕ → List ℕ → Bool) (class path : List ℕ) (records : List Recorded)
    → filter (is_recorded_at class path) (chosen p (chosen q records)) ≡ (if q class path then filter (is_recorded_at class path) (chosen p records) else [])
both_chosen p q class path records =
    let outer = chosen_at p class path (chosen q records) in
    let inner = chosen_at q class path records in
    let alone = chosen_at p class path records in
    elim (either (q class path)) [
      | inl t ↦
          let same : filter (is_recorded_at class path) (chosen q records) ≡ filter (is_recorded_at class path) records = inner ∙ rw t refl in
          outer ∙ ap {B = List Recorded} (λ rs. if p class path then rs else []) same ∙ sym alone ∙ rw t refl
      | inr n ↦
          let none : filter (is_recorded_at class path) (chosen q records) ≡ [] = inner ∙ rw n refl in
          outer ∙ ap {B = List Recorded} (λ rs. if p class path then rs else []) none ∙ nothing (p class path) [] ∙ rw n refl
    ]
  where
    nothing : (b : Bool) (rs : List Recorded) → (if b then rs else rs) ≡ rs
    nothing true rs = refl
    nothing false rs = refl

named_class : (pairs : List (List ℕ × List ℕ)) (path class : List ℕ) → is_named pairs path class ≡ true
    → list_any (λ (pair : List ℕ × List ℕ). bytes_eq class pair.1) pairs ≡ true
named_class [] path class t = t
named_class (pair ∷ pairs) path class t = elim (or_cases (bytes_eq path pair.0 && bytes_eq class pair.1) (is_named pairs path class) t) [
  | inl here ↦ or_left (bytes_eq class pair.1) _ (both_parts (bytes_eq path pair.0) (bytes_eq class pair.1) here).1
  | inr later ↦ or_right (bytes_eq class pair.1) _ (named_class pairs path class later)
]

-- the records that are named, where these are their classes
pub of_named : (named : List (List ℕ × List ℕ)) (classes : List (List ℕ)) (records : List Recorded) → IsDistinct bytes_eq classes
    → ((class : List ℕ) → has_class classes class ≡ list_any (λ (pair : List ℕ × List ℕ). bytes_eq class pair.1) named)
    → AreSame (joined (λ c. filter (is_record_named named) (filter (is_record_of c) records)) classes) (chosen (λ class path. is_named named path class) records)
of_named named classes records distinct are class path =
    let wanted = chosen (λ own p. is_named named p own) records in
    let all = joined_at class path (λ c. filter (is_record_named named) (filter (is_record_of c) records)) (filter (is_recorded_at class path) wanted)
    (λ c. both_chosen (λ own p. is_named named p own) (λ own p. bytes_eq own c) class path records) classes distinct in
    elim (either (has_class classes class)) [
      | inl t ↦ all ∙ rw t refl
      | inr n ↦ elim (either (is_named named path class)) [
        | inl u ↦ absurd (let wrong : true ≡ false = sym (are class ∙ named_class named path class u) ∙ n in cc)
        | inr m ↦ all ∙ rw n (sym (chosen_at (λ own p. is_named named p own) class path records ∙ rw m refl))
      ]
    ]

-- ---- steps of the code

-- no step: the records of the inputs' classes
pub first_reached : (records found : List Recorded) (inputs : List (List ℕ)) (reached : Reached) → AreSame found (chosen (λ class path. has_class inputs class) records)
    → reached.records.items ≡ found → reached.from ≡ 0 → reached.seen.keys ≡ [] → IsReached records inputs 0 reached
unfolding below_at
first_reached records found inputs reached same are from none = record {
  within = omega (arith, from);
  all = λ class path. ap (filter (is_recorded_at class path)) are ∙ same class path;
  fresh = λ class path. ap (filter (is_recorded_at class path)) ((λ i. drop (from i) (are i)) ∙ refl) ∙ same class path;
  known = λ class path. ap (λ pairs. has_class inputs class || is_named pairs path class) none ∙ or_false (has_class inputs class);
}

any_and : {X : Type 0} (test : X → Bool) (b : Bool) (xs : List X) → list_any (λ x. test x && b) xs ≡ (list_any test xs && b)
any_and test true [] = refl
any_and test false [] = refl
any_and test b (x ∷ xs) = ap (λ c. (test x && b) || c) (any_and test b xs) ∙ shared (test x) (list_any test xs) b
  where
    shared : (p q b : Bool) → ((p && b) || (q && b)) ≡ ((p || q) && b)
    shared true true true = refl
    shared true true false = refl
    shared true false true = refl
    shared true false false = refl
    shared false q b = refl

news_are : (inputs : List (List ℕ)) (seen : List (List ℕ × List ℕ)) (class path : List ℕ) (records : List Recorded)
    → list_any (λ r. list_any (is_news inputs seen class path) r.labels) records ≡ (is_named_in records class path && not (is_known inputs seen class path))
news_are inputs seen class path records =
    let b = not (is_known inputs seen class path) in
    ap (λ (f : Recorded → Bool). list_any f records) (λ i r. any_and (is_label_for path class) b r.labels i)
    ∙ any_and (λ (r : Recorded). list_any (is_label_for path class) r.labels) b records

only_then : (b n : Bool) → (n && not b) ≡ ((b || n) && not b)
only_then true true = refl
only_then true false = refl
only_then false n = refl

so_far : (b n : Bool) → (b || ((b || n) && not b)) ≡ (b || n)
so_far true n = refl
so_far false true = refl
so_far false false = refl

or_assoc : (a b c : Bool) → (a || (b || c)) ≡ ((a || b) || c)
or_assoc true b c = refl
or_assoc false b c = refl

either_part : (b n : Bool) (rs : List Recorded) → ((if b then rs else []) ++ (if (b || n) && not b then rs else [])) ≡ (if b || n then rs else [])
either_part true n rs = append-nil rs ∙ refl
either_part false true rs = refl
either_part false false rs = refl

module _ (records : List Recorded) (inputs : List (List ℕ)) (k : ℕ) (old new : Reached) (named : List (List ℕ × List ℕ)) (next : List Recorded)
    (at : IsReached records inputs k old)
    (named_is : (path class : List ℕ) → is_named named path class
    ≡ list_any (λ r. list_any (is_news inputs old.seen.keys class path) r.labels) (drop old.from old.records.items))
    (next_is : AreSame next (chosen (λ class path. is_named named path class) records))
    (seen_is : (path class : List ℕ) → is_named new.seen.keys path class ≡ (is_named old.seen.keys path class || is_named named path class))
    (from_is : new.from ≡ length old.records.items)
    (records_are : new.records.items ≡ old.records.items ++ next) where
  abbrev in_steps : ℕ → List ℕ → List ℕ → Bool
  in_steps = below_at records (has_class inputs)

  abbrev in_step : ℕ → List ℕ → List ℕ → Bool
  in_step = fresh_at records (has_class inputs)

  -- what the records of the last step name
  abbrev then_named : List ℕ → List ℕ → Bool
  then_named = is_named_in (chosen (in_step k) records)

  more : (class path : List ℕ) → in_steps (suc k) class path ≡ (in_steps k class path || then_named class path)
  more = one_more records (has_class inputs) k

  fresh_is : (class path : List ℕ) → in_step (suc k) class path ≡ ((in_steps k class path || then_named class path) && not (in_steps k class path))
  fresh_is class path = ap (λ b. b && not (in_steps k class path)) (more class path)

  named_fresh : (class path : List ℕ) → is_named named path class ≡ in_step (suc k) class path
  named_fresh class path =
      named_is path class ∙ news_are inputs old.seen.keys class path (drop old.from old.records.items)
      ∙ (λ i. any_same (λ r. list_any (is_label_for path class) r.labels) (drop old.from old.records.items) (chosen (in_step k) records) at.fresh i
      && not (at.known class path i))
      ∙ only_then (in_steps k class path) (then_named class path) ∙ sym (fresh_is class path)

  next_fresh : AreSame next (chosen (in_step (suc k)) records)
  next_fresh class path = next_is class path ∙ (λ i. filter (is_recorded_at class path) (chosen (λ c p. named_fresh c p i) records))

  pub next_reached : IsReached records inputs (suc k) new
  next_reached = record {
    within = let len = ap length records_are in let parts = length-append old.records.items next in omega (arith, from_is, len, parts);
    all = λ class path.
        let here = filter (is_recorded_at class path) records in
        ap (filter (is_recorded_at class path)) records_are ∙ filter-append (is_recorded_at class path) old.records.items next
        ∙ (λ i. (at.all class path ∙ chosen_at (in_steps k) class path records) i ++ (next_fresh class path ∙ chosen_at (in_step (suc k)) class path records) i)
        ∙ ap (λ b. (if in_steps k class path then here else []) ++ (if b then here else [])) (fresh_is class path)
        ∙ either_part (in_steps k class path) (then_named class path) here
        ∙ ap (λ b. if b then here else []) (sym (more class path)) ∙ sym (chosen_at (in_steps (suc k)) class path records);
    fresh = λ class path.
        ap (filter (is_recorded_at class path)) ((λ i. drop (from_is i) (records_are i)) ∙ drop-append_seam old.records.items next) ∙ next_fresh class path;
    known = λ class path.
        ap (λ b. has_class inputs class || b) (seen_is path class)
        ∙ or_assoc (has_class inputs class) (is_named old.seen.keys path class) (is_named named path class)
        ∙ (λ i. at.known class path i || (named_fresh class path ∙ fresh_is class path) i)
        ∙ so_far (in_steps k class path) (then_named class path) ∙ sym (more class path);
  }
