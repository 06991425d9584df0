-- What the values of a cache count in all, where f says what one counts.
use Rattle.std.proofs.Common.{◌≡◌, ℕ, ◌+◌, ◌-◌, ◌<◌, ◌≤◌, Bool, true, false, inl, inr, List, [], ◌∷◌, length, get_or, take, refl, sym, ap, ◌∙◌, arith, Option, Some, None}
use Rattle.std.specs.Prelude.{sum_by, slice_get, unwrap_or, option_map}
use Rattle.std.specs.Option.{option_map_or}
use Rattle.std.specs.Map.{lookup, lookup_entry, remove_entry}
use Rattle.std.proofs.lemmas.List.{take_all}
use Rattle.std.proofs.lemmas.List.Sums.{sum_by-cons, sum_by_more}
use Rattle.std.proofs.lemmas.Option.{slice_get_within, slice_get-get_or, get_or_from_slice_get}
use Rattle.std.proofs.lemmas.Bool.{cases_lt}
use Rattle.lru.proofs.CallerLemmas.{Contains-lookup_entry}
use Rattle.std.specs.Global.{Vec}
use Rattle.repair.specs.declared.repair.Repair.{Repair}
use Rattle.repair.specs.Keeping.{same_key, size_of}
use Rattle.repair.specs.AtHand.{kept_by}
use Rattle.lru.specs.LruCache.{LruCache, lru_cache, last_entry, promoted, put_entries, displaced}

module _ {K V : Type 0} (f : V → ℕ) where
  -- what all entries count
  abbrev pub total : List (K × V) → ℕ
  total es = sum_by (λ e. f e.1) es

  -- what one counts, if there is one
  abbrev pub if_there : Option (K × V) → ℕ
  if_there o = unwrap_or (option_map (λ e. f e.1) o) 0

  one_first : (e : K × V) (es : List (K × V)) → total (e ∷ es) ≡ f e.1 + total es
  one_first e es = sum_by-cons (λ (d : K × V). f d.1) e es

  module _ (test : K → Bool) where
    without : (es : List (K × V)) → total (remove_entry test es) + if_there (lookup_entry test es) ≡ total es
    without [] = refl
    without (e ∷ es) = (elim (test e.0) as (λ b. test e.0 ≡ b → total (remove_entry test (e ∷ es)) + if_there (lookup_entry test (e ∷ es)) ≡ total (e ∷ es)) [
      | true ↦ λ t. rw t (omega (arith, one_first e es))
      | false ↦ λ t. rw t (omega (arith, one_first e es, one_first e (remove_entry test es), without es))
    ]) refl

    to_front : (es : List (K × V)) (o : Option (K × V)) → total (remove_entry test es) + if_there o ≡ total es
        → total (option_map_or (λ e. e ∷ remove_entry test es) o es) ≡ total es
    to_front es None h = refl
    to_front es (Some e) h = omega (arith, one_first e (remove_entry test es), h)

    -- the order makes no difference
    pub promoted_total : (es : List (K × V)) → total (promoted test es) ≡ total es
    promoted_total es = to_front es (lookup_entry test es) (without es)

    value_of : (es : List (K × V)) → lookup test es ≡ option_map (λ e. e.1) (lookup_entry test es)
    value_of [] = refl
    value_of (e ∷ es) = (elim (test e.0) as (λ b. test e.0 ≡ b → lookup test (e ∷ es) ≡ option_map (λ d. d.1) (lookup_entry test (e ∷ es))) [
      | true ↦ λ t. rw t refl
      | false ↦ λ t. rw t (value_of es)
    ]) refl

    stays_found : (es : List (K × V)) (o : Option (K × V)) → lookup_entry test es ≡ o
        → lookup test (option_map_or (λ e. e ∷ remove_entry test es) o es) ≡ lookup test es
    stays_found es None h = refl
    stays_found es (Some e) h =
        let passes : test e.0 ≡ true = (Contains-lookup_entry test es e h).1 in
        rw passes (sym (value_of es ∙ ap (λ o. option_map (λ d. d.1) o) h))

    -- what is found stays so
    pub promoted_found : (es : List (K × V)) → lookup test (promoted test es) ≡ lookup test es
    promoted_found es = stays_found es (lookup_entry test es) refl

  at_end : (es : List (K × V)) (n : ℕ) (e : K × V) → length es ≡ n + 1 → slice_get es n ≡ Some e → total (take n es) + f e.1 ≡ total es
  at_end es n e long is =
      let inside : n < length es = omega (arith, long) in
      let whole : take (n + 1) es ≡ es = take_all (n + 1) es (omega (arith, long)) in
      let value : f (get_or es n e).1 ≡ f e.1 = ap (λ (d : K × V). f d.1) (get_or_from_slice_get es n e e is) in
      omega (arith, sum_by_more (λ (d : K × V). f d.1) es n e inside, ap total whole, value)

  -- without the last
  pub last_gone : (es : List (K × V)) (e : K × V) → last_entry es ≡ Some e → total (take (length es - 1) es) + f e.1 ≡ total es
  last_gone es e is = let inside = slice_get_within es (length es - 1) e is in at_end es (length es - 1) e (omega (arith, inside)) is

  -- where there is no last, there is none
  pub none_last : (es : List (K × V)) → last_entry es ≡ None → es ≡ []
  none_last [] h = refl
  none_last (e ∷ es) h =
      let is = slice_get-get_or (e ∷ es) (length (e ∷ es) - 1) e (omega arith) in
      let bad : None ≡ Some (get_or (e ∷ es) (length (e ∷ es) - 1) e) = sym h ∙ is in
      cc

  cut_by : (es : List (K × V)) (n : ℕ) (o : Option (K × V)) → length es ≤ n + 1 → slice_get es n ≡ o → total (take n es) + if_there o ≡ total es
  cut_by es n (Some e) most is = let inside = slice_get_within es n e is in at_end es n e (omega (arith, inside)) is
  cut_by [] n None most is = let whole : total (take n []) ≡ total [] = ap total (take_all n [] (omega arith)) in omega (arith, whole)
  cut_by (e ∷ es) n None most is = elim (cases_lt n (length (e ∷ es))) [
    | inl inside ↦ let bad : None ≡ Some (get_or (e ∷ es) n e) = sym is ∙ slice_get-get_or (e ∷ es) n e inside in cc
    | inr past ↦ let whole : total (take n (e ∷ es)) ≡ total (e ∷ es) = ap total (take_all n (e ∷ es) past) in omega (arith, whole)
  ]

  -- behind the first, if they are not more than one more
  pub cut_total : (es : List (K × V)) (cap : ℕ) → 0 < cap → length es ≤ cap → total (take (cap - 1) es) + if_there (slice_get es (cap - 1)) ≡ total es
  cut_total es cap some most = cut_by es (cap - 1) (slice_get es (cap - 1)) (omega arith) refl

  module _ (eq : K → K → Bool) (c : LruCache K V) (k : K) (v : V) where
    put_by : (o : Option (K × V)) → 0 < c.cap → length c.entries ≤ c.cap → lookup_entry (eq k) c.entries ≡ o
        → total (option_map_or (λ e. (e.0, v) ∷ remove_entry (eq k) c.entries) o ((k, v) ∷ take (c.cap - 1) c.entries))
        + if_there (option_map_or (λ old. Some (k, old)) (option_map (λ e. e.1) o) (slice_get c.entries (c.cap - 1)))
        ≡ total c.entries + f v
    put_by None some most is = omega (arith, one_first (k, v) (take (c.cap - 1) c.entries), cut_total c.entries c.cap some most)
    put_by (Some e) some most is =
        let rest : total (remove_entry (eq k) c.entries) + f e.1 ≡ total c.entries =
        ap (λ o. total (remove_entry (eq k) c.entries) + if_there o) (sym is) ∙ without (eq k) c.entries in
        omega (arith, one_first (e.0, v) (remove_entry (eq k) c.entries), rest)

    -- with one more, and without what it displaces
    pub put_total : 0 < c.cap → length c.entries ≤ c.cap
        → total (put_entries eq c k v) + if_there (displaced eq c k v) ≡ total c.entries + f v
    put_total some most =
        rw (value_of (eq k) c.entries) (put_by (lookup_entry (eq k) c.entries) some most refl)

-- the same, of a cache that is so afterwards, where o was displaced
pub put_counts : {K V : Type 0} (f : V → ℕ) (eq : K → K → Bool) (c new : LruCache K V) (k : K) (v : V) (o : Option (K × V)) → length c.entries ≤ c.cap
    → 0 < c.cap
    → o ≡ displaced eq c k v → new ≡ lru_cache (put_entries eq c k v) c.cap → total f new.entries + if_there f o ≡ total f c.entries + f v
put_counts {K = K} {V = V} f eq c new k v o most some old is =
    ap (λ (n : LruCache K V). total f n.entries + if_there f o) is
    ∙ ap (λ (p : Option (K × V)). total f (put_entries eq c k v) + if_there f p) old
    ∙ put_total f eq c k v some most

-- what is found by a key, of records of which one was used, is kept by its paths
pub found_by : (paths : List (List ℕ)) (key : Vec (List ℕ)) (records new : LruCache (Vec (List ℕ)) Repair) (o : Option Repair) → key.items ≡ paths
    → new ≡ lru_cache (promoted (same_key key) records.entries) records.cap → o ≡ lookup (same_key key) new.entries → o ≡ kept_by paths records.entries
found_by paths key records new o are is found =
    found
    ∙ ap (λ (n : LruCache (Vec (List ℕ)) Repair). lookup (same_key key) n.entries) is
    ∙ promoted_found size_of (same_key key) records.entries
    ∙ ap (λ ps. kept_by ps records.entries) are
