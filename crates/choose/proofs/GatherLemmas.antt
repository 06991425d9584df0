-- How what is gathered grows.
use Rattle.std.proofs.Common.{◌≡◌, ℕ, true, false, ◌⊎◌, inl, inr, refl, sym, ◌∙◌, ap, subst, List, [], ◌∷◌, ◌++◌, Option, Some, None}
use Rattle.std.specs.Prelude.{bytes_eq}
use Rattle.std.specs.List.{list_any}
use Rattle.model.specs.Worlds.{Source, Label, Record}
use Rattle.model.specs.Classes.{Class}
use Rattle.model.specs.Choices.{rank_before, source_before, is_of, class_path_of, classes_below, source_path_of, sources_below, needed_records, Plan}
use Rattle.model.proofs.BoolLemmas.{either, same_bytes, bytes_same}
use Rattle.laws.proofs.MemberLemmas.{In, in_left, in_right, in_append, in_filter_map, from_filter_map}
use Rattle.laws.proofs.ClosureLemmas.{some_same}
use Rattle.choose.specs.Visible.{Visible, source_in}
use Rattle.choose.specs.Gathering.{has_class, with_chosen, with_class, has_source, with_found, with_source, with_named, with_label, with_labels, IsChoiceAmong, IsGathered}
use Rattle.records.proofs.SetLemmas.{apart_push}
use Rattle.records.proofs.EntryOrderLemmas.{classes_apart, sources_apart}
use Rattle.choose.proofs.ReachedLemmas.{needed_first, needed_next, source_own}
use Rattle.choose.proofs.ChoosingLemmas.{false_true}

-- ---- looking up

any_of : (c : List ℕ) (rs : List Record) → list_any (is_of c) rs ≡ true → (r : Record) × In r rs × (r.class.path ≡ c)
any_of c [] h = absurd (cc)
any_of c (r ∷ rs) h = elim (either (is_of c r)) [
  | inl t ↦ (r, inl refl, same_bytes r.class.path c t)
  | inr f ↦ let w = any_of c rs (rw f at h) in (w.0, inr w.1, w.2)
]

none_of : (c : List ℕ) (rs : List Record) → list_any (is_of c) rs ≡ false → (r : Record) → In r rs → r.class.path ≡ c → ⊥
none_of c [] h r i e = i
none_of c (x ∷ rs) h r i e = elim (either (is_of c x)) [
  | inl t ↦ false_true (sym (rw t at h))
  | inr f ↦ elim i [
    | inl same ↦ (let wrong : bytes_eq c c ≡ false = subst (λ q. bytes_eq q c ≡ false) (ap (λ (z : Record). z.class.path) same ∙ e) f in
        false_true (sym wrong ∙ bytes_same c))
    | inr later ↦ none_of c rs (rw f at h) r later e
  ]
]

any_at : (q : List ℕ) (ss : List Source) → list_any (λ s. bytes_eq s.path q) ss ≡ true → (s : Source) × In s ss × (s.path ≡ q)
any_at q [] h = absurd (cc)
any_at q (s ∷ ss) h = elim (either (bytes_eq s.path q)) [
  | inl t ↦ (s, inl refl, same_bytes s.path q t)
  | inr f ↦ let w = any_at q ss (rw f at h) in (w.0, inr w.1, w.2)
]

none_at : (q : List ℕ) (ss : List Source) → list_any (λ s. bytes_eq s.path q) ss ≡ false → (s : Source) → In s ss → s.path ≡ q → ⊥
none_at q [] h s i e = i
none_at q (x ∷ ss) h s i e = elim (either (bytes_eq x.path q)) [
  | inl t ↦ false_true (sym (rw t at h))
  | inr f ↦ elim i [
    | inl same ↦ (let wrong : bytes_eq q q ≡ false = subst (λ p. bytes_eq p q ≡ false) (ap (λ (z : Source). z.path) same ∙ e) f in
        false_true (sym wrong ∙ bytes_same q))
    | inr later ↦ none_at q ss (rw f at h) s later e
  ]
]

pub labels_next : (view : Visible) (choice : List ℕ → Option Record) (l : Label) (ls ms : List Label) (p : Plan) → ms ≡ l ∷ ls
    → with_labels view choice ls (with_label view choice l p) ≡ with_labels view choice ms p
unfolding with_labels
labels_next view choice l ls ms p e = ap (λ xs. with_labels view choice xs p) (sym e)

pub labels_end : (view : Visible) (choice : List ℕ → Option Record) (ms : List Label) (p : Plan) → ms ≡ [] → with_labels view choice ms p ≡ p
unfolding with_labels
labels_end view choice ms p e = ap (λ xs. with_labels view choice xs p) e

-- ---- one class more

module _ (view : Visible) (choice : List ℕ → Option Record) (own : IsChoiceAmong view.records choice) (classes sources : List (List ℕ)) where
  abbrev G : List (List ℕ) → List (List ℕ) → List Record → Plan → Type 0
  G A P D p = IsGathered view choice classes sources A P D p

  -- a plan that has what another has, and more
  pub record Grows (p q : Plan) : Type 0 where
    pub keeps : (r : Record) → In r p.records → In r q.records
    pub keeps_sources : (s : Source) → In s p.sources → In s q.sources

  unchanged : (p : Plan) → Grows p p
  unchanged p = record { keeps = λ r h. h; keeps_sources = λ s h. h }

  abbrev IsReached : Record → Type 0
  IsReached r = In r (needed_records view.records choice classes)

  pub nothing : G [] [] [] (record { records = []; sources = [] })
  nothing = record {
    chosen = λ r h. absurd h;
    reach = λ r h. absurd h;
    apart = tt;
    asked = λ c s h e. absurd h;
    below = λ r s c h b e. absurd h;
    found = λ s h. absurd h;
    needed = λ s h. absurd h;
    sources_apart = tt;
    sources_asked = λ q s h e. absurd h;
    sources_below = λ r q s h b e. absurd h;
  }

  push_record : (A P : List (List ℕ)) (D : List Record) (p : Plan) (c : List ℕ) (r : Record) → G A P D p → choice c ≡ Some r → IsReached r
      → has_class c p ≡ false → G A P D (with_chosen (Some r) p)
  push_record A P D p c r g e reach absent =
      let is : r.class.path ≡ c = (own c r e).1 in
      let at : choice r.class.path ≡ Some r = subst (λ z. choice z ≡ Some r) (sym is) e in
      record {
        chosen = λ x h. elim (in_append x p.records (r ∷ []) h)
            [ inl a ↦ g.chosen x a | inr b ↦ elim b [ inl same ↦ subst (λ (z : Record). choice z.class.path ≡ Some z) same at | inr n ↦ absurd n ] ];
        reach = λ x h. elim (in_append x p.records (r ∷ []) h) [ inl a ↦ g.reach x a | inr b ↦ elim b [ inl same ↦ subst IsReached same reach | inr n ↦ absurd n ] ];
        apart = apart_push rank_before p.records r g.apart (λ y h. classes_apart y r (λ k. none_of c p.records absent y h (k ∙ is)));
        asked = λ d s h k. in_left s p.records (r ∷ []) (g.asked d s h k);
        below = λ x s d h b k. in_left s p.records (r ∷ []) (g.below x s d h b k);
        found = g.found;
        needed = λ s h. elim (g.needed s h) [ inl a ↦ inl a | inr w ↦ inr (w.0, in_left w.0 p.records (r ∷ []) w.1, w.2) ];
        sources_apart = g.sources_apart;
        sources_asked = g.sources_asked;
        sources_below = g.sources_below;
      }

  abbrev AfterClass : List (List ℕ) → List (List ℕ) → List Record → List ℕ → Plan → Plan → Type 0
  AfterClass A P D c p q = G A P D q × ((s : Record) → choice c ≡ Some s → In s q.records) × Grows p q × (choice c ≡ None → has_class c q ≡ false)

  class_absent : (A P : List (List ℕ)) (D : List Record) (p : Plan) (c : List ℕ) (o : Option Record) → G A P D p → choice c ≡ o
      → ((s : Record) → choice c ≡ Some s → IsReached s) → has_class c p ≡ false → AfterClass A P D c p (with_chosen o p)
  class_absent A P D p c None g e reach absent = (g, λ s k. (let no = sym e ∙ k in absurd (cc)), unchanged p, λ n. absent)
  class_absent A P D p c (Some r) g e reach absent = (
    push_record A P D p c r g e (reach r e) absent,
    λ s k. in_right s p.records (r ∷ []) (inl (some_same r s (sym e ∙ k))),
    record { keeps = λ x h. in_left x p.records (r ∷ []) h; keeps_sources = λ s h. h },
    λ n. (let no = sym e ∙ n in absurd (cc)),
  )

  pub class_more : (A P : List (List ℕ)) (D : List Record) (p : Plan) (c : List ℕ) → G A P D p → ((s : Record) → choice c ≡ Some s → IsReached s)
      → AfterClass A P D c p (with_class choice c p)
  class_more A P D p c g reach = elim (either (has_class c p)) [
    | inl t ↦
        let w = any_of c p.records t in
        let at : choice c ≡ Some w.0 = subst (λ z. choice z ≡ Some w.0) w.2 (g.chosen w.0 w.1) in
        rw t (g, λ s e. subst (λ z. In z p.records) (some_same w.0 s (sym at ∙ e)) w.1, unchanged p, λ n. (let no = sym at ∙ n in absurd (cc)))
    | inr f ↦ rw f (class_absent A P D p c (choice c) g refl reach f)
  ]

  -- ---- one source more

  abbrev IsNeeded : List ℕ → Plan → Type 0
  IsNeeded q p = In q sources ⊎ ((r : Record) × In r p.records × In q (sources_below r))

  push_source : (A P : List (List ℕ)) (D : List Record) (p : Plan) (q : List ℕ) (s : Source) → G A P D p → source_in view q ≡ Some s → s.path ≡ q
      → IsNeeded q p → has_source q p ≡ false → G A P D (with_found (Some s) p)
  push_source A P D p q s g e is needed absent =
      let at : source_in view s.path ≡ Some s = subst (λ z. source_in view z ≡ Some s) (sym is) e in
      record {
        chosen = g.chosen;
        reach = g.reach;
        apart = g.apart;
        asked = g.asked;
        below = g.below;
        found = λ x h. elim (in_append x p.sources (s ∷ []) h)
            [ inl a ↦ g.found x a | inr b ↦ elim b [ inl same ↦ subst (λ (z : Source). source_in view z.path ≡ Some z) same at | inr n ↦ absurd n ] ];
        needed = λ x h. elim (in_append x p.sources (s ∷ []) h) [
          | inl a ↦ g.needed x a
          | inr b ↦ elim b [
            | inl same ↦ subst (λ z. IsNeeded z p) (sym is ∙ ap (λ (z : Source). z.path) same) needed
            | inr n ↦
                absurd n
          ]
        ];
        sources_apart = apart_push source_before p.sources s g.sources_apart (λ y h. sources_apart y s (λ k. none_at q p.sources absent y h (k ∙ is)));
        sources_asked = λ z x h k. in_left x p.sources (s ∷ []) (g.sources_asked z x h k);
        sources_below = λ r z x h b k. in_left x p.sources (s ∷ []) (g.sources_below r z x h b k);
      }

  abbrev AfterSource : List (List ℕ) → List (List ℕ) → List Record → List ℕ → Plan → Plan → Type 0
  AfterSource A P D q p p2 = G A P D p2 × ((s : Source) → source_in view q ≡ Some s → In s p2.sources) × Grows p p2

  source_absent : (A P : List (List ℕ)) (D : List Record) (p : Plan) (q : List ℕ) (o : Option Source) → G A P D p → source_in view q ≡ o → IsNeeded q p
      → has_source q p ≡ false → AfterSource A P D q p (with_found o p)
  source_absent A P D p q None g e needed absent = (g, λ s k. (let no = sym e ∙ k in absurd (cc)), unchanged p)
  source_absent A P D p q (Some s) g e needed absent = (
    push_source A P D p q s g e (source_own view.sources q s e) needed absent,
    λ x k. in_right x p.sources (s ∷ []) (inl (some_same s x (sym e ∙ k))),
    record { keeps = λ r h. h; keeps_sources = λ x h. in_left x p.sources (s ∷ []) h },
  )

  pub source_more : (A P : List (List ℕ)) (D : List Record) (p : Plan) (q : List ℕ) → G A P D p → IsNeeded q p → AfterSource A P D q p (with_source view q p)
  source_more A P D p q g needed = elim (either (has_source q p)) [
    | inl t ↦
        let w = any_at q p.sources t in
        let at : source_in view q ≡ Some w.0 = subst (λ z. source_in view z ≡ Some w.0) w.2 (g.found w.0 w.1) in
        rw t (g, λ s e. subst (λ z. In z p.sources) (some_same w.0 s (sym at ∙ e)) w.1, unchanged p)
    | inr f ↦ rw f (source_absent A P D p q (source_in view q) g refl needed f)
  ]

  -- ---- what the labels of one record name

  -- all that labels name is there
  abbrev Covers : List Label → Plan → Type 0
  Covers ls q = ((l : Label) (c : List ℕ) (s : Record) → In l ls → class_path_of l ≡ Some c → choice c ≡ Some s → In s q.records)
      × ((l : Label) (z : List ℕ) (s : Source) → In l ls → source_path_of l ≡ Some z → source_in view z ≡ Some s → In s q.sources)

  abbrev AfterLabels : List (List ℕ) → List (List ℕ) → List Record → List Label → Plan → Plan → Type 0
  AfterLabels A P D ls p q = G A P D q × Covers ls q × Grows p q

  one_label : (A P : List (List ℕ)) (D : List Record) (p : Plan) (x : Record) (path : List ℕ) (class : Option Class) → G A P D p → In x p.records
      → In (record { path = path; class = class }) x.labels
      → G A P D (with_named view choice path class p) × ((c : List ℕ) (s : Record) → class_path_of (record { path = path; class = class }) ≡ Some c
      → choice c ≡ Some s → In s (with_named view choice path class p).records)
      × ((z : List ℕ) (s : Source) → source_path_of (record { path = path; class = class }) ≡ Some z → source_in view z ≡ Some s
      → In s (with_named view choice path class p).sources) × Grows p (with_named view choice path class p)
  one_label A P D p x path None g there i =
      let w = source_more A P D p path g (inr (x, there, in_filter_map source_path_of (record { path = path; class = None }) path x.labels i refl)) in
      (w.0, λ c s e k. absurd (cc), λ z s e k. w.1 s (subst (λ q. source_in view q ≡ Some s) (sym (some_same path z e)) k), w.2)
  one_label A P D p x path (Some class) g there i =
      let down = in_filter_map class_path_of (record { path = path; class = Some class }) class.path x.labels i refl in
      let w = class_more A P D p class.path g (λ s e. needed_next view.records choice own classes x s class.path (g.reach x there) down e) in
      (w.0, λ c s e k. w.1 s (subst (λ q. choice q ≡ Some s) (sym (some_same class.path c e)) k), λ z s e k. absurd (cc), w.2)

  pub labels_more : (A P : List (List ℕ)) (D : List Record) (x : Record) (ls : List Label) (p : Plan) → G A P D p → In x p.records
      → ((l : Label) → In l ls → In l x.labels) → AfterLabels A P D ls p (with_labels view choice ls p)
  unfolding with_labels
  labels_more A P D x [] p g there sub = (g, (λ l c s h. absurd h, λ l z s h. absurd h), unchanged p)
  labels_more A P D x (l ∷ ls) p g there sub =
      let one = one_label A P D p x l.path l.class g there (sub l (inl refl)) in
      let q : Plan = with_label view choice l p in
      let rest = labels_more A P D x ls q one.0 (one.3.keeps x there) (λ m h. sub m (inr h)) in (
        rest.0,
        (
          λ m c s h e k. elim h [
            | inl same ↦ rest.2.keeps s (one.1 c s (subst (λ (z : Label). class_path_of z ≡ Some c) (sym same) e) k)
            | inr later ↦ rest.1.0 m c s later e k
          ],
          λ m z s h e k. elim h [
            | inl same ↦ rest.2.keeps_sources s (one.2 z s (subst (λ (y : Label). source_path_of y ≡ Some z) (sym same) e) k)
            | inr later ↦ rest.1.1 m z s later e k
          ],
        ),
        record {
          keeps = λ r h. rest.2.keeps r (one.3.keeps r h);
          keeps_sources = λ s h. rest.2.keeps_sources s (one.3.keeps_sources s h);
        },
      )

  -- ---- steps

  -- one class asked for more
  pub asked_more : (A : List (List ℕ)) (p : Plan) (c : List ℕ) → In c classes → G A [] [] p → G (A ++ c ∷ []) [] [] (with_class choice c p)
      × (choice c ≡ None → has_class c (with_class choice c p) ≡ false)
  asked_more A p c i g =
      let w = class_more A [] [] p c g (λ s e. needed_first view.records choice own classes c s i e) in
      let h : G A [] [] (with_class choice c p) = w.0 in (
        record {
          chosen = h.chosen;
          reach = h.reach;
          apart = h.apart;
          asked = λ d s k e. elim (in_append d A (c ∷ []) k) [
            | inl a ↦ h.asked d s a e
            | inr b ↦
                elim b [ inl same ↦ w.1 s (subst (λ z. choice z ≡ Some s) (sym same) e) | inr n ↦ absurd n ]
          ];
          below = h.below;
          found = h.found;
          needed = h.needed;
          sources_apart = h.sources_apart;
          sources_asked = h.sources_asked;
          sources_below = h.sources_below;
        },
        w.3,
      )

  -- one source asked for more
  pub sources_more : (A P : List (List ℕ)) (p : Plan) (q : List ℕ) → In q sources → G A P [] p → G A (P ++ q ∷ []) [] (with_source view q p)
  sources_more A P p q i g =
      let w = source_more A P [] p q g (inl i) in
      let h : G A P [] (with_source view q p) = w.0 in
      record {
        chosen = h.chosen;
        reach = h.reach;
        apart = h.apart;
        asked = h.asked;
        below = h.below;
        found = h.found;
        needed = h.needed;
        sources_apart = h.sources_apart;
        sources_asked = λ z s k e. elim (in_append z P (q ∷ []) k)
            [ inl a ↦ h.sources_asked z s a e | inr b ↦ elim b [ inl same ↦ w.1 s (subst (λ v. source_in view v ≡ Some s) (sym same) e) | inr n ↦ absurd n ] ];
        sources_below = h.sources_below;
      }

  -- what is below one record more
  pub below_more : (A P : List (List ℕ)) (D : List Record) (p : Plan) (x : Record) → In x p.records → G A P D p
      → G A P (D ++ x ∷ []) (with_labels view choice x.labels p)
  below_more A P D p x there g =
      let q : Plan = with_labels view choice x.labels p in
      let w = labels_more A P D x x.labels p g there (λ l h. h) in
      let h : G A P D q = w.0 in
      record {
        chosen = h.chosen;
        reach = h.reach;
        apart = h.apart;
        asked = h.asked;
        below = λ r s c m b e. elim (in_append r D (x ∷ []) m) [
          | inl a ↦ h.below r s c a b e
          | inr o ↦ elim o [
            | inl same ↦ (let v = from_filter_map class_path_of c x.labels (subst (λ (z : Record). In c (classes_below z)) (sym same) b) in
                w.1.0 v.0 c s v.1 v.2 e)
            | inr n ↦ absurd n
          ]
        ];
        found = h.found;
        needed = h.needed;
        sources_apart = h.sources_apart;
        sources_asked = h.sources_asked;
        sources_below = λ r z s m b e. elim (in_append r D (x ∷ []) m) [
          | inl a ↦ h.sources_below r z s a b e
          | inr o ↦ elim o [
            | inl same ↦ (let v = from_filter_map source_path_of z x.labels (subst (λ (y : Record). In z (sources_below y)) (sym same) b) in
                w.1.1 v.0 z s v.1 v.2 e)
            | inr n ↦ absurd n
          ]
        ];
      }
