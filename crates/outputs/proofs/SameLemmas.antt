-- Labels in order, whatever order their records came in, if those of one class at one path came in the same.
use Rattle.std.proofs.Common.{◌≡◌, ℕ, zero, suc, ◌≤◌, Bool, true, false, not, ◌⊎◌, inl, inr, List, [], ◌∷◌, ◌++◌, map, length, refl, sym, ap, ◌∙◌, arith}
use Rattle.std.specs.Prelude.{bytes_eq, filter, Option, Some, None}
use Rattle.std.proofs.lemmas.List.Sums.{length-filter, count_by-le-length}
use Rattle.model.specs.Archives.{bytes_before}
use Rattle.model.specs.Classes.{Class}
use Rattle.model.specs.Worlds.{Label}
use Rattle.model.specs.References.{class_before, least_label, with_label, labels_in_order}
use Rattle.model.proofs.BoolLemmas.{either, both_parts, same_bytes, bytes_same, bytes_eq_sym}
use Rattle.records.specs.Recorded.{Recorded}
use Rattle.records.specs.Ordered.{record_label}
use Rattle.records.proofs.PathOrderLemmas.{bytes_weak, irreflexive, goes_on, other_way}
use Rattle.desk_records.specs.RecordLists.{is_recorded_at}
use Rattle.outputs.specs.Reaching.{AreSame}

clash : {X : Type 0} (b : Bool) → b ≡ true → b ≡ false → X
clash b t f = absurd (let e = sym t ∙ f in cc)

-- ---- how two paths stand

pub order : (p q : List ℕ) → (bytes_before p q ≡ true) ⊎ ((bytes_eq p q ≡ true) ⊎ (bytes_before q p ≡ true))
order p q = elim (either (bytes_before p q)) [
  | inl t ↦ inl t
  | inr f ↦ elim (either (bytes_eq p q)) [ inl s ↦ inr (inl s) | inr n ↦ inr (inr (other_way p q f n)) ]
]

not_before_itself : (p q : List ℕ) → bytes_eq p q ≡ true → bytes_before p q ≡ false
not_before_itself p q s = ap (bytes_before p) (sym (same_bytes p q s)) ∙ irreflexive p

not_same : (p q : List ℕ) → bytes_before p q ≡ true → bytes_eq p q ≡ false
not_same p q t = elim (either (bytes_eq p q)) [ inl s ↦ clash (bytes_before p q) t (not_before_itself p q s) | inr n ↦ n ]

-- ---- a label put before, onto or behind the first

pub past : (l f : Label) (fs : List Label) → bytes_before f.path l.path ≡ true → with_label l (f ∷ fs) ≡ f ∷ with_label l fs
past l f fs t = rw t refl

pub onto : (l f : Label) (fs : List Label) → bytes_eq f.path l.path ≡ true → with_label l (f ∷ fs) ≡ least_label f l ∷ fs
onto l f fs s = let n = not_before_itself f.path l.path s in rw (n, s) refl

pub ahead : (l f : Label) (fs : List Label) → bytes_before l.path f.path ≡ true → with_label l (f ∷ fs) ≡ l ∷ f ∷ fs
ahead l f fs t =
    let n = bytes_weak.one_way l.path f.path t in
    let m = bytes_eq_sym f.path l.path ∙ not_same l.path f.path t in
    rw (n, m) refl

least_at : (P : List ℕ → Type 0) (k l : Label) → P k.path → P l.path → P (least_label k l).path
least_at P k l p q = elim (either (class_before l.class k.class)) [ inl t ↦ rw t q | inr f ↦ rw f p ]

class_one_way : (c d : Option Class) → class_before c d ≡ true → class_before d c ≡ false
class_one_way None d t = cc
class_one_way (Some c) None t = refl
class_one_way (Some c) (Some d) t = bytes_weak.one_way c.path d.path t

class_goes_on : (c d e : Option Class) → class_before c d ≡ true → class_before d e ≡ true → class_before c e ≡ true
class_goes_on None d e t u = cc
class_goes_on (Some c) None e t u = cc
class_goes_on (Some c) (Some d) None t u = refl
class_goes_on (Some c) (Some d) (Some e) t u = goes_on c.path d.path e.path t u

-- of three labels the least stays
three : (f k l : Label) → class_before l.class k.class ≡ true → least_label (least_label f k) l ≡ least_label (least_label f l) k
three f k l t =
    let kl : least_label k l ≡ l = rw t refl in
    let lk : least_label l k ≡ l = let back = class_one_way l.class k.class t in rw back refl in
    elim (either (class_before k.class f.class)) [
      | inl u ↦
          let fk : least_label f k ≡ k = rw u refl in
          let fl : least_label f l ≡ l = let v = class_goes_on l.class k.class f.class t u in rw v refl in
          ap (λ x. least_label x l) fk ∙ kl ∙ sym (ap (λ x. least_label x k) fl ∙ lk)
      | inr n ↦
          let fk : least_label f k ≡ f = rw n refl in
          elim (either (class_before l.class f.class)) [
            | inl v ↦
                let fl : least_label f l ≡ l = rw v refl in
                ap (λ x. least_label x l) fk ∙ fl ∙ sym (ap (λ x. least_label x k) fl ∙ lk)
            | inr m ↦
                let fl : least_label f l ≡ f = rw m refl in
                ap (λ x. least_label x l) fk ∙ fl ∙ sym (ap (λ x. least_label x k) fl ∙ fk)
          ]
    ]

-- ---- two labels, one after the other

module _ (l k : Label) where
  pub commute_paths : bytes_before l.path k.path ≡ true → (xs : List Label) → with_label l (with_label k xs) ≡ with_label k (with_label l xs)
  commute_paths lk [] = ahead l k [] lk ∙ sym (past k l [] lk)
  commute_paths lk (f ∷ fs) = elim (order f.path l.path) [
    | inl fl ↦
        let fk = goes_on f.path l.path k.path fl lk in
        ap (with_label l) (past k f fs fk) ∙ past l f (with_label k fs) fl ∙ ap (λ rest. f ∷ rest) (commute_paths lk fs)
        ∙ sym (ap (with_label k) (past l f fs fl) ∙ past k f (with_label l fs) fk)
    | inr (inl fl) ↦
        let fk : bytes_before f.path k.path ≡ true = ap (λ p. bytes_before p k.path) (same_bytes f.path l.path fl) ∙ lk in
        let least = least_at (λ p. bytes_before p k.path ≡ true) f l fk lk in
        ap (with_label l) (past k f fs fk) ∙ onto l f (with_label k fs) fl
        ∙ sym (ap (with_label k) (onto l f fs fl) ∙ past k (least_label f l) fs least)
    | inr (inr lf) ↦
        let front = ap (with_label k) (ahead l f fs lf) ∙ past k l (f ∷ fs) lk in
        elim (order f.path k.path) [
          | inl fk ↦ ap (with_label l) (past k f fs fk) ∙ ahead l f (with_label k fs) lf ∙ sym (front ∙ ap (λ rest. l ∷ rest) (past k f fs fk))
          | inr (inl fk) ↦
              let least = least_at (λ p. bytes_before l.path p ≡ true) f k lf lk in
              ap (with_label l) (onto k f fs fk) ∙ ahead l (least_label f k) fs least ∙ sym (front ∙ ap (λ rest. l ∷ rest) (onto k f fs fk))
          | inr (inr kf) ↦ ap (with_label l) (ahead k f fs kf) ∙ ahead l k (f ∷ fs) lk ∙ sym (front ∙ ap (λ rest. l ∷ rest) (ahead k f fs kf))
        ]
  ]

  module _ (lk : bytes_eq l.path k.path ≡ true) (t : class_before l.class k.class ≡ true) where
    kl : bytes_eq k.path l.path ≡ true
    kl = bytes_eq_sym k.path l.path ∙ lk

    either_first : least_label k l ≡ least_label l k
    either_first =
        let first : least_label k l ≡ l = rw t refl in
        let stays : least_label l k ≡ l = let back = class_one_way l.class k.class t in rw back refl in
        first ∙ sym stays

    commute_classes : (xs : List Label) → with_label l (with_label k xs) ≡ with_label k (with_label l xs)
    commute_classes [] = onto l k [] kl ∙ ap (λ x. x ∷ []) either_first ∙ sym (onto k l [] lk)
    commute_classes (f ∷ fs) =
        let path = same_bytes l.path k.path lk in
        elim (order f.path l.path) [
          | inl fl ↦
              let fk : bytes_before f.path k.path ≡ true = ap (bytes_before f.path) (sym path) ∙ fl in
              ap (with_label l) (past k f fs fk) ∙ past l f (with_label k fs) fl ∙ ap (λ rest. f ∷ rest) (commute_classes fs)
              ∙ sym (ap (with_label k) (past l f fs fl) ∙ past k f (with_label l fs) fk)
          | inr (inl fl) ↦
              let fk : bytes_eq f.path k.path ≡ true = ap (bytes_eq f.path) (sym path) ∙ fl in
              let one = least_at (λ p. bytes_eq p l.path ≡ true) f k fl kl in
              let other = least_at (λ p. bytes_eq p k.path ≡ true) f l fk lk in
              ap (with_label l) (onto k f fs fk) ∙ onto l (least_label f k) fs one ∙ ap (λ x. x ∷ fs) (three f k l t)
              ∙ sym (ap (with_label k) (onto l f fs fl) ∙ onto k (least_label f l) fs other)
          | inr (inr lf) ↦
              let kf : bytes_before k.path f.path ≡ true = ap (λ p. bytes_before p f.path) (sym path) ∙ lf in
              ap (with_label l) (ahead k f fs kf) ∙ onto l k (f ∷ fs) kl ∙ ap (λ x. x ∷ f ∷ fs) either_first
              ∙ sym (ap (with_label k) (ahead l f fs lf) ∙ onto k l (f ∷ fs) lk)
        ]

-- ---- records, one after another

abbrev put : List Recorded → List Label → List Label
put [] labels = labels
put (r ∷ records) labels = with_label (record_label r) (put records labels)

put_all : (records : List Recorded) → put records [] ≡ labels_in_order (map record_label records)
put_all [] = refl
put_all (r ∷ records) = ap (with_label (record_label r)) (put_all records)

-- those of another class or at another path
commute : (r s : Recorded) → is_recorded_at r.class.path r.path s ≡ false → (xs : List Label)
    → with_label (record_label r) (with_label (record_label s) xs) ≡ with_label (record_label s) (with_label (record_label r) xs)
commute r s apart xs = elim (order r.path s.path) [
  | inl t ↦ commute_paths (record_label r) (record_label s) t xs
  | inr (inl same) ↦ elim (order r.class.path s.class.path) [
    | inl t ↦ commute_classes (record_label r) (record_label s) same t xs
    | inr (inl one) ↦
        let class : bytes_eq s.class.path r.class.path ≡ true = bytes_eq_sym s.class.path r.class.path ∙ one in
        let path : bytes_eq s.path r.path ≡ true = bytes_eq_sym s.path r.path ∙ same in
        let there : is_recorded_at r.class.path r.path s ≡ true = rw (class, path) refl in
        clash (is_recorded_at r.class.path r.path s) there apart
    | inr (inr t) ↦ sym (commute_classes (record_label s) (record_label r) (bytes_eq_sym s.path r.path ∙ same) t xs)
  ]
  | inr (inr t) ↦ sym (commute_paths (record_label s) (record_label r) t xs)
]

module _ (class path : List ℕ) where
  abbrev here : Recorded → Bool
  here = is_recorded_at class path

  abbrev away : Recorded → Bool
  away r = not (is_recorded_at class path r)

  apart : (r s : Recorded) → here r ≡ true → here s ≡ false → is_recorded_at r.class.path r.path s ≡ false
  apart r s t n =
      let both = both_parts (bytes_eq r.class.path class) (bytes_eq r.path path) t in
      (λ i. is_recorded_at (same_bytes r.class.path class both.0 i) (same_bytes r.path path both.1 i) s) ∙ n

  -- one of the class at the path is put before all that are not, or behind them
  moved : (r : Recorded) → here r ≡ true → (xs : List Recorded) (labels : List Label)
      → with_label (record_label r) (put (filter away xs) labels) ≡ put (filter away xs) (with_label (record_label r) labels)
  moved r t [] labels = refl
  moved r t (x ∷ xs) labels = elim (either (here x)) [
    | inl u ↦ rw u (moved r t xs labels)
    | inr n ↦
        let rest = commute r x (apart r x t n) (put (filter away xs) labels) ∙ ap (with_label (record_label x)) (moved r t xs labels) in
        rw n rest
  ]

  parted : (xs : List Recorded) (labels : List Label) → put xs labels ≡ put (filter away xs) (put (filter here xs) labels)
  parted [] labels = refl
  parted (x ∷ xs) labels = elim (either (here x)) [
    | inl t ↦
        let rest = ap (with_label (record_label x)) (parted xs labels) ∙ moved x t xs (put (filter here xs) labels) in
        rw t rest
    | inr n ↦ let rest = ap (with_label (record_label x)) (parted xs labels) in rw n rest
  ]

pub filters_swap : {X : Type 0} (p q : X → Bool) (xs : List X) → filter p (filter q xs) ≡ filter q (filter p xs)
filters_swap p q [] = refl
filters_swap p q (x ∷ xs) = elim (either (p x)) [
  | inl t ↦ elim (either (q x)) [
    | inl u ↦ rw (t, u) (rw t (ap (λ rest. x ∷ rest) (filters_swap p q xs)))
    | inr n ↦ rw (t, n) (filters_swap p q xs)
  ]
  | inr m ↦ elim (either (q x)) [
    | inl u ↦ rw (m, u) (rw m (filters_swap p q xs))
    | inr n ↦ rw (m, n) (filters_swap p q xs)
  ]
]

pub here_itself : (r : Recorded) → is_recorded_at r.class.path r.path r ≡ true
here_itself r = let class = bytes_same r.class.path in let path = bytes_same r.path in rw (class, path) refl

-- what is the same as nothing is nothing
pub same_as_nothing : (ys : List Recorded) → AreSame [] ys → ys ≡ []
same_as_nothing [] same = refl
same_as_nothing (y ∷ ys) same =
    let t = here_itself y in
    let wrong : [] ≡ y ∷ filter (is_recorded_at y.class.path y.path) ys = rw t at (same y.class.path y.path) in
    cc

shorter : (p : Recorded → Bool) (xs : List Recorded) → length (filter p xs) ≤ length xs
shorter p xs = let le = count_by-le-length p xs in let is = length-filter p xs in omega (arith, le, is)

same_puts : (n : ℕ) (xs ys : List Recorded) → length xs ≤ n → AreSame xs ys → (labels : List Label) → put xs labels ≡ put ys labels
same_puts n [] ys le same labels = ap (λ zs. put zs labels) (sym (same_as_nothing ys same))
same_puts zero (x ∷ xs) ys le same labels = absurd (let few : suc (length xs) ≤ 0 = le in omega arith)
same_puts (suc n) (x ∷ xs) ys le same labels =
    let class = x.class.path in
    let path = x.path in
    let others = filter (away class path) (x ∷ xs) in
    let fewer : others ≡ filter (away class path) xs = let t = here_itself x in rw t refl in
    let shorter_by = ap length fewer in
    let le_rest = shorter (away class path) xs in
    let short : suc (length xs) ≤ suc n = le in
    let at_most : length others ≤ n = omega (arith, shorter_by, le_rest, short) in
    let same_others : AreSame others (filter (away class path) ys) =
    λ c p. filters_swap (is_recorded_at c p) (away class path) (x ∷ xs) ∙ ap (filter (away class path)) (same c p)
    ∙ filters_swap (away class path) (is_recorded_at c p) ys in
    parted class path (x ∷ xs) labels ∙ ap (λ zs. put others (put zs labels)) (same class path)
    ∙ same_puts n others (filter (away class path) ys) at_most same_others (put (filter (here class path) ys) labels)
    ∙ sym (parted class path ys labels)

pub same_order : (xs ys : List Recorded) → AreSame xs ys → labels_in_order (map record_label xs) ≡ labels_in_order (map record_label ys)
same_order xs ys same = sym (put_all xs) ∙ same_puts (length xs) xs ys (omega arith) same [] ∙ put_all ys

-- and behind other labels
pub same_behind : (ls ms ns : List Label) → labels_in_order ms ≡ labels_in_order ns → labels_in_order (ls ++ ms) ≡ labels_in_order (ls ++ ns)
same_behind [] ms ns same = same
same_behind (l ∷ ls) ms ns same = ap (with_label l) (same_behind ls ms ns same)
