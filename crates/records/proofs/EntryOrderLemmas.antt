-- The orders of records, sources and entries.
use Rattle.std.proofs.Common.{◌≡◌, ℕ, Bool, true, false, inl, inr, refl, ap, arith, Option, Some, None}
use Rattle.std.specs.Prelude.{nat_lt}
use Rattle.std.specs.Cmp.{IsStrictWeakOrder}
use Rattle.std.proofs.lemmas.Bool.Decides.{nat_tests}
use Rattle.model.specs.Archives.{bytes_before}
use Rattle.model.specs.Classes.{Class}
use Rattle.model.specs.Worlds.{Source, Record, Entry, path_of_entry}
use Rattle.model.specs.References.{class_before}
use Rattle.model.specs.Choices.{rank_before, source_before}
use Rattle.model.specs.Closures.{class_of_entry, entry_before}
use Rattle.model.proofs.BoolLemmas.{either}
use Rattle.laws.proofs.MemberLemmas.{Stands}
use Rattle.laws.proofs.OrderLemmas.{bytes_apart, first_apart}
use Rattle.laws.proofs.SetLemmas.{bytes_weak}
use Rattle.records.specs.Plans.{IsApart}
use Rattle.records.proofs.SetLemmas.{first_by-Weak}

-- ---- numbers

nat_weak : IsStrictWeakOrder nat_lt
nat_weak = record { one_way = λ x y h. grind (arith, nat_tests); chain = λ x y z h k. grind (arith, nat_tests) }

nat_apart : (a b : ℕ) → nat_lt a b ≡ false → nat_lt b a ≡ false → a ≡ b
nat_apart a b h k = grind (arith, nat_tests)

-- ---- by a key

keyed : {X K : Type 0} (key : X → K) (before : K → K → Bool) → IsStrictWeakOrder before → IsStrictWeakOrder (λ x y. before (key x) (key y))
keyed key before w = record { one_way = λ x y h. w.one_way (key x) (key y) h; chain = λ x y z h k. w.chain (key x) (key y) (key z) h k }

-- ---- records

pub rank_before-Weak : IsStrictWeakOrder rank_before
rank_before-Weak =
    first_by-Weak (λ q r. nat_lt q.class.rank r.class.rank) (λ q r. bytes_before q.class.path r.class.path)
    (keyed (λ (r : Record). r.class.rank) nat_lt nat_weak) (keyed (λ (r : Record). r.class.path) bytes_before bytes_weak)

-- records that the order does not part are of one class
pub one_class : (x y : Record) → rank_before x y ≡ false → rank_before y x ≡ false → x.class.path ≡ y.class.path
one_class x y h k =
    let a = first_apart (λ (q r : Record). nat_lt q.class.rank r.class.rank) (λ q r. bytes_before q.class.path r.class.path) x y h k in
    bytes_apart x.class.path y.class.path a.2 a.3

pub same_class_path : (x y : Record) → Stands rank_before x y → x.class.path ≡ y.class.path
same_class_path x y s = elim s [ inl e ↦ ap (λ (z : Record). z.class.path) e | inr p ↦ one_class x y p.0 p.1 ]

apart_by : {X : Type 0} (before : X → X → Bool) (x y : X) → (before x y ≡ false → before y x ≡ false → ⊥) → IsApart before x y
apart_by before x y h = elim (either (before x y)) [ inl t ↦ inl t | inr f ↦ elim (either (before y x)) [ inl t ↦ inr t | inr g ↦ absurd (h f g) ] ]

pub classes_apart : (x y : Record) → (x.class.path ≡ y.class.path → ⊥) → IsApart rank_before x y
classes_apart x y n = apart_by rank_before x y (λ f g. n (one_class x y f g))

-- ---- sources

pub source_before-Weak : IsStrictWeakOrder source_before
source_before-Weak = keyed (λ (s : Source). s.path) bytes_before bytes_weak

pub sources_apart : (x y : Source) → (x.path ≡ y.path → ⊥) → IsApart source_before x y
sources_apart x y n = apart_by source_before x y (λ f g. n (bytes_apart x.path y.path f g))

-- ---- entries

class_weak : IsStrictWeakOrder class_before
class_weak = record { one_way = one_way; chain = chain }
  where
    one_way : (x y : Option Class) → class_before x y ≡ true → class_before y x ≡ false
    one_way None y h = absurd (cc)
    one_way (Some a) None h = refl
    one_way (Some a) (Some b) h = bytes_weak.one_way a.path b.path h

    chain : (x y z : Option Class) → class_before x y ≡ false → class_before y z ≡ false → class_before x z ≡ false
    chain None y z h k = refl
    chain (Some a) None z h k = absurd (cc)
    chain (Some a) (Some b) None h k = absurd (cc)
    chain (Some a) (Some b) (Some c) h k = bytes_weak.chain a.path b.path c.path h k

pub entry_before-Weak : IsStrictWeakOrder entry_before
entry_before-Weak =
    first_by-Weak (λ a b. bytes_before (path_of_entry a) (path_of_entry b)) (λ a b. class_before (class_of_entry a) (class_of_entry b))
    (keyed path_of_entry bytes_before bytes_weak) (keyed class_of_entry class_before class_weak)

-- classes that the order does not part have one path
abbrev pub IsSameClass : Option Class → Option Class → Type 0
IsSameClass (Some a) (Some b) = a.path ≡ b.path
IsSameClass (Some a) None = ⊥
IsSameClass None (Some b) = ⊥
IsSameClass None None = Unit {0}

class_apart : (x y : Option Class) → class_before x y ≡ false → class_before y x ≡ false → IsSameClass x y
class_apart None None h k = tt
class_apart None (Some b) h k = absurd (cc)
class_apart (Some a) None h k = absurd (cc)
class_apart (Some a) (Some b) h k = bytes_apart a.path b.path h k

pub one_entry : (x y : Entry) → entry_before x y ≡ false → entry_before y x ≡ false → (path_of_entry x ≡ path_of_entry y)
    × IsSameClass (class_of_entry x) (class_of_entry y)
one_entry x y h k =
    let a = first_apart (λ (a b : Entry). bytes_before (path_of_entry a) (path_of_entry b)) (λ a b. class_before (class_of_entry a) (class_of_entry b)) x y h
    k in
    (bytes_apart (path_of_entry x) (path_of_entry y) a.0 a.1, class_apart (class_of_entry x) (class_of_entry y) a.2 a.3)

pub entries_apart : (x y : Entry) → (path_of_entry x ≡ path_of_entry y → IsSameClass (class_of_entry x) (class_of_entry y) → ⊥) → IsApart entry_before x y
entries_apart x y n = apart_by entry_before x y (λ f g. let w = one_entry x y f g in n w.0 w.1)
