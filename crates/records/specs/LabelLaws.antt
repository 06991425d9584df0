-- That labels are of one path and one class is an equality.
use Rattle.std.specs.Prelude.{◌≡◌, true, ◌&&◌, bytes_eq, Option, Some, None, refl}
use Rattle.std.proofs.Common.{sym, true≢false}
use Rattle.std.specs.Cmp.{IsPartialEquivalence, first_so, second_so, partial_equiv_from_equiv}
use Rattle.std.proofs.lemmas.Cmp.{nat_list_eq_equiv}
use Rattle.model.specs.Classes.{Class}
use Rattle.model.specs.Worlds.{same_class, same_label}

class_symm : (a b : Option Class) → same_class a b ≡ same_class b a
class_symm None None = refl
class_symm None (Some b) = refl
class_symm (Some a) None = refl
class_symm (Some a) (Some b) = nat_list_eq_equiv.symm a.path b.path

class_trans : (a b c : Option Class) → same_class a b ≡ true → same_class b c ≡ true → same_class a c ≡ true
class_trans None None c h k = k
class_trans None (Some b) c h k = absurd (true≢false (sym h))
class_trans (Some a) None c h k = absurd (true≢false (sym h))
class_trans (Some a) (Some b) None h k = k
class_trans (Some a) (Some b) (Some c) h k = (partial_equiv_from_equiv nat_list_eq_equiv).trans a.path b.path c.path h k

pub same_label_laws : IsPartialEquivalence same_label
same_label_laws = record {
  symm = λ k l i. nat_list_eq_equiv.symm k.path l.path i && class_symm k.class l.class i;
  trans = λ k l m h j.
      let kl = first_so (bytes_eq k.path l.path) (same_class k.class l.class) h in
      let lm = first_so (bytes_eq l.path m.path) (same_class l.class m.class) j in
      let kl_class = second_so (bytes_eq k.path l.path) (same_class k.class l.class) h in
      let lm_class = second_so (bytes_eq l.path m.path) (same_class l.class m.class) j in
      let path = (partial_equiv_from_equiv nat_list_eq_equiv).trans k.path l.path m.path kl lm in
      let class = class_trans k.class l.class m.class kl_class lm_class in
      λ i. path i && class i;
}
