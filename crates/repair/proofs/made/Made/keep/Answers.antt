use Rattle.std.proofs.Common.{◌≡◌, ◌∙◌, ap, sym, cond, Some}
use Rattle.std.specs.Prelude.{bytes_eq}
use Rattle.std.specs.Map.{lookup}
use Rattle.indexmap.specs.IndexMap.{insert_entry}
use Rattle.model.specs.Classes.{Class}
use Rattle.model.proofs.BoolLemmas.{bytes_eq_sym}
use Rattle.repair.specs.Counting.{repairs_in}
use Rattle.repair.proofs.PreparedLemmas.{put_found}
use Rattle.repair.proofs.made.Made.keep.Goals as goal

class_of : (c : goal.Joined-before) → c.in_ok-class.class ≡ c.args.chosen.now.class.path
class_of c = c.in_ok-class.ensures.cases ∙ c.path.ensures ∙ ap (λ (k : Class). k.path) c.class.ensures

pub returns-clause-made : goal.returns-clause-made
returns-clause-made c =
    let own = c.args.chosen.now.class.path in
    let before = c.deref_mut.result.now.entries in
    record {
      one = c.in_ok-one.one;
      there = ap (lookup (bytes_eq own)) (c.in_ok-_before.ensures.entries ∙ ap (λ k. insert_entry bytes_eq before k c.in_ok-one.one) (class_of c))
          ∙ put_found before own c.in_ok-one.one;
      is = c.in_ok-one.ensures;
    }

pub returns-clause-others : goal.returns-clause-others
returns-clause-others c other apart =
    let same : c.deref_mut.result.now.entries ≡ repairs_in c.args.self.now.repairs =
    ap (λ m. m.entries) c.deref_mut.ensures.value ∙ ap repairs_in (sym c.in-Some.is) ∙ c.open.ensures.same in
    let kept : lookup (bytes_eq other) c.insert.new.self.entries ≡ lookup (bytes_eq other) c.deref_mut.result.now.entries =
    c.in_ok-_before.ensures.updates.0 other
    ∙ ap (λ b. cond b (Some c.in_ok-one.one) (lookup (bytes_eq other) c.deref_mut.result.now.entries)) (bytes_eq_sym c.in_ok-class.class other ∙ ap (bytes_eq other) (class_of c) ∙ apart) in
    kept ∙ ap (lookup (bytes_eq other)) same
