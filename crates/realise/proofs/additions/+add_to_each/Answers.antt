use Rattle.std.proofs.Common.{◌≡◌, ◌++◌, [], ◌∷◌, take, refl, rules, sym, ap, subst, ◌∙◌, arith}
use Rattle.std.proofs.Math.Seq.{take-append_seam}
use Rattle.std.specs.Prelude.{vec_len}
use Rattle.realise.specs.Additions.{MayAdd, with_addition}
use Rattle.realise.specs.Kept.{holdings_of}
use Rattle.realise.proofs.KeepingLemmas.{kept}
use Rattle.realise.proofs.AdditionLemmas.{others_may, may_others, all_added, last_stays, no_items, addition_bytes, addition_view, addition_kept}
use Rattle.realise.proofs.additions.+add_to_each.Goals as goal

pub invariant_of-desk : goal.invariant_of-desk
invariant_of-desk t c =
    kept c.desk.inside c.desk.inside.known c.desk.inside.records c.reserve.new.self refl refl c.in_err-reserve.ensures.kept c.desk.invariant

pub invariant_of-desk-in-Break-branch-2 : goal.invariant_of-desk-in-Break-branch-2
invariant_of-desk-in-Break-branch-2 t c =
    kept c.desk.inside c.desk.inside.known c.push_all.new.self c.reserve.new.self refl (search rules) c.in_ok-reserve.ensures.kept c.desk.invariant

pub add_to_each-requires : goal.add_to_each-requires
add_to_each-requires t c =
    let rest = c.pop.new.self.items in
    let last = c.unwrap-records.result in
    let others = c.in-Some.others.now in
    let own = c.in-Some.desk.now in
    let are : c.args.additions.items ≡ rest ++ last ∷ [] = search rules in
    let all : c.args.desks.now ≡ others ++ own ∷ [] = search rules in (
      search rules,
      others_may c.args.additions.items rest last c.args.desks.now others own are all c.requires.each c.requires.may,
    )

pub add_to_each-requires-2 : goal.add_to_each-requires-2
add_to_each-requires-2 t c =
    let rest = c.pop.new.self.items in
    let last = c.unwrap-records.result in
    let others = c.in-Some.others.now in
    let own = c.in-Some.desk.now in
    let are : c.args.additions.items ≡ rest ++ last ∷ [] = search rules in
    let all : c.args.desks.now ≡ others ++ own ∷ [] = search rules in (
      search rules,
      others_may c.args.additions.items rest last c.args.desks.now others own are all c.requires.each c.requires.may,
    )

pub returns-then-is_empty-2 : goal.returns-then-is_empty-2
returns-then-is_empty-2 t c =
    let rest = c.pop.new.self.items in
    let last = c.unwrap-records.result in
    let others = c.in-Some.others.now in
    let own = c.in-Some.desk.now in
    let are : c.args.additions.items ≡ rest ++ last ∷ [] = search rules in
    let all : c.args.desks.now ≡ others ++ own ∷ [] = search rules in
    last_stays c.args.additions.items rest last c.args.desks.now others own are all c.requires.each c.add_to_each.result c.add_to_each.new.desks
    (no_items last.records.items (vec_len last.records) c.is_empty.result (search rules) c.is_empty.ensures c.if-is_empty.true)
    (no_items last.archives.items (vec_len last.archives) c.is_empty-then-is_empty.result (search rules) c.is_empty-then-is_empty.ensures c.if-is_empty-2.true)
    c.add_to_each.ensures

pub invariant_of-desk-in-Err : goal.invariant_of-desk-in-Err
invariant_of-desk-in-Err t c =
    let count = c.len-count.ensures in
    let back : c.truncate.new.self ≡ c.desk.inside.records =
    c.truncate.ensures ∙ (λ i. take (count i) (c.in_ok-push_all.ensures i))
    ∙ take-append_seam c.desk.inside.records c.unwrap-records.result.records.items in
    kept c.desk.inside c.desk.inside.known c.truncate.new.self c.reserve.new.self refl back c.in_ok-reserve.ensures.kept c.desk.invariant

pub put_all_reserved-requires-clause-fits : goal.put_all_reserved-requires-clause-fits
put_all_reserved-requires-clause-fits t c =
    let rest = c.pop.new.self.items in
    let last = c.unwrap-records.result in
    let others = c.in-Some.others.now in
    let own = c.in-Some.desk.now in
    let are : c.args.additions.items ≡ rest ++ last ∷ [] = search rules in
    let all : c.args.desks.now ≡ others ++ own ∷ [] = search rules in
    let may : MayAdd last (holdings_of c.desk.inside) =
    subst (MayAdd last) (sym c.desk.view_is)
    (may_others c.args.additions.items rest last c.args.desks.now others own are all c.requires.each c.requires.may).1 in
    let fits = may.fits in
    let bytes = addition_bytes c.desk.inside c.desk.invariant last c.reserve.new.self c.in_ok-reserve.ensures.kept in
    omega (arith, bytes, fits)

pub invariant_of-desk-2 : goal.invariant_of-desk-2
invariant_of-desk-2 t c =
    let rest = c.pop.new.self.items in
    let last = c.unwrap-records.result in
    let others = c.in-Some.others.now in
    let own = c.in-Some.desk.now in
    let are : c.args.additions.items ≡ rest ++ last ∷ [] = search rules in
    let all : c.args.desks.now ≡ others ++ own ∷ [] = search rules in
    addition_kept c.desk.inside c.desk.invariant last c.reserve.new.self c.in_ok-reserve.ensures.kept c.push_all.new.self
    c.put_all_reserved.new.self c.in_ok-push_all.ensures c.put_all_reserved.ensures
    (subst (MayAdd last) (sym c.desk.view_is)
    (may_others c.args.additions.items rest last c.args.desks.now others own are all c.requires.each c.requires.may).1)

pub returns : goal.returns
returns t c =
    let rest = c.pop.new.self.items in
    let last = c.unwrap-records.result in
    let others = c.in-Some.others.now in
    let own = c.in-Some.desk.now in
    let are : c.args.additions.items ≡ rest ++ last ∷ [] = search rules in
    let all : c.args.desks.now ≡ others ++ own ∷ [] = search rules in
    all_added c.args.additions.items rest last c.args.desks.now others own are all
    c.requires.each _ c.add_to_each-2.new.desks
    (addition_view c.desk.inside c.desk.invariant last c.reserve.new.self c.in_ok-reserve.ensures.kept c.push_all.new.self
    c.put_all_reserved.new.self c.in_ok-push_all.ensures c.put_all_reserved.ensures
    ∙ ap (with_addition last) c.desk.view_is)
    c.in_default-add_to_each.ensures
