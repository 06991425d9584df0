use Rattle.std.proofs.Common.{◌≡◌, ◌++◌, ◌∷◌, [], List, ℕ, Bool, IfOk, ap, sym, subst, ◌∙◌, map}
use Rattle.model.specs.Occurrences.{Keys, Place, among, occurrences}
use Rattle.model.specs.Settling.{hash_part_in, settling, sought}
use Rattle.model.specs.Substitutions.{are_true, parts_of}
use Rattle.rewrite.proofs.SelfImageLemmas.{parts_same, true_same}
use Rattle.rewrite.proofs.settling.is_settled.Goals as goal

pub returns-clause-test : goal.returns-clause-test
returns-clause-test c =
    let self_part = c.args.self_part.now in
    let path = c.args.path.now in
    let old = c.args.old.now in
    let new = c.args.new.now in
    let both = c.candidates.inside in
    let listed : List (List ℕ) = both.listed.now in
    let found : List (List ℕ) = both.found.now in
    let candidates = c.args.candidates.now in
    let all = settling self_part candidates path in
    let keys : c.add.new.self ++ map hash_part_in found ≡ (sought self_part listed ++ hash_part_in path ∷ []) ++ map hash_part_in found =
    ap (λ ks. ks ++ map hash_part_in found) (c.in_ok-add.ensures.added ∙ ap (λ ks. ks ++ c.hash_part.result ∷ []) c.in_ok-keys.ensures
    ∙ ap (λ part. sought self_part listed ++ part ∷ []) c.hash_part.ensures.value) in
    let sought_too : among (c.add.new.self ++ map hash_part_in found) ≡ among (parts_of all) =
    ap among keys ∙ parts_same self_part listed found path ∙ ap (λ cs. among (parts_of (settling self_part cs path))) c.candidates.view_is in
    let same : are_true c.in_ok-images.images old (occurrences (among (c.add.new.self ++ map hash_part_in found)) new) ≡ are_true all old (occurrences (among (parts_of all)) new) =
    ap (λ images. are_true images old (occurrences (among (c.add.new.self ++ map hash_part_in found)) new)) c.in_ok-images.ensures.image
    ∙ true_same self_part candidates path old (occurrences (among (c.add.new.self ++ map hash_part_in found)) new)
    ∙ ap (λ (k : Keys). are_true all old (occurrences k new)) sought_too in
    subst (λ v. IfOk c.is_true.result (λ is. is ≡ v)) same c.is_true.ensures.test
