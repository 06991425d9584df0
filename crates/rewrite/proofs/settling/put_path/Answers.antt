use Rattle.std.proofs.Common.{◌≡◌, ◌<◌, ◌≤◌, ◌+◌, ℕ, Bool, List, length, get_or, true, false, subst, sym, ap, ◌∙◌}
use Rattle.model.specs.Archives.{Tree, nar}
use Rattle.model.specs.Occurrences.{Place, among, fault, occurrences}
use Rattle.model.specs.Settling.{settling, sought}
use Rattle.model.specs.Substitutions.{Images, AreImages, keys_of, parts_of, put, are_true, is_true_put}
use Rattle.rewrite.specs.Laws.{text_with}
use Rattle.rewrite.proofs.SelfImageLemmas.{images_are, text_same}
use Rattle.rewrite.proofs.KeyLemmas.{AreKeys-images}
use Rattle.rewrite.proofs.PutTrees.{occurrence_fits, written_archive}
use Rattle.rewrite.proofs.SettleLemmas.{keys-settling}
use Rattle.rewrite.proofs.settling.put_path.Goals as goal

abbrev Fit : ℕ → List Place → Type 0
Fit n ps = (k : ℕ) (d : Place) → k < length ps → (get_or ps k d).0 + 32 ≤ n

pub with_images-requires : goal.with_images-requires
with_images-requires c =
    let tree = c.args.archive.now in
    let same : c.as_slice.result.now ≡ occurrences (among (sought c.args.self_part.now c.args.candidates.now)) tree = c.as_slice.ensures.value ∙ c.requires.places in
    let fits : Fit (length (nar tree)) (occurrences (among (sought c.args.self_part.now c.args.candidates.now)) tree) =
    occurrence_fits (among (sought c.args.self_part.now c.args.candidates.now)) c.requires.keys tree in
    record { inside = subst (λ n. Fit n c.as_slice.result.now) (ap length (sym c.bytes.ensures.text)) (subst (Fit (length (nar tree))) (sym same) fits) }

pub of_text-new-requires : goal.of_text-new-requires
of_text-new-requires c =
    let self_part = c.args.self_part.now in
    let candidates = c.args.candidates.now in
    let path = c.args.path.now in
    let tree = c.args.archive.now in
    let all = settling self_part candidates path in
    let keys : keys_of all ≡ sought self_part candidates = keys-settling self_part candidates path in
    let here = c.as_slice.ensures.value ∙ c.requires.places ∙ sym (ap (λ ks. occurrences (among ks) tree) keys) in
    let sound = ap (λ ks. fault (among ks) tree) keys ∙ c.requires.sound in
    let done = c.in_ok-text.ensures.written ∙ ap (λ images. text_with images c.as_slice.result.now c.bytes.result.now) c.in_ok-images.ensures.image
    ∙ text_same self_part candidates path c.as_slice.result.now c.bytes.result.now in
    let whole = written_archive all (images_are self_part candidates path c.requires.keys c.in_ok-images.ensures.path) tree c.bytes.ensures.tree sound
    c.as_slice.result.now c.bytes.result.now c.in_ok-text.text.items here c.bytes.ensures.text c.with_images.ensures.bytes done in
    whole.0

pub returns-then-branch-clause-put : goal.returns-then-branch-clause-put
returns-then-branch-clause-put c =
    let self_part = c.args.self_part.now in
    let candidates = c.args.candidates.now in
    let path = c.args.path.now in
    let tree = c.args.archive.now in
    let all = settling self_part candidates path in
    let keys : keys_of all ≡ sought self_part candidates = keys-settling self_part candidates path in
    let here = c.as_slice.ensures.value ∙ c.requires.places ∙ sym (ap (λ ks. occurrences (among ks) tree) keys) in
    let sound = ap (λ ks. fault (among ks) tree) keys ∙ c.requires.sound in
    let done = c.in_ok-text.ensures.written ∙ ap (λ images. text_with images c.as_slice.result.now c.bytes.result.now) c.in_ok-images.ensures.image
    ∙ text_same self_part candidates path c.as_slice.result.now c.bytes.result.now in
    let whole = written_archive all (images_are self_part candidates path c.requires.keys c.in_ok-images.ensures.path) tree c.bytes.ensures.tree sound
    c.as_slice.result.now c.bytes.result.now c.in_ok-text.text.items here c.bytes.ensures.text c.with_images.ensures.bytes done in
    c.of_text-new.ensures.only (put all tree) whole.2 whole.1

-- the test that was made is the definition's
tested : (all : Images) (tree new : Tree) (places : List Place) (is told : Bool) → places ≡ occurrences (among (keys_of all)) tree → new ≡ put all tree
    → is ≡ are_true all places (occurrences (among (parts_of all)) new) → is ≡ told → is_true_put all tree ≡ told
tested all tree new places is told here made test e =
    ap (λ ps. are_true all ps (occurrences (among (parts_of all)) (put all tree))) (sym here)
    ∙ ap (λ t. are_true all places (occurrences (among (parts_of all)) t)) (sym made) ∙ sym test ∙ e

pub returns-then-branch-clause-true_put : goal.returns-then-branch-clause-true_put
returns-then-branch-clause-true_put c =
    let self_part = c.args.self_part.now in
    let candidates = c.args.candidates.now in
    let path = c.args.path.now in
    let tree = c.args.archive.now in
    let all = settling self_part candidates path in
    let keys : keys_of all ≡ sought self_part candidates = keys-settling self_part candidates path in
    let here = c.as_slice.ensures.value ∙ c.requires.places ∙ sym (ap (λ ks. occurrences (among ks) tree) keys) in
    let sound = ap (λ ks. fault (among ks) tree) keys ∙ c.requires.sound in
    let done = c.in_ok-text.ensures.written ∙ ap (λ images. text_with images c.as_slice.result.now c.bytes.result.now) c.in_ok-images.ensures.image
    ∙ text_same self_part candidates path c.as_slice.result.now c.bytes.result.now in
    let whole = written_archive all (images_are self_part candidates path c.requires.keys c.in_ok-images.ensures.path) tree c.bytes.ensures.tree sound
    c.as_slice.result.now c.bytes.result.now c.in_ok-text.text.items here c.bytes.ensures.text c.with_images.ensures.bytes done in
    let places = c.requires.places ∙ sym (ap (λ ks. occurrences (among ks) tree) keys) in
    tested all tree c.of_text-new.result c.args.places.now c.in_ok-is_settled.field-0 true places (c.of_text-new.ensures.only (put all tree) whole.2 whole.1)
    c.in_ok-is_settled.ensures.test c.if-branch.true

pub returns-clause-refused : goal.returns-clause-refused
returns-clause-refused c =
    let self_part = c.args.self_part.now in
    let candidates = c.args.candidates.now in
    let path = c.args.path.now in
    let tree = c.args.archive.now in
    let all = settling self_part candidates path in
    let keys : keys_of all ≡ sought self_part candidates = keys-settling self_part candidates path in
    let here = c.as_slice.ensures.value ∙ c.requires.places ∙ sym (ap (λ ks. occurrences (among ks) tree) keys) in
    let sound = ap (λ ks. fault (among ks) tree) keys ∙ c.requires.sound in
    let done = c.in_ok-text.ensures.written ∙ ap (λ images. text_with images c.as_slice.result.now c.bytes.result.now) c.in_ok-images.ensures.image
    ∙ text_same self_part candidates path c.as_slice.result.now c.bytes.result.now in
    let whole = written_archive all (images_are self_part candidates path c.requires.keys c.in_ok-images.ensures.path) tree c.bytes.ensures.tree sound
    c.as_slice.result.now c.bytes.result.now c.in_ok-text.text.items here c.bytes.ensures.text c.with_images.ensures.bytes done in
    let places = c.requires.places ∙ sym (ap (λ ks. occurrences (among ks) tree) keys) in
    tested all tree c.of_text-new.result c.args.places.now c.in_ok-is_settled.field-0 false places (c.of_text-new.ensures.only (put all tree) whole.2 whole.1)
    c.in_ok-is_settled.ensures.test c.if-branch.false
