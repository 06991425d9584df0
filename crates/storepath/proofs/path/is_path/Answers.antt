use Rattle.std.proofs.Common.{◌≡◌, ◌++◌, arith, sym, ◌∙◌, ap, Some, None}
use Rattle.std.specs.Prelude.{codes}
use Rattle.std.proofs.lemmas.Bool.{false≢true}
use Rattle.std.proofs.lemmas.Bool.Decides.{Decides-eqb}
use Rattle.std.proofs.lemmas.List.{append_cancel_left}
use Rattle.std.proofs.lemmas.Slice.Eq.{strip_prefix_is}
use Rattle.model.specs.Paths.{base32, is_name, IsPath}
use Rattle.storepath.proofs.PathLemmas.{parts_of-path_text, not_a_path, long_enough, digits_in, behind_digits_in, joined_path}
use Rattle.storepath.proofs.PathTests.{base32_is_hash_part, hash_part_with, same_as_test}
use Rattle.storepath.proofs.path.is_path.Goals as goal

pub returns-in_default-clause-path : goal.returns-in_default-clause-path
returns-in_default-clause-path c =
    let text = c.args.text.now in
    let none = strip_prefix_is Decides-eqb text (codes "/nix/store/") None c.in_default.ensures.cases in
    not_a_path text (λ path. none (base32 path.hash_part ++ (codes "-" ++ path.name)) (path.is ∙ parts_of-path_text path.hash_part path.name))

pub returns-in_default-split_at_checked-clause-path : goal.returns-in_default-split_at_checked-clause-path
returns-in_default-split_at_checked-clause-path c =
    let text = c.args.text.now in
    let rest = c.in-Some.rest.now in
    let store = strip_prefix_is Decides-eqb text (codes "/nix/store/") (Some c.in-Some.rest) c.in-Some.ensures.cases in
    not_a_path text (λ path. omega (arith, c.in_default-split_at_checked.ensures.cases, long_enough text rest path store))

pub returns-in_default-strip_prefix-clause-path : goal.returns-in_default-strip_prefix-clause-path
returns-in_default-strip_prefix-clause-path c =
    let text = c.args.text.now in
    let rest = c.in-Some.rest.now in
    let behind = c.in-Some-split_at_checked.rest.now in
    let store = strip_prefix_is Decides-eqb text (codes "/nix/store/") (Some c.in-Some.rest) c.in-Some.ensures.cases in
    let split = c.in-Some-split_at_checked.ensures.cases in
    let none = strip_prefix_is Decides-eqb behind (codes "-") None c.in_default-strip_prefix.ensures.cases in
    not_a_path text (λ path. none path.name (split.2 ∙ behind_digits_in text rest path store))

pub returns-then-is_hash_part-clause-path : goal.returns-then-is_hash_part-clause-path
returns-then-is_hash_part-clause-path c =
    let text = c.args.text.now in
    let rest = c.in-Some.rest.now in
    let digits = c.in-Some-split_at_checked.digits.now in
    let behind = c.in-Some-split_at_checked.rest.now in
    let name = c.in-Some-strip_prefix.name.now in
    let store = strip_prefix_is Decides-eqb text (codes "/nix/store/") (Some c.in-Some.rest) c.in-Some.ensures.cases in
    let split = c.in-Some-split_at_checked.ensures.cases in
    let dash = strip_prefix_is Decides-eqb behind (codes "-") (Some c.in-Some-strip_prefix.name) c.in-Some-strip_prefix.ensures.cases in
    let bytes = hash_part_with digits (sym c.is_hash_part.ensures ∙ c.if-is_hash_part.true) in (
      λ named. joined_path text rest name bytes.0 store (sym split.2 ∙ dash) bytes.1 (bytes.2 ∙ split.1) (sym c.is_name.ensures ∙ named),
      λ path.
          let same : name ≡ path.name = append_cancel_left (codes "-") name path.name (sym dash ∙ split.2 ∙ behind_digits_in text rest path store) in
          c.is_name.ensures ∙ ap is_name same ∙ path.named,
    )

pub returns-else-is_hash_part-clause-path : goal.returns-else-is_hash_part-clause-path
returns-else-is_hash_part-clause-path c =
    let text = c.args.text.now in
    let rest = c.in-Some.rest.now in
    let digits = c.in-Some-split_at_checked.digits.now in
    let store = strip_prefix_is Decides-eqb text (codes "/nix/store/") (Some c.in-Some.rest) c.in-Some.ensures.cases in
    let split = c.in-Some-split_at_checked.ensures.cases in
    let passes = λ (path : IsPath text). base32_is_hash_part path.hash_part digits (sym (split.1 ∙ digits_in text rest path store)) in
    let fails = sym c.if-is_hash_part.false ∙ c.is_hash_part.ensures in
    rw c.if-is_hash_part.false (not_a_path text (λ path. false≢true (fails ∙ passes path)))

pub returns-in_default-clause-test : goal.returns-in_default-clause-test
returns-in_default-clause-test c = same_as_test _ c.args.text.now (returns-in_default-clause-path c)

pub returns-in_default-split_at_checked-clause-test : goal.returns-in_default-split_at_checked-clause-test
returns-in_default-split_at_checked-clause-test c = same_as_test _ c.args.text.now (returns-in_default-split_at_checked-clause-path c)

pub returns-in_default-strip_prefix-clause-test : goal.returns-in_default-strip_prefix-clause-test
returns-in_default-strip_prefix-clause-test c = same_as_test _ c.args.text.now (returns-in_default-strip_prefix-clause-path c)

pub returns-then-is_hash_part-clause-test : goal.returns-then-is_hash_part-clause-test
returns-then-is_hash_part-clause-test c = same_as_test _ c.args.text.now (returns-then-is_hash_part-clause-path c)

pub returns-else-is_hash_part-clause-test : goal.returns-else-is_hash_part-clause-test
returns-else-is_hash_part-clause-test c = same_as_test _ c.args.text.now (returns-else-is_hash_part-clause-path c)
