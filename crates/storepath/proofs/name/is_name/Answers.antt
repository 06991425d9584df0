use Rattle.std.proofs.Common.{◌≡◌, ◌<◌, length, arith, tests, sym, rules, ◌∙◌}
use Rattle.std.specs.List.{list_all}
use Rattle.std.proofs.lemmas.Bool.Decides.{nat_tests, Decides-eqb}
use Rattle.std.proofs.lemmas.Iterator.{YieldsList-from_slice}
use Rattle.std.proofs.lemmas.Iterator.Search.{all_from_yields_List}
use Rattle.model.specs.Paths.{is_name_byte}
use Rattle.storepath.proofs.NameLemmas.{is_name-empty, is_name-long, is_name-dot, is_name-within}
use Rattle.storepath.proofs.name.is_name.Goals as goal
use Rattle.storepath.proofs.name.is_name.Goals.{then-is_empty-via-then-is_empty, then-is_empty-via-else-is_empty+then-text-gt-LONGEST_NAME, then-is_empty-via-else-is_empty+else-text-gt-LONGEST_NAME+then-text-eq46}

pub returns-then-is_empty : goal.returns-then-is_empty
returns-then-is_empty c =
    let text = c.args.text.now in
    elim c.then-is_empty.branch [
      | then-is_empty-via-then-is_empty w ↦ sym (is_name-empty text ((Decides-eqb (length text) 0).0 (sym c.is_empty.ensures ∙ w.if-is_empty.true)))
      | then-is_empty-via-else-is_empty+then-text-gt-LONGEST_NAME w ↦ sym (is_name-long text (omega arith))
      | then-is_empty-via-else-is_empty+else-text-gt-LONGEST_NAME+then-text-eq46 w ↦ sym (is_name-dot text (omega arith))
    ]

pub returns : goal.returns
returns c =
    let text = c.args.text.now in
    let some : 0 < length text = grind (arith, nat_tests) in
    let all : c.all.result ≡ list_all is_name_byte text = all_from_yields_List is_name_byte _ _ c.all.result c.all.ensures.ran (YieldsList-from_slice text cc) (λ x b q k. search (rules, tests)) in
    all ∙ sym (is_name-within text some c.if-text-gt-LONGEST_NAME.false c.if-text-eq46.false)
