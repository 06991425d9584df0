use Rattle.std.proofs.Common.{◌≡◌, ◌∙◌, ap, option_map, arith, rules, sym, Some, None}
use Rattle.std.specs.Prelude.{codes}
use Rattle.clap.specs.Walk.{all_of, texts}
use Rattle.command_line.specs.Named.{rows_in}
use Rattle.command_line.proofs.CommandLemmas.{files_are, files_counted, files_held, files_missing}
use Rattle.command_line.proofs.matched.files_of.Goals.{in_default-len-via-then-words-lt1, in_default-len-via-else-words-lt1+else-this-lt9}
use Rattle.command_line.proofs.matched.files_of.Goals as goal

pub returns-in_default : goal.returns-in_default
returns-in_default c x are =
    let rows = rows_in c.args.matches.now in
    let held = files_held c.args.matches.now c.get_strs.result c.get_strs.ensures in
    let none : None ≡ all_of (codes "files") rows = ap (option_map (λ s. texts s.now)) (sym c.in_default.is) ∙ held in
    files_missing rows _ none are

pub returns-in_ok-strings_of-in-1-to-8 : goal.returns-in_ok-strings_of-in-1-to-8
returns-in_ok-strings_of-in-1-to-8 c =
    let rows = rows_in c.args.matches.now in
    let held = files_held c.args.matches.now c.get_strs.result c.get_strs.ensures in
    let some : Some (texts c.in-Some.words.now) ≡ all_of (codes "files") rows = ap (option_map (λ s. texts s.now)) (sym c.in-Some.is) ∙ held in
    files_are rows c.in-Some.words.now _ some c.in_ok-strings_of-in-1-to-8.ensures (search rules) (search rules)

pub returns-in_default-len : goal.returns-in_default-len
returns-in_default-len c x are =
    let rows = rows_in c.args.matches.now in
    let held = files_held c.args.matches.now c.get_strs.result c.get_strs.ensures in
    let some : Some (texts c.in-Some.words.now) ≡ all_of (codes "files") rows = ap (option_map (λ s. texts s.now)) (sym c.in-Some.is) ∙ held in
    let counted = files_counted rows c.in-Some.words.now _ some are in
    elim c.in_default-len.branch [
      | in_default-len-via-then-words-lt1 w ↦ omega arith
      | in_default-len-via-else-words-lt1+else-this-lt9 w ↦ omega arith
    ]
