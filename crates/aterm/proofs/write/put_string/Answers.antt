use Rattle.std.proofs.Common.{rules, ◌≡◌, ◌++◌, codes, take, get_or, ℕ, length-drop, arith}
use Rattle.std.proofs.lemmas.List.{take_all}
use Rattle.model.specs.Derivations.{character_text}
use Rattle.aterm.proofs.ListTexts.{last_write}
use Rattle.aterm.proofs.PlainRuns.{run_next, string_ends}
use Rattle.aterm.proofs.write.put_string.Goals as goal

pub loop-at-preserved : goal.loop-at-preserved
loop-at-preserved c =
    let left = c.loop-at.rest.now in
    let escape = character_text (get_or left c.in-Some.at 0) in
    let written : c.put_character.new.out.items ≡ c.loop-at.out.items ++ take c.in-Some.at left ++ escape = search rules in
    run_next left c.in-Some.at _ _ _ _ c.in-Some.ensures written (take_all _ _ (omega (arith, length-drop {A = ℕ}))) c.loop-at.invariant

pub returns : goal.returns
returns c =
    last_write c.extend_from_slice-3.result _ (codes "\"") c.extend_from_slice-3.new.self.items _ c.extend_from_slice-3.ensures.items
    (string_ends c.args.text.now c.loop-at.rest.now _ _ _ _ c.in_default.ensures
    c.in_ok-extend_from_slice.ensures.items c.in_ok-extend_from_slice-3.ensures.items c.loop-at.invariant)
