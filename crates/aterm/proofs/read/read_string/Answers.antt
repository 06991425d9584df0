use Rattle.std.proofs.Common.{rules, ◌≡◌, ◌∷◌, codes, [], ◌++◌, true, false, arith, take, drop, length-drop, ap, ◌∙◌}
use Rattle.std.proofs.lemmas.Result.{err_from_is_err_and}
use Rattle.std.specs.Prelude.{Some}
use Rattle.model.specs.DerivationTexts.{is_at}
use Rattle.model.proofs.ReadingLemmas.{fails_on}
use Rattle.aterm.proofs.PlainRuns.{run_read, run_never_ends, quote_read, none_read, escape_read, escape_is, no_escape, escape_shorter, tag_shorter}
use Rattle.aterm.proofs.read.read_string.Goals as goal

pub returns-in-Some-strip_prefix : goal.returns-in-Some-strip_prefix
returns-in-Some-strip_prefix c =
    let behind = drop c.in-Some.at c.loop-at.rest.now in
    let left = run_read _ _ _ _ c.loop-at.invariant c.in-Some.ensures in
    let here : is_at (codes "\"") behind ≡ true = search rules in
    let after : drop 1 behind ≡ c.in-Some-strip_prefix.after.now = search rules in
    let text : c.loop-at.characters.items ++ take c.in-Some.at c.loop-at.rest.now ≡ c.in_ok-text.text = search rules in
    quote_read _ _ behind _ left here after ∙ ap (λ t. Some (t, c.in-Some-strip_prefix.after.now)) text

pub returns-in_err-letters : goal.returns-in_err-letters
returns-in_err-letters c =
    let p = err_from_is_err_and c.from_residual-in_err-letters.result c.from_residual-in_err-letters.ensures.1 in
    let behind = drop c.in-Some.at c.loop-at.rest.now in
    let left = run_read _ _ _ _ c.loop-at.invariant c.in-Some.ensures in
    let here : is_at (codes "\"") behind ≡ false = search rules in
    let failed = rw c.split_at.ensures.back at c.in_err-letters.ensures in
    rw (p.1, p.2) (fails_on _ _ _ (λ none. none_read _ _ behind left here (no_escape _ _ c.in-Some.ensures here none)) failed)

pub returns-in_err-character : goal.returns-in_err-character
returns-in_err-character c =
    let p = err_from_is_err_and c.from_residual-in_err-character.result c.from_residual-in_err-character.ensures.1 in
    let behind = drop c.in-Some.at c.loop-at.rest.now in
    let left = run_read _ _ _ _ c.loop-at.invariant c.in-Some.ensures in
    let here : is_at (codes "\"") behind ≡ false = search rules in
    let escape = escape_is behind _ (rw c.split_at.ensures.back at c.in_ok-letters.ensures) in
    rw (p.1, p.2) (fails_on _ _ _ (λ none. none_read _ _ behind left here (escape ∙ none)) c.in_err-character.ensures)

pub loop-at-smaller : goal.loop-at-smaller
loop-at-smaller c =
    let letter = escape_shorter _ _ _ c.in_ok-character.ensures in
    let backslash = tag_shorter _ _ (rw c.split_at.ensures.back at c.in_ok-letters.ensures) in
    omega (arith, length-drop c.in-Some.at c.loop-at.rest.now)

pub loop-at-preserved : goal.loop-at-preserved
loop-at-preserved c =
    let behind = drop c.in-Some.at c.loop-at.rest.now in
    let left = run_read _ _ _ _ c.loop-at.invariant c.in-Some.ensures in
    let here : is_at (codes "\"") behind ≡ false = search rules in
    let found = rw c.split_at.ensures.back at c.in_ok-letters.ensures in
    let escape = escape_is behind _ found ∙ c.in_ok-character.ensures in
    let letter = escape_shorter _ _ _ c.in_ok-character.ensures in
    let backslash = tag_shorter _ _ found in
    let run = take c.in-Some.at c.loop-at.rest.now in
    let pushed : (c.loop-at.characters.items ++ run) ++ c.in_ok-character.character ∷ [] ≡ c.push.new.self.items = search rules in
    escape_read _ _ _ behind _ c.in_ok-character.character left (omega arith) here escape pushed

pub returns : goal.returns
returns c = run_never_ends _ _ _ c.loop-at.invariant c.in_default.ensures
