use Rattle.std.proofs.Common.{◌∙◌, ap, ◌∷◌, [], ◌++◌, length-append, arith}
use Rattle.model.specs.Lines.{split}
use Rattle.lines.proofs.CutLemmas.{split-one, split-more, taken-all, taken-front, parts-more}
use Rattle.lines.proofs.cutting.first_words.Goals as goal

pub returns-in_default : goal.returns-in_default
returns-in_default c =
    let words = c.loop-word.words.items in
    let rest = c.loop-word.rest.now in
    rw c.in_ok-push.ensures.items
    (taken-all c.args.most (split 32 c.args.text.now) words rest
    (c.loop-word.invariant.0 ∙ ap (λ t. words ++ t) (split-one 32 rest c.in_default.ensures.parts)) (omega arith))

pub returns : goal.returns
returns c = taken-front c.args.most (split 32 c.args.text.now) c.loop-word.words.items (split 32 c.loop-word.rest.now) c.loop-word.invariant.0 (omega arith)

pub loop-word-preserved : goal.loop-word-preserved
loop-word-preserved c =
    let rest = c.loop-word.rest.now in
    let word = c.in-Some.word.now in
    let others = c.in-Some.others.now in
    rw c.in_ok-push-2.ensures.items (
      parts-more (split 32 c.args.text.now) c.loop-word.words.items (split 32 rest) (split 32 others) word c.loop-word.invariant.0
          (split-more 32 rest word others c.in-Some.ensures.parts),
      omega (arith, length-append c.loop-word.words.items (word ∷ [])),
    )
