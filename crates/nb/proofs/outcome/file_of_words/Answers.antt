use Rattle.std.proofs.Common.{◌≡◌, ◌∙◌, ℕ, List, MatchResult, ap, subst}
use Rattle.model.specs.declared.refusal.Refusal.TheVariants.{Memory}
use Rattle.nb.specs.Outcomes.{WritesFile}
use Rattle.nb.proofs.WordLemmas.{words_joined}
use Rattle.nb.proofs.outcome.file_of_words.Goals as goal

pub returns : goal.returns
returns c =
    let Given : List ℕ → Type 0 = λ text. MatchResult c.file_of.result (WritesFile text) (λ why. why ≡ Memory) in
    subst Given (ap (λ v. v.items) c.into_bytes.ensures.value ∙ c.in_ok-text.ensures.ok ∙ words_joined c.args.words.now) c.file_of.ensures
