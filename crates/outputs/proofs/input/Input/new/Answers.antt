use Rattle.std.proofs.Common.{◌≡◌, ◌++◌, ℕ, List, All, ap, subst, ◌∙◌}
use Rattle.model.specs.Occurrences.{among}
use Rattle.model.specs.Paths.{IsPath}
use Rattle.model.specs.References.{paths_of_labels}
use Rattle.model.specs.Worlds.{Label}
use Rattle.outputs.proofs.CandidateLemmas.{all_paths, paths_are}
use Rattle.outputs.proofs.input.Input.new.Goals as goal

pub returns-clause-input : goal.returns-clause-input
returns-clause-input c =
    let sources = c.candidates.inside.sources in
    let others = c.candidates.inside.others.items in
    let listed : c.in_ok-others.others.items ≡ paths_of_labels others = c.in_ok-others.ensures.paths ∙ ap paths_of_labels c.deref.ensures.value in
    let both : c.in_ok-others.others.items ++ c.in_ok-sources.sources ≡ paths_of_labels others ++ sources =
    ap (λ (ps : List (List ℕ)). ps ++ c.in_ok-sources.sources) listed ∙ ap (λ (ps : List (List ℕ)). paths_of_labels others ++ ps) c.in_ok-sources.ensures.cases in
    record {
      own_is = c.in_ok-own.ensures.cases;
      candidates_are = λ x. ap (λ ps. among ps x) both ∙ paths_are sources others x ∙ ap (λ (ls : List Label). among (paths_of_labels ls) x) c.candidates.view_is;
      name_is = c.in_ok-name.ensures.name;
    }

pub returns-clause-paths : goal.returns-clause-paths
returns-clause-paths c =
    let others = c.candidates.inside.others.items in
    let listed : c.in_ok-others.others.items ≡ paths_of_labels others = c.in_ok-others.ensures.paths ∙ ap paths_of_labels c.deref.ensures.value in
    let those : All IsPath (paths_of_labels others) = subst (All IsPath) listed c.in_ok-others.ensures.sound in
    subst (λ (ls : List Label). All IsPath (paths_of_labels ls)) c.candidates.view_is (all_paths c.candidates.inside.sources others c.sound-2.ensures.paths those)
