use Rattle.std.proofs.lemmas.List.Sorted.{answers_always}
use Rattle.model.specs.Choices.{source_before}
use Rattle.records.proofs.EntryOrderLemmas.{source_before-Weak}
use Rattle.std.proofs.Common.{rules}
use Rattle.choose.proofs.planning.sort_sources.Goals as goal

pub returns : goal.returns
returns c = (c.sort_by.ensures.permutation, c.in_ok-sort_by.ensures.sorted source_before source_before-Weak (answers_always _ _ _ (λ f a r g h. search rules)))
