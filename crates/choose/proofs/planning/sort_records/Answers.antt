use Rattle.std.proofs.lemmas.List.Sorted.{answers_always}
use Rattle.model.specs.Choices.{rank_before}
use Rattle.records.proofs.EntryOrderLemmas.{rank_before-Weak}
use Rattle.std.proofs.Common.{rules}
use Rattle.choose.proofs.planning.sort_records.Goals as goal

pub returns : goal.returns
returns c = (c.sort_by.ensures.permutation, c.in_ok-sort_by.ensures.sorted rank_before rank_before-Weak (answers_always _ _ _ (λ f a r g h. search rules)))
