use Rattle.std.proofs.Common.{ap, ◌∙◌}
use Rattle.publishing.specs.declared.law.Shown.{Shown}
use Rattle.book.proofs.KeepingLemmas.{starts_following}
use Rattle.publishing.proofs.PublisherLemmas.{tied_first}
use Rattle.book.proofs.front.writer_of.Goals as goal

pub new-first-requires : goal.new-first-requires
new-first-requires g c =
    starts_following g.J.FrontId.setup c.args.cores.now _ _ (c.in_ok-try_clone.ensures ∙ c.owner.ensures) (ap (λ s. s.log) c.clone.ensures ∙ c.requires.none.0) c.requires.core

pub new-second-requires : goal.new-second-requires
new-second-requires g c =
    starts_following g.J.FrontId.setup c.args.cores.now _ _ (c.in_ok-try_clone-2.ensures ∙ c.owner-2.ensures) (ap (λ s. s.log) c.clone-2.ensures ∙ c.requires.none.0) c.requires.core

pub new-requires-clause-rule : goal.new-requires-clause-rule
new-requires-clause-rule g c =
    tied_first c.new-first.result (ap (λ (t : Shown). t.seen) c.new-first.ensures ∙ (ap (λ s. s.log) c.clone.ensures ∙ c.requires.none.0))
