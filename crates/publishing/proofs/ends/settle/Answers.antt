use Rattle.std.proofs.Common.{◌≡◌, sym, ap, drop, subst}
use Rattle.publishing.specs.declared.law.Shown.{Shown}
use Rattle.publishing.specs.Tied.{IsQuiet}
use Rattle.publishing.proofs.Ties.{turns_still, value_after, is_settled}
use Rattle.publishing.proofs.ends.settle.Goals as goal

pub publish_pending-writer-requires : goal.publish_pending-writer-requires
publish_pending-writer-requires g c next is =
    let now : Shown = c.append.new.self.desk.shown.value in
    let pending = drop c.args.writer.behind c.args.writer.log.items in
    let same : c.args.writer.desk.shown.value ≡ now = sym (ap (λ d. d.shown.value) c.in-Ok.ensures.desk) in
    let quiet = subst (λ (t : Shown). IsQuiet t pending) same c.requires.quiet in
    turns_still _ _ now next (value_after now next pending _ _ quiet c.in-Ok.ensures.pending is)

pub returns-clause-shown : goal.returns-clause-shown
returns-clause-shown g c =
    (is_settled c.args.writer.desk.shown.value c.append.new.self.desk.shown.value _ (drop c.args.writer.behind c.args.writer.log.items) _ _ _
    (ap (λ d. d.shown.value) c.in-Ok.ensures.desk) c.requires.quiet c.in-Ok.ensures.pending c.publish_pending-writer.ensures).0

pub returns-clause-quiet : goal.returns-clause-quiet
returns-clause-quiet g c =
    (is_settled c.args.writer.desk.shown.value c.append.new.self.desk.shown.value _ (drop c.args.writer.behind c.args.writer.log.items) _ _ _
    (ap (λ d. d.shown.value) c.in-Ok.ensures.desk) c.requires.quiet c.in-Ok.ensures.pending c.publish_pending-writer.ensures).1
