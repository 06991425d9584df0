use Rattle.std.proofs.Common.{◌≡◌, ◌∙◌, sym, ap, refl, drop, subst}
use Rattle.history.specs.Histories.{IsLegal}
use Rattle.publishing.specs.declared.law.Shown.{Shown}
use Rattle.publishing.specs.FrontNames.{setup_in}
use Rattle.publishing.specs.Tied.{IsQuiet}
use Rattle.publishing.proofs.Ties.{turns, value_after, is_shown}
use Rattle.publishing.proofs.ends.publish.Goals as goal

pub publish_pending-requires : goal.publish_pending-requires
publish_pending-requires g c next is =
    let now : Shown = c.append.new.self.desk.shown.value in
    let pending = drop c.args.writer.behind c.args.writer.log.items in
    let same : c.args.writer.desk.shown.value ≡ now = sym (ap (λ d. d.shown.value) c.in-Ok.ensures.desk) in
    let quiet = subst (λ (t : Shown). IsQuiet t pending) same c.requires.quiet in
    let shows : next ≡ c.args.next = value_after now next pending _ _ quiet c.in-Ok.ensures.pending is in
    turns _ _ now next (λ _. subst (λ (t : Shown). IsLegal (setup_in t.name) t.seen) (sym shows) c.requires.legal)
    (ap (λ (t : Shown). t.name) shows ∙ (c.requires.name ∙ ap (λ (t : Shown). t.name) same))

pub returns : goal.returns
returns g c =
    is_shown c.args.writer.desk.shown.value c.append.new.self.desk.shown.value _ c.args.next (drop c.args.writer.behind c.args.writer.log.items) _ _ _ _
    (ap (λ d. d.shown.value) c.in-Ok.ensures.desk) c.requires.quiet c.in-Ok.ensures.pending refl c.publish_pending.ensures
