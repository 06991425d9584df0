use Rattle.std.proofs.Common.{[], refl, subst, sym}
use Rattle.nar.specs.Writing.{Wrote}
use Rattle.nar.proofs.WritingLemmas.{appends-none}
use Rattle.nar.proofs.to_writer.ToWriter.take_archive.Goals as goal

pub returns-clause-same_reference : goal.returns-clause-same_reference
returns-clause-same_reference g c =
    let sink = c.args.self.now in
    let blank = g.W.Write.contents sink.writer.now in
    let none = subst (λ so_far. Wrote sink.before blank blank (g.W.Faults.failed sink.writer.now) so_far []) (sym c.requires) (appends-none blank) in
    (c.hand_archive.ensures.archive sink [] (refl, refl, none)).0

pub returns-clause-wrote : goal.returns-clause-wrote
returns-clause-wrote g c =
    let sink = c.args.self.now in
    let blank = g.W.Write.contents sink.writer.now in
    let none = subst (λ so_far. Wrote sink.before blank blank (g.W.Faults.failed sink.writer.now) so_far []) (sym c.requires) (appends-none blank) in
    (c.hand_archive.ensures.archive sink [] (refl, refl, none)).2
