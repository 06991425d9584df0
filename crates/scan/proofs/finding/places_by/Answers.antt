use Rattle.std.proofs.Common.{◌≡◌, ap, ◌∙◌, subst, true}
use Rattle.model.specs.Occurrences.{occurrences, places_in, crowded}
use Rattle.scan.specs.Searching.{Finds}
use Rattle.scan.proofs.PieceLemmas.{places_in-nar}
use Rattle.scan.proofs.finding.places_by.Goals as goal

pub returns-in-Ok-clause-found : goal.returns-in-Ok-clause-found
returns-in-Ok-clause-found g c =
    c.in-Ok.ensures.found ∙ ap (places_in (g.S.Seek.keys c.args.seek.now) 0) c.bytes.ensures.text
    ∙ places_in-nar (g.S.Seek.keys c.args.seek.now) c.sound.ensures c.args.archive.now c.bytes.ensures.tree

pub returns-in-Err-clause-refused : goal.returns-in-Err-clause-refused
returns-in-Err-clause-refused g c =
    let same : places_in (g.S.Seek.keys c.args.seek.now) 0 c.bytes.result.now ≡ occurrences (g.S.Seek.keys c.args.seek.now) c.args.archive.now =
    ap (places_in (g.S.Seek.keys c.args.seek.now) 0) c.bytes.ensures.text
    ∙ places_in-nar (g.S.Seek.keys c.args.seek.now) c.sound.ensures c.args.archive.now c.bytes.ensures.tree in
    subst (λ ps. Finds (crowded ps ≡ true) c.in-Err.why) same c.in-Err.ensures.refused
