use Rattle.std.proofs.Common.{◌≡◌, ◌++◌, ap, sym, ◌∙◌}
use Rattle.model.specs.Occurrences.{places_in, crowded}
use Rattle.scan.specs.Searching.{moved}
use Rattle.scan.proofs.CrowdLemmas.{moved-none}
use Rattle.scan.proofs.finding.places_in_by.Goals as goal

pub invariant_of-result : goal.invariant_of-result
invariant_of-result g c =
    let found = places_in (g.S.Seek.keys c.args.seek.now) 0 c.args.text.now in
    let places : c.search.new.places.items ≡ found = c.in_ok-search.ensures.found c.if-branch.false ∙ ap (λ ps. ps ++ moved 0 found) c.new-places.ensures.items
    ∙ moved-none found in
    ap crowded places ∙ sym c.in_ok-search.ensures.close ∙ c.if-branch.false

pub returns-clause-found : goal.returns-clause-found
returns-clause-found g c =
    let found = places_in (g.S.Seek.keys c.args.seek.now) 0 c.args.text.now in
    c.in_ok-search.ensures.found c.if-branch.false ∙ ap (λ ps. ps ++ moved 0 found) c.new-places.ensures.items ∙ moved-none found

pub returns-clause-apart : goal.returns-clause-apart
returns-clause-apart g c =
    let found = places_in (g.S.Seek.keys c.args.seek.now) 0 c.args.text.now in
    let places : c.search.new.places.items ≡ found = c.in_ok-search.ensures.found c.if-branch.false ∙ ap (λ ps. ps ++ moved 0 found) c.new-places.ensures.items
    ∙ moved-none found in
    ap crowded places ∙ sym c.in_ok-search.ensures.close ∙ c.if-branch.false
