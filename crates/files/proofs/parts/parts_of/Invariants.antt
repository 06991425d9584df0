use Rattle.files.specs.Parts.{AreParts}
use Rattle.files.proofs.FileLemmas.{NamedSoFar}
use Rattle.files.proofs.parts.parts_of.Given as goal

-- there is a part for each file so far, and the first of them names the users
abbrev pub invariant-loop-file : goal.invariant-loop-file
invariant-loop-file g l =
    AreParts g.I.Read.remaining l.yielded l.parts.items × NamedSoFar g.I.Read.remaining l.parts.items l.named
