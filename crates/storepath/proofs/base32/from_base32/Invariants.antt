use Rattle.std.proofs.Common.{◌≡◌, ◌^◌, ◌<◌, take}
use Rattle.model.specs.Paths.{digits_of, number_of, IsFolded}
use Rattle.storepath.proofs.base32.from_base32.Given as goal

abbrev pub invariant-loop-character : goal.invariant-loop-character
invariant-loop-character l = record {
  read : digits_of l.character-index (number_of l.number) ≡ take l.character-index l.text;
  folded : IsFolded l.number;
  small : number_of l.number < 32 ^ l.character-index;
}
