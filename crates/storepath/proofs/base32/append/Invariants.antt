use Rattle.std.proofs.Common.{◌≡◌, ℕ, ◌+◌, ◌*◌, ◌^◌, ◌<◌, ◌≤◌, take, get_or}
use Rattle.model.specs.Paths.{number_of, IsFolded}
use Rattle.storepath.proofs.base32.append.Given as goal

abbrev pub invariant-loop-place : goal.invariant-loop-place
invariant-loop-place l = record {
  multiplied : number_of (take l.place l.number) + 256 ^ l.place * l.carry ≡ 32 * number_of (take l.place l.initial.number) + l.initial.carry;
  same : (k : ℕ) → l.place ≤ k → get_or l.number k 0 ≡ get_or l.initial.number k 0;
  carry : l.carry < 32;
  folded : IsFolded l.number;
}
