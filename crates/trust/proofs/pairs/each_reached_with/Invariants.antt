use Rattle.std.specs.Prelude.{◌≡◌, ℕ, ◌<◌, length, slice_index}
use Rattle.trust.specs.Trusting.{reached_with}
use Rattle.trust.proofs.pairs.each_reached_with.Given as goal

-- so it is of each user so far
abbrev pub invariant-loop-place : goal.invariant-loop-place
invariant-loop-place l =
    ((p : ℕ) → p < l.place → slice_index l.after p ≡ reached_with (slice_index l.reached p) l.user (slice_index l.reached l.other))
    × (length l.after ≡ 64)
