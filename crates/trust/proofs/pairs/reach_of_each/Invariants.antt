use Rattle.std.specs.Prelude.{◌≡◌, ℕ, ◌<◌, length, slice_index}
use Rattle.trust.specs.Trusting.{holds, trusts, IsReach}
use Rattle.trust.proofs.pairs.reach_of_each.Given as goal

-- whom each user so far reaches
abbrev pub invariant-loop-user : goal.invariant-loop-user
invariant-loop-user l =
    ((place : ℕ) → place < l.user → IsReach (trusts l.rows) place (holds (slice_index l.reached place))) × (length l.reached ≡ 64)
