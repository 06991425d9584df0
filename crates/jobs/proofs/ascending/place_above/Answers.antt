use Rattle.std.proofs.Common.{rules, arith, ℕ}
use Rattle.std.specs.Prelude.{nat_lt, nat_le}
use Rattle.std.proofs.lemmas.List.Sorted.{IsPartitionPoint-from_clause, IsPartitionedBy-leb}
use Rattle.std.proofs.lemmas.Bool.Decides.{nat_tests}
use Rattle.jobs.proofs.PlaceLemmas.{never_falls, parted_at}
use Rattle.jobs.proofs.ascending.place_above.Goals as goal

pub returns : goal.returns
returns c =
    let m : ℕ = c.args.number in
    parted_at (λ n. nat_le n m) (λ n. nat_lt m n) c.args.list.now c.partition_point.result
    (λ n t. grind (arith, nat_tests, t)) (λ n f. grind (arith, nat_tests, f))
    c.partition_point.ensures.bound
    (IsPartitionPoint-from_clause (λ n. nat_le n m) c.args.list.now c.partition_point.result c.partition_point.ensures.partitioned
    (IsPartitionedBy-leb (λ n. n) c.args.list.now m (never_falls 0 c.args.list.now c.requires))
    (λ a r q k. search rules))
