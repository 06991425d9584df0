use Rattle.std.proofs.lemmas.Str.{IsUtf8-from_ascii}
use Rattle.storepath.proofs.PathTests.{digits_are_ascii}
use Rattle.storepath.proofs.hash_part.HashPartDisplay.fmt.Goals as goal

pub unreachable-requires : goal.unreachable-requires
unreachable-requires g c =
    c.in-Err.ensures.cases.0 (rw c.bytes.ensures.value (IsUtf8-from_ascii c.args.self.now (digits_are_ascii c.args.self.now c.bytes.ensures.length c.bytes.ensures.digits)))
