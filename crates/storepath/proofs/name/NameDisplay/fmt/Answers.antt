use Rattle.std.proofs.lemmas.Str.{IsUtf8-from_ascii}
use Rattle.storepath.proofs.NameLemmas.{name_is_ascii}
use Rattle.storepath.proofs.name.NameDisplay.fmt.Goals as goal

pub unreachable-requires : goal.unreachable-requires
unreachable-requires g c = c.in-Err.ensures.cases.0 (rw c.bytes.ensures.value (IsUtf8-from_ascii c.args.self.now (name_is_ascii c.args.self.now c.bytes.ensures.named)))
