use Rattle.journal.proofs.Kept.{elapses_to}
use Rattle.journal.proofs.memory.MemoryLogFileLogFile.write_at.Goals as goal

pub returns-clause-time : goal.returns-clause-time
returns-clause-time c =
    let past = c.in_ok-replace.ensures.past in
    elapses_to c.args.self.now (record { alloc = c.args.self.now.alloc; bytes = c.replace.new.bytes; past = c.replace.new.past }) past.0 past.1 past.2
