-- A file in memory, by its bytes.
use Rattle.std.specs.Prelude.{ℕ, List}
use Rattle.journal.specs.declared.memory.MemoryLogFile.{MemoryLogFile}

abbrev pub memory_bytes : MemoryLogFile → List ℕ
memory_bytes file = file.bytes.items
