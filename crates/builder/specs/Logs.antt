-- What is kept of what a builder writes to its standard error.
use Rattle.std.specs.Prelude.{◌≡◌, []}
use Rattle.circular_buffer.specs.Buffer.{buffer}
use Rattle.builder.specs.declared.log.Log.{Log}

-- a log in this file, with room for 16 MiB, which was handed nothing yet
pub record IsNewLog {File : Type 0} (made : File) (log : Log File) : Type 0 where
  pub file : log.file ≡ made
  pub room : log.room ≡ 16777216
  pub tail : log.tail.bytes ≡ buffer [] 2048
