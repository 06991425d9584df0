-- A file that a crash left as it was.
use Rattle.std.proofs.Common.{◌≤◌, ℕ, List, length, refl, arith}
use Rattle.std.proofs.lemmas.List.{take_all}
use Rattle.journal.specs.LogFile.{Torn, Cut}

pub torn_same : (at n : ℕ) (file : List ℕ) → Torn at n file file
torn_same at n file = record { before = refl; after = refl; no_shorter = omega arith; no_longer = omega arith }

pub cut_same : (n : ℕ) (file : List ℕ) → n ≤ length file → Cut n file file
cut_same n file within = record { no_shorter = within; front = take_all (length file) file (omega arith) }
