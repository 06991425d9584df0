-- What a running digest has taken.
use Rattle.std.specs.Prelude.{ℕ, List}
use Rattle.sha2.specs.Hashers.{Holds256}
use Rattle.journal.specs.declared.text_digest.TextDigest.{TextDigest}

abbrev pub HasTaken : TextDigest → List ℕ → Type 0
HasTaken digest text = Holds256 digest.inner text
