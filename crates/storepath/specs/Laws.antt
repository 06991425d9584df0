-- Laws of store paths.
use Rattle.std.specs.Prelude.{◌≡◌, ◌↔◌, ℕ, List, true, Contains}
use Rattle.sha2.specs.Sha256.{sha256}
use Rattle.model.specs.Paths.{Kind, fingerprint, store_path, is_path, IsPath, NoClash}

-- where no two of some texts have one folded digest, and two texts and their fingerprints are among them,
-- one path is of one text and one name, whatever the kinds
abbrev pub PathsDiffer : Type 0
PathsDiffer =
    (texts : List (List ℕ)) → NoClash texts → (k l : Kind) (s t m n : List ℕ) → Contains texts s → Contains texts t
    → Contains texts (fingerprint k (sha256 s) m) → Contains texts (fingerprint l (sha256 t) n)
    → store_path k (sha256 s) m ≡ store_path l (sha256 t) n → (s ≡ t) × (m ≡ n)

-- a text passes the test of a path exactly where it is a path's
abbrev pub PathsPass : Type 0
PathsPass = (text : List ℕ) → (is_path text ≡ true) ↔ IsPath text
