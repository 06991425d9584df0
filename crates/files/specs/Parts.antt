-- What is run for files that are open.
use Rattle.std.specs.Prelude.{◌≡◌, ◌⊎◌, ℕ, List, [], ◌∷◌, ◌++◌, Option, Some}
use Rattle.std.specs.Io.KnownBytes.{Consumes}
use Rattle.model.specs.declared.mode.Mode.TheVariants.{Run}
use Rattle.model.specs.declared.refusal.Refusal.TheVariants.{BadUsers, InputFault, Memory}
use Rattle.session.specs.Ahead.{LooksAhead}
use Rattle.session.specs.Serving.{HasFailed}
use Rattle.session.specs.InputHeads.{BeginsOtherwise, BeginsWithUsers}
use Rattle.teams.specs.declared.sessions.Part.{Part}
use Rattle.files.specs.declared.opening.Opened.{Opened}
use Rattle.files.specs.declared.opening.Refused.{Refused}

module _ {I Q : Type 0} (remaining : I → Option (List ℕ)) where
  -- this is run for a file: what was read of it and what its reader still gives are its bytes, its first line that gets a reply names
  -- users, and its own runners build
  pub record IsPartOf (file : Opened I Q) (part : Part I Q) : Type 0 where
    pub bytes : Consumes (remaining file.reader) (remaining part.reader) part.bytes.items
    pub head : BeginsWithUsers part.bytes.items
    pub runners : part.runners ≡ file.runners
    pub sweeps : part.sweeps ≡ file.sweeps

  -- this is run for these files, in their order
  abbrev pub AreParts : List (Opened I Q) → List (Part I Q) → Type 0
  AreParts [] [] = Unit {0}
  AreParts (file ∷ files) (part ∷ parts) = IsPartOf file part × AreParts files parts
  AreParts files parts = ⊥

  -- the first line of users in what is run names these
  abbrev pub HeadNames : Part I Q → List (List ℕ) → Type 0
  HeadNames part users = (left : List ℕ) → remaining part.reader ≡ Some left → LooksAhead Run (part.bytes.items ++ left) (Some users)

  -- that of the first of them does
  abbrev pub AreNamed : List (Part I Q) → List (List ℕ) → Type 0
  AreNamed [] users = users ≡ []
  AreNamed (part ∷ parts) users = HeadNames part users

module _ {I Q : Type 0} (remaining : I → Option (List ℕ)) (failed : I → ℕ) where
  -- the refusal comes of that file: memory was refused, it could not be read, or it was and its first line that gets a reply names no
  -- users; its reader is as the last one then
  pub record IsRefusedFor (file : Opened I Q) (refused : Refused) : Type 0 where
    pub last : I
    pub name : refused.name ≡ file.name
    pub why : (refused.why ≡ InputFault) ⊎ (refused.why ≡ BadUsers) ⊎ (refused.why ≡ Memory)
    pub fault : refused.why ≡ InputFault → HasFailed (failed file.reader) (failed last)
    pub users : refused.why ≡ BadUsers → ¬ HasFailed (failed file.reader) (failed last)
    pub others : refused.why ≡ BadUsers → BeginsOtherwise (remaining file.reader)

  -- it comes of one of these files, and is of the first that it could come of: those before it were read up to their users
  pub record IsRefusedAmong (files : List (Opened I Q)) (refused : Refused) : Type 0 where
    pub before : List (Opened I Q)
    pub file : Opened I Q
    pub behind : List (Opened I Q)
    pub files_are : files ≡ before ++ file ∷ behind
    pub parts : List (Part I Q)
    pub parts_before : AreParts remaining before parts
    pub refused_for : IsRefusedFor file refused

  -- it does, or memory was refused
  abbrev pub IsRefused : List (Opened I Q) → Refused → Type 0
  IsRefused files refused = (refused.why ≡ Memory) ⊎ IsRefusedAmong files refused
