-- What a file begins with.
use Rattle.std.specs.Prelude.{◌⊎◌, ℕ, List, [], ◌∷◌, Option, IfSome}
use Rattle.model.specs.declared.mode.Mode.TheVariants.{Run}
use Rattle.model.specs.Lines.{split}
use Rattle.model.specs.Talk.{Seen, Silent, Names, GetsNext, seen_after, fresh}

-- the first of these lines that gets a reply names users: those before it get none
abbrev pub FirstNames : Seen → List (List ℕ) → Type 0
FirstNames seen [] = ⊥
FirstNames seen (line ∷ lines) =
    ((users : List (List ℕ)) × GetsNext seen line (Names users)) ⊎ (GetsNext seen line Silent × FirstNames (seen_after seen Silent) lines)

-- that is so of the lines of a text
abbrev pub BeginsWithUsers : List ℕ → Type 0
BeginsWithUsers bytes = FirstNames (fresh Run) (split 10 bytes)

-- of no bytes that a reader gives, if they are known, is it so
abbrev pub BeginsOtherwise : Option (List ℕ) → Type 0
BeginsOtherwise start = IfSome start (λ all. ¬ BeginsWithUsers all)
