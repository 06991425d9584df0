-- Files of a run, one more at a time: as they are opened, and what is run for them.
use Rattle.std.proofs.Common.{◌≡◌, sym, ap, ◌∙◌, subst, inl, inr, ℕ, suc, ◌+◌, ◌<◌, List, [], ◌∷◌, ◌++◌, length, get_or, take, drop, add-one, drop-cons}
use Rattle.std.specs.Prelude.{map, Option, None, Some, Result, Err, unwrap_or}
use Rattle.std.specs.Global.{Vec}
use Rattle.std.proofs.lemmas.List.{map-append, take_more, take-append-drop}
use Rattle.model.specs.declared.refusal.Refusal.{Refusal}
use Rattle.model.specs.declared.refusal.Refusal.TheVariants.{Quota}
use Rattle.command_line.specs.declared.settings.Run.{Run}
use Rattle.teams.specs.declared.sessions.Part.{Part}
use Rattle.files.specs.declared.opening.Opened.{Opened}
use Rattle.files.specs.declared.opening.Refused.{Refused}
use Rattle.files.specs.Opening.{IsOpened, AreOpened, CannotOpen, AreUnopened}
use Rattle.files.specs.Parts.{IsPartOf, AreParts, HeadNames, AreNamed, IsRefusedFor, IsRefusedAmong}
use Rattle.model.specs.Limits.{most_passes}

-- ---- as they are opened

module _ {I Q : Type 0} (opened : List ℕ → I → Type 0) (made : Run → List Q → Type 0) (run : Run) where
  opened_push : (names : List (List ℕ)) (name : List ℕ) (files : List (Opened I Q)) (file : Opened I Q)
      → AreOpened opened made run names files → IsOpened opened made run name file
      → AreOpened opened made run (names ++ name ∷ []) (files ++ file ∷ [])
  opened_push [] name [] file all one = (one, tt)
  opened_push (n ∷ ns) name (f ∷ fs) file all one = (all.0, opened_push ns name fs file all.1 one)
  opened_push [] name (f ∷ fs) file all one = absurd all
  opened_push (n ∷ ns) name [] file all one = absurd all

  -- one file more is open, whose name is that of an item at a place
  pub opened_more : {S : Type 0} (text : S → List ℕ) (items : List S) (i : ℕ) (item : S) (files : List (Opened I Q)) (file : Opened I Q)
      → i < length items → item ≡ get_or items i item → AreOpened opened made run (map text (take i items)) files
      → IsOpened opened made run (text item) file
      → AreOpened opened made run (map text (take (i + 1) items)) (files ++ file ∷ [])
  opened_more {S} text items i item files file inside here all one =
      let more : take (i + 1) items ≡ take i items ++ item ∷ [] = take_more items i item inside ∙ ap (λ (s : S). take i items ++ s ∷ []) (sym here) in
      subst (λ (names : List (List ℕ)). AreOpened opened made run names (files ++ file ∷ []))
      (sym (ap (map text) more ∙ map-append text (take i items) (item ∷ [])))
      (opened_push (map text (take i items)) (text item) files file all one)

-- a list is what stands before a place, what stands there, and what stands behind it
split_at : {S : Type 0} (items : List S) (i : ℕ) (item : S) → i < length items → item ≡ get_or items i item
    → items ≡ take i items ++ item ∷ drop (i + 1) items
split_at {S} items i item inside here =
    let behind : drop i items ≡ item ∷ drop (i + 1) items =
    rw add-one (drop-cons items i item inside ∙ ap (λ (s : S). s ∷ drop (suc i) items) (sym here)) in
    sym (take-append-drop i items) ∙ ap (λ (rest : List S). take i items ++ rest) behind

module _ {I Q : Type 0} (opened : List ℕ → I → Type 0) (made : Run → List Q → Type 0) (run : Run) (missing : List ℕ → Type 0) where
  -- the first of some names cannot be opened
  pub unopened_at : {S : Type 0} (text : S → List ℕ) (items : List S) (i : ℕ) (item : S) (files : List (Opened I Q)) (refused : Refused)
      → i < length items → item ≡ get_or items i item → AreOpened opened made run (map text (take i items)) files
      → CannotOpen missing (text item) refused → AreUnopened opened made run missing (map text items) refused
  unopened_at text items i item files refused inside here all (inl memory) = inl memory
  unopened_at {S} text items i item files refused inside here all (inr one) =
      let rest : List S = drop (i + 1) items in
      inr (
        one.0,
        record {
          before = map text (take i items);
          behind = map text rest;
          names_are =
              ap (map text) (split_at items i item inside here) ∙ map-append text (take i items) (item ∷ rest)
              ∙ ap (λ (name : List ℕ). map text (take i items) ++ name ∷ map text rest) (sym one.1);
          files = files;
          opened_before = all;
          missing_is = subst missing (sym one.1) one.2;
        },
      )

-- ---- what is run for them

module _ {I Q : Type 0} (remaining : I → Option (List ℕ)) where
  pub parts_push : (files : List (Opened I Q)) (file : Opened I Q) (parts : List (Part I Q)) (part : Part I Q)
      → AreParts remaining files parts → IsPartOf remaining file part → AreParts remaining (files ++ file ∷ []) (parts ++ part ∷ [])
  parts_push [] file [] part all one = (one, tt)
  parts_push (f ∷ fs) file (p ∷ ps) part all one = (all.0, parts_push fs file ps part all.1 one)
  parts_push [] file (p ∷ ps) part all one = absurd all
  parts_push (f ∷ fs) file [] part all one = absurd all

  -- the users that the first of some parts names, if there is one
  abbrev pub NamedSoFar : List (Part I Q) → Option (Vec (List ℕ)) → Type 0
  NamedSoFar parts None = parts ≡ []
  NamedSoFar parts (Some users) = (first : Part I Q) × (rest : List (Part I Q)) × (parts ≡ first ∷ rest) × HeadNames remaining first users.items

  pub named_push : (parts : List (Part I Q)) (part : Part I Q) (named : Option (Vec (List ℕ))) (users : Vec (List ℕ))
      → NamedSoFar parts named → HeadNames remaining part users.items → NamedSoFar (parts ++ part ∷ []) (Some (unwrap_or named users))
  named_push parts part None users none head = (part, [], ap (λ (ps : List (Part I Q)). ps ++ part ∷ []) none, head)
  named_push parts part (Some first) users some head = (some.0, some.1 ++ part ∷ [], ap (λ (ps : List (Part I Q)). ps ++ part ∷ []) some.2, some.3)

  pub named_end : (parts : List (Part I Q)) (named : Option (Vec (List ℕ))) (none : Vec (List ℕ)) → none.items ≡ [] → NamedSoFar parts named
      → AreNamed remaining parts (unwrap_or named none).items
  named_end parts None none empty all = subst (λ (ps : List (Part I Q)). AreNamed remaining ps none.items) (sym all) empty
  named_end parts (Some users) none empty all = subst (λ (ps : List (Part I Q)). AreNamed remaining ps users.items) (sym all.2) all.3

-- a refusal that comes of a file at a place, where those before it have parts
pub refused_at : {I Q : Type 0} (remaining : I → Option (List ℕ)) (failed : I → ℕ) (files : List (Opened I Q)) (i : ℕ) (file : Opened I Q)
    (parts : List (Part I Q)) (refused : Refused)
    → i < length files → file ≡ get_or files i file → AreParts remaining (take i files) parts → IsRefusedFor remaining failed file refused
    → IsRefusedAmong remaining failed files refused
refused_at remaining failed files i file parts refused inside here all one = record {
  before = take i files;
  file = file;
  behind = drop (i + 1) files;
  files_are = split_at files i file inside here;
  parts = parts;
  parts_before = all;
  refused_for = one;
}

-- ---- why nothing is run

-- where it is told that so many are too many, no other error is
pub too_many : {T : Type 0} (n : ℕ) (result : Result T Refusal) (why : Refusal) → result ≡ Err why → (most_passes < n → result ≡ Err Quota) → most_passes < n → why ≡ Quota
too_many n result why is full more = let same : Err why ≡ Err Quota = sym is ∙ full more in cc
