-- What the labels on a desk name is on it: also with one entry more.
use Rattle.std.proofs.Common.{◌≡◌, ℕ, Bool, true, List, [], ◌∷◌, ◌++◌, ◌∙◌, Option, Some, None}
use Rattle.std.specs.Prelude.{bytes_eq}
use Rattle.std.specs.List.{list_any}
use Rattle.std.proofs.lemmas.List.Elements.{All-weaker, All-push}
use Rattle.std.proofs.lemmas.List.Folds.{list_any-append}
use Rattle.std.proofs.lemmas.Bool.{or_left}
use Rattle.model.specs.Classes.{Class}
use Rattle.model.specs.Worlds.{Label}
use Rattle.records.specs.Recorded.{Recorded}
use Rattle.records.specs.declared.desk_entry.DeskEntry.{DeskEntry}
use Rattle.records.specs.declared.desk_entry.DeskEntry.TheVariants as entry
use Rattle.realise.specs.Holdings.{Holdings, is_at, has_labelled, holds_entry, IsClosedWith, IsClosedWithEntry, IsClosed}

-- ---- one entry more

-- a desk has what a label names
abbrev pub IsLabelled : Holdings → Label → Type 0
IsLabelled d l = has_labelled d l.path l.class ≡ true

-- what is among a list is among a longer one
among_more : {X : Type 0} (p : X → Bool) (xs ys : List X) → list_any p xs ≡ true → list_any p (xs ++ ys) ≡ true
among_more p xs ys h = list_any-append p xs ys ∙ or_left (list_any p xs) (list_any p ys) h

-- what a desk has it has with one entry more
pub still_labelled : (d : Holdings) (e : DeskEntry) (archive : ℕ) (path : List ℕ) (class : Option Class) → has_labelled d path class ≡ true
    → has_labelled (holds_entry e archive d) path class ≡ true
still_labelled d (entry.Source added) archive path None h = among_more (λ p. bytes_eq p path) d.known.sources (added ∷ []) h
still_labelled d (entry.Source added) archive path (Some class) h = h
still_labelled d (entry.Record r) archive path None h = h
still_labelled d (entry.Record r) archive path (Some class) h = among_more (is_at path class) d.records (r ∷ []) h

still_closed : (d : Holdings) (e : DeskEntry) (archive : ℕ) (r : Recorded) → IsClosedWith d r → IsClosedWith (holds_entry e archive d) r
still_closed d e archive r closed =
    All-weaker (IsLabelled d) (IsLabelled (holds_entry e archive d)) (λ l h. still_labelled d e archive l.path l.class h) r.labels closed

-- a desk stays closed with one entry more, if what its labels name is there
pub stays_closed : (d : Holdings) (e : DeskEntry) (archive : ℕ) → IsClosed d → IsClosedWithEntry d e → IsClosed (holds_entry e archive d)
stays_closed d (entry.Source path) archive closed own =
    All-weaker (IsClosedWith d) (IsClosedWith (holds_entry (entry.Source path) archive d)) (λ r h. still_closed d (entry.Source path) archive r h) d.records closed
stays_closed d (entry.Record r) archive closed own =
    let now : Holdings = holds_entry (entry.Record r) archive d in
    All-push (IsClosedWith now) d.records r (All-weaker (IsClosedWith d) (IsClosedWith now) (λ q h. still_closed d (entry.Record r) archive q h) d.records closed)
    (still_closed d (entry.Record r) archive r own)
