-- What is reached from the members that pass a test: these, and each member that one of what is reached has a link to; and nothing else.
use Rattle.std.proofs.Common.{◌≡◌, Bool, true, inl, inr, List}
use Rattle.std.specs.Prelude.{◌||◌, ◌&&◌}
use Rattle.std.specs.List.{list_any}
use Rattle.std.proofs.lemmas.Bool.{or_left, or_right, and_from}
use Rattle.model.specs.Reach.{leads_by, all_reached}
use Rattle.model.proofs.BoolLemmas.{or_cases, both_parts}
use Rattle.model.proofs.ReachLemmas.{leads_holds, leads_joined, leads_keeps}
use Rattle.laws.proofs.MemberLemmas.{In, in_of, contains_of, from_filter, in_filter, any_true, from_any}

module _ {X : Type 0} (first : X → Bool) (link : X → X → Bool) (members : List X) where
  abbrev from_first : X → X → Bool
  from_first y x = first x && leads_by link members x y

  abbrev is_reached : X → Bool
  is_reached y = first y || list_any (from_first y) members

  pub reached_first : (y : X) → In y members → first y ≡ true → In y (all_reached first link members)
  reached_first y h t = in_filter is_reached y members h (or_left (first y) _ t)

  pub reached_next : (x y : X) → In x (all_reached first link members) → In y members → link x y ≡ true → In y (all_reached first link members)
  reached_next x y reached there on =
      let is = from_filter is_reached x members reached in
      let from : (a : X) → In a members → first a ≡ true → leads_by link members a y ≡ true → In y (all_reached first link members) = λ a h t l.
      in_filter is_reached y members there (or_right (first y) _ (any_true (from_first y) members a h (and_from (first a) _ t l))) in
      elim (or_cases (first x) (list_any (from_first x) members) is.1) [
        | inl t ↦ from x is.0 t (leads_holds link members x y on)
        | inr some ↦
            let a = from_any (from_first x) members some in
            let parts = both_parts (first a.0) (leads_by link members a.0 x) a.2 in
            from a.0 a.1 parts.0 (leads_joined link members a.0 x y (contains_of members x is.0) parts.1 (leads_holds link members x y on))
      ]

  pub reached_member : (y : X) → In y (all_reached first link members) → In y members
  reached_member y h = (from_filter is_reached y members h).0

  pub reached_least : (P : X → Type 0) → ((x : X) → In x members → first x ≡ true → P x)
      → ((x y : X) → In x members → In y members → P x → link x y ≡ true → P y) → (y : X) → In y (all_reached first link members) → P y
  reached_least P starts kept y h =
      let is = from_filter is_reached y members h in
      elim (or_cases (first y) (list_any (from_first y) members) is.1) [
        | inl t ↦ starts y is.0 t
        | inr some ↦
            let a = from_any (from_first y) members some in
            let parts = both_parts (first a.0) (leads_by link members a.0 y) a.2 in
            leads_keeps link members P (λ x z i j. kept x z (in_of members x i) (in_of members z j)) members (λ k c. c) a.0 y
            (contains_of members a.0 a.1) (contains_of members y is.0) (starts a.0 a.1 parts.0) parts.1
      ]
