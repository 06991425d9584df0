-- What a user sees: the desks of all whom he reaches.
use Rattle.std.specs.Prelude.{◌≡◌, ℕ, ◌<◌, Bool, true, List, length, map, filter, All}
use Rattle.std.specs.List.{range_with_len}
use Rattle.std.specs.Borrow.{Bor}
use Rattle.model.specs.Worlds.{Source, Goal, are_users}
use Rattle.model.specs.Outcomes.{view_of}
use Rattle.trust.specs.Naming.{name_at, IsWithin}
use Rattle.realise.specs.Holdings.{Holdings}
use Rattle.handlers.specs.Sound.{desk_of}
pub use Rattle.handlers.specs.Supported.{bare, desk_at}
use Rattle.handlers.specs.Parts.{beside_at, parts, world_in}

-- the places of a set below a number, in order
abbrev pub places_of : (ℕ → Bool) → ℕ → List ℕ
places_of set count = filter set (range_with_len 0 count)

abbrev pub desks_of : List (Bor Holdings) → List Holdings
desks_of desks = map (λ d. d.now) desks

-- these of the desks are what the user at a place sees, in the order of the users, whoever they are
pub record IsView (trust : ℕ → ℕ → Bool) (place : ℕ) (desks view : List Holdings) : Type 0 where
  pub places : List ℕ
  pub inside : All (λ p. p < length desks) places
  pub held : view ≡ map (desk_at desks) places
  pub seen : (users : List (List ℕ)) (limit : ℕ) (goals : List (List Goal)) (table : List Source)
      → are_users users ≡ true → length desks ≡ length users → IsWithin (length users) trust
      → let old = parts users limit trust goals table desks in
      view_of old.setup (world_in old) (name_at users place) ≡ map (λ p. desk_of (beside_at users trust goals p) table (desk_at desks p)) places
