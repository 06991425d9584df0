-- The order of claims.
use Rattle.std.proofs.Common.{◌≡◌, ℕ, ◌<◌, ◌+◌, ◌==◌, Bool, true, false, List, Option, Some, None, length, arith, refl}
use Rattle.std.proofs.lemmas.List.Elements.{All-from_get_or}
use Rattle.board.specs.declared.permits.Share.{Share}
use Rattle.board.specs.declared.ready.Crew.{Crew}
use Rattle.board.specs.Ready.{HasLeft, AreOfRun, left_by, lane_at}
use borrow.Author.Count.{below_more}
use Rattle.std.proofs.lemmas.Bool.Decides.{nat_tests}
use Rattle.board.specs.declared.lane.Claim.{Claim}
use Rattle.board.specs.Lanes.{LaneView, comes_before, empty_lane, is_before}

-- what is not before one is not before another that is before it
stays : (a b c : Claim) → is_before a b ≡ false → is_before c b ≡ true → is_before a c ≡ false
stays a b c p q = grind (arith, nat_tests)

not_itself : (a : Claim) → is_before a a ≡ false
not_itself a = grind (arith, nat_tests)

pub stays_behind : (a b c : Option Claim) → comes_before a b ≡ false → comes_before c b ≡ true
    → comes_before a c ≡ false
stays_behind None b c p q = refl
stays_behind (Some a) None c p q = cc
stays_behind (Some a) (Some b) None p q = cc
stays_behind (Some a) (Some b) (Some c) p q = stays a b c p q

pub not_before_itself : (a : Option Claim) → comes_before a a ≡ false
not_before_itself None = refl
not_before_itself (Some a) = not_itself a

-- the best so far stays it where the next is not before it
pub still_first : (f : ℕ → Option Claim) (i best : ℕ) → ((k : ℕ) → k < i → comes_before (f k) (f best) ≡ false)
    → comes_before (f i) (f best) ≡ false → (k : ℕ) → k < i + 1 → comes_before (f k) (f best) ≡ false
still_first f i best below here = below_more (λ k. comes_before (f k) (f best) ≡ false) i below here

-- the next is the best so far where it is before the one that was
pub now_first : (f : ℕ → Option Claim) (i best : ℕ) → ((k : ℕ) → k < i → comes_before (f k) (f best) ≡ false)
    → comes_before (f i) (f best) ≡ true → (k : ℕ) → k < i + 1 → comes_before (f k) (f i) ≡ false
now_first f i best below here =
    below_more (λ k. comes_before (f k) (f i) ≡ false) i (λ k lt. stays_behind (f k) (f best) (f i) (below k lt) here) (not_before_itself (f i))

-- a line stays of the run once a session has left
left_run : (seat seats users : ℕ) (lane : LaneView) (b : Bool) → (lane.seat == seat) ≡ b
    → (lane.seat < seats) × (lane.user < users)
    → ((left_by seat lane).seat < seats) × ((left_by seat lane).user < users)
left_run seat seats users lane true e h = let same : lane.seat ≡ seat = grind (arith, nat_tests) in rw e (rw same at h.0, h.1)
left_run seat seats users lane false e h = rw e h

pub of_run_left : (seat : ℕ) (old new : List LaneView) (crews : List Crew) (shares : List Share)
    → HasLeft seat old new → AreOfRun old crews shares → AreOfRun new crews shares
of_run_left seat old new crews shares left run =
    All-from_get_or (λ lane. (lane.seat < length crews) × (lane.user < length shares)) new (empty_lane 0 0)
    (λ i lt.
    let within : i < length old = omega (arith, left.0) in
    rw (left.1 i within) (left_run seat (length crews) (length shares) (lane_at old i) ((lane_at old i).seat == seat) refl (run i (empty_lane 0 0) within)))
