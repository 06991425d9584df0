-- A search along the chains of hanging-on.
use Rattle.std.proofs.Common.{◌≡◌, ℕ, ◌<◌, ◌≤◌, ◌+◌, Bool, true, false, List, ◌⊎◌, inl, inr, length, take, get_or}
use Rattle.std.proofs.Common.{arith, ◌∙◌}
use Rattle.std.proofs.lemmas.Grind.{common_steps}
use Rattle.std.proofs.lemmas.List.{take-append-le}
use Rattle.std.proofs.lemmas.Bool.Decides.{nat_tests}
use Rattle.board.specs.declared.stage.Goal.{Goal}
use Rattle.board.specs.Stages.{goal_at, HangsOn, LeadsTo, is_under_way, IsOver}
use Rattle.board.specs.Stages.LeadsTo.{here, on}
use Rattle.board.specs.Rows.{is_in}
use Rattle.board.specs.Boards.{GoalsView}
use Rattle.board.specs.Chains.{AreOf, AreFrom, BeginsWith, IsPassed, IsBegun, IsFollowed, IsLedTo, AreLedTo}
use Rattle.board.specs.Chains.{IsWitness, IsOwnUnderWay, IsNextUnderWay}
use Rattle.board.proofs.ChainLemmas.{in_more}

-- one step more of a chain
leads_on : {goals : List Goal} {a b : ℕ} (c : ℕ) → LeadsTo goals a b → HangsOn goals b c → LeadsTo goals a c
leads_on c (here b) h = on b c c h (here c)
leads_on c (on a next b first rest) h = on a next c first (leads_on c rest h)

-- a goal under way of a session is a witness of its own
pub witness_own : (b : GoalsView) (seat place : ℕ) → IsOwnUnderWay b seat place → IsWitness b.goals b.waiting seat place
witness_own b seat place o = record {
  within = o.within;
  led = record { own = place; within = o.within; of_seat = o.of_seat; leads = here place };
  under_way = o.under_way;
}

-- whatever a goal hangs on is led to, where that is
led_on : (goals : List Goal) (seat place next : ℕ) → IsLedTo goals seat place → HangsOn goals place next
    → IsLedTo goals seat next
led_on goals seat place next led h = record { own = led.own; within = led.within; of_seat = led.of_seat; leads = leads_on next led.leads h }

pub witness_next : (b : GoalsView) (seat place next : ℕ) → IsLedTo b.goals seat place → IsNextUnderWay b place next
    → IsWitness b.goals b.waiting seat next
witness_next b seat place next led u = record {
  within = u.hangs.1;
  led = led_on b.goals seat place next led u.hangs;
  under_way = u.under_way;
}

-- goals of a session are led to
pub led_own : (goals : List Goal) (seat : ℕ) (places : List ℕ) → AreOf goals seat places → AreLedTo goals seat places
led_own goals seat places of place is = let o = of place is in record { own = place; within = o.0; of_seat = o.1; leads = here place }

led_either : (goals : List Goal) (seat place next : ℕ) (old : List ℕ) → AreLedTo goals seat old
    → IsLedTo goals seat place → (is_in next old ≡ true) ⊎ HangsOn goals place next → IsLedTo goals seat next
led_either goals seat place next old led at (inl is) = led next is
led_either goals seat place next old led at (inr h) = led_on goals seat place next at h

-- what came from a goal that is led to is led to
pub led_step : (goals : List Goal) (seat place : ℕ) (old new : List ℕ) → AreLedTo goals seat old
    → IsLedTo goals seat place → AreFrom goals place old new → AreLedTo goals seat new
led_step goals seat place old new led at from next is = led_either goals seat place next old led at (from next is)

-- what is in a chain stays in a longer one
pub still_there : (p : ℕ) (xs ys : List ℕ) → BeginsWith ys xs → is_in p xs ≡ true → is_in p ys ≡ true
still_there p xs ys (more, is) h = rw is (grind (arith, common_steps))

pub passed_still : (goals : List Goal) (waiting : List Bool) (xs ys : List ℕ) (p : ℕ) → BeginsWith ys xs
    → IsPassed goals waiting xs p → IsPassed goals waiting ys p
passed_still goals waiting xs ys p longer (is, rests) = (still_there p xs ys longer is, rests)

pub begun_still : (goals : List Goal) (waiting : List Bool) (xs ys : List ℕ) (seat : ℕ) → BeginsWith ys xs
    → IsBegun goals waiting xs seat → IsBegun goals waiting ys seat
begun_still goals waiting xs ys seat longer begun p lt own = passed_still goals waiting xs ys p longer (begun p lt own)

pub followed_still : (goals : List Goal) (waiting : List Bool) (xs ys : List ℕ) (p : ℕ) → BeginsWith ys xs
    → IsFollowed goals waiting xs p → IsFollowed goals waiting ys p
followed_still goals waiting xs ys p longer before next h = passed_still goals waiting xs ys next longer (before next h)

taken_longer : (i : ℕ) (xs ys : List ℕ) → i ≤ length xs → BeginsWith ys xs → take i ys ≡ take i xs
taken_longer i xs ys le (more, is) = rw (is, take-append-le)

followed_at : (goals : List Goal) (waiting : List Bool) (xs ys : List ℕ) (p place : ℕ) {among : Type 0}
    → BeginsWith ys xs → (among → IsFollowed goals waiting xs p) → IsFollowed goals waiting ys place → among
    ⊎ (p ≡ place) → IsFollowed goals waiting ys p
followed_at goals waiting xs ys p place longer before now (inl is) = followed_still goals waiting xs ys p longer (before is)
followed_at goals waiting xs ys p place longer before now (inr e) = rw e now

among_first : (p i : ℕ) (xs ys : List ℕ) → i < length xs → BeginsWith ys xs → (is_in p (take i ys) ≡ true)
    ⊎ (p ≡ get_or ys i 0) → (is_in p (take i xs) ≡ true) ⊎ (p ≡ get_or xs i 0)
among_first p i xs ys lt (more, is) (inl h) = inl (rw (taken_longer i xs ys (omega arith) (more, is)) at h)
among_first p i xs ys lt (more, is) (inr e) = inr (e ∙ (rw is (grind (arith, common_steps))))

within_longer : (i : ℕ) (xs ys : List ℕ) → i < length xs → BeginsWith ys xs → i < length ys
within_longer i xs ys lt (more, is) = rw is (grind (arith, common_steps))

-- one goal more is followed
pub followed_more : (goals : List Goal) (waiting : List Bool) (xs ys : List ℕ) (place i : ℕ) → i < length xs
    → place ≡ get_or xs i 0 → BeginsWith ys xs
    → ((p : ℕ) → is_in p (take i xs) ≡ true → IsFollowed goals waiting xs p) → IsFollowed goals waiting ys place
    → (p : ℕ) → is_in p (take (i + 1) ys) ≡ true → IsFollowed goals waiting ys p
followed_more goals waiting xs ys place i lt at longer before now p is =
    followed_at goals waiting xs ys p (get_or xs i 0) longer (before p) (rw at at now)
    (among_first p i xs ys lt longer (in_more p i ys (within_longer i xs ys lt longer) is))

-- from a goal in a chain that is followed whole none leads to one that is under way
led_rests : (goals : List Goal) (waiting : List Bool) (places : List ℕ)
    → ((p : ℕ) → is_in p places ≡ true → IsFollowed goals waiting places p) → (p last : ℕ)
    → IsPassed goals waiting places p → LeadsTo goals p last → is_under_way waiting (goal_at goals last) ≡ false
led_rests goals waiting places all p last passed (here _) = passed.1
led_rests goals waiting places all p last passed (on _ next _ h rest) = led_rests goals waiting places all next last (all p passed.0 next h) rest

pub over_followed : (goals : List Goal) (waiting : List Bool) (places : List ℕ) (seat : ℕ)
    → IsBegun goals waiting places seat → ((p : ℕ) → is_in p places ≡ true → IsFollowed goals waiting places p)
    → IsOver goals waiting seat
over_followed goals waiting places seat begun all own last lt of leads = led_rests goals waiting places all own last (begun own lt of) leads

-- a goal in a chain stands there
pub in_place : (i : ℕ) (xs : List ℕ) → i < length xs → is_in (get_or xs i 0) xs ≡ true
in_place i xs lt = grind (arith, common_steps, nat_tests)

-- a longer chain is at least as long
pub longer_length : (xs ys : List ℕ) → BeginsWith ys xs → length xs ≤ length ys
longer_length xs ys (more, is) = rw is (grind (arith, common_steps))

pub taken_whole : (i : ℕ) (xs : List ℕ) → length xs ≤ i → take i xs ≡ xs
taken_whole i xs le = grind (arith, common_steps)
