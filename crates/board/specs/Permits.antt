-- Builders that run, and for whom.
use Rattle.std.specs.Prelude.{◌≡◌, ℕ, ◌+◌, ◌-◌, ◌<◌, ◌≤◌, ◌^◌, nat_lt, ◌==◌, ◌||◌, Bool, List, length, min, slice_set}
use Rattle.std.specs.Prelude.{slice_index_or, replicate}
use Rattle.std.specs.List.{sum_by, count_by}
use Rattle.board.specs.declared.permits.Share.{Share}

-- how many builders there may be, but for the first of each user; how many were given; and what each user has
pub record PermitsView : Type 0 where
  pub most : ℕ
  pub given : ℕ
  pub shares : List Share

-- what the user at a place has
abbrev pub share_at : List Share → ℕ → Share
share_at shares user = slice_index_or shares user (record { running = 0; last = 0 })

-- how many builders run
abbrev pub running_in : List Share → ℕ
running_in shares = sum_by (λ s. s.running) shares

-- how many users have one
abbrev pub users_running : List Share → ℕ
users_running shares = count_by (λ s. nat_lt 0 s.running) shares

-- no more than most - 1 run, and one more for each user who has one
pub record ArePermits (most total : ℕ) (shares : List Share) : Type 0 where
  pub some : 0 < most
  pub few : most ≤ 64
  pub users : length shares ≤ 64
  pub counted : total ≡ running_in shares
  pub within : running_in shares ≤ most - 1 + users_running shares

-- whether one more may run for a user: where fewer run than there may, or he has none
abbrev pub may_start : PermitsView → ℕ → Bool
may_start p user = nat_lt (running_in p.shares) p.most || ((share_at p.shares user).running == 0)

-- nobody has a builder, or was given one
abbrev pub nobody_runs : ℕ → ℕ → PermitsView
nobody_runs users most = record { most = most; given = 0; shares = replicate users (record { running = 0; last = 0 }) }

-- a builder more runs for a user, who was given one last
abbrev pub with_builder : PermitsView → ℕ → PermitsView
with_builder p user =
    let given = min (p.given + 1) (2 ^ 64 - 1) in
    record { most = p.most; given = given; shares = slice_set p.shares user (record { running = (share_at p.shares user).running + 1; last = given }) }

-- a builder fewer runs for a user
abbrev pub without_builder : PermitsView → ℕ → PermitsView
without_builder p user =
    let share = share_at p.shares user in
    record { most = p.most; given = p.given; shares = slice_set p.shares user (record { running = share.running - 1; last = share.last }) }
