-- Topics, and who may give them.
use Rattle.std.proofs.Common.{◌≡◌, ℕ, ◌<◌, true, List, [], ◌∷◌, ◌++◌, length, slice_set, arith}
use Rattle.std.proofs.lemmas.Grind.{common_steps}
use Rattle.std.proofs.lemmas.Bool.Decides.{nat_tests}
use Rattle.board.specs.declared.goals.Topic.{Topic}
use Rattle.board.specs.Rows.{is_in}
use Rattle.board.specs.Boards.{topic_at, AreMoreGivers}

-- a place that was put stands in a row, and others stay
put_there : (place : ℕ) (row : List ℕ) → is_in place (row ++ place ∷ []) ≡ true
put_there place row = grind (arith, common_steps, nat_tests)

stays_there : (at place : ℕ) (row : List ℕ) → is_in at row ≡ true → is_in at (row ++ place ∷ []) ≡ true
stays_there at place row is = grind (arith, common_steps, nat_tests)

-- a topic has a place more among its givers
pub more_givers : (topics : List Topic) (topic place : ℕ) (one : Topic) → topic < length topics
    → one.watchers ≡ (topic_at topics topic).watchers → one.givers ≡ (topic_at topics topic).givers ++ place ∷ []
    → AreMoreGivers topic place topics (slice_set topics topic one)
more_givers topics topic place one lt w g = record {
  as_many = grind (arith, common_steps);
  watchers = λ other. grind (arith, common_steps);
  kept = λ other at is. grind (arith, common_steps, stays_there at place (topic_at topics topic).givers);
  put = grind (arith, common_steps, put_there place (topic_at topics topic).givers);
}
