-- The workers of a session.
use Rattle.std.specs.Prelude.{ℕ, List, [], ◌∷◌, sum_by}
use Rattle.builder.specs.declared.worker.Worker.{Worker}

module _ {S Q : Type 0} where
  -- the store of each has made no call
  abbrev pub AllNew : (S → Type 0) → List (Worker S Q) → Type 0
  AllNew is_new [] = Unit {0}
  AllNew is_new (w ∷ ws) = is_new w.store × AllNew is_new ws

  -- how many of their calls stopped what they call
  abbrev pub stops_in : (S → ℕ) → List (Worker S Q) → ℕ
  stops_in stops workers = sum_by (λ w. stops w.store) workers
