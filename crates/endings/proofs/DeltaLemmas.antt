-- What was built for goals, one after another.
use Rattle.std.proofs.Common.{◌≡◌, ℕ, ◌+◌, ◌≤◌, Bool, true, false, true≢false, List, [], ◌∷◌, ◌++◌, length, refl, sym, arith, append_assoc, append-nil}
use Rattle.std.specs.Prelude.{Result, Ok, Err, IfOk, ◌&&◌, nat_le}
use Rattle.std.proofs.lemmas.Bool.Decides.{nat_tests}
use Rattle.model.specs.declared.refusal.Refusal.{Refusal}
use Rattle.model.specs.declared.refusal.Refusal.TheVariants.{Quota}
use Rattle.model.specs.Worlds.{Status, Done, Failed}
use Rattle.realise.specs.Holdings.{Holdings}
use Rattle.endings.specs.DeskDeltas.{BuiltOutput, DeskDelta, with_delta, is_had, is_free, charged_with, status_with, one_more, delta_with}
use Rattle.endings.specs.DeskDeltas.{status_of_built, delta_of, all_delta, all_statuses}

module _ (limit : ℕ) (d : Holdings) where
  abbrev Built : Type 0
  Built = Result BuiltOutput Refusal

  pub delta_next : (xs rest : List (ℕ × Built)) (x : ℕ × Built) (g new : DeskDelta) → xs ≡ x ∷ rest → new ≡ delta_of limit d x.1 g
      → all_delta limit d rest new ≡ all_delta limit d xs g
  unfolding all_delta
  delta_next xs rest x g new is made = rw (is, made) refl

  pub delta_end : (xs : List (ℕ × Built)) (g : DeskDelta) → xs ≡ [] → g ≡ all_delta limit d xs g
  unfolding all_delta
  delta_end xs g none = rw none refl

  pub statuses_next : (xs rest : List (ℕ × Built)) (x : ℕ × Built) (g new : DeskDelta) (told : List (ℕ × Status)) (one : ℕ × Status) → xs ≡ x ∷ rest
      → new ≡ delta_of limit d x.1 g → one ≡ (x.0, status_of_built limit x.1 (with_delta g d))
      → (told ++ one ∷ []) ++ all_statuses limit d rest new ≡ told ++ all_statuses limit d xs g
  unfolding all_statuses
  statuses_next xs rest x g new told one is made status = rw (is, made, status) (append_assoc told (_ ∷ []) _)

  pub statuses_end : (xs : List (ℕ × Built)) (g : DeskDelta) (told : List (ℕ × Status)) → xs ≡ [] → told ≡ told ++ all_statuses limit d xs g
  unfolding all_statuses
  statuses_end xs g told none = rw none (sym (append-nil told))

pub nothing_left : {X : Type 0} (left : ℕ) (xs : List X) → left ≡ length xs → left ≡ 0 → xs ≡ []
nothing_left left [] counted none = refl
nothing_left left (x ∷ xs) counted none = absurd (omega arith)

-- ---- one record

module _ (limit : ℕ) (d : Holdings) (o : BuiltOutput) (g : DeskDelta) where
  -- a desk that has the record gets nothing
  pub delta_had : is_had o.0 (with_delta g d) ≡ true → g ≡ delta_with limit d o g
  delta_had had = rw had refl

  pub status_had : is_had o.0 (with_delta g d) ≡ true → Done o.0.path ≡ status_with limit o (with_delta g d)
  status_had had = rw had refl

  -- nor does one without room for it
  pub delta_full : (more : ℕ) → is_had o.0 (with_delta g d) ≡ false → more ≡ charged_with o (with_delta g d) → is_free more limit (with_delta g d) ≡ false
      → g ≡ delta_with limit d o g
  delta_full more had charged full = rw (had, ← charged, full) refl

  pub status_full : (more : ℕ) → is_had o.0 (with_delta g d) ≡ false → more ≡ charged_with o (with_delta g d) → is_free more limit (with_delta g d) ≡ false
      → Failed Quota ≡ status_with limit o (with_delta g d)
  status_full more had charged full = rw (had, ← charged, full) refl

  -- another gets it
  pub delta_free : (more : ℕ) → is_had o.0 (with_delta g d) ≡ false → more ≡ charged_with o (with_delta g d) → is_free more limit (with_delta g d) ≡ true
      → one_more o more g ≡ delta_with limit d o g
  delta_free more had charged free = rw (had, ← charged, free) refl

  pub status_free : (more : ℕ) → is_had o.0 (with_delta g d) ≡ false → more ≡ charged_with o (with_delta g d) → is_free more limit (with_delta g d) ≡ true
      → Done o.0.path ≡ status_with limit o (with_delta g d)
  status_free more had charged free = rw (had, ← charged, free) refl

-- what is charged with it is within the limit
pub room_left : (few : Bool) (charge was more limit : ℕ) → (few && nat_le (charge + was + more) limit) ≡ true → charge + (was + more) ≤ limit
room_left true charge was more limit free = grind (arith, nat_tests)
room_left false charge was more limit free = absurd (true≢false (sym free))

-- and so it is once that is charged
pub charge_then : {T E : Type 0} (result : Result T E) (charge limit : ℕ) (o : BuiltOutput) (more : ℕ) (g new : DeskDelta) → charge + (g.more + more) ≤ limit
    → IfOk result (λ _. new ≡ one_more o more g) → IfOk result (λ _. charge + new.more ≤ limit)
charge_then (Ok x) charge limit o more g new within made = rw made within
charge_then (Err e) charge limit o more g new within made = tt
