-- How a run of calls of a file goes on.
use Rattle.std.proofs.Common.{◌≡◌, inl, inr, ⊎_elim, ℕ, List, refl, sym, ◌∙◌, subst, arith}
use Rattle.journal.specs.LogFile.{Elapses, LeavesOnly, Follows, NoMore, Only, IsOnlyRead}

module _ {D : Type 0} (moment : D → ℕ) (left_since : D → ℕ → List ℕ → Type 0) where
  -- before the first call
  pub started : (old : D) (P : List ℕ → Type 0) → ((c : List ℕ) → left_since old (moment old) c → P c) → LeavesOnly moment left_since old old P
  started old P here = record { later = omega arith; each = here; before = λ t c le left. inl left }

  -- one call more, after which a crash leaves what has P
  pub goes_on : (may_leave : D → List ℕ → Type 0) (old mid new : D) (P : List ℕ → Type 0) → LeavesOnly moment left_since old mid P
      → Elapses moment left_since may_leave mid new
      → ((c : List ℕ) → may_leave new c → P c) → LeavesOnly moment left_since old new P
  goes_on may_leave old mid new P so_far time here = record {
    later = omega (arith, so_far.later, time.later);
    each = λ c left. ⊎_elim (so_far.each c) (here c) (time.nothing_else (moment old) c so_far.later left);
    before = λ t c le left. ⊎_elim (so_far.before t c le) (λ now. inr (here c now)) (time.nothing_else t c (omega (arith, le, so_far.later)) left);
  }

  -- a run and one more, by what they leave
  pub joins : (old mid new : D) (P Q : List ℕ → Type 0) → LeavesOnly moment left_since old mid P → LeavesOnly moment left_since mid new Q
      → ((c : List ℕ) → Q c → P c) → LeavesOnly moment left_since old new P
  joins old mid new P Q so_far next here = record {
    later = omega (arith, so_far.later, next.later);
    each = λ c left. ⊎_elim (so_far.each c) (here c) (next.before (moment old) c so_far.later left);
    before = λ t c le left. ⊎_elim (so_far.before t c le) (λ now. inr (here c now)) (next.before t c (omega (arith, le, so_far.later)) left);
  }

  -- a run by something weaker
  pub weaker : (old new : D) (P Q : List ℕ → Type 0) → ((c : List ℕ) → P c → Q c) → LeavesOnly moment left_since old new P
      → LeavesOnly moment left_since old new Q
  weaker old new P Q here leaves = record {
    later = leaves.later;
    each = λ c left. here c (leaves.each c left);
    before = λ t c le left. ⊎_elim (λ was. inl was) (λ now. inr (here c now)) (leaves.before t c le left);
  }

  -- one change of a file that is on the disk
  pub changed : (may_leave : D → List ℕ → Type 0) (step : List ℕ → List ℕ → Type 0) (file : List ℕ) (old mid : D) → step file file
      → ((c : List ℕ) → left_since old (moment old) c → may_leave old c) → Only file (may_leave old)
      → Follows step (may_leave old) (may_leave mid) → Elapses moment left_since may_leave old mid → LeavesOnly moment left_since old mid (step file)
  changed may_leave step file old mid same now only follows time =
      goes_on may_leave old old mid (step file) (started old (step file) (λ c left. subst (step file) (sym (only c (now c left))) same)) time
      (λ c left. let from = follows c left in subst (λ (d : List ℕ). step d c) (only from.0 from.1) from.2)

  -- and a sync
  pub changed_synced : (may_leave : D → List ℕ → Type 0) (step : List ℕ → List ℕ → Type 0) (file : List ℕ) (old mid new : D)
      → LeavesOnly moment left_since old mid (step file)
      → Only file (may_leave old) → Follows step (may_leave old) (may_leave mid) → NoMore (may_leave mid) (may_leave new)
      → Elapses moment left_since may_leave mid new
      → LeavesOnly moment left_since old new (step file)
  changed_synced may_leave step file old mid new so_far only follows no_more time =
      goes_on may_leave old mid new (step file) so_far time
      (λ c left. let from = follows c (no_more c left) in subst (λ (d : List ℕ). step d c) (only from.0 from.1) from.2)

-- ---- a file that is only read

module _ {D : Type 0} (seen : D → List ℕ) (may_leave : D → List ℕ → Type 0) (moment : D → ℕ) (left_since : D → ℕ → List ℕ → Type 0) where
  -- before the first call
  pub unread : (old : D) → ((c : List ℕ) → left_since old (moment old) c → may_leave old c) → IsOnlyRead seen may_leave moment left_since old old
  unread old now = record {
    same = refl;
    crash = λ c left. left;
    moments = started moment left_since old (may_leave old) now;
  }

  -- one read
  pub read_once : (old new : D) → ((c : List ℕ) → left_since old (moment old) c → may_leave old c) → seen new ≡ seen old
      → NoMore (may_leave old) (may_leave new)
      → Elapses moment left_since may_leave old new → IsOnlyRead seen may_leave moment left_since old new
  read_once old new now same crash time = record {
    same = same;
    crash = crash;
    moments = goes_on moment left_since may_leave old old new (may_leave old) (started moment left_since old (may_leave old) now) time crash;
  }

  pub reads_join : (old mid new : D) → IsOnlyRead seen may_leave moment left_since old mid → IsOnlyRead seen may_leave moment left_since mid new
      → IsOnlyRead seen may_leave moment left_since old new
  reads_join old mid new first next = record {
    same = next.same ∙ first.same;
    crash = λ c left. first.crash c (next.crash c left);
    moments = joins moment left_since old mid new (may_leave old) (may_leave mid) first.moments next.moments first.crash;
  }
