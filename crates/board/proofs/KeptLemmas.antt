-- What a board keeps when a goal changes or comes.
use Rattle.std.proofs.Common.{◌≡◌, ℕ, ◌⊎◌, inl, inr, Bool, true, false, List, [], ◌∷◌, ◌++◌, length, slice_set, arith}
use Rattle.std.proofs.lemmas.Grind.{common_steps}
use Rattle.std.proofs.lemmas.List.Elements.{All-set, All-push}
use Rattle.std.proofs.lemmas.Bool.Decides.{nat_tests}
use Rattle.board.specs.declared.goals.Topic.{Topic}
use Rattle.board.specs.declared.stage.Goal.{Goal}
use Rattle.board.specs.Stages.{goal_at, gives, waits_on}
use Rattle.board.specs.Rows.{CoversIn, is_in}
use Rattle.board.specs.Boards.{AreKept, IsWithin, topic_at}

-- a row that covers a kind of goals covers it where one changes that is of it only if it was
covers_set : (is_kind : Goal → Bool) (goals : List Goal) (row : List ℕ) (i : ℕ) (g : Goal)
    → CoversIn is_kind goals row → (is_kind g ≡ true → is_kind (goal_at goals i) ≡ true)
    → CoversIn is_kind (slice_set goals i g) row
covers_set is_kind goals row i g covers same place lt is = grind (arith, common_steps, covers place)

-- and where one more comes that stands in it if it is of the kind
covers_add : (is_kind : Goal → Bool) (goals : List Goal) (row : List ℕ) (g : Goal) → CoversIn is_kind goals row
    → (is_kind g ≡ true → is_in (length goals) row ≡ true) → CoversIn is_kind (goals ++ g ∷ []) row
covers_add is_kind goals row g covers here place lt is = grind (arith, common_steps, covers place)

covers_more : (is_kind : Goal → Bool) (goals : List Goal) (row longer : List ℕ) → CoversIn is_kind goals row
    → ((at : ℕ) → is_in at row ≡ true → is_in at longer ≡ true) → CoversIn is_kind goals longer
covers_more is_kind goals row longer covers more place lt is = more place (covers place lt is)

clash : (b : Bool) → b ≡ true → b ≡ false → ⊥
clash b t f = cc

gives_either : (topic : ℕ) (g : Goal) → gives topic g ≡ true → (g.job ≡ topic) ⊎ (g.class ≡ topic)
gives_either topic g is = grind (arith, nat_tests)

given_by : (topics : List Topic) (place topic : ℕ) (g : Goal) → is_in place (topic_at topics g.class).givers ≡ true
    → is_in place (topic_at topics g.job).givers ≡ true → (g.job ≡ topic) ⊎ (g.class ≡ topic)
    → is_in place (topic_at topics topic).givers ≡ true
given_by topics place topic g class job (inl e) = rw e at job
given_by topics place topic g class job (inr e) = rw e at class

-- a goal that waits for nothing, and gives what it gave
pub kept_set : (goals : List Goal) (topics : List Topic) (lasts : List ℕ) (i : ℕ) (g : Goal)
    → AreKept goals topics lasts → IsWithin (length lasts) g → ((topic : ℕ) → waits_on topic g.stage ≡ false)
    → g.class ≡ (goal_at goals i).class → g.job ≡ (goal_at goals i).job → AreKept (slice_set goals i g) topics lasts
kept_set goals topics lasts i g kept within rests class job = record {
  as_many = kept.as_many;
  within = All-set (IsWithin (length lasts)) goals i g within kept.within;
  watched = λ topic. covers_set (λ g. waits_on topic g.stage) goals (topic_at topics topic).watchers i g (kept.watched
      topic) (λ is. absurd (clash (waits_on topic g.stage) is (rests topic)));
  given = λ topic. covers_set (gives topic) goals (topic_at topics topic).givers i g (kept.given topic) (λ is. rw (class, job) at is);
}

-- a goal more, which is among those that may give its class and its job
pub kept_add : (goals : List Goal) (old topics : List Topic) (lasts : List ℕ) (g : Goal) → AreKept goals old lasts
    → IsWithin (length lasts) g → ((topic : ℕ) → waits_on topic g.stage ≡ false) → length topics ≡ length old
    → ((other : ℕ) → (topic_at topics other).watchers ≡ (topic_at old other).watchers)
    → ((other at : ℕ) → is_in at (topic_at old other).givers ≡ true → is_in at (topic_at topics other).givers ≡ true)
    → is_in (length goals) (topic_at topics g.class).givers ≡ true
    → is_in (length goals) (topic_at topics g.job).givers ≡ true → AreKept (goals ++ g ∷ []) topics lasts
kept_add goals old topics lasts g kept within rests many watchers givers class job = record {
  as_many = omega (arith, kept.as_many);
  within = All-push (IsWithin (length lasts)) goals g kept.within within;
  watched = λ topic. rw (watchers topic) (covers_add (λ g. waits_on topic g.stage) goals (topic_at old topic).watchers
      g (kept.watched topic) (λ is. absurd (clash (waits_on topic g.stage) is (rests topic))));
  given = λ topic. covers_add (gives topic) goals (topic_at topics topic).givers g (covers_more (gives topic) goals
      (topic_at old topic).givers (topic_at topics topic).givers (kept.given topic) (givers topic)) (λ is. given_by
      topics (length goals) topic g class job (gives_either topic g is));
}
