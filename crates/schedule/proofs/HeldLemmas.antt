-- What a core holds follows from its world.
use Rattle.std.proofs.Common.{◌≡◌, ℕ, suc, Bool, true, false, true≢false, inl, inr, List, [], ◌∷◌, ◌++◌, length, map, refl, sym, ap, ◌∙◌, arith}
use Rattle.std.specs.Prelude.{◌||◌, not, bytes_eq}
use Rattle.std.proofs.lemmas.Bool.{or_left, or_right}
use Rattle.model.specs.Classes.{is_one_of}
use Rattle.model.specs.Reach.{is_among}
use Rattle.model.specs.Worlds.{Source, Desk, Goal, are_distinct}
use Rattle.model.proofs.BoolLemmas.{either, both_parts, same_bytes, bytes_same}
use Rattle.records.specs.Recorded.{Recorded}
use Rattle.realise.specs.Holdings.{Holdings, paths_of}
use Rattle.store.specs.Stored.{kept_at}
use Rattle.trust.specs.Trusting.{trusts}
use Rattle.trust.proofs.UsersLemmas.{distinct_users}
use Rattle.handlers.specs.Sound.{Beside, sources_at, records_at, desk_of}
use Rattle.handlers.specs.Parts.{desk_among, beside_at, goals_of}
use Rattle.schedule.specs.declared.state.Core.{Core}
use Rattle.schedule.specs.Standing.{world_of, setup_of, stored_in}
use Rattle.schedule.specs.Sweeping.{is_held, hold_path, holds_path, keep_path, keep_any_path}
use Rattle.schedule.proofs.SweepingLemmas.{kept_same}

-- ---- the paths of a desk

source_paths : (table : List Source) (paths : List (List ℕ)) → map (λ s. s.path) (sources_at table paths) ≡ paths
source_paths table [] = refl
source_paths table (p ∷ paths) = ap (λ ps. p ∷ ps) (source_paths table paths)

record_paths : (table : List Source) (records : List Recorded) → map (λ r. r.path) (records_at table records) ≡ map (λ r. r.path) records
record_paths table [] = refl
record_paths table (r ∷ records) = ap (λ ps. r.path ∷ ps) (record_paths table records)

-- the paths that a desk of the model holds
abbrev held_paths : Desk → List (List ℕ)
held_paths d = map (λ s. s.path) d.sources ++ map (λ r. r.path) d.records

paths_are : (beside : Beside) (table : List Source) (d : Holdings) → paths_of d ≡ held_paths (desk_of beside table d)
paths_are beside table d = λ i. sym (source_paths table d.known.sources) i ++ sym (record_paths table d.records) i

-- ---- users

not_true : (b : Bool) → not b ≡ true → b ≡ false
not_true true h = absurd (true≢false (sym h))
not_true false h = refl

-- whoever is among the others has another name
has_another : (name u : List ℕ) (names : List (List ℕ)) → is_among name names ≡ false → is_among u names ≡ true → bytes_eq name u ≡ false
has_another name u names apart inside = elim (either (bytes_eq name u)) [
  | inl t ↦
      let same : is_among name names ≡ is_among u names = ap (λ n. is_among n names) (same_bytes name u t) in
      absurd (true≢false (sym inside ∙ (sym same ∙ apart)))
  | inr f ↦ f
]

-- the first desk is the first user's
first_desk : (beside : ℕ → Beside) (table : List Source) (name : List ℕ) (names : List (List ℕ)) (d : Holdings) (desks : List Holdings)
    → desk_among beside table (name ∷ names) (d ∷ desks) name ≡ desk_of (beside 0) table d
first_desk beside table name names d desks = rw (bytes_same name) refl

-- and the others are of others
other_desk : (beside : ℕ → Beside) (table : List Source) (name : List ℕ) (names : List (List ℕ)) (d : Holdings) (desks : List Holdings) (u : List ℕ)
    → bytes_eq name u ≡ false → desk_among beside table (name ∷ names) (d ∷ desks) u ≡ desk_among (λ k. beside (suc k)) table names desks u
other_desk beside table name names d desks u apart = rw apart refl

-- ---- what all hold

-- the users have the same desks
abbrev HaveSameDesks : List (List ℕ) → (List ℕ → Desk) → (List ℕ → Desk) → Type 0
HaveSameDesks names one other = (u : List ℕ) → is_among u names ≡ true → one u ≡ other u

module _ (ta tb : List Source) where
  -- the desk of the first of them
  same_first : (ba bb : ℕ → Beside) (name : List ℕ) (names : List (List ℕ)) (d e : Holdings) (da db : List Holdings)
      → HaveSameDesks (name ∷ names) (desk_among ba ta (name ∷ names) (d ∷ da)) (desk_among bb tb (name ∷ names) (e ∷ db))
      → desk_of (ba 0) ta d ≡ desk_of (bb 0) tb e
  same_first ba bb name names d e da db same =
      sym (first_desk ba ta name names d da) ∙ (same name (or_left (bytes_eq name name) _ (bytes_same name)) ∙ first_desk bb tb name names e db)

  -- and those of the others
  same_others : (ba bb : ℕ → Beside) (name : List ℕ) (names : List (List ℕ)) (d e : Holdings) (da db : List Holdings) → is_among name names ≡ false
      → HaveSameDesks (name ∷ names) (desk_among ba ta (name ∷ names) (d ∷ da)) (desk_among bb tb (name ∷ names) (e ∷ db))
      → HaveSameDesks names (desk_among (λ k. ba (suc k)) ta names da) (desk_among (λ k. bb (suc k)) tb names db)
  same_others ba bb name names d e da db apart same u inside =
      let another : bytes_eq name u ≡ false = has_another name u names apart inside in
      sym (other_desk ba ta name names d da u another)
      ∙ (same u (or_right (bytes_eq name u) _ inside) ∙ other_desk bb tb name names e db u another)

  hold_same : (ba bb : ℕ → Beside) (names : List (List ℕ)) (da db : List Holdings) (p : List ℕ) → are_distinct names ≡ true
      → length da ≡ length names → length db ≡ length names → HaveSameDesks names (desk_among ba ta names da) (desk_among bb tb names db)
      → hold_path da p ≡ hold_path db p
  unfolding are_distinct
  hold_same ba bb [] [] [] p distinct la lb same = refl
  hold_same ba bb [] (d ∷ da) db p distinct la lb same = absurd (omega (arith, la))
  hold_same ba bb [] [] (e ∷ db) p distinct la lb same = absurd (omega (arith, lb))
  hold_same ba bb (name ∷ names) [] db p distinct la lb same = absurd (omega (arith, la))
  hold_same ba bb (name ∷ names) (d ∷ da) [] p distinct la lb same = absurd (omega (arith, lb))
  hold_same ba bb (name ∷ names) (d ∷ da) (e ∷ db) p distinct la lb same =
      let parts = both_parts (not (is_among name names)) (are_distinct names) distinct in
      let apart : is_among name names ≡ false = not_true (is_among name names) parts.0 in
      let desks : desk_of (ba 0) ta d ≡ desk_of (bb 0) tb e = same_first ba bb name names d e da db same in
      let own : holds_path d p ≡ holds_path e p =
      ap (λ ps. is_one_of ps p) (paths_are (ba 0) ta d ∙ (ap held_paths desks ∙ sym (paths_are (bb 0) tb e))) in
      let others : hold_path da p ≡ hold_path db p =
      hold_same (λ k. ba (suc k)) (λ k. bb (suc k)) names da db p parts.1 (omega (arith, la)) (omega (arith, lb))
      (same_others ba bb name names d e da db apart same) in
      λ i. own i || others i

  keep_same : (ba bb : ℕ → Beside) (names : List (List ℕ)) (da db : List Holdings) (ga gb : List (List Goal)) (p : List ℕ) → are_distinct names ≡ true
      → length da ≡ length names → length db ≡ length names → length ga ≡ length names → length gb ≡ length names
      → ((k : ℕ) → (ba k).goals ≡ goals_of ga k) → ((k : ℕ) → (bb k).goals ≡ goals_of gb k)
      → HaveSameDesks names (desk_among ba ta names da) (desk_among bb tb names db)
      → keep_any_path ga p ≡ keep_any_path gb p
  unfolding are_distinct
  keep_same ba bb [] da db [] [] p distinct la lb ka kb of_a of_b same = refl
  keep_same ba bb [] da db (g ∷ ga) gb p distinct la lb ka kb of_a of_b same = absurd (omega (arith, ka))
  keep_same ba bb [] da db [] (h ∷ gb) p distinct la lb ka kb of_a of_b same = absurd (omega (arith, kb))
  keep_same ba bb (name ∷ names) [] db ga gb p distinct la lb ka kb of_a of_b same = absurd (omega (arith, la))
  keep_same ba bb (name ∷ names) (d ∷ da) [] ga gb p distinct la lb ka kb of_a of_b same = absurd (omega (arith, lb))
  keep_same ba bb (name ∷ names) (d ∷ da) (e ∷ db) [] gb p distinct la lb ka kb of_a of_b same = absurd (omega (arith, ka))
  keep_same ba bb (name ∷ names) (d ∷ da) (e ∷ db) (g ∷ ga) [] p distinct la lb ka kb of_a of_b same = absurd (omega (arith, kb))
  keep_same ba bb (name ∷ names) (d ∷ da) (e ∷ db) (g ∷ ga) (h ∷ gb) p distinct la lb ka kb of_a of_b same =
      let parts = both_parts (not (is_among name names)) (are_distinct names) distinct in
      let apart : is_among name names ≡ false = not_true (is_among name names) parts.0 in
      let desks : desk_of (ba 0) ta d ≡ desk_of (bb 0) tb e = same_first ba bb name names d e da db same in
      let own : keep_path g p ≡ keep_path h p =
      ap (λ goals. keep_path goals p) (sym (of_a 0) ∙ (ap (λ (x : Desk). x.goals) desks ∙ of_b 0)) in
      let others : keep_any_path ga p ≡ keep_any_path gb p =
      keep_same (λ k. ba (suc k)) (λ k. bb (suc k)) names da db ga gb p parts.1 (omega (arith, la)) (omega (arith, lb)) (omega (arith, ka)) (omega (arith, kb))
      (λ k. of_a (suc k)) (λ k. of_b (suc k)) (same_others ba bb name names d e da db apart same) in
      λ i. own i || others i

-- ---- two cores of one run

-- where their worlds are one, they hold the same
held_same : (a b : Core) → setup_of a ≡ setup_of b → world_of a ≡ world_of b → (p : List ℕ) → is_held a p ≡ is_held b p
unfolding world_of setup_of
held_same a b setup world p =
    let users : a.state.users ≡ b.state.users = ap (λ s. s.users) setup in
    let distinct : are_distinct a.state.users ≡ true = distinct_users a.state.users a.state.run.listed in
    let with_a : ℕ → Beside = beside_at a.state.users (trusts a.state.trust) a.state.jobs.goals in
    let with_b : ℕ → Beside = beside_at b.state.users (trusts b.state.trust) b.state.jobs.goals in
    let same : HaveSameDesks a.state.users (desk_among with_a a.state.table.sources a.state.users a.state.desks.items)
    (desk_among with_b b.state.table.sources a.state.users b.state.desks.items) =
    λ u inside. (λ i. world i u) ∙ ap (λ names. desk_among with_b b.state.table.sources names b.state.desks.items u) (sym users) in
    let desks : length b.state.desks.items ≡ length a.state.users = b.state.run.paired ∙ ap length (sym users) in
    let goals : length b.state.jobs.goals ≡ length a.state.users = b.state.run.with_goals ∙ ap length (sym users) in
    let hold : hold_path a.state.desks.items p ≡ hold_path b.state.desks.items p =
    hold_same a.state.table.sources b.state.table.sources with_a with_b a.state.users a.state.desks.items b.state.desks.items p distinct
    a.state.run.paired desks same in
    let keep : keep_any_path a.state.jobs.goals p ≡ keep_any_path b.state.jobs.goals p =
    keep_same a.state.table.sources b.state.table.sources with_a with_b a.state.users a.state.desks.items b.state.desks.items a.state.jobs.goals
    b.state.jobs.goals p distinct a.state.run.paired desks a.state.run.with_goals goals (λ k. refl) (λ k. refl) same in
    λ i. hold i || keep i

-- and a sweep leaves them the same
pub swept_alike : (a b : Core) → setup_of a ≡ setup_of b → world_of a ≡ world_of b → stored_in a ≡ stored_in b
    → kept_at (is_held a) (stored_in a) ≡ kept_at (is_held b) (stored_in b)
swept_alike a b setup world stored = kept_same (is_held a) (is_held b) (held_same a b setup world) (stored_in a) ∙ ap (kept_at (is_held b)) stored
