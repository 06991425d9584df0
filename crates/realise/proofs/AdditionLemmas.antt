-- A desk with records more, and several desks.
use Rattle.std.proofs.Common.{◌≡◌, ℕ, ◌+◌, Bool, true, List, [], ◌∷◌, ◌++◌, length, map, refl, sym, ap, ◌∙◌, subst, append_assoc, append-nil}
use Rattle.std.proofs.Common.{arith, Result, Ok, Err}
use Rattle.std.specs.Prelude.{All, MatchResult}
use Rattle.model.specs.declared.refusal.Refusal.{Refusal}
use Rattle.model.specs.declared.refusal.Refusal.TheVariants.{Memory}
use Rattle.std.specs.List.{zip}
use Rattle.std.specs.Bool.{◌==◌}
use Rattle.std.proofs.lemmas.Bool.Decides.{nat_tests}
use Rattle.std.proofs.lemmas.List.{map-append, length-append, nil_from_length}
use Rattle.std.proofs.lemmas.List.Elements.{All-head, All-tail, All-cons, All-nil}
use Rattle.records.specs.Recorded.{Recorded}
use Rattle.realise.specs.declared.additions.Addition.{Addition}
use Rattle.realise.specs.declared.desk.Desk.TheInside.{Inside}
use Rattle.realise.specs.Held.{Held, paths_held, bytes_held, with_archives, charged_beside, IsSetOf}
use Rattle.realise.specs.Holdings.{Holdings, paths_of, IsClosed}
use Rattle.realise.specs.Additions.{MayAdd, with_addition}
use Rattle.realise.specs.Kept.{holdings_of, IsConsistent}
use Rattle.realise.proofs.HoldingLemmas.{bytes_beside, held_beside}

-- ---- one desk

module _ (d : Inside) (is : IsConsistent d) (a : Addition) (held : Held) (same : held.archives ≡ d.holding.archives) where
  abbrev before : Holdings
  before = holdings_of d

  -- the bytes that are held with the records
  pub addition_bytes : bytes_held (with_archives a.archives.items held.archives) ≡ before.charge + charged_beside a.archives.items (paths_of before)
  addition_bytes =
      ap (λ had. bytes_held (with_archives a.archives.items had)) same ∙ bytes_beside a.archives.items d.holding.archives (paths_of before) is.held

  module _ (records : List Recorded) (new : Held) (pushed : records ≡ d.records ++ a.records.items)
      (put : new.archives ≡ with_archives a.archives.items held.archives) where
    -- the desk then
    pub addition_view : holdings_of (record d { records = records; holding = new }) ≡ with_addition a before
    addition_view =
        let there = put ∙ ap (with_archives a.archives.items) same in
        let bytes = ap bytes_held put ∙ addition_bytes in
        λ i. record before { records = pushed i; archives = there i; charge = bytes i }

    paths_then : map (λ r. r.path) a.records.items ≡ paths_held a.archives.items
        → paths_of before ++ paths_held a.archives.items ≡ paths_of (with_addition a before)
    paths_then paired =
        let path = λ (r : Recorded). r.path in
        append_assoc d.known.sources (map path d.records) (paths_held a.archives.items)
        ∙ ap (λ ps. d.known.sources ++ ps)
        (ap (λ ps. map path d.records ++ ps) (sym paired) ∙ sym (map-append path d.records a.records.items))

    -- it keeps what its type keeps
    pub addition_kept : MayAdd a before → IsConsistent (record d { records = records; holding = new })
    addition_kept may =
        let there : new.archives ≡ with_archives a.archives.items d.holding.archives = put ∙ ap (with_archives a.archives.items) same in
        let paths = paths_then (sym may.paired) in
        record {
          closed = subst IsClosed (sym addition_view) may.closed;
          held = subst (λ (h : Holdings). IsSetOf (paths_held new.archives) (paths_of h)) (sym addition_view)
              (subst (λ had. IsSetOf (paths_held had) (paths_of (with_addition a before))) (sym there)
              (subst (IsSetOf (paths_held (with_archives a.archives.items d.holding.archives))) paths
              (held_beside a.archives.items d.holding.archives (paths_of before) is.held)));
        }

-- ---- several desks, of which one comes last

zip_last : {X Y : Type 0} (xs : List X) (ys : List Y) (x : X) (y : Y) → length xs ≡ length ys → zip (xs ++ x ∷ []) (ys ++ y ∷ []) ≡ zip xs ys ++ (x, y) ∷ []
zip_last [] [] x y same = refl
zip_last [] (v ∷ vs) x y same = absurd (omega (arith, same))
zip_last (u ∷ us) [] x y same = absurd (omega (arith, same))
zip_last (u ∷ us) (v ∷ vs) x y same = ap (λ ps. (u, v) ∷ ps) (zip_last us vs x y (omega (arith, same)))

all_parts : {X : Type 0} (P : X → Type 0) (xs : List X) (x : X) → All P (xs ++ x ∷ []) → All P xs × P x
all_parts P [] x all = (All-nil P, All-head P x [] all)
all_parts P (y ∷ xs) x all =
    let rest = all_parts P xs x (All-tail P y (xs ++ x ∷ []) all) in
    (All-cons P y xs (All-head P y (xs ++ x ∷ []) all) rest.0, rest.1)

pub no_items : {A : Type 0} (xs : List A) (n : ℕ) (b : Bool) → length xs ≡ n → b ≡ (n == 0) → b ≡ true → xs ≡ []
no_items xs n b len is holds =
    let e : (n == 0) ≡ true = sym is ∙ holds in
    let none : n ≡ 0 = grind (arith, nat_tests) in
    nil_from_length xs (len ∙ none)

plus_nothing : (n : ℕ) → n ≡ n + 0
plus_nothing n = omega (arith)

-- a desk that gets nothing stays
nothing_added : (a : Addition) (d : Holdings) → a.records.items ≡ [] → a.archives.items ≡ [] → d ≡ with_addition a d
unfolding with_archives
nothing_added a d no_records no_archives = rw (no_records, no_archives) (λ i. record d {
  records = sym (append-nil d.records) i;
  charge = plus_nothing d.charge i;
})

module _ (additions rest : List Addition) (a : Addition) (desks others : List Holdings) (d : Holdings) (are : additions ≡ rest ++ a ∷ [])
    (all : desks ≡ others ++ d ∷ []) (each : length additions ≡ length desks) where
  pub as_many : length rest ≡ length others
  as_many =
      let left = ap (λ (xs : List Addition). length xs) are ∙ length-append rest (a ∷ []) in
      let right = ap (λ (ds : List Holdings). length ds) all ∙ length-append others (d ∷ []) in
      omega (arith, left, right, each)

  pairs : zip additions desks ≡ zip rest others ++ (a, d) ∷ []
  pairs = (λ i. zip (are i) (all i)) ∙ zip_last rest others a d as_many

  pub may_others : All (λ p. MayAdd p.0 p.1) (zip additions desks) → All (λ p. MayAdd p.0 p.1) (zip rest others) × MayAdd a d
  may_others may =
      all_parts (λ p. MayAdd p.0 p.1) (zip rest others) (a, d) (subst (All (λ p. MayAdd p.0 p.1)) pairs may)

  pub others_may : All (λ p. MayAdd p.0 p.1) (zip additions desks) → (length rest ≡ length others) × All (λ p. MayAdd p.0 p.1) (zip rest others)
  others_may may = (as_many, (may_others may).0)

  pub all_added : (now : Holdings) (new : List Holdings) → now ≡ with_addition a d → new ≡ map (λ p. with_addition p.0 p.1) (zip rest others)
      → new ++ now ∷ [] ≡ map (λ p. with_addition p.0 p.1) (zip additions desks)
  all_added now new own is =
      (λ i. is i ++ own i ∷ []) ∙ sym (ap (map (λ p. with_addition p.0 p.1)) pairs ∙ map-append (λ p. with_addition p.0 p.1) (zip rest others) ((a, d) ∷ []))

  -- where the last desk gets nothing
  pub last_stays : (result : Result (Unit {0}) Refusal) (new : List Holdings) → a.records.items ≡ [] → a.archives.items ≡ []
      → MatchResult result (λ _. new ≡ map (λ p. with_addition p.0 p.1) (zip rest others)) (λ e. (e ≡ Memory) × (new ≡ others))
      → MatchResult result (λ _. new ++ d ∷ [] ≡ map (λ p. with_addition p.0 p.1) (zip additions desks)) (λ e. (e ≡ Memory) × (new ++ d ∷ [] ≡ desks))
  last_stays (Ok done) new no_records no_archives is = all_added d new (nothing_added a d no_records no_archives) is
  last_stays (Err why) new no_records no_archives is = (is.0, ap (λ (ds : List Holdings). ds ++ d ∷ []) is.1 ∙ sym all)
