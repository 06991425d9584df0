-- Each step keeps the rule of what is published.
use Rattle.std.proofs.Common.{◌≡◌, ◌≢◌, ℕ, List, [], ◌∷◌, ◌++◌, set, Bool, true, false, true≢false, refl, sym, ap, ◌∙◌, subst, ⊎_elim, fold}
use mathlib.Core.Option.{some}
use lib.ListN.{get_elem?}
use Rattle.crossbeam_utils.specs.Register.{Admits, TurnsAt, Forks, Merges}
use Rattle.atomic_table.proofs.Lists.{at_set, at_snoc}
use Rattle.publishing.specs.declared.law.FrontName.{FrontName}
use Rattle.publishing.specs.declared.law.Shown.{Shown}
use Rattle.publishing.specs.declared.law.KnownName.{KnownName}
use Rattle.std.specs.Prelude.{MatchBool}
use Rattle.std.proofs.lemmas.List.Sums.{fold-append}
use Rattle.history.specs.Histories.{IsLegal}
use Rattle.publishing.specs.declared.snapshot.Operation.{Operation}
use Rattle.publishing.specs.declared.snapshot.Operation.TheVariants.{Wait}
use Rattle.publishing.specs.FrontNames.{setup_in}
use Rattle.publishing.specs.Tied.{knower, stranger, absorbed, IsQuiet, Tied, Sees}

abbrev Fits : FrontName → KnownName → Type 0
Fits n v = v.knows ≡ true → v.name ≡ n

fits_set : (n : FrontName) (views : List KnownName) (seat : ℕ) (w : KnownName) → ((j : ℕ) (u : KnownName) → get_elem? views j ≡ some u → Fits n u)
    → Fits n w → (j : ℕ) (u : KnownName)
    → get_elem? (set views seat w) j ≡ some u → Fits n u
fits_set n views seat w others mine j u e =
    ⊎_elim
    (λ (x : (j ≡ seat) × (w ≡ u)). subst (Fits n) x.1 mine)
    (λ (x : (j ≢ seat) × (get_elem? views j ≡ some u)). others j u x.1)
    (at_set views seat j w u e)

fits_snoc : (n : FrontName) (views : List KnownName) (w : KnownName) → ((j : ℕ) (u : KnownName) → get_elem? views j ≡ some u → Fits n u) → Fits n w
    → (j : ℕ) (u : KnownName)
    → get_elem? (views ++ w ∷ []) j ≡ some u → Fits n u
fits_snoc n views w others mine j u e = ⊎_elim (λ was. others j u was) (λ (same : w ≡ u). subst (Fits n) same mine) (at_snoc views w u j e)

estranged : (n : FrontName) → Fits n stranger
estranged n k = absurd (true≢false (sym k))

knower_is : (v : KnownName) (n : FrontName) → v.knows ≡ true → v.name ≡ n → knower n ≡ v
knower_is v n k e i = record { knows = sym k i; name = sym e i }

pub turns : (seat : ℕ) (v : KnownName) (x y : Shown) → (IsLegal (setup_in x.name) x.seen → IsLegal (setup_in y.name) y.seen) → y.name ≡ x.name
    → TurnsAt Tied seat v x y Sees
turns seat v x y legal name views h at = (
  knower y.name,
  (legal h.0, fits_set y.name views seat (knower y.name) (λ j u e k. h.1 j u e k ∙ sym name) (λ _. refl)),
  (legal h.0, refl, λ k. knower_is v y.name k (h.1 seat v at k ∙ sym name)),
)

-- nothing that is shown changes
pub turns_still : (seat : ℕ) (v : KnownName) (x y : Shown) → y ≡ x → TurnsAt Tied seat v x y Sees
turns_still seat v x y same =
    turns seat v x y (λ h. subst (λ (t : Shown). IsLegal (setup_in t.name) t.seen) (sym same) h) (ap (λ (t : Shown). t.name) same)

pub admits : Admits Tied stranger
admits x views h = (h.0, fits_snoc x.name views stranger h.1 (estranged x.name))

pub forks : (seat : ℕ) (v : KnownName) → Forks Tied seat v v v
forks seat v x views h at =
    let mine = h.1 seat v at in
    (h.0, fits_snoc x.name (set views seat v) v (fits_set x.name views seat v h.1 mine) mine)

pub merges : (seat : ℕ) (v : KnownName) (other : ℕ) (w : KnownName) → Merges Tied seat v other w w stranger
merges seat v other w x views h at apart there =
    let theirs : Fits x.name w =
    ⊎_elim (λ (t : (other ≡ seat) × (w ≡ w)). absurd (apart t.0)) (λ (t : (other ≢ seat) × (get_elem? views other ≡ some w)). h.1 other w t.1)
    (at_set views seat other w w there) in
    (h.0, fits_set x.name (set views seat w) other stranger (fits_set x.name views seat w h.1 theirs) (estranged x.name))

-- ---- what is pending

-- what comes behind what shows nothing
behind_quiet : (x : Shown) (pending : List Operation) (o : Operation) → IsQuiet x pending → fold absorbed x (pending ++ o ∷ []) ≡ absorbed x o
behind_quiet x pending o quiet = fold-append absorbed x pending (o ∷ []) ∙ ap (λ (t : Shown). absorbed t o) quiet

-- what is shown after what was pending and one operation more
pub value_after : (x next : Shown) (pending all : List Operation) (o : Operation) → IsQuiet x pending → all ≡ pending ++ o ∷ [] → next ≡ fold absorbed x all
    → next ≡ absorbed x o
value_after x next pending all o quiet are is = is ∙ (ap (fold absorbed x) are ∙ behind_quiet x pending o quiet)

-- what publishing what was pending and a snapshot comes to
pub is_shown : (x y next s : Shown) (pending all : List Operation) (o : Operation) (b : Bool) (left : List Operation) → y ≡ x → IsQuiet x pending
    → all ≡ pending ++ o ∷ [] → absorbed x o ≡ s
    → MatchBool b ((next ≡ fold absorbed y all) × (left ≡ [])) ((next ≡ y) × (left ≡ all)) → MatchBool b ((next ≡ s) × (left ≡ [])) (next ≡ x)
is_shown x y next s pending all o true left same quiet are shows is =
    (value_after x next pending all o quiet are (is.0 ∙ ap (λ (t : Shown). fold absorbed t all) same) ∙ shows, is.1)
is_shown x y next s pending all o false left same quiet are shows is = is.0 ∙ same

-- and a wait
pub is_settled : (x y next : Shown) (pending all : List Operation) (b : Bool) (left : List Operation) → y ≡ x → IsQuiet x pending
    → all ≡ pending ++ Wait ∷ []
    → MatchBool b ((next ≡ fold absorbed y all) × (left ≡ [])) ((next ≡ y) × (left ≡ all)) → (next ≡ x) × IsQuiet next left
is_settled x y next pending all true left same quiet are is = (
  value_after x next pending all Wait quiet are (is.0 ∙ ap (λ (t : Shown). fold absorbed t all) same),
  ap (fold absorbed next) is.1,
)
is_settled x y next pending all false left same quiet are is =
    let now : next ≡ x = is.0 ∙ same in
    let still : IsQuiet x all = ap (fold absorbed x) are ∙ behind_quiet x pending Wait quiet in
    (now, subst (λ (l : List Operation). IsQuiet next l) (sym is.1) (subst (λ (t : Shown). IsQuiet t all) (sym now) still))

-- ---- what a look sees

-- the name that was seen is the one that was known
pub name_seen : (v w : KnownName) (x s : Shown) → Sees v x x w → v.knows ≡ true → s ≡ x → s.name ≡ v.name
name_seen v w x s sees knows same = ap (λ (t : Shown). t.name) same ∙ (ap (λ (u : KnownName). u.name) (sym sees.1) ∙ ap (λ (u : KnownName). u.name) (sees.2 knows))
