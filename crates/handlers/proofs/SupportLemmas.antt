-- What goals that are being built are built from stays on their users' desks.
use Rattle.std.proofs.Common.{◌≡◌, ◌≢◌, ℕ, zero, suc, ◌<◌, inl, inr, List, [], ◌∷◌, ◌++◌, length, sym, ◌∙◌, subst, Some, None}
use Rattle.std.specs.Prelude.{All, slice_set}
use Rattle.std.proofs.lemmas.List.{get_or-set_same, get_or-set_other}
use Rattle.std.proofs.lemmas.List.Elements.{All-nil, All-get_or, All-push, All-set, All-weaker}
use Rattle.std.proofs.lemmas.Option.{slice_get_within, get_or_from_slice_get}
use Rattle.model.specs.Worlds.{Entry, path_of_entry, Job, Building, Resolved, Goal}
use Rattle.model.specs.Closures.{class_of_entry}
use Rattle.model.specs.Goals.{goal_at, new_goal, with_goal_at}
use Rattle.trust.proofs.RowLemmas.{eq_cases}
use Rattle.realise.specs.Holdings.{Holdings}
use Rattle.handlers.specs.Parts.{goals_of}
use Rattle.handlers.specs.Viewing.{bare, desk_at}
use Rattle.handlers.specs.Supported.{IsEntryOn, IsSupported, AreSupportedOn, AreSupported, GainsOnly}

-- ---- what a desk gains

-- a desk with the same sources and records
pub gains_same : (before after : Holdings) → after.known.sources ≡ before.known.sources → after.records ≡ before.records → GainsOnly before after
gains_same before after sources records path None h = rw sources h
gains_same before after sources records path (Some class) h = rw records h

-- the same desk
pub gains_nothing : (d : Holdings) → GainsOnly d d
gains_nothing d path class h = h

-- a desk that is as it was
pub gains_kept : (before after : Holdings) → after ≡ before → GainsOnly before after
gains_kept before after same = subst (GainsOnly before) (sym same) (gains_nothing before)

-- ---- the goals of a user

still_on : (before after : Holdings) → GainsOnly before after → (e : Entry) → IsEntryOn before e → IsEntryOn after e
still_on before after gains e on = gains (path_of_entry e) (class_of_entry e) on

-- what supports goals on a desk does so on one that has gained
pub still_supported : (before after : Holdings) (goals : List Goal) → GainsOnly before after → AreSupportedOn before goals → AreSupportedOn after goals
still_supported before after goals gains supported =
    All-weaker (IsSupported before) (IsSupported after)
    (λ g own job building r resolved.
    All-weaker (IsEntryOn before) (IsEntryOn after) (still_on before after gains) r.closure (own job building r resolved)) goals supported

-- each of them is supported
pub goal_supported : (d : Holdings) (goals : List Goal) (n : ℕ) (g : Goal) → AreSupportedOn d goals → goal_at n goals ≡ Some g → IsSupported d g
goal_supported d goals zero g supported there = absurd (cc)
goal_supported d goals (suc n) g supported there =
    subst (IsSupported d) (get_or_from_slice_get goals n g g there) (All-get_or (IsSupported d) goals n g (slice_get_within goals n g there) supported)

-- a goal that is not being built needs nothing
pub idle_supported : (d : Holdings) (g : Goal) → ((job : Job) → g.status ≢ Building job) → IsSupported d g
idle_supported d g idle job building r resolved = absurd (idle job building)

-- nor does a new one
pub supported_more : (d : Holdings) (goals : List Goal) (path : List ℕ) → AreSupportedOn d goals → AreSupportedOn d (goals ++ new_goal path ∷ [])
supported_more d goals path supported = All-push (IsSupported d) goals (new_goal path) supported (idle_supported d (new_goal path) (λ job is. cc))

-- a goal of a number is another one
pub supported_with : (d : Holdings) (goals : List Goal) (n : ℕ) (g : Goal) → AreSupportedOn d goals → IsSupported d g
    → AreSupportedOn d (with_goal_at n g goals)
supported_with d goals zero g supported own = supported
supported_with d goals (suc n) g supported own = All-set (IsSupported d) goals n g own supported

-- what one is built from is on the desk
pub built_supported : (d : Holdings) (g : Goal) (r : Resolved) → g.resolved ≡ Some r → All (IsEntryOn d) r.closure → IsSupported d g
built_supported d g r resolved there job building q is =
    let same : r ≡ q = (let two : Some r ≡ Some q = sym resolved ∙ is in cc) in subst (λ (x : Resolved). All (IsEntryOn d) x.closure) same there

-- ---- the goals of all users

-- the desk of the user at a place and his goals are others
pub supported_set : (desks : List Holdings) (goals : List (List Goal)) (i : ℕ) (now : Holdings) (changed : List Goal) → i < length desks → i < length goals
    → AreSupported desks goals → AreSupportedOn now changed → AreSupported (slice_set desks i now) (slice_set goals i changed)
supported_set desks goals i now changed below within supported own place = elim (eq_cases place i) [
  | inl same ↦ rw (same.1, get_or-set_same desks i now bare below, get_or-set_same goals i changed [] within) own
  | inr apart ↦ rw (get_or-set_other desks i place now bare apart.1, get_or-set_other goals i place changed [] apart.1) (supported place)
]

-- nobody has goals
pub none_supported : (desks : List Holdings) (goals : List (List Goal)) → ((place : ℕ) → goals_of goals place ≡ []) → AreSupported desks goals
none_supported desks goals none place = rw (none place) (All-nil (IsSupported (desk_at desks place)))
