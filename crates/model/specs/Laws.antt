-- The laws that the definitions keep.
use Rattle.std.specs.Prelude.{◌≡◌, ℕ, zero, suc, ◌≤◌, Bool, true, false, List, [], ◌∷◌, ◌++◌, map, take, slice_get, All, Contains, Some, None, Ok}
use Rattle.model.specs.Archives.{Tree}
use Rattle.model.specs.Occurrences.{among}
use Rattle.model.specs.Substitutions.{Images, image_of, keys_of, put_text, put, is_true_put}
use Rattle.model.specs.Settling.{settled, settling_texts}
use Rattle.model.specs.Derivations.{Derivation, is_derivation}
use Rattle.model.specs.DerivationTexts.{derivation_of_text}
use Rattle.model.specs.Classes.{Admission, Known, known_at, derivation_path, admission_of, has_all, admit}
use Rattle.model.specs.Reach.{leads_by}
use Rattle.model.specs.Worlds.{Setup, Source, Desk, World, nothing, known_of}
use Rattle.model.specs.Events.{AddDerivation, is_query, Event}
use Rattle.model.specs.Replies.{is_failure}
use Rattle.model.specs.Outcomes.{trusts}
use Rattle.model.specs.Steps.{reply_to, after, world_after, replies}
use Rattle.model.specs.HashedTexts.{hashed}
use Rattle.model.specs.Striking.{strike}
use Rattle.model.specs.Timed.{near, kept_from, strike_timed, trusts_after, AgreesOn}

-- what is related to a member is related to all that the member is related to
abbrev pub IsTransitive : {X : Type 0} → List X → (X → X → Bool) → Type 0
IsTransitive {X} members relation = (x y z : X) → Contains members y → relation x y ≡ true → relation y z ≡ true → relation x z ≡ true

-- a relation is the least that holds the links and is transitive by way of the members; where each thing is linked to itself, it is reflexive
pub record IsLeast {X : Type 0} (link : X → X → Bool) (members : List X) (relation : X → X → Bool) : Type 0 where
  pub holds : (x y : X) → link x y ≡ true → relation x y ≡ true
  pub reflexive : ((x : X) → link x x ≡ true) → (x : X) → relation x x ≡ true
  pub transitive : IsTransitive members relation
  pub least : (other : X → X → Bool) → ((x y : X) → link x y ≡ true → other x y ≡ true) → IsTransitive members other
      → (x y : X) → relation x y ≡ true → other x y ≡ true

abbrev pub ReachIsLeast : Type 0 → Type 0
ReachIsLeast X = (link : X → X → Bool) (members : List X) → IsLeast link members (leads_by link members)

-- two lists are one set
abbrev pub AreOneSet : List (List ℕ) → List (List ℕ) → Type 0
AreOneSet some others = (x : List ℕ) → among some x ≡ among others x

-- what a tree is settled to, and what is hashed for that, depends on which candidates there are, and not on their order or on how often one is listed
abbrev pub SettlingIsBySet : Type 0
SettlingIsBySet = (tree : Tree) (self_part : List ℕ) (some others : List (List ℕ)) (name : List ℕ) → AreOneSet some others
    → (settled tree self_part some name ≡ settled tree self_part others name)
    × (settling_texts tree self_part some name ≡ settling_texts tree self_part others name)

-- two lists of images are one map
pub record AreOneMap (some others : Images) : Type 0 where
  pub keys : AreOneSet (keys_of some) (keys_of others)
  pub images : (key : List ℕ) → image_of some key ≡ image_of others key

-- what they put is the same, and whether they put it truly
pub record PutTheSame (some others : Images) : Type 0 where
  pub text : (text : List ℕ) → put_text some text ≡ put_text others text
  pub tree : (tree : Tree) → put some tree ≡ put others tree
  pub is_true : (tree : Tree) → is_true_put some tree ≡ is_true_put others tree

abbrev pub PuttingIsByMap : Type 0
PuttingIsByMap = (some others : Images) → AreOneMap some others → PutTheSame some others

-- a user's replies to all events are those to the events that can reach him
abbrev pub IsIsolated : Type 0
IsIsolated = (setup : Setup) (events : List Event) (u : List ℕ) → replies setup u events ≡ replies setup u (strike setup u events)

-- where only the events are run that can reach a user, each text that is hashed is hashed where all are run, too
abbrev pub StrikingHashesNoMore : Type 0
StrikingHashesNoMore = (setup : Setup) (events : List Event) (u : List ℕ) → All (Contains (hashed setup nothing events)) (hashed setup nothing (strike setup u events))

-- after the first of some events, those who are near then have the same desks as after those of the first that are kept, but that goals may wait
pub record AgreesAfter (setup : Setup) (u : List ℕ) (first later : List Event) : Type 0 where
  pub kept : List Event
  pub cut : strike_timed setup u (first ++ later) ≡ kept ++ kept_from setup u (world_after setup nothing first) later
  pub agrees : AgreesOn (near setup u (world_after setup nothing first) later) (world_after setup nothing first) (world_after setup nothing kept)

-- a user's replies to all events are those to the events that can reach him by trust held at the times concerned
pub record IsTimed (setup : Setup) (u : List ℕ) : Type 0 where
  pub replies : (events : List Event) → replies setup u events ≡ replies setup u (strike_timed setup u events)
  pub desks : (first later : List Event) → AgreesAfter setup u first later

abbrev pub IsTimelyIsolated : Type 0
IsTimelyIsolated = (setup : Setup) (u : List ℕ) → IsTimed setup u

-- whom users trust after an event follows from the event, and from whom they trusted before
abbrev pub TrustFollows : Type 0
TrustFollows = (setup : Setup) (w : World) (e : Event) (x y : List ℕ) → trusts (after setup w e) x y ≡ trusts_after setup e (trusts w) x y

-- private desks never refuse for memory, for a clash of digests, or because the store is stopped
abbrev pub NeverFails : Type 0
NeverFails = (setup : Setup) (w : World) (e : Event) → is_failure (reply_to setup w e) ≡ false

-- a query leaves the desks of all as they are
abbrev pub QueriesChangeNothing : Type 0
QueriesChangeNothing = (setup : Setup) (w : World) (e : Event) → is_query e.request ≡ true → after setup w e ≡ w

-- the desk that a user has after events, from empty desks on
abbrev pub desk_reached : Setup → List Event → List ℕ → Desk
desk_reached setup events u = world_after setup nothing events u

-- a user adds a derivation
abbrev pub adding : List ℕ → List ℕ → Event
adding u text = record { actor = u; request = AddDerivation text }

-- what the desk of a user knows at a place was admitted by an event of his, by which he added a derivation that was new: it is what
-- the definition says of that derivation over what the desk knew before, which was the derivations before that place and the first of the sources
pub record IsAdmitted (setup : Setup) (events : List Event) (u : List ℕ) (i : ℕ) (a : Admission) : Type 0 where
  pub before : List Event
  pub text : List ℕ
  pub later : List Event
  pub cut : events ≡ before ++ adding u text ∷ later
  pub derivation : Derivation
  pub read : derivation_of_text text ≡ Some derivation
  pub new : known_at (known_of (desk_reached setup before u)) (derivation_path derivation) ≡ None
  pub admitted : admit (known_of (desk_reached setup before u)) derivation ≡ Ok a
  pub derivations : (desk_reached setup before u).derivations ≡ take i (desk_reached setup events u).derivations
  pub added : List Source
  pub sources : (desk_reached setup events u).sources ≡ (desk_reached setup before u).sources ++ added

-- all that the desk of a user knows of derivations was admitted, one after another
abbrev pub KnowledgeIsAdmitted : Type 0
KnowledgeIsAdmitted = (setup : Setup) (events : List Event) (u : List ℕ) (i : ℕ) (a : Admission)
    → slice_get (desk_reached setup events u).derivations i ≡ Some a → IsAdmitted setup events u i a

-- what is to be known of the derivation in the file at a path, by recursion over those in the files at the paths of its inputs, to a depth
unfoldable pub admission_by : (List ℕ → Derivation) → ℕ → List ℕ → Admission
admission_by file zero path = record { derivation = file path; path = path; class = record { path = []; rank = 0 }; masked = [] }
admission_by file (suc depth) path =
    admission_of (record { derivations = map (admission_by file depth) (file path).inputs; sources = (file path).sources }) (file path)

-- what is known of the derivation in the file at a path: its inputs and its sources are known too, and the recursion gives this to any depth from its rank on
pub record IsByRecursion (known : Known) (file : List ℕ → Derivation) (path : List ℕ) (a : Admission) : Type 0 where
  pub sound : is_derivation (file path) ≡ true
  pub own_path : derivation_path (file path) ≡ path
  pub complete : has_all known (file path) ≡ true
  pub same : (depth : ℕ) → a.class.rank ≤ depth → admission_by file depth path ≡ a

-- there is a derivation in a file at each path that the desk of a user knows, and what it knows of it is what the recursion over these files gives
abbrev pub KnowledgeIsRecursive : Type 0
KnowledgeIsRecursive = (setup : Setup) (events : List Event) (u : List ℕ)
    → let known = known_of (desk_reached setup events u) in
    (file : List ℕ → Derivation) × ((path : List ℕ) (a : Admission) → known_at known path ≡ Some a → IsByRecursion known file path a)
