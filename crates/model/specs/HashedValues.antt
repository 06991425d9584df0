-- What texts are hashed for. A content and the fingerprint of its digest name a path. No text is listed too many: each is one of two
-- that name a path which the event gives, or is refused with. None is listed too few: what an event brings is named by listed ones.
use Rattle.std.specs.Prelude.{◌≡◌, ◌⊎◌, ℕ, Bool, true, false, is_ok, is_some, List, [], ◌∷◌, ◌++◌, map, flat_map, All, Contains, Option, Some, None, Result, Ok, Err}
use Rattle.std.specs.List.{list_any}
use Rattle.sha2.specs.Sha256.{sha256}
use Rattle.model.specs.declared.refusal.RewriteFault.TheVariants.{Accidental, Overlap}
use Rattle.model.specs.declared.refusal.Refusal.{Refusal}
use Rattle.model.specs.declared.refusal.Refusal.TheVariants.{Quota, MissingInput, RankTooHigh, NotRealised, RewriteRefused}
use Rattle.model.specs.Archives.{Tree, nar}
use Rattle.model.specs.Paths.{Kind, Source as SourceKind, with_fingerprint, store_path, source_path}
use Rattle.model.specs.Occurrences.{among, occurrences, fault}
use Rattle.model.specs.Settling.{Settled, hash_part_in, name_in, sought, settled_path, settled, settling_texts}
use Rattle.model.specs.Derivations.{Derivation, name_of}
use Rattle.model.specs.DerivationTexts.{derivation_of_text}
use Rattle.model.specs.Classes.{Admission, Known, known_at, derivation_path, admit}
use Rattle.model.specs.Worlds.{Setup, is_user, World, Desk, Pin, Source, Label, Record, Entry, OfSource, OfRecord, Job, Resolved, Goal, Status, Planned, Done as DoneWith, Failed, known_of, tree_of_record, held, held_at, path_of_entry}
use Rattle.model.specs.References.{candidates, paths_of_labels}
use Rattle.model.specs.Choices as choices
use Rattle.model.specs.Choices.{closure_plan}
use Rattle.model.specs.Repairs.{Replacement, replacements_of, changes_path, is_replaced_by, new_labels, rewritten, serve, chosen_in}
use Rattle.model.specs.Closures.{closure_entries, served_plan}
use Rattle.model.specs.Outputs.{settled_under}
use Rattle.model.specs.Goals.{goal_at, is_in}
use Rattle.model.specs.Endings.{labels_from}
use Rattle.model.specs.Resolutions.{input_classes, resolve}
use Rattle.model.specs.ArchiveReading.{tree_of_archive}
use Rattle.model.specs.Events.{Request, AddSource, AddDerivation, Offer, Closure, Take, Plan, Finish, Event}
use Rattle.model.specs.Replies as replies
use Rattle.model.specs.Replies.{Reply, Path, Derivation as DerivationReply, Refused}
use Rattle.model.specs.Outcomes.{Observation, observation_of}
use Rattle.model.specs.Steps.{outcome_of, reply_to, after}
use Rattle.model.specs.HashedTexts.{texts_of_event}

-- ---- paths that are made before a refusal is found

-- the path that a tree is to have, where its hash parts can be put anew: whether they are put truly is seen only with that path
pub record IsPathFor (tree : Tree) (self_part : List ℕ) (candidates : List (List ℕ)) (name path : List ℕ) : Type 0 where
  pub possible : fault (among (sought self_part candidates)) tree ≡ None
  pub is : path ≡ settled_path tree self_part candidates name (occurrences (among (sought self_part candidates)) tree)

-- the path of an output that is not put truly (52 `Accidental`), or for which there is no room (13)
pub data IsOutputRefused (under : List ℕ) (labels : List Label) (a : Admission) (tree : Tree) (why : Refusal) (path : List ℕ) : Type 0 where
  OutputNotTrue : why ≡ RewriteRefused Accidental → settled_under under labels a tree ≡ Err Accidental
      → IsPathFor tree (hash_part_in under) (paths_of_labels labels) (name_of a.derivation) path
      → IsOutputRefused under labels a tree why path
  NoRoomForOutput : (s : Settled) → why ≡ Quota → settled_under under labels a tree ≡ Ok s → path ≡ s.path
      → IsOutputRefused under labels a tree why path

-- the path of a file that is not admitted: only with that path is it seen whether the derivation is known already; or the path or the
-- class of a derivation for which there is no room
pub data IsDerivationRefused (known : Known) (text : List ℕ) (why : Refusal) (path : List ℕ) : Type 0 where
  NotAdmitted : (d : Derivation) → derivation_of_text text ≡ Some d → known_at known (derivation_path d) ≡ None
      → admit known d ≡ Err why → path ≡ derivation_path d → IsDerivationRefused known text why path
  NoRoomForDerivation : (d : Derivation) (a : Admission) → why ≡ Quota → derivation_of_text text ≡ Some d
      → known_at known (derivation_path d) ≡ None → admit known d ≡ Ok a → (path ≡ a.path) ⊎ (path ≡ a.class.path) → IsDerivationRefused known text why path

-- the path that a record is to have where it is repaired, since another path stands in the place of one of its labels'
pub record IsRepairPath (serves : List ℕ → Result Record Refusal) (r : Record) (path : List ℕ) : Type 0 where
  pub replacements : List Replacement
  pub relabelling : replacements_of serves r.labels ≡ Ok replacements
  pub replaced : list_any changes_path replacements ≡ true
  pub others : list_any (is_replaced_by r.path) replacements ≡ false
  pub put : Tree
  pub rewriting : rewritten r replacements ≡ Ok put
  pub is : IsPathFor put (hash_part_in r.path) (paths_of_labels (new_labels replacements)) (name_in r.path) path

-- the path of a record of a plan whose closure is refused: those before it are served, and it is refused itself, or one behind it is
pub record IsClosureRefused (view : List Desk) (pins : List Pin) (classes sources : List (List ℕ)) (why : Refusal) (path : List ℕ) : Type 0 where
  pub plan : choices.Plan
  pub planned : closure_plan view pins classes sources ≡ Ok plan
  pub refused : served_plan plan ≡ Err why
  pub before : List Record
  pub repaired : Record
  pub behind : List Record
  pub cut : plan.records ≡ before ++ repaired ∷ behind
  pub served : All (λ r. is_ok (serve (chosen_in plan.records) r.class.path) ≡ true) before
  pub is : IsRepairPath (serve (chosen_in plan.records)) repaired path

-- the path of a repaired entry among those of a closure
pub record IsRepairedEntry (view : List Desk) (pins : List Pin) (classes sources : List (List ℕ)) (entries : List Entry) (path : List ℕ) : Type 0 where
  pub plan : choices.Plan
  pub planned : closure_plan view pins classes sources ≡ Ok plan
  pub repaired : Record
  pub needed : Contains plan.records repaired
  pub is : IsRepairPath (serve (chosen_in plan.records)) repaired path
  pub entry : Contains (map path_of_entry entries) path

-- the path of a repaired entry of a closure for which there is no room, or the closure is refused
pub data IsTakeRefused (view : List Desk) (pins : List Pin) (class : List ℕ) (why : Refusal) (path : List ℕ) : Type 0 where
  TakeRefused : IsClosureRefused view pins (class ∷ []) [] why path → IsTakeRefused view pins class why path
  NoRoomForEntries : (entries : List Entry) → why ≡ Quota → closure_entries view pins (class ∷ []) [] ≡ Ok entries
      → IsRepairedEntry view pins (class ∷ []) [] entries path → IsTakeRefused view pins class why path

-- the path of a repaired entry of a closure, if two hash parts in a derivation's string share bytes (52 `Overlap`); or the closure is refused
pub data IsPlanRefused (view : List Desk) (pins : List Pin) (known : Known) (d : Derivation) (why : Refusal) (path : List ℕ) : Type 0 where
  PlanRefused : IsClosureRefused view pins (input_classes known d) d.sources why path → IsPlanRefused view pins known d why path
  TextRefused : (entries : List Entry) → why ≡ RewriteRefused Overlap → closure_entries view pins (input_classes known d) d.sources ≡ Ok entries
      → IsRepairedEntry view pins (input_classes known d) d.sources entries path → resolve view pins known d ≡ Err why
      → IsPlanRefused view pins known d why path

-- the path of an output for a derivation that is known
pub record IsOfferRefused (d : Desk) (derivation : List ℕ) (tree : Tree) (why : Refusal) (path : List ℕ) : Type 0 where
  pub admission : Admission
  pub known : known_at (known_of d) derivation ≡ Some admission
  pub output : IsOutputRefused admission.class.path (candidates d admission.derivation) admission tree why path

-- the path of an entry for a goal whose derivation is known
pub record IsGoalRefused (s : Observation) (n : ℕ) (why : Refusal) (path : List ℕ) : Type 0 where
  pub goal : Goal
  pub there : goal_at n s.desk.goals ≡ Some goal
  pub admission : Admission
  pub known : known_at (known_of s.desk) goal.derivation ≡ Some admission
  pub plan : IsPlanRefused s.view s.desk.pins (known_of s.desk) admission.derivation why path

-- the refusals of a request that are found only once a path is made, and that path; for every other one nothing is hashed
abbrev pub IsRefusedWith : Observation → Request → Refusal → List ℕ → Type 0
IsRefusedWith s (AddSource name tree) why path = (why ≡ Quota) × (path ≡ source_path tree name)
IsRefusedWith s (AddDerivation text) why path = IsDerivationRefused (known_of s.desk) text why path
IsRefusedWith s (Offer derivation tree) why path = IsOfferRefused s.desk derivation tree why path
IsRefusedWith s (Closure class) why path = IsClosureRefused s.view s.desk.pins (class ∷ []) [] why path
IsRefusedWith s (Take class) why path = IsTakeRefused s.view s.desk.pins class why path
IsRefusedWith s (Plan number) why path = IsGoalRefused s number why path
IsRefusedWith s request why path = ⊥

-- ---- paths that are given

-- the path of a derivation's file, which is told; or its class, where the desk did not know the derivation
pub record IsDerivationTold (known : Known) (reply : Reply) (path : List ℕ) : Type 0 where
  pub file : List ℕ
  pub class : List ℕ
  pub says : reply ≡ DerivationReply file class
  pub is : (path ≡ file) ⊎ ((path ≡ class) × (known_at known file ≡ None))

-- the path of a repaired entry of a closure that is told
pub record IsEntryTold (s : Observation) (class : List ℕ) (reply : Reply) (path : List ℕ) : Type 0 where
  pub entries : List Entry
  pub says : reply ≡ replies.Closure entries
  pub is : IsRepairedEntry s.view s.desk.pins (class ∷ []) [] entries path

-- the path of a repaired entry of a closure that is taken, which the user then holds
pub record IsEntryTaken (s : Observation) (class : List ℕ) (reply : Reply) (later : Desk) (path : List ℕ) : Type 0 where
  pub entries : List Entry
  pub given : closure_entries s.view s.desk.pins (class ∷ []) [] ≡ Ok entries
  pub told : List ℕ
  pub says : reply ≡ Path told
  pub is : IsRepairedEntry s.view s.desk.pins (class ∷ []) [] entries path
  pub held : is_some (held_at path later) ≡ true

-- the path under which a goal is built that is planned, or that of a repaired entry which it keeps
pub record IsKeptPath (s : Observation) (n : ℕ) (reply : Reply) (later : Desk) (path : List ℕ) : Type 0 where
  pub goal : Goal
  pub there : goal_at n s.desk.goals ≡ Some goal
  pub admission : Admission
  pub known : known_at (known_of s.desk) goal.derivation ≡ Some admission
  pub says : reply ≡ replies.Status Planned
  pub planned : Goal
  pub becomes : goal_at n later.goals ≡ Some planned
  pub resolved : Resolved
  pub keeps : planned.resolved ≡ Some resolved
  pub is : (path ≡ resolved.scratch)
      ⊎ IsRepairedEntry s.view s.desk.pins (input_classes (known_of s.desk) admission.derivation) admission.derivation.sources resolved.closure path

-- the paths that are made for a request which is not refused, by its reply and its user's desk after it
abbrev pub IsGivenBy : Observation → Request → Reply → Desk → List ℕ → Type 0
IsGivenBy s (AddSource name tree) reply later path = reply ≡ Path path
IsGivenBy s (AddDerivation text) reply later path = IsDerivationTold (known_of s.desk) reply path
IsGivenBy s (Offer derivation tree) reply later path = reply ≡ Path path
IsGivenBy s (Closure class) reply later path = IsEntryTold s class reply path
IsGivenBy s (Take class) reply later path = IsEntryTaken s class reply later path
IsGivenBy s (Plan number) reply later path = IsKeptPath s number reply later path
IsGivenBy s request reply later path = ⊥

-- ---- values of an event

-- a reply says why nothing came of a request: it is refused, or the goal that it is about has failed
abbrev pub Says : Reply → Refusal → Type 0
Says reply why = (reply ≡ Refused why) ⊎ (reply ≡ replies.Status (Failed why))

-- the path of an output with which a goal has failed
pub record IsGoalFailed (known : Known) (goal : Goal) (bytes : List ℕ) (status : Status) (path : List ℕ) : Type 0 where
  pub why : Refusal
  pub failed : status ≡ Failed why
  pub tree : Tree
  pub read : tree_of_archive bytes ≡ Some tree
  pub admission : Admission
  pub admitted : known_at known goal.derivation ≡ Some admission
  pub resolved : Resolved
  pub kept : goal.resolved ≡ Some resolved
  pub output : IsOutputRefused resolved.scratch (labels_from resolved) admission tree why path

-- a path that an output has or is to have for a goal of a job that ended: the goal is done with it, or has failed with it
pub record IsOutputPath (job : Job) (bytes : List ℕ) (old new : Desk) (path : List ℕ) : Type 0 where
  pub number : ℕ
  pub goal : Goal
  pub there : goal_at number old.goals ≡ Some goal
  pub built : is_in job goal.status ≡ true
  pub ended : Goal
  pub later : goal_at number new.goals ≡ Some ended
  pub status : (ended.status ≡ DoneWith path) ⊎ IsGoalFailed (known_of old) goal bytes ended.status path

-- a value of an event: a path that is given, that an output has or was to have as its job ended, or with which the request is refused
pub data IsValueOf (setup : Setup) (w : World) (e : Event) (path : List ℕ) : Type 0 where
  Given : IsGivenBy (observation_of setup w e.actor) e.request (reply_to setup w e) (after setup w e e.actor) path
      → IsValueOf setup w e path
  Ended : (n : ℕ) (bytes u : List ℕ) → e.request ≡ Finish n bytes
      → IsOutputPath (record { leader = e.actor; number = n }) bytes (w u) (after setup w e u) path → IsValueOf setup w e path
  NotGiven : (why : Refusal) → Says (reply_to setup w e) why → IsRefusedWith (observation_of setup w e.actor) e.request why path
      → IsValueOf setup w e path

-- ---- no text too many

-- a text that is hashed: a content, or the fingerprint of its digest, which are both hashed, and name a value
pub record IsHashedFor (Value : List ℕ → Type 0) (texts : List (List ℕ)) (text : List ℕ) : Type 0 where
  pub kind : Kind
  pub content : List ℕ
  pub name : List ℕ
  pub own : Contains (with_fingerprint kind content name) text
  pub hashed : All (Contains texts) (with_fingerprint kind content name)
  pub value : Value (store_path kind (sha256 content) name)

-- no text is hashed for nothing: each is one of two that name a value of the event
abbrev pub EachTextNamesAValue : Type 0
EachTextNamesAValue = (setup : Setup) (w : World) (e : Event)
    → All (IsHashedFor (IsValueOf setup w e) (texts_of_event setup w e)) (texts_of_event setup w e)

-- the refusals that may be found once a path is made; 51 is one where a class that a record labels is not of a lower rank
abbrev pub comes_after_path : Refusal → Bool
comes_after_path Quota = true
comes_after_path MissingInput = true
comes_after_path RankTooHigh = true
comes_after_path NotRealised = true
comes_after_path (RewriteRefused why) = true
comes_after_path why = false

-- where an event is refused for another reason, nothing is hashed
abbrev pub OtherRefusalsHashNothing : Type 0
OtherRefusalsHashNothing = (setup : Setup) (w : World) (e : Event) (why : Refusal)
    → outcome_of setup w e ≡ Err why → comes_after_path why ≡ false → texts_of_event setup w e ≡ []

-- ---- no text too few

-- what is held of an entry: its tree, with its path
abbrev pub held_of : Entry → Source
held_of (OfSource s) = s
held_of (OfRecord r) = tree_of_record r

-- the trees that a goal is built from
abbrev pub kept_trees : Option Resolved → List Source
kept_trees None = []
kept_trees (Some r) = map held_of r.closure

-- the trees of a desk, with their paths: those that its user holds, and those that his goals keep
abbrev pub trees_on : Desk → List Source
trees_on d = held d ++ flat_map (λ g. kept_trees g.resolved) d.goals

-- the trees that a reply tells with their paths
abbrev pub told_trees : Reply → List Source
told_trees (replies.Closure entries) = map held_of entries
told_trees reply = []

-- a tree with its path, which some desk has
abbrev pub IsOnDesk : World → Source → Type 0
IsOnDesk w s = (u : List ℕ) × Contains (trees_on (w u)) s

-- a tree with its path, which texts were hashed for: a source, or a tree that was settled
pub data IsTreeOf (texts : List (List ℕ)) (s : Source) : Type 0 where
  SourceOf : (name : List ℕ) → s.path ≡ source_path s.tree name → All (Contains texts) (with_fingerprint SourceKind (nar s.tree) name)
      → IsTreeOf texts s
  OutputOf : (tree : Tree) (self_part : List ℕ) (references : List (List ℕ)) (name : List ℕ) (is : Settled)
      → settled tree self_part references name ≡ Ok is → s.path ≡ is.path → s.tree ≡ is.tree
      → All (Contains texts) (settling_texts tree self_part references name) → IsTreeOf texts s

-- a path which texts were hashed for
pub record IsPathOf (texts : List (List ℕ)) (path : List ℕ) : Type 0 where
  pub kind : Kind
  pub content : List ℕ
  pub name : List ℕ
  pub is : path ≡ store_path kind (sha256 content) name
  pub hashed : All (Contains texts) (with_fingerprint kind content name)

-- each tree of a desk was on some desk before, or texts were hashed for it; and they were for the file and the class of each derivation
-- and the path under which each goal is built, if the desk did not have them before
pub record AreNamed (texts : List (List ℕ)) (w : World) (old new : Desk) : Type 0 where
  pub trees : (s : Source) → Contains (trees_on new) s → IsOnDesk w s ⊎ IsTreeOf texts s
  pub derivations : (a : Admission) → Contains new.derivations a
      → Contains old.derivations a ⊎ (IsPathOf texts a.path × IsPathOf texts a.class.path)
  pub scratch : (n : ℕ) (g : Goal) (r : Resolved) → goal_at n new.goals ≡ Some g → g.resolved ≡ Some r
      → ((h : Goal) × (goal_at n old.goals ≡ Some h) × (h.resolved ≡ Some r)) ⊎ IsPathOf texts r.scratch

-- so it is with the desks of all users after an event, and with the trees that the reply tells
pub record IsAllNamed (setup : Setup) (w : World) (e : Event) : Type 0 where
  pub desks : (u : List ℕ) → is_user setup u ≡ true → AreNamed (texts_of_event setup w e) w (w u) (after setup w e u)
  pub told : (s : Source) → Contains (told_trees (reply_to setup w e)) s → IsOnDesk w s ⊎ IsTreeOf (texts_of_event setup w e) s

-- no text is missing: what an event brings is named by texts that are hashed for it
abbrev pub EachNewValueIsNamed : Type 0
EachNewValueIsNamed = (setup : Setup) (w : World) (e : Event) → IsAllNamed setup w e
