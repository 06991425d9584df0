-- What one user and his desk come to is a step of the world.
use Rattle.std.proofs.Common.{◌≡◌, ◌≢◌, ℕ, Bool, true, false, inl, inr, List, length, refl, sym, ◌∙◌, ap, subst, rules, Some, None, Result, Ok, Err}
use Rattle.std.specs.Prelude.{All, Contains, OnOk, OnErr, IfOk, IfErr, bytes_eq, slice_get, slice_set, nat_le, if◌then◌else◌}
use Rattle.std.proofs.lemmas.Option.{slice_get_within}
use Rattle.model.specs.Archives.{Tree, IsTree}
use Rattle.model.specs.Classes.{known_at}
use Rattle.model.specs.Settling.{given}
use Rattle.model.specs.SettledTrees.{MadeSource}
use Rattle.model.specs.Worlds.{Source, Setup, Desk, World, is_user, held_at, known_of}
use Rattle.model.specs.Limits.{most_derivation_bytes}
use Rattle.model.specs.Events.{Request, AddSource, AddDerivation, Offer, Fetch, Event}
use Rattle.model.specs.Replies.{Reply, is_refused}
use Rattle.model.specs.Outcomes.{observation_of, Outcome, becomes, reply_of, desk_after, reaches}
use Rattle.model.specs.Steps.{outcome, outcome_of, after}
use Rattle.model.specs.SourceRequests.{source_named, source_texts}
use Rattle.model.specs.declared.refusal.Refusal.{Refusal}
use Rattle.model.specs.declared.refusal.Refusal.TheVariants.{UnknownUser, TooLarge, UnknownDerivation, NotHeld}
use Rattle.model.proofs.BoolLemmas.{either}
use Rattle.events.specs.declared.reply.Reply as Rust
use Rattle.store.specs.Stored.{Extends}
use Rattle.realise.specs.Holdings.{Holdings}
use Rattle.handlers.specs.Sound.{desk_of, IsSound, IsHashed, Beside}
use Rattle.handlers.specs.Parts.{IsStep, desk_among}
use Rattle.events.specs.Terms.{reply_of as told_of}
use Rattle.handlers.specs.Handling.{is_fault, takes_no_memory, NeverLacksMemory, Fits, RefusedAtOnce, ServesAtOnce, IsKept}
use Rattle.laws.proofs.SourceRequestLemmas.{add_source_cases, fetch_cases}
use Rattle.laws.proofs.DerivationRequestLemmas.{add_derivation_cases}
use Rattle.laws.proofs.OfferRequestLemmas.{offer_cases}
use Rattle.trust.proofs.FirstPlaceLemmas.{IsPlace, place_is_among}
use Rattle.handlers.proofs.WorldLemmas.{desk_found, among_changed, same_world}

-- what holds after either result holds
pub either_way : {X E : Type 0} (r : Result X E) (P : Type 0) → OnOk r P → OnErr r P → P
either_way (Ok x) P p q = p
either_way (Err e) P p q = q

pub on_ok_any : {X E : Type 0} (r : Result X E) (P : Type 0) → P → OnOk r P
on_ok_any (Ok x) P p = p
on_ok_any (Err e) P p = search rules

pub on_err_any : {X E : Type 0} (r : Result X E) (P : Type 0) → P → OnErr r P
on_err_any (Ok x) P p = search rules
on_err_any (Err e) P p = p

pub kept_sound : (old new : List Source) (before now : Holdings) (limit : ℕ) → IsSound old limit before → IsKept old new before now
    → IsSound new limit now
kept_sound old new before now limit sound kept = rw (kept.desk, kept.sources) sound

pub kept_later : (old new : List Source) (before now : Holdings) → IsKept old new before now → Extends old new
kept_later old new before now kept path h = rw kept.sources refl

-- ---- the model's step

-- the outcome of a user of the run
outcome_is : (setup : Setup) (w : World) (e : Event) → is_user setup e.actor ≡ true
    → outcome_of setup w e ≡ outcome setup (observation_of setup w e.actor) e.request
outcome_is setup w e known = rw known refl

-- a desk after a change that all receive nothing of
after_becomes : (setup : Setup) (actor : List ℕ) (o : Outcome) (d : Desk) (r : Reply) (x : List ℕ) (reached : Bool) (old : Desk) → o ≡ becomes d r
    → desk_after setup actor o x reached old ≡ (if bytes_eq x actor then d else old)
after_becomes setup actor o d r x reached old e = ap (λ p. desk_after setup actor p x reached old) e

-- where the desk changes, or whom its user trusts
pub step_done : (given now : ℕ → Beside) (setup : Setup) (old new : List Source) (limit : ℕ) (desks : List Holdings) (e : Event) (i : ℕ)
    (before after : Holdings) (reply : Reply)
    → ((k : ℕ) → k ≢ i → now k ≡ given k) → Extends old new → All (IsSound old limit) desks → IsPlace setup.users e.actor i → slice_get desks i ≡ Some before
    → outcome_of setup (desk_among given old setup.users desks) e ≡ becomes (desk_of (now i) new after) reply
    → IsStep setup (desk_among given old setup.users desks) e reply (desk_among now new setup.users (slice_set desks i after))
step_done given now setup old new limit desks e i before after reply others later sound place here o =
    let w : World = desk_among given old setup.users desks in
    record {
      told = sym (ap reply_of o);
      world = same_world
          (λ v. among_changed given now old new limit setup.users desks e.actor i after others later sound place (slice_get_within desks i before here) v
          ∙ sym (after_becomes setup e.actor (outcome_of setup w e) (desk_of (now i) new after) reply v (reaches setup w v e.actor) (w v) o));
    }

pub step_at_once : (setup : Setup) (w : World) (e : Event) (i : ℕ) (result : Result Rust.Reply Refusal) → IsPlace setup.users e.actor i
    → RefusedAtOnce (outcome setup (observation_of setup w e.actor) e.request) result → RefusedAtOnce (outcome_of setup w e) result
step_at_once setup w e i result place at_once why quick o = at_once why quick (sym (outcome_is setup w e (place_is_among setup.users e.actor i place)) ∙ o)

pub step_no_memory : (setup : Setup) (w : World) (e : Event) (i : ℕ) (result : Result Rust.Reply Refusal) → IsPlace setup.users e.actor i
    → NeverLacksMemory e.request (outcome setup (observation_of setup w e.actor) e.request) result → NeverLacksMemory e.request (outcome_of setup w e) result
step_no_memory setup w e i result place no_memory =
    subst (λ o. NeverLacksMemory e.request o result) (sym (outcome_is setup w e (place_is_among setup.users e.actor i place))) no_memory

pub step_unknown : (setup : Setup) (w : World) (e : Event) → is_user setup e.actor ≡ false → outcome_of setup w e ≡ Err UnknownUser
step_unknown setup w e f = rw f refl

-- a refusal leaves the world
pub after_refused : (setup : Setup) (w : World) (e : Event) (why : Refusal) → outcome_of setup w e ≡ Err why → after setup w e ≡ w
after_refused setup w e why o = same_world (λ v. ap (λ p. desk_after setup e.actor p v (reaches setup w v e.actor) (w v)) o)

-- a desk that stands for the same leaves the world too
pub world_kept : (beside : ℕ → Beside) (names : List (List ℕ)) (old new : List Source) (limit : ℕ) (desks : List Holdings) (u : List ℕ) (i : ℕ)
    (before now : Holdings)
    → Extends old new → All (IsSound old limit) desks → IsPlace names u i → slice_get desks i ≡ Some before
    → desk_of (beside i) new now ≡ desk_of (beside i) old before
    → desk_among beside new names (slice_set desks i now) ≡ desk_among beside old names desks
world_kept beside names old new limit desks u i before now later sound place here same = same_world (λ v.
    among_changed beside beside old new limit names desks u i now (λ k other. refl) later sound place (slice_get_within desks i before here) v
    ∙ elim (either (bytes_eq v u)) [
      | inl t ↦
          let is : v ≡ u = Rattle.model.proofs.BoolLemmas.same_bytes v u t in
          rw t (same ∙ sym (desk_found beside old names desks u i before place here) ∙ ap (desk_among beside old names desks) (sym is))
      | inr f ↦ rw f refl
    ])

-- ---- a step by the result of serving it

pub told_result : (given now : ℕ → Beside) (setup : Setup) (old new : List Source) (limit : ℕ) (desks : List Holdings) (e : Event) (i : ℕ)
    (before after : Holdings) (result : Result Rust.Reply Refusal)
    → let w : World = desk_among given old setup.users desks in
    ((k : ℕ) → k ≢ i → now k ≡ given k) → Extends old new → All (IsSound old limit) desks → IsPlace setup.users e.actor i → slice_get desks i ≡ Some before
    → Fits (outcome setup (observation_of setup w e.actor) e.request) (desk_of (now i) new after) result → IfOk result (λ r. is_refused (told_of r) ≡ false)
    → IfOk result
    (λ r. (is_refused (told_of r) ≡ false) × IsStep setup w e (told_of r) (desk_among now new setup.users (slice_set desks i after)))
told_result given now setup old new limit desks e i before after (Ok r) others later sound place here fits answered = (
  answered,
  step_done given now setup old new limit desks e i before after (told_of r) others later sound place here
      (outcome_is setup (desk_among given old setup.users desks) e (place_is_among setup.users e.actor i place) ∙ fits),
)
told_result given now setup old new limit desks e i before after (Err why) others later sound place here fits answered = search rules

pub refused_result : (setup : Setup) (w : World) (e : Event) (i : ℕ) (after : Desk) (result : Result Rust.Reply Refusal)
    → IsPlace setup.users e.actor i → Fits (outcome setup (observation_of setup w e.actor) e.request) after result
    → IfErr result (λ why. is_fault why ≡ false → outcome_of setup w e ≡ Err why)
refused_result setup w e i after (Ok r) place fits = search rules
refused_result setup w e i after (Err why) place fits = λ own. outcome_is setup w e (place_is_among setup.users e.actor i place) ∙ fits own

-- ---- what is hashed

-- a source has its path by texts that were hashed
pub source_hashed : (texts : List (List ℕ)) (name : List ℕ) (tree : Tree) → IsTree tree → All (Contains texts) (source_texts name tree)
    → IsHashed texts (source_named name tree)
source_hashed texts name tree sound inside = record {
  named = given tree name;
  path = refl;
  tree = refl;
  made = MadeSource tree name sound refl inside;
}

-- what is kept stands for the same desk
pub kept_desk : (beside : Beside) (old new : List Source) (before now : Holdings) → IsKept old new before now
    → desk_of beside new now ≡ desk_of beside old before
kept_desk beside old new before now kept = rw (kept.sources, kept.desk) refl

-- ---- requests and refusals that need no memory

-- a request that takes memory, whatever it is answered
abbrev pub TakesMemory : Request → Type 0
TakesMemory request = (reply : Reply) → takes_no_memory request reply ≡ false

pub may_lack : (request : Request) (o : Outcome) (result : Result Rust.Reply Refusal) → TakesMemory request → NeverLacksMemory request o result
may_lack request o result takes free = let no : true ≡ false = sym free ∙ takes (reply_of o) in cc

-- where such a refusal comes, it is the result
abbrev AtOnce : Result Rust.Reply Refusal → Outcome → Type 0
AtOnce result o = RefusedAtOnce o result

pub source_at_once : (d : Desk) (name : List ℕ) (tree : Tree) (result : Result Rust.Reply Refusal) → ServesAtOnce d (AddSource name tree) result
unfolding outcome
source_at_once d name tree result setup observation same =
    rw same (add_source_cases (AtOnce result) setup d name tree (λ why quick o. cc) (λ why quick o. cc) (λ why quick o. cc))

pub derivation_at_once : (d : Desk) (text : List ℕ) (result : Result Rust.Reply Refusal)
    → (nat_le (length text) most_derivation_bytes ≡ false → result ≡ Err TooLarge) → ServesAtOnce d (AddDerivation text) result
unfolding outcome
derivation_at_once d text result long setup observation same =
    rw same (add_derivation_cases (AtOnce result) setup d text
    (record { had = λ a why quick o. cc; added = λ derivation a is why quick o. cc; over = λ why quick o. cc; unread = λ why quick o. cc; missing = λ why quick o. cc; high = λ why quick o. cc })
    (λ large why quick o. let given = long large in cc))

pub offer_at_once : (d : Desk) (path : List ℕ) (tree : Tree) (result : Result Rust.Reply Refusal)
    → (known_at (known_of d) path ≡ None → result ≡ Err UnknownDerivation) → ServesAtOnce d (Offer path tree) result
unfolding outcome
offer_at_once d path tree result none setup observation same =
    rw same (offer_cases (AtOnce result) setup d path tree
    (record { had = λ r why quick o. cc; added = λ r why quick o. cc; over = λ why quick o. cc; refused = λ fault why quick o. cc; unknown = λ absent why quick o. (let given = none absent in cc) }))

pub fetch_at_once : (d : Desk) (path : List ℕ) (result : Result Rust.Reply Refusal) → (held_at path d ≡ None → result ≡ Err NotHeld)
    → ServesAtOnce d (Fetch path) result
unfolding outcome
fetch_at_once d path result none setup observation same =
    rw same (fetch_cases (AtOnce result) d path (λ tree held why quick o. cc) (λ absent why quick o. let given = none absent in cc))
