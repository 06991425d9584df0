-- What is made of an output that is offered, in the terms of the model.
use Rattle.std.proofs.Common.{◌≡◌, ℕ, false, inl, inr, List, [], ◌∷◌, refl, sym, ◌∙◌, ap, rules, Option, None, Some, Result, Ok, Err}
use Rattle.std.specs.Prelude.{All, Contains, OnOk, OnErr, IfOk}
use Rattle.model.specs.declared.refusal.Refusal.{Refusal}
use Rattle.model.specs.declared.refusal.RewriteFault.{RewriteFault}
use Rattle.model.specs.declared.refusal.Refusal.TheVariants.{Clash, UnknownDerivation, RewriteRefused}
use Rattle.model.specs.Archives.{Tree}
use Rattle.model.specs.Derivations.{name_of}
use Rattle.model.specs.Classes.{Admission, known_at}
use Rattle.model.specs.Settling.{Settled, hash_part_in, settling_texts}
use Rattle.model.specs.SettledTrees.{MadeOutput}
use Rattle.model.specs.Worlds.{Source, Label, Record, OfRecord, Setup, known_of}
use Rattle.model.specs.References.{candidates, paths_of_labels}
use Rattle.model.specs.Events.{Offer}
use Rattle.model.specs.Outcomes.{add_entry}
use Rattle.model.specs.Results.{then_do, unless_rewrite_refused}
use Rattle.model.specs.OfferRequests.{output_settled, offer_output, offer, offer_texts}
use Rattle.model.specs.Outputs.{record_for}
use Rattle.model.specs.Replies.{is_clash_refusal, is_refused}
use Rattle.model.specs.Steps.{outcome}
use Rattle.records.specs.Recorded.{Recorded, with_tree}
use Rattle.outputs.specs.Below.{AreCandidates}
use Rattle.events.specs.declared.reply.Reply as Rust
use Rattle.records.specs.declared.desk_entry.DeskEntry.TheVariants as entry
use Rattle.store.specs.Stored.{IsAdded, IsTaken}
use Rattle.records.specs.DeskEntries.{entry_with}
use Rattle.realise.specs.Holdings.{Holdings}
use Rattle.handlers.specs.Stored.{settled_source, output_stored}
use Rattle.handlers.specs.Sound.{desk_of, IsSound, IsHashed, Beside}
use Rattle.handlers.specs.Supported.{GainsOnly}
use Rattle.events.specs.Terms.{reply_of}
use Rattle.handlers.specs.Offering.{AreLabels, IsOutput, IsNotSettled, IsNoOutput}
use Rattle.handlers.specs.Handling.{Fits, IsKept, IsHandledBeside, AddsEntry}
use Rattle.handlers.proofs.DeskLemmas.{known_of-desk_of, records_without}
use Rattle.handlers.proofs.StepLemmas.{offer_at_once}
use Rattle.handlers.proofs.HandlingLemmas.{left, entry_handled}

-- it has its path by texts that were hashed
pub output_hashed : (texts : List (List ℕ)) (beside : Beside) (table : List Source) (d : Holdings) (a : Admission) (tree new : Tree) (r : Recorded)
    (path : List ℕ)
    → IsOutput d a tree r new
    → known_at d.known path ≡ Some a → All (Contains texts) (offer_texts (desk_of beside table d) path tree)
    → IsHashed texts (record { path = r.path; tree = new })
output_hashed texts beside table d a tree new r path output known inside =
    let T : List Label → List (List ℕ) = λ labels. settling_texts tree (hash_part_in a.class.path) (paths_of_labels labels) (name_of a.derivation) in
    let at : known_at (known_of (desk_of beside table d)) path ≡ Some a = ap (λ k. known_at k path) (known_of-desk_of beside table d) ∙ known in
    let here : All (Contains texts) (T (candidates (desk_of beside table d) a.derivation)) = rw at at inside in
    let own : All (Contains texts) (T output.labels) = rw (output.candidates beside table) here in
    record {
      named = output.settled;
      path = sym (ap (λ (q : Record). q.path) output.record_is);
      tree = sym output.tree_is;
      made = MadeOutput tree (hash_part_in a.class.path) (paths_of_labels output.labels) (name_of a.derivation) output.sound output.own output.paths
          output.is own;
    }

-- ---- the outcome

module _ (beside : Beside) (limit : ℕ) (table : List Source) (d : Holdings) (path : List ℕ) (tree : Tree) where
  known_there : (o : Option Admission) → known_at d.known path ≡ o → known_at (known_of (desk_of beside table d)) path ≡ o
  known_there o known = ap (λ k. known_at k path) (known_of-desk_of beside table d) ∙ known

  -- the derivation is not there
  pub unknown_handled : IsSound table limit d → known_at d.known path ≡ None
      → IsHandledBeside beside limit table d (Offer path tree) (Err UnknownDerivation) table d
  unfolding outcome
  unknown_handled sound none =
      left beside limit table d (Offer path tree) (Err UnknownDerivation) sound (λ users observation same own. rw (
        same,
        known_there None none,
      ) refl)
      (offer_at_once (desk_of beside table d) path tree (Err UnknownDerivation) (λ absent. refl)) (λ reply. refl) (search rules) refl (search rules)

  offer_is : (a : Admission) → known_at d.known path ≡ Some a → (setup : Setup)
      → offer setup (desk_of beside table d) path tree ≡ offer_output setup (desk_of beside table d) tree (candidates (desk_of beside table d) a.derivation) a
  offer_is a known setup = rw (known_there (Some a) known) refl

  refused_outcome : (a : Admission) → known_at d.known path ≡ Some a → (setup : Setup) (labels : List Label)
      → labels ≡ candidates (desk_of beside table d) a.derivation → (why : Refusal)
      → unless_rewrite_refused (output_settled labels a tree) ≡ Err why → offer setup (desk_of beside table d) path tree ≡ Err why
  refused_outcome a known setup labels same why refused =
      offer_is a known setup ∙ ap (λ ls. offer_output setup (desk_of beside table d) tree ls a) (sym same)
      ∙ ap (λ o. then_do o (λ s. add_entry setup (desk_of beside table d) (OfRecord (record_for labels a s)))) refused

  own_refusal : (why : Refusal) (o : Result Settled RewriteFault) → unless_rewrite_refused o ≡ Err why → is_clash_refusal why ≡ false
  own_refusal why (Ok s) h = cc
  own_refusal why (Err fault) h = (let is : RewriteRefused fault ≡ why = cc in rw (← is) refl)

  refusal_no_clash : (a : Admission) (why : Refusal) → IsNoOutput d a tree why → is_clash_refusal why ≡ false
  refusal_no_clash a why (inl memory) = rw memory refl
  refusal_no_clash a why (inr r) = own_refusal why (output_settled r.0 a tree) r.2

  refusal_fits : (a : Admission) (why : Refusal) → known_at d.known path ≡ Some a → IsNoOutput d a tree why → (setup : Setup)
      → Fits (offer setup (desk_of beside table d) path tree) (desk_of beside table d) (Err why)
  refusal_fits a why known (inl memory) setup = λ own. (let wrong = rw memory at own in cc)
  refusal_fits a why known (inr r) setup = λ own. refused_outcome a known setup r.0 (r.1 beside table) why r.2

  -- memory was refused, or the output is not settled
  pub refused_handled : (a : Admission) (why : Refusal) → IsSound table limit d → known_at d.known path ≡ Some a → IsNoOutput d a tree why
      → IsHandledBeside beside limit table d (Offer path tree) (Err why) table d
  unfolding outcome
  refused_handled a why sound known refused =
      left beside limit table d (Offer path tree) (Err why) sound (λ users observation same. rw same (refusal_fits a why known
      refused (record { users = users; charge = limit })))
      (offer_at_once (desk_of beside table d) path tree (Err why) (λ absent. (let no = sym (known_there (Some a) known)
      ∙ absent in cc))) (λ reply. refl) (search rules) (refusal_no_clash a why refused) (search rules)

  -- the output is added
  pub offer_handled : (new : List Source) (now : Holdings) (settled : Tree) (a : Admission) (r : Recorded) (result : Result Rust.Reply Refusal)
      → IsSound table limit d → known_at d.known path ≡ Some a
      → IsOutput d a tree r settled → AddsEntry limit table d (entry.Record r) settled result new now
      → IfOk result (λ x. is_refused (reply_of x) ≡ false)
      → OnOk result (IsAdded r.path settled table new) → OnOk result (IsSound new limit now) → OnErr result (IsKept table new d now)
      → GainsOnly d now → (result ≡ Err Clash → IsTaken table r.path settled)
      → IsHandledBeside beside limit table d (Offer path tree) result new now
  unfolding outcome
  offer_handled new now settled a r result sound known output =
      entry_handled beside limit table new d now (Offer path tree) (entry.Record r) settled result sound
      (λ setup observation same. rw same (offer_is a known setup ∙ output_outcome setup))
      (offer_at_once (desk_of beside table d) path tree result (λ absent. (let no = sym (known_there (Some a) known) ∙ absent in cc))) (λ reply. refl)
      (λ setup w u here.
      ap (λ e. output_stored e tree (known_at (known_of e) path)) here ∙ ap (output_stored (desk_of beside table d) tree) (known_there (Some a) known)
      ∙ ap (λ ls. settled_source (output_settled ls a tree)) (sym (output.candidates beside table)) ∙ ap settled_source output.is
      ∙ ap (λ s. s ∷ []) same_source)
      (λ setup w u. refl)
      (λ texts setup w u here inside. output_hashed texts beside table d a tree settled r path output known (rw here at inside))
    where
      same_source : ◌≡◌ {A = Source} (record { path = output.settled.path; tree = output.settled.tree }) (record { path = r.path; tree = settled })
      same_source = λ i. record { path = (sym (ap (λ (q : Record). q.path) output.record_is)) i; tree = (sym output.tree_is) i }

      output_outcome : (setup : Setup)
          → offer_output setup (desk_of beside table d) tree (candidates (desk_of beside table d) a.derivation) a ≡ add_entry setup (desk_of beside
          table d) (entry_with settled (entry.Record r))
      output_outcome setup =
          ap (λ ls. offer_output setup (desk_of beside table d) tree ls a) (sym (output.candidates beside table))
          ∙ ap (λ o. then_do (unless_rewrite_refused o) (λ s. add_entry setup (desk_of beside table d) (OfRecord (record_for output.labels a s)))) output.is
          ∙ ap (λ q. add_entry setup (desk_of beside table d) (OfRecord q)) (sym output.record_is)
          ∙ ap (λ t. add_entry setup (desk_of beside table d) (OfRecord (with_tree t r))) (sym output.tree_is)

-- ---- what it may refer to

-- labels that are the candidates on each desk of this knowledge and these records
pub are_labels : (d : Holdings) (a : Admission) (labels : List Label) → AreCandidates d.known a.derivation d.records labels
    → AreLabels d a.derivation labels
are_labels d a labels are beside table = are (desk_of beside table d) (known_of-desk_of beside table d) (records_without table d.records)

pub no_output : (d : Holdings) (a : Admission) (tree : Tree) (labels : List Label) (why : Refusal) → AreLabels d a.derivation labels
    → IsNotSettled labels a tree why → IsNoOutput d a tree why
no_output d a tree labels why are (inl memory) = inl memory
no_output d a tree labels why are (inr refused) = inr (labels, are, refused)
