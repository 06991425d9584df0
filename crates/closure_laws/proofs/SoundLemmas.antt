-- What serves a class has a path and a tree.
use Rattle.std.proofs.Common.{◌≡◌, ℕ, zero, suc, ap, sym, ◌∙◌, subst, arith, List, Option, Some, None, Result, Ok}
use Rattle.std.specs.Prelude.{All}
use Rattle.std.proofs.lemmas.List.Elements.{All-contains}
use Rattle.model.specs.declared.refusal.Refusal.{Refusal}
use Rattle.model.specs.Archives.{IsTree}
use Rattle.model.specs.Paths.{IsPath}
use Rattle.model.specs.Classes.{Class}
use Rattle.model.specs.Limits.{greatest_rank}
use Rattle.model.specs.Worlds.{Label, Record}
use Rattle.model.specs.Repairs.{Replacement, replacements_of, relabelled, served, chosen_in}
use Rattle.laws.proofs.MemberLemmas.{in_of, contains_of}
use Rattle.records.specs.Sound.{IsSoundRecord}
use Rattle.closure_laws.specs.SoundPlans.{AreReplacements}
use Rattle.closure_laws.specs.RepairLaws.{ServedIsSound}
use Rattle.laws.proofs.ServedLemmas.{then_ok, ok_is, LeadsTo, replacements_from, replacements_more, served_chosen, served_rank, served_more, chosen_in_list}
use Rattle.closure_laws.proofs.TreeLemmas.{relabelled_sound}

-- ---- replacements by what is served

leads_alike : (serves : List ℕ → Result Record Refusal) (own p q : List ℕ) (class : Option Class) → LeadsTo serves own p class
    → LeadsTo serves own q class → p ≡ q
leads_alike serves own p q None a b = a ∙ sym b
leads_alike serves own p q (Some class) a b =
    let same : a.0 ≡ b.0 = ok_is a.0 b.0 (serves class.path) a.1 b.1 in
    a.2 ∙ ap (λ (z : Record). z.path) same ∙ sym b.2

leads_path : (serves : List ℕ → Result Record Refusal) → ((c : List ℕ) (q : Record) → serves c ≡ Ok q → IsPath q.path)
    → (own p : List ℕ) (class : Option Class) → IsPath own → LeadsTo serves own p class → IsPath p
leads_path serves are own p None is a = subst IsPath (sym a) is
leads_path serves are own p (Some class) is a = subst IsPath (sym a.2) (are class.path a.0 a.1)

-- replacements are so where all that serves has paths
pub are_replacements : (serves : List ℕ → Result Record Refusal) → ((c : List ℕ) (q : Record) → serves c ≡ Ok q → IsPath q.path)
    → (labels : List Label) (replacements : List Replacement) → All (λ l. IsPath l.path) labels → replacements_of serves labels ≡ Ok replacements
    → AreReplacements labels replacements
are_replacements serves are labels replacements paths e = record {
  labelled = λ m h. contains_of labels m.label (replacements_from serves labels replacements e m (in_of replacements m h)).0;
  paths = λ m h.
      let w = replacements_from serves labels replacements e m (in_of replacements m h) in
      let own = All-contains (λ (l : Label). IsPath l.path) labels m.label paths (contains_of labels m.label w.0) in
      leads_path serves are m.label.path m.path m.label.class own w.1;
  alike = λ m n h k same.
      let first = (replacements_from serves labels replacements e m (in_of replacements m h)).1 in
      let second = (replacements_from serves labels replacements e n (in_of replacements n k)).1 in
      leads_alike serves m.label.path m.path n.path m.label.class first
      (subst (λ (l : Label). LeadsTo serves l.path n.path l.class) (sym same) second);
}

-- ---- what is served

sound_to : (records : List Record) → All IsSoundRecord records → (n : ℕ) (class : List ℕ) (q : Record) → served (chosen_in records) n class ≡ Ok q
    → IsPath q.path × IsTree q.tree
sound_to records sound zero class q e = let w = served_chosen (chosen_in records) 0 class q e in absurd (omega (arith, w.2))
sound_to records sound (suc n) class q e =
    let choice = chosen_in records in
    let w = served_chosen choice (suc n) class q e in
    let rank : ℕ = w.0.class.rank in
    let p = then_ok (replacements_of (served choice rank) w.0.labels) (relabelled w.0) q (sym (served_rank choice (suc n) class w.0 w.1 w.2) ∙ e) in
    let more = replacements_more (served choice rank) (served choice n) (λ d s. served_more choice rank n d s (omega (arith, w.2))) w.0.labels p.0 p.1 in
    let is = All-contains IsSoundRecord records w.0 sound (contains_of records w.0 (chosen_in_list records class w.0 w.1).0) in
    let are = are_replacements (served choice n) (λ c s h. (sound_to records sound n c s h).0) w.0.labels p.0 is.labels more in
    relabelled_sound w.0 p.0 q is are p.2

pub served_is_sound : ServedIsSound
served_is_sound records sound class q e = sound_to records sound (suc greatest_rank) class q e
