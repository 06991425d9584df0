-- What the texts of a closure are hashed for: a path of an entry, or the closure is refused; and each class asked for has its entry.
use Rattle.std.proofs.Common.{◌≡◌, ℕ, Bool, true, false, inl, inr, refl, sym, ◌∙◌, ap, subst, List, [], ◌∷◌, ◌++◌, Option, Some, Result, Ok, Err}
use Rattle.std.specs.Prelude.{All, map, option_map, is_ok, is_none, nat_lt, bytes_eq}
use Rattle.std.specs.List.{list_any}
use Rattle.std.proofs.lemmas.List.{append_assoc}
use Rattle.std.proofs.lemmas.List.Elements.{All-nil, All-push}
use Rattle.std.proofs.lemmas.Bool.{or_parts}
use Rattle.model.specs.declared.refusal.RewriteFault.{RewriteFault}
use Rattle.model.specs.declared.refusal.Refusal.{Refusal}
use Rattle.model.specs.declared.refusal.Refusal.TheVariants.{NotRealised}
use Rattle.model.specs.Archives.{Tree, bytes_before}
use Rattle.model.specs.Settling.{hash_part_in, name_in, settled}
use Rattle.model.specs.Worlds.{Desk, Pin, Record, Entry, OfSource, OfRecord, path_of_entry}
use Rattle.model.specs.References.{paths_of_labels}
use Rattle.model.specs.Choices.{visible_records, visible_sources, rank_before, choose, is_of, is_of_any, names_class_of, all_chosen, needed_records, Plan, plan_by, closure_plan}
use Rattle.model.specs.Repairs.{Replacement, replacements_of, changes_path, is_replaced_by, new_labels, rewritten, relabelled, serve, chosen_in, serve_all, resettling_texts, relabelling_texts, texts_of_replacements, texts_unless, texts_in_turn}
use Rattle.model.specs.Results.{then_do}
use Rattle.model.specs.Closures.{class_of_entry, is_for, path_for, path_of_class, entries_with, served_entries, served_plan, closure_entries, texts_of_plan, closure_texts}
use Rattle.model.specs.HashedValues.{IsRepairPath, IsClosureRefused, IsRepairedEntry}
use Rattle.model.proofs.BoolLemmas.{either, bytes_same}
use Rattle.laws.proofs.MemberLemmas.{In, in_of, contains_of, in_right, in_map, in_filter_map, any_true, Stands, in_set}
use Rattle.laws.proofs.AllReachedLemmas.{reached_first}
use Rattle.laws.proofs.OrderLemmas.{bytes_apart, first_apart}
use Rattle.laws.proofs.ServedLemmas.{then_ok, ok_is, not_both, some_same, option_cases, serve_class, find_some, chosen_in_class, each_member, relabelled_cases, serve_replacements, OneForEach, chosen_in_one}
use Rattle.laws.proofs.ClosureLemmas.{chosen_among, plan_is, plan_chosen}
use Rattle.laws.proofs.WholeLemmas.{record_there}
use Rattle.laws.proofs.HashedForLemmas.{AreHashedFor, for_none, for_both, for_settling, PathIn, path_in}

-- ---- records that are served in turn

abbrev pub IsServedBy : (List ℕ → Option Record) → Record → Type 0
IsServedBy choice r = is_ok (serve choice r.class.path) ≡ true

-- a record of a list, with those before it, which are served, and those behind it
pub record IsTurn (choice : List ℕ → Option Record) (all : List Record) (path : List ℕ) : Type 0 where
  pub before : List Record
  pub repaired : Record
  pub behind : List Record
  pub cut : all ≡ before ++ repaired ∷ behind
  pub served : All (IsServedBy choice) before
  pub is : IsRepairPath (serve choice) repaired path

module _ (V : List ℕ → Type 0) (choice : List ℕ → Option Record) where
  -- the texts of one record
  repair_values : (r : Record) → ((path : List ℕ) → IsRepairPath (serve choice) r path → V path)
      → AreHashedFor V (texts_of_replacements r (replacements_of (serve choice) r.labels))
  unfolding relabelling_texts
  repair_values r value = by_replacements (replacements_of (serve choice) r.labels) refl
    where
      by_tree : (replacements : List Replacement) → replacements_of (serve choice) r.labels ≡ Ok replacements
          → list_any changes_path replacements ≡ true → list_any (is_replaced_by r.path) replacements ≡ false
          → (o : Result Tree RewriteFault) → rewritten r replacements ≡ o → AreHashedFor V (resettling_texts r replacements o)
      by_tree replacements relabelling t none (Err why) put = for_none V
      by_tree replacements relabelling t none (Ok tree) put =
          for_settling V tree (hash_part_in r.path) (paths_of_labels (new_labels replacements)) (name_in r.path)
          (λ path is. value path (record { replacements = replacements; relabelling = relabelling; replaced = t; others = none; put = tree; rewriting = put; is = is }))

      by_replacements : (o : Result (List Replacement) Refusal) → replacements_of (serve choice) r.labels ≡ o → AreHashedFor V (texts_of_replacements r o)
      by_replacements (Err why) e = for_none V
      by_replacements (Ok replacements) e = elim (either (list_any changes_path replacements)) [
        | inr f ↦ rw f (for_none V)
        | inl t ↦ elim (either (list_any (is_replaced_by r.path) replacements)) [
          | inl own ↦ rw (t, own) (for_none V)
          | inr none ↦ rw (t, none) (by_tree replacements e t none (rewritten r replacements) refl)
        ]
      ]

  for_unless : {X : Type 0} (o : Result X Refusal) (xs : List (List ℕ)) → (is_ok o ≡ true → AreHashedFor V xs) → AreHashedFor V (texts_unless o xs)
  for_unless (Err why) xs all = for_none V
  for_unless (Ok x) xs all = all refl

  -- those of records behind others that are served
  turn_values : (all before rs : List Record) → all ≡ before ++ rs → All (IsServedBy choice) before → ((path : List ℕ) → IsTurn choice all path → V path)
      → AreHashedFor V (texts_in_turn choice rs)
  unfolding texts_in_turn
  turn_values all before [] cut served value = for_none V
  turn_values all before (r ∷ rs) cut served value =
      for_both V (texts_of_replacements r (replacements_of (serve choice) r.labels)) (texts_unless (serve choice r.class.path) (texts_in_turn choice rs))
      (repair_values r (λ path is. value path (record { before = before; repaired = r; behind = rs; cut = cut; served = served; is = is })))
      (for_unless (serve choice r.class.path) (texts_in_turn choice rs)
      (λ ok. turn_values all (before ++ r ∷ []) rs (cut ∙ sym (append_assoc before (r ∷ []) rs)) (All-push (IsServedBy choice) before r served ok) value))

-- ---- closures

-- what is said of a path by a closure that is given, and by one that is refused
abbrev pub ClosureHas : List Desk → List Pin → List (List ℕ) → List (List ℕ) → Result (List Entry) Refusal → List ℕ → Type 0
ClosureHas view pins classes sources (Ok entries) path = IsRepairedEntry view pins classes sources entries path
ClosureHas view pins classes sources (Err why) path = IsClosureRefused view pins classes sources why path

rewritten_once : (x y : Tree) (o : Result Tree RewriteFault) → o ≡ Ok x → o ≡ Ok y → x ≡ y
rewritten_once x y o d e = cc

module _ (view : List Desk) (pins : List Pin) (classes sources : List (List ℕ)) (p : Plan) (planned : closure_plan view pins classes sources ≡ Ok p) where
  abbrev choice : List ℕ → Option Record
  choice = chosen_in p.records

  -- a plan has one record for each class
  pub plan_one : OneForEach p.records
  plan_one q r h k e =
      some_same q r
      (sym (plan_chosen view pins classes sources p planned q h) ∙ ap (choose view pins) e ∙ plan_chosen view pins classes sources p planned r k)

  -- what serves a record that is repaired has the path
  repaired_path : (r q : Record) (path : List ℕ) → In r p.records → IsRepairPath (serve choice) r path → serve choice r.class.path ≡ Ok q → path ≡ q.path
  repaired_path r q path h is e =
      let s = serve_replacements choice r.class.path q e in
      let own : s.chosen ≡ r = some_same s.chosen r (sym s.is_chosen ∙ chosen_in_one p.records plan_one r h) in
      let replacements : s.replacements ≡ is.replacements = ok_is s.replacements is.replacements (replacements_of (serve choice) r.labels)
      (subst (λ (z : Record). replacements_of (serve choice) z.labels ≡ Ok s.replacements) own s.served_replacements) is.relabelling in
      elim (relabelled_cases r is.replacements q (subst (λ m. relabelled r m ≡ Ok q) replacements (subst (λ z. relabelled z s.replacements ≡ Ok q) own s.is_relabelled))) [
        | inl stays ↦ absurd (no (list_any changes_path is.replacements) is.replaced stays.0)
        | inr f ↦
            let put : is.put ≡ f.put = rewritten_once is.put f.put (rewritten r is.replacements) is.rewriting f.rewriting in
            let named : settled is.put (hash_part_in r.path) (paths_of_labels (new_labels is.replacements)) (name_in r.path) ≡ Ok f.named =
            subst (λ t. settled t (hash_part_in r.path) (paths_of_labels (new_labels is.replacements)) (name_in r.path) ≡ Ok f.named) (sym put) f.resettling in
            subst (λ o. PathIn o path) named (path_in is.put (hash_part_in r.path) (paths_of_labels (new_labels is.replacements)) (name_in r.path) path is.is) ∙ sym f.path
      ]
    where
      no : (b : Bool) → b ≡ true → b ≡ false → ⊥
      no b t f = cc

  -- and so it is the path of an entry
  pub served_entry : (r q : Record) (entries : List Entry) → In r p.records → served_plan p ≡ Ok entries → serve choice r.class.path ≡ Ok q
      → (e : Entry) × In e entries × (path_of_entry e ≡ q.path) × (path_of_class (class_of_entry e) ≡ Some q.class.path)
  unfolding served_plan
  served_entry r q entries h all e =
      let w = then_ok (serve_all p.records) (served_entries p.sources) entries all in
      let is : entries_with p.sources w.0 ≡ entries = ok_is (entries_with p.sources w.0) entries (served_entries p.sources w.0) refl w.2 in
      let m = each_member (λ z. serve choice z.class.path) p.records w.0 w.1 r h in
      let same : m.0 ≡ q = ok_is m.0 q (serve choice r.class.path) m.2 e in
      let t = record_there p.sources w.0 q (subst (λ z. In z w.0) same m.1) in
      (t.1, subst (In t.1) is (in_of (entries_with p.sources w.0) t.1 (t.0, t.2, t.3)), t.4.0, t.4.1)

  turn_has : (path : List ℕ) → IsTurn choice p.records path → (o : Result (List Entry) Refusal) → served_plan p ≡ o
      → ClosureHas view pins classes sources o path
  unfolding served_plan
  turn_has path t (Err why) e = record {
    plan = p;
    planned = planned;
    refused = e;
    before = t.before;
    repaired = t.repaired;
    behind = t.behind;
    cut = t.cut;
    served = t.served;
    is = t.is;
  }
  turn_has path t (Ok entries) e =
      let there : In t.repaired p.records = subst (In t.repaired) (sym t.cut) (in_right t.repaired t.before (t.repaired ∷ t.behind) (inl refl)) in
      let w = then_ok (serve_all p.records) (served_entries p.sources) entries e in
      let m = each_member (λ z. serve choice z.class.path) p.records w.0 w.1 t.repaired there in
      let x = served_entry t.repaired m.0 entries there e m.2 in
      record {
        plan = p;
        planned = planned;
        repaired = t.repaired;
        needed = contains_of p.records t.repaired there;
        is = t.is;
        entry = contains_of (map path_of_entry entries) path
            (subst (λ z. In z (map path_of_entry entries)) (x.2 ∙ sym (repaired_path t.repaired m.0 path there t.is m.2)) (in_map path_of_entry x.0 entries x.1));
      }

-- the texts of a closure are hashed for what it says of paths
pub closure_values : (V : List ℕ → Type 0) (view : List Desk) (pins : List Pin) (classes sources : List (List ℕ))
    → ((path : List ℕ) → ClosureHas view pins classes sources (closure_entries view pins classes sources) path → V path)
    → AreHashedFor V (closure_texts view pins classes sources)
closure_values V view pins classes sources value = by (closure_plan view pins classes sources) refl
  where
    by : (o : Result Plan Refusal) → closure_plan view pins classes sources ≡ o → AreHashedFor V (texts_of_plan o)
    by (Err why) e = for_none V
    by (Ok p) e =
        turn_values V (chosen_in p.records) p.records [] p.records refl (All-nil (IsServedBy (chosen_in p.records)))
        (λ path t. value path
        (subst (λ o. ClosureHas view pins classes sources o path) (sym (ap (λ o. then_do o served_plan) e)) (turn_has view pins classes sources p e path t (served_plan p) refl)))

-- ---- classes that are asked for

not_none : (p : List ℕ → Bool) (xs : List (List ℕ)) (x : List ℕ) → list_any p xs ≡ false → In x xs → p x ≡ false
not_none p [] x none h = absurd h
not_none p (z ∷ xs) x none h =
    let w = or_parts (p z) (list_any p xs) none in
    elim h [ inl e ↦ subst (λ v. p v ≡ false) e w.0 | inr r ↦ not_none p xs x w.1 r ]

same_rank : (q r : Record) → Stands rank_before q r → q.class.path ≡ r.class.path
same_rank q r s = elim s [
  | inl e ↦ ap (λ (z : Record). z.class.path) e
  | inr p ↦
      let a = first_apart (λ (x y : Record). nat_lt x.class.rank y.class.rank) (λ x y. bytes_before x.class.path y.class.path) q r p.0 p.1 in
      bytes_apart q.class.path r.class.path a.2 a.3
]

is_chosen : (choice : List ℕ → Option Record) (c : List ℕ) → is_none (choice c) ≡ false → (r : Record) × (choice c ≡ Some r)
is_chosen choice c some = elim (option_cases (choice c)) [ inl none ↦ absurd (cc) | inr w ↦ w ]

entry_for : (e : Entry) (c : List ℕ) → path_of_class (class_of_entry e) ≡ Some c → is_for c e ≡ true
entry_for (OfSource s) c e = absurd (cc)
entry_for (OfRecord r) c e = rw (some_text r.class.path c e) (bytes_same c)
  where
    some_text : (x y : List ℕ) → Some x ≡ Some y → x ≡ y
    some_text x y h = cc

path_found : (entries : List Entry) (e : Entry) (c : List ℕ) → In e entries → is_for c e ≡ true → (path : List ℕ) × (path_for c entries ≡ Some path)
path_found entries e c h t = let w = find_some (is_for c) entries e h t in (path_of_entry w.0, ap (option_map path_of_entry) w.1)

module _ (view : List Desk) (pins : List Pin) (classes sources : List (List ℕ)) where
  -- it has its record in the plan
  asked_in_plan : (p : Plan) → closure_plan view pins classes sources ≡ Ok p → (c : List ℕ) → In c classes → (r : Record) × In r p.records × (r.class.path ≡ c)
  unfolding plan_by
  asked_in_plan p planned c h = elim (either (list_any (λ d. is_none (choose view pins d)) classes)) [
    | inl t ↦ absurd (not_both p NotRealised (Err NotRealised) refl (rw t at planned))
    | inr f ↦
        let w = is_chosen (choose view pins) c (not_none (λ d. is_none (choose view pins d)) classes c f h) in
        let choice = choose view pins in
        let records = visible_records view in
        let of = chosen_among records pins c w.0 w.1 in
        let own : choice w.0.class.path ≡ Some w.0 = subst (λ z. choice z ≡ Some w.0) (sym of.1) w.1 in
        let chosen : In w.0 (all_chosen choice records) = in_filter_map (λ (r : Record). choice r.class.path) w.0 w.0 records of.0 own in
        let asked : is_of_any classes w.0 ≡ true = any_true (λ d. is_of d w.0) classes c h (subst (λ z. bytes_eq z c ≡ true) (sym of.1) (bytes_same c)) in
        let needed = reached_first (is_of_any classes) names_class_of (all_chosen choice records) w.0 chosen asked in
        let t = in_set rank_before w.0 (needed_records records choice classes) needed in
        let is = plan_is records (visible_sources view) choice classes sources p planned in
        let there : In t.0 p.records = subst (λ (q : Plan). In t.0 q.records) is t.1 in
        (t.0, there, sym (same_rank w.0 t.0 t.2) ∙ of.1)
  ]

  -- and its entry in the closure
  pub asked_for : (entries : List Entry) → closure_entries view pins classes sources ≡ Ok entries → (c : List ℕ) → In c classes
      → (path : List ℕ) × (path_for c entries ≡ Some path)
  unfolding served_plan
  asked_for entries e c h =
      let a = then_ok (closure_plan view pins classes sources) served_plan entries e in
      let p : Plan = a.0 in
      let r = asked_in_plan p a.1 c h in
      let w = then_ok (serve_all p.records) (served_entries p.sources) entries a.2 in
      let m = each_member (λ z. serve (chosen_in p.records) z.class.path) p.records w.0 w.1 r.0 r.1 in
      let x = served_entry view pins classes sources p a.1 r.0 m.0 entries r.1 a.2 m.2 in
      let own : m.0.class.path ≡ c = serve_class (chosen_in p.records) (chosen_in_class p.records) r.0.class.path m.0 m.2 ∙ r.2 in
      path_found entries x.0 c x.1 (entry_for x.0 c (x.3 ∙ ap Some own))
