-- The trees of a closure: each was on a desk that is seen, or texts of the closure were hashed for it.
use Rattle.std.proofs.Common.{◌≡◌, ℕ, inl, inr, refl, sym, ◌∙◌, subst, List, [], ◌∷◌, Option, Ok}
use Rattle.std.specs.Prelude.{All, Contains, map, bytes_eq}
use Rattle.std.proofs.lemmas.List.Elements.{All-weaker, All-contains_itself}
use Rattle.model.specs.Results.{each}
use Rattle.model.specs.Settling.{hash_part_in, name_in, settling_texts}
use Rattle.model.specs.Worlds.{Source, Record, Desk, Pin, Entry, OfSource, OfRecord, tree_of_record, held}
use Rattle.model.specs.References.{paths_of_labels}
use Rattle.model.specs.Choices.{visible_records, visible_sources, source_before, choose, Plan, source_among, closure_plan}
use Rattle.model.specs.Repairs.{Replacement, replacements_of, new_labels, relabelled, serve, chosen_in, serve_all, relabelling_texts, texts_of_replacements, texts_in_turn}
use Rattle.model.specs.Closures.{entry_before, entries_with, served_entries, served_plan, closure_entries, closure_texts}
use Rattle.model.specs.HashedValues.{held_of, IsTreeOf, OutputOf}
use Rattle.laws.proofs.MemberLemmas.{In, in_of, contains_of, in_left, in_right, in_append, in_map, from_map, from_filter_map, from_flat_map, from_set}
use Rattle.laws.proofs.ServedLemmas.{then_ok, ok_is, some_same, each_parts, each_from, IsRepaired, relabelled_cases, serve_replacements, find_in, chosen_in_one}
use Rattle.laws.proofs.ClosureLemmas.{plan_is, plan_visible}
use Rattle.laws.proofs.HashedClosureLemmas.{plan_one}

-- texts that are all among others
pub all_among : (xs ys : List (List ℕ)) → ((x : List ℕ) → In x xs → In x ys) → All (Contains ys) xs
all_among xs ys there = All-weaker (Contains xs) (Contains ys) (λ x c. contains_of ys x (there x (in_of xs x c))) xs (All-contains_itself xs)

-- where all records of a list are served, the texts of each are hashed
turn_texts : (choice : List ℕ → Option Record) (rs ys : List Record) → each (λ r. serve choice r.class.path) rs ≡ Ok ys
    → (r : Record) → In r rs → (x : List ℕ) → In x (texts_of_replacements r (replacements_of (serve choice) r.labels)) → In x (texts_in_turn choice rs)
unfolding texts_in_turn
turn_texts choice [] ys e r h x there = absurd h
turn_texts choice (z ∷ rs) ys e r h x there =
    let p = each_parts (λ r. serve choice r.class.path) z rs ys e in
    rw p.2
    (elim h [
      | inl same ↦ in_left x (texts_of_replacements z (replacements_of (serve choice) z.labels)) (texts_in_turn choice rs)
          (subst (λ (q : Record). In x (texts_of_replacements q (replacements_of (serve choice) q.labels))) (sym same) there)
      | inr behind ↦ in_right x (texts_of_replacements z (replacements_of (serve choice) z.labels)) (texts_in_turn choice rs) (turn_texts choice rs p.1 p.3 r behind x there)
    ])

-- the texts of a record that is repaired are those of its tree
repaired_texts : (choice : List ℕ → Option Record) (r q : Record) (replacements : List Replacement)
    → replacements_of (serve choice) r.labels ≡ Ok replacements → (is : IsRepaired r replacements q)
    → texts_of_replacements r (replacements_of (serve choice) r.labels) ≡ settling_texts is.put (hash_part_in r.path) (paths_of_labels (new_labels replacements)) (name_in r.path)
unfolding relabelling_texts
repaired_texts choice r q replacements relabelling is = rw (relabelling, is.replaced, is.others, is.rewriting) refl

module _ (view : List Desk) (pins : List Pin) (classes sources : List (List ℕ)) (Q : Source → Type 0)
    (seen : (d : Desk) → In d view → (s : Source) → In s (held d) → Q s)
    (made : (s : Source) → IsTreeOf (closure_texts view pins classes sources) s → Q s) where
  visible_source : (s : Source) → In s (visible_sources view) → Q s
  visible_source s h = let w = from_flat_map (λ (d : Desk). d.sources) s view h in seen w.0 w.1 s (in_left s w.0.sources (map tree_of_record w.0.records) w.2)

  visible_record : (r : Record) → In r (visible_records view) → Q (tree_of_record r)
  visible_record r h =
      let w = from_flat_map (λ (d : Desk). d.records) r view h in
      seen w.0 w.1 (tree_of_record r) (in_right (tree_of_record r) w.0.sources (map tree_of_record w.0.records) (in_map tree_of_record r w.0.records w.2))

  module _ (p : Plan) (planned : closure_plan view pins classes sources ≡ Ok p) where
    plan_source : (s : Source) → In s p.sources → Q s
    plan_source s h =
        let is = plan_is (visible_records view) (visible_sources view) (choose view pins) classes sources p planned in
        let there = from_set source_before s _ (subst (λ (q : Plan). In s q.sources) (sym is) h) in
        let w = from_filter_map (source_among (visible_sources view)) s _ there in
        visible_source s (find_in (λ (z : Source). bytes_eq z.path w.0) (visible_sources view) s w.2).0

    served_record : (served : List Record) → serve_all p.records ≡ Ok served → (q : Record) → In q served → Q (tree_of_record q)
    served_record served all q h =
        let choice : List ℕ → Option Record = chosen_in p.records in
        let w = each_from (λ r. serve choice r.class.path) p.records served all q h in
        let r : Record = w.0 in
        let s = serve_replacements choice r.class.path q w.2 in
        let own : s.chosen ≡ r = some_same s.chosen r (sym s.is_chosen ∙ chosen_in_one p.records (plan_one view pins classes sources p planned) r w.1) in
        let relabelling : replacements_of (serve choice) r.labels ≡ Ok s.replacements = subst (λ (z : Record). replacements_of (serve choice) z.labels ≡ Ok s.replacements) own s.served_replacements in
        elim (relabelled_cases r s.replacements q (subst (λ z. relabelled z s.replacements ≡ Ok q) own s.is_relabelled)) [
          | inl stays ↦ subst (λ z. Q (tree_of_record z)) stays.1 (visible_record r (plan_visible view pins classes sources p planned r w.1))
          | inr is ↦ made (tree_of_record q) (repaired_made r q s.replacements relabelling is served all w.1)
        ]
      where
        repaired_made : (r q : Record) (replacements : List Replacement) → replacements_of (serve (chosen_in p.records)) r.labels ≡ Ok replacements
            → (is : IsRepaired r replacements q)
            → (served : List Record) → serve_all p.records ≡ Ok served → In r p.records → IsTreeOf (closure_texts view pins classes sources) (tree_of_record q)
        repaired_made r q replacements relabelling is served all there =
            let texts : List (List ℕ) = settling_texts is.put (hash_part_in r.path) (paths_of_labels (new_labels replacements)) (name_in r.path) in
            let same = repaired_texts (chosen_in p.records) r q replacements relabelling is in
            OutputOf is.put (hash_part_in r.path) (paths_of_labels (new_labels replacements)) (name_in r.path) is.named is.resettling is.path is.tree
            (rw planned
            (all_among texts (texts_in_turn (chosen_in p.records) p.records)
            (λ x h. turn_texts (chosen_in p.records) p.records served all r there x (subst (In x) (sym same) h))))

  pub closure_trees : (entries : List Entry) → closure_entries view pins classes sources ≡ Ok entries → (e : Entry) → In e entries → Q (held_of e)
  unfolding served_plan
  closure_trees entries given e h =
      let a = then_ok (closure_plan view pins classes sources) served_plan entries given in
      let b = then_ok (serve_all a.0.records) (served_entries a.0.sources) entries a.2 in
      let is : entries_with a.0.sources b.0 ≡ entries = ok_is (entries_with a.0.sources b.0) entries (served_entries a.0.sources b.0) refl b.2 in
      elim (in_append e (map OfRecord b.0) (map OfSource a.0.sources) (from_set entry_before e _ (subst (In e) (sym is) h))) [
        | inl r ↦ let w = from_map OfRecord e b.0 r in subst (λ z. Q (held_of z)) w.2 (served_record a.0 a.1 b.0 b.1 w.0 w.1)
        | inr s ↦ let w = from_map OfSource e a.0.sources s in subst (λ z. Q (held_of z)) w.2 (plan_source a.0 a.1 w.0 w.1)
      ]
