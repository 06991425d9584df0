-- The entries of a plan are its own, or were made by the texts that are hashed for it.
use Rattle.std.proofs.Common.{◌≡◌, ◌⊎◌, ℕ, inl, inr, refl, ap, sym, subst, List, [], ◌∷◌, Contains, Option, Ok}
use Rattle.std.specs.Prelude.{map, All}
use Rattle.std.proofs.lemmas.List.Elements.{All-nil, All-cons, All-contains}
use Rattle.model.specs.Results.{each}
use Rattle.model.specs.Paths.{IsPath}
use Rattle.model.specs.Settling.{Settled, hash_part_in, name_in, settling_texts}
use Rattle.model.specs.SettledTrees.{IsMade, MadeOutput}
use Rattle.model.specs.Worlds.{Record, OfSource, OfRecord}
use Rattle.model.specs.References.{paths_of_labels}
use Rattle.model.specs.Repairs.{Replacement, replacements_of, new_labels, relabelling_texts, texts_of_replacements, texts_unless, texts_in_turn, serve, chosen_in, serve_all, serving_texts}
use Rattle.model.specs.Closures.{entry_before, entries_with}
use Rattle.laws.proofs.MemberLemmas.{In, in_of, contains_of, in_left, in_right, in_append, from_map, from_set}
use Rattle.closure_laws.specs.RepairLaws.{IsServedEntry, ServedAreMade}
use Rattle.laws.proofs.ServedLemmas.{each_parts, each_from, IsRepaired, relabelled_cases, serve_replacements, chosen_in_list}
use Rattle.closure_laws.proofs.TreeLemmas.{parts_of}
use Rattle.closure_laws.proofs.KeptLemmas.{served_parts, replacements_in}

pub all_from : {X : Type 0} (P : X → Type 0) (xs : List X) → ((x : X) → In x xs → P x) → All P xs
all_from P [] h = All-nil P
all_from P (x ∷ xs) h = All-cons P x xs (h x (inl refl)) (all_from P xs (λ y k. h y (inr k)))

-- ---- texts

-- where all are served, the texts of each are hashed
in_turn : (choice : List ℕ → Option Record) (rs served : List Record) → each (λ r. serve choice r.class.path) rs ≡ Ok served
    → (r : Record) → In r rs → (t : List ℕ) → In t (texts_of_replacements r (replacements_of (serve choice) r.labels)) → In t (texts_in_turn choice rs)
unfolding texts_in_turn
in_turn choice [] served e r h t k = absurd h
in_turn choice (x ∷ xs) served e r h t k =
    let p = each_parts (λ (r : Record). serve choice r.class.path) x xs served e in
    elim h [
      | inl same ↦ in_left t (texts_of_replacements x (replacements_of (serve choice) x.labels)) _
          (subst (λ (z : Record). In t (texts_of_replacements z (replacements_of (serve choice) z.labels))) (sym same) k)
      | inr behind ↦ in_right t (texts_of_replacements x (replacements_of (serve choice) x.labels)) _
          (subst (λ o. In t (texts_unless o (texts_in_turn choice xs))) (sym p.2) (in_turn choice xs p.1 p.3 r behind t k))
    ]

-- those of a repaired record are what its tree is settled by
texts_of_repaired : (r : Record) (replacements : List Replacement) (q : Record) (new : IsRepaired r replacements q)
    → relabelling_texts r replacements ≡ settling_texts new.put (hash_part_in r.path) (paths_of_labels (new_labels replacements)) (name_in r.path)
unfolding relabelling_texts
texts_of_repaired r replacements q new = rw (new.replaced, new.others, new.rewriting) refl

-- ---- entries

pub served_are_made : ServedAreMade
served_are_made p entries texts sound e hashed x has =
    let s = served_parts p entries e in
    let there : In x (entries_with p.sources s.all) = subst (In x) (sym s.are) (in_of entries x has) in
    elim (in_append x (map OfRecord s.all) (map OfSource p.sources) (from_set entry_before x _ there)) [
      | inr b ↦ let w = from_map OfSource x p.sources b in inl (w.0, contains_of p.sources w.0 w.1, sym w.2)
      | inl a ↦ let w = from_map OfRecord x s.all a in subst (IsServedEntry texts p) w.2 (inr (of_record s.all s.each w.0 w.1))
    ]
  where
    of_record : (all : List Record) → serve_all p.records ≡ Ok all → (q : Record) → In q all
        → ((r : Record) × Contains p.records r × (q.path ≡ r.path) × (q.tree ≡ r.tree)) ⊎ ((s : Settled) × IsMade texts s × (s.path ≡ q.path) × (s.tree ≡ q.tree))
    of_record all served q h =
        let r = each_from (λ (r : Record). serve (chosen_in p.records) r.class.path) p.records all served q h in
        let made = serve_replacements (chosen_in p.records) r.0.class.path q r.2 in
        let chosen = (chosen_in_list p.records r.0.class.path made.chosen made.is_chosen).0 in
        elim (relabelled_cases made.chosen made.replacements q made.is_relabelled) [
          | inl same ↦ inl (made.chosen, contains_of p.records made.chosen chosen, ap (λ (z : Record). z.path) (sym same.1), ap (λ (z : Record). z.tree) (sym same.1))
          | inr new ↦
              let sure = replacements_in p sound r.0.class.path q made in
              let parts = parts_of made.chosen made.replacements new.put new.named sure.0 sure.1 new.rewriting in
              let own = hash_part_in made.chosen.path in
              let candidates = paths_of_labels (new_labels made.replacements) in
              let name = name_in made.chosen.path in
              let wanted : All (Contains texts) (settling_texts new.put own candidates name) = all_from (Contains texts) (settling_texts new.put own candidates name) (λ t k.
              let mine : In t (texts_of_replacements made.chosen (replacements_of (serve (chosen_in p.records)) made.chosen.labels)) =
              subst (λ o. In t (texts_of_replacements made.chosen o)) (sym made.served_replacements) (subst (In t) (sym (texts_of_repaired made.chosen made.replacements q new)) k) in
              All-contains (Contains texts) (serving_texts p.records) t hashed
              (contains_of (serving_texts p.records) t (in_turn (chosen_in p.records) p.records all served made.chosen chosen t mine))) in
              inr (new.named, MadeOutput new.put own candidates name parts.is_tree parts.own (all_from IsPath candidates parts.candidates) new.resettling wanted, sym new.path, sym new.tree)
        ]
