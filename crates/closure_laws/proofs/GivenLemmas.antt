-- The closure that a user is given, where the desks that he sees were made by texts that are hashed: it was made so too, it is whole, and it
-- keeps no path that is replaced.
use Rattle.std.proofs.Common.{◌≡◌, ℕ, true, inl, inr, sym, ap, ◌∙◌, subst, List, Result, Ok}
use Rattle.std.specs.Prelude.{All, Contains, flat_map, map, bytes_eq, is_some}
use Rattle.model.specs.declared.refusal.Refusal.{Refusal}
use Rattle.model.specs.Results.{then_do}
use Rattle.model.specs.Paths.{IsPath, NoClash}
use Rattle.model.specs.Worlds.{Source, Label, Record, Desk, Pin, Entry, OfSource, OfRecord, path_of_entry}
use Rattle.model.specs.References.{paths_of_labels}
use Rattle.model.specs.Choices.{visible_records, visible_sources, sources_below, source_before, choose, Plan, source_among, closure_plan}
use Rattle.model.specs.Repairs.{new_label, chosen_in, serving_texts}
use Rattle.model.specs.Closures.{entry_before, entries_with, served_plan, texts_of_plan, closure_entries, closure_texts, IsWhole, SeesSources, KeepsNoReplaced}
use Rattle.model.proofs.BoolLemmas.{bytes_same}
use Rattle.laws.proofs.MemberLemmas.{In, in_of, contains_of, in_append, in_flat_map, from_map, from_filter_map, from_flat_map, from_set}
use Rattle.laws.proofs.ServedLemmas.{then_ok, relabelled_cases, serve_replacements, chosen_in_list, find_in, find_some}
use Rattle.laws.proofs.ClosureLemmas.{plan_is, plan_visible}
use Rattle.laws.proofs.WholeLemmas.{no_source, closures_whole}
use Rattle.records.proofs.PathOrderLemmas.{labels_are_in_order, once}
use Rattle.records.specs.Sound.{IsSoundRecord, IsSoundPlan}
use Rattle.closure_laws.specs.SoundPlans.{PartsTellApart}
use Rattle.closure_laws.specs.RepairLaws.{paths_of_record, paths_in}
use Rattle.closure_laws.proofs.SoundLemmas.{served_is_sound}
use Rattle.closure_laws.proofs.KeptLemmas.{served_parts, served_for}
use Rattle.closure_laws.proofs.MadeLemmas.{all_from, served_are_made}
use Rattle.closure_laws.proofs.OrderedLemmas.{closures_keep_no_replaced}
use Rattle.closure_laws.proofs.PrintedLemmas.{IsPrinted, made_printed, one_path}
use Rattle.closure_laws.proofs.HeldLemmas.{IsMadePath, IsMadeRecord, IsMadeEntry, IsHeld, source_same}

entry_source : (sources : List Source) (records : List Record) (s : Source) → In (OfSource s) (entries_with sources records) → In s sources
entry_source sources records s h = elim (in_append (OfSource s) (map OfRecord records) (map OfSource sources) (from_set entry_before (OfSource s) _ h)) [
  | inl a ↦ let w = from_map OfRecord (OfSource s) records a in absurd (no_source s w.0 (sym w.2))
  | inr b ↦ let w = from_map OfSource (OfSource s) sources b in subst (λ z. In z sources) (source_same w.0 s w.2) w.1
]

module _ (texts : List (List ℕ)) (view : List Desk) (held : (d : Desk) → In d view → IsHeld texts d) where
  visible_record : (r : Record) → In r (visible_records view) → IsMadeRecord texts r
  visible_record r h = let w = from_flat_map (λ (d : Desk). d.records) r view h in (held w.0 w.1).records r w.2

  visible_source : (s : Source) → In s (visible_sources view) → IsMadePath texts s.path
  visible_source s h = let w = from_flat_map (λ (d : Desk). d.sources) s view h in (held w.0 w.1).sources s w.2

  -- each source that a visible record labels is visible
  pub sees : SeesSources view
  sees r path there below =
      let w = from_flat_map (λ (d : Desk). d.records) r view (in_of (visible_records view) r there) in
      let has = (held w.0 w.1).labelled r w.2 path (in_of (sources_below r) path below) in
      let seen : In has.0 (visible_sources view) = in_flat_map (λ (d : Desk). d.sources) w.0 has.0 view w.1 has.1 in
      let same : bytes_eq has.0.path path ≡ true = ap (bytes_eq has.0.path) (sym has.2) ∙ bytes_same has.0.path in
      let found = find_some (λ (s : Source). bytes_eq s.path path) (visible_sources view) has.0 seen same in
      ap is_some found.1

  module _ (pins : List Pin) (classes sources : List (List ℕ)) (p : Plan) (planned : closure_plan view pins classes sources ≡ Ok p)
      (entries : List Entry) (served : served_plan p ≡ Ok entries) (hashed : All (Contains texts) (serving_texts p.records)) where
    chosen_made : (r : Record) → In r p.records → IsMadeRecord texts r
    chosen_made r h = visible_record r (plan_visible view pins classes sources p planned r h)

    sound : IsSoundPlan p
    sound = all_from IsSoundRecord p.records (λ r h. (chosen_made r h).sound)

    plan_source : (s : Source) → In s p.sources → IsMadePath texts s.path
    plan_source s h =
        let is = plan_is (visible_records view) (visible_sources view) (choose view pins) classes sources p planned in
        let there = from_set source_before s _ (subst (λ (q : Plan). In s q.sources) (sym is) h) in
        let w = from_filter_map (source_among (visible_sources view)) s _ there in
        visible_source s (find_in (λ (z : Source). bytes_eq z.path w.0) (visible_sources view) s w.2).0

    served_path : (q : Record) → In (OfRecord q) entries → IsMadePath texts q.path
    served_path q h =
        let there = contains_of entries (OfRecord q) h in
        let from = served_for p entries (served_parts p entries served) q there in
        let is = served_is_sound p.records sound from.0.class.path q from.2 in
        elim (served_are_made p entries texts sound served hashed (OfRecord q) there) [
          | inl s ↦ absurd (no_source s.0 q (sym s.2))
          | inr rest ↦ elim rest [
            | inl r ↦ subst (IsMadePath texts) (sym r.2) (chosen_made r.0 (in_of p.records r.0 r.1)).path
            | inr s ↦ (is.0, subst (IsPrinted texts) s.2 (made_printed texts s.0 s.1))
          ]
        ]

    source_path : (s : Source) → In (OfSource s) entries → IsMadePath texts s.path
    source_path s h =
        let parts = served_parts p entries served in
        plan_source s (entry_source p.sources parts.all s (subst (In (OfSource s)) (sym parts.are) h))

    entry_path : (e : Entry) → In e entries → IsMadePath texts (path_of_entry e)
    entry_path (OfSource s) h = source_path s h
    entry_path (OfRecord r) h = served_path r h

    -- ---- it is good

    label_path : (r : Record) (l : Label) → In r p.records → In l r.labels → IsMadePath texts l.path
    label_path r l h k = (chosen_made r h).labels l k

    record_path : (e : Entry) → In e entries → (path : List ℕ) → In path (paths_of_record e) → IsMadePath texts path
    record_path (OfSource s) h path k = absurd k
    record_path (OfRecord r) h path k = elim k [ inl same ↦ subst (IsMadePath texts) same (served_path r h) | inr none ↦ absurd none ]

    each_path : (path : List ℕ) → Contains (paths_in p entries) path → IsMadePath texts path
    each_path path h =
        elim (in_append path (flat_map (λ (r : Record). paths_of_labels r.labels) p.records) (flat_map paths_of_record entries) (in_of (paths_in p entries) path h)) [
          | inl a ↦
              let v = from_flat_map (λ (r : Record). paths_of_labels r.labels) path p.records a in
              let w = from_map (λ (l : Label). l.path) path v.0.labels v.2 in
              subst (IsMadePath texts) w.2 (label_path v.0 w.0 v.1 w.1)
          | inr b ↦ let v = from_flat_map paths_of_record path entries b in record_path v.0 v.1 path v.2
        ]

    tell_apart : NoClash texts → PartsTellApart (paths_in p entries)
    tell_apart clean a b h k same =
        let first = each_path a h in
        let second = each_path b k in
        one_path texts clean a b first.0 second.0 first.1 second.1 same

    whole : IsWhole entries
    whole =
        let made : closure_entries view pins classes sources ≡ Ok entries = subst (λ (o : Result Plan Refusal). then_do o served_plan ≡ Ok entries) (sym planned) served in
        closures_whole view pins classes sources entries sees made

    -- where no two texts clash
    pub is_good : NoClash texts → IsWhole entries × KeepsNoReplaced p entries
    is_good clean = (whole, closures_keep_no_replaced view pins classes sources p entries planned sound (tell_apart clean) served)

    -- ---- it was made

    entry_label : (q : Record) → In (OfRecord q) entries → (l : Label) → In l q.labels → IsMadePath texts l.path
    entry_label q h l k =
        let w = whole.labelled (OfRecord q) l (contains_of entries (OfRecord q) h) (contains_of q.labels l k) in
        subst (IsMadePath texts) w.4.0 (entry_path w.1 (in_of entries w.1 (w.0, w.2, w.3)))

    entry_once : (q : Record) → In (OfRecord q) entries → (k l : Label) → Contains q.labels k → Contains q.labels l → k.path ≡ l.path → k ≡ l
    entry_once q h =
        let from = served_for p entries (served_parts p entries served) q (contains_of entries (OfRecord q) h) in
        let s = serve_replacements (chosen_in p.records) from.0.class.path q from.2 in
        let chosen = (chosen_in_list p.records from.0.class.path s.chosen s.is_chosen).0 in
        let Once : List Label → Type 0 = λ labels. (k l : Label) → Contains labels k → Contains labels l → k.path ≡ l.path → k ≡ l in
        elim (relabelled_cases s.chosen s.replacements q s.is_relabelled) [
          | inl stays ↦ subst (λ (z : Record). Once z.labels) stays.1 (chosen_made s.chosen chosen).sound.once
          | inr new ↦ subst Once (sym new.labels) (once _ (labels_are_in_order (map new_label s.replacements)))
        ]

    record_made : (q : Record) → In (OfRecord q) entries → IsMadeRecord texts q
    record_made q h =
        let from = served_for p entries (served_parts p entries served) q (contains_of entries (OfRecord q) h) in
        let is = served_is_sound p.records sound from.0.class.path q from.2 in
        record {
          sound = record {
            tree = is.1;
            path = is.0;
            labels = all_from (λ (l : Label). IsPath l.path) q.labels (λ l k. (entry_label q h l k).0);
            once = entry_once q h;
          };
          path = served_path q h;
          labels = entry_label q h;
        }

    pub entry_made : (e : Entry) → In e entries → IsMadeEntry texts e
    entry_made (OfSource s) h = source_path s h
    entry_made (OfRecord q) h = record_made q h

  -- ---- the closure that is asked for

  module _ (pins : List Pin) (classes sources : List (List ℕ)) (entries : List Entry) (given : closure_entries view pins classes sources ≡ Ok entries)
      (hashed : All (Contains texts) (closure_texts view pins classes sources)) where
    closure_parts : (p : Plan) × (closure_plan view pins classes sources ≡ Ok p) × (served_plan p ≡ Ok entries)
    closure_parts = then_ok (closure_plan view pins classes sources) served_plan entries given

    serving_hashed : (p : Plan) → closure_plan view pins classes sources ≡ Ok p → All (Contains texts) (serving_texts p.records)
    serving_hashed p planned = subst (λ (o : Result Plan Refusal). All (Contains texts) (texts_of_plan o)) planned hashed

    pub closure_whole : IsWhole entries
    closure_whole = closures_whole view pins classes sources entries sees given

    pub closure_entry : (e : Entry) → In e entries → IsMadeEntry texts e
    closure_entry = let w = closure_parts in entry_made pins classes sources w.0 w.1 entries w.2 (serving_hashed w.0 w.1)

    pub closure_good : NoClash texts → (p : Plan) → closure_plan view pins classes sources ≡ Ok p → IsWhole entries × KeepsNoReplaced p entries
    closure_good clean p planned =
        let served : served_plan p ≡ Ok entries = subst (λ (o : Result Plan Refusal). then_do o served_plan ≡ Ok entries) planned given in
        is_good pins classes sources p planned entries served (serving_hashed p planned) clean
