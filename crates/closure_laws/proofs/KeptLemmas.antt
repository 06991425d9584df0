-- What is served for a plan keeps no path that is replaced.
use Rattle.std.proofs.Common.{◌≡◌, ℕ, inl, inr, false, refl, ap, sym, ◌∙◌, subst, List, ◌++◌, Contains, Option, Some, None, Result, Ok}
use Rattle.std.specs.Prelude.{bytes_eq, map, flat_map}
use Rattle.std.proofs.lemmas.List.Elements.{All-contains}
use Rattle.model.specs.declared.refusal.Refusal.{Refusal}
use Rattle.model.specs.Classes.{Class}
use Rattle.model.specs.Settling.{IsGone}
use Rattle.model.specs.Worlds.{Label, Record, Entry, OfSource, OfRecord}
use Rattle.model.specs.References.{paths_of_labels}
use Rattle.model.specs.Choices.{Plan}
use Rattle.model.specs.Repairs.{Replacement, replacements_of, serve, chosen_in, serve_all}
use Rattle.model.specs.Closures.{entry_before, entries_with, served_entries, served_plan}
use Rattle.laws.proofs.MemberLemmas.{In, in_of, contains_of, in_left, in_right, in_append, in_map, from_map, in_flat_map, Stands, in_set}
use Rattle.records.proofs.EntryOrderLemmas.{one_entry}
use Rattle.records.specs.Sound.{IsSoundRecord, IsSoundPlan}
use Rattle.closure_laws.specs.SoundPlans.{AreReplacements, PartsTellApart}
use Rattle.closure_laws.specs.RepairLaws.{replaced_paths, paths_of_record, paths_in, PlansKeepNoReplaced}
use Rattle.laws.proofs.ServedLemmas.{then_ok, ok_is, each_member, each_from, LeadsTo, replacements_from, replacements_member, IsServed, serve_replacements, serve_class, chosen_in_list, chosen_in_class}
use Rattle.laws.proofs.WholeLemmas.{record_same, no_source, entry_record}
use Rattle.closure_laws.proofs.SoundLemmas.{are_replacements, served_is_sound}
use Rattle.closure_laws.proofs.GoneLemmas.{replaced_is_gone}

-- ---- the entries of what is served

pub record ServedPlan (p : Plan) (entries : List Entry) : Type 0 where
  pub all : List Record
  pub each : serve_all p.records ≡ Ok all
  pub are : entries_with p.sources all ≡ entries

pub served_parts : (p : Plan) (entries : List Entry) → served_plan p ≡ Ok entries → ServedPlan p entries
unfolding served_plan
served_parts p entries e =
    let a = then_ok (serve_all p.records) (served_entries p.sources) entries e in
    record { all = a.0; each = a.1; are = ok_is (entries_with p.sources a.0) entries _ refl a.2 }

-- and serves the class of a record of the plan
pub served_for : (p : Plan) (entries : List Entry) → ServedPlan p entries → (q : Record) → Contains entries (OfRecord q)
    → (r : Record) × In r p.records × (serve (chosen_in p.records) r.class.path ≡ Ok q)
served_for p entries s q h =
    let there : In (OfRecord q) (entries_with p.sources s.all) = subst (In (OfRecord q)) (sym s.are) (in_of entries (OfRecord q) h) in
    each_from (λ r. serve (chosen_in p.records) r.class.path) p.records s.all s.each q (entry_record p.sources s.all q there)

path_stands : (q : Record) (e : Entry) → Stands entry_before (OfRecord q) e → In q.path (paths_of_record e)
path_stands q (OfRecord r) s = elim s [
  | inl same ↦ inl (ap (λ (z : Record). z.path) (sym (record_same q r same)))
  | inr apart ↦ inl (sym (one_entry (OfRecord q) (OfRecord r) apart.0 apart.1).0)
]
path_stands q (OfSource t) s = elim s [
  | inl same ↦ absurd (no_source t q (sym same))
  | inr apart ↦ absurd (one_entry (OfRecord q) (OfSource t) apart.0 apart.1).1
]

-- the path of what serves a class is among those of the entries
path_of_served : (p : Plan) (entries : List Entry) → ServedPlan p entries → (class : List ℕ) (q : Record) → serve (chosen_in p.records) class ≡ Ok q
    → In q.path (flat_map paths_of_record entries)
path_of_served p entries s class q e =
    let serves = serve (chosen_in p.records) in
    let made = serve_replacements (chosen_in p.records) class q e in
    let r = chosen_in_list p.records class made.chosen made.is_chosen in
    let y = each_member (λ (r : Record). serves r.class.path) p.records s.all s.each made.chosen r.0 in
    let same : y.0 ≡ q = ok_is y.0 q (serves class) (subst (λ c. serves c ≡ Ok y.0) r.1 y.2) e in
    let all = map OfRecord s.all ++ map OfSource p.sources in
    let listed : In (OfRecord q) all = in_left (OfRecord q) (map OfRecord s.all) (map OfSource p.sources) (in_map OfRecord q s.all (subst (λ z. In z s.all) same y.1)) in
    let w = in_set entry_before (OfRecord q) all listed in
    in_flat_map paths_of_record w.0 q.path entries (subst (In w.0) s.are w.1) (path_stands q w.0 w.2)

-- ---- paths that are told apart

apart_within : (few all : List (List ℕ)) → ((path : List ℕ) → In path few → In path all) → PartsTellApart all → PartsTellApart few
apart_within few all within apart a b h k = apart a b (contains_of all a (within a (in_of few a h))) (contains_of all b (within b (in_of few b k)))

leads_within : (p : Plan) (entries : List Entry) → ServedPlan p entries → (own path : List ℕ) (class : Option Class) → In own (paths_in p entries)
    → LeadsTo (serve (chosen_in p.records)) own path class → In path (paths_in p entries)
leads_within p entries s own path None h leads = subst (λ z. In z (paths_in p entries)) (sym leads) h
leads_within p entries s own path (Some class) h leads =
    let there = path_of_served p entries s class.path leads.0 leads.1 in
    subst (λ z. In z (paths_in p entries)) (sym leads.2)
    (in_right leads.0.path (flat_map (λ (r : Record). paths_of_labels r.labels) p.records) (flat_map paths_of_record entries) there)

label_within : (p : Plan) (entries : List Entry) (r : Record) → In r p.records → (path : List ℕ) → In path (paths_of_labels r.labels)
    → In path (paths_in p entries)
label_within p entries r there path h =
    in_left path (flat_map (λ (r : Record). paths_of_labels r.labels) p.records) (flat_map paths_of_record entries)
    (in_flat_map (λ (r : Record). paths_of_labels r.labels) r path p.records there h)

replaced_within : (p : Plan) (entries : List Entry) → ServedPlan p entries → (r : Record) → In r p.records → (replacements : List Replacement)
    → replacements_of (serve (chosen_in p.records)) r.labels ≡ Ok replacements → (path : List ℕ) → In path (replaced_paths r replacements)
    → In path (paths_in p entries)
replaced_within p entries s r there replacements e path h = elim (in_append path (paths_of_labels r.labels) (map (λ (m : Replacement). m.path) replacements) h) [
  | inl labelled ↦ label_within p entries r there path labelled
  | inr new ↦
      let m = from_map (λ (m : Replacement). m.path) path replacements new in
      let w = replacements_from (serve (chosen_in p.records)) r.labels replacements e m.0 m.1 in
      let own = label_within p entries r there m.0.label.path (in_map (λ (l : Label). l.path) m.0.label r.labels w.0) in
      subst (λ z. In z (paths_in p entries)) m.2 (leads_within p entries s m.0.label.path m.0.path m.0.label.class own w.1)
]

-- ---- plans

-- the replacements of a record of a sound plan
pub replacements_in : (p : Plan) → IsSoundPlan p → (class : List ℕ) (q : Record) (s : IsServed (chosen_in p.records) class q) → IsSoundRecord s.chosen
    × AreReplacements s.chosen.labels s.replacements
replacements_in p sound class q s =
    let there = (chosen_in_list p.records class s.chosen s.is_chosen).0 in
    let is = All-contains IsSoundRecord p.records s.chosen sound (contains_of p.records s.chosen there) in
    (is, are_replacements (serve (chosen_in p.records)) (λ c r e. (served_is_sound p.records sound c r e).0) s.chosen.labels s.replacements is.labels s.served_replacements)

leads_to : (serves : List ℕ → Result Record Refusal) (own path : List ℕ) (labelled : Option Class) (class : Class)
    → labelled ≡ Some class → LeadsTo serves own path labelled → (q : Record) × (serves class.path ≡ Ok q) × (path ≡ q.path)
leads_to serves own path labelled class e leads = subst (LeadsTo serves own path) e leads

-- a label leads to the path of the record that serves its class
leads_lower : (serves : List ℕ → Result Record Refusal) (own path : List ℕ) (labelled : Option Class) (class : Class) (lower : Record)
    → labelled ≡ Some class → LeadsTo serves own path labelled → serves class.path ≡ Ok lower → path ≡ lower.path
leads_lower serves own path labelled class lower e leads is =
    let to = leads_to serves own path labelled class e leads in
    let same : to.0 ≡ lower = ok_is to.0 lower (serves class.path) to.1 is in
    to.2 ∙ ap (λ (z : Record). z.path) same

is_replaced_label : (m : Replacement) (path : List ℕ) (l : Label) → m.path ≡ path → m.label ≡ l → bytes_eq path l.path ≡ false
    → bytes_eq m.path m.label.path ≡ false
is_replaced_label m path l to of e = ap (λ a. bytes_eq a m.label.path) to ∙ ap (λ (z : Label). bytes_eq path z.path) of ∙ e

-- what serves a class that the entry serves
serves_lower : (p : Plan) (entries : List Entry) → ServedPlan p entries → (lower : Record) → Contains entries (OfRecord lower) → (class : List ℕ)
    → lower.class.path ≡ class → serve (chosen_in p.records) class ≡ Ok lower
serves_lower p entries all lower has class e =
    let other = served_for p entries all lower has in
    let of_class : lower.class.path ≡ other.0.class.path = serve_class (chosen_in p.records) (chosen_in_class p.records) other.0.class.path lower other.2 in
    subst (λ c. serve (chosen_in p.records) c ≡ Ok lower) (sym of_class ∙ e) other.2

pub plans_keep_no_replaced : PlansKeepNoReplaced
plans_keep_no_replaced p entries sound ordered apart e chosen by lower l class has_chosen has_by same has_label labelled has_lower lower_class replaced =
    let serves = serve (chosen_in p.records) in
    let all = served_parts p entries e in
    let r = served_for p entries all by has_by in
    let s = serve_replacements (chosen_in p.records) r.0.class.path by r.2 in
    let there = (chosen_in_list p.records r.0.class.path s.chosen s.is_chosen).0 in
    let is : s.chosen ≡ chosen = ordered.once s.chosen chosen there (in_of p.records chosen has_chosen) (ap (λ (z : Class). z.path) (sym s.class) ∙ same) in
    let here : In l s.chosen.labels = subst (λ (z : Record). In l z.labels) (sym is) (in_of chosen.labels l has_label) in
    let m = replacements_member serves s.chosen.labels s.replacements s.served_replacements l here in
    let lower_served = serves_lower p entries all lower has_lower class.path lower_class in
    let path = leads_lower serves l.path m.0.path l.class class lower labelled m.3 lower_served in
    let changed = is_replaced_label m.0 lower.path l path m.2 replaced in
    let sure = replacements_in p sound r.0.class.path by s in
    let within = apart_within (replaced_paths s.chosen s.replacements) (paths_in p entries) (replaced_within p entries all s.chosen there s.replacements s.served_replacements) apart in
    let gone = replaced_is_gone s.chosen s.replacements by sure.0 sure.1 within s.is_relabelled m.0 (contains_of s.replacements m.0 m.1) changed in
    subst (λ (z : Label). IsGone z.path by.path by.tree) m.2 gone
