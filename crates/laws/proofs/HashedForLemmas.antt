-- What the texts are hashed for of which one path is made: a source's, a derivation's, an output's.
use Rattle.std.proofs.Common.{◌≡◌, ℕ, Bool, true, false, ◌⊎◌, inl, inr, refl, sym, ap, subst, List, [], ◌++◌, Option, Some, None, Result, Ok, Err}
use Rattle.std.specs.Prelude.{All, Contains, nat_le, length, bytes_eq, if◌then◌else◌, codes}
use Rattle.std.proofs.lemmas.List.Elements.{All-nil, All-append, All-weaker, All-contains_itself, Contains-append_left, Contains-append_right}
use Rattle.sha2.specs.Sha256.{sha256}
use Rattle.model.specs.declared.refusal.RewriteFault.{RewriteFault}
use Rattle.model.specs.declared.refusal.RewriteFault.TheVariants.{Accidental}
use Rattle.model.specs.declared.refusal.Refusal.{Refusal}
use Rattle.model.specs.declared.refusal.Refusal.TheVariants.{Quota, TooLarge, BadDerivation, UnknownDerivation, RewriteRefused}
use Rattle.model.specs.Archives.{Tree, nar}
use Rattle.model.specs.Paths.{Kind, Source, DerivationFile, OutputClass, with_fingerprint, store_path, source_path}
use Rattle.model.specs.Occurrences.{Place, among, occurrences, fault}
use Rattle.model.specs.Substitutions.{is_true_put}
use Rattle.model.specs.Settling.{Settled, hash_part_in, sought, settled_path, settling, settled, unless_refused, path_texts, settling_texts}
use Rattle.model.specs.Derivations.{Derivation, derivation_text, name_of}
use Rattle.model.specs.DerivationTexts.{derivation_of_text}
use Rattle.model.specs.Classes.{Admission, Known, known_at, file_references, derivation_path, masked_text, class_of, admission_of, admit}
use Rattle.model.specs.Limits.{most_derivation_bytes}
use Rattle.model.specs.Worlds.{Setup, Desk, Label, Record, OfRecord, known_of, with_source, with_record, with_derivation}
use Rattle.model.specs.References.{candidates, paths_of_labels}
use Rattle.model.specs.Results.{then_do, unless_rewrite_refused}
use Rattle.model.specs.Outputs.{settled_under, record_for}
use Rattle.model.specs.Events.{Request, AddSource, AddDerivation, Offer}
use Rattle.model.specs.Replies.{Reply, Path}
use Rattle.model.specs.Outcomes.{Observation, Outcome, becomes, check, need, reply_of, add_entry}
use Rattle.model.specs.SourceRequests.{source_named, add_source, source_texts}
use Rattle.model.specs.DerivationRequests.{told_of_derivation, admitted, admit_new, add_derivation, class_texts, new_texts, file_texts, derivation_texts}
use Rattle.model.specs.OfferRequests.{output_settled, offer_output, offer, output_texts, offer_texts}
use Rattle.model.specs.HashedValues.{IsPathFor, IsOutputRefused, OutputNotTrue, NoRoomForOutput, NotAdmitted, NoRoomForDerivation, IsRefusedWith, IsGivenBy, Says, IsHashedFor}
use Rattle.model.proofs.BoolLemmas.{either, same_bytes}
use Rattle.laws.proofs.OutcomeLemmas.{roomed, entry_added}
use Rattle.laws.proofs.SourceRequestLemmas.{add_source_cases}
use Rattle.laws.proofs.ServedLemmas.{find_in}
use Rattle.laws.proofs.RecursionLemmas.{admit_parts}

-- ---- texts that are hashed for values

-- each of a list is hashed for a value that texts of the list name
abbrev pub AreHashedFor : (List ℕ → Type 0) → List (List ℕ) → Type 0
AreHashedFor V texts = All (IsHashedFor V texts) texts

-- so it is where there are more texts, and more values
for_more : (V W : List ℕ → Type 0) (xs ys : List (List ℕ)) → ((path : List ℕ) → V path → W path) → ((x : List ℕ) → Contains xs x → Contains ys x)
    → (x : List ℕ) → IsHashedFor V xs x → IsHashedFor W ys x
for_more V W xs ys values texts x h = record {
  kind = h.kind;
  content = h.content;
  name = h.name;
  own = h.own;
  hashed = All-weaker (Contains xs) (Contains ys) texts (with_fingerprint h.kind h.content h.name) h.hashed;
  value = values (store_path h.kind (sha256 h.content) h.name) h.value;
}

pub for_values : (V W : List ℕ → Type 0) (xs : List (List ℕ)) → ((path : List ℕ) → V path → W path) → AreHashedFor V xs → AreHashedFor W xs
for_values V W xs values all = All-weaker (IsHashedFor V xs) (IsHashedFor W xs) (for_more V W xs xs values (λ x c. c)) xs all

module _ (V : List ℕ → Type 0) where
  pub for_none : AreHashedFor V []
  for_none = All-nil (IsHashedFor V [])

  pub for_both : (xs ys : List (List ℕ)) → AreHashedFor V xs → AreHashedFor V ys → AreHashedFor V (xs ++ ys)
  for_both xs ys one other =
      All-append (IsHashedFor V (xs ++ ys)) xs ys
      (All-weaker (IsHashedFor V xs) (IsHashedFor V (xs ++ ys)) (for_more V V xs (xs ++ ys) (λ p v. v) (λ x c. Contains-append_left xs ys x c)) xs one)
      (All-weaker (IsHashedFor V ys) (IsHashedFor V (xs ++ ys)) (for_more V V ys (xs ++ ys) (λ p v. v) (λ x c. Contains-append_right xs ys x c)) ys other)

  -- the texts of one path
  pub for_path : (kind : Kind) (content name : List ℕ) → V (store_path kind (sha256 content) name) → AreHashedFor V (with_fingerprint kind content name)
  for_path kind content name value =
      let texts : List (List ℕ) = with_fingerprint kind content name in
      All-weaker (Contains texts) (IsHashedFor V texts)
      (λ x own. record { kind = kind; content = content; name = name; own = own; hashed = All-contains_itself texts; value = value })
      texts (All-contains_itself texts)

  -- of a tree that is settled
  pub for_settling : (tree : Tree) (own : List ℕ) (cs : List (List ℕ)) (name : List ℕ) → ((path : List ℕ) → IsPathFor tree own cs name path → V path)
      → AreHashedFor V (settling_texts tree own cs name)
  unfolding settling_texts settled_path
  for_settling tree own cs name value = by (fault (among (sought own cs)) tree) refl
    where
      places : List Place
      places = occurrences (among (sought own cs)) tree

      by : (why : Option RewriteFault) → fault (among (sought own cs)) tree ≡ why → AreHashedFor V (unless_refused why (path_texts tree own cs name places))
      by None possible = for_path _ _ name (value (settled_path tree own cs name places) (record { possible = possible; is = refl }))
      by (Some why) refused = for_none

-- ---- settling

-- the path that a tree is to have is the one that it has, or it is not put truly
abbrev pub PathIn : Result Settled RewriteFault → List ℕ → Type 0
PathIn (Ok s) path = path ≡ s.path
PathIn (Err why) path = why ≡ Accidental

pub path_in : (tree : Tree) (own : List ℕ) (cs : List (List ℕ)) (name path : List ℕ) → IsPathFor tree own cs name path → PathIn (settled tree own cs name) path
unfolding settled
path_in tree own cs name path h =
    let is : List ℕ = settled_path tree own cs name (occurrences (among (sought own cs)) tree) in
    elim (either (is_true_put (settling own cs is) tree)) [ inl t ↦ rw (h.possible, t) h.is | inr f ↦ rw (h.possible, f) refl ]

-- ---- outcomes

-- what an outcome gives, or is refused with
abbrev pub IsAnswered : Observation → Request → Outcome → List ℕ → Type 0
IsAnswered s request o path =
    ((d : Desk) × (reply : Reply) × (o ≡ becomes d reply) × IsGivenBy s request reply d path)
    ⊎ ((why : Refusal) × Says (reply_of o) why × IsRefusedWith s request why path)

-- nothing is hashed where a check fails
pub for_checked : (V : Outcome → List ℕ → Type 0) (why : Refusal) (b : Bool) (next : Outcome) (xs : List (List ℕ)) → AreHashedFor (V next) xs
    → AreHashedFor (V (check why b next)) (if b then xs else [])
for_checked V why true next xs all = all
for_checked V why false next xs all = for_none (V (Err why))

module _ (setup : Setup) (s : Observation) where
  -- ---- a source

  pub source_values : (name : List ℕ) (tree : Tree)
      → AreHashedFor (IsAnswered s (AddSource name tree) (add_source setup s.desk name tree)) (source_texts name tree)
  source_values name tree =
      for_path (IsAnswered s (AddSource name tree) (add_source setup s.desk name tree)) Source (nar tree) name
      (add_source_cases (λ o. IsAnswered s (AddSource name tree) o (source_path tree name)) setup s.desk name tree
      (inl (s.desk, Path (source_path tree name), refl, refl)) (inl (with_source (source_named name tree) s.desk, Path (source_path tree name), refl, refl))
      (inr (Quota, inl refl, (refl, refl))))

  -- ---- a derivation

  module _ (text : List ℕ) where
    abbrev Told : Outcome → List ℕ → Type 0
    Told = IsAnswered s (AddDerivation text)

    abbrev known : Known
    known = known_of s.desk

    abbrev texts_of_file : Derivation → List (List ℕ)
    texts_of_file d = with_fingerprint (DerivationFile (file_references d)) (derivation_text d) (name_of d ++ codes ".drv")

    both_told : (a : Admission) (path : List ℕ) → (path ≡ a.path) ⊎ (path ≡ a.class.path) → (d : Derivation) → derivation_of_text text ≡ Some d
        → known_at known (derivation_path d) ≡ None → admit known d ≡ Ok a → Told (admitted setup s.desk (Ok a)) path
    both_told a path own d read new is =
        let unknown : known_at known a.path ≡ None = subst (λ (z : Admission). known_at known z.path ≡ None) (admit_parts known d a is).1 new in
        let told : (path ≡ a.path) ⊎ ((path ≡ a.class.path) × (known_at known a.path ≡ None)) = elim own [ inl p ↦ inl p | inr c ↦ inr (c, unknown) ] in
        roomed (λ o. Told o path) setup (with_derivation a s.desk) (told_of_derivation a)
        (inl (with_derivation a s.desk, told_of_derivation a, refl, record { file = a.path; class = a.class.path; says = refl; is = told }))
        (inr (Quota, inl refl, NoRoomForDerivation d a refl read new is own))

    admitted_values : (d : Derivation) → derivation_of_text text ≡ Some d → known_at known (derivation_path d) ≡ None
        → (o : Result Admission Refusal) → admit known d ≡ o → AreHashedFor (Told (admitted setup s.desk o)) (texts_of_file d ++ class_texts known d o)
    admitted_values d read new (Ok a) is =
        let same : admission_of known d ≡ a = (admit_parts known d a is).1 in
        let V : List ℕ → Type 0 = Told (admitted setup s.desk (Ok a)) in
        for_both V (texts_of_file d) (with_fingerprint OutputClass (masked_text known d) (name_of d))
        (for_path V (DerivationFile (file_references d)) (derivation_text d) (name_of d ++ codes ".drv")
        (both_told a (derivation_path d) (inl (ap (λ (z : Admission). z.path) same)) d read new is))
        (for_path V OutputClass (masked_text known d) (name_of d)
        (both_told a (class_of known d).path (inr (ap (λ (z : Admission). z.class.path) same)) d read new is))
    admitted_values d read new (Err why) is =
        let V : List ℕ → Type 0 = Told (Err why) in
        for_both V (texts_of_file d) []
        (for_path V (DerivationFile (file_references d)) (derivation_text d) (name_of d ++ codes ".drv") (inr (why, inl refl, NotAdmitted d read new is refl)))
        (for_none V)

    new_values : (d : Derivation) → derivation_of_text text ≡ Some d → (had : Option Admission) → known_at known (derivation_path d) ≡ had
        → AreHashedFor (Told (admit_new setup s.desk d had)) (texts_of_file d ++ new_texts known d had)
    new_values d read (Some a) at =
        let own : a.path ≡ derivation_path d = same_bytes a.path (derivation_path d) (find_in (λ (z : Admission). bytes_eq z.path (derivation_path d)) known.derivations a at).1 in
        let V : List ℕ → Type 0 = Told (admit_new setup s.desk d (Some a)) in
        for_both V (texts_of_file d) []
        (for_path V (DerivationFile (file_references d)) (derivation_text d) (name_of d ++ codes ".drv")
        (inl (s.desk, told_of_derivation a, refl, record { file = a.path; class = a.class.path; says = refl; is = inl (sym own) })))
        (for_none V)
    new_values d read None at = admitted_values d read at (admit known d) refl

    read_values : (read : Option Derivation) → derivation_of_text text ≡ read
        → AreHashedFor (Told (need BadDerivation read (λ d. admit_new setup s.desk d (known_at known (derivation_path d))))) (file_texts known read)
    read_values None e = for_none (Told (Err BadDerivation))
    read_values (Some d) e = new_values d e (known_at known (derivation_path d)) refl

    pub derivation_values : AreHashedFor (Told (add_derivation setup s.desk text)) (derivation_texts s.desk text)
    derivation_values =
        for_checked Told TooLarge (nat_le (length text) most_derivation_bytes)
        (need BadDerivation (derivation_of_text text) (λ d. admit_new setup s.desk d (known_at known (derivation_path d)))) (file_texts known (derivation_of_text text))
        (read_values (derivation_of_text text) refl)

  -- ---- an output

  module _ (derivation : List ℕ) (tree : Tree) where
    abbrev Offered : Outcome → List ℕ → Type 0
    Offered = IsAnswered s (Offer derivation tree)

    output_value : (a : Admission) → known_at (known_of s.desk) derivation ≡ Some a → (path : List ℕ)
        → IsPathFor tree (hash_part_in a.class.path) (paths_of_labels (candidates s.desk a.derivation)) (name_of a.derivation) path
        → Offered (offer_output setup s.desk tree (candidates s.desk a.derivation) a) path
    output_value a known path h = by (output_settled labels a tree) refl (path_in tree (hash_part_in a.class.path) (paths_of_labels labels) (name_of a.derivation) path h)
      where
        labels : List Label
        labels = candidates s.desk a.derivation

        refused : (why : Refusal) → IsOutputRefused a.class.path (candidates s.desk a.derivation) a tree why path → Offered (Err why) path
        refused why is = inr (why, inl refl, record { admission = a; known = known; output = is })

        by : (o : Result Settled RewriteFault) → settled_under a.class.path (candidates s.desk a.derivation) a tree ≡ o → PathIn o path
            → Offered (then_do (unless_rewrite_refused o) (λ z. add_entry setup s.desk (OfRecord (record_for (candidates s.desk a.derivation) a z)))) path
        by (Ok z) is own =
            let r : Record = record_for (candidates s.desk a.derivation) a z in
            entry_added (λ o. Offered o path) setup s.desk (OfRecord r) (inl (s.desk, Path z.path, refl, ap Path (sym own)))
            (inl (with_record r s.desk, Path z.path, refl, ap Path (sym own)))
            (refused Quota (NoRoomForOutput z refl is own))
        by (Err why) is own =
            subst (λ w. Offered (Err (RewriteRefused w)) path) (sym own)
            (refused (RewriteRefused Accidental) (OutputNotTrue refl (subst (λ w. settled_under a.class.path (candidates s.desk a.derivation) a tree ≡ Err w) own is) h))

    known_values : (o : Option Admission) → known_at (known_of s.desk) derivation ≡ o
        → AreHashedFor (Offered (need UnknownDerivation o (λ a. offer_output setup s.desk tree (candidates s.desk a.derivation) a))) (output_texts s.desk tree o)
    known_values None e = for_none (Offered (Err UnknownDerivation))
    known_values (Some a) e =
        for_settling (Offered (offer_output setup s.desk tree (candidates s.desk a.derivation) a)) tree (hash_part_in a.class.path)
        (paths_of_labels (candidates s.desk a.derivation)) (name_of a.derivation) (output_value a e)

    pub offer_values : AreHashedFor (Offered (offer setup s.desk derivation tree)) (offer_texts s.desk derivation tree)
    offer_values = known_values (known_at (known_of s.desk) derivation) refl
