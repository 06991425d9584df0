-- Resolving, a class and a string at a time.
use Rattle.std.proofs.Common.{◌≡◌, ◌⊎◌, ℕ, Bool, true, false, inl, inr, List, [], ◌∷◌, ◌++◌, refl, sym, ap, ◌∙◌, map, filter, Option, Some, None, Ok, Err}
use Rattle.std.specs.Prelude.{◌||◌, not, MatchResult, Result}
use Rattle.std.specs.Global.{Vec}
use Rattle.std.specs.List.{list_any}
use Rattle.std.proofs.lemmas.Bool.{cases_Bool}
use Rattle.std.proofs.lemmas.List.Folds.{list_any-append}
use Rattle.model.specs.declared.refusal.Refusal.{Refusal}
use Rattle.model.specs.declared.refusal.Refusal.TheVariants.{Memory, NotRealised}
use Rattle.model.specs.Results.{each}
use Rattle.model.specs.Archives.{bytes_before}
use Rattle.model.specs.Orders.{set_of}
use Rattle.model.specs.Derivations.{Derivation, derivation_text}
use Rattle.model.specs.Substitutions.{Images, put_text}
use Rattle.model.specs.Resolutions.{Served, is_name_variable, is_crowded, images_for, put_variable, resolved_derivation, resolved_text}
use Rattle.rewrite.specs.Strings.{IsOverlap}
use Rattle.resolving.specs.Resolving.{served_with, is_variable_crowded, is_crowded_in, overlaps, ArePut}

-- ---- one class

pub served_none : (found : List ℕ → Option (List ℕ)) (class : List ℕ) → found class ≡ None → served_with found class ≡ Err NotRealised
served_none found class e = rw e refl

pub served_some : (found : List ℕ → Option (List ℕ)) (class path class_copy path_copy : List ℕ) → found class ≡ Some path → class_copy ≡ class
    → path_copy ≡ path → served_with found class ≡ Ok (record { class = class_copy; path = path_copy })
served_some found class path class_copy path_copy e same_class same_path = rw (e, same_class, same_path) refl

-- the classes are served the same where the same paths are found
pub same_served : (found other : List ℕ → Option (List ℕ)) (classes : List (List ℕ)) → ((class : List ℕ) → found class ≡ other class)
    → each (served_with found) classes ≡ each (served_with other) classes
same_served found other classes same = ap (λ f. each (served_with f) classes) (λ i class. same class i)

-- ---- the strings

-- the values in which two keys share bytes
values_crowded : (images : Images) (vs : List (List ℕ × List ℕ))
    → list_any (is_crowded images) (map (λ v. v.1) (filter (λ v. not (is_name_variable v)) vs)) ≡ list_any (is_variable_crowded images) vs
values_crowded images [] = refl
values_crowded images (v ∷ vs) = elim (cases_Bool (is_name_variable v)) [
  | inl t ↦ rw t (values_crowded images vs)
  | inr f ↦ rw f (ap (λ b. is_crowded images v.1 || b) (values_crowded images vs))
]

-- the strings in which they do
strings_crowded : (images : Images) (d : Derivation) → is_crowded_in images d
    ≡ (is_crowded images d.builder || (list_any (is_crowded images) d.arguments || list_any (is_variable_crowded images) d.environment))
unfolding is_crowded_in
strings_crowded images d =
    ap (λ b. is_crowded images d.builder || b)
    (list_any-append (is_crowded images) d.arguments (map (λ v. v.1) (filter (λ v. not (is_name_variable v)) d.environment))
    ∙ ap (λ b. list_any (is_crowded images) d.arguments || b) (values_crowded images d.environment))

or_first : (a b c : Bool) → a ≡ true → (a || (b || c)) ≡ true
or_first a b c h = rw h refl

or_second : (a b c : Bool) → b ≡ true → (a || (b || c)) ≡ true
or_second true b c h = refl
or_second false b c h = rw h refl

or_third : (a b c : Bool) → c ≡ true → (a || (b || c)) ≡ true
or_third true b c h = refl
or_third false true c h = refl
or_third false false c h = h

or_none : (a b c : Bool) → a ≡ false → b ≡ false → c ≡ false → (a || (b || c)) ≡ false
or_none a b c f g h = rw (f, g, h) refl

pub overlap_from : (a b : Bool) (why : Refusal) → (a ≡ true → b ≡ true) → IsOverlap a why → IsOverlap b why
overlap_from a b why so (inl m) = inl m
overlap_from a b why so (inr o) = inr (o.0, so o.1)

-- two keys share bytes in the builder, an argument, or a value
pub builder_overlaps : (images : Images) (d : Derivation) (why : Refusal) → IsOverlap (is_crowded images d.builder) why → IsOverlap (is_crowded_in images d) why
builder_overlaps images d why o =
    overlap_from (is_crowded images d.builder) (is_crowded_in images d) why
    (λ t. strings_crowded images d
    ∙ or_first (is_crowded images d.builder) (list_any (is_crowded images) d.arguments) (list_any (is_variable_crowded images) d.environment) t) o

pub arguments_overlap : (images : Images) (d : Derivation) (texts : List (List ℕ)) (why : Refusal) → texts ≡ d.arguments
    → IsOverlap (list_any (is_crowded images) texts) why → IsOverlap (is_crowded_in images d) why
arguments_overlap images d texts why is o =
    overlap_from (list_any (is_crowded images) texts) (is_crowded_in images d) why
    (λ t. strings_crowded images d
    ∙ or_second (is_crowded images d.builder) (list_any (is_crowded images) d.arguments) (list_any (is_variable_crowded images) d.environment)
    (sym (ap (list_any (is_crowded images)) is) ∙ t)) o

pub variables_overlap : (images : Images) (d : Derivation) (vs : List (List ℕ × List ℕ)) (why : Refusal) → vs ≡ d.environment
    → IsOverlap (list_any (is_variable_crowded images) vs) why → IsOverlap (is_crowded_in images d) why
variables_overlap images d vs why is o =
    overlap_from (list_any (is_variable_crowded images) vs) (is_crowded_in images d) why
    (λ t. strings_crowded images d
    ∙ or_third (is_crowded images d.builder) (list_any (is_crowded images) d.arguments) (list_any (is_variable_crowded images) d.environment)
    (sym (ap (list_any (is_variable_crowded images)) is) ∙ t)) o

-- where they do in none
pub none_overlap : (images : Images) (d : Derivation) (texts : List (List ℕ)) (vs : List (List ℕ × List ℕ)) → texts ≡ d.arguments → vs ≡ d.environment
    → is_crowded images d.builder ≡ false → list_any (is_crowded images) texts ≡ false → list_any (is_variable_crowded images) vs ≡ false
    → is_crowded_in images d ≡ false
none_overlap images d texts vs texts_are vs_are b a v =
    strings_crowded images d
    ∙ or_none (is_crowded images d.builder) (list_any (is_crowded images) d.arguments) (list_any (is_variable_crowded images) d.environment) b
    (sym (ap (list_any (is_crowded images)) texts_are) ∙ a) (sym (ap (list_any (is_variable_crowded images)) vs_are) ∙ v)

-- the strings in which they are put anew
pub strings_put : (images : Images) (d : Derivation) (texts : List (List ℕ)) (vs : List (List ℕ × List ℕ)) (builder : List ℕ) (arguments : List (List ℕ))
    (environment : List (List ℕ × List ℕ)) → texts ≡ d.arguments → vs ≡ d.environment → builder ≡ put_text images d.builder
    → arguments ≡ map (put_text images) texts → environment ≡ map (put_variable images) vs → ArePut images d builder arguments environment
strings_put images d texts vs builder arguments environment texts_are vs_are b a e = record {
  builder = b;
  arguments = a ∙ ap (map (put_text images)) texts_are;
  environment = e ∙ ap (map (put_variable images)) vs_are;
}

-- ---- the derivation and its text

abbrev pub made_of : List (List ℕ) → List (List ℕ) → List ℕ → List ℕ → List (List ℕ) → List (List ℕ × List ℕ) → Derivation
made_of inputs sources platform builder arguments environment = record {
  inputs = inputs;
  sources = sources;
  platform = platform;
  builder = builder;
  arguments = arguments;
  environment = environment;
}

-- parts that are the resolved derivation's
pub parts_resolve : (served : List Served) (d : Derivation) (paths inputs sources : List (List ℕ)) (platform builder : List ℕ) (arguments : List (List ℕ))
    (environment : List (List ℕ × List ℕ)) → paths ≡ d.sources → inputs ≡ []
    → sources ≡ set_of bytes_before (paths ++ map (λ (s : Served). s.path) served) → platform ≡ d.platform
    → ArePut (images_for served) d builder arguments environment
    → made_of inputs sources platform builder arguments environment ≡ resolved_derivation served d
parts_resolve served d paths inputs sources platform builder arguments environment paths_are i s p put =
    rw (i, s, p, put.builder, put.arguments, put.environment, paths_are) refl

pub text_resolved : (served : List Served) (d made : Derivation) (text : List ℕ) → overlaps served d ≡ false → made ≡ resolved_derivation served d
    → text ≡ derivation_text made → resolved_text served d ≡ Ok text
unfolding overlaps is_crowded_in resolved_text
text_resolved served d made text apart is printed = rw apart (ap Ok (sym (printed ∙ ap derivation_text is)))

-- what was printed is the resolved text
pub text_printed : (served : List Served) (d made : Derivation) (printed : Result (Vec ℕ) Refusal) → overlaps served d ≡ false
    → made ≡ resolved_derivation served d → MatchResult printed (λ text. text.items ≡ derivation_text made) (λ e. e ≡ Memory)
    → MatchResult printed (λ text. resolved_text served d ≡ Ok text.items) (λ e. (e ≡ Memory) ⊎ (resolved_text served d ≡ Err e))
text_printed served d made (Ok text) apart is printed = text_resolved served d made text.items apart is printed
text_printed served d made (Err e) apart is printed = inl printed

pub text_refused : (served : List Served) (d : Derivation) (why : Refusal) → IsOverlap (overlaps served d) why
    → (why ≡ Memory) ⊎ (resolved_text served d ≡ Err why)
unfolding overlaps is_crowded_in resolved_text
text_refused served d why (inl m) = inl m
text_refused served d why (inr o) = inr (rw o.1 (ap Err (sym o.0)))
