-- What files gave, written one after another, and the first of them that ended before its lines did.
use Rattle.std.proofs.Common.{◌≡◌, refl, sym, ap, ◌∙◌, subst, ℕ, zero, suc, ◌+◌, ◌<◌, arith, List, [], ◌∷◌, ◌++◌, length, get_or, take, drop, add-one, drop-cons}
use Rattle.std.specs.Prelude.{Option, Result, Ok, Err, IfErr, OnOk}
use Rattle.std.specs.Io.KnownBytes.{Appends}
use Rattle.std.proofs.KnownBytes.{Appends-trans}
use Rattle.std.proofs.lemmas.Grind.{flat_map-append}
use Rattle.std.proofs.lemmas.List.{append-nil, take_more, take-append-drop, take-append-le}
use Rattle.std.proofs.Math.Seq.{take-append-add, take-length}
use Rattle.model.specs.declared.refusal.Refusal.{Refusal}
use Rattle.teams.specs.declared.sessions.SessionOutput.{SessionOutput}
use Rattle.files.specs.Outputs.{texts_of, AppendsFront, end_or, place_or, first_end, first_place}

-- ---- what is written

-- one text more
pub written_more : (a b c : Option (List ℕ)) (outputs : List SessionOutput) (i : ℕ) (output : SessionOutput) → i < length outputs
    → output ≡ get_or outputs i output
    → Appends a b (texts_of (take i outputs)) → Appends b c output.text.items → Appends a c (texts_of (take (i + 1) outputs))
written_more a b c outputs i output inside here before own =
    let more : take (i + 1) outputs ≡ take i outputs ++ output ∷ [] =
    take_more outputs i output inside ∙ ap (λ (o : SessionOutput). take i outputs ++ o ∷ []) (sym here) in
    let text : texts_of (take (i + 1) outputs) ≡ texts_of (take i outputs) ++ output.text.items =
    ap texts_of more ∙ flat_map-append (λ (o : SessionOutput). o.text.items) (take i outputs) (output ∷ [])
    ∙ ap (λ (bytes : List ℕ). texts_of (take i outputs) ++ bytes) (append-nil output.text.items) in
    subst (Appends a c) (sym text) (Appends-trans a b c (texts_of (take i outputs)) output.text.items before own)

-- a beginning of one text more
pub written_front : (a b c : Option (List ℕ)) (outputs : List SessionOutput) (i : ℕ) (output : SessionOutput) → i < length outputs
    → output ≡ get_or outputs i output
    → Appends a b (texts_of (take i outputs)) → ((n : ℕ) × (n < length output.text.items) × Appends b c (take n output.text.items))
    → AppendsFront a c (texts_of outputs)
written_front a b c outputs i output inside here before own =
    let n : ℕ = own.0 in
    let short : n < length output.text.items = own.1 in
    let front : List ℕ = texts_of (take i outputs) in
    let rest : List ℕ = texts_of (drop (i + 1) outputs) in
    let behind : drop i outputs ≡ output ∷ drop (i + 1) outputs =
    rw add-one (drop-cons outputs i output inside ∙ ap (λ (o : SessionOutput). o ∷ drop (suc i) outputs) (sym here)) in
    let whole : texts_of outputs ≡ front ++ (output.text.items ++ rest) =
    ap texts_of (sym (take-append-drop i outputs) ∙ ap (λ (os : List SessionOutput). take i outputs ++ os) behind)
    ∙ flat_map-append (λ (o : SessionOutput). o.text.items) (take i outputs) (output ∷ drop (i + 1) outputs) in
    let part : take (length front + n) (texts_of outputs) ≡ front ++ take n output.text.items =
    ap (take (length front + n)) whole ∙ take-append-add front (output.text.items ++ rest) n
    ∙ ap (λ (bytes : List ℕ). front ++ bytes) (take-append-le n output.text.items rest (omega (arith, short))) in
    (length front + n, subst (Appends a c) (sym part) (Appends-trans a b c front (take n output.text.items) before own.2))

-- all texts, flushed
pub flushed : (a b c : Option (List ℕ)) (text : List ℕ) → Appends a b text → Appends b c [] → Appends a c text
flushed a b c text written kept = subst (Appends a c) (append-nil text) (Appends-trans a b c text [] written kept)

-- and where they were not all written, or not flushed
pub flushed_front : (a b c : Option (List ℕ)) (text : List ℕ) (ended : Result (Unit {0}) Refusal)
    → OnOk ended (Appends a b text) → IfErr ended (λ _. AppendsFront a b text) → Appends b c [] → AppendsFront a c text
flushed_front a b c text (Ok done) written front kept =
    (length text, subst (Appends a c) (sym (take-length text)) (flushed a b c text written kept))
flushed_front a b c text (Err why) written front kept = (front.0, flushed a b c (take front.0 text) front.1 kept)

-- ---- how they ended

both_ok : (first rest : Result (Unit {0}) Refusal) → end_or first rest ≡ Ok tt → (first ≡ Ok tt) × (rest ≡ Ok tt)
both_ok (Ok done) rest same = (refl, same)
both_ok (Err why) rest same = cc

ended_push : (outputs : List SessionOutput) (output : SessionOutput) → first_end outputs ≡ Ok tt → output.ended ≡ Ok tt
    → first_end (outputs ++ output ∷ []) ≡ Ok tt
ended_push [] output before own = ap (λ (end : Result (Unit {0}) Refusal). end_or end (Ok tt)) own
ended_push (o ∷ os) output before own =
    let both = both_ok o.ended (first_end os) before in
    ap (λ (end : Result (Unit {0}) Refusal). end_or end (first_end (os ++ output ∷ []))) both.0 ∙ ended_push os output both.1 own

-- one more end is that of all lines
pub ended_more : (outputs : List SessionOutput) (i : ℕ) (output : SessionOutput) → i < length outputs → output ≡ get_or outputs i output
    → first_end (take i outputs) ≡ Ok tt → output.ended ≡ Ok tt → first_end (take (i + 1) outputs) ≡ Ok tt
ended_more outputs i output inside here before own =
    let more : take (i + 1) outputs ≡ take i outputs ++ output ∷ [] =
    take_more outputs i output inside ∙ ap (λ (o : SessionOutput). take i outputs ++ o ∷ []) (sym here) in
    ap first_end more ∙ ended_push (take i outputs) output before own

-- it is the first that is none
pub ended_at : (outputs : List SessionOutput) (i : ℕ) (output : SessionOutput) (why : Refusal) → i < length outputs → output ≡ get_or outputs i output
    → first_end (take i outputs) ≡ Ok tt → output.ended ≡ Err why → (first_end outputs ≡ Err why) × (first_place outputs ≡ i)
ended_at [] i output why inside here before own = absurd (omega (arith, inside))
ended_at (o ∷ os) zero output why inside here before own =
    let end : o.ended ≡ Err why = ap (λ (other : SessionOutput). other.ended) (sym here) ∙ own in (
      ap (λ (end : Result (Unit {0}) Refusal). end_or end (first_end os)) end,
      ap (λ (end : Result (Unit {0}) Refusal). place_or end (first_place os)) end,
    )
ended_at (o ∷ os) (suc i) output why inside here before own =
    let both = both_ok o.ended (first_end (take i os)) before in
    let rest = ended_at os i output why (omega (arith, inside)) here both.1 own in
    let place : place_or o.ended (first_place os) ≡ first_place os + 1 = ap (λ (end : Result (Unit {0}) Refusal). place_or end (first_place os)) both.0 in (
      ap (λ (end : Result (Unit {0}) Refusal). end_or end (first_end os)) both.0 ∙ rest.0,
      omega (arith, place, rest.1),
    )

-- what is so of each error
pub on_any : {A E P : Type 0} (told : Result A E) → P → IfErr told (λ _. P)
on_any (Ok done) p = tt
on_any (Err why) p = p
