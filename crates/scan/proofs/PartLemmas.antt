-- Going over the strings of a tree, one after another.
use Rattle.std.proofs.Common.{◌≡◌, ℕ, ◌+◌, ◌≤◌, Bool, true, false, List, [], ◌∷◌, ◌++◌, length, drop, refl, ap, sym, ◌∙◌, append_assoc, append-nil, arith, length-append, Option, None, Some}
use Rattle.std.specs.Prelude.{◌||◌}
use Rattle.std.specs.List.{list_any}
use Rattle.std.proofs.lemmas.Bool.{false≢true}
use Rattle.model.specs.Occurrences.{Keys, Piece, Mark, Text, EntryName, FileBytes, LinkTarget, Place, piece_text, piece_places, places_of_pieces, joined, has_places, places_in, name_holds, crowded}
use Rattle.scan.specs.Pieces.{Part, part_in}
use Rattle.scan.specs.Searching.{moved}
use Rattle.scan.proofs.PieceLemmas.{length-text}
use Rattle.scan.proofs.NameLemmas.{Fronts}
use Rattle.scan.proofs.CrowdLemmas.{places_in-moved, crowded-anywhere}

-- whether two places in a piece are less than 32 bytes apart
abbrev pub crowds : Keys → Piece → Bool
crowds keys p = crowded (piece_places keys 0 p)

-- ---- one piece

abbrev string_of : Option Part → List ℕ
string_of None = []
string_of (Some p) = p.1

abbrev is_named : Option Part → Bool
is_named None = false
is_named (Some p) = p.0

pub length-front : (qs : List Piece) (text : List ℕ) (part : Option Part) (behind : List ℕ) (front : Fronts qs part behind) → text ≡ joined qs
    → length text ≡ length (piece_text front.first) + length behind
length-front qs text part behind front e =
    ap length (e ∙ ap joined front.all) ∙ length-append (piece_text front.first) (joined (drop 1 qs))
    ∙ ap (λ r. length (piece_text front.first) + length r) (sym front.rest)

pub length-part : (p : Piece) (is_name : Bool) (s : List ℕ) → Some (is_name, s) ≡ part_in p → length s ≤ length (piece_text p)
length-part (Mark tag) n s e = absurd (let no = e in cc)
length-part (Text EntryName t) n s e = let same : s ≡ t = ap string_of e in omega (arith, length-text EntryName t, ap length same)
length-part (Text FileBytes t) n s e = let same : s ≡ t = ap string_of e in omega (arith, length-text FileBytes t, ap length same)
length-part (Text LinkTarget t) n s e = let same : s ≡ t = ap string_of e in omega (arith, length-text LinkTarget t, ap length same)

-- what becomes of what was found by one piece more
pub record Step (keys : Keys) (p : Piece) (n : ℕ) (before after : Bool) (old new : List Place) : Type 0 where
  pub name : name_holds keys p ≡ false
  pub crowd : after ≡ (before || crowds keys p)
  pub places : after ≡ false → new ≡ old ++ piece_places keys n p

or_false : (b : Bool) → b ≡ (b || false)
or_false true = refl
or_false false = refl

pub or_none : (b : Bool) → (b || false) ≡ b
or_none b = sym (or_false b)

pub mark_step : (keys : Keys) (p : Piece) (n : ℕ) (b : Bool) (places : List Place) → None ≡ part_in p → Step keys p n b b places places
mark_step keys (Mark tag) n b places e = record { name = refl; crowd = or_false b; places = λ h. sym (append-nil places) }
mark_step keys (Text EntryName t) n b places e = absurd (let no = e in cc)
mark_step keys (Text FileBytes t) n b places e = absurd (let no = e in cc)
mark_step keys (Text LinkTarget t) n b places e = absurd (let no = e in cc)

no_places : (ps : List Place) → has_places ps ≡ false → ps ≡ []
no_places [] h = refl
no_places (p ∷ ps) h = absurd (false≢true (sym h))

places_later : (keys : Keys) (n : ℕ) (s : List ℕ) → places_in keys n s ≡ moved n (places_in keys 0 s)
places_later keys n s = let e : n ≡ 0 + n = omega arith in ap (λ k. places_in keys k s) e ∙ places_in-moved keys n 0 s

pub name_is : (keys : Keys) (p : Piece) (s : List ℕ) → Some (true, s) ≡ part_in p → name_holds keys p ≡ has_places (places_in keys 0 s)
name_is keys (Mark tag) s e = absurd (let no = e in cc)
name_is keys (Text EntryName t) s e = let same : t ≡ s = sym (ap string_of e) in ap (λ w. has_places (places_in keys 0 w)) same
name_is keys (Text FileBytes t) s e = absurd (false≢true (sym (ap is_named e)))
name_is keys (Text LinkTarget t) s e = absurd (false≢true (sym (ap is_named e)))

pub name_step : (keys : Keys) (p : Piece) (n : ℕ) (b : Bool) (places : List Place) (s : List ℕ) → Some (true, s) ≡ part_in p
    → has_places (places_in keys 0 s) ≡ false → Step keys p n b b places places
name_step keys (Mark tag) n b places s e none = absurd (let no = e in cc)
name_step keys (Text FileBytes t) n b places s e none = absurd (false≢true (sym (ap is_named e)))
name_step keys (Text LinkTarget t) n b places s e none = absurd (false≢true (sym (ap is_named e)))
name_step keys (Text EntryName t) n b places s e none =
    let same : t ≡ s = sym (ap string_of e) in
    let here : places_in keys 0 t ≡ [] = ap (places_in keys 0) same ∙ no_places (places_in keys 0 s) none in
    let there : (k : ℕ) → places_in keys k t ≡ [] = λ k. places_later keys k t ∙ ap (moved k) here in
    record {
      name = ap has_places here;
      crowd = or_false b ∙ ap (λ ps. b || crowded ps) (sym (there (0 + 24)));
      places = λ h. sym (ap (λ ps. places ++ ps) (there (n + 24)) ∙ append-nil places);
    }

bytes_places : (keys : Keys) (p : Piece) (n : ℕ) (s : List ℕ) → Some (false, s) ≡ part_in p → piece_places keys n p ≡ places_in keys (n + 24) s
bytes_places keys (Mark tag) n s e = absurd (let no = e in cc)
bytes_places keys (Text EntryName t) n s e = absurd (false≢true (ap is_named e))
bytes_places keys (Text FileBytes t) n s e = let same : t ≡ s = sym (ap string_of e) in ap (places_in keys (n + 24)) same
bytes_places keys (Text LinkTarget t) n s e = let same : t ≡ s = sym (ap string_of e) in ap (places_in keys (n + 24)) same

bytes_no_name : (keys : Keys) (p : Piece) (s : List ℕ) → Some (false, s) ≡ part_in p → name_holds keys p ≡ false
bytes_no_name keys (Mark tag) s e = refl
bytes_no_name keys (Text EntryName t) s e = absurd (false≢true (ap is_named e))
bytes_no_name keys (Text FileBytes t) s e = refl
bytes_no_name keys (Text LinkTarget t) s e = refl

pub bytes_step : (keys : Keys) (p : Piece) (n : ℕ) (close : Bool) (places more : List Place) (s : List ℕ) → Some (false, s) ≡ part_in p
    → close ≡ crowded (places_in keys 0 s) → (close ≡ false → more ≡ places ++ moved (n + 24) (places_in keys 0 s))
    → Step keys p n false close places more
bytes_step keys p n close places more s e is found = record {
  name = bytes_no_name keys p s e;
  crowd = is ∙ crowded-anywhere keys 0 (0 + 24) s ∙ ap crowded (sym (bytes_places keys p 0 s e));
  places = λ h. found h ∙ ap (λ ps. places ++ ps) (sym (bytes_places keys p n s e ∙ places_later keys (n + 24) s));
}

-- those behind two that share bytes are not looked for
pub skipped_step : (keys : Keys) (p : Piece) (n : ℕ) (places : List Place) (s : List ℕ) → Some (false, s) ≡ part_in p
    → Step keys p n true true places places
skipped_step keys p n places s e = record { name = bytes_no_name keys p s e; crowd = refl; places = λ h. absurd (false≢true (sym h)) }

pub step_as : (keys other : Keys) (p : Piece) (n : ℕ) (b b2 a a2 : Bool) (old new new2 : List Place) → other ≡ keys → b2 ≡ b → a2 ≡ a → new2 ≡ new
    → Step other p n b a old new → Step keys p n b2 a2 old new2
step_as keys other p n b b2 a a2 old new new2 k eb ea en step = record {
  name = ap (λ f. name_holds f p) (sym k) ∙ step.name;
  crowd = ea ∙ step.crowd ∙ ap (λ f. b || crowds f p) k ∙ ap (λ x. x || crowds keys p) (sym eb);
  places = λ h. en ∙ step.places (sym ea ∙ h) ∙ ap (λ f. old ++ piece_places f n p) k;
}

-- ---- the pieces behind it

or_assoc : (a b c : Bool) → ((a || b) || c) ≡ (a || (b || c))
or_assoc true b c = refl
or_assoc false b c = refl

pub names_on : (keys : Keys) (qs rest : List Piece) (first : Piece) (b : Bool) → qs ≡ first ∷ rest → name_holds keys first ≡ false
    → list_any (name_holds keys) qs ≡ b → list_any (name_holds keys) rest ≡ b
names_on keys qs rest first b all none e = sym (ap (list_any (name_holds keys)) all ∙ ap (λ n. n || list_any (name_holds keys) rest) none) ∙ e

pub name_found : (keys : Keys) (qs rest : List Piece) (first : Piece) → qs ≡ first ∷ rest → name_holds keys first ≡ true
    → list_any (name_holds keys) qs ≡ true
name_found keys qs rest first all is = ap (list_any (name_holds keys)) all ∙ ap (λ n. n || list_any (name_holds keys) rest) is

pub crowd_on : (keys : Keys) (qs rest : List Piece) (first : Piece) (before after b : Bool) → qs ≡ first ∷ rest → after ≡ (before || crowds keys first)
    → (before || list_any (crowds keys) qs) ≡ b → (after || list_any (crowds keys) rest) ≡ b
crowd_on keys qs rest first before after b all is e =
    ap (λ a. a || list_any (crowds keys) rest) is ∙ or_assoc before (crowds keys first) (list_any (crowds keys) rest)
    ∙ ap (λ ps. before || list_any (crowds keys) ps) (sym all) ∙ e

or_left : (a b : Bool) → (a || b) ≡ false → a ≡ false
or_left true b h = h
or_left false b h = refl

pub places_on : (keys : Keys) (qs rest : List Piece) (first : Piece) (n m : ℕ) (before after : Bool) (places more whole : List Place)
    → qs ≡ first ∷ rest → m ≡ n + length (piece_text first) → Step keys first n before after places more
    → (before ≡ false → places ++ places_of_pieces keys n qs ≡ whole)
    → after ≡ false → more ++ places_of_pieces keys m rest ≡ whole
places_on keys qs rest first n m before after places more whole all at step e h =
    let early : before ≡ false = or_left before (crowds keys first) (sym step.crowd ∙ h) in
    ap (λ t. t ++ places_of_pieces keys m rest) (step.places h)
    ∙ append_assoc places (piece_places keys n first) (places_of_pieces keys m rest)
    ∙ ap (λ k. places ++ (piece_places keys n first ++ places_of_pieces keys k rest)) at
    ∙ ap (λ ps. places ++ places_of_pieces keys n ps) (sym all) ∙ e early
