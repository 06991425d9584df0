-- Repaired records that are kept for one step, a record more at a time.
use Rattle.std.proofs.Common.{◌≡◌, ◌≢◌, ℕ, ◌+◌, ◌<◌, ◌≤◌, ◌⊎◌, suc, false, inl, inr, refl, sym, ◌∙◌, ap, subst, cond, arith, List, [], ◌∷◌, ◌++◌, length, get_or, take, drop, Option, Some, Result, Ok, Err}
use Rattle.std.specs.Prelude.{All, bytes_eq}
use Rattle.std.specs.Map.{lookup}
use Rattle.std.proofs.Math.Seq.{drop-cons}
use Rattle.std.proofs.lemmas.List.Elements.{All-nil, All-cons, All-head, All-tail, All-push}
use Rattle.indexmap.specs.IndexMap.{insert_entry}
use Rattle.model.specs.declared.refusal.Refusal.{Refusal}
use Rattle.model.specs.declared.refusal.Refusal.TheVariants.{Memory}
use Rattle.model.specs.Limits.{greatest_rank}
use Rattle.model.specs.Worlds.{Record}
use Rattle.model.specs.Choices.{Plan}
use Rattle.model.specs.Repairs.{Replacement, serve, chosen_in}
use Rattle.model.proofs.BoolLemmas.{either, same_bytes, bytes_same}
use Rattle.laws.proofs.MemberLemmas.{In}
use Rattle.laws.proofs.ServedLemmas.{not_both}
use Rattle.records.specs.Plans.{IsInOrder}
use Rattle.rewrite.proofs.StepLemmas.{take_next}
use Rattle.repair.specs.AtHand.{MadeRepairs, IsMade, KeepsOthers}
use Rattle.repair.specs.Counting.{IsToRepair}
use Rattle.repair.specs.Prepared.{HasRepair, HasRepairs, HasRepaired}
use Rattle.repair.specs.Served.{Served, IsRelabelledBy, served_from}
use Rattle.repair.specs.Serving.{AreServed}
use Rattle.repair.specs.declared.repair.Repair.{Repair}
use Rattle.repair.proofs.TurnLemmas.{split_at}
use Rattle.repair.proofs.ServingLemmas.{same_replacements, serves_next, others_before}

-- ---- what is kept for a class

-- what is put for a class is found by it
pub put_found : (made : MadeRepairs) (class : List ℕ) (one : Repair) → lookup (bytes_eq class) (insert_entry bytes_eq made class one) ≡ Some one
put_found [] class one = rw (bytes_same class) refl
put_found (e ∷ es) class one = elim (either (bytes_eq class e.0)) [
  | inl t ↦
      let put : insert_entry bytes_eq (e ∷ es) class one ≡ (e.0, one) ∷ es = rw t refl in
      ap (lookup (bytes_eq class)) put ∙ ap (λ b. cond b (Some one) (lookup (bytes_eq class) es)) t
  | inr f ↦
      let put : insert_entry bytes_eq (e ∷ es) class one ≡ e ∷ insert_entry bytes_eq es class one = rw f refl in
      ap (lookup (bytes_eq class)) put ∙ ap (λ b. cond b (Some e.1) (lookup (bytes_eq class) (insert_entry bytes_eq es class one))) f ∙ put_found es class one
]

-- ---- the records of a plan

pub err_is : {X : Type 0} (why other : Refusal) (o : Result X Refusal) → o ≡ Err why → o ≡ Err other → why ≡ other
err_is why other o d e = cc

stays : (class : List ℕ) (old new : MadeRepairs) → KeepsOthers class old new → (r : Record) (replacements : List Replacement)
    → bytes_eq r.class.path class ≡ false
    → IsMade old r replacements → IsMade new r replacements
stays class old new keeps r replacements apart made = record { one = made.one; there = keeps r.class.path apart ∙ made.there; is = made.is }

-- what is there for records of other classes stays
pub all_stay : (choice : List ℕ → Option Record) (class : List ℕ) (old new : MadeRepairs) (rs : List Record) → KeepsOthers class old new
    → ((r : Record) → In r rs → r.class.path ≡ class → ⊥) → All (HasRepair choice old) rs → All (HasRepair choice new) rs
all_stay choice class old new [] keeps apart all = All-nil (HasRepair choice new)
all_stay choice class old new (r ∷ rs) keeps apart all = All-cons (HasRepair choice new) r rs first (all_stay choice class old new rs keeps (λ q h. apart q (inr h)) (All-tail (HasRepair choice old) r rs all))
  where
    first : HasRepair choice new r
    first replacements to needs = elim (either (bytes_eq r.class.path class)) [
      | inl t ↦ absurd (apart r (inl refl) (same_bytes r.class.path class t))
      | inr f ↦ stays class old new keeps r replacements f (All-head (HasRepair choice old) r rs all replacements to needs)
    ]

-- what is there for each record is there for all in turn
pub repairs_all : (choice : List ℕ → Option Record) (made : MadeRepairs) (rs : List Record) → All (HasRepair choice made) rs → HasRepairs choice made rs
repairs_all choice made [] all = tt
repairs_all choice made (r ∷ rs) all = (All-head (HasRepair choice made) r rs all, λ q served. repairs_all choice made rs (All-tail (HasRepair choice made) r rs all))

-- and so it is where it is there up to one that is refused
pub repairs_until : (choice : List ℕ → Option Record) (made : MadeRepairs) (rs behind : List Record) (r : Record) (why : Refusal)
    → All (HasRepair choice made) rs
    → HasRepair choice made r → serve choice r.class.path ≡ Err why → HasRepairs choice made (rs ++ r ∷ behind)
repairs_until choice made [] behind r why all last refused = (last, λ q served. absurd (not_both q why (serve choice r.class.path) refused served))
repairs_until choice made (x ∷ rs) behind r why all last refused =
    (All-head (HasRepair choice made) x rs all, λ q served. repairs_until choice made rs behind r why (All-tail (HasRepair choice made) x rs all) last refused)

-- ---- one record more

-- the record at a place of a plan, where the classes of those before it are served
module _ (p : Plan) (o : IsInOrder p) (k : ℕ) (r : Record) (es : Served) (lt : k < length p.records) (is : r ≡ get_or p.records k r)
    (low : r.class.rank ≤ greatest_rank) (a : AreServed p (take k p.records) es) where
  -- where it has to be repaired as its labels are replaced then, what comes of it is there
  abbrev pub HasOne : MadeRepairs → Type 0
  HasOne made = (replacements : List Replacement) → IsRelabelledBy es r replacements → IsToRepair r replacements → IsMade made r replacements

  has_repair : (made : MadeRepairs) → HasOne made → HasRepair (chosen_in p.records) made r
  has_repair made has replacements to = has replacements (same_replacements p o k r es lt is low a ∙ to)

  module _ (old new : MadeRepairs) (keeps : KeepsOthers r.class.path old new) (has : HasOne new)
      (all : All (HasRepair (chosen_in p.records) old) (take k p.records)) where
    still : All (HasRepair (chosen_in p.records) new) (take k p.records)
    still = all_stay (chosen_in p.records) r.class.path old new (take k p.records) keeps (others_before p o k r es lt is low a) all

    pub all_next : All (HasRepair (chosen_in p.records) new) (take (k + 1) p.records)
    all_next =
        subst (All (HasRepair (chosen_in p.records) new)) (sym (take_next p.records k r lt is))
        (All-push (HasRepair (chosen_in p.records) new) (take k p.records) r still (has_repair new has))

    -- where it is refused, nothing is left to be repaired
    pub all_until : (why : Refusal) → (why ≡ Memory) ⊎ (served_from es r ≡ Err why) → why ≢ Memory → HasRepaired p new
    all_until why (inl memory) told = absurd (told memory)
    all_until why (inr refused) told =
        subst (HasRepairs (chosen_in p.records) new) (sym (split_at p.records k r lt is))
        (repairs_until (chosen_in p.records) new (take k p.records) (drop (suc k) p.records) r why still (has_repair new has)
        (serves_next p o k r es lt is low a ∙ refused))

  module _ (made : MadeRepairs) (has : HasRepairs (chosen_in p.records) made (drop k p.records)) where
    from_here : HasRepairs (chosen_in p.records) made (r ∷ drop (suc k) p.records)
    from_here = subst (HasRepairs (chosen_in p.records) made) (drop-cons p.records k r lt ∙ ap (λ x. x ∷ drop (suc k) p.records) (sym is)) has

    -- where it is there for all that are left, it is there for this one
    pub has_one : HasOne made
    has_one replacements to = from_here.0 replacements (sym (same_replacements p o k r es lt is low a) ∙ to)

    -- and for those behind it
    pub has_rest : (v : Record) → served_from es r ≡ Ok v → HasRepairs (chosen_in p.records) made (drop (k + 1) p.records)
    has_rest v e =
        let next : suc k ≡ k + 1 = omega arith in
        subst (λ n. HasRepairs (chosen_in p.records) made (drop n p.records)) next (from_here.1 v (serves_next p o k r es lt is low a ∙ e))
