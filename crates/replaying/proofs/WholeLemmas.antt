-- What was answered where the reader failed, and how an end is told once it was flushed.
use Rattle.std.proofs.Common.{◌≡◌, ℕ, inl, inr, List, [], ◌++◌, Option, Some, refl, sym, ap, ◌∙◌, subst}
use Rattle.std.specs.Prelude.{◌⊎◌, Result, Ok, Err, IfErr, OnOk}
use Rattle.std.specs.Io.KnownBytes.{Appends, Consumes}
use Rattle.model.specs.declared.mode.Mode.TheVariants.{Service}
use Rattle.model.specs.declared.refusal.Refusal.{Refusal}
use Rattle.model.specs.declared.refusal.Refusal.TheVariants.{BadUsers, InputFault, OutputFault, Memory}
use Rattle.model.specs.Lines.{lines_of}
use Rattle.model.specs.Talk.{text_from}
use Rattle.session.specs.Serving.{TellsEnd}
use Rattle.session.proofs.FlushLemmas.{Told}
use Rattle.session.specs.Ahead.{LooksAhead}
use Rattle.session.proofs.RowLemmas.{appends-flushed}
use Rattle.replaying.specs.WholeLines.{ReplayedSoFar, ServedSoFar}
use Rattle.replaying.proofs.ReplayLemmas.{one_store}
use Rattle.replaying.proofs.InputLemmas.{by_store, consumed}

-- ---- whole lines

module _ (charge : ℕ) (all : List ℕ) (blank written : Option (List ℕ)) where
  -- by a store for the users that were found
  pub so_far_by_store : (users : List (List ℕ)) (start end : Option (List ℕ)) → LooksAhead Service all (Some users) → start ≡ Some all
      → ServedSoFar (record { users = users; charge = charge }) start end blank written → ReplayedSoFar charge blank written all end
  so_far_by_store users start end found is h =
      let c = consumed all h.input start end is h.read in
      let s = h.done in
      record {
        input = h.input;
        read = subst (λ t. Consumes t end h.input) is h.read;
        rows = s.rows;
        lines = s.lines;
        text = s.text;
        answered =
            by_store charge users all s.lines.done (lines_of (s.lines.partial ++ c.0)) s.rows found (sym (ap lines_of c.2 ∙ s.lines.cut c.0)) s.lines.talks
            (one_store (record { users = users; charge = charge }) h.first h.last s.rows h.new s.chain);
      }

-- then it was flushed
pub so_far_flushed : (charge : ℕ) (all : List ℕ) (blank written written' end : Option (List ℕ)) → ReplayedSoFar charge blank written all end
    → Appends written written' []
    → ReplayedSoFar charge blank written' all end
so_far_flushed charge all blank written written' end h kept = record {
  input = h.input;
  read = h.read;
  rows = h.rows;
  lines = h.lines;
  text = appends-flushed blank written written' (text_from 1 h.rows) h.text kept;
  answered = h.answered;
}

-- ---- how an end is told

-- as it is, as a failure of the writer, or as want of memory in place of a failure of the reader
told_as : (first why : Refusal) (input output : Type 0) → TellsEnd first input output why → (first ≡ OutputFault → why ≡ OutputFault)
    → (why ≡ first) ⊎ ((why ≡ OutputFault) ⊎ ((why ≡ Memory) × (first ≡ InputFault)))
told_as InputFault why input output h out = elim h [
  | inl a ↦ inl a.0
  | inr w ↦ elim w.1 [ inl o ↦ inr (inl o.0) | inr m ↦ inr (inr (m.0, refl)) ]
]
told_as OutputFault why input output h out = inr (inl (out refl))
told_as Memory why input output h out = elim h [ inl o ↦ inr (inl o.0) | inr m ↦ inl m.0 ]
told_as first why input output h out = inl h

-- a failure of the reader is told of no other end
told_input : (first why : Refusal) (input output : Type 0) → TellsEnd first input output why → why ≡ InputFault → first ≡ InputFault
told_input InputFault why input output h is = refl
told_input OutputFault why input output h is = elim h [ inl o ↦ let e : why ≡ OutputFault = o.0 in cc | inr m ↦ let e : why ≡ Memory = m.0 in cc ]
told_input Memory why input output h is = elim h [ inl o ↦ let e : why ≡ OutputFault = o.0 in cc | inr m ↦ let e : why ≡ Memory = m.0 in cc ]
told_input first why input output h is = sym h ∙ is

pub told_other : (first why : Refusal) → (why ≡ OutputFault) ⊎ ((why ≡ Memory) × (first ≡ InputFault)) → why ≡ BadUsers → ⊥
told_other first why other is = elim other [ inl o ↦ cc | inr m ↦ let e : why ≡ Memory = m.0 in cc ]

pub kept_told : (first why : Refusal) → (why ≡ OutputFault) ⊎ ((why ≡ Memory) × (first ≡ InputFault)) → (first ≡ BadUsers) ⊎ (first ≡ OutputFault)
    → (why ≡ BadUsers) ⊎ (why ≡ OutputFault)
kept_told first why other told = elim other [
  | inl o ↦ inr o
  | inr m ↦ let e : first ≡ InputFault = m.1 in elim told [ inl b ↦ cc | inr o ↦ cc ]
]

module _ (old new : ℕ) (input output : Type 0) where
  -- after any end: what holds where all was answered, or of the end, holds of what is told
  pub after_err : (r e : Result (Unit {0}) Refusal) (P : Type 0) (Q S : Refusal → Type 0) → IfErr r (Told e old new input output)
      → (e ≡ Err OutputFault → r ≡ Err OutputFault) → OnOk e P → IfErr e Q → (P → S OutputFault)
      → ((first why : Refusal) → (why ≡ OutputFault) ⊎ ((why ≡ Memory) × (first ≡ InputFault)) → Q first → S why)
      → ((why : Refusal) → Q why → S why) → IfErr r S
  after_err (Ok u) e P Q S is out p q unwritten later same = tt
  after_err (Err why) (Ok v) P Q S (inl f) out p q unwritten later same = subst S (sym f.0) (unwritten p)
  after_err (Err why) (Err first) P Q S (inl f) out p q unwritten later same = later first why (inl f.0) q
  after_err (Err why) (Ok v) P Q S (inr t) out p q unwritten later same = let bad : Ok v ≡ Err t.0 = t.1 in cc
  after_err (Err why) (Err first) P Q S (inr t) out p q unwritten later same =
      let is : first ≡ t.0 = let e : Err first ≡ Err t.0 = t.1 in cc in
      let tells : TellsEnd first input output why = subst (λ x. TellsEnd x input output why) (sym is) t.2 in
      let shown : first ≡ OutputFault → why ≡ OutputFault = λ e. (let told : Err why ≡ Err OutputFault = out (ap Err e) in cc) in
      elim (told_as first why input output tells shown) [
        | inl same_as ↦ subst S (sym same_as) (same first q)
        | inr other ↦ later first why other q
      ]

  -- what holds where the reader failed
  pub after_failed : (r e : Result (Unit {0}) Refusal) (P Q : Type 0) → IfErr r (Told e old new input output) → IfErr e (λ why. why ≡ InputFault → P)
      → (P → Q) → IfErr r (λ why. why ≡ InputFault → Q)
  after_failed (Ok u) e P Q is p f = tt
  after_failed (Err why) e P Q (inl t) p f = λ failed. (let bad : why ≡ OutputFault = t.0 in cc)
  after_failed (Err why) (Ok v) P Q (inr t) p f = let bad : Ok v ≡ Err t.0 = t.1 in cc
  after_failed (Err why) (Err first) P Q (inr t) p f = λ failed.
      let is : first ≡ t.0 = let e : Err first ≡ Err t.0 = t.1 in cc in
      f (p (is ∙ told_input t.0 why input output t.2 failed))
