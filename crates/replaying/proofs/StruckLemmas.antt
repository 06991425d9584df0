-- How the end of `strike` is told once all was flushed.
use Rattle.std.proofs.Common.{◌≡◌, ℕ, Bool, true≢false, inl, inr, List, [], length, take, Option, refl, sym, subst, arith}
use Rattle.std.specs.Prelude.{Result, Ok, Err, IsOk, IfOk, IfErr, OnOk}
use Rattle.std.proofs.lemmas.List.{take_all}
use Rattle.std.specs.Io.KnownBytes.{Appends}
use Rattle.model.specs.declared.refusal.Refusal.{Refusal}
use Rattle.model.specs.declared.refusal.Refusal.TheVariants.{OutputFault}
use Rattle.model.specs.Lines.{lines_of}
use Rattle.session.specs.Serving.{IsUnwritten}
use Rattle.session.proofs.RowLemmas.{appends-none, appends-flushed}
use Rattle.replaying.specs.declared.bad_lines.BadLines.{BadLines}
use Rattle.replaying.specs.BadLines.{end_of, ended_with}
use Rattle.replaying.specs.Striking.{IsStruck, Struck, StruckEarly}

-- where it ended before anything was written
pub nothing_known : {T : Type 0} (r : Result T Refusal) (charge : ℕ) (user : List ℕ) (timed : Bool) (known : List ℕ → Type 0) (blank : Option (List ℕ))
    → IfErr r (λ why. (all : List ℕ) → known all → StruckEarly charge user timed blank blank (lines_of all) why)
nothing_known (Ok t) charge user timed known blank = tt
nothing_known (Err why) charge user timed known blank = λ all k. inl (appends-none blank)

-- where a text was found, what was written of it
pub struck_rest : {T : Type 0} (r : Result T Refusal) (charge : ℕ) (user : List ℕ) (timed : Bool) (known : List ℕ → Type 0) (blank written : Option (List ℕ)) (text : List ℕ)
    → ((all : List ℕ) → known all → IsStruck charge user timed (lines_of all) text) → ((count : ℕ) × Appends blank written (take count text))
    → IfErr r IsUnwritten
    → IfErr r (λ why. (all : List ℕ) → known all → StruckEarly charge user timed blank written (lines_of all) why)
struck_rest (Ok t) charge user timed known blank written text is h fault = tt
struck_rest (Err why) charge user timed known blank written text is h fault = λ all k. inr (record { text = text; is = is all k; count = h.0; part = h.1; fault = fault })

module _ (charge : ℕ) (user : List ℕ) (timed : Bool) (lines : List (List ℕ)) (blank written written' : Option (List ℕ)) (kept : Appends written written' []) where
  pub all_flushed : (bad : Option BadLines) → Struck charge user timed blank written lines bad → Struck charge user timed blank written' lines bad
  all_flushed bad h = record { text = h.text; is = h.is; all = appends-flushed blank written written' h.text h.all kept; bad_are = h.bad_are }

  -- all of it was written, and was not flushed
  pub not_flushed : (bad : Option BadLines) → Struck charge user timed blank written lines bad → StruckEarly charge user timed blank written' lines OutputFault
  not_flushed bad h =
      let whole : h.text ≡ take (length h.text) h.text = sym (take_all (length h.text) h.text (omega arith)) in
      inr (record {
        text = h.text;
        is = h.is;
        count = length h.text;
        part = subst (Appends blank written') whole (appends-flushed blank written written' h.text h.all kept);
        fault = inl refl;
      })

  -- an end that is told so
  pub early_told : (first why : Refusal) → (IsUnwritten first → IsUnwritten why) → StruckEarly charge user timed blank written lines first
      → StruckEarly charge user timed blank written' lines why
  early_told first why told (inl none) = inl (appends-flushed blank written written' [] none kept)
  early_told first why told (inr h) = inr (record {
    text = h.text;
    is = h.is;
    count = h.count;
    part = appends-flushed blank written written' (take h.count h.text) h.part kept;
    fault = told h.fault;
  })

-- ---- what was told before the end

-- the end of what was told
pub end_ok : (told : Result (Option BadLines) Refusal) (e : Result (Unit {0}) Refusal) (P : Type 0) → e ≡ end_of told → OnOk told P → OnOk e P
end_ok (Ok bad) e P is p = subst (λ r. OnOk r P) (sym is) p
end_ok (Err why) e P is p = subst (λ r. OnOk r P) (sym is) tt

pub end_with : (told : Result (Option BadLines) Refusal) (e : Result (Unit {0}) Refusal) (B : Option BadLines → Type 0) → e ≡ end_of told → IfOk told B
    → OnOk e ((bad : Option BadLines) × B bad)
end_with (Ok bad) e B is b = subst (λ r. OnOk r ((bad : Option BadLines) × B bad)) (sym is) (bad, b)
end_with (Err why) e B is b = subst (λ r. OnOk r ((bad : Option BadLines) × B bad)) (sym is) tt

pub end_err : (told : Result (Option BadLines) Refusal) (e : Result (Unit {0}) Refusal) (Q : Refusal → Type 0) → e ≡ end_of told → IfErr told Q → IfErr e Q
end_err (Ok bad) e Q is q = subst (λ r. IfErr r Q) (sym is) tt
end_err (Err why) e Q is q = subst (λ r. IfErr r Q) (sym is) q

-- an end, with what was told
pub with_ok : (r : Result (Option BadLines) Refusal) (shown : Result (Unit {0}) Refusal) (told : Result (Option BadLines) Refusal) (P : Type 0)
    → r ≡ ended_with shown told → OnOk shown P → OnOk r P
with_ok r (Ok u) (Ok bad) P is p = subst (λ x. OnOk x P) (sym is) p
with_ok r (Ok u) (Err why) P is p = subst (λ x. OnOk x P) (sym is) p
with_ok r (Err why) told P is p = subst (λ x. OnOk x P) (sym is) tt

pub with_err : (r : Result (Option BadLines) Refusal) (shown : Result (Unit {0}) Refusal) (told : Result (Option BadLines) Refusal) (Q : Refusal → Type 0)
    → r ≡ ended_with shown told → IfErr shown Q → IfErr r Q
with_err r (Ok u) (Ok bad) Q is q = subst (λ x. IfErr x Q) (sym is) tt
with_err r (Ok u) (Err why) Q is q = subst (λ x. IfErr x Q) (sym is) tt
with_err r (Err why) told Q is q = subst (λ x. IfErr x Q) (sym is) q

pub with_told : (r : Result (Option BadLines) Refusal) (shown e : Result (Unit {0}) Refusal) (told : Result (Option BadLines) Refusal) (B C : Option BadLines → Type 0)
    → r ≡ ended_with shown told → e ≡ end_of told → OnOk shown (IsOk e) → IfOk told B → ((bad : Option BadLines) → B bad → C bad) → IfOk r C
with_told r (Ok u) e (Ok bad) B C is ends well b f = subst (λ x. IfOk x C) (sym is) (f bad b)
with_told r (Ok u) e (Err why) B C is ends well b f = absurd (true≢false (sym (subst IsOk ends well)))
with_told r (Err why) e told B C is ends well b f = subst (λ x. IfOk x C) (sym is) tt
