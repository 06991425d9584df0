-- One more content joins those that a file has had.
use Rattle.std.proofs.Common.{◌≡◌, ◌⊎◌, inl, inr, ⊎_elim, ℕ, zero, suc, ◌≤◌, List, [], ◌∷◌, ◌++◌, length, drop, Vec, refl, sym, ◌∙◌, ap, subst, arith, length-append}
use Rattle.std.specs.declared.alloc.Global.{Global}
use Rattle.journal.specs.LogFile.{Elapses}
use Rattle.journal.specs.declared.memory.MemoryLogFile.{MemoryLogFile}
use Rattle.journal.specs.Past.{HadBeen}

abbrev Contents : Type 0
Contents = List (Vec ℕ Global)

keeps : (past : Contents) (v : Vec ℕ Global) (c : List ℕ) → HadBeen past c → HadBeen (past ++ v ∷ []) c
keeps [] v c had = absurd had
keeps (p ∷ past) v c (inl here) = inl here
keeps (p ∷ past) v c (inr there) = inr (keeps past v c there)

adds : (past : Contents) (v : Vec ℕ Global) (c : List ℕ) → HadBeen (past ++ v ∷ []) c → HadBeen past c ⊎ (c ≡ v.items)
adds [] v c (inl here) = inr here
adds [] v c (inr none) = absurd none
adds (p ∷ past) v c (inl here) = inl (inl here)
adds (p ∷ past) v c (inr there) = ⊎_elim (λ had. inl (inr had)) (λ new. inr new) (adds past v c there)

newest : (past : Contents) (v : Vec ℕ Global) (c : List ℕ) → c ≡ v.items → HadBeen (past ++ v ∷ []) c
newest [] v c is = inl is
newest (p ∷ past) v c is = inr (newest past v c is)

drop_push : (t : ℕ) (past : Contents) (v : Vec ℕ Global) → t ≤ length past → drop t (past ++ v ∷ []) ≡ drop t past ++ v ∷ []
drop_push zero past v le = refl
drop_push (suc t) [] v le = absurd (omega arith)
drop_push (suc t) (p ∷ past) v le = drop_push t past v (omega arith)

-- what a crash since t might have left
abbrev Since : Contents → List ℕ → ℕ → List ℕ → Type 0
Since past bytes t c = (c ≡ bytes) ⊎ HadBeen (drop t past) c

abbrev moment : MemoryLogFile → ℕ
moment file = length file.past.items

abbrev left_since : MemoryLogFile → ℕ → List ℕ → Type 0
left_since file = Since file.past.items file.bytes.items

abbrev may_leave : MemoryLogFile → List ℕ → Type 0
may_leave file c = c ≡ file.bytes.items

pub elapses_same : (file : MemoryLogFile) → Elapses moment left_since may_leave file file
elapses_same file = record { later = omega arith; nothing_else = λ t c le left. inl left; keeps = λ t c le left. left }

since_push : (past : Contents) (v : Vec ℕ Global) (old new : List ℕ) → v.items ≡ old → (t : ℕ) (c : List ℕ) → t ≤ length past
    → ((c ≡ new) ⊎ HadBeen (drop t (past ++ v ∷ [])) c → Since past old t c ⊎ (c ≡ new)) × (Since past old t c → Since (past ++ v ∷ []) new t c)
since_push past v old new is t c le = (
  λ left. ⊎_elim (λ now. inr now) (λ had. inl (was (adds (drop t past) v c (subst (λ (l : Contents). HadBeen l c) (drop_push t past v le) had)))) left,
  λ left. inr (subst (λ (l : Contents). HadBeen l c) (sym (drop_push t past v le))
      (⊎_elim (λ now. newest (drop t past) v c (now ∙ sym is)) (keeps (drop t past) v c) left)),
)
  where
    was : HadBeen (drop t past) c ⊎ (c ≡ v.items) → Since past old t c
    was (inl had) = inr had
    was (inr new) = inl (new ∙ is)

-- a file with another content, which keeps the one before
pub elapses_to : (old new : MemoryLogFile) (v : Vec ℕ Global) → v.items ≡ old.bytes.items → new.past.items ≡ old.past.items ++ v ∷ []
    → Elapses moment left_since may_leave old new
elapses_to old new v is same = record {
  later = omega (arith, ap length same, length-append old.past.items (v ∷ []));
  nothing_else = λ t c le left. (since_push old.past.items v old.bytes.items new.bytes.items is t c le).0
      (subst (λ (l : Contents). (c ≡ new.bytes.items) ⊎ HadBeen (drop t l) c) same left);
  keeps = λ t c le left. subst (λ (l : Contents). (c ≡ new.bytes.items) ⊎ HadBeen (drop t l) c) (sym same)
      ((since_push old.past.items v old.bytes.items new.bytes.items is t c le).1 left);
}
