-- One line of a session.
use Rattle.std.proofs.Common.{◌≡◌, ◌⊎◌, inl, inr, ℕ, ◌+◌, Bool, true, ◌||◌, List, [], ◌∷◌, ◌++◌, length, refl, ap, subst, ◌∙◌, codes, Option, Result, Ok, Err, IfOk}
use Rattle.model.specs.declared.mode.Mode.{Mode}
use Rattle.model.specs.declared.refusal.Refusal.{Refusal}
use Rattle.model.specs.Events as events
use Rattle.model.specs.Replies as replies
use Rattle.model.specs.Worlds.{Job as GoalId}
use Rattle.model.specs.Lines.{LineResult, nothing_told}
use Rattle.model.specs.ParsedLines.{ParsedLine}
use Rattle.model.specs.Replies.{ends_wait}
use Rattle.model.specs.Talk.{LineRow, Names, Refuses, Asks, Waits, Seen, parsed_of, Gets, GetsNext, answer_text, told_in, goal_by, with_asked, is_bad_users}
use Rattle.events.specs.declared.event.Event.{Event}
use Rattle.events.specs.Terms.{event_of}
use Rattle.lines.specs.declared.line.Reading.{Reading}
use Rattle.lines.specs.declared.line.Reading.TheVariants as reading
use Rattle.lines.specs.Reading.{IsRowOf, Becomes}
use Rattle.session.specs.Serving.{Link, Gives, GivesRow, StopsAt}

abbrev pub seen_by : Mode → Bool → Bool → List LineResult → List GoalId → Seen
seen_by mode begun refused told goals = record { mode = mode; begun = begun; refused = refused; told = told; goals = goals }

-- what a line may be, where its row is that of what it comes to
pub row-gets : (goals : List GoalId) (parsed : ParsedLine) (r : Reading) (row : LineRow) → Becomes parsed r → IsRowOf goals r row → Gets goals parsed row
row-gets goals parsed reading.Silent row b e = rw e (b goals)
row-gets goals parsed (reading.Names users) row b e = rw e (b goals)
row-gets goals parsed (reading.Refuses why) row b e = rw e (b goals)
row-gets goals parsed (reading.Asks event) row b e = rw e.1 (b goals e.0)
row-gets goals parsed reading.Waits row b e = rw e.2 (b goals e.0 e.1)

-- a row with neither an event nor a wait
module _ (mode : Mode) (begun refused : Bool) (told told' : List LineResult) (goals : List GoalId) (n : ℕ) (one : LineResult) (e₁ : told' ≡ told ++ one ∷ [])
    (e₂ : one ≡ nothing_told) (e₃ : n ≡ length told + 1) where
  pub row-named : (result : Result (List ℕ) Refusal) → IfOk result (λ text. text ≡ answer_text n (codes "-") replies.Ok)
      → IfOk result (λ text. (users : List (List ℕ))
      → GivesRow (Names users) (seen_by mode begun refused told goals) (seen_by mode true refused told' goals) text)
  row-named (Ok text) e₄ = λ users. (
    ap (λ ts. seen_by mode true refused ts goals) (e₁ ∙ ap (λ x. told ++ x ∷ []) e₂),
    e₄ ∙ ap (λ k. answer_text k (codes "-") replies.Ok) e₃,
  )
  row-named (Err why) e₄ = tt

  pub row-refused : (why : Refusal) (refused' : Bool) (result : Result (List ℕ) Refusal) → refused' ≡ (is_bad_users why || refused)
      → IfOk result (λ text. text ≡ answer_text n (codes "-") (replies.Refused why))
      → IfOk result (λ text. GivesRow (Refuses why) (seen_by mode begun refused told goals) (seen_by mode begun refused' told' goals) text)
  row-refused why refused' (Ok text) f e₄ = (
    ap (λ x. seen_by mode begun x told' goals) f
        ∙ ap (λ ts. seen_by mode begun (is_bad_users why || refused) ts goals) (e₁ ∙ ap (λ x. told ++ x ∷ []) e₂),
    e₄ ∙ ap (λ k. answer_text k (codes "-") (replies.Refused why)) e₃,
  )
  row-refused why refused' (Err _) f e₄ = tt

module _ {A : Type 0} (R : A → events.Event → replies.Reply → A → Type 0) (W : A → List GoalId → replies.Reply → A → Type 0) where
  -- the row of an event
  pub gives-asked : (mode : Mode) (begun refused : Bool) (told told' : List LineResult) (goals goals' : List GoalId) (text : List ℕ) (n : ℕ) (event : Event)
      (reply : replies.Reply) (one : LineResult) (goal : Option GoalId) (now next : A)
      → told' ≡ told ++ one ∷ [] → one ≡ told_in reply → goals' ≡ with_asked goals goal → goal ≡ goal_by event.actor reply → n ≡ length told + 1
      → text ≡ answer_text n event.actor reply → R now (event_of event) reply next
      → Gives (IsRowOf goals (reading.Asks event)) (Link R W) (seen_by mode begun refused told goals) (seen_by mode begun refused told' goals') now next text
  gives-asked mode begun refused told told' goals goals' text n event reply one goal now next e₁ e₂ f₁ f₂ e₃ e₄ h = (
    Asks (event_of event) reply,
    (reply, refl),
    ap (λ ts. seen_by mode begun refused ts goals') (e₁ ∙ ap (λ x. told ++ x ∷ []) e₂)
        ∙ ap (seen_by mode begun refused (told ++ told_in reply ∷ [])) (f₁ ∙ ap (with_asked goals) f₂),
    e₄ ∙ ap (λ k. answer_text k event.actor reply) e₃,
    h,
  )

  -- the row of a wait
  pub gives-waited : (mode : Mode) (begun refused : Bool) (told told' : List LineResult) (goals shown : List GoalId) (text : List ℕ) (n : ℕ)
      (reply : replies.Reply) (one : LineResult) (now next : A)
      → told' ≡ told ++ one ∷ [] → one ≡ nothing_told → shown ≡ goals → n ≡ length told + 1 → ends_wait reply ≡ true
      → text ≡ answer_text n (codes "-") reply → W now shown reply next
      → Gives (IsRowOf goals reading.Waits) (Link R W) (seen_by mode begun refused told goals) (seen_by mode begun refused told' goals) now next text
  gives-waited mode begun refused told told' goals shown text n reply one now next e₁ e₂ f e₃ ended e₄ h = (
    Waits goals reply,
    (reply, ended, refl),
    ap (λ ts. seen_by mode begun refused ts goals) (e₁ ∙ ap (λ x. told ++ x ∷ []) e₂),
    e₄ ∙ ap (λ k. answer_text k (codes "-") reply) e₃,
    subst (λ gs. W now gs reply next) f h,
  )

  -- a row with neither leaves the answer alone
  pub gives-row : (r : Reading) (row : LineRow) (seen next : Seen) (now : A) (result : Result (List ℕ) Refusal) → IsRowOf seen.goals r row
      → Link R W now row now → IfOk result (λ text. GivesRow row seen next text)
      → IfOk result (λ text. Gives (IsRowOf seen.goals r) (Link R W) seen next now now text)
  gives-row r row seen next now (Ok text) is l h = (row, is, h.0, h.1, l)
  gives-row r row seen next now (Err why) is l h = tt

  pub asked-part : (goals : List GoalId) (event : Event) (now next : A) → ((next ≡ now) ⊎ ((reply : replies.Reply) × R now (event_of event) reply next))
      → StopsAt (IsRowOf goals (reading.Asks event)) (Link R W) now next
  asked-part goals event now next d = elim d [
    | inl e ↦ inl e
    | inr w ↦ inr (Asks (event_of event) w.0, (w.0, refl), w.1)
  ]

  pub waited-part : (goals shown : List GoalId) (now next : A) → shown ≡ goals
      → ((reply : replies.Reply) × (ends_wait reply ≡ true) × W now shown reply next) → StopsAt (IsRowOf goals reading.Waits) (Link R W) now next
  waited-part goals shown now next f w = inr (Waits goals w.0, (w.0, w.1, refl), subst (λ gs. W now gs w.0 next) f w.2)

module _ {A : Type 0} (L : A → LineRow → A → Type 0) where
  -- from what a line comes to, to the line
  pub part-gets : (seen : Seen) (line : List ℕ) (r : Reading) (now next : A) → Becomes (parsed_of seen line) r → StopsAt (IsRowOf seen.goals r) L now next
      → StopsAt (GetsNext seen line) L now next
  part-gets seen line r now next b d = elim d [
    | inl e ↦ inl e
    | inr w ↦ inr (w.0, row-gets seen.goals (parsed_of seen line) r w.0 b w.1, w.2)
  ]

  pub line-gives : (seen : Seen) (line : List ℕ) (r : Reading) (now : A) (seen' : Seen) (next : A) (text : List ℕ)
      → Becomes (parsed_of seen line) r → Gives (IsRowOf seen.goals r) L seen seen' now next text → Gives (GetsNext seen line) L seen seen' now next text
  line-gives seen line r now seen' next text b w = (w.0, row-gets seen.goals (parsed_of seen line) r w.0 b w.1, w.2, w.3, w.4)
