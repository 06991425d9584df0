-- The calls of a pass, one after another, and what they leave in the history.
use Rattle.std.proofs.Common.{◌≡◌, ℕ, ◌+◌, Bool, true, false, ◌⊎◌, inl, inr, refl, sym, ◌∙◌, ap, subst, arith, List, [], ◌∷◌, ◌++◌}
use Rattle.std.specs.Prelude.{◌==◌, if◌then◌else◌}
use Rattle.std.proofs.lemmas.Bool.{eq-eqb}
use Rattle.std.proofs.lemmas.List.{append-nil, append_assoc}
use mathlib.Core.List.{IsPrefix}
use Rattle.model.specs.Worlds.{Setup}
use Rattle.model.proofs.BoolLemmas.{either}
use Rattle.events.specs.declared.event.Event.{Event}
use Rattle.events.specs.declared.reply.Reply.{Reply}
use Rattle.history.specs.declared.row.Row.{Row}
use Rattle.history.specs.Callers.{Caller, PassKnowledge, answered, told_stopped, rows_of}
use Rattle.history.proofs.Prefixes.{prefix_self, prefix_trans}
use Rattle.history.proofs.RowLemmas.{rows_of-append, one_more}
use Rattle.history.specs.Histories.{row, unrecorded, IsReadAfter}
use Rattle.builder.specs.Working.{Call}
use Rattle.running.specs.Calling.{is_read, has_row, IsTold, own_rows, rows_for, AnsweredInOrder}
use Rattle.running.specs.Meeting.{HasMet, unrecorded_cases, is_stopped, stopped_met, stopped_called}
use Rattle.teams.specs.Sessions.{Calls}

-- ---- rows of one pass

own_append : (n : ℕ) (xs ys : List Row) → own_rows n (xs ++ ys) ≡ own_rows n xs ++ own_rows n ys
own_append n [] ys = refl
own_append n (x ∷ xs) ys = elim (either (x.pass == n)) [
  | inl t ↦ rw t (ap (λ rest. x ∷ rest) (own_append n xs ys))
  | inr f ↦ rw f (own_append n xs ys)
]

-- where none is counted there is none
none_own : (n : ℕ) (xs : List Row) → rows_of n xs ≡ 0 → own_rows n xs ≡ []
none_own n [] none = refl
none_own n (x ∷ xs) none = elim (either (x.pass == n)) [
  | inl t ↦ (let counted = rw t at none in absurd (omega (arith, counted)))
  | inr f ↦ rw f (none_own n xs (omega (arith, rw f at none)))
]

own_one : (n : ℕ) (e : Event) (r : Reply) → own_rows n (row n e r ∷ []) ≡ row n e r ∷ []
own_one n e r = ap (λ (b : Bool). if b then row n e r ∷ [] else []) (eq-eqb n n refl)

-- rows that go on have no more of a pass where no more are counted
pub own_longer : (n : ℕ) (xs ys : List Row) → IsPrefix xs ys → rows_of n ys ≡ rows_of n xs → own_rows n ys ≡ own_rows n xs
own_longer n xs ys longer same =
    let rest : List Row = longer.0 in
    let split : rows_of n ys ≡ rows_of n xs + rows_of n rest = ap (rows_of n) (sym longer.1) ∙ rows_of-append n xs rest in
    ap (own_rows n) (sym longer.1) ∙ own_append n xs rest
    ∙ ap (λ rows. own_rows n xs ++ rows) (none_own n rest (omega (arith, split, same)))
    ∙ append-nil (own_rows n xs)

rows_append : (n : ℕ) (cs ds : List Call) → rows_for n (cs ++ ds) ≡ rows_for n cs ++ rows_for n ds
rows_append n [] ds = refl
rows_append n (c ∷ cs) ds = elim (either (has_row c)) [
  | inl t ↦ rw t (ap (λ rest. row n c.0 c.1 ∷ rest) (rows_append n cs ds))
  | inr f ↦ rw f (rows_append n cs ds)
]

-- ---- one call

-- a call that has a row adds it, and no other of the pass
answered_own : (old new : Caller) (e : Event) (r : Reply) (before : List Row) → rows_of old.number old.sure ≡ old.calls
    → rows_of new.number new.sure ≡ new.calls
    → IsPrefix old.sure before → new ≡ answered old (before ++ row old.number e r ∷ [])
    → own_rows old.number new.sure ≡ own_rows old.number old.sure ++ row old.number e r ∷ []
answered_own old new e r before counted counted_now longer same =
    let n : ℕ = old.number in
    let sure : new.sure ≡ before ++ row n e r ∷ [] = ap (λ (p : Caller). p.sure) same in
    let number : new.number ≡ n = ap (λ (p : Caller). p.number) same in
    let calls : new.calls ≡ old.calls + 1 = ap (λ (p : Caller). p.calls) same in
    let now : rows_of n (before ++ row n e r ∷ []) ≡ old.calls + 1 =
    subst (λ k. rows_of k (before ++ row n e r ∷ []) ≡ old.calls + 1) number (ap (rows_of new.number) (sym sure) ∙ counted_now ∙ calls) in
    let more = one_more n before (row n e r) refl in
    let kept : own_rows n before ≡ own_rows n old.sure = own_longer n old.sure before longer (omega (arith, now, more, counted)) in
    ap (own_rows n) sure ∙ own_append n before (row n e r ∷ []) ∙ ap (λ rows. rows ++ own_rows n (row n e r ∷ [])) kept
    ∙ ap (λ rows. own_rows n old.sure ++ rows) (own_one n e r)

module _ (setup : Setup) where
  -- a call that has no row leaves what the pass knows of its calls, but that the front may be stopped
  told_same : (old new : PassKnowledge) (e : Event) (r : Reply) → IsTold setup old e r new → has_row (e, r) ≡ false
      → (new.caller ≡ old.caller) ⊎ (new.caller ≡ told_stopped old.caller)
  told_same old new e r told none = elim (either (unrecorded r)) [
    | inl gave ↦ elim (unrecorded_cases r gave) [
      | inl memory ↦ inl (told.memory memory)
      | inr stopped ↦ inr (told.stopped stopped)
    ]
    | inr some ↦ elim (either (is_read e)) [
      | inl read ↦ inl (ap (λ (k : PassKnowledge). k.caller) (told.only_read read).0)
      | inr called ↦ absurd (let is : has_row (e, r) ≡ true = rw (some, called) refl in cc)
    ]
  ]

  -- the rows that the pass is sure of, of its own, are those that it had and that of the call
  pub record Adds (old : Caller) (calls : List Call) (new : Caller) : Type 0 where
    pub number : new.number ≡ old.number
    pub own : own_rows old.number new.sure ≡ own_rows old.number old.sure ++ rows_for old.number calls

  adds_none : (old new : Caller) → new.number ≡ old.number → new.sure ≡ old.sure → Adds old [] new
  adds_none old new number sure = record { number = number; own = ap (own_rows old.number) sure ∙ sym (append-nil (own_rows old.number old.sure)) }

  adds_more : (a b c : Caller) (cs ds : List Call) → Adds a cs b → Adds b ds c → Adds a (cs ++ ds) c
  adds_more a b c cs ds first next = record {
    number = next.number ∙ first.number;
    own =
        let later : own_rows a.number c.sure ≡ own_rows a.number b.sure ++ rows_for a.number ds =
        subst (λ n. own_rows n c.sure ≡ own_rows n b.sure ++ rows_for n ds) first.number next.own in
        later ∙ ap (λ rows. rows ++ rows_for a.number ds) first.own
        ∙ append_assoc (own_rows a.number a.sure) (rows_for a.number cs) (rows_for a.number ds)
        ∙ ap (λ rows. own_rows a.number a.sure ++ rows) (sym (rows_append a.number cs ds));
  }

  adds_called : (old new : PassKnowledge) (e : Event) (r : Reply) → IsTold setup old e r new → Adds old.caller ((e, r) ∷ []) new.caller
  adds_called old new e r told = elim (either (has_row (e, r))) [
    | inl some ↦
        let a = told.answered some in
        let n : ℕ = old.caller.number in
        let one : rows_for n ((e, r) ∷ []) ≡ row n e r ∷ [] = ap (λ (b : Bool). if b then row n e r ∷ [] else []) some in
        let longer : IsPrefix old.caller.sure a.before = prefix_trans old.caller.sure old.seen a.before told.before.seen a.longer in
        record {
          number = ap (λ (p : Caller). p.number) a.sure;
          own = answered_own old.caller new.caller e r a.before told.before.rows told.after.rows longer a.sure
              ∙ ap (λ rows. own_rows n old.caller.sure ++ rows) (sym one);
        }
    | inr none ↦
        let n : ℕ = old.caller.number in
        let no_row : rows_for n ((e, r) ∷ []) ≡ [] = ap (λ (b : Bool). if b then row n e r ∷ [] else []) none in
        let same : Adds old.caller [] new.caller = elim (told_same old new e r told none) [
          | inl as_it_was ↦ adds_none old.caller new.caller (ap (λ (p : Caller). p.number) as_it_was) (ap (λ (p : Caller). p.sure) as_it_was)
          | inr stopped ↦ adds_none old.caller new.caller (ap (λ (p : Caller). p.number) stopped) (ap (λ (p : Caller). p.sure) stopped)
        ] in
        record { number = same.number; own = same.own ∙ ap (λ rows. own_rows n old.caller.sure ++ rows) (sym no_row) }
  ]

  adds_met : (old new : PassKnowledge) → HasMet old new → Adds old.caller [] new.caller
  adds_met old new met = adds_none old.caller new.caller (ap (λ (p : Caller). p.number) met.caller) (ap (λ (p : Caller). p.sure) met.caller)

  -- ---- many calls

  abbrev Chain : PassKnowledge → List Call → PassKnowledge → Type 0
  Chain = Calls (IsTold setup) HasMet

  pub chain_adds : (old : PassKnowledge) (calls : List Call) (new : PassKnowledge) → Chain old calls new → Adds old.caller calls new.caller
  chain_adds old [] new chain = adds_met old new chain
  chain_adds old (c ∷ cs) new chain =
      adds_more old.caller chain.0.caller new.caller [] (c ∷ cs) (adds_met old chain.0 chain.2)
      (adds_more chain.0.caller chain.1.caller new.caller (c ∷ []) cs (adds_called chain.0 chain.1 c.0 c.1 chain.3) (chain_adds chain.1 cs new chain.4))

  -- what was counted is counted
  pub chain_counts : (old : PassKnowledge) (calls : List Call) (new : PassKnowledge) → Chain old calls new
      → rows_of old.caller.number old.caller.sure ≡ old.caller.calls → rows_of new.caller.number new.caller.sure ≡ new.caller.calls
  chain_counts old [] new chain counted =
      subst (λ (p : Caller). rows_of p.number p.sure ≡ p.calls) (sym chain.caller) counted
  chain_counts old (c ∷ cs) new chain counted = chain_counts chain.1 cs new chain.4 chain.3.after.rows

  pub chain_seen : (old : PassKnowledge) (calls : List Call) (new : PassKnowledge) → Chain old calls new → IsPrefix old.seen new.seen
  chain_seen old [] new chain = chain.seen
  chain_seen old (c ∷ cs) new chain =
      prefix_trans old.seen chain.0.seen new.seen chain.2.seen
      (prefix_trans chain.0.seen chain.1.seen new.seen chain.3.seen (chain_seen chain.1 cs new chain.4))

  pub chain_stopped : (old : PassKnowledge) (calls : List Call) (new : PassKnowledge) → Chain old calls new → is_stopped old ≡ true → is_stopped new ≡ true
  chain_stopped old [] new chain is = stopped_met old new chain is
  chain_stopped old (c ∷ cs) new chain is =
      chain_stopped chain.1 cs new chain.4 (stopped_called setup chain.0 chain.1 c.0 c.1 chain.3 (stopped_met old chain.0 chain.2 is))

  -- each call was answered by what the pass has seen then
  pub chain_order : (history : List Row) (n : ℕ) (known : List Row) (old : PassKnowledge) (calls : List Call) (new : PassKnowledge) → old.caller.number ≡ n
      → IsPrefix known old.seen → IsPrefix new.seen history → Chain old calls new → AnsweredInOrder setup history n known calls
  chain_order history n known old [] new number knows within chain = tt
  chain_order history n known old (c ∷ cs) new number knows within chain =
      let ready : PassKnowledge = chain.0 in
      let between : PassKnowledge = chain.1 in
      let told = chain.3 in
      let at_call : ready.caller.number ≡ n = (adds_met old ready chain.2).number ∙ number in
      let behind : between.caller.number ≡ n = (adds_called ready between c.0 c.1 told).number ∙ at_call in
      let knows_ready : IsPrefix known ready.seen = prefix_trans known old.seen ready.seen knows chain.2.seen in
      let knows_then : IsPrefix known between.seen = prefix_trans known ready.seen between.seen knows_ready told.seen in
      let within_then : IsPrefix between.seen history = prefix_trans between.seen new.seen history (chain_seen between cs new chain.4) within in
      elim (either (unrecorded c.1)) [
        | inl gave ↦ rw gave (chain_order history n known between cs new behind knows_then within chain.4)
        | inr some ↦ rw some (
          between.seen,
          within_then,
          elim (either (is_read c.0)) [
            | inl read ↦ rw read (knows_then, subst (λ k. IsReadAfter setup k between.seen c.0 c.1) at_call (told.read read some))
            | inr called ↦
                let a = told.answered (rw (some, called) refl) in
                rw called (
                  a.before,
                  prefix_trans known ready.seen a.before knows_ready a.longer,
                  a.seen ∙ ap (λ k. a.before ++ row k c.0 c.1 ∷ []) at_call,
                )
          ],
          chain_order history n between.seen between cs new behind (prefix_self between.seen) within chain.4,
        )
      ]
