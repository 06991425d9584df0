-- Each step of the tokens keeps their rule.
use Rattle.std.proofs.Common.{◌≡◌, ◌≢◌, ℕ, zero, suc, ◌<◌, List, [], ◌∷◌, ◌++◌, length, set, Bool, true, false, true≢false, refl, sym, ap, ◌∙◌, subst, ⊎_elim, ◌⊎◌, inl, inr, arith}
use Rattle.std.specs.Prelude.{◌==◌, if◌then◌else◌}
use Rattle.std.proofs.lemmas.Bool.{eq-eqb}
use Rattle.std.proofs.lemmas.Bool.Decides.{nat_tests}
use mathlib.Core.Option.{some, some-ne-none, some-injective}
use lib.ListN.{get_elem?}
use Rattle.atomic_table.specs.Table.{State, Me, Allows, Splits, Joins, keeps}
use Rattle.atomic_table.proofs.Lists.{at_set}
use Rattle.history.specs.declared.row.Row.{Row}
use Rattle.history.specs.declared.log.Recorded.{Recorded}
use Rattle.history.specs.declared.log.Claimed.{Claimed}
use Rattle.history.specs.declared.log.TokenKnowledge.{TokenKnowledge}
use Rattle.history.specs.Tokens.{nothing_recorded, nothing_claimed, keeper, holder, both, without_claim, with_rows, with_pass, stopped_book, first_claim, claim_of, told, Agrees, Fits, HaveOneBook}
use Rattle.history.proofs.Prefixes.{prefix_self, prefix_push, prefix_trans}
use Rattle.history.proofs.RowLemmas.{rows_of-append, rows_of-other}

-- no value is false and true
off : false ≡ true → ⊥
off e = true≢false (sym e)

-- ---- lists

-- one element is last, or was there before
at_push : (views : List TokenKnowledge) (a b : TokenKnowledge) (j : ℕ) → get_elem? (views ++ a ∷ []) j ≡ some b
    → (get_elem? views j ≡ some b) ⊎ ((j ≡ length views) × (a ≡ b))
at_push [] a b zero e = inr (refl, some-injective a b e)
at_push [] a b (suc j) e = absurd (some-ne-none b (sym e))
at_push (v ∷ views) a b zero e = inl e
at_push (v ∷ views) a b (suc j) e = ⊎_elim (λ t. inl t) (λ (t : (j ≡ length views) × (a ≡ b)). inr (ap suc t.0 ∙ omega arith, t.1)) (at_push views a b j e)

-- ---- owners

-- a number has this owner now
abbrev moved : (ℕ → ℕ) → ℕ → ℕ → ℕ → ℕ
moved owner number place n = if n == number then place else owner n

-- the number has the new owner
moved_here : (owner : ℕ → ℕ) (number place : ℕ) → moved owner number place number ≡ place
moved_here owner number place = ap (λ b. if b then place else owner number) (eq-eqb number number refl)

-- any other number has the owner that it had
moved_else : (owner : ℕ → ℕ) (number place n : ℕ) → n ≢ number → moved owner number place n ≡ owner n
moved_else owner number place n apart = pick (n == number) refl
  where
    pick : (b : Bool) → (n == number) ≡ b → (if n == number then place else owner n) ≡ owner n
    pick true is = let e : n ≡ number = grind (arith, nat_tests) in absurd (apart e)
    pick false is = ap (λ b. if b then place else owner n) is

-- ---- claims that agree

-- a claim agrees still when a row of another pass comes
agrees_rows : (book : Recorded) (claim : Claimed) (r : Row) → claim.number ≢ r.pass → Agrees book claim → Agrees (with_rows book (book.rows ++ r ∷ [])) claim
agrees_rows book claim r apart agrees = record {
  begins = prefix_trans claim.rows book.rows (book.rows ++ r ∷ []) agrees.begins (prefix_push book.rows r);
  no_more =
      let a = rows_of-append claim.number book.rows (r ∷ []) in
      let none = rows_of-other claim.number r apart in
      omega (arith, a, none, agrees.no_more);
  stopped = agrees.stopped;
}

-- a claim of all rows agrees
agrees_all : (book : Recorded) (claim : Claimed) (rows : List Row) → (claim.stopped ≡ true → book.stopped ≡ true)
    → Agrees (with_rows book rows) (claim_of claim rows)
agrees_all book claim rows stopped = record { begins = prefix_self rows; no_more = refl; stopped = stopped }

-- a claim agrees still when it is told whether the book is stopped
agrees_told : (book : Recorded) (claim : Claimed) → Agrees book claim → Agrees book (told book.stopped claim)
agrees_told book claim agrees = record { begins = agrees.begins; no_more = agrees.no_more; stopped = λ e. e }

-- a claim agrees still when the book is stopped
agrees_stopped : (book : Recorded) (claim : Claimed) → Agrees book claim → Agrees (stopped_book book) claim
agrees_stopped book claim agrees = record { begins = agrees.begins; no_more = agrees.no_more; stopped = λ e. refl }

-- a claim agrees still when there is a pass more
agrees_pass : (book : Recorded) (claim : Claimed) → Agrees book claim → Agrees (with_pass book) claim
agrees_pass book claim agrees = record { begins = agrees.begins; no_more = agrees.no_more; stopped = agrees.stopped }

-- ---- one token changes

-- all tokens fit where one was set
fits_set : (keeper : ℕ) (book : Recorded) (owner : ℕ → ℕ) (views : List TokenKnowledge) (place : ℕ) (w : TokenKnowledge)
    → ((j : ℕ) (u : TokenKnowledge) → j ≢ place → get_elem? views j ≡ some u → Fits keeper book owner j u) → Fits keeper book owner place w
    → (j : ℕ) (u : TokenKnowledge) → get_elem? (set views place w) j ≡ some u → Fits keeper book owner j u
fits_set keeper book owner views place w others mine j u e =
    ⊎_elim
    (λ (x : (j ≡ place) × (w ≡ u)). subst (λ (y : ℕ × TokenKnowledge). Fits keeper book owner y.0 y.1) (λ i. (sym x.0 i, x.1 i)) mine)
    (λ (x : (j ≢ place) × (get_elem? views j ≡ some u)). others j u x.0 x.1)
    (at_set views place j w u e)

-- the log records another book, with which all claims agree
keeper_steps : (views : List TokenKnowledge) (h : HaveOneBook views) (place : ℕ) (v w : TokenKnowledge) → get_elem? views place ≡ some v
    → v.keeps ≡ true → w.recorded.next ≡ v.recorded.next
    → ((claim : Claimed) → place ≢ h.owner claim.number → Agrees v.recorded claim → Agrees w.recorded claim)
    → (w.claims ≡ true → (place ≡ h.owner w.claimed.number) × (w.claimed.number < v.recorded.next) × Agrees w.recorded w.claimed)
    → HaveOneBook (set views place w)
keeper_steps views h place v w at is same others own =
    let mine = (h.fits place v at).keeps is in record {
      keeper = h.keeper;
      book = w.recorded;
      owner = h.owner;
      fits = fits_set h.keeper w.recorded h.owner views place w
          (λ j u apart e. let f = h.fits j u e in record {
            keeps = λ k. absurd (apart ((f.keeps k).0 ∙ sym mine.0));
            claims = λ k. let c = f.claims k in (
              c.0,
              subst (λ n. u.claimed.number < n) (sym (same ∙ ap (λ (b : Recorded). b.next) mine.1)) c.1,
              others u.claimed (λ there. apart (c.0 ∙ sym there)) (subst (λ b. Agrees b u.claimed) (sym mine.1) c.2),
            );
          })
          (record {
            keeps = λ k. (mine.0, refl);
            claims = λ k. let c = own k in (c.0, subst (λ n. w.claimed.number < n) (sym same) c.1, c.2);
          });
    }

-- ---- the rule

-- the first token alone
pub begins : HaveOneBook (keeper nothing_recorded ∷ [])
begins = record { keeper = 0; book = nothing_recorded; owner = λ n. 0; fits = one }
  where
    one : (j : ℕ) (v : TokenKnowledge) → get_elem? (keeper nothing_recorded ∷ []) j ≡ some v → Fits 0 nothing_recorded (λ n. 0) j v
    one zero v e = subst (Fits 0 nothing_recorded (λ n. 0) 0) (some-injective _ _ e) record { keeps = λ _. (refl, refl); claims = λ k. absurd (off k) }
    one (suc j) v e = absurd (some-ne-none v (sym e))

module _ {S : Type 0} where
  abbrev rule : State S TokenKnowledge → Type 0
  rule s = HaveOneBook s.views

  -- the log records a row of the pass whose claim it has beside it
  grows : (slots place : ℕ) (book : Recorded) (claim : Claimed) (r : Row) → r.pass ≡ claim.number
      → Allows rule slots place (both book claim, []) 0 (λ n. n) (λ n me. me ≡ (both (with_rows book (book.rows ++ r ∷ [])) (claim_of claim (book.rows ++ r ∷ [])), []))
  grows slots place book claim r is s h len at lt =
      let rows : List Row = book.rows ++ r ∷ [] in
      let mine = (h.fits place (both book claim) at).claims refl in
      let known = ((h.fits place (both book claim) at).keeps refl).1 in (
        both (with_rows book rows) (claim_of claim rows),
        keeps,
        tt,
        keeper_steps s.views h place (both book claim) (both (with_rows book rows) (claim_of claim rows)) at refl refl
            (λ c apart agrees. agrees_rows book c r (λ e. apart (mine.0 ∙ ap h.owner (sym (e ∙ is)))) agrees)
            (λ k. (mine.0, subst (λ (b : Recorded). claim.number < b.next) (sym known) mine.1, agrees_all book claim rows (λ e. ap (λ (b : Recorded). b.stopped) known ∙ mine.2.stopped e))),
        refl,
      )

  -- the same, of a token that is such a log
  pub grows_as : (slots place : ℕ) (me : Me S TokenKnowledge) (book : Recorded) (claim : Claimed) (rows : List Row) (r : Row)
      → me ≡ (both book claim, []) → rows ≡ book.rows ++ r ∷ [] → r.pass ≡ claim.number
      → Allows rule slots place me 0 (λ n. n) (λ n w. w ≡ (both (with_rows me.0.recorded rows) (claim_of me.0.claimed rows), []))
  grows_as slots place me book claim rows r is all mine =
      subst (λ (m : Me S TokenKnowledge). Allows rule slots place m 0 (λ n. n) (λ n w. w ≡ (both (with_rows m.0.recorded rows) (claim_of m.0.claimed rows), []))) (sym is)
      (subst (λ l. Allows rule slots place (both book claim, []) 0 (λ n. n) (λ n w. w ≡ (both (with_rows book l) (claim_of claim l), []))) (sym all) (grows slots place book claim r mine))

  -- the log compares the claim that it has beside it
  compares : (slots place : ℕ) (book : Recorded) (claim : Claimed)
      → Allows rule slots place (both book claim, []) 0 (λ n. n) (λ n me. (me ≡ (both book (told book.stopped claim), [])) × Agrees book claim)
  compares slots place book claim s h len at lt =
      let mine = (h.fits place (both book claim) at).claims refl in
      let known = ((h.fits place (both book claim) at).keeps refl).1 in
      let agrees : Agrees book claim = subst (λ b. Agrees b claim) (sym known) mine.2 in (
        both book (told book.stopped claim),
        keeps,
        tt,
        keeper_steps s.views h place (both book claim) (both book (told book.stopped claim)) at refl refl
            (λ c apart same. same)
            (λ k. (mine.0, subst (λ (b : Recorded). claim.number < b.next) (sym known) mine.1, agrees_told book claim agrees)),
        (refl, agrees),
      )

  -- the same, of a token that is such a log
  pub compares_as : (slots place : ℕ) (me : Me S TokenKnowledge) (book : Recorded) (claim : Claimed) → me ≡ (both book claim, [])
      → Allows rule slots place me 0 (λ n. n) (λ n w. (w ≡ (both me.0.recorded (told me.0.recorded.stopped me.0.claimed), [])) × Agrees me.0.recorded me.0.claimed)
  compares_as slots place me book claim is =
      subst (λ (m : Me S TokenKnowledge). Allows rule slots place m 0 (λ n. n) (λ n w. (w ≡ (both m.0.recorded (told m.0.recorded.stopped m.0.claimed), [])) × Agrees m.0.recorded m.0.claimed)) (sym is)
      (compares slots place book claim)

  -- the log records that the book is stopped
  stops : (slots place : ℕ) (book : Recorded) → Allows rule slots place (keeper book, []) 0 (λ n. n) (λ n me. me ≡ (keeper (stopped_book book), []))
  stops slots place book s h len at lt = (
    keeper (stopped_book book),
    keeps,
    tt,
    keeper_steps s.views h place (keeper book) (keeper (stopped_book book)) at refl refl (λ c apart agrees. agrees_stopped book c agrees) (λ k. absurd (off k)),
    refl,
  )

  -- the same, of a token that is such a log
  pub stops_as : (slots place : ℕ) (me : Me S TokenKnowledge) (book : Recorded) → me ≡ (keeper book, [])
      → Allows rule slots place me 0 (λ n. n) (λ n w. w ≡ (keeper (stopped_book me.0.recorded), []))
  stops_as slots place me book is = subst (λ (m : Me S TokenKnowledge). Allows rule slots place m 0 (λ n. n) (λ n w. w ≡ (keeper (stopped_book m.0.recorded), []))) (sym is) (stops slots place book)

  -- a claim goes to a new token
  pub takes_out : (place : ℕ) (v : TokenKnowledge) → v.claims ≡ true → Splits rule place v (without_claim v) (holder v.claimed)
  takes_out place v is s h at =
      let mine = (h.fits place v at).claims is in
      let left : List TokenKnowledge = set s.views place (without_claim v) in
      let owner : ℕ → ℕ = moved h.owner v.claimed.number (length left) in
      let stays : (j : ℕ) (u : TokenKnowledge) → j ≢ place → get_elem? s.views j ≡ some u → Fits h.keeper h.book owner j u = λ j u apart e.
      let f = h.fits j u e in record {
        keeps = f.keeps;
        claims = λ k. let c = f.claims k in
            (c.0 ∙ sym (moved_else h.owner v.claimed.number (length left) u.claimed.number (λ same. apart (c.0 ∙ (ap h.owner same ∙ sym mine.0)))), c.1, c.2);
      } in
      let was : (j : ℕ) (u : TokenKnowledge) → get_elem? left j ≡ some u → Fits h.keeper h.book owner j u =
      fits_set h.keeper h.book owner s.views place (without_claim v) stays record { keeps = (h.fits place v at).keeps; claims = λ k. absurd (off k) } in
      record {
        keeper = h.keeper;
        book = h.book;
        owner = owner;
        fits = λ j u e. ⊎_elim
            (λ there. was j u there)
            (λ (last : (j ≡ length left) × (holder v.claimed ≡ u)). subst (Fits h.keeper h.book owner j) last.1 record {
              keeps = λ k. absurd (off k);
              claims = λ k. (last.0 ∙ sym (moved_here h.owner v.claimed.number (length left)), mine.1, mine.2);
            })
            (at_push left (holder v.claimed) u j e);
      }

  -- the log makes the claim of the next pass
  deals : (place : ℕ) (book : Recorded) → Splits rule place (keeper book) (keeper (with_pass book)) (holder (first_claim book))
  deals place book s h at =
      let mine = (h.fits place (keeper book) at).keeps refl in
      let left : List TokenKnowledge = set s.views place (keeper (with_pass book)) in
      let owner : ℕ → ℕ = moved h.owner book.next (length left) in
      let next = ap (λ (b : Recorded). b.next) mine.1 in
      let stays : (j : ℕ) (u : TokenKnowledge) → j ≢ place → get_elem? s.views j ≡ some u → Fits h.keeper (with_pass book) owner j u = λ j u apart e.
      let f = h.fits j u e in record {
        keeps = λ k. absurd (apart ((f.keeps k).0 ∙ sym mine.0));
        claims = λ k. let c = f.claims k in (
          c.0 ∙ sym (moved_else h.owner book.next (length left) u.claimed.number (λ same. omega (arith, c.1, same, next))),
          omega (arith, c.1, next),
          agrees_pass book u.claimed (subst (λ b. Agrees b u.claimed) (sym mine.1) c.2),
        );
      } in
      let was : (j : ℕ) (u : TokenKnowledge) → get_elem? left j ≡ some u → Fits h.keeper (with_pass book) owner j u =
      fits_set h.keeper (with_pass book) owner s.views place (keeper (with_pass book)) stays record { keeps = λ k. (mine.0, refl); claims = λ k. absurd (off k) } in
      record {
        keeper = h.keeper;
        book = with_pass book;
        owner = owner;
        fits = λ j u e. ⊎_elim
            (λ there. was j u there)
            (λ (last : (j ≡ length left) × (holder (first_claim book) ≡ u)). subst (Fits h.keeper (with_pass book) owner j) last.1 record {
              keeps = λ k. absurd (off k);
              claims = λ k. (last.0 ∙ sym (moved_here h.owner book.next (length left)), omega arith, record { begins = prefix_self book.rows; no_more = refl; stopped = λ e. absurd (off e) });
            })
            (at_push left (holder (first_claim book)) u j e);
      }

  -- the same, of a token that is the log
  pub deals_as : (place : ℕ) (v : TokenKnowledge) (book : Recorded) → v ≡ keeper book
      → Splits rule place v (keeper (with_pass v.recorded)) (holder (first_claim v.recorded))
  deals_as place v book is = subst (λ (u : TokenKnowledge). Splits rule place u (keeper (with_pass u.recorded)) (holder (first_claim u.recorded))) (sym is) (deals place book)

  -- the log takes in a claim
  joins : (place : ℕ) (book : Recorded) (other : ℕ) (claim : Claimed)
      → Joins rule place (keeper book) other (holder claim) (both book claim) (without_claim (holder nothing_claimed))
  joins place book other claim s h at apart there =
      let w : TokenKnowledge = both book claim in
      let mine = (h.fits place (keeper book) at).keeps refl in
      let theirs = ⊎_elim
      (λ (t : (other ≡ place) × (w ≡ holder claim)). absurd (apart t.0))
      (λ (t : (other ≢ place) × (get_elem? s.views other ≡ some (holder claim))). (h.fits other (holder claim) t.1).claims refl)
      (at_set s.views place other w (holder claim) there) in
      let owner : ℕ → ℕ = moved h.owner claim.number place in
      let stays : (j : ℕ) (u : TokenKnowledge) → j ≢ other → get_elem? s.views j ≡ some u → Fits h.keeper h.book owner j u = λ j u away e.
      let f = h.fits j u e in record {
        keeps = f.keeps;
        claims = λ k. let c = f.claims k in
            (c.0 ∙ sym (moved_else h.owner claim.number place u.claimed.number (λ same. away (c.0 ∙ (ap h.owner same ∙ sym theirs.0)))), c.1, c.2);
      } in
      let joined : Fits h.keeper h.book owner place w =
      record { keeps = λ k. mine; claims = λ k. (sym (moved_here h.owner claim.number place), theirs.1, theirs.2) } in
      record {
        keeper = h.keeper;
        book = h.book;
        owner = owner;
        fits = fits_set h.keeper h.book owner (set s.views place w) other (without_claim (holder nothing_claimed))
            (λ j u away e. ⊎_elim
            (λ (x : (j ≡ place) × (w ≡ u)). subst (λ (y : ℕ × TokenKnowledge). Fits h.keeper h.book owner y.0 y.1) (λ i. (sym x.0 i, x.1 i)) joined)
            (λ (x : (j ≢ place) × (get_elem? s.views j ≡ some u)). stays j u away x.1)
            (at_set s.views place j w u e))
            (record { keeps = λ k. absurd (off k); claims = λ k. absurd (off k) });
      }

  -- the same, of tokens that are the log and the claim's
  pub joins_as : (place : ℕ) (v : TokenKnowledge) (book : Recorded) (other : ℕ) (u : TokenKnowledge) (claim : Claimed) → v ≡ keeper book → u ≡ holder claim
      → Joins rule place v other u (both v.recorded u.claimed) (without_claim (holder nothing_claimed))
  joins_as place v book other u claim is held =
      subst (λ (x : TokenKnowledge). Joins rule place x other u (both x.recorded u.claimed) (without_claim (holder nothing_claimed))) (sym is)
      (subst (λ (x : TokenKnowledge). Joins rule place (keeper book) other x (both book x.claimed) (without_claim (holder nothing_claimed))) (sym held) (joins place book other claim))
