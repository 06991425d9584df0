-- Each step of the ends keeps the rule of the queue.
use Rattle.std.proofs.Common.{◌≡◌, ◌≢◌, ℕ, zero, suc, ◌+◌, ◌<◌, Bool, true, false, true≢false, List, [], ◌∷◌, ◌++◌, length, set, refl, sym, ap, ◌∙◌, subst, ⊎_elim, ◌⊎◌, inl, inr, arith, append_assoc}
use Rattle.std.specs.Prelude.{◌==◌, if◌then◌else◌}
use Rattle.std.proofs.lemmas.Bool.{eq-eqb}
use Rattle.std.proofs.lemmas.Bool.Decides.{nat_tests}
use mathlib.Core.Option.{some, some-ne-none, some-injective}
use lib.ListN.{get_elem?}
use Rattle.crossbeam_channel.specs.Fifo.{Pushes, Pops, Forks, Merges, Learns}
use Rattle.atomic_table.proofs.Lists.{at_set}
use Rattle.builder.specs.declared.ticket.Ticket.{Ticket}
use Rattle.builder.specs.declared.queue.QueueEnd.{QueueEnd}
use Rattle.builder.specs.Queue.{producer, consumer, idle, Puts, Takes, Taken, tickets_in, own, owns, AreOf, Fits, HandsOn, Told}

off : false ≡ true → ⊥
off e = true≢false (sym e)

-- ---- lists

at_push : (views : List QueueEnd) (a b : QueueEnd) (j : ℕ) → get_elem? (views ++ a ∷ []) j ≡ some b
    → (get_elem? views j ≡ some b) ⊎ ((j ≡ length views) × (a ≡ b))
at_push [] a b zero e = inr (refl, some-injective a b e)
at_push [] a b (suc j) e = absurd (some-ne-none b (sym e))
at_push (v ∷ views) a b zero e = inl e
at_push (v ∷ views) a b (suc j) e = ⊎_elim (λ t. inl t) (λ (t : (j ≡ length views) × (a ≡ b)). inr (ap suc t.0 ∙ omega arith, t.1)) (at_push views a b j e)

-- no element stands behind the last
past_end : (views : List QueueEnd) (b : QueueEnd) (j : ℕ) → get_elem? views j ≡ some b → j ≢ length views
past_end [] b j e same = absurd (some-ne-none b (sym e))
past_end (v ∷ views) b zero e same = omega (arith, same)
past_end (v ∷ views) b (suc j) e same = past_end views b j e (omega (arith, same))

of_push : (n : ℕ) (log : List Taken) (e : Taken) → AreOf n log → e.0 < n → AreOf n (log ++ e ∷ [])
of_push n [] e all p = (p, tt)
of_push n (f ∷ fs) e all p = (all.0, of_push n fs e all.1 p)

of_more : (n m : ℕ) (log : List Taken) → ((k : ℕ) → k < n → k < m) → AreOf n log → AreOf m log
of_more n m [] f all = tt
of_more n m (e ∷ es) f all = (f e.0 all.0, of_more n m es f all.1)

-- ---- the tickets taken

tickets_push : (log : List Taken) (k : ℕ) (x : Ticket) → tickets_in (log ++ (k, x) ∷ []) ≡ tickets_in log ++ x ∷ []
tickets_push [] k x = refl
tickets_push (e ∷ es) k x = ap (λ l. e.1 ∷ l) (tickets_push es k x)

-- the end's own
own_mine : (log : List Taken) (k : ℕ) (x : Ticket) → own k (log ++ (k, x) ∷ []) ≡ own k log ++ x ∷ []
own_mine [] k x = ap (λ b. if b then x ∷ [] else []) (eq-eqb k k refl)
own_mine (e ∷ es) k x = pick (e.0 == k) refl (own_mine es k x)
  where
    pick : (b : Bool) → (e.0 == k) ≡ b → own k (es ++ (k, x) ∷ []) ≡ own k es ++ x ∷ [] → own k ((e ∷ es) ++ (k, x) ∷ []) ≡ own k (e ∷ es) ++ x ∷ []
    pick true is h =
        ap (λ b. if b then e.1 ∷ own k (es ++ (k, x) ∷ []) else own k (es ++ (k, x) ∷ [])) is
        ∙ ap (λ l. e.1 ∷ l) h
        ∙ sym (ap (λ b. (if b then e.1 ∷ own k es else own k es) ++ x ∷ []) is)
    pick false is h =
        ap (λ b. if b then e.1 ∷ own k (es ++ (k, x) ∷ []) else own k (es ++ (k, x) ∷ [])) is
        ∙ h
        ∙ sym (ap (λ b. (if b then e.1 ∷ own k es else own k es) ++ x ∷ []) is)

neq : (n k : ℕ) → n ≢ k → (n == k) ≡ false
neq n k apart = pick (n == k) refl
  where
    pick : (b : Bool) → (n == k) ≡ b → (n == k) ≡ false
    pick true is = let e : n ≡ k = grind (arith, nat_tests) in absurd (apart e)
    pick false is = is

-- another end's
own_other : (log : List Taken) (k n : ℕ) (x : Ticket) → n ≢ k → own k (log ++ (n, x) ∷ []) ≡ own k log
own_other [] k n x apart = ap (λ b. if b then x ∷ [] else []) (neq n k apart)
own_other (e ∷ es) k n x apart = ap (λ l. if e.0 == k then e.1 ∷ l else l) (own_other es k n x apart)

-- a number that no end has took nothing
own_none : (log : List Taken) (k : ℕ) → AreOf k log → own k log ≡ []
own_none [] k all = refl
own_none (e ∷ es) k all =
    ap (λ b. if b then e.1 ∷ own k es else own k es) (neq e.0 k (λ same. let low = all.0 in omega (arith, low, same)))
    ∙ own_none es k all.1

-- ends of greater numbers
owns_other : (log : List Taken) (k m n : ℕ) (x : Ticket) → n < k → owns k m (log ++ (n, x) ∷ []) ≡ owns k m log
owns_other log k zero n x low = refl
owns_other log k (suc m) n x low =
    ap (λ l. l ∷ owns (suc k) m (log ++ (n, x) ∷ [])) (own_other log k n x (λ same. omega (arith, low, same)))
    ∙ ap (λ l. own k log ∷ l) (owns_other log (suc k) m n x (omega (arith, low)))

-- ---- the rule

pub begins : HandsOn [] (producer [] 0 [] ∷ [])
begins = record {
  keeps_at = 0;
  put = [];
  out = 0;
  back = [];
  log = [];
  owner = λ n. 0;
  all = refl;
  came_back = refl;
  of_hands = tt;
  fits = one;
}
  where
    one : (j : ℕ) (v : QueueEnd) → get_elem? (producer [] 0 [] ∷ []) j ≡ some v → Fits 0 [] 0 [] [] (λ n. 0) j v
    one zero v e = subst (λ u. Fits 0 [] 0 [] [] (λ n. 0) 0 u) (some-injective (producer [] 0 []) v e) (record { keeps = λ _. (refl, refl, refl, refl); takes = λ p. absurd (off p) })
    one (suc j) v e = absurd (some-ne-none v (sym e))

-- all ends fit where one was set
fits_set : (F : ℕ → QueueEnd → Type 0) (views : List QueueEnd) (place : ℕ) (w : QueueEnd)
    → ((j : ℕ) (u : QueueEnd) → j ≢ place → get_elem? views j ≡ some u → F j u) → F place w
    → (j : ℕ) (u : QueueEnd) → get_elem? (set views place w) j ≡ some u → F j u
fits_set F views place w others mine j u e =
    ⊎_elim
    (λ (x : (j ≡ place) × (w ≡ u)). subst (λ (y : ℕ × QueueEnd). F y.0 y.1) (λ i. (sym x.0 i, x.1 i)) mine)
    (λ (x : (j ≢ place) × (get_elem? views j ≡ some u)). others j u x.0 x.1)
    (at_set views place j w u e)

pub puts : (n place : ℕ) (v : QueueEnd) (x : Ticket) → v.keeps ≡ true → Pushes HandsOn n place v x (Puts v x)
puts n place v x keeps items views room h at =
    let mine = (h.fits place v at).keeps keeps in
    let w : QueueEnd = producer (v.put ++ x ∷ []) v.out v.back in (
      w,
      record {
        keeps_at = h.keeps_at;
        put = h.put ++ x ∷ [];
        out = h.out;
        back = h.back;
        log = h.log;
        owner = h.owner;
        all = ap (λ l. l ++ x ∷ []) h.all ∙ append_assoc (tickets_in h.log) items (x ∷ []);
        came_back = h.came_back;
        of_hands = h.of_hands;
        fits = fits_set (Fits h.keeps_at (h.put ++ x ∷ []) h.out h.back h.log h.owner) views place w
            (λ j u apart e. let f = h.fits j u e in record {
              keeps = λ k. absurd (apart ((f.keeps k).0 ∙ sym mine.0));
              takes = f.takes;
            })
            (record { keeps = λ _. (mine.0, ap (λ l. l ++ x ∷ []) mine.1, mine.2, mine.3); takes = λ p. absurd (off p) });
      },
      refl,
    )

pub takes : (place : ℕ) (v : QueueEnd) → v.takes ≡ true → Pops HandsOn place v (Takes v)
takes place v may x items views h at =
    let mine = (h.fits place v at).takes may in
    let k = v.number in
    let w : QueueEnd = consumer k (v.taken ++ x ∷ []) in
    let log = h.log ++ (k, x) ∷ [] in (
      w,
      record {
        keeps_at = h.keeps_at;
        put = h.put;
        out = h.out;
        back = h.back;
        log = log;
        owner = h.owner;
        all = h.all ∙ sym (append_assoc (tickets_in h.log) (x ∷ []) items) ∙ ap (λ l. l ++ items) (sym (tickets_push h.log k x));
        came_back = h.came_back ∙ sym (owns_other h.log h.out (length h.back) k x mine.1);
        of_hands = of_push (h.out + length h.back) h.log (k, x) h.of_hands (let low = mine.1 in omega (arith, low));
        fits = fits_set (Fits h.keeps_at h.put h.out h.back log h.owner) views place w
            (λ j u apart e. let f = h.fits j u e in record {
              keeps = f.keeps;
              takes = λ t. let theirs = f.takes t in (
                theirs.0,
                theirs.1,
                theirs.2 ∙ sym (own_other h.log u.number k x (λ same. apart (theirs.0 ∙ ap h.owner (sym same) ∙ sym mine.0))),
              );
            })
            (record { keeps = λ p. absurd (off p); takes = λ _. (mine.0, mine.1, ap (λ l. l ++ x ∷ []) mine.2 ∙ sym (own_mine h.log k x)) });
      },
      refl,
    )

-- a number has this owner now
abbrev moved : (ℕ → ℕ) → ℕ → ℕ → ℕ → ℕ
moved owner number place n = if n == number then place else owner n

moved_here : (owner : ℕ → ℕ) (number place : ℕ) → moved owner number place number ≡ place
moved_here owner number place = ap (λ b. if b then place else owner number) (eq-eqb number number refl)

moved_else : (owner : ℕ → ℕ) (number place n : ℕ) → n ≢ number → moved owner number place n ≡ owner n
moved_else owner number place n apart = ap (λ b. if b then place else owner n) (neq n number apart)

pub gives : (place : ℕ) (v : QueueEnd) → v.keeps ≡ true → v.back ≡ [] → Forks HandsOn place v (producer v.put (v.out + 1) v.back) (consumer v.out [])
gives place v keeps none items views h at =
    let mine = (h.fits place v at).keeps keeps in
    let l : QueueEnd = producer v.put (v.out + 1) v.back in
    let r : QueueEnd = consumer v.out [] in
    let vs : List QueueEnd = set views place l in
    let at_place = length vs in
    let owner : ℕ → ℕ = moved h.owner h.out at_place in
    let is_none : h.back ≡ [] = sym mine.3 ∙ none in
    let F : ℕ → QueueEnd → Type 0 = Fits h.keeps_at h.put (h.out + 1) h.back h.log owner in
    let low : AreOf h.out h.log = of_more (h.out + length h.back) h.out h.log (λ k p. let z : length h.back ≡ 0 = ap length is_none in omega (arith, p, z)) h.of_hands in
    let old : (j : ℕ) (u : QueueEnd) → get_elem? vs j ≡ some u → F j u = fits_set F views place l
    (λ j u apart e. let f = h.fits j u e in record {
      keeps = λ k. absurd (apart ((f.keeps k).0 ∙ sym mine.0));
      takes = λ t. let theirs = f.takes t in let below = theirs.1 in (
        theirs.0 ∙ sym (moved_else h.owner h.out at_place u.number (λ same. omega (arith, below, same))),
        omega (arith, below),
        theirs.2,
      );
    })
    (record { keeps = λ _. (mine.0, mine.1, ap (λ n. n + 1) mine.2, mine.3); takes = λ p. absurd (off p) }) in
    record {
      keeps_at = h.keeps_at;
      put = h.put;
      out = h.out + 1;
      back = h.back;
      log = h.log;
      owner = owner;
      all = h.all;
      came_back = is_none ∙ sym (ap (λ b. owns (h.out + 1) (length b) h.log) is_none);
      of_hands = of_more (h.out + length h.back) (h.out + 1 + length h.back) h.log (λ k p. omega (arith, p)) h.of_hands;
      fits = λ j u e. ⊎_elim (λ x. old j u x)
          (λ (x : (j ≡ at_place) × (r ≡ u)). subst (λ (y : ℕ × QueueEnd). F y.0 y.1) (λ i. (sym x.0 i, x.1 i))
          (record {
            keeps = λ p. absurd (off p);
            takes = λ _. (
              sym (ap owner mine.2 ∙ moved_here h.owner h.out at_place),
              (let same = mine.2 in omega (arith, same)),
              sym (ap (λ n. own n h.log) mine.2 ∙ own_none h.log h.out low),
            );
          }))
          (at_push vs r u j e);
    }

pub merges : (place : ℕ) (v : QueueEnd) (other : ℕ) (u : QueueEnd) → v.keeps ≡ true → u.takes ≡ true → u.number + 1 ≡ v.out
    → Merges HandsOn place v other u (producer v.put u.number (u.taken ∷ v.back)) idle
merges place v other u keeps may last items views h at two at' =
    let both : QueueEnd = producer v.put u.number (u.taken ∷ v.back) in
    let mine = (h.fits place v at).keeps keeps in
    let vs : List QueueEnd = set views place both in
    let was : get_elem? views other ≡ some u = ⊎_elim (λ x. absurd (two x.0)) (λ x. x.1) (at_set views place other both u at') in
    let theirs = (h.fits other u was).takes may in
    let back = u.taken ∷ h.back in
    let is_out : h.out ≡ u.number + 1 = sym mine.2 ∙ sym last in
    let F : ℕ → QueueEnd → Type 0 = Fits h.keeps_at h.put u.number back h.log h.owner in
    let now : (j : ℕ) (y : QueueEnd) → get_elem? vs j ≡ some y → j ≢ other → F j y = fits_set (λ j y. j ≢ other → F j y) views place both
    (λ j y apart e far. let f = h.fits j y e in record {
      keeps = λ k. absurd (apart ((f.keeps k).0 ∙ sym mine.0));
      takes = λ t. let its = f.takes t in let below = its.1 in (
        its.0,
        (let differ : y.number ≢ u.number = λ same. far (its.0 ∙ ap h.owner same ∙ sym theirs.0) in omega (arith, below, is_out, differ)),
        its.2,
      );
    })
    (λ _. record { keeps = λ _. (mine.0, mine.1, refl, ap (λ l. u.taken ∷ l) mine.3); takes = λ p. absurd (off p) }) in
    record {
      keeps_at = h.keeps_at;
      put = h.put;
      out = u.number;
      back = back;
      log = h.log;
      owner = h.owner;
      all = h.all;
      came_back = ap (λ l. l ∷ h.back) theirs.2 ∙ ap (λ l. own u.number h.log ∷ l) (h.came_back ∙ ap (λ n. owns n (length h.back) h.log) (is_out ∙ omega arith));
      of_hands = of_more (h.out + length h.back) (u.number + length back) h.log (λ k p. omega (arith, p, is_out)) h.of_hands;
      fits = fits_set F vs other idle (λ j y far e. now j y e far) (record { keeps = λ p. absurd (off p); takes = λ p. absurd (off p) });
    }

pub learns : (place : ℕ) (v : QueueEnd) → v.keeps ≡ true → Learns HandsOn place v (Told v)
learns place v keeps items views h at =
    let mine = (h.fits place v at).keeps keeps in record {
      log = h.log;
      all = mine.1 ∙ h.all;
      came_back = mine.3 ∙ h.came_back ∙ (λ i. owns (sym mine.2 i) (length (sym mine.3 i)) h.log);
      of_hands = subst (λ (n : ℕ). AreOf n h.log) (λ i. sym mine.2 i + length (sym mine.3 i)) h.of_hands;
    }
