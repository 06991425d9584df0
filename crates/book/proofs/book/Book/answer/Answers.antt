use Rattle.std.proofs.Common.{◌≡◌, ℕ, Bool, true, false, true≢false, List, [], ◌∷◌, ◌++◌, length, map, refl, ap, sym, ◌∙◌, subst, arith}
use Rattle.std.proofs.lemmas.List.{length_push, map_push}
use Rattle.std.specs.Arc.{arc_value}
use Rattle.model.specs.declared.refusal.Refusal.{Refusal}
use Rattle.model.specs.declared.refusal.Refusal.TheVariants.{Memory, Stopped}
use Rattle.events.specs.declared.event.Event.{Event}
use Rattle.events.specs.declared.reply.Reply.{Reply}
use Rattle.events.specs.declared.reply.Reply.TheVariants.{Refused}
use Rattle.schedule.specs.declared.state.Core.{Core}
use Rattle.schedule.specs.Standing.{world_of, setup_of, stored_in, IsUnchanged}
use Rattle.model.specs.Worlds.{Setup}
use Rattle.history.specs.declared.row.Row.{Row}
use Rattle.history.specs.declared.log.Recorded.{Recorded}
use Rattle.history.specs.Callers.{Caller, answered, stops_of, Matches}
use Rattle.history.specs.Histories.{row, unrecorded, IsLegal}
use Rattle.publishing.specs.Publishing.{Published}
use Rattle.book.specs.Keeping.{Contents, Kept, IsModelReply}
use Rattle.cores.specs.Turns.{Steps, TookEvent}
use Rattle.book.proofs.KeepingLemmas.{goes_on, stops, replied, is_legal, sure_of_all}
use Rattle.book.proofs.book.Book.answer.Given.{Over}
use Rattle.book.proofs.book.Book.answer.Goals.{After-audit-2}
use Rattle.book.proofs.book.Book.answer.Goals as goal

-- ---- replies

-- a refusal that has no row
has_none : (reply : Reply) (why : Refusal) → reply ≡ Refused why → unrecorded (Refused why) ≡ true → unrecorded reply ≡ false → ⊥
has_none reply why is gave some = true≢false (sym gave ∙ (sym (ap unrecorded is) ∙ some))

not_both : (reply : Reply) → reply ≡ Refused Memory → reply ≡ Refused Stopped → ⊥
not_both reply memory stopped = cc

-- ---- the book and the pass at the call

is_unchanged : (old new : Core) → new ≡ old → IsUnchanged old new
is_unchanged old new same = record { setup = ap setup_of same; world = ap world_of same; stored = ap stored_in same }

-- a core that is the very same is kept
kept_same : (setup : Setup) (old new : Core) (stopped : Bool) (rows : List Row) → Kept setup old stopped rows → new ≡ old → Kept setup new stopped rows
kept_same setup old new stopped rows kept same = subst (λ (core : Core). Kept setup core stopped rows) (sym same) kept

core_then : (g : Over) (c : After-audit-2 g) → c.self.inside.cores ≡ c.args.self.now.core
core_then g c = ap (λ (b : Contents). b.core) c.self.view_is

rows_then : (g : Over) (c : After-audit-2 g) → map arc_value c.self.inside.history.items ≡ c.args.self.now.rows
rows_then g c = ap (λ (b : Contents). b.rows) c.self.view_is

stopped_then : (g : Over) (c : After-audit-2 g) → c.self.inside.stopped ≡ c.args.self.now.stopped
stopped_then g c = ap (λ (b : Contents). b.stopped) c.self.view_is

matching : (g : Over) (c : After-audit-2 g) → Matches c.args.self.now.rows c.args.self.now.stopped c.args.account.now.caller
matching g c = subst (λ (b : Contents). Matches b.rows b.stopped c.args.account.now.caller)
    (λ i. record { core = c.args.self.now.core; rows = (c.self.invariant.4 ∙ rows_then g c) i; stopped = (c.self.invariant.5 ∙ stopped_then g c) i })
    c.compare.ensures.matches

-- the only pass
only_pass : (g : Over) (c : After-audit-2 g) → g.J.Ledger.parts ≡ 1 → c.args.account.now.caller.sure ≡ c.args.self.now.rows
only_pass g c one =
    let inside = c.self.inside in
    sure_of_all c.args.account.now.caller.sure c.compare.new.self.sure inside.log.rows (map arc_value inside.history.items) _ c.compare.ensures.matches.sure
    c.self.invariant.4 c.compare.ensures.sure (c.audit.ensures.alone one).0 c.self.invariant.1 ∙ rows_then g c

-- the only pass has stopped the book if it is stopped
stop_counted : (g : Over) (c : After-audit-2 g) → g.J.Ledger.parts ≡ 1 → c.args.account.now.stops.amount ≡ stops_of c.args.self.now.stopped
stop_counted g c one = c.audit-2.ensures.whole (c.requires.part ∙ sym one) ∙ (c.self.invariant.8 ∙ ap stops_of (stopped_then g c))

legal_then : (g : Over) (c : After-audit-2 g) → IsLegal g.J.FrontId.setup (map arc_value c.self.inside.history.items)
legal_then g c =
    let inside = c.self.inside in
    is_legal g.J.FrontId.setup inside.cores inside.stopped (map arc_value inside.history.items) c.self.invariant.0 c.isolation.ensures c.timed_isolation.ensures c.closures_are_good.ensures

-- ---- where the book was stopped before

pub returns-then-stopped : goal.returns-then-stopped
returns-then-stopped g c =
    let then = (goal.at.returns-then-stopped g c).After-audit-2 in
    let was : c.args.self.now.stopped ≡ true = sym (stopped_then g then) ∙ c.if-stopped.true in
    let none : unrecorded c.refuse.result ≡ false → ⊥ = has_none _ Stopped c.refuse.ensures refl in
    record {
      applied = record {
        row = λ some. absurd (none some);
        step = λ some. absurd (none some);
        reply = λ some. absurd (none some);
        counted = λ some. absurd (none some);
        matches = matching g then;
        alone = only_pass g then;
        no_row = λ _. rows_then g then;
        memory = λ memory. absurd (not_both _ memory c.refuse.ensures);
        unchanged = λ _ _. is_unchanged _ _ (core_then g then);
        stopped = λ _. c.refuse.ensures;
        stays = λ _. c.self.view_is;
        only_then = λ _. was;
        told = λ _. c.audit.ensures.same.0 ∙ c.compare.ensures.stopped (c.self.invariant.5 ∙ c.if-stopped.true);
        stops = λ stops. absurd (true≢false (sym was ∙ stops.0));
        taken = λ stops. absurd (true≢false (sym was ∙ stops.0));
        counted_stop = λ stops. absurd (true≢false (sym was ∙ stops.0));
        no_stop = λ _. c.audit-2.ensures.amount;
        stops_alone = stop_counted g then;
        legal = legal_then g then;
      };
      part = c.audit-2.ensures.parts ∙ c.requires.part;
    }

-- ---- where it went on

not_stopped : (g : Over) (c : After-audit-2 g) → c.self.inside.stopped ≡ false → c.args.self.now.stopped ≡ true → ⊥
not_stopped g c going stopped = true≢false (sym stopped ∙ (sym (stopped_then g c) ∙ going))

-- a mark that stays
not_true : {stopped : Bool} → stopped ≡ false → stopped ≡ true → ⊥
not_true going stopped = true≢false (sym stopped ∙ going)

pass_then : (g : Over) (c : After-audit-2 g) → c.self.inside.stopped ≡ false → c.audit.new.self ≡ c.args.account.now.caller
pass_then g c going = c.audit.ensures.same.0 ∙ c.compare.ensures.going (c.self.invariant.5 ∙ going)

-- ---- where no room is made for a row

pub invariant_of-self-in_default : goal.invariant_of-self-in_default
invariant_of-self-in_default g c =
    let old = c.self.inside in (
      rw c.draft.ensures.rows
          (kept_same g.J.FrontId.setup old.cores c.empty_cache.new.self old.stopped (map arc_value old.history.items) c.self.invariant.0 c.empty_cache.ensures),
      ap (λ rows. length (map arc_value rows)) c.draft.ensures.rows ∙ (c.self.invariant.1 ∙ sym c.audit.ensures.same.1),
      c.self.invariant.2,
      c.self.invariant.3,
      ap (λ (log : Recorded). log.rows) c.compare.ensures.same ∙ (c.self.invariant.4 ∙ sym (ap (map arc_value) c.draft.ensures.rows)),
      ap (λ (log : Recorded). log.stopped) c.compare.ensures.same ∙ c.self.invariant.5,
      c.self.invariant.6 ∙ sym (ap (map arc_value) c.draft.ensures.rows),
      λ going whole. c.self.invariant.7 going whole ∙ sym c.empty_cache.ensures,
      c.audit-2.ensures.total ∙ c.self.invariant.8,
      c.self.invariant.9,
      c.self.invariant.10,
    )

pub returns-in_default : goal.returns-in_default
returns-in_default g c =
    let then = (goal.at.returns-in_default g c).After-audit-2 in
    let none : unrecorded c.refuse-in_default.result ≡ false → ⊥ = has_none _ Memory c.refuse-in_default.ensures refl in
    let goes : c.args.self.now.stopped ≡ true → ⊥ = not_stopped g then c.if-stopped.false in
    record {
      applied = record {
        row = λ some. absurd (none some);
        step = λ some. absurd (none some);
        reply = λ some. absurd (none some);
        counted = λ some. absurd (none some);
        matches = matching g then;
        alone = only_pass g then;
        no_row = λ _. ap (map arc_value) c.draft.ensures.rows ∙ rows_then g then;
        memory = λ _. pass_then g then c.if-stopped.false;
        unchanged = λ _ _. is_unchanged _ _ (c.empty_cache.ensures ∙ core_then g then);
        stopped = λ stopped. absurd (goes stopped);
        stays = λ stopped. absurd (goes stopped);
        only_then = λ stopped. absurd (not_both _ c.refuse-in_default.ensures stopped);
        told = λ stopped. absurd (not_both _ c.refuse-in_default.ensures stopped);
        stops = λ _. c.refuse-in_default.ensures;
        taken = λ stops. absurd (not_true c.if-stopped.false stops.1);
        counted_stop = λ stops. absurd (not_true c.if-stopped.false stops.1);
        no_stop = λ _. c.audit-2.ensures.amount;
        stops_alone = stop_counted g then;
        legal = rw c.draft.ensures.rows (legal_then g then);
      };
      part = c.audit-2.ensures.parts ∙ c.requires.part;
    }

-- ---- where memory is refused before the core takes the event

pub invariant_of-self-in-Err : goal.invariant_of-self-in-Err
invariant_of-self-in-Err g c =
    let old = c.self.inside in (
      rw c.draft.ensures.rows
          (kept_same g.J.FrontId.setup old.cores c.take.new.cores old.stopped (map arc_value old.history.items) c.self.invariant.0 c.in-Err.ensures.refused),
      ap (λ rows. length (map arc_value rows)) c.draft.ensures.rows ∙ (c.self.invariant.1 ∙ sym c.audit.ensures.same.1),
      c.self.invariant.2,
      c.self.invariant.3,
      ap (λ (log : Recorded). log.rows) c.compare.ensures.same ∙ (c.self.invariant.4 ∙ sym (ap (map arc_value) c.draft.ensures.rows)),
      ap (λ (log : Recorded). log.stopped) c.compare.ensures.same ∙ c.self.invariant.5,
      ap (λ (publisher : Published). publisher.rows) c.in-Err.ensures.kept ∙ (c.self.invariant.6 ∙ sym (ap (map arc_value) c.draft.ensures.rows)),
      λ going whole.
          ap (λ (publisher : Published). publisher.core) c.in-Err.ensures.kept
          ∙ (c.self.invariant.7 going (sym (ap (λ (publisher : Published). publisher.whole) c.in-Err.ensures.kept) ∙ whole) ∙ sym c.in-Err.ensures.refused),
      c.audit-2.ensures.total ∙ c.self.invariant.8,
      c.self.invariant.9,
      c.self.invariant.10,
    )

pub returns-in-Err : goal.returns-in-Err
returns-in-Err g c =
    let then = (goal.at.returns-in-Err g c).After-audit-2 in
    let memory : Refused c.in-Err.why ≡ Refused Memory = ap (λ (why : Refusal). Refused why) c.in-Err.ensures.memory in
    let none : unrecorded (Refused c.in-Err.why) ≡ false → ⊥ = has_none (Refused c.in-Err.why) Memory memory refl in
    let goes : c.args.self.now.stopped ≡ true → ⊥ = not_stopped g then c.if-stopped.false in
    record {
      applied = record {
        row = λ some. absurd (none some);
        step = λ some. absurd (none some);
        reply = λ some. absurd (none some);
        counted = λ some. absurd (none some);
        matches = matching g then;
        alone = only_pass g then;
        no_row = λ _. ap (map arc_value) c.draft.ensures.rows ∙ rows_then g then;
        memory = λ _. pass_then g then c.if-stopped.false;
        unchanged = λ _ _. is_unchanged _ _ (c.in-Err.ensures.refused ∙ core_then g then);
        stopped = λ stopped. absurd (goes stopped);
        stays = λ stopped. absurd (goes stopped);
        only_then = λ stopped. absurd (not_both _ memory stopped);
        told = λ stopped. absurd (not_both _ memory stopped);
        stops = λ _. memory;
        taken = λ stops. absurd (not_true c.if-stopped.false stops.1);
        counted_stop = λ stops. absurd (not_true c.if-stopped.false stops.1);
        no_stop = λ _. c.audit-2.ensures.amount;
        stops_alone = stop_counted g then;
        legal = rw c.draft.ensures.rows (legal_then g then);
      };
      part = c.audit-2.ensures.parts ∙ c.requires.part;
    }

-- ---- where memory is refused after that

pub invariant_of-self-in_default-answered : goal.invariant_of-self-in_default-answered
invariant_of-self-in_default-answered g c =
    let old = c.self.inside in (
      rw c.draft.ensures.rows
          (stops g.J.FrontId.setup old.cores c.take.new.cores old.stopped (map arc_value old.history.items) c.self.invariant.0 c.take.ensures.given),
      ap (λ rows. length (map arc_value rows)) c.draft.ensures.rows ∙ (c.self.invariant.1 ∙ sym c.audit.ensures.same.1),
      c.self.invariant.2,
      c.self.invariant.3,
      ap (λ (log : Recorded). log.rows) c.stop.ensures
          ∙ (ap (λ (log : Recorded). log.rows) c.compare.ensures.same ∙ (c.self.invariant.4 ∙ sym (ap (map arc_value) c.draft.ensures.rows))),
      ap (λ (log : Recorded). log.stopped) c.stop.ensures,
      (rw c.in_default-answered.is at c.in-Ok-take.ensures.not_shown) ∙ (c.self.invariant.6 ∙ sym (ap (map arc_value) c.draft.ensures.rows)),
      λ going. absurd (true≢false going),
      omega (arith, c.add.ensures.total, c.audit-2.ensures.total, rw c.if-stopped.false at c.self.invariant.8),
      c.self.invariant.9,
      c.self.invariant.10,
    )

pub returns-in_default-answered : goal.returns-in_default-answered
returns-in_default-answered g c =
    let then = (goal.at.returns-in_default-answered g c).After-audit-2 in
    let taken : TookEvent c.self.inside.cores c.args.event c.take.new.cores = rw c.in_default-answered.is at c.in-Ok-take.ensures.lost in
    let goes : c.args.self.now.stopped ≡ true → ⊥ = not_stopped g then c.if-stopped.false in
    record {
      applied = record {
        row = λ some. absurd (true≢false some);
        step = λ some. absurd (true≢false some);
        reply = λ some. absurd (true≢false some);
        counted = λ some. absurd (true≢false some);
        matches = matching g then;
        alone = only_pass g then;
        no_row = λ _. ap (map arc_value) c.draft.ensures.rows ∙ rows_then g then;
        memory = λ _. pass_then g then c.if-stopped.false;
        unchanged = λ _ same. absurd (goes (sym same));
        stopped = λ stopped. absurd (goes stopped);
        stays = λ stopped. absurd (goes stopped);
        only_then = λ stopped. absurd (not_both _ refl stopped);
        told = λ stopped. absurd (not_both _ refl stopped);
        stops = λ _. refl;
        taken = λ _. subst (λ (core : Core). TookEvent core c.args.event c.take.new.cores) (core_then g then) taken;
        counted_stop = λ _. omega (arith, c.add.ensures.amount, c.audit-2.ensures.amount);
        no_stop = λ other. absurd (other refl);
        stops_alone = stop_counted g then;
        legal = rw c.draft.ensures.rows (legal_then g then);
      };
      part = c.add.ensures.parts ∙ (c.audit-2.ensures.parts ∙ c.requires.part);
    }

-- ---- where the call has a row

-- the row of an event that was drafted
drafted : (draft found : Row) (number : ℕ) (event : Event) (reply : Reply) → draft ≡ row number event (Refused Memory) → found ≡ row draft.pass event reply
    → found ≡ row number event reply
drafted draft found number event reply is was = was ∙ ap (λ (r : Row). row r.pass event reply) is

pub add_row-requires : goal.add_row-requires
add_row-requires g c =
    let then = (goal.at.add_row-requires g c).After-audit-2 in
    let last : arc_value c.in-Some.row ≡ row c.number.result c.args.event c.in-Some.reply =
    drafted (arc_value c.in-Ok.draft) (arc_value c.in-Some.row) c.number.result c.args.event c.in-Some.reply c.in-Ok.ensures.row
    (rw c.in-Some.is at c.in-Ok-take.ensures.row) in
    let log : c.compare.new.log ≡ c.self.inside.log = c.compare.ensures.same in
    let pass : c.audit.new.self ≡ c.args.account.now.caller = pass_then g then c.if-stopped.false in
    let rows : length c.compare.new.log.rows ≡ c.self.inside.calls.total =
    ap (λ (l : Recorded). length l.rows) log ∙ (ap (λ (rows : List Row). length rows) c.self.invariant.4 ∙ c.self.invariant.1) in
    record {
      mine = ap (λ (r : Row). r.pass) (c.deref.ensures ∙ last) ∙ c.number.ensures;
      matches = subst (λ (x : Recorded × Caller). Matches x.0.rows x.0.stopped x.1) (λ i. (sym log i, sym pass i)) c.compare.ensures.matches;
      alone = λ one. rows ∙ (sym (c.audit.ensures.alone one).1 ∙ ap (λ (p : Caller). p.calls) (sym c.audit.ensures.same.0));
    }

going : (g : Over) (c : goal.After-push g) → Kept g.J.FrontId.setup c.self.inside.cores false (map arc_value c.self.inside.history.items)
going g c = rw c.if-stopped.false at c.self.invariant.0

last_row : (g : Over) (c : goal.After-push g) → arc_value c.in-Some.row ≡ row c.number.result c.args.event c.in-Some.reply
last_row g c =
    drafted (arc_value c.in-Ok.draft) (arc_value c.in-Some.row) c.number.result c.args.event c.in-Some.reply c.in-Ok.ensures.row
    (rw c.in-Some.is at c.in-Ok-take.ensures.row)

some_row : (g : Over) (c : goal.After-push g) → unrecorded (arc_value c.in-Some.row).reply ≡ false
some_row g c = subst (λ (r : Row). unrecorded r.reply ≡ false) (sym (last_row g c)) (rw c.in-Some.is at c.in-Ok-take.ensures.some)

step_of : (g : Over) (c : goal.After-push g) → Steps c.self.inside.cores (arc_value c.in-Some.row).event (arc_value c.in-Some.row).reply c.take.new.cores
step_of g c =
    subst (λ (r : Row). Steps c.self.inside.cores r.event r.reply c.take.new.cores) (sym (last_row g c))
    (rw c.in-Some.is at c.in-Ok-take.ensures.step)

rows_now : (g : Over) (c : goal.After-push g)
    → map arc_value c.push.new.history.items ≡ map arc_value c.self.inside.history.items ++ arc_value c.in-Some.row ∷ []
rows_now g c =
    ap (map arc_value) c.push.ensures
    ∙ (map_push arc_value c.draft.new.history.items c.in-Some.row ∙ ap (λ rows. map arc_value rows ++ arc_value c.in-Some.row ∷ []) c.draft.ensures.rows)

-- and what is recorded then
recorded_now : (g : Over) (c : goal.After-push g) → c.compare.new.log.rows ++ c.deref.result.now ∷ [] ≡ map arc_value c.push.new.history.items
recorded_now g c =
    let log : c.compare.new.log.rows ≡ map arc_value c.self.inside.history.items = ap (λ (l : Recorded). l.rows) c.compare.ensures.same ∙ c.self.invariant.4 in
    (λ i. log i ++ c.deref.ensures i ∷ []) ∙ sym (rows_now g c)

kept_now : (g : Over) (c : goal.After-push g)
    → Kept g.J.FrontId.setup c.take.new.cores false (map arc_value c.self.inside.history.items ++ arc_value c.in-Some.row ∷ [])
kept_now g c =
    goes_on g.J.FrontId.setup c.self.inside.cores c.take.new.cores (map arc_value c.self.inside.history.items) (arc_value c.in-Some.row)
    (going g c) (some_row g c) (step_of g c)

shown_now : (g : Over) (c : goal.After-push g)
    → c.take.new.publisher
    ≡ record { core = c.take.new.cores; rows = c.self.inside.publisher.rows ++ arc_value c.in-Some.row ∷ []; whole = true }
shown_now g c = rw c.in-Some.is at c.in-Ok-take.ensures.shown

pub take-requires-clause-kept : goal.take-requires-clause-kept
take-requires-clause-kept g c =
    subst (λ (rows : List Row). Kept g.J.FrontId.setup c.self.inside.cores false rows) (sym c.self.invariant.6) (rw c.if-stopped.false at c.self.invariant.0)

pub invariant_of-self-2 : goal.invariant_of-self-2
invariant_of-self-2 g c =
    let old = c.self.inside in
    let r : Row = arc_value c.in-Some.row in (
      rw (c.if-stopped.false, rows_now g c) (kept_now g c),
      ap (λ (rows : List Row). length rows) (rows_now g c)
          ∙ omega (arith, length_push (map arc_value old.history.items) r, c.self.invariant.1, c.audit.ensures.same.1, c.add_row.ensures.calls),
      c.self.invariant.2,
      c.self.invariant.3,
      ap (λ (l : Recorded). l.rows) c.add_row.ensures.log ∙ recorded_now g c,
      ap (λ (l : Recorded). l.stopped) c.add_row.ensures.log ∙ (ap (λ (l : Recorded). l.stopped) c.compare.ensures.same ∙ c.self.invariant.5),
      ap (λ (publisher : Published). publisher.rows) (shown_now g c) ∙ (ap (λ (rows : List Row). rows ++ r ∷ []) c.self.invariant.6 ∙ sym (rows_now g c)),
      λ _ _. ap (λ (publisher : Published). publisher.core) (shown_now g c),
      c.audit-2.ensures.total ∙ c.self.invariant.8,
      c.self.invariant.9,
      c.self.invariant.10,
    )

pub returns : goal.returns
returns g c =
    let then = (goal.at.returns g c).After-audit-2 in
    let old = c.self.inside in
    let some : unrecorded c.in-Some.reply ≡ false = rw c.in-Some.is at c.in-Ok-take.ensures.some in
    let none : unrecorded c.in-Some.reply ≡ true → ⊥ = not_true some in
    let stepped : Steps old.cores c.args.event c.in-Some.reply c.take.new.cores = rw c.in-Some.is at c.in-Ok-take.ensures.step in
    let goes : c.args.self.now.stopped ≡ true → ⊥ = not_stopped g then c.if-stopped.false in
    let pass : c.audit.new.self ≡ c.args.account.now.caller = pass_then g then c.if-stopped.false in
    let number : c.number.result ≡ c.args.account.now.caller.number = c.number.ensures ∙ ap (λ (p : Caller). p.number) pass in
    record {
      applied = record {
        row = λ _. rows_now g c ∙ (λ i. rows_then g then i ++ (last_row g c ∙ ap (λ n. row n c.args.event c.in-Some.reply) number) i ∷ []);
        step = λ _. subst (λ (core : Core). Steps core c.args.event c.in-Some.reply c.take.new.cores) (core_then g then) stepped;
        reply = λ _.
            subst (λ (x : List Row × Row). IsModelReply g.J.FrontId.setup x.0 x.1.event x.1.reply) (λ i. (rows_then g then i, last_row g c i))
            (replied g.J.FrontId.setup old.cores c.take.new.cores (map arc_value old.history.items) (arc_value c.in-Some.row)
            (going g c) (some_row g c) (step_of g c));
        counted = λ _. c.add_row.ensures.pass ∙ (λ i. answered (pass i) (recorded_now g c i));
        matches = matching g then;
        alone = only_pass g then;
        no_row = λ gave. absurd (none gave);
        memory = λ memory. absurd (has_none _ Memory memory refl some);
        unchanged = λ gave. absurd (none gave);
        stopped = λ stopped. absurd (goes stopped);
        stays = λ stopped. absurd (goes stopped);
        only_then = λ stopped. absurd (has_none _ Stopped stopped refl some);
        told = λ stopped. absurd (has_none _ Stopped stopped refl some);
        stops = λ stops. absurd (not_true c.if-stopped.false stops.1);
        taken = λ stops. absurd (not_true c.if-stopped.false stops.1);
        counted_stop = λ stops. absurd (not_true c.if-stopped.false stops.1);
        no_stop = λ _. c.audit-2.ensures.amount;
        stops_alone = stop_counted g then;
        legal = rw (rows_now g c) (is_legal g.J.FrontId.setup c.take.new.cores false _ (kept_now g c) c.isolation.ensures c.timed_isolation.ensures c.closures_are_good.ensures);
      };
      part = c.audit-2.ensures.parts ∙ c.requires.part;
    }
