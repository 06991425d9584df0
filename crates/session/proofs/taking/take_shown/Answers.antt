use Rattle.std.proofs.Common.{subst, []}
use Rattle.std.specs.Io.BufRead.{FillKeeps}
use Rattle.session.proofs.TakingLemmas.{shown-line, shown-rest, shown-end}
use Rattle.session.proofs.taking.take_shown.Goals as goal

pub returns-in-Some-clause-taken : goal.returns-in-Some-clause-taken
returns-in-Some-clause-taken g c =
    let rested = c.fill_buf.follows.lender-at-none in
    let filled = subst (FillKeeps _ (g.R.Read.remaining rested) (g.R.BufRead.consumable_len rested)) c.in-Ok.is c.fill_buf.follows.holds-at-none in
    shown-line _ _ _ _ c.in-Ok.shown.now _ _ c.in-Ok.ensures.front c.in-Ok.ensures.end filled.0 filled.1 c.in-Some.line.now c.in-Some.field-0-1.now
    c.in-Some.ensures.parts c.in_ok-hold.ensures c.consume.ensures.bytes

pub returns-then-taken-eq0-clause-taken : goal.returns-then-taken-eq0-clause-taken
returns-then-taken-eq0-clause-taken g c =
    let rested = c.fill_buf.follows.lender-at-none in
    let filled = subst (FillKeeps _ (g.R.Read.remaining rested) (g.R.BufRead.consumable_len rested)) c.in-Ok.is c.fill_buf.follows.holds-at-none in (
      shown-rest _ _ _ _ c.in-Ok.shown.now _ _ c.in-Ok.ensures.front c.in-Ok.ensures.end filled.0 filled.1
          c.in_default.ensures.parts c.in_ok-hold-2.ensures c.consume-2.ensures.bytes,
      shown-end _ _ _ _ c.in-Ok.shown.now [] [] c.in-Ok.ensures.front c.in-Ok.ensures.end filled.0 filled.1 c.consume-2.ensures.bytes c.if-taken-eq0.true,
    )

pub returns-else-taken-eq0-clause-taken : goal.returns-else-taken-eq0-clause-taken
returns-else-taken-eq0-clause-taken g c =
    let rested = c.fill_buf.follows.lender-at-none in
    let filled = subst (FillKeeps _ (g.R.Read.remaining rested) (g.R.BufRead.consumable_len rested)) c.in-Ok.is c.fill_buf.follows.holds-at-none in
    shown-rest _ _ _ _ c.in-Ok.shown.now _ _ c.in-Ok.ensures.front c.in-Ok.ensures.end filled.0 filled.1
    c.in_default.ensures.parts c.in_ok-hold-2.ensures c.consume-2.ensures.bytes
