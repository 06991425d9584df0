use Rattle.std.proofs.Common.{◌≡◌, ℕ, List, Some, rules, sym, subst}
use Rattle.model.specs.Lines.{lines_of}
use Rattle.replaying.specs.BadLines.{AreBad, bad_numbers}
use Rattle.replaying.specs.Striking.{IsStruck}
use Rattle.replaying.proofs.PrintLemmas.{printed_of}
use Rattle.replaying.proofs.LawLemmas.{both_runs}
use Rattle.replaying.proofs.StruckLemmas.{nothing_known, struck_rest}
use Rattle.session.proofs.RowLemmas.{err-is}
use Rattle.replaying.proofs.UnnamedLemmas.{by_writing, by_rerun, first_told}
use Rattle.replaying.proofs.striking.strike_lines.Given.{Over}
use Rattle.replaying.proofs.striking.strike_lines.Goals as goal
use Rattle.replaying.proofs.striking.strike_lines.Goals.{After-print_replies}

-- what both runs come to, of known bytes
both : (g : Over) (c : After-print_replies g) (all : List ℕ) (known : g.R.Read.remaining c.args.reader.now ≡ Some all)
    → (struck : IsStruck c.args.settings.limits.charge c.args.observer.name.now c.args.observer.timed (lines_of all)
    (printed_of c.in_ok-first.first.user c.in_ok-first.first.numbers.his.items c.in_ok-replies.replies.items))
    × (struck.rows ≡ (c.in_ok-first.ensures.first all known).rows)
both g c all known =
    both_runs c.args.settings.limits.charge c.args.observer.name.now c.args.observer.timed (lines_of all) c.in_ok-first.first c.in_ok-replies.replies.items
    (c.in_ok-first.ensures.first all known) c.in_ok-replies.ensures.given

pub returns-in_err-first-clause-err : goal.returns-in_err-first-clause-err
returns-in_err-first-clause-err g c = nothing_known _ _ _ _ _ _

pub returns-in_err-replies-clause-err : goal.returns-in_err-replies-clause-err
returns-in_err-replies-clause-err g c = nothing_known _ _ _ _ _ _

pub returns-clause-ok : goal.returns-clause-ok
returns-clause-ok g c = λ all known.
    let b = both g (goal.at.returns-clause-ok g c).After-print_replies all known in
    record {
      text = printed_of c.in_ok-first.first.user c.in_ok-first.first.numbers.his.items c.in_ok-replies.replies.items;
      is = b.0;
      all = rw (c.as_slice.ensures.value, c.as_slice-2.ensures.value) at c.in_ok-print_replies.ensures.ok;
      bad_are = subst (λ rows. AreBad c.in_ok-first.first.numbers.bad (bad_numbers 1 rows)) (sym b.1) (c.in_ok-first.ensures.first all known).numbers_are.bad;
    }

pub returns-in_err-print_replies-clause-err : goal.returns-in_err-print_replies-clause-err
returns-in_err-print_replies-clause-err g c =
    struck_rest _ c.args.settings.limits.charge c.args.observer.name.now c.args.observer.timed _ _ _ _
    (λ all known. (both g (goal.at.returns-in_err-print_replies-clause-err g c).After-print_replies all known).0)
    (rw (c.as_slice.ensures.value, c.as_slice-2.ensures.value) at c.in_err-print_replies.ensures.err) (search rules)

pub returns-in_err-first-clause-why : goal.returns-in_err-first-clause-why
returns-in_err-first-clause-why g c = err-is _ _ _ c.from_residual.ensures.1 c.in_err-first.ensures.why

pub returns-in_err-replies-clause-why : goal.returns-in_err-replies-clause-why
returns-in_err-replies-clause-why g c =
    let first = c.in_ok-first.first in
    err-is _ _ _ c.from_residual-in_err-replies.ensures.1
    (by_rerun _ _ first.users.items first.user (λ all known. first_told _ _ _ first (c.in_ok-first.ensures.first all known)) _
    c.in_err-replies.ensures.refused)

pub returns-in_err-print_replies-clause-why : goal.returns-in_err-print_replies-clause-why
returns-in_err-print_replies-clause-why g c =
    err-is _ _ _ c.from_residual-in_err-print_replies.ensures.1 (by_writing _ _ _ c.in_err-print_replies.ensures.errors)
