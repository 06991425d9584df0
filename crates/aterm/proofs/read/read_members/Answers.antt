use Rattle.std.proofs.Common.{rules, ◌≡◌, ◌∷◌, codes, [], ◌++◌, true, false, arith, length, drop}
use Rattle.std.proofs.lemmas.Result.{err_from_is_err_and}
use Rattle.model.specs.DerivationTexts.{is_at, member_at, members_at}
use Rattle.model.proofs.ReadingLemmas.{fails_on}
use Rattle.aterm.proofs.Items.{loop_ends, loop_fails, loop_spent, loop_goes_on}
use Rattle.aterm.proofs.read.read_members.Goals as goal

pub returns-in-Some : goal.returns-in-Some
returns-in-Some c =
    let here : is_at (codes "]") c.loop.rest.now ≡ true = search rules in
    let after : drop 1 c.loop.rest.now ≡ c.in-Some.after.now = search rules in
    loop_ends (member_at c.args.opening.now c.args.closing.now) (codes "]") (codes ",") (members_at c.args.tag.now c.args.opening.now c.args.closing.now c.args.bytes.now) c.loop.members.items _ c.loop.separator.now c.loop.rest.now _ c.loop.invariant (omega arith) here after

pub returns-in_err-member : goal.returns-in_err-member
returns-in_err-member c =
    let p = err_from_is_err_and c.from_residual-in_err-member.result c.from_residual-in_err-member.ensures.1 in
    let here : is_at (codes "]") c.loop.rest.now ≡ false = search rules in
    rw (p.1, p.2) (fails_on _ _ _ (loop_fails (member_at c.args.opening.now c.args.closing.now) (codes "]") (codes ",") (members_at c.args.tag.now c.args.opening.now c.args.closing.now c.args.bytes.now) c.loop.members.items _ c.loop.separator.now c.loop.rest.now c.loop.invariant here) c.in_err-member.ensures)

pub loop-preserved : goal.loop-preserved
loop-preserved c =
    let here : is_at (codes "]") c.loop.rest.now ≡ false = search rules in
    let pushed : c.loop.members.items ++ c.in_ok-member.member ∷ [] ≡ c.push.new.self.items = search rules in
    let later : codes "," ≡ c.as_slice-separator-in-loop.result.now = search rules in
    loop_goes_on (member_at c.args.opening.now c.args.closing.now) (codes "]") (codes ",") (members_at c.args.tag.now c.args.opening.now c.args.closing.now c.args.bytes.now) c.loop.members.items c.push.new.self.items (length c.in_ok-rest.rest.now) c.loop.counter c.loop.separator.now c.as_slice-separator-in-loop.result.now c.loop.rest.now c.in_ok-member.member c.in_ok-member.after.now c.loop.invariant (omega arith) here c.in_ok-member.ensures pushed later

pub returns : goal.returns
returns c = loop_spent (member_at c.args.opening.now c.args.closing.now) (codes "]") (codes ",") (members_at c.args.tag.now c.args.opening.now c.args.closing.now c.args.bytes.now) c.loop.members.items _ c.loop.separator.now c.loop.rest.now c.loop.invariant (omega arith)
