use Rattle.std.proofs.Common.{◌≡◌, codes, ◌-◌}
use Rattle.model.specs.DerivationTexts.{member_at, members_at, items_at}
use Rattle.aterm.proofs.Items.{onto}
use Rattle.aterm.proofs.read.read_members.Given as goal

abbrev pub invariant-loop : goal.invariant-loop
invariant-loop l =
    members_at l.tag l.opening l.closing l.bytes ≡ onto l.members.items (items_at (member_at l.opening l.closing) (codes "]") (codes ",") (l.end - l.counter) l.separator l.rest)
