use Rattle.std.proofs.Common.{◌≡◌, sym, ◌∙◌, ap, subst, length}
use Rattle.std.specs.Prelude.{◌||◌, ◌&&◌, ◌==◌}
use Rattle.trust.specs.Trusting.{trusts}
use Rattle.trust.specs.Naming.{name_at, IsWithin}
use Rattle.trust.proofs.NameLemmas.{within_added}
use Rattle.events.specs.Ever.{gives}
use Rattle.events.proofs.EverLemmas.{found_below, pair_given, stranger_gives_none, none_given_to_stranger, or_none, or_turned}
use Rattle.events.proofs.striking.receive.Goals as goal

pub returns-in_default-place_of-clause-same : goal.returns-in_default-place_of-clause-same
returns-in_default-place_of-clause-same c u v below also =
    or_none (trusts c.args.trust.now u v) _
    (stranger_gives_none c.args.users.now c.args.event.now.actor _ u (name_at c.args.users.now v) c.requires below (sym c.in_default-place_of.ensures))

pub returns-in_default-place_of-2-clause-same : goal.returns-in_default-place_of-2-clause-same
returns-in_default-place_of-2-clause-same c u v below also =
    or_none (trusts c.args.trust.now u v) _ (rw c.in-Trust.is
    (none_given_to_stranger c.args.users.now c.args.event.now.actor c.in-Trust.trusted (name_at c.args.users.now u) v c.requires also
    (sym c.in_default-place_of-2.ensures)))

pub add-requires-clause-of_run : goal.add-requires-clause-of_run
add-requires-clause-of_run c = (found_below c.args.users.now c.args.event.now.actor c.in-Some.user c.requires (sym c.in-Some.ensures)).1

pub add-requires-clause-other_of_run : goal.add-requires-clause-other_of_run
add-requires-clause-other_of_run c = (found_below c.args.users.now c.in-Trust.trusted c.in-Some-place_of.other c.requires (sym c.in-Some-place_of.ensures)).1

pub returns : goal.returns
returns c =
    let users = c.args.users.now in
    let old = trusts c.args.trust.now in
    let a = c.in-Some.user in
    let b = c.in-Some-place_of.other in
    let from = sym c.in-Some.ensures in
    let to = sym c.in-Some-place_of.ensures in
    record {
      within = λ w. subst (IsWithin (length users)) (sym c.add.ensures)
          (within_added (length users) old a b (found_below users c.in-Trust.trusted b c.requires to).0 w);
      same = λ u v below also.
          let told : gives users u v c.args.event.now ≡ (u == a && v == b) = rw c.in-Trust.is
          (pair_given users c.args.event.now.actor c.in-Trust.trusted a b u v c.requires below also from to) in
          ap (λ t. t u v) c.add.ensures ∙ or_turned (u == a && v == b) (old u v) ∙ ap (λ t. old u v || t) (sym told);
    }
