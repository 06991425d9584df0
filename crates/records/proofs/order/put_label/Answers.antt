use Rattle.std.proofs.Common.{◌≡◌, ℕ, List, Option, ap, ◌∙◌, sym}
use Rattle.model.specs.Classes.{Class}
use Rattle.std.specs.Prelude.{Some, None}
use Rattle.std.specs.Option.{option_copied_mut}
use Rattle.std.specs.Map.{lookup, set_value}
use Rattle.std.specs.BTreeMap.{BTreeMap, is_at, insert_entry}
use Rattle.std.specs.Ordering.{nat_cmp}
use Rattle.std.specs.Cmp.Lexicographic.{slice_cmp}
use Rattle.records.specs.Ordered.{labels_at}
use Rattle.records.proofs.OrderLemmas.{put_there, put_new}
use Rattle.records.proofs.order.put_label.Goals as goal

pub returns-in-Some : goal.returns-in-Some
returns-in-Some c =
    let entries = c.args.ordered.now.entries in
    let test = is_at (slice_cmp nat_cmp c.args.path) in
    let found : lookup test entries ≡ Some c.in-Some.least.now = sym c.get_mut.ensures.value ∙ ap option_copied_mut c.in-Some.is in
    ap labels_at (c.get_mut.follows.holds c.keep_least.new.least).0 ∙ ap (λ v. labels_at (set_value test entries v)) c.keep_least.ensures
    ∙ put_there c.args.path c.args.class entries c.in-Some.least.now c.get_mut.ensures.ordered found

pub returns-in_ok-_none-in-None : goal.returns-in_ok-_none-in-None
returns-in_ok-_none-in-None c =
    let entries = c.args.ordered.now.entries in
    let none : lookup (is_at (slice_cmp nat_cmp c.args.path)) entries ≡ None = sym c.get_mut.ensures.value ∙ ap option_copied_mut c.in-None.is in
    let put = λ (m : BTreeMap (List ℕ) (Option Class)). insert_entry (slice_cmp nat_cmp) m.entries c.args.path c.args.class in
    ap labels_at (c.in_ok-_none-in-None.ensures.entries ∙ ap put c.get_mut.follows.holds-at-none)
    ∙ put_new c.args.path c.args.class entries none
