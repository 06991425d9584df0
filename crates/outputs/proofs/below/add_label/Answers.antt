use Rattle.std.proofs.Common.{◌≡◌, ◌&&◌, true, false, cond, ap, sym, ◌∙◌}
use Rattle.std.specs.Prelude.{bytes_eq, Some}
use Rattle.std.specs.Option.{option_copied}
use Rattle.outputs.specs.Reaching.{has_class, is_named}
use Rattle.outputs.proofs.StepLemmas.{news_one}
use Rattle.outputs.proofs.below.add_label.Goals as goal

pub returns-in_ok-_is_new : goal.returns-in_ok-_is_new
returns-in_ok-_is_new c path class =
    let label = c.args.label.now in
    let own = c.in-Some.class.now in
    let old = is_named c.args.named.now.keys path class in
    let some : label.class ≡ Some own = sym c.class.ensures ∙ ap option_copied c.in-Some.is in
    let no_input : has_class c.args.inputs.now.keys own.path ≡ false =
    ap (has_class c.args.inputs.now.keys) (sym c.path.ensures) ∙ sym c.contains.ensures ∙ c.if-contains.false in
    let his_path = c.in_ok-clone.ensures.cases ∙ c.path-2.ensures in
    let his_class = c.in_ok-clone-2.ensures.cases ∙ c.path-3.ensures in
    let not_seen : is_named c.args.seen.now.keys label.path own.path ≡ false =
    (λ i. is_named c.args.seen.now.keys (sym his_path i) (sym his_class i)) ∙ sym c.contains-2.ensures ∙ c.if-not-contains.true in
    c.in_ok-_is_new.ensures.updates.0 (path, class)
    ∙ (λ i. cond (bytes_eq (his_path i) path && bytes_eq (his_class i) class) true old)
    ∙ news_one c.args.inputs.now.keys c.args.seen.now.keys path class label own some no_input not_seen old
