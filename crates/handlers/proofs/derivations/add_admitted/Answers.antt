use Rattle.std.proofs.Common.{rules, ◌≡◌, sym, ap, ◌∙◌, Some}
use Rattle.model.specs.Classes.{known_at, derivation_path}
use Rattle.handlers.proofs.DerivationLemmas.{admitted_path, had_added}
use Rattle.handlers.proofs.derivations.add_admitted.Goals as goal

pub returns-in-Some : goal.returns-in-Some
returns-in-Some c =
    let d = c.args.desk.now in
    let a = c.args.admitted in
    let at : known_at d.known a.path ≡ Some c.in-Some.had.now = search rules in
    let there : known_at d.known (derivation_path a.derivation) ≡ Some c.in-Some.had.now =
    ap (known_at d.known) (sym (admitted_path d.known a.derivation a c.requires.admits)) ∙ at in
    had_added d a.derivation c.in-Some.had.now c.reply_with.result there c.reply_with.ensures.told c.reply_with.ensures.answered c.reply_with.ensures.memory
