use Rattle.std.proofs.Common.{rules, ◌≡◌, subst}
use Rattle.classes.specs.Admitting.{AreKnownAs}
use Rattle.classes.proofs.admitted_text.AdmittedText.is_admitted_by.Goals as goal

pub returns-else-are_known_as-clause-no : goal.returns-else-are_known_as-clause-no
returns-else-are_known_as-clause-no c = λ admits.
    let same : c.args.self.now.inputs ≡ c.as_slice-inputs.result.now = search rules in
    c.are_known_as.ensures.no (subst (AreKnownAs c.args.known.now) same admits.inputs)
