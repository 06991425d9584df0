use Rattle.std.proofs.Common.{◌≡◌, [], inr, map, subst}
use Rattle.std.specs.Prelude.{string_bytes}
use Rattle.std.specs.Result.{IsErrAnd}
use Rattle.clap.specs.Kinds.{HasKind}
use Rattle.clap.specs.Simple.{subcommand_of}
use Rattle.command_line.specs.Intstore.{intstore}
use Rattle.command_line.specs.Named.{AskFor}
use Rattle.command_line.specs.Steps.{IsFound}
use Rattle.command_line.proofs.CommandLemmas.{asked_of_intstore, fault_of_intstore, refused}
use Rattle.command_line.proofs.arguments.options_by.Goals as goal

pub returns-in_err-matches : goal.returns-in_err-matches
returns-in_err-matches c =
    let words = map string_bytes c.args.words.now in
    let e = c.in_err-matches.field-0.0 in
    let same : IsErrAnd c.from_residual.result (λ x. x ≡ e) = c.from_residual.ensures.1 in
    refused words c.from_residual.result e same
    (fault_of_intstore (λ kinds. HasKind kinds e) _ words c.requires.0 c.in_err-matches.ensures.kinds)

pub returns-in-Some : goal.returns-in-Some
returns-in-Some c =
    let words = map string_bytes c.args.words.now in
    let asked = asked_of_intstore _ words c.in_ok-matches.matches _ c.requires.0 c.in_ok-matches.ensures.ok.2 c.in_ok-options.ensures in (
      fault_of_intstore (λ kinds. kinds ≡ []) _ words c.requires.0 c.in_ok-matches.ensures.kinds,
      subst (IsFound (AskFor (subcommand_of intstore words))) c.in-Some.is asked,
    )

pub returns : goal.returns
returns c =
    let words = map string_bytes c.args.words.now in
    let asked = asked_of_intstore _ words c.in_ok-matches.matches _ c.requires.0 c.in_ok-matches.ensures.ok.2 c.in_ok-options.ensures in
    inr (
      c.in_ok-error-in-None.ensures.kind,
      fault_of_intstore (λ kinds. kinds ≡ []) _ words c.requires.0 c.in_ok-matches.ensures.kinds,
      subst (IsFound (AskFor (subcommand_of intstore words))) c.in-None.is asked,
    )
