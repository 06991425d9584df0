use Rattle.std.proofs.Common.{◌≡◌, ◌++◌, not, ap, ◌∙◌}
use Rattle.std.specs.Prelude.{filter}
use Rattle.std.proofs.lemmas.List.Elements.{filter_agree}
use Rattle.std.proofs.lemmas.Result.{MatchResult-weaker}
use Rattle.model.specs.Classes.{is_one_of}
use Rattle.classes.specs.Inputs.{is_absent}
use Rattle.classes.proofs.file_path.add_others.Goals as goal

pub returns : goal.returns
returns c =
    let inputs = c.args.inputs.now in
    let same : filter (is_absent c.in_ok-among_inputs.among_inputs.keys) c.args.sources.now ≡ filter (λ path. not (is_one_of inputs path)) c.args.sources.now =
    filter_agree (is_absent c.in_ok-among_inputs.among_inputs.keys) (λ path. not (is_one_of inputs path))
    (λ path. ap not (c.in_ok-among_inputs.ensures path)) c.args.sources.now in
    MatchResult-weaker c.add_absent.result c.add_absent.ensures (λ done added. added ∙ ap (λ others. c.args.paths.now.items ++ others) same)
    (λ e memory. memory)
