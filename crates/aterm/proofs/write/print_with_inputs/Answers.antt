use Rattle.std.proofs.Common.{rules, ◌≡◌, ◌++◌, codes, ap, ◌∙◌}
use Rattle.model.specs.Derivations.{derivation_text}
use Rattle.aterm.specs.Parts.{derivation_of}
use Rattle.aterm.specs.Writing.{members}
use Rattle.aterm.proofs.Written.{all_written}
use Rattle.aterm.proofs.write.print_with_inputs.Goals as goal

pub returns : goal.returns
returns c =
    let d = derivation_of c.parts-parts.result.now in
    let inputs = c.args.inputs.now in
    let front : c.put_texts.new.out.items ≡ codes "Derive([(\"out\",\"\",\"\",\"\")],[" ++ members (codes "(") (codes ",[\"out\"])") inputs = search rules in
    c.in_ok-put_rest.ensures ∙ all_written d inputs _ front ∙ ap (λ x. derivation_text (record x { inputs = inputs })) c.parts-parts.ensures.parts
