use Rattle.std.proofs.Common.{rules, ◌≡◌, ◌++◌, codes, ◌∙◌}
use Rattle.aterm.specs.Parts.{derivation_of}
use Rattle.aterm.specs.Writing.{members}
use Rattle.aterm.proofs.Written.{all_written}
use Rattle.aterm.proofs.write.print_parts.Goals as goal

pub returns : goal.returns
returns c =
    let d = derivation_of c.args.parts.now in
    let inputs = c.args.parts.now.inputs.items in
    let front : c.put_paths.new.out.items ≡ codes "Derive([(\"out\",\"\",\"\",\"\")],[" ++ members (codes "(") (codes ",[\"out\"])") inputs = search rules in
    c.in_ok-put_rest.ensures ∙ all_written d inputs _ front
