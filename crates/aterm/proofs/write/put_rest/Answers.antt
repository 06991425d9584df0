use Rattle.std.proofs.Common.{codes, [], ◌++◌, map, ap, ◌∙◌}
use Rattle.model.specs.Derivations.{listed, variable_text}
use Rattle.aterm.specs.Parts.{derivation_of}
use Rattle.aterm.specs.Writing.{between, members}
use Rattle.aterm.proofs.ListTexts.{last_write}
use Rattle.aterm.proofs.Written.{rest_written}
use Rattle.aterm.proofs.write.put_rest.Goals as goal

pub returns : goal.returns
returns c =
    let old = c.args.out.now.items in
    let sources = c.in_ok-put_paths.ensures ∙ ap (λ s. old ++ codes ",[" ++ members [] [] s) c.deref.ensures.value in
    let platform = c.in_ok-put_member.ensures ∙ ap (λ p. c.put_paths.new.out.items ++ codes "," ++ between [] [] p) c.bytes.ensures in
    let builder = c.in_ok-put_member-2.ensures ∙ ap (λ b. c.put_member.new.out.items ++ codes "," ++ between [] [] b) c.bytes-2.ensures in
    let arguments = c.in_ok-put_texts.ensures ∙ ap (λ a. c.put_member-2.new.out.items ++ codes ",[" ++ members [] [] a) c.deref-2.ensures.value in
    let variables =
    c.in_ok-put_variables.ensures ∙ ap (λ v. c.put_texts.new.out.items ++ codes ",[" ++ listed [] (map variable_text v)) c.deref-3.ensures.value in
    last_write c.extend_from_slice.result c.put_variables.new.out.items (codes ")") c.extend_from_slice.new.self.items _ c.extend_from_slice.ensures.items
    (rest_written (derivation_of c.args.parts.now) old _ _ _ _ _ sources platform builder arguments variables)
