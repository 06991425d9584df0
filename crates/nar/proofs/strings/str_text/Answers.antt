use Rattle.std.proofs.Common.{[], ℕ, List, ap, sym, ◌∙◌, append-nil, ◌++◌}
use Rattle.model.specs.Archives.{archive_string}
use Rattle.nar.proofs.WritingLemmas.{on_ok, of_ok}
use Rattle.nar.proofs.strings.str_text.Goals as goal

pub returns-clause-text : goal.returns-clause-text
returns-clause-text c =
    let sink = c.new-sink.result in
    let text : List ℕ = archive_string c.args.content.now in
    let taken = c.put_string.ensures sink [] (on_ok sink.so_far (sym (append-nil sink.bytes.items))) in
    c.in_ok-into_bytes.ensures.text ∙ of_ok c.put_string.new.sink.so_far c.in_ok-into_bytes.ensures.all taken ∙ ap (λ s. s ++ text) c.new-sink.ensures
