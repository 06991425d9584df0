use Rattle.std.proofs.Common.{rules, ◌≡◌, ℕ, List, length, ap, ◌∙◌}
use Rattle.std.specs.List.{list_any}
use Rattle.records.specs.Recorded.{Recorded}
use Rattle.outputs.specs.Reaching.{is_news}
use Rattle.outputs.proofs.StepLemmas.{next_reached}
use Rattle.outputs.proofs.below.one_step.Goals as goal

pub returns : goal.returns
returns c k at =
    let records = c.args.desk.now.records in
    let inputs = c.args.inputs.now.keys in
    let old = c.args.reached.now in
    let news = λ (path class : List ℕ) (rs : List Recorded). list_any (λ r. list_any (is_news inputs old.seen.keys class path) r.labels) rs in
    let from : c.len-reached.result ≡ length old.records.items = search rules in
    next_reached records inputs k old (record { records = c.append.new.self; from = c.len-reached.result; seen = c.add_pairs.new.seen })
    c.in_ok-named.named.keys c.in_ok-next.next.items at (λ path class. c.in_ok-named.ensures path class ∙ ap (news path class) c.fresh.ensures)
    c.in_ok-next.ensures c.in_ok-add_pairs.ensures from c.in_ok-append.ensures.items
