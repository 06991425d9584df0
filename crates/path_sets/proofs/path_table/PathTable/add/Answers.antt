use Rattle.std.proofs.Common.{◌≡◌, ◌++◌, ℕ, List, length, take, ap, sym, ◌∙◌, subst, arith}
use Rattle.std.proofs.Math.Seq.{take-append_seam}
use Rattle.model.specs.Occurrences.{IsHashPart}
use Rattle.path_sets.specs.PathSets.{HasOneMore, counted}
use Rattle.path_sets.proofs.PathSetLemmas.{table_more, table_same}
use Rattle.path_sets.proofs.path_table.PathTable.add.Goals as goal

pub invariant_of-self-2 : goal.invariant_of-self-2
invariant_of-self-2 c =
    let digits : List ℕ = c.digits-digits.result.now in
    let part = c.digits-digits.ensures.value ∙ c.hash_part-part.ensures.value in
    let copied : c.in_ok-copy.copy ≡ c.args.path = c.in_ok-copy.ensures.cases in
    let more = subst (λ path. HasOneMore digits path c.self.inside.groups.entries c.put_in_group.new.groups.entries) copied c.in_default.ensures in
    rw (c.push_reserved.ensures.items, c.in_ok-reserve.ensures.items, c.in_ok-push_name.ensures) (table_more c.self.inside.paths.items
    c.self.inside.groups.entries c.put_in_group.new.groups.entries c.self.inside.slots c.mark.new.self c.self.inside.names.items digits c.args.path
    c.self.invariant c.hash_part-part.ensures.part.0 (subst IsHashPart (sym c.digits-digits.ensures.value) c.digits-digits.ensures.digits) part
    c.mark.ensures more)

pub invariant_of-self-in-Err : goal.invariant_of-self-in-Err
invariant_of-self-in-Err c =
    let names = c.self.inside.names.items in
    let long : c.len-count.result ≡ length names = (let e = c.len-count.ensures in omega (arith, e)) in
    let back : c.truncate.new.self.items ≡ names = c.truncate.ensures.items ∙ ap (take c.len-count.result) c.in_ok-push_name.ensures
    ∙ ap (λ n. take n (names ++ counted c.args.path)) long ∙ take-append_seam names (counted c.args.path) in
    rw (c.in_ok-reserve.ensures.items, back) (table_same c.self.inside.paths.items c.self.inside.groups.entries c.put_in_group.new.groups.entries
    c.self.inside.slots names c.self.invariant c.in-Err.ensures.1)
