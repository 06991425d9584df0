use Rattle.std.proofs.Common.{◌≡◌, true, false, ◌++◌, length, arith, rules, sym, ◌∙◌, ap, subst, List, ℕ}
use Rattle.std.proofs.lemmas.Result.{err_from_is_err_and}
use Rattle.model.specs.Worlds.{Source}
use Rattle.store.specs.Stored.{AreNew, put_all, sources_of}
use Rattle.store.proofs.PuttingLemmas.{few_missing}
use Rattle.records.specs.declared.desk_entry.DeskEntry.{DeskEntry}
use Rattle.realise.specs.Holdings.{bare, AreAbsent, AreCountable, charged_all, holds_each}
use Rattle.handlers.specs.Taking.{are_roomy}
use Rattle.handlers.proofs.MissingLemmas.{are_countable, are_absent}
use Rattle.handlers.proofs.CopyLemmas.{uncopied, over_copied, entries_closed, done_copied}
use Rattle.handlers.proofs.copying.copy_entries.Goals as goal

pub returns-in_err-trees-2 : goal.returns-in_err-trees-2
returns-in_err-trees-2 c =
    let p = err_from_is_err_and c.from_residual-in_err-trees-2.result c.from_residual-in_err-trees-2.ensures.1 in
    rw (p.1, p.2) (uncopied c.args.limits.charge c.args.table.now.sources c.args.desk.now c.args.entries.now c.in_ok-trees.trees.items
    c.in_err-trees-2.field-0.0
    c.in_ok-trees.ensures c.in_err-trees-2.ensures.refused)

pub charged_for_all-requires : goal.charged_for_all-requires
charged_for_all-requires c =
    subst AreCountable (sym c.deref.ensures.value)
    (are_countable c.args.desk.now c.args.entries.now c.in_ok-found.found.items c.requires.copyable c.in_ok-found.ensures.found c.in_ok-found.ensures.small)

pub returns-then-not-has_room : goal.returns-then-not-has_room
returns-then-not-has_room c =
    let more : c.in_ok-more.more ≡ charged_all c.in_ok-found.found.items c.args.desk.now = search rules in
    let over : are_roomy (bare c.in_ok-found.found.items) c.in_ok-more.more c.args.limits.charge c.args.desk.now ≡ false = search rules in
    over_copied c.args.limits.charge c.args.table.now.sources c.args.desk.now c.args.entries.now c.in_ok-trees.trees.items c.requires.sound c.requires.copyable
    c.in_ok-trees.ensures c.in_ok-trees-2.ensures.there c.in_ok-found.found.items c.in_ok-more.more c.in_ok-found.ensures.found more over

pub add_all-requires-clause-absent : goal.add_all-requires-clause-absent
add_all-requires-clause-absent c =
    subst (λ (es : List (DeskEntry × ℕ)). AreAbsent (bare es) c.args.desk.now) (sym c.in_ok-found.ensures.found)
    (are_absent c.args.desk.now c.args.entries.now c.requires.copyable)

pub add_all-requires-clause-closed : goal.add_all-requires-clause-closed
add_all-requires-clause-closed c =
    entries_closed c.args.limits.charge c.args.table.now.sources c.args.desk.now c.args.entries.now c.in_ok-trees.trees.items c.requires.sound
    c.requires.copyable
    c.in_ok-trees.ensures c.in_ok-trees-2.ensures.there c.in_ok-found.found.items c.in_ok-found.ensures.found

pub returns : goal.returns
returns c =
    let old : List Source = c.args.table.now.sources in
    let found : List (DeskEntry × ℕ) = c.in_ok-found.found.items in
    let more : c.in_ok-more.more ≡ charged_all found c.args.desk.now = search rules in
    let roomy : are_roomy (bare found) c.in_ok-more.more c.args.limits.charge c.args.desk.now ≡ true = search rules in
    let stored : c.put_all_reserved.new.self.sources ≡ put_all (sources_of c.in_ok-trees.trees.items) old =
    c.put_all_reserved.ensures ∙ ap (λ ss. ss ++ sources_of c.in_ok-trees-2.trees.items) c.in_ok-reserve.ensures.kept ∙ sym c.in_ok-trees-2.ensures.all in
    let after : c.add_all.new.self ≡ holds_each found c.args.desk.now = search rules in
    done_copied c.args.limits.charge old c.args.desk.now c.args.entries.now c.in_ok-trees.trees.items c.requires.sound c.requires.copyable
    c.in_ok-trees.ensures c.in_ok-trees-2.ensures.there found c.in_ok-more.more c.put_all_reserved.new.self.sources c.add_all.new.self
    c.in_ok-found.ensures.found more roomy stored after

pub put_all_reserved-requires-clause-room : goal.put_all_reserved-requires-clause-room
put_all_reserved-requires-clause-room c =
    let few = few_missing c.in_ok-trees.trees.items c.in_ok-trees-2.trees.items c.args.table.now.sources c.in_ok-trees-2.ensures.all in
    let count : c.len-count.result ≡ length c.in_ok-trees.trees.items = c.len-count.ensures ∙ c.in_ok-trees.trees.ok.0 in
    let room = c.in_ok-reserve.ensures.room in
    omega (arith, few, count, room)

pub put_all_reserved-requires-clause-absent : goal.put_all_reserved-requires-clause-absent
put_all_reserved-requires-clause-absent c =
    subst (λ ss. AreNew ss (sources_of c.in_ok-trees-2.trees.items)) (sym c.in_ok-reserve.ensures.kept) c.in_ok-trees-2.ensures.new
