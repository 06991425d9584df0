use Rattle.std.proofs.Common.{◌≡◌, ◌∙◌, ap, rules, subst, ◌++◌, List}
use Rattle.std.specs.Prelude.{map}
use Rattle.std.specs.List.Sorted.{IsPermutation}
use Rattle.std.proofs.lemmas.List.Sorted.{answers_always}
use Rattle.model.specs.Worlds.{Entry, OfSource, OfRecord}
use Rattle.model.specs.Closures.{entry_before}
use Rattle.records.proofs.EntryOrderLemmas.{entry_before-Weak}
use Rattle.repair.specs.Served.{values_of}
use Rattle.repair.specs.Serving.{members_with}
use Rattle.repair.proofs.entries.entries_with.Goals as goal

pub returns : goal.returns
returns c =
    let members : c.push_sources.new.entries.items ≡ members_with c.args.sources.now (values_of c.args.served.now.entries) =
    c.in_ok-push_sources.ensures
    ∙ ap (λ es. es ++ map OfSource c.args.sources.now) c.in_ok-push_records.ensures
    ∙ ap (λ (es : List Entry). (es ++ map OfRecord (values_of c.args.served.now.entries)) ++ map OfSource c.args.sources.now) c.new-entries.ensures.items in (
      subst (λ es. IsPermutation es c.sort_by.new.self.items) members c.in_ok-sort_by.ensures.permutation,
      c.in_ok-sort_by.ensures.sorted entry_before entry_before-Weak (answers_always _ _ _ (λ f a r g h. search rules)),
    )
