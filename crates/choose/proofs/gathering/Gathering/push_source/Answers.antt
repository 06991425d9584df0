use Rattle.std.proofs.Common.{◌≡◌, ◌++◌, ◌∷◌, [], List, sym, ◌∙◌, ap, refl, false}
use Rattle.std.specs.Prelude.{bytes_eq}
use Rattle.std.specs.List.{list_any}
use Rattle.model.specs.Worlds.{Source}
use Rattle.choose.specs.Gathering.{has_source}
use Rattle.choose.proofs.KeyLemmas.{keyed, keys_pushed}
use Rattle.choose.proofs.gathering.Gathering.push_source.Goals as goal

pub invariant_of-self-2 : goal.invariant_of-self-2
invariant_of-self-2 c =
    let path = c.args.path.now in
    let keys = c.self.inside.paths.keys in
    let sources : List Source = c.self.inside.sources.items in
    let absent : false ≡ list_any (bytes_eq path) keys =
    sym c.requires.absent ∙ ap (has_source path) (sym c.self.view_is)
    ∙ keyed (λ (s : Source). s.path) (list_any (bytes_eq path) keys) path keys sources c.self.invariant.of_sources refl in
    let pushed : c.push_reserved.new.self.items ≡ sources ++ c.args.source ∷ [] = c.push_reserved.ensures.items
    ∙ ap (λ items. items ++ c.args.source ∷ []) c.in_ok-reserve.ensures.items in
    record {
      of_records = c.self.invariant.of_records;
      of_sources =
          keys_pushed (λ (s : Source). s.path) path path keys c.put_path.new.table.keys sources c.push_reserved.new.self.items c.args.source
          c.self.invariant.of_sources absent refl c.requires.own c.in_ok-put_path.ensures.put pushed;
    }
