use Rattle.std.proofs.Common.{◌≡◌, ◌++◌, ◌∷◌, [], List, sym, ◌∙◌, ap, refl, false}
use Rattle.std.specs.Prelude.{bytes_eq}
use Rattle.std.specs.List.{list_any}
use Rattle.model.specs.Worlds.{Record}
use Rattle.choose.specs.Gathering.{has_class}
use Rattle.choose.proofs.KeyLemmas.{keyed, keys_pushed}
use Rattle.choose.proofs.gathering.Gathering.push_record.Goals as goal

pub invariant_of-self-2 : goal.invariant_of-self-2
invariant_of-self-2 c =
    let class = c.args.class.now in
    let keys = c.self.inside.classes.keys in
    let records : List Record = c.self.inside.records.items in
    let absent : false ≡ list_any (bytes_eq class) keys =
    sym c.requires.absent ∙ ap (has_class class) (sym c.self.view_is)
    ∙ keyed (λ (r : Record). r.class.path) (list_any (bytes_eq class) keys) class keys records c.self.invariant.of_records refl in
    let pushed : c.push_reserved.new.self.items ≡ records ++ c.args.realisation ∷ [] = c.push_reserved.ensures.items
    ∙ ap (λ items. items ++ c.args.realisation ∷ []) c.in_ok-reserve.ensures.items in
    record {
      of_records =
          keys_pushed (λ (r : Record). r.class.path) class class keys c.put_path.new.table.keys records c.push_reserved.new.self.items c.args.realisation
          c.self.invariant.of_records absent refl c.requires.own c.in_ok-put_path.ensures.put pushed;
      of_sources = c.self.invariant.of_sources;
    }
