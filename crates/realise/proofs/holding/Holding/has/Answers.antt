use Rattle.std.proofs.Common.{ap, ◌∙◌}
use Rattle.std.specs.Prelude.{bytes_eq}
use Rattle.std.specs.List.{list_any}
use Rattle.std.proofs.lemmas.Map.Made.{is_some-lookup}
use Rattle.realise.specs.Held.{Held, paths_held}
use Rattle.realise.proofs.holding.Holding.has.Goals as goal

pub returns : goal.returns
returns c =
    c.contains_key.ensures ∙ is_some-lookup (bytes_eq c.args.path.now) c.self.inside.archives.entries
    ∙ ap (λ (h : Held). list_any (bytes_eq c.args.path.now) (paths_held h.archives)) c.self.view_is
