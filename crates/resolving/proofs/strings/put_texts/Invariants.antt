use Rattle.std.proofs.Common.{◌≡◌, false, take, map}
use Rattle.std.specs.List.{list_any}
use Rattle.model.specs.Substitutions.{put_text}
use Rattle.model.specs.Resolutions.{is_crowded}
use Rattle.resolving.proofs.strings.put_texts.Given as goal

abbrev pub invariant-loop-text : goal.invariant-loop-text
invariant-loop-text l = record {
  apart : list_any (is_crowded l.replacer) (take l.text-index l.texts) ≡ false;
  texts : l.new.items ≡ map (put_text l.replacer) (take l.text-index l.texts);
}
