-- Strings as the derivation that they were read as.
use Rattle.model.specs.Derivations.{Derivation}
use Rattle.aterm.specs.declared.read.Strings.{Strings}

abbrev pub derivation_read : Strings → Derivation
derivation_read s =
    record { inputs = s.inputs.items; sources = s.sources.items; platform = s.platform; builder = s.builder; arguments = s.arguments.items; environment = s.environment.items }
