-- Parts as the derivation that they make.
use Rattle.model.specs.Derivations.{Derivation}
use Rattle.aterm.specs.declared.derivation.Parts.{Parts}

abbrev pub derivation_of : Parts → Derivation
derivation_of parts =
    record { inputs = parts.inputs.items; sources = parts.sources.items; platform = parts.platform; builder = parts.builder; arguments = parts.arguments.items; environment = parts.environment.items }
