-- The kinds of paths as the definitions know them.
use Rattle.model.specs.Paths as model
use Rattle.storepath.specs.declared.kind.Kind.{Kind}
use Rattle.storepath.specs.declared.kind.Kind.TheVariants.{Source, DerivationFile, OutputClass, Scratch, Output}

abbrev pub kind_of : Kind → model.Kind
kind_of Source = model.Source
kind_of (DerivationFile references) = model.DerivationFile references.now
kind_of OutputClass = model.OutputClass
kind_of Scratch = model.Scratch
kind_of (Output references itself) = model.Output references.now itself
