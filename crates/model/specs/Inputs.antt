-- The file that a builder is given to read: its inputs, each with its path and its archive as strings of an archive.
use Rattle.std.specs.Prelude.{ℕ, List, [], ◌∷◌, ◌++◌, flat_map, bytes_eq, if◌then◌else◌}
use Rattle.model.specs.Archives.{archive_string, nar}
use Rattle.model.specs.Worlds.{Entry, path_of_entry}
use Rattle.model.specs.Closures.{tree_of_entry}

-- a path, and the archive of its tree
pub record Input : Type 0 where
  pub path : List ℕ
  pub archive : List ℕ

abbrev pub input_text : Input → List ℕ
input_text input = archive_string input.path ++ archive_string input.archive

-- the whole file
abbrev pub inputs_text : List Input → List ℕ
inputs_text inputs = flat_map input_text inputs

abbrev pub input_of : Entry → Input
input_of entry = record { path = path_of_entry entry; archive = nar (tree_of_entry entry) }

-- the inputs of entries that stand behind one of this path: what stands at the path of the one before it is left out
abbrev pub inputs_behind : List ℕ → List Entry → List Input
inputs_behind path [] = []
inputs_behind path (e ∷ es) =
    if bytes_eq (path_of_entry e) path then inputs_behind path es
    else input_of e ∷ inputs_behind (path_of_entry e) es

-- the inputs of a closure, whose entries stand in the order of paths: each path once. No path is empty
abbrev pub inputs_of : List Entry → List Input
inputs_of closure = inputs_behind [] closure
