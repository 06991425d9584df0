-- What no user can ask: events whose bytes are none, and whose names, paths and trees are not of their form.
use Rattle.std.specs.Prelude.{◌≡◌, true, List, All}
use Rattle.model.specs.Archives.{AreBytes, IsTree}
use Rattle.model.specs.Paths.{is_name, IsPath}
use Rattle.model.specs.Events.{Request, AddSource, AddDerivation, Offer, Fetch, Trust, Distrust, Pin, Unpin, Closure, Take, Build, Finish, Forget, Event}

-- a request with which texts are bytes (numbers below 256), names are names, paths are paths, and trees are trees
abbrev pub IsWellFormed : Request → Type 0
IsWellFormed (AddSource name tree) = (is_name name ≡ true) × IsTree tree
IsWellFormed (AddDerivation text) = AreBytes text
IsWellFormed (Offer derivation tree) = IsPath derivation × IsTree tree
IsWellFormed (Fetch path) = IsPath path
IsWellFormed (Trust user) = AreBytes user
IsWellFormed (Distrust user) = AreBytes user
IsWellFormed (Pin class path) = IsPath class × IsPath path
IsWellFormed (Unpin class) = IsPath class
IsWellFormed (Closure class) = IsPath class
IsWellFormed (Take class) = IsPath class
IsWellFormed (Build derivation) = IsPath derivation
IsWellFormed (Finish number bytes) = AreBytes bytes
IsWellFormed (Forget class path) = IsPath class × IsPath path
IsWellFormed request = Unit {0}

-- events all of whose requests are so
abbrev pub AreWellFormed : List Event → Type 0
AreWellFormed events = All (λ e. IsWellFormed e.request) events
