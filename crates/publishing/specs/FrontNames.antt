-- The name of a front, as tokens carry it.
use Rattle.model.specs.Worlds.{Setup}
use Rattle.logbook.specs.Pages.{Book}
use Rattle.publishing.specs.declared.law.FrontName.{FrontName}

abbrev pub name_of : Book → Setup → FrontName
name_of book setup = record { number = book.number; log_name = book.log_name; cells_name = book.cells_name; users = setup.users; charge = setup.charge }

-- which history it is
abbrev pub book_in : FrontName → Book
book_in n = record { number = n.number; log_name = n.log_name; cells_name = n.cells_name }

-- what its run was given
abbrev pub setup_in : FrontName → Setup
setup_in n = record { users = n.users; charge = n.charge }
