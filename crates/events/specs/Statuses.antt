-- How far goals are.
use Rattle.model.specs.Worlds as model
use Rattle.events.specs.declared.status.Status.{Status}
use Rattle.events.specs.declared.status.Status.TheVariants.{Waiting, Planned, Building, Done, Failed}

-- what contracts see of a state
abbrev pub status_of : Status → model.Status
status_of Waiting = model.Waiting
status_of Planned = model.Planned
status_of (Building job) = model.Building job
status_of (Done path) = model.Done path
status_of (Failed why) = model.Failed why
