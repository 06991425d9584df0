-- Queries as events.
use Rattle.events.specs.declared.event.Request.{Request}
use Rattle.events.specs.declared.event.Request.TheVariants as requests
use Rattle.events.specs.declared.event.Event.{Event}
use Rattle.schedule.specs.declared.query.Question.{Question}
use Rattle.schedule.specs.declared.query.Question.TheVariants.{Status, Closure, Fetch}
use Rattle.schedule.specs.declared.query.Query.{Query}

abbrev pub request_in : Question → Request
request_in (Status number) = requests.Status number
request_in (Closure class) = requests.Closure class
request_in (Fetch path) = requests.Fetch path

-- the event that a query is
abbrev pub event_for : Query → Event
event_for q = record { actor = q.actor; request = request_in q.question }
