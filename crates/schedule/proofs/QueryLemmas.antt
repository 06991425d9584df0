-- Each question asks for what is there.
use Rattle.std.proofs.Common.{◌≡◌, true, refl}
use Rattle.model.specs.Events.{is_query}
use Rattle.events.specs.Terms.{request_of}
use Rattle.schedule.specs.declared.query.Query.{Query}
use Rattle.schedule.specs.declared.query.Question.{Question}
use Rattle.schedule.specs.declared.query.Question.TheVariants.{Status, Closure, Fetch}
use Rattle.schedule.specs.Queries.{request_in, event_for}

question_asks : (question : Question) → is_query (request_of (request_in question)) ≡ true
question_asks (Status number) = refl
question_asks (Closure class) = refl
question_asks (Fetch path) = refl

pub asks : (q : Query) → is_query (request_of (event_for q).request) ≡ true
asks q = question_asks q.question
