-- Events and replies in the terms of the model.
use Rattle.std.specs.Prelude.{Bool, true, false}
use Rattle.model.specs.Worlds as statuses
use Rattle.model.specs.Events as events
use Rattle.model.specs.Replies as replies
use Rattle.trust.specs.declared.user.User.{User}
use Rattle.events.specs.declared.event.Request.{Request}
use Rattle.events.specs.declared.event.Request.TheVariants.{AddSource, AddDerivation, Offer, Fetch, Trust, Distrust, Pin, Unpin, Closure, Take, Build, Status, Plan, Start, Finish, Fail, Forget}
use Rattle.events.specs.declared.event.Event.{Event}
use Rattle.events.specs.declared.reply.Reply.{Reply}
use Rattle.events.specs.declared.reply.Reply.TheVariants.{Ok as OkReply, Path, Derivation, Tree as TreeReply, Closure as ClosureReply, Goal as GoalReply, Status as StatusReply, Refused}
use Rattle.events.specs.Statuses.{status_of}

abbrev pub request_of : Request → events.Request
request_of (AddSource name tree) = events.AddSource name tree
request_of (AddDerivation text) = events.AddDerivation text
request_of (Offer derivation tree) = events.Offer derivation tree
request_of (Fetch path) = events.Fetch path
request_of (Trust user) = events.Trust user
request_of (Distrust user) = events.Distrust user
request_of (Pin class path) = events.Pin class path
request_of (Unpin class) = events.Unpin class
request_of (Closure class) = events.Closure class
request_of (Take class) = events.Take class
request_of (Build derivation) = events.Build derivation
request_of (Status number) = events.Status number
request_of (Plan number) = events.Plan number
request_of (Start number) = events.Start number
request_of (Finish number output) = events.Finish number output
request_of (Fail number status) = events.Fail number status
request_of (Forget class path) = events.Forget class path

abbrev pub event_of : Event → events.Event
event_of e = record { actor = e.actor; request = request_of e.request }

abbrev pub reply_of : Reply → replies.Reply
reply_of OkReply = replies.Ok
reply_of (Path path) = replies.Path path
reply_of (Derivation path class) = replies.Derivation path class
reply_of (TreeReply tree) = replies.Tree tree
reply_of (ClosureReply entries) = replies.Closure entries
reply_of (GoalReply number) = replies.Goal number
reply_of (StatusReply status) = replies.Status (status_of status)
reply_of (Refused why) = replies.Refused why

-- a user with his reply
abbrev pub answer_of : User × Reply → replies.Answer
answer_of a = record { actor = a.0; reply = reply_of a.1 }

-- whether a reply shares nothing with what is stored: it has no name, no path and no tree
abbrev pub shares_nothing : replies.Reply → Bool
shares_nothing replies.Ok = true
shares_nothing (replies.Goal number) = true
shares_nothing (replies.Status statuses.Waiting) = true
shares_nothing (replies.Status statuses.Planned) = true
shares_nothing (replies.Status (statuses.Failed why)) = true
shares_nothing (replies.Refused why) = true
shares_nothing reply = false
