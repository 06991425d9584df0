-- What comes of what a core finds for a query.
use Rattle.std.specs.Prelude.{◌≡◌, Result, Ok, Err}
use Rattle.model.specs.declared.refusal.Refusal.{Refusal}
use Rattle.events.specs.declared.reply.Reply.{Reply}
use Rattle.events.specs.declared.reply.Reply.TheVariants.{Refused}
use Rattle.handlers.specs.Serving.{IsServedOf}
use Rattle.schedule.specs.declared.read_result.ReadResult.{ReadResult}
use Rattle.schedule.specs.declared.read_result.ReadResult.TheVariants.{Told, Planned}

-- a result that may come of what was found for a query: its reply, or what is served of its plan
abbrev pub Gives : ReadResult → Result Reply Refusal → Type 0
Gives (Told reply) given = given ≡ Ok reply
Gives (Planned plan) given = IsServedOf plan given

-- and where nothing is found: why
abbrev pub MayGive : Result ReadResult Refusal → Result Reply Refusal → Type 0
MayGive (Ok read_result) given = Gives read_result given
MayGive (Err why) given = given ≡ Err why

-- a result as it is told
abbrev pub told : Result Reply Refusal → Reply
told (Ok reply) = reply
told (Err why) = Refused why

-- a reply that serving what was found for a query may give
pub record IsServedFrom (read_result : ReadResult) (reply : Reply) : Type 0 where
  pub given : Result Reply Refusal
  pub gives : Gives read_result given
  pub is : reply ≡ told given
