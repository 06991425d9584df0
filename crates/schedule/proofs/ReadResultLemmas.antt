-- What comes of what a core finds is a step that leaves the core.
use Rattle.std.proofs.Common.{◌≡◌, refl, sym, ◌∙◌, ap, subst, Result, Ok, Err}
use Rattle.model.specs.declared.refusal.Refusal.{Refusal}
use Rattle.model.specs.Events as events
use Rattle.model.specs.Laws.{NeverFails}
use Rattle.rewrite.specs.Laws.{OneTreeAtAPath}
use Rattle.model.specs.WellFormed.{IsWellFormed}
use Rattle.handlers.specs.Handling.{IsHandled}
use Rattle.events.specs.declared.reply.Reply.{Reply}
use Rattle.events.specs.declared.reply.Reply.TheVariants.{Refused}
use Rattle.events.specs.Terms.{reply_of}
use Rattle.schedule.specs.declared.state.Core.{Core}
use Rattle.schedule.specs.declared.read_result.ReadResult.{ReadResult}
use Rattle.schedule.specs.declared.read_result.ReadResult.TheVariants.{Told}
use Rattle.schedule.specs.Standing.{parts_of}
use Rattle.schedule.specs.Stepping.{IsCoreStep}
use Rattle.schedule.specs.ReadResults.{Gives, told, IsServedFrom}
use Rattle.schedule.proofs.StepLemmas.{served_step, refused_step}

handled_step : OneTreeAtAPath → NeverFails → (core : Core) (e : events.Event) (given : Result Reply Refusal) → IsWellFormed e.request
    → IsHandled (parts_of core) e given (parts_of core)
    → IsCoreStep core e (reply_of (told given)) core
handled_step one never core e (Ok reply) well handled = served_step core core e reply well handled
handled_step one never core e (Err why) well handled = refused_step one never core core e why well handled

pub found_step : OneTreeAtAPath → NeverFails → (core : Core) (e : events.Event) (read_result : ReadResult) → IsWellFormed e.request
    → ((given : Result Reply Refusal) → Gives read_result given → IsHandled (parts_of core) e given (parts_of core))
    → (reply : Reply) → IsServedFrom read_result reply → IsCoreStep core e (reply_of reply) core
found_step one never core e read_result well handled reply from =
    subst (λ (r : Reply). IsCoreStep core e (reply_of r) core) (sym from.is) (handled_step one never core e from.given well (handled from.given from.gives))

-- where nothing is found, that is told
pub not_found_step : OneTreeAtAPath → NeverFails → (core : Core) (e : events.Event) (why : Refusal) → IsWellFormed e.request
    → ((given : Result Reply Refusal) → given ≡ Err why → IsHandled (parts_of core) e given (parts_of core))
    → (reply : Reply) → IsServedFrom (Told (Refused why)) reply → IsCoreStep core e (reply_of reply) core
not_found_step one never core e why well handled reply from =
    subst (λ (r : Reply). IsCoreStep core e (reply_of r) core) (sym (from.is ∙ ap told from.gives))
    (handled_step one never core e (Err why) well (handled (Err why) refl))
