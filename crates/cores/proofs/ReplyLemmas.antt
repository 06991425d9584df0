-- Why a core's reply has no row.
use Rattle.std.proofs.Common.{◌≡◌, true, refl, ap, ◌∙◌}
use Rattle.model.specs.declared.refusal.Refusal.{Refusal}
use Rattle.model.specs.declared.refusal.Refusal.TheVariants.{Memory, Stopped}
use Rattle.schedule.specs.declared.state.Core.{Core}
use Rattle.events.specs.declared.event.Event.{Event}
use Rattle.events.specs.declared.reply.Reply.{Reply}
use Rattle.events.specs.declared.reply.Reply.TheVariants.{Refused}
use Rattle.events.specs.Terms.{reply_of}
use Rattle.history.specs.Histories.{unrecorded}
use Rattle.cores.specs.Turns.{Steps}

only_memory : (why : Refusal) → unrecorded (Refused why) ≡ true → (why ≡ Stopped → ⊥) → why ≡ Memory
only_memory Memory h other = refl
only_memory Stopped h other = absurd (other refl)
only_memory why h other = cc

-- a core's reply that has no row is a want of memory
pub wants_memory : (old new : Core) (event : Event) (reply : Reply) (why : Refusal) → reply ≡ Refused why → unrecorded reply ≡ true → Steps old event reply new
    → why ≡ Memory
wants_memory old new event reply why is gave steps =
    only_memory why (rw is at gave) (λ stopped. steps.going refl (ap reply_of (is ∙ ap (λ (r : Refusal). Refused r) stopped)))
