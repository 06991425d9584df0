-- What is found after the rows that are published.
use Rattle.std.specs.Prelude.{◌≡◌, ℕ, List, Result, IfOk, IfErr}
use Rattle.model.specs.declared.refusal.Refusal.{Refusal}
use Rattle.model.specs.declared.refusal.Refusal.TheVariants.{Memory}
use Rattle.model.specs.Events as events
use Rattle.events.specs.declared.event.Event.{Event}
use Rattle.schedule.specs.declared.preparing.PrepareInput.{PrepareInput}
use Rattle.schedule.specs.declared.read_result.ReadResult.{ReadResult}
use Rattle.jobs.specs.declared.outlook.Outlook.{Outlook}
use Rattle.history.specs.declared.history_prefix.HistoryPrefix.{HistoryPrefix}
use Rattle.publishing.specs.declared.law.FrontName.{FrontName}
use Rattle.publishing.specs.FrontNames.{book_in, setup_in}
use Rattle.publishing.specs.Following.{FindsRead, IsNeedAfter, IsOutlookAfter}
use Rattle.history.specs.Histories.{IsLegal}

-- this was found for the event of a query after these rows, which are a legal history of the front with this name
pub record IsFoundAfter (name : FrontName) (event : Event) (found : ReadResult) (rows : HistoryPrefix) : Type 0 where
  pub book : rows.seen.book ≡ book_in name
  pub legal : IsLegal (setup_in name) rows.seen.log
  pub answer : FindsRead (setup_in name) rows.seen.log event found

-- this is what an event needs to be made after these rows of the front with this name, or memory was refused
pub record IsFoundNeeded (name : FrontName) (event : events.Event) (needed : Result PrepareInput Refusal) (rows : HistoryPrefix) : Type 0 where
  pub book : rows.seen.book ≡ book_in name
  pub need : IfOk needed (IsNeedAfter (setup_in name) rows.seen.log event)
  pub memory : IfErr needed (λ why. why ≡ Memory)

-- it was found how a user's goal of a number may go on after these rows, which are a legal history of the front with this name
pub record IsFoundOutlook (name : FrontName) (user : List ℕ) (number : ℕ) (found : Result Outlook Refusal) (rows : HistoryPrefix) : Type 0 where
  pub book : rows.seen.book ≡ book_in name
  pub legal : IsLegal (setup_in name) rows.seen.log
  pub outlook : IsOutlookAfter (setup_in name) rows.seen.log user number found
