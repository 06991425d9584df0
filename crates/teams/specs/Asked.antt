-- Whether workers went on with goals that their files had asked for.
use Rattle.std.specs.Prelude.{ℕ, ◌==◌, nat_lt, Bool, true, false, ◌&&◌, if◌then◌else◌, List, [], ◌∷◌, Option, Some, None}
use Rattle.std.specs.List.{list_any, find}
use Rattle.model.specs.Worlds.{Job as GoalId}
use Rattle.model.specs.Goals.{same_job}
use Rattle.model.specs.Events as events
use Rattle.model.specs.Replies as replies
use Rattle.events.specs.Terms.{request_of, reply_of}
use Rattle.history.specs.declared.row.Row.{Row}

-- ---- goals that were given

-- for each goal that was given so far, by its user and its number, the pass of the session that it was given to
abbrev pub Given : Type 0
Given = GoalId → Option ℕ

-- none was
abbrev pub none_given : Given
none_given goal = None

-- the number of the goal that is given to a user who asks for one to be built, if it is
abbrev pub number_given : events.Request → replies.Reply → Option ℕ
number_given (events.Build derivation) (replies.Goal number) = Some number
number_given request reply = None

-- the goal of a number, of the user who asks in a row
abbrev pub goal_in : Row → ℕ → GoalId
goal_in row number = record { leader = row.event.actor; number = number }

-- the goal of that number, if there is one, was given to the pass of a row
abbrev pub with_number : Row → Option ℕ → Given → Given
with_number row None given = given
with_number row (Some number) given = λ goal. if same_job (goal_in row number) goal then Some row.pass else given goal

-- the goal that a row gives, if it gives one, was given to its pass
abbrev pub with_row : Row → Given → Given
with_row row given = with_number row (number_given (request_of row.event.request) (reply_of row.reply)) given

-- ---- goals that are worked on

-- the number of the goal that a request plans, starts or ends, if it does
abbrev pub number_worked_on : events.Request → Option ℕ
number_worked_on (events.Plan number) = Some number
number_worked_on (events.Start number) = Some number
number_worked_on (events.Finish number bytes) = Some number
number_worked_on (events.Fail number status) = Some number
number_worked_on request = None

-- the session for which the worker with a pass builds. The sessions stand in the order of their files, which are given passes from the last
-- on; and those of the workers of a file stand just above that of its session. So it is the first session whose pass is below the worker's
abbrev pub session_of : List ℕ → ℕ → Option ℕ
session_of sessions pass = find (λ session. nat_lt session pass) sessions

-- whether a goal was given to a session, where there is this one
abbrev pub is_given_to : Option ℕ → Option ℕ → Bool
is_given_to (Some pass) (Some session) = pass == session
is_given_to pass session = false

-- whether there is a number, and the goal of it was given before to the session of the worker whose row this is
abbrev pub is_given : List ℕ → Given → Row → Option ℕ → Bool
is_given sessions given row None = false
is_given sessions given row (Some number) = is_given_to (given (goal_in row number)) (session_of sessions row.pass)

-- whether the row of a worker goes on with a goal that was given before to the session of its file
abbrev pub is_asked : List ℕ → Given → Row → Bool
is_asked sessions given row = is_given sessions given row (number_worked_on (request_of row.event.request))

-- ---- all rows

-- whether a row is of the pass of a session
abbrev pub is_of_session : List ℕ → Row → Bool
is_of_session sessions row = list_any (λ n. n == row.pass) sessions

-- whether each row of another pass goes on with a goal that was given before to the session of its file, where these were given before all rows
abbrev pub are_asked_after : List ℕ → Given → List Row → Bool
are_asked_after sessions given [] = true
are_asked_after sessions given (row ∷ rows) =
    if is_of_session sessions row then are_asked_after sessions (with_row row given) rows
    else is_asked sessions given row && are_asked_after sessions given rows

-- whether each does, where these are all rows of a history
abbrev pub are_asked : List ℕ → List Row → Bool
are_asked sessions rows = are_asked_after sessions none_given rows
