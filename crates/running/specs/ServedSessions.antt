-- The sessions of files that share a store, one by one, while they are served.
use Rattle.std.specs.Prelude.{◌≡◌, ◌+◌, ◌-◌, ℕ, List, [], ◌∷◌, ◌++◌, length, map}
use Rattle.history.specs.Callers.{PassKnowledge, new_pass, below}
use Rattle.builder.specs.declared.worker.Worker.{Worker}
use Rattle.running.specs.Meeting.{stops_by}
use Rattle.teams.specs.Teams.{stops_in}
use Rattle.teams.specs.declared.sessions.ServedSession.{ServedSession}
use Rattle.teams.specs.declared.sessions.Left.{Left}
use Rattle.teams.specs.declared.sessions.Part.{Part}

-- these are the first of all passes, so many as they are, and none of them has made a call
abbrev pub AreFirst : List PassKnowledge → Type 0
AreFirst passes = passes ≡ map new_pass (below (length passes))

-- workers with these runners, each with a pass that has made no call: the last of them has the pass of that number, the one before him the next
abbrev pub first_workers : {Q : Type 0} → ℕ → List Q → List (Worker PassKnowledge Q)
first_workers least [] = []
first_workers least (runner ∷ runners) = record { store = new_pass (least + length runners); runner = runner } ∷ first_workers least runners

module _ {I Q : Type 0} where
  -- how many passes a file needs: one for each of its workers, and one for its session
  abbrev pub passes_for : Part I Q → ℕ
  passes_for part = length part.runners.items + 1

  -- how many all files need
  abbrev pub passes_needed : List (Part I Q) → ℕ
  passes_needed [] = 0
  passes_needed (part ∷ parts) = passes_for part + passes_needed parts

  -- the numbers of the passes of the sessions, where there are so many passes: they are given to the files in their order, the last
  -- pass first, and of those of a file the least is that of its session
  abbrev pub session_passes : ℕ → List (Part I Q) → List ℕ
  session_passes count [] = []
  session_passes count (part ∷ parts) = let left = count - passes_for part in left ∷ session_passes left parts

  -- the workers of a file, whose session has the pass of a number: their passes stand just above that one
  abbrev pub workers_for : ℕ → Part I Q → List (Worker PassKnowledge Q)
  workers_for session part = first_workers (session + 1) part.runners.items

  -- those of all files, in their order
  abbrev pub all_workers : List ℕ → List (Part I Q) → List (Worker PassKnowledge Q)
  all_workers (session ∷ sessions) (part ∷ parts) = workers_for session part ++ all_workers sessions parts
  all_workers sessions parts = []

  -- what a session is served with is what there is of its file, the pass of that number, which has made no call, and workers with the runners
  -- of the file
  pub record IsSessionFor (number : ℕ) (part : Part I Q) (session : ServedSession PassKnowledge Q I) : Type 0 where
    pub bytes : session.bytes ≡ part.bytes
    pub reader : session.reader ≡ part.reader
    pub store : session.store ≡ new_pass number
    pub workers : session.workers.items ≡ workers_for number part

  -- one for each file, in their order, with the passes of these numbers
  abbrev pub AreSessionsFor : List ℕ → List (Part I Q) → List (ServedSession PassKnowledge Q I) → Type 0
  AreSessionsFor [] [] [] = Unit {0}
  AreSessionsFor (number ∷ numbers) (part ∷ parts) (session ∷ served_sessions) = IsSessionFor number part session × AreSessionsFor numbers parts served_sessions
  AreSessionsFor numbers parts served_sessions = ⊥

module _ {Q : Type 0} where
  -- the passes that a session leaves: its own, and those of its workers
  abbrev pub passes_left : Left PassKnowledge Q → List PassKnowledge
  passes_left left = left.store ∷ map (λ w. w.store) left.workers.items

  -- those that all leave
  abbrev pub all_passes : List (Left PassKnowledge Q) → List PassKnowledge
  all_passes [] = []
  all_passes (left ∷ lefts) = passes_left left ++ all_passes lefts

  -- the numbers of the passes of workers
  abbrev pub numbers_in : List (Worker PassKnowledge Q) → List ℕ
  numbers_in workers = map (λ w. w.store.caller.number) workers

  -- those of the workers whom all leave
  abbrev pub all_numbers : List (Left PassKnowledge Q) → List ℕ
  all_numbers [] = []
  all_numbers (left ∷ lefts) = numbers_in left.workers.items ++ all_numbers lefts

  -- how many calls of a session and of its workers stopped the store
  abbrev pub stops_left : Left PassKnowledge Q → ℕ
  stops_left left = left.store.stops + stops_in stops_by left.workers.items
