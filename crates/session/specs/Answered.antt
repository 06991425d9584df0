-- What is made of a reply.
use Rattle.std.specs.Prelude.{◌≡◌, ℕ, List}
use Rattle.model.specs.Replies as replies
use Rattle.model.specs.Talk.{answer_text, told_in, goal_by}
use Rattle.session.specs.declared.asking.Answered.{Answered}

-- what an actor's reply tells, the goal that it gives him, and what is printed for it as the line of that number
abbrev pub IsAnswered : ℕ → List ℕ → replies.Reply → Answered → Type 0
IsAnswered number actor reply a =
    (a.told ≡ told_in reply) × (a.goal ≡ goal_by actor reply) × (a.text ≡ answer_text number actor reply)
