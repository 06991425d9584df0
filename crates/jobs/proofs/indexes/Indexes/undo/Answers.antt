use Rattle.std.proofs.Common.{◌∙◌, ℕ, List, sym, ap}
use Rattle.std.specs.List.{find}
use Rattle.model.specs.Worlds.{Goal}
use Rattle.model.specs.Goals.{goal_at}
use Rattle.jobs.specs.Numbers.{path_of_done, is_other_alike}
use Rattle.jobs.proofs.NumberLemmas.{some_at}
use Rattle.jobs.proofs.FinishedLemmas.{undo_nothing, undo_alone, undo_behind, undo_ahead, room_next}
use Rattle.jobs.proofs.indexes.Indexes.undo.Goals as goal

pub returns-in_default-clause-done : goal.returns-in_default-clause-done
returns-in_default-clause-done c =
    let gs : List Goal = c.args.goals.now in
    let n : ℕ = c.args.number in
    let it = some_at (goal_at n gs) c.requires.there in
    λ p. c.requires.done p ∙ sym (undo_nothing gs n it.0 it.1 (ap path_of_done (sym it.1) ∙ sym c.in_default.ensures) p)

pub exchange_at-requires : goal.exchange_at-requires
exchange_at-requires c =
    let gs : List Goal = c.args.goals.now in
    let n : ℕ = c.args.number in
    let it = some_at (goal_at n gs) c.requires.there in
    let lists = c.args.self.now in
    room_next gs n it.0 it.1 c.in-Some.path.now (ap path_of_done (sym it.1) ∙ sym c.in-Some.ensures) lists.built.entries lists.done.entries
    c.requires.built c.requires.done c.in-Some-first_alike.first
    (c.in-Some-first_alike.ensures ∙ ap (find (is_other_alike n gs)) c.numbers_at.ensures) c.if-first-number.false c.requires.room

pub returns-in-Some-first_alike-clause-done : goal.returns-in-Some-first_alike-clause-done
returns-in-Some-first_alike-clause-done c =
    let gs : List Goal = c.args.goals.now in
    let n : ℕ = c.args.number in
    let it = some_at (goal_at n gs) c.requires.there in
    let lists = c.args.self.now in
    undo_behind gs n it.0 it.1 c.in-Some.path.now (ap path_of_done (sym it.1) ∙ sym c.in-Some.ensures) lists.built.entries lists.done.entries
    c.requires.built c.requires.done c.in-Some-first_alike.first
    (c.in-Some-first_alike.ensures ∙ ap (find (is_other_alike n gs)) c.numbers_at.ensures) c.if-first-number.true

pub returns-in-Some-2-clause-done : goal.returns-in-Some-2-clause-done
returns-in-Some-2-clause-done c =
    let gs : List Goal = c.args.goals.now in
    let n : ℕ = c.args.number in
    let it = some_at (goal_at n gs) c.requires.there in
    let lists = c.args.self.now in
    undo_ahead gs n it.0 it.1 c.in-Some.path.now (ap path_of_done (sym it.1) ∙ sym c.in-Some.ensures) lists.built.entries lists.done.entries
    c.requires.built c.requires.done c.in-Some-first_alike.first c.exchange_at.new.index.entries
    (c.in-Some-first_alike.ensures ∙ ap (find (is_other_alike n gs)) c.numbers_at.ensures) c.if-first-number.false c.exchange_at.ensures.numbers

pub returns-in-None-clause-done : goal.returns-in-None-clause-done
returns-in-None-clause-done c =
    let gs : List Goal = c.args.goals.now in
    let n : ℕ = c.args.number in
    let it = some_at (goal_at n gs) c.requires.there in
    let lists = c.args.self.now in
    undo_alone gs n it.0 it.1 c.in-Some.path.now (ap path_of_done (sym it.1) ∙ sym c.in-Some.ensures) lists.built.entries lists.done.entries
    c.requires.built c.requires.done c.remove_at.new.index.entries
    (c.in-None.ensures ∙ ap (find (is_other_alike n gs)) c.numbers_at.ensures) c.remove_at.ensures.numbers
