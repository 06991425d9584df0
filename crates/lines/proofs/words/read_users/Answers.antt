use Rattle.std.proofs.Common.{◌≡◌, ◌∙◌, ◌<◌, ℕ, List, [], get_or, length, subst, sym, ap, refl}
use Rattle.std.proofs.lemmas.List.{get_or_default, take_all}
use Rattle.std.proofs.lemmas.Result.{err_from_is_err_and}
use Rattle.model.specs.Worlds.{are_users}
use Rattle.lines.proofs.WordLemmas.{not_users, taken_next}
use Rattle.lines.proofs.words.read_users.Goals as goal

pub loop-word-init : goal.loop-word-init
loop-word-init c = c.new-users.ensures.items

pub loop-word-preserved : goal.loop-word-preserved
loop-word-preserved c =
    taken_next c.args.words.now c.loop-word.word-index c.word-item.result c.in_ok-new.field-0 c.loop-word.users.items c.push.new.self.items
    c.loop-word-test.true c.word-item.is (c.in_ok-new.ensures.value ∙ c.bytes-in-loop-word.ensures) c.in_ok-push.ensures.items c.loop-word.invariant

pub returns-in_err-new : goal.returns-in_err-new
returns-in_err-new c =
    let p = err_from_is_err_and c.from_residual.result c.from_residual.ensures.1 in
    rw (p.1, p.2) (record { read = tt; memory = c.in_err-new.ensures.memory })

pub returns-in_err-push : goal.returns-in_err-push
returns-in_err-push c =
    let p = err_from_is_err_and c.from_residual-in_err-push.result c.from_residual-in_err-push.ensures.1 in
    rw (p.1, p.2) (record { read = tt; memory = refl })

pub returns-then-bytes-gt-LONGEST_USER_NAME-clause-read : goal.returns-then-bytes-gt-LONGEST_USER_NAME-clause-read
returns-then-bytes-gt-LONGEST_USER_NAME-clause-read c =
    let same : c.bytes.result.now ≡ get_or c.args.words.now c.loop-word.word-index [] =
    c.bytes.ensures ∙ c.word-item.is ∙ get_or_default c.args.words.now c.loop-word.word-index c.word-item.result [] c.loop-word-test.true in
    not_users c.args.words.now c.loop-word.word-index c.loop-word-test.true (subst (λ (w : List ℕ). 32 < length w) same c.if-bytes-gt-LONGEST_USER_NAME.true)

pub returns-then-are_users : goal.returns-then-are_users
returns-then-are_users c =
    let all : c.loop-word.users.items ≡ c.args.words.now =
    c.loop-word.invariant ∙ take_all c.loop-word.word-index c.args.words.now c.loop-word-test.false in
    record { read = (all, sym (ap are_users (c.as_slice.ensures.value ∙ all)) ∙ sym c.are_users.ensures ∙ c.if-are_users.true); memory = tt }

pub returns-else-are_users : goal.returns-else-are_users
returns-else-are_users c =
    let all : c.loop-word.users.items ≡ c.args.words.now =
    c.loop-word.invariant ∙ take_all c.loop-word.word-index c.args.words.now c.loop-word-test.false in
    record { read = sym (ap are_users (c.as_slice.ensures.value ∙ all)) ∙ sym c.are_users.ensures ∙ c.if-are_users.false; memory = tt }
