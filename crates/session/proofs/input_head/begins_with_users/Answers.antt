use Rattle.std.proofs.Common.{rules, ◌≡◌, true, false, length, sym, ◌∙◌}
use Rattle.session.proofs.InputHeadLemmas.{empty_text, next_silent, next_names, last_names, still_first, next_others, last_others}
use Rattle.session.proofs.input_head.begins_with_users.Goals as goal

pub returns-then-not-is_empty-clause-first : goal.returns-then-not-is_empty-clause-first
returns-then-not-is_empty-clause-first c = λ is.
    let gave = c.in_ok-text.ensures.ok in
    let told : c.has_users.result ≡ true = cc in
    c.loop-line.invariant.1
    (next_names c.loop-line.session c.line.new.self c.loop-line.rest.now c.in-Some.line.now c.in-Some.behind.now gave.0 c.in-Some.ensures.parts gave.1 gave.2
    c.loop-line.invariant.0 (sym c.has_users.ensures ∙ told))

pub loop-line-preserved : goal.loop-line-preserved
loop-line-preserved c =
    let gave = c.in_ok-text.ensures.ok in
    let none : length c.in_ok-text.text ≡ 0 = search rules in
    let empty = empty_text c.in_ok-text.text none in
    let next = next_silent c.loop-line.session c.line.new.self c.loop-line.rest.now c.in-Some.line.now c.in-Some.behind.now _ gave.0 c.in_ok-text.text
    c.in-Some.ensures.parts gave.1 gave.2 gave.3 empty c.loop-line.invariant.0 in (
      next.0,
      λ first. c.loop-line.invariant.1 (next.1 first),
      λ first. still_first c.loop-line.session c.line.new.self c.loop-line.rest.now c.in-Some.line.now c.in-Some.behind.now _ gave.0
          c.in_ok-text.text c.in-Some.ensures.parts gave.1 gave.2 gave.3 empty (c.loop-line.invariant.2 first),
    )

pub returns-clause-first : goal.returns-clause-first
returns-clause-first c = λ is.
    let gave = c.in_ok-_text.ensures.ok in
    let told : c.has_users-2.result ≡ true = cc in
    c.loop-line.invariant.1
    (last_names c.loop-line.session c.line-2.new.self c.loop-line.rest.now gave.0 c.in_default.ensures.parts gave.1 gave.2 c.loop-line.invariant.0
    (sym c.has_users-2.ensures ∙ told))

pub returns-then-not-is_empty-clause-others : goal.returns-then-not-is_empty-clause-others
returns-then-not-is_empty-clause-others c = λ is first.
    let gave = c.in_ok-text.ensures.ok in
    let told : c.has_users.result ≡ false = cc in
    next_others c.loop-line.session c.line.new.self c.loop-line.rest.now c.in-Some.line.now c.in-Some.behind.now _ gave.0 c.in_ok-text.text
    c.in-Some.ensures.parts gave.1 gave.2 gave.3 (sym c.has_users.ensures ∙ told) (λ none. search rules) (c.loop-line.invariant.2 first)

pub returns-clause-others : goal.returns-clause-others
returns-clause-others c = λ is first.
    let gave = c.in_ok-_text.ensures.ok in
    let told : c.has_users-2.result ≡ false = cc in
    last_others c.loop-line.session c.line-2.new.self c.loop-line.rest.now gave.0 c.in_default.ensures.parts gave.1 gave.2
    (sym c.has_users-2.ensures ∙ told) (c.loop-line.invariant.2 first)
