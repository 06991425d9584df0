use Rattle.std.proofs.Common.{◌≡◌, ◌<◌, List, ◌∷◌, ◌++◌, [], ◌∙◌, ap, length, rules, arith, append-nil}
use Rattle.std.specs.Prelude.{map, if◌then◌else◌}
use Rattle.std.proofs.lemmas.List.{length-map, map_push}
use Rattle.model.specs.Events.{Event}
use Rattle.trust.specs.Trusting.{holds, trusts}
use Rattle.trust.specs.Naming.{names}
use Rattle.events.specs.Terms.{event_of}
use Rattle.trust.proofs.UsersLemmas.{few_users}
use Rattle.events.proofs.UndoingLemmas.{length-all_undoing}
use Rattle.events.proofs.KeepingLemmas.{none_long, keeping_first, keeping_next, keeping_last, keeping_none}
use Rattle.events.proofs.striking.keep_near.Goals as goal
use Rattle.events.proofs.striking.keep_near.Goals.{then-is_in, else-is_in}

pub closure-near-requires : goal.closure-near-requires
closure-near-requires c = omega (arith, c.requires.of_run, few_users c.args.users.now c.requires.listed)

pub loop-turn-init : goal.loop-turn-init
loop-turn-init c all charge undone =
    keeping_first c.args.users.now charge c.args.place all c.requires.listed c.trust_follows.ensures (map event_of c.args.events.now.items)
    (trusts c.args.trust.now) c.closure-near.result c.requires.of_run undone c.closure-near.ensures

pub is_in-requires : goal.is_in-requires
is_in-requires c = few_users c.args.users.now c.requires.listed

pub returns-in_default : goal.returns-in_default
returns-in_default c all charge undone =
    let l = c.loop-turn in
    let none : l.events.items ≡ [] = none_long l.events.items (search rules) in
    let same : c.pop_back.new.self.items ≡ l.events.items = search (rules, append-nil) in
    ap (map event_of) same
    ∙ keeping_none c.args.users.now charge c.args.place all (map event_of l.events.items) (trusts l.trust) l.near l._turn (l.invariant all charge undone)
    (ap (map event_of) none)

pub loop-turn-preserved : goal.loop-turn-preserved
loop-turn-preserved c all charge undone =
    let l = c.loop-turn in
    let left : List Event = map event_of c.pop_back.new.self.items in
    let event : Event = event_of c.exchange-event.result in
    let popped : map event_of l.events.items ≡ left ++ event_of c.in-Some.back ∷ [] =
    ap (map event_of) c.in-Some.ensures.items ∙ map_push event_of c.pop_back.new.self.items c.in-Some.back in
    let long : length (map event_of c.args.events.now.items) ≡ length all =
    ap length undone.events ∙ length-all_undoing c.args.users.now _ all in
    let below : l._turn < length all = search (rules, length-map, long) in
    let now : map event_of c.if-is_in.events.items ≡ (if names c.args.users.now (holds l.near) event.actor then event ∷ left else left) =
    elim c.if-is_in.branch [
      | then-is_in w ↦ rw (← c.is_in.ensures, w.if-is_in.true) (ap (λ d. map event_of d.items) w.events-is ∙ ap (map event_of) w.push_front_reserved.ensures.items)
      | else-is_in w ↦ rw (← c.is_in.ensures, w.if-is_in.false) (ap (λ d. map event_of d.items) w.events-is)
    ] in
    keeping_next c.args.users.now charge c.args.place all c.requires.listed c.trust_follows.ensures (map event_of l.events.items) left
    (map event_of c.if-is_in.events.items) (trusts l.trust) (trusts c.exchange-event.new.trust) l.near c.closure_of-before.result l._turn
    (event_of c.in-Some.back) event (l.invariant all charge undone) below popped c.exchange-event.ensures.back c.exchange-event.ensures.now
    c.closure_of-before.ensures now

pub returns : goal.returns
returns c all charge undone =
    let l = c.loop-turn in
    let long : length (map event_of c.args.events.now.items) ≡ length all =
    ap length undone.events ∙ length-all_undoing c.args.users.now _ all in
    let done : l._turn ≡ length all = search (rules, length-map, long) in
    keeping_last c.args.users.now charge c.args.place all (map event_of l.events.items) (trusts l.trust) l.near l._turn (l.invariant all charge undone) done
