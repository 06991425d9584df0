use Rattle.std.proofs.Common.{rules, ◌≡◌, true, false}
use Rattle.std.specs.Prelude.{is_some, nat_lt, length, ◌||◌}
use Rattle.std.proofs.lemmas.Result.{err_from_is_err_and}
use Rattle.model.specs.Limits.{most_pins}
use Rattle.model.specs.Worlds.{pin_of}
use Rattle.handlers.proofs.PinLemmas.{pin_handled, pin_refused, pin_unserved}
use Rattle.handlers.proofs.pins.pin.Goals as goal

pub returns-then-not-has_room : goal.returns-then-not-has_room
returns-then-not-has_room c table limit sound beside =
    let none : (is_some (pin_of c.args.desk.now.pins c.args.class) || nat_lt (length c.args.desk.now.pins) most_pins) ≡ false = search rules in
    pin_refused beside limit table c.args.desk.now c.args.class c.args.path sound none

pub returns-in_err-pin : goal.returns-in_err-pin
returns-in_err-pin c table limit sound beside =
    let p = err_from_is_err_and c.from_residual.result c.from_residual.ensures.1 in
    rw (p.1, p.2, c.in_err-pin.ensures.0, c.in_err-pin.ensures.1) (pin_unserved beside limit table c.args.desk.now c.args.class c.args.path sound)

pub returns : goal.returns
returns c table limit sound beside =
    let room : (is_some (pin_of c.args.desk.now.pins c.args.class) || nat_lt (length c.args.desk.now.pins) most_pins) ≡ true = search rules in
    rw (c.in_ok-pin.ensures, c.done.ensures) (pin_handled beside limit table c.args.desk.now c.args.class c.args.path sound room)
