use Rattle.std.proofs.Common.{◌≡◌, true, false, length, refl, sym, ◌∙◌, ap}
use Rattle.std.specs.Prelude.{nat_lt}
use Rattle.std.proofs.lemmas.Result.{err_from_is_err_and, IfOk-equal, IfOk-weaker}
use Rattle.model.specs.Limits.{most_records}
use Rattle.model.specs.Worlds.{Done}
use Rattle.events.specs.Statuses.{status_of}
use Rattle.endings.specs.DeskDeltas.{delta_in, DeskDelta, with_delta, is_had, is_free, charged_with, status_with}
use Rattle.endings.proofs.DeltaLemmas.{delta_had, status_had, delta_full, status_full, delta_free, status_free, room_left, charge_then}
use Rattle.endings.proofs.delta.DeskDelta.add.Goals as goal

pub returns-in_err-path : goal.returns-in_err-path
returns-in_err-path c =
    let p = err_from_is_err_and c.from_residual.result c.from_residual.ensures.1 in
    rw (p.1, p.2) (record { delta = tt; status = tt; charge = tt; memory = refl })

pub returns-in_err-has : goal.returns-in_err-has
returns-in_err-has c =
    let p = err_from_is_err_and c.from_residual-in_err-has.result c.from_residual-in_err-has.ensures.1 in
    rw (p.1, p.2) (record { delta = tt; status = tt; charge = tt; memory = c.in_err-has.ensures.memory })

pub returns-then-branch : goal.returns-then-branch
returns-then-branch c =
    let g : DeskDelta = delta_in c.args.self.now in
    let had : is_had c.args.added (with_delta g c.args.desk.now) ≡ true = sym c.in_ok-has.ensures.had ∙ c.if-branch.true in
    record {
      delta = delta_had c.args.limits.charge c.args.desk.now (c.args.added, c.args.tree) g had;
      status = ap Done (c.in_ok-path.ensures.cases ∙ c.path.ensures) ∙ status_had c.args.limits.charge c.args.desk.now (c.args.added, c.args.tree) g had;
      charge = c.requires.charge;
      memory = tt;
    }

pub has_room-requires : goal.has_room-requires
has_room-requires c = c.requires

pub returns-then-not-has_room : goal.returns-then-not-has_room
returns-then-not-has_room c =
    let g : DeskDelta = delta_in c.args.self.now in
    let now = with_delta g c.args.desk.now in
    let had : is_had c.args.added now ≡ false = sym c.in_ok-has.ensures.had ∙ c.if-branch.false in
    let charged : c.charged_for-more.result ≡ charged_with (c.args.added, c.args.tree) now =
    rw (c.charged_for-more.ensures, c.in_ok-path.ensures.cases, c.path.ensures, c.nar_len.ensures.len) refl in
    let full : is_free c.charged_for-more.result c.args.limits.charge now ≡ false = sym c.if-not-has_room.ensures in
    record {
      delta = delta_full c.args.limits.charge c.args.desk.now (c.args.added, c.args.tree) g c.charged_for-more.result had charged full;
      status = status_full c.args.limits.charge c.args.desk.now (c.args.added, c.args.tree) g c.charged_for-more.result had charged full;
      charge = c.requires.charge;
      memory = tt;
    }

pub put-requires-clause-path : goal.put-requires-clause-path
put-requires-clause-path c = c.in_ok-path.ensures.cases ∙ c.path.ensures

pub returns : goal.returns
returns c =
    let g : DeskDelta = delta_in c.args.self.now in
    let now = with_delta g c.args.desk.now in
    let path : c.in_ok-path.path ≡ c.args.added.path = c.in_ok-path.ensures.cases ∙ c.path.ensures in
    let had : is_had c.args.added now ≡ false = sym c.in_ok-has.ensures.had ∙ c.if-branch.false in
    let charged : c.charged_for-more.result ≡ charged_with (c.args.added, c.args.tree) now =
    rw (c.charged_for-more.ensures, path, c.nar_len.ensures.len) refl in
    let free : is_free c.charged_for-more.result c.args.limits.charge now ≡ true = sym c.if-not-has_room.ensures in
    let told : Done c.in_ok-path.path ≡ status_with c.args.limits.charge (c.args.added, c.args.tree) now =
    ap Done path ∙ status_free c.args.limits.charge c.args.desk.now (c.args.added, c.args.tree) g c.charged_for-more.result had charged free in
    record {
      delta = IfOk-equal c.put.result _ _ _ c.put.ensures.delta
          (delta_free c.args.limits.charge c.args.desk.now (c.args.added, c.args.tree) g c.charged_for-more.result had charged free);
      status = IfOk-weaker c.put.result (λ s. status_of s ≡ Done c.in_ok-path.path)
          (λ s. status_of s ≡ status_with c.args.limits.charge (c.args.added, c.args.tree) now) (λ s is. is ∙ told) c.put.ensures.status;
      charge = charge_then c.put.result c.args.desk.now.charge c.args.limits.charge (c.args.added, c.args.tree) c.charged_for-more.result g
          (delta_in c.put.new.self)
          (room_left (nat_lt (length now.records) most_records) c.args.desk.now.charge g.more c.charged_for-more.result c.args.limits.charge free)
          c.put.ensures.delta;
      memory = c.put.ensures.memory;
    }
