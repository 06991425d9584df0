use Rattle.std.proofs.Common.{◌≡◌, rules, sym, ◌∙◌, subst, None, Some, Err}
use Rattle.std.proofs.lemmas.Result.{err_from_is_err_and}
use Rattle.model.specs.declared.refusal.Refusal.TheVariants.{UnknownDerivation}
use Rattle.model.specs.Classes.{known_at}
use Rattle.model.specs.Events.{Offer}
use Rattle.realise.specs.Holdings.{Holdings, IsClosedWithEntry}
use Rattle.records.specs.declared.desk_entry.DeskEntry.TheVariants as entry
use Rattle.handlers.specs.Offering.{IsOutput}
use Rattle.handlers.proofs.OfferLemmas.{unknown_handled, refused_handled, offer_handled}
use Rattle.handlers.proofs.LabelLemmas.{output_closed}
use Rattle.handlers.proofs.StateLemmas.{found_desk, sound_desk, at_kept_desk, at_new_desk}
use Rattle.handlers.proofs.offers.offer.Goals as goal

pub returns-in_default : goal.returns-in_default
returns-in_default c =
    let s = c.args.state.now in
    let d = c.index-desk.result.now in
    let none : known_at d.known c.args.path.now ≡ None = search rules in
    at_kept_desk s c.args.place c.requires d c.index-desk.ensures (Offer c.args.path.now c.args.tree.now) (Err UnknownDerivation) (λ beside.
    unknown_handled beside s.limits.charge s.table.sources d c.args.path.now c.args.tree.now (sound_desk s c.args.place c.requires d c.index-desk.ensures) none)

pub returns-in_err-record : goal.returns-in_err-record
returns-in_err-record c =
    let s = c.args.state.now in
    let d = c.index-desk.result.now in
    let p = err_from_is_err_and c.from_residual.result c.from_residual.ensures.1 in
    let known : known_at d.known c.args.path.now ≡ Some c.in-Some.admitted.now = search rules in
    rw p.1 (at_kept_desk s c.args.place c.requires d c.index-desk.ensures (Offer c.args.path.now c.args.tree.now) (Err p.0) (λ beside.
    refused_handled beside s.limits.charge s.table.sources d c.args.path.now c.args.tree.now
    c.in-Some.admitted.now p.0 (sound_desk s c.args.place c.requires d c.index-desk.ensures) known (rw p.2 c.in_err-record.ensures.refused)))

pub add_entry-requires-clause-sound : goal.add_entry-requires-clause-sound
add_entry-requires-clause-sound c = sound_desk c.args.state.now c.args.place c.requires c.index_mut.result.now c.index_mut.ensures.value

pub add_entry-requires-clause-closed : goal.add_entry-requires-clause-closed
add_entry-requires-clause-closed c =
    let s = c.args.state.now in
    let here = found_desk s c.args.place c.requires c.index-desk.result.now c.index-desk.ensures in
    let lent = found_desk s c.args.place c.requires c.index_mut.result.now c.index_mut.ensures.value in
    let output = c.in_ok-record.ensures.output in
    subst (λ (x : Holdings). IsClosedWithEntry x (entry.Record c.in_ok-record.record)) (here ∙ sym lent)
    (output_closed c.index-desk.result.now c.in-Some.admitted.now output.labels output.settled c.in_ok-record.record output.candidates output.record_is)

pub invariant_of-state-2 : goal.invariant_of-state-2
invariant_of-state-2 c =
    let s = c.args.state.now in
    let d = c.index_mut.result.now in
    let here = found_desk s c.args.place c.requires c.index-desk.result.now c.index-desk.ensures in
    let lent = found_desk s c.args.place c.requires d c.index_mut.ensures.value in
    let same : c.index-desk.result.now ≡ d = here ∙ sym lent in
    let known : known_at c.index-desk.result.now.known c.args.path.now ≡ Some c.in-Some.admitted.now = search rules in
    let added = c.add_entry.ensures in
    let run =
    (at_new_desk s c.args.place c.requires d c.index_mut.ensures.value (Offer c.args.path.now c.args.tree.now) c.add_entry.result
    c.add_entry.new.table.sources c.add_entry.new.desk (λ beside.
    offer_handled beside s.limits.charge s.table.sources d c.args.path.now c.args.tree.now
    c.add_entry.new.table.sources c.add_entry.new.desk c.in_ok-record.settled c.in-Some.admitted.now c.in_ok-record.record c.add_entry.result
    (sound_desk s c.args.place c.requires d c.index_mut.ensures.value) (subst (λ (x : Holdings). known_at x.known c.args.path.now ≡ Some
    c.in-Some.admitted.now) same known)
    (subst (λ (x : Holdings). IsOutput x c.in-Some.admitted.now c.args.tree.now c.in_ok-record.record c.in_ok-record.settled) same
    c.in_ok-record.ensures.output)
    added.adds added.answered added.stored added.sound added.kept added.gains added.taken)).1 in
    record { run = run; owned = s.owned }

pub returns : goal.returns
returns c =
    let s = c.args.state.now in
    let d = c.index_mut.result.now in
    let here = found_desk s c.args.place c.requires c.index-desk.result.now c.index-desk.ensures in
    let lent = found_desk s c.args.place c.requires d c.index_mut.ensures.value in
    let same : c.index-desk.result.now ≡ d = here ∙ sym lent in
    let known : known_at c.index-desk.result.now.known c.args.path.now ≡ Some c.in-Some.admitted.now = search rules in
    let added = c.add_entry.ensures in
    (at_new_desk s c.args.place c.requires d c.index_mut.ensures.value (Offer c.args.path.now c.args.tree.now) c.add_entry.result
    c.add_entry.new.table.sources c.add_entry.new.desk (λ beside.
    offer_handled beside s.limits.charge s.table.sources d c.args.path.now c.args.tree.now
    c.add_entry.new.table.sources c.add_entry.new.desk c.in_ok-record.settled c.in-Some.admitted.now c.in_ok-record.record c.add_entry.result
    (sound_desk s c.args.place c.requires d c.index_mut.ensures.value) (subst (λ (x : Holdings). known_at x.known c.args.path.now ≡ Some
    c.in-Some.admitted.now) same known)
    (subst (λ (x : Holdings). IsOutput x c.in-Some.admitted.now c.args.tree.now c.in_ok-record.record c.in_ok-record.settled) same
    c.in_ok-record.ensures.output)
    added.adds added.answered added.stored added.sound added.kept added.gains added.taken)).0
