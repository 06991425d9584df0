use Rattle.std.proofs.Common.{◌≡◌, refl, rules, Err}
use Rattle.std.proofs.lemmas.Result.{err_from_is_err_and}
use Rattle.model.specs.declared.refusal.Refusal.TheVariants.{Memory}
use Rattle.model.specs.Events.{AddSource}
use Rattle.handlers.specs.Sound.{desk_of}
use Rattle.handlers.proofs.StepLemmas.{source_at_once}
use Rattle.handlers.proofs.HandlingLemmas.{left, source_handled}
use Rattle.handlers.proofs.StateLemmas.{own_desk, own_desk_is, sound_desk, at_kept_desk, at_new_desk}
use Rattle.handlers.proofs.sources.add_source.Goals as goal

pub returns-in_err-path : goal.returns-in_err-path
returns-in_err-path c =
    let s = c.args.state.now in
    let d = own_desk s c.args.place in
    let here = own_desk_is s c.args.place c.requires in
    let p = err_from_is_err_and c.from_residual.result c.from_residual.ensures.1 in
    let memory : p.0 ≡ Memory = rw p.2 c.in_err-path.ensures.memory in
    let table = s.table.sources in
    rw (p.1, memory) (at_kept_desk s c.args.place c.requires d here (AddSource c.args.name.now c.args.tree) (Err Memory) (λ beside.
    left beside s.limits.charge table d (AddSource c.args.name.now c.args.tree) (Err Memory) (sound_desk s c.args.place c.requires d here)
    (λ users observation same own. cc) (source_at_once (desk_of beside table d) c.args.name.now c.args.tree (Err Memory)) (λ reply. refl) (search rules) refl
    (search rules)))

pub add_entry-requires-clause-sound : goal.add_entry-requires-clause-sound
add_entry-requires-clause-sound c = sound_desk c.args.state.now c.args.place c.requires c.index_mut.result.now c.index_mut.ensures.value

pub invariant_of-state : goal.invariant_of-state
invariant_of-state c =
    let s = c.args.state.now in
    let d = c.index_mut.result.now in
    let added = c.add_entry.ensures in
    let handled = at_new_desk s c.args.place c.requires d c.index_mut.ensures.value (AddSource c.args.name.now c.args.tree) c.add_entry.result
    c.add_entry.new.table.sources c.add_entry.new.desk (λ beside.
    source_handled beside s.limits.charge s.table.sources c.add_entry.new.table.sources d c.add_entry.new.desk c.args.name.now
    c.args.tree c.in_ok-path.path c.add_entry.result (sound_desk s c.args.place c.requires d c.index_mut.ensures.value)
    c.in_ok-path.ensures.value c.in_ok-path.ensures.tree added.adds added.answered added.stored added.sound added.kept added.gains added.taken) in
    record { run = handled.1; owned = s.owned }

pub returns : goal.returns
returns c =
    let s = c.args.state.now in
    let d = c.index_mut.result.now in
    let added = c.add_entry.ensures in
    (at_new_desk s c.args.place c.requires d c.index_mut.ensures.value (AddSource c.args.name.now c.args.tree) c.add_entry.result
    c.add_entry.new.table.sources c.add_entry.new.desk (λ beside.
    source_handled beside s.limits.charge s.table.sources c.add_entry.new.table.sources d c.add_entry.new.desk c.args.name.now
    c.args.tree c.in_ok-path.path c.add_entry.result (sound_desk s c.args.place c.requires d c.index_mut.ensures.value)
    c.in_ok-path.ensures.value c.in_ok-path.ensures.tree added.adds added.answered added.stored added.sound added.kept added.gains added.taken)).0
