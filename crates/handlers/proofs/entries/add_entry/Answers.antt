use Rattle.std.proofs.Common.{◌≡◌, ℕ, ◌⊎◌, inl, inr, true, false, List, true≢false, refl, sym, ◌∙◌, ap, subst, length, Some, None}
use Rattle.std.specs.Prelude.{if◌then◌else◌, is_some}
use Rattle.std.proofs.lemmas.Result.{err_from_is_err_and}
use Rattle.model.specs.declared.refusal.Refusal.{Refusal}
use Rattle.model.specs.declared.refusal.Refusal.TheVariants.{Memory, Clash}
use Rattle.model.specs.Archives.{Tree, nar}
use Rattle.model.specs.Replies.{Path}
use Rattle.model.specs.Outcomes.{becomes}
use Rattle.handlers.specs.Handling.{is_fault}
use Rattle.model.specs.Worlds.{Source, tree_at}
use Rattle.store.specs.Stored.{Extends, IsTaken, put_once}
use Rattle.records.specs.DeskEntries.{entry_path}
use Rattle.realise.specs.Holdings.{Holdings, charged_more, is_on, is_roomy}
use Rattle.events.specs.Terms.{reply_of}
use Rattle.handlers.specs.Sound.{desk_of, IsSound}
use Rattle.store.proofs.TableLemmas.{put_once-Extends}
use Rattle.handlers.proofs.ClosedLemmas.{still_labelled}
use Rattle.handlers.proofs.SupportLemmas.{gains_nothing, gains_kept}
use Rattle.handlers.proofs.AddingLemmas.{IsThere, there_if_stored, entry_known, entry_had, entry_refused, entry_new, desk_of-entry, sound-entry}
use Rattle.handlers.specs.Adding.{IsFree}
use Rattle.handlers.proofs.entries.add_entry.Goals as goal

-- memory was refused before anything changed
pub returns-in_err-path : goal.returns-in_err-path
returns-in_err-path c =
    let p = err_from_is_err_and c.from_residual.result c.from_residual.ensures.1 in
    rw (p.1, p.2) (record {
      adds = λ users beside own. absurd (true≢false own);
      answered = tt;
      stored = tt;
      sound = tt;
      gains = gains_nothing c.args.desk.now;
      kept = record { sources = refl; desk = refl };
      taken = λ clash. cc;
    })

pub returns-then-has-clause-adds : goal.returns-then-has-clause-adds
returns-then-has-clause-adds c users beside =
    let on : is_on c.args.entry c.args.desk.now ≡ true = sym c.if-has.ensures in
    let path : c.in_ok-clone.field-0 ≡ entry_path c.args.entry = c.in_ok-clone.ensures.cases ∙ c.in_ok-path.ensures.cases ∙ c.path.ensures in
    entry_had users beside c.args.limits.charge c.args.table.now.sources c.args.desk.now c.args.tree c.args.entry on
    ∙ ap (becomes (desk_of beside c.args.table.now.sources c.args.desk.now)) (sym (ap reply_of c.in_ok-reply.ensures.reply ∙ ap Path path))

pub returns-then-has-clause-stored : goal.returns-then-has-clause-stored
returns-then-has-clause-stored c =
    let on : is_on c.args.entry c.args.desk.now ≡ true = sym c.if-has.ensures in
    let there : is_some (tree_at (entry_path c.args.entry) c.args.table.now.sources) ≡ true =
    entry_known c.args.table.now.sources c.args.limits.charge c.args.desk.now c.args.entry c.requires.sound on in
    rw there refl

pub returns-then-has-clause-gains : goal.returns-then-has-clause-gains
returns-then-has-clause-gains c = gains_nothing c.args.desk.now

pub returns-in_err-_is_stored : goal.returns-in_err-_is_stored
returns-in_err-_is_stored c =
    let p = err_from_is_err_and c.from_residual-in_err-_is_stored.result c.from_residual-in_err-_is_stored.ensures.1 in
    let taken = c.in_err-_is_stored.ensures.taken.1 in
    rw (p.1, p.2, c.in_err-_is_stored.ensures.taken.0) (record {
      adds = λ users beside own. absurd (true≢false own);
      answered = tt;
      stored = tt;
      sound = tt;
      gains = gains_nothing c.args.desk.now;
      kept = record { sources = refl; desk = refl };
      taken = λ clash. rw (c.in_ok-path.ensures.cases ∙ c.path.ensures) at taken;
    })

pub returns-then-not-has_room-clause-adds : goal.returns-then-not-has_room-clause-adds
returns-then-not-has_room-clause-adds c users beside own =
    let stored : tree_at c.in_ok-path.path c.args.table.now.sources ≡ (if c.in_ok-_is_stored._is_stored then Some c.args.tree else None) =
    c.in_ok-_is_stored.ensures.stored in
    let more : c.charged_for-more.result ≡ charged_more (entry_path c.args.entry) (length (nar c.args.tree)) c.args.desk.now =
    rw (c.charged_for-more.ensures, (c.in_ok-path.ensures.cases ∙ c.path.ensures), c.nar_len.ensures.len) refl in
    let over : is_roomy c.args.entry c.charged_for-more.result c.args.limits.charge c.args.desk.now ≡ false = sym c.if-not-has_room.ensures in
    entry_refused users beside c.args.limits.charge c.args.table.now.sources c.args.desk.now c.args.tree c.args.entry c.requires.sound
    (there_if_stored c.args.table.now.sources c.args.limits.charge c.args.desk.now c.args.tree (entry_path c.args.entry) c.in_ok-_is_stored._is_stored
    c.requires.sound (rw (c.in_ok-path.ensures.cases ∙ c.path.ensures) at stored))
    (sym c.if-has.ensures) (rw (← more) over)

pub returns-then-not-has_room-clause-gains : goal.returns-then-not-has_room-clause-gains
returns-then-not-has_room-clause-gains c = gains_nothing c.args.desk.now

pub has_room-requires : goal.has_room-requires
has_room-requires c = c.requires.sound.within

there_if_free : (table : List Source) (limit : ℕ) (d : Holdings) (tree : Tree) (path : List ℕ) → IsSound table limit d → IsFree path tree table
    → IsThere table d path tree
there_if_free table limit d tree path sound (inl none) = there_if_stored table limit d tree path false sound none
there_if_free table limit d tree path sound (inr same) = there_if_stored table limit d tree path true sound same

module _ (c : goal.In_ok-put_entry) where
  more : c.charged_for-more.result ≡ charged_more (entry_path c.args.entry) (length (nar c.args.tree)) c.args.desk.now
  more = rw (c.charged_for-more.ensures, (c.in_ok-path.ensures.cases ∙ c.path.ensures), c.nar_len.ensures.len) refl

  there : IsThere c.args.table.now.sources c.args.desk.now (entry_path c.args.entry) c.args.tree
  there =
      there_if_free c.args.table.now.sources c.args.limits.charge c.args.desk.now c.args.tree (entry_path c.args.entry) c.requires.sound
      (subst (λ path. IsFree path c.args.tree c.args.table.now.sources) (c.in_ok-path.ensures.cases ∙ c.path.ensures) c.in_ok-put_entry.ensures.free)

  roomy : is_roomy c.args.entry (charged_more (entry_path c.args.entry) (length (nar c.args.tree)) c.args.desk.now) c.args.limits.charge c.args.desk.now ≡ true
  roomy = let is : is_roomy c.args.entry c.charged_for-more.result c.args.limits.charge c.args.desk.now ≡ true = sym c.if-not-has_room.ensures in rw (← more) is

  later : Extends c.args.table.now.sources c.put_entry.new.table.sources
  later = rw c.in_ok-put_entry.ensures.table (put_once-Extends (record { path = c.in_ok-path.path; tree = c.args.tree }) c.args.table.now.sources)

  now_there : tree_at (entry_path c.args.entry) c.put_entry.new.table.sources ≡ Some c.args.tree
  now_there = ap (λ p. tree_at p c.put_entry.new.table.sources) (sym (c.in_ok-path.ensures.cases ∙ c.path.ensures)) ∙ c.in_ok-put_entry.ensures.there

pub returns-clause-adds : goal.returns-clause-adds
returns-clause-adds c users beside =
    let old : List Source = c.args.table.now.sources in
    let new : List Source = c.put_entry.new.table.sources in
    entry_new users beside c.args.limits.charge old c.args.desk.now c.args.tree c.args.entry c.requires.sound (there c) (sym c.if-has.ensures) (roomy c)
    ∙ ap (λ d. becomes d (Path (entry_path c.args.entry)))
    (sym (ap (desk_of beside new) c.in_ok-put_entry.ensures.desk
    ∙ desk_of-entry beside old new c.args.limits.charge c.args.desk.now c.args.tree c.args.entry _ (later c) c.requires.sound (now_there c)))
    ∙ ap (becomes (desk_of beside new c.put_entry.new.desk))
    (sym (ap reply_of c.in_ok-reply.ensures.reply ∙ ap Path (c.in_ok-clone.ensures.cases ∙ (c.in_ok-path.ensures.cases ∙ c.path.ensures))))

pub returns-clause-sound : goal.returns-clause-sound
returns-clause-sound c =
    rw c.in_ok-put_entry.ensures.desk (
    sound-entry c.args.table.now.sources c.put_entry.new.table.sources c.args.limits.charge c.args.desk.now c.args.tree c.args.entry (later c)
    c.requires.sound (there c) (now_there c) (roomy c) c.requires.closed)

pub returns-clause-stored : goal.returns-clause-stored
returns-clause-stored c =
    c.in_ok-put_entry.ensures.table ∙ ap (λ path. put_once (record { path = path; tree = c.args.tree }) c.args.table.now.sources)
    (c.in_ok-path.ensures.cases ∙ c.path.ensures)

pub returns-clause-gains : goal.returns-clause-gains
returns-clause-gains c = rw c.in_ok-put_entry.ensures.desk (still_labelled c.args.desk.now c.args.entry _)

-- why nothing was put: memory was refused, or another tree is at the path
module _ (path : List ℕ) (tree : Tree) (sources : List Source) (why : Refusal) where
  is_told : (why ≡ Memory) ⊎ ((why ≡ Clash) × IsTaken sources path tree) → is_fault why ≡ true
  is_told (inl memory) = rw memory refl
  is_told (inr taken) = rw taken.0 refl

  taken_there : (own : List ℕ) → path ≡ own → (why ≡ Memory) ⊎ ((why ≡ Clash) × IsTaken sources path tree) → why ≡ Clash → IsTaken sources own tree
  taken_there own same (inl memory) clash = (let no : Memory ≡ Clash = sym memory ∙ clash in cc)
  taken_there own same (inr taken) clash = subst (λ p. IsTaken sources p tree) same taken.1

pub returns-in_err-put_entry : goal.returns-in_err-put_entry
returns-in_err-put_entry c =
    let p = err_from_is_err_and c.from_residual-in_err-put_entry.result c.from_residual-in_err-put_entry.ensures.1 in
    let why = c.in_err-put_entry.field-0.0 in
    let kept = c.in_err-put_entry.ensures.kept in
    let refused = c.in_err-put_entry.ensures.refused in
    let sources = c.args.table.now.sources in
    rw (p.1, p.2) (record {
      adds = λ users beside own. absurd (true≢false (sym (is_told c.in_ok-path.path c.args.tree sources why refused) ∙ own));
      answered = tt;
      stored = tt;
      sound = tt;
      gains = gains_kept c.args.desk.now c.put_entry.new.desk kept.desk;
      kept = kept;
      taken = λ clash. taken_there c.in_ok-path.path c.args.tree sources why (entry_path c.args.entry) (c.in_ok-path.ensures.cases ∙ c.path.ensures)
          refused (let same : why ≡ Clash = cc in same);
    })
