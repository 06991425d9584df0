use Rattle.std.proofs.Common.{◌≡◌, ℕ, ◌+◌, ◌-◌, ◌≤◌, List, [], ◌∷◌, length, take, drop, inl, sym, ◌∙◌, ap, subst, arith, length-drop}
use Rattle.std.proofs.lemmas.List.{take_all}
use Rattle.journal.specs.LogFile.{Holds, Torn}
use Rattle.journal.specs.Rows.{rows_in, at_rest, IsBeforeOrAfter}
use Rattle.journal.proofs.Moments.{weaker, joins}
use Rattle.journal.proofs.RowLemmas.{parts, plain-append, rest_begins}
use Rattle.journal.proofs.Crash.{torn_behind, torn_gate, written_behind, written_gate, settled, ends_now}
use Rattle.journal.proofs.row_file.RowFile.append.Goals as goal

-- the bytes of a group are an open gate and its body
opened : (bytes slice : List ℕ) → slice ≡ bytes → bytes ≡ at_rest (rows_in bytes) → 2 ≤ length bytes
    → at_rest (rows_in bytes) ≡ 10 ∷ take (length slice - 1) (drop 1 slice)
opened bytes slice same rest long =
    rest_begins (rows_in bytes) (subst (λ (l : List ℕ). 2 ≤ length l) rest long)
    ∙ ap (λ (l : List ℕ). 10 ∷ drop 1 l) (sym rest)
    ∙ ap (λ (l : List ℕ). 10 ∷ l) (sym (take_all (length bytes - 1) (drop 1 bytes) (omega (arith, length-drop 1 bytes))))
    ∙ ap (λ (l : List ℕ). 10 ∷ take (length l - 1) (drop 1 l)) (sym same)

pub returns-in_err-write_synced-clause-any_moment : goal.returns-in_err-write_synced-clause-any_moment
returns-in_err-write_synced-clause-any_moment g c = λ h1.
    let s = c.requires (c.write_synced.ensures.honest h1) in
    let old = c.args.self.now.file in
    let rows = rows_in (g.D.LogFile.seen old) in
    let more = rows_in c.args.group.now.bytes.items in
    let at = c.args.self.now.end in
    let slice = c.deref.result.now in
    let body = take (length slice - 1) (drop 1 slice) in
    weaker g.D.LogFile.moment g.D.LogFile.left_since old c.write_synced.new.file (Torn (at + 1) (length body) (g.D.LogFile.seen old))
    (IsBeforeOrAfter rows more)
    (λ f torn. inl (torn_behind rows at s.end (parts (g.D.LogFile.seen old)).plain (length body) f (subst (λ d. Torn (at + 1) (length body) d f) s.file torn)))
    (c.write_synced.ensures.any_moment h1)

pub returns-in_err-write_synced-2-clause-any_moment : goal.returns-in_err-write_synced-2-clause-any_moment
returns-in_err-write_synced-2-clause-any_moment g c = λ h2.
    let h1 = c.write_synced-2.ensures.honest h2 in
    let s = c.requires (c.write_synced.ensures.honest h1) in
    let old = c.args.self.now.file in
    let mid = c.write_synced.new.file in
    let rows = rows_in (g.D.LogFile.seen old) in
    let bytes = c.args.group.now.bytes.items in
    let more = rows_in bytes in
    let at = c.args.self.now.end in
    let slice = c.deref.result.now in
    let body = take (length slice - 1) (drop 1 slice) in
    let plain = (parts (g.D.LogFile.seen old)).plain in
    let is = opened bytes slice c.deref.ensures.value c.args.group.now.rest (omega (arith, c.if-len-lt2.false)) in
    let holds = subst (λ f. Holds f (at + 1) body (g.D.LogFile.seen mid)) s.file (c.in_ok-write_synced.ensures.written h1) in
    let is_staged = written_behind rows at s.end plain body _ holds in
    let behind = weaker g.D.LogFile.moment g.D.LogFile.left_since old mid (Torn (at + 1) (length body) (g.D.LogFile.seen old)) (IsBeforeOrAfter rows more)
    (λ f torn. inl (torn_behind rows at s.end plain (length body) f (subst (λ d. Torn (at + 1) (length body) d f) s.file torn)))
    (c.write_synced.ensures.any_moment h1) in
    joins g.D.LogFile.moment g.D.LogFile.left_since old mid c.write_synced-2.new.file (IsBeforeOrAfter rows more)
    (Torn at 1 (g.D.LogFile.seen mid)) behind (c.write_synced-2.ensures.any_moment h2)
    (λ f torn. torn_gate rows at s.end plain more body f (parts bytes).plain is (subst (λ d. Torn at 1 d f) is_staged torn))

pub returns-clause-any_moment : goal.returns-clause-any_moment
returns-clause-any_moment g c = λ h2.
    let h1 = c.write_synced-2.ensures.honest h2 in
    let s = c.requires (c.write_synced.ensures.honest h1) in
    let old = c.args.self.now.file in
    let mid = c.write_synced.new.file in
    let rows = rows_in (g.D.LogFile.seen old) in
    let bytes = c.args.group.now.bytes.items in
    let more = rows_in bytes in
    let at = c.args.self.now.end in
    let slice = c.deref.result.now in
    let body = take (length slice - 1) (drop 1 slice) in
    let plain = (parts (g.D.LogFile.seen old)).plain in
    let is = opened bytes slice c.deref.ensures.value c.args.group.now.rest (omega (arith, c.if-len-lt2.false)) in
    let holds = subst (λ f. Holds f (at + 1) body (g.D.LogFile.seen mid)) s.file (c.in_ok-write_synced.ensures.written h1) in
    let is_staged = written_behind rows at s.end plain body _ holds in
    let behind = weaker g.D.LogFile.moment g.D.LogFile.left_since old mid (Torn (at + 1) (length body) (g.D.LogFile.seen old)) (IsBeforeOrAfter rows more)
    (λ f torn. inl (torn_behind rows at s.end plain (length body) f (subst (λ d. Torn (at + 1) (length body) d f) s.file torn)))
    (c.write_synced.ensures.any_moment h1) in
    joins g.D.LogFile.moment g.D.LogFile.left_since old mid c.write_synced-2.new.file (IsBeforeOrAfter rows more)
    (Torn at 1 (g.D.LogFile.seen mid)) behind (c.write_synced-2.ensures.any_moment h2)
    (λ f torn. torn_gate rows at s.end plain more body f (parts bytes).plain is (subst (λ d. Torn at 1 d f) is_staged torn))

pub returns-clause-told : goal.returns-clause-told
returns-clause-told g c = λ h2.
    let h1 = c.write_synced-2.ensures.honest h2 in
    let s = c.requires (c.write_synced.ensures.honest h1) in
    let old = c.args.self.now.file in
    let mid = c.write_synced.new.file in
    let rows = rows_in (g.D.LogFile.seen old) in
    let bytes = c.args.group.now.bytes.items in
    let more = rows_in bytes in
    let at = c.args.self.now.end in
    let slice = c.deref.result.now in
    let body = take (length slice - 1) (drop 1 slice) in
    let plain = (parts (g.D.LogFile.seen old)).plain in
    let is = opened bytes slice c.deref.ensures.value c.args.group.now.rest (omega (arith, c.if-len-lt2.false)) in
    let holds = subst (λ f. Holds f (at + 1) body (g.D.LogFile.seen mid)) s.file (c.in_ok-write_synced.ensures.written h1) in
    let is_staged = written_behind rows at s.end plain body _ holds in
    let holds_gate = subst (λ f. Holds f at (10 ∷ []) (g.D.LogFile.seen c.write_synced-2.new.file)) is_staged (c.in_ok-write_synced-2.ensures.written h2) in
    let is_open = written_gate rows at s.end plain more body _ is holds_gate in
    settled _ _ _ _ (plain-append rows more plain (parts bytes).plain) is_open (omega (arith, ends_now rows at s.end plain more body is))
    (c.in_ok-write_synced-2.ensures.durable h2)
