-- What the first lines of an input get, which ask nobody, and what a store does behind them.
use Rattle.std.proofs.Common.{◌≡◌, ℕ, inl, List, [], ◌++◌, Option, Some, refl, sym, ap, ◌∙◌, subst, append_assoc}
use mathlib.Core.List.{IsPrefix}
use Rattle.std.specs.Io.KnownBytes.{Consumes, IsAtEnd}
use Rattle.model.specs.declared.mode.Mode.TheVariants.{Service}
use Rattle.model.specs.declared.refusal.Refusal.{Refusal}
use Rattle.model.specs.declared.refusal.Refusal.TheVariants.{BadUsers}
use Rattle.model.specs.Worlds.{Setup}
use Rattle.model.specs.Lines.{lines_of}
use Rattle.model.specs.Talk.{LineRow, Seen, fresh, Talks}
use Rattle.session.specs.Serving.{Chain, Finished, EndedEarly, AnsweredSoFar, Progress}
use Rattle.session.specs.Ahead.{LooksAhead}
use Rattle.session.specs.Heads.{Idle, IsBegun}
use Rattle.session.proofs.RowLemmas.{consumes-more, consumes-none}
use Rattle.session.proofs.ProgressLemmas.{early-here, early-weakened}
use Rattle.session.proofs.HeadLemmas.{alone-chain, alone-progress}
use Rattle.replaying.specs.OnlyPass.{Only, unasked, IsOnlyAnswer, DoesNothing}
use Rattle.replaying.specs.Replaying.{AreAnswered, LinksOnly, Replayed, ReplayedInPart}
use Rattle.replaying.specs.WholeLines.{ReplayedSoFar}
use Rattle.replaying.specs.ServingOn.{IsAnswered, ServesOnInPart}
use Rattle.replaying.proofs.ReplayLemmas.{one_store}
use Rattle.replaying.proofs.InputLemmas.{are_answered, consumed, consumed_all}

-- rows that ask nobody are those of any store that was not asked
quiet_answered : (charge : ℕ) (done : List (List ℕ)) (rows : List LineRow) → Talks (fresh Service) done rows → Chain Idle tt rows tt → AreAnswered charge rows
quiet_answered charge done rows t quiet = are_answered charge done rows t (λ users named.
    let setup : Setup = record { users = users; charge = charge } in
    one_store setup unasked unasked rows refl (alone-chain (IsOnlyAnswer setup) DoesNothing unasked rows quiet))

module _ (charge : ℕ) (all : List ℕ) (blank written start end : Option (List ℕ)) (known : start ≡ Some all) where
  -- all lines
  pub quiet_replayed : (input : List ℕ) → Consumes start end input → IsAtEnd end → Finished Service Idle tt tt blank written (lines_of input)
      → Replayed charge blank written (lines_of all)
  quiet_replayed input read ended f =
      let same : input ≡ all = consumed_all all input start end known read ended in
      subst (λ t. Replayed charge blank written (lines_of t)) same
      (record { rows = f.rows; talks = f.talks; going = f.going; text = f.text; answered = quiet_answered charge (lines_of input) f.rows f.talks f.chain })

  -- the first of them
  pub quiet_in_part : (input : List ℕ) (why : Refusal) → Consumes start end input → EndedEarly Service Idle tt tt blank written input (IsAtEnd end) why
      → ReplayedInPart charge blank written (lines_of all) why
  quiet_in_part input why read s =
      let left = consumed all input start end known read in
      record {
        rows = s.rows;
        done = s.done;
        first = subst (λ (t : List ℕ). IsPrefix s.done (lines_of t)) (sym left.2) (s.cut left.0 left.3);
        talks = s.talks;
        count = s.count;
        text = s.text;
        users = s.users;
        told = λ r. inl (s.told r);
        answered = quiet_answered charge s.done s.rows s.talks s.chain;
      }

  -- those that were read whole
  pub quiet_so_far : (input : List ℕ) → Consumes start end input → AnsweredSoFar Service Idle tt tt blank written input
      → ReplayedSoFar charge blank written all end
  quiet_so_far input read s = record {
    input = input;
    read = subst (λ t. Consumes t end input) known read;
    rows = s.rows;
    lines = s.lines;
    text = s.text;
    answered = quiet_answered charge s.lines.done s.rows s.lines.talks s.chain;
  }

-- what was answered first
pub is_answered : (start mid blank between : Option (List ℕ)) (input : List ℕ) (seen : Seen) (users : List (List ℕ)) (rest : List ℕ) → Consumes start mid input
    → (b : IsBegun Service blank between input seen users rest) → IsAnswered start mid blank between b.front seen rest
is_answered start mid blank between input seen users rest read b =
    record { read = subst (λ t. Consumes start mid t) b.cut read; progress = b.progress }

-- the users that were found are those of all of the input
pub names_all : (all input : List ℕ) (start mid blank between : Option (List ℕ)) (seen : Seen) (users : List (List ℕ)) (rest : List ℕ)
    → start ≡ Some all → Consumes start mid input
    → IsBegun Service blank between input seen users rest → LooksAhead Service all (Some users)
names_all all input start mid blank between seen users rest known read b =
    let left = consumed all input start mid known read in
    subst (λ t. LooksAhead Service t (Some users))
    (sym (left.2 ∙ ap (λ t. t ++ left.0) b.cut ∙ append_assoc b.front rest left.0)) (b.names (rest ++ left.0))

-- what was read in all
pub read_behind : (start mid end blank between : Option (List ℕ)) (front : List ℕ) (seen : Seen) (rest input : List ℕ)
    → IsAnswered start mid blank between front seen rest
    → Consumes mid end input → Consumes start end (front ++ (rest ++ input))
read_behind start mid end blank between front seen rest input a read =
    subst (λ t. Consumes start end t) (append_assoc front rest input) (consumes-more start mid end (front ++ rest) input a.read read)

-- a session on its way by a store that was not asked
pub store_begins : (setup : Setup) (only : Only) (start mid blank between : Option (List ℕ)) (front : List ℕ) (seen : Seen) (rest : List ℕ)
    → IsAnswered start mid blank between front seen rest → Progress Service (LinksOnly setup) only only blank between front seen []
store_begins setup only start mid blank between front seen rest a =
    alone-progress (IsOnlyAnswer setup) DoesNothing only Service blank between front seen [] a.progress

-- no store was made
pub none_serves : (setup : Setup) (seen : Seen) (rest : List ℕ) (mid between : Option (List ℕ)) (why : Refusal) → (why ≡ BadUsers → ⊥)
    → ServesOnInPart setup seen rest mid mid between between why
none_serves setup seen rest mid between why own start blank front a = record {
  input = front ++ (rest ++ []);
  read = read_behind start mid mid blank between front seen rest [] a (consumes-none mid);
  first = unasked;
  last = unasked;
  new = refl;
  done = early-weakened (LinksOnly setup) unasked unasked blank between (front ++ (rest ++ [])) ⊥ (IsAtEnd mid) why (λ b. absurd b)
      (early-here (LinksOnly setup) unasked blank unasked between front seen [] (rest ++ []) why own (store_begins setup unasked start mid blank between front seen rest a));
}
