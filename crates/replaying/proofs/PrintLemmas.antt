-- The replies to a user, printed one after another.
use Rattle.std.proofs.Common.{◌≡◌, ℕ, add-one, ◌+◌, ◌<◌, ◌≤◌, true, false, List, [], ◌∷◌, ◌++◌, length, map, take, drop, get_or}
use Rattle.std.proofs.Common.{Option, refl, sym, ap, ◌∙◌, subst, arith, append_assoc}
use Rattle.std.specs.Prelude.{bytes_eq}
use Rattle.std.proofs.lemmas.List.{append-nil, take-append-le, drop_all}
use Rattle.std.proofs.Math.Seq.{drop-cons}
use Rattle.std.specs.Io.KnownBytes.{Appends}
use Rattle.model.specs.Steps.{replies_to}
use Rattle.model.specs.Talk.{answer_text}
use Rattle.trust.specs.declared.user.User.{User}
use Rattle.events.specs.declared.reply.Reply.{Reply as GivenReply}
use Rattle.events.specs.Terms.{reply_of, answer_of}
use Rattle.session.proofs.RowLemmas.{appends-more, take-seam}
use Rattle.replaying.specs.Striking.{lines_under}

-- what is left begins with the next member
next_left : {A : Type 0} (xs : List A) (k : ℕ) (x : A) → k < length xs → drop k xs ≡ get_or xs k x ∷ drop (k + 1) xs
next_left xs k x less = rw add-one (drop-cons xs k x less)

drop_next : {A : Type 0} (xs : List A) (k : ℕ) (x : A) → k < length xs → x ≡ get_or xs k x → drop k xs ≡ x ∷ drop (k + 1) xs
drop_next xs k x less is = next_left xs k x less ∙ ap (λ y. y ∷ drop (k + 1) xs) (sym is)

lines_none : (user numbers : List ℕ) → lines_under user numbers [] ≡ []
lines_none user [] = refl
lines_none user (n ∷ numbers) = refl

module _ (user : List ℕ) where
  -- what is printed of replies under numbers
  abbrev pub printed_of : (numbers : List ℕ) → List (User × GivenReply) → List ℕ
  printed_of numbers given = lines_under user numbers (replies_to user (map answer_of given))

  other_reply : (numbers : List ℕ) (a : User × GivenReply) (rest : List (User × GivenReply)) → bytes_eq a.0 user ≡ false
      → printed_of numbers (a ∷ rest) ≡ printed_of numbers rest
  unfolding replies_to
  other_reply numbers a rest f = rw f refl

  own_reply : (n : ℕ) (numbers : List ℕ) (a : User × GivenReply) (rest : List (User × GivenReply)) → bytes_eq a.0 user ≡ true
      → printed_of (n ∷ numbers) (a ∷ rest) ≡ answer_text n user (reply_of a.1) ++ printed_of numbers rest
  unfolding replies_to
  own_reply n numbers a rest t = rw t refl

  no_reply : (numbers : List ℕ) → printed_of numbers [] ≡ []
  unfolding replies_to
  no_reply numbers = lines_none user numbers

  module _ (all : List ℕ) (blank : Option (List ℕ)) where
    -- the first of all that is to be printed is written, and this is left
    abbrev pub Written : (written : Option (List ℕ)) (numbers : List ℕ) → List (User × GivenReply) → Type 0
    Written written numbers rest = (text : List ℕ) × Appends blank written text × (all ≡ text ++ printed_of numbers rest)

    abbrev pub WrittenInPart : Option (List ℕ) → Type 0
    WrittenInPart written = (count : ℕ) × Appends blank written (take count all)

    module _ (given : List (User × GivenReply)) (k : ℕ) (a : User × GivenReply) (less : k < length given) (is : a ≡ get_or given k a) where
      next_is : (written : Option (List ℕ)) (numbers : List ℕ) → Written written numbers (drop k given) → Written written numbers (a ∷ drop (k + 1) given)
      next_is written numbers w = subst (Written written numbers) (drop_next given k a less is) w

      pub passed_over : (written : Option (List ℕ)) (numbers : List ℕ) → bytes_eq a.0 user ≡ false → Written written numbers (drop k given)
          → Written written numbers (drop (k + 1) given)
      passed_over written numbers f old =
          let w = next_is written numbers old in
          (w.0, w.1, w.2 ∙ ap (λ t. w.0 ++ t) (other_reply numbers a (drop (k + 1) given) f))

      module _ (written written' : Option (List ℕ)) (n : ℕ) (left later text : List ℕ) (own : bytes_eq a.0 user ≡ true) (left_is : left ≡ n ∷ later)
          (text_is : text ≡ answer_text n user (reply_of a.1)) (old : Written written left (drop k given)) where
        before : Written written (n ∷ later) (a ∷ drop (k + 1) given)
        before = subst (λ ns. Written written ns (a ∷ drop (k + 1) given)) left_is (next_is written left old)

        whole : all ≡ before.0 ++ (text ++ printed_of later (drop (k + 1) given))
        whole =
            before.2
            ∙ ap (λ t. before.0 ++ t) (own_reply n later a (drop (k + 1) given) own ∙ ap (λ t. t ++ printed_of later (drop (k + 1) given)) (sym text_is))

        pub one_printed : Appends written written' text → Written written' later (drop (k + 1) given)
        one_printed h = (
          before.0 ++ text,
          appends-more blank written written' before.0 text before.1 h,
          whole ∙ sym (append_assoc before.0 text (printed_of later (drop (k + 1) given))),
        )

        pub one_in_part : (count : ℕ) → count < length text → Appends written written' (take count text) → WrittenInPart written'
        one_in_part count less_text h =
            let behind = printed_of later (drop (k + 1) given) in
            let cut : take (length before.0 + count) all ≡ before.0 ++ take count text =
            ap (take (length before.0 + count)) whole ∙ take-seam before.0 (text ++ behind) count
            ∙ ap (λ t. before.0 ++ t) (take-append-le count text behind (omega (arith, less_text))) in
            (length before.0 + count, subst (Appends blank written') (sym cut) (appends-more blank written written' before.0 (take count text) before.1 h))

    pub all_printed : (given : List (User × GivenReply)) (k : ℕ) (written : Option (List ℕ)) (numbers : List ℕ) → length given ≤ k
        → Written written numbers (drop k given) → Appends blank written all
    all_printed given k written numbers past old =
        let w = subst (Written written numbers) (drop_all k given past) old in
        subst (Appends blank written) (sym (w.2 ∙ ap (λ t. w.0 ++ t) (no_reply numbers) ∙ append-nil w.0)) w.1

    pub part_printed : (written : Option (List ℕ)) (numbers : List ℕ) (rest : List (User × GivenReply)) → Written written numbers rest → WrittenInPart written
    part_printed written numbers rest w =
        (length w.0 + 0, subst (Appends blank written) (sym (ap (take (length w.0 + 0)) w.2 ∙ take-seam w.0 (printed_of numbers rest) 0 ∙ append-nil w.0)) w.1)
