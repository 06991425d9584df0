use Rattle.std.proofs.Common.{◌≡◌, ◌+◌, ◌-◌, ◌≤◌, ◌||◌, ℕ, List, [], ◌∷◌, ◌++◌, length, drop, Bool, true, false, ap, sym, ◌∙◌, refl, arith, Option, Some, append-nil}
use Rattle.std.specs.List.{list_any}
use Rattle.std.specs.Option.{option_map}
use Rattle.std.proofs.Math.ListN.{drop_of_length-le}
use Rattle.model.specs.Occurrences.{Keys, Piece, name_holds, pieces, joined, occurrences, places_of_pieces, piece_text, crowded, has_places, places_in}
use Rattle.scan.specs.Pieces.{Part, part_in}
use Rattle.scan.proofs.PieceLemmas.{joined-pieces, tree_are_pieces}
use Rattle.scan.proofs.NameLemmas.{Fronts, none_left, first_read, length-joined, drop-next, ArePieces-drop}
use Rattle.scan.proofs.CrowdLemmas.{fault_name, fault_none, fault_overlap, crowded-pieces}
use Rattle.scan.proofs.PartLemmas.{crowds, length-front, length-part, Step, mark_step, name_is, name_step, bytes_step, skipped_step, step_as, names_on, name_found, crowd_on, places_on, or_none}
use Rattle.scan.proofs.finding.occurrences_by.Goals as goal
use Rattle.scan.proofs.finding.occurrences_by.Goals.{in-Some-part+then-part+else-holds, in-Some-part+else-part+then-not-is_crowded+in_ok-is_crowded, in-Some-part+else-part+else-not-is_crowded, in_default-part, else-loop-test, then-loop-test+in_default}

pub loop-init : goal.loop-init
loop-init g c =
    let n : ℕ = length c.bytes-whole.result.now in
    let keys : Keys = g.S.Seek.keys c.args.seek.now in
    let none : n - n ≡ 0 = omega arith in
    record {
      rest = c.bytes-whole.ensures.text ∙ sym (joined-pieces c.args.archive.now);
      shorter = omega arith;
      kept = refl;
      looks = omega arith;
      names = refl;
      crowd = refl;
      places = λ h. ap (λ ps. ps ++ places_of_pieces keys (n - n) (pieces c.args.archive.now)) c.new-places.ensures.items
          ∙ ap (λ k. places_of_pieces keys k (pieces c.args.archive.now)) none;
    }

pub holds-requires : goal.holds-requires
holds-requires g c =
    let qs : List Piece = drop c.loop.counter (pieces c.args.archive.now) in
    let are = ArePieces-drop c.loop.counter (pieces c.args.archive.now) (tree_are_pieces c.args.archive.now c.bytes-whole.ensures.tree) in
    let part : Option Part = option_map (λ p. (p.is_name, p.bytes.now)) c.in-Some.part in
    let front : Fronts qs part c.in-Some.behind.now = first_read qs c.loop.rest.now part c.in-Some.behind.now are c.loop.invariant.rest (sym c.in-Some.ensures) in
    let is = sym (ap (option_map (λ p. (p.is_name, p.bytes.now))) c.in-Some-part.is) ∙ front.is in
    omega (
      arith,
      c.loop.invariant.looks,
      c.requires.room,
      ap length c.bytes-whole.ensures.text,
      length-front qs c.loop.rest.now part c.in-Some.behind.now front c.loop.invariant.rest,
      length-part front.first c.in-Some-part.part.is_name c.in-Some-part.part.bytes.now is,
    )

pub search-requires-clause-room : goal.search-requires-clause-room
search-requires-clause-room g c =
    let qs : List Piece = drop c.loop.counter (pieces c.args.archive.now) in
    let are = ArePieces-drop c.loop.counter (pieces c.args.archive.now) (tree_are_pieces c.args.archive.now c.bytes-whole.ensures.tree) in
    let part : Option Part = option_map (λ p. (p.is_name, p.bytes.now)) c.in-Some.part in
    let front : Fronts qs part c.in-Some.behind.now = first_read qs c.loop.rest.now part c.in-Some.behind.now are c.loop.invariant.rest (sym c.in-Some.ensures) in
    let is = sym (ap (option_map (λ p. (p.is_name, p.bytes.now))) c.in-Some-part.is) ∙ front.is in
    omega (
      arith,
      c.loop.invariant.looks,
      c.requires.room,
      ap length c.bytes-whole.ensures.text,
      length-front qs c.loop.rest.now part c.in-Some.behind.now front c.loop.invariant.rest,
      length-part front.first c.in-Some-part.part.is_name c.in-Some-part.part.bytes.now is,
    )

pub returns-then-holds-clause-looks : goal.returns-then-holds-clause-looks
returns-then-holds-clause-looks g c =
    let qs : List Piece = drop c.loop.counter (pieces c.args.archive.now) in
    let are = ArePieces-drop c.loop.counter (pieces c.args.archive.now) (tree_are_pieces c.args.archive.now c.bytes-whole.ensures.tree) in
    let part : Option Part = option_map (λ p. (p.is_name, p.bytes.now)) c.in-Some.part in
    let front : Fronts qs part c.in-Some.behind.now = first_read qs c.loop.rest.now part c.in-Some.behind.now are c.loop.invariant.rest (sym c.in-Some.ensures) in
    let is = sym (ap (option_map (λ p. (p.is_name, p.bytes.now))) c.in-Some-part.is) ∙ front.is in
    omega (
      arith,
      c.loop.invariant.looks,
      c.holds.ensures.looks,
      ap length c.bytes-whole.ensures.text,
      length-front qs c.loop.rest.now part c.in-Some.behind.now front c.loop.invariant.rest,
      length-part front.first c.in-Some-part.part.is_name c.in-Some-part.part.bytes.now is,
    )

pub returns-in_err-is_crowded-clause-looks : goal.returns-in_err-is_crowded-clause-looks
returns-in_err-is_crowded-clause-looks g c =
    let qs : List Piece = drop c.loop.counter (pieces c.args.archive.now) in
    let are = ArePieces-drop c.loop.counter (pieces c.args.archive.now) (tree_are_pieces c.args.archive.now c.bytes-whole.ensures.tree) in
    let part : Option Part = option_map (λ p. (p.is_name, p.bytes.now)) c.in-Some.part in
    let front : Fronts qs part c.in-Some.behind.now = first_read qs c.loop.rest.now part c.in-Some.behind.now are c.loop.invariant.rest (sym c.in-Some.ensures) in
    let is = sym (ap (option_map (λ p. (p.is_name, p.bytes.now))) c.in-Some-part.is) ∙ front.is in
    omega (
      arith,
      c.loop.invariant.looks,
      c.search.ensures.looks,
      ap length c.bytes-whole.ensures.text,
      length-front qs c.loop.rest.now part c.in-Some.behind.now front c.loop.invariant.rest,
      length-part front.first c.in-Some-part.part.is_name c.in-Some-part.part.bytes.now is,
    )

pub returns-then-holds-clause-refused : goal.returns-then-holds-clause-refused
returns-then-holds-clause-refused g c =
    let keys : Keys = g.S.Seek.keys c.args.seek.now in
    let qs : List Piece = drop c.loop.counter (pieces c.args.archive.now) in
    let are = ArePieces-drop c.loop.counter (pieces c.args.archive.now) (tree_are_pieces c.args.archive.now c.bytes-whole.ensures.tree) in
    let part : Option Part = option_map (λ p. (p.is_name, p.bytes.now)) c.in-Some.part in
    let front : Fronts qs part c.in-Some.behind.now = first_read qs c.loop.rest.now part c.in-Some.behind.now are c.loop.invariant.rest (sym c.in-Some.ensures) in
    let is = sym (ap (option_map (λ p. (p.is_name, p.bytes.now))) c.in-Some-part.is) ∙ front.is in
    let named : Some (true, c.in-Some-part.part.bytes.now) ≡ part_in front.first = ap (λ b. Some (b, c.in-Some-part.part.bytes.now)) (sym c.if-part.true) ∙ is in
    let holds : name_holds keys front.first ≡ true = name_is keys front.first c.in-Some-part.part.bytes.now named
    ∙ ap (λ k. has_places (places_in k 0 c.in-Some-part.part.bytes.now)) (sym c.loop.invariant.kept) ∙ sym c.if-holds.ensures.value in
    fault_name keys c.args.archive.now (sym c.loop.invariant.names ∙ name_found keys qs (drop 1 qs) front.first front.all holds)

pub loop-preserved : goal.loop-preserved
loop-preserved g c =
    let keys : Keys = g.S.Seek.keys c.args.seek.now in
    let i : ℕ = c.loop.counter in
    let ps : List Piece = pieces c.args.archive.now in
    let qs : List Piece = drop i ps in
    let rest : List ℕ = c.loop.rest.now in
    let behind : List ℕ = c.in-Some.behind.now in
    let size : ℕ = length c.bytes-whole.result.now in
    let are = ArePieces-drop i ps (tree_are_pieces c.args.archive.now c.bytes-whole.ensures.tree) in
    let part : Option Part = option_map (λ p. (p.is_name, p.bytes.now)) c.in-Some.part in
    let front : Fronts qs part behind = first_read qs rest part behind are c.loop.invariant.rest (sym c.in-Some.ensures) in
    let long = length-front qs rest part behind front c.loop.invariant.rest in
    let n : ℕ = size - length rest in
    let at : size - length behind ≡ n + length (piece_text front.first) = omega (arith, long, c.loop.invariant.shorter) in
    let next : drop 1 qs ≡ drop (i + 1) ps = drop-next i ps in
    let all : qs ≡ front.first ∷ drop (i + 1) ps = front.all ∙ ap (λ r. front.first ∷ r) next in
    let looked : ℕ = g.S.Seek.looked c.loop.seek in
    let own : Keys = g.S.Seek.keys c.loop.seek in
    let cut : Bool → List ℕ → Option Part = λ is_name s. Some (is_name, s) in
    let (step, kept, looks) : Step keys front.first n c.loop.is_crowded c.match-part.is_crowded c.loop.places.items c.match-part.places.items
    × (g.S.Seek.keys c.match-part.seek ≡ keys)
    × (g.S.Seek.looked c.match-part.seek ≤ looked + length (piece_text front.first)) =
    elim c.match-part.branch [
      | in-Some-part+then-part+else-holds w ↦ (
          let s : List ℕ = w.in-Some-part.part.bytes.now in
          let is : cut w.in-Some-part.part.is_name s ≡ part_in front.first = sym (ap (option_map (λ p. (p.is_name, p.bytes.now))) w.in-Some-part.is) ∙ front.is in
          let named : cut true s ≡ part_in front.first = ap (λ b. cut b s) (sym w.if-part.true) ∙ is in (
            step_as keys own front.first n c.loop.is_crowded c.loop.is_crowded c.loop.is_crowded c.match-part.is_crowded c.loop.places.items c.loop.places.items
                c.match-part.places.items c.loop.invariant.kept refl w.is_crowded-is (ap (λ v. v.items) w.places-is)
                (name_step own front.first n c.loop.is_crowded c.loop.places.items s named (sym w.if-holds.ensures.value)),
            ap g.S.Seek.keys w.seek-is ∙ w.holds.ensures.kept ∙ c.loop.invariant.kept,
            omega (arith, ap g.S.Seek.looked w.seek-is, w.holds.ensures.looks, length-part front.first w.in-Some-part.part.is_name s is),
          )
          )
      | in-Some-part+else-part+then-not-is_crowded+in_ok-is_crowded w ↦ (
          let s : List ℕ = w.in-Some-part.part.bytes.now in
          let is : cut w.in-Some-part.part.is_name s ≡ part_in front.first = sym (ap (option_map (λ p. (p.is_name, p.bytes.now))) w.in-Some-part.is) ∙ front.is in
          let bytes : cut false s ≡ part_in front.first = ap (λ b. cut b s) (sym w.if-part.false) ∙ is in (
            step_as keys own front.first n false c.loop.is_crowded w.in_ok-is_crowded.is_crowded c.match-part.is_crowded c.loop.places.items w.search.new.places.items
                c.match-part.places.items c.loop.invariant.kept w.if-not-is_crowded.true w.is_crowded-is (ap (λ v. v.items) w.places-is)
                (bytes_step own front.first n w.in_ok-is_crowded.is_crowded c.loop.places.items w.search.new.places.items s bytes w.in_ok-is_crowded.ensures.close
                w.in_ok-is_crowded.ensures.found),
            ap g.S.Seek.keys w.seek-is ∙ w.search.ensures.kept ∙ c.loop.invariant.kept,
            omega (arith, ap g.S.Seek.looked w.seek-is, w.search.ensures.looks, length-part front.first w.in-Some-part.part.is_name s is),
          )
          )
      | in-Some-part+else-part+else-not-is_crowded w ↦ (
          let s : List ℕ = w.in-Some-part.part.bytes.now in
          let is : cut w.in-Some-part.part.is_name s ≡ part_in front.first = sym (ap (option_map (λ p. (p.is_name, p.bytes.now))) w.in-Some-part.is) ∙ front.is in
          let bytes : cut false s ≡ part_in front.first = ap (λ b. cut b s) (sym w.if-part.false) ∙ is in (
            step_as keys own front.first n true c.loop.is_crowded true c.match-part.is_crowded c.loop.places.items c.loop.places.items
                c.match-part.places.items c.loop.invariant.kept w.if-not-is_crowded.false (w.is_crowded-is ∙ w.if-not-is_crowded.false) (ap (λ v. v.items) w.places-is)
                (skipped_step own front.first n c.loop.places.items s bytes),
            ap g.S.Seek.keys w.seek-is ∙ c.loop.invariant.kept,
            omega (arith, ap g.S.Seek.looked w.seek-is),
          )
          )
      | in_default-part w ↦ ((
        step_as keys own front.first n c.loop.is_crowded c.loop.is_crowded c.loop.is_crowded c.match-part.is_crowded c.loop.places.items c.loop.places.items
            c.match-part.places.items c.loop.invariant.kept refl w.is_crowded-is (ap (λ v. v.items) w.places-is)
            (mark_step own front.first n c.loop.is_crowded c.loop.places.items
            (sym (ap (option_map (λ p. (p.is_name, p.bytes.now))) w.in_default-part.is) ∙ front.is)),
        ap g.S.Seek.keys w.seek-is ∙ c.loop.invariant.kept,
        omega (arith, ap g.S.Seek.looked w.seek-is),
      )
          )
    ] in
    record {
      rest = front.rest ∙ ap joined next;
      shorter = omega (arith, long, c.loop.invariant.shorter);
      kept = kept;
      looks = omega (arith, looks, long, c.loop.invariant.looks);
      names = names_on keys qs (drop (i + 1) ps) front.first (list_any (name_holds keys) ps) all step.name c.loop.invariant.names;
      crowd = crowd_on keys qs (drop (i + 1) ps) front.first c.loop.is_crowded c.match-part.is_crowded (list_any (crowds keys) ps) all step.crowd c.loop.invariant.crowd;
      places = places_on keys qs (drop (i + 1) ps) front.first n (size - length behind) c.loop.is_crowded c.match-part.is_crowded c.loop.places.items
          c.match-part.places.items (occurrences keys c.args.archive.now) all at step c.loop.invariant.places;
    }

pub returns-then-is_crowded-clause-refused : goal.returns-then-is_crowded-clause-refused
returns-then-is_crowded-clause-refused g c =
    let keys : Keys = g.S.Seek.keys c.args.seek.now in
    let i : ℕ = c.loop.counter in
    let tree = c.args.archive.now in
    let ps : List Piece = pieces tree in
    let are = tree_are_pieces tree c.bytes-whole.ensures.tree in
    let none : drop i ps ≡ [] = elim c.loop-test.branch [
      | else-loop-test w ↦ drop_of_length-le ps (omega (arith, length-joined ps are, w.loop-test.false, ap length (c.bytes-whole.ensures.text ∙ sym (joined-pieces tree))))
      | then-loop-test+in_default w ↦ none_left (drop i ps) c.loop.rest.now (ArePieces-drop i ps are) c.loop.invariant.rest (sym w.in_default.ensures)
    ] in
    let names : list_any (name_holds keys) ps ≡ false = sym c.loop.invariant.names ∙ ap (list_any (name_holds keys)) none in
    let crowd : list_any (crowds keys) ps ≡ c.loop.is_crowded = sym c.loop.invariant.crowd ∙ ap (λ qs. c.loop.is_crowded || list_any (crowds keys) qs) none
    ∙ or_none c.loop.is_crowded in
    fault_overlap keys c.sound.ensures tree names (sym (crowded-pieces keys c.sound.ensures 0 ps) ∙ crowd ∙ c.if-is_crowded.true)

pub invariant_of-result : goal.invariant_of-result
invariant_of-result g c =
    let keys : Keys = g.S.Seek.keys c.args.seek.now in
    let i : ℕ = c.loop.counter in
    let tree = c.args.archive.now in
    let ps : List Piece = pieces tree in
    let are = tree_are_pieces tree c.bytes-whole.ensures.tree in
    let none : drop i ps ≡ [] = elim c.loop-test.branch [
      | else-loop-test w ↦ drop_of_length-le ps (omega (arith, length-joined ps are, w.loop-test.false, ap length (c.bytes-whole.ensures.text ∙ sym (joined-pieces tree))))
      | then-loop-test+in_default w ↦ none_left (drop i ps) c.loop.rest.now (ArePieces-drop i ps are) c.loop.invariant.rest (sym w.in_default.ensures)
    ] in
    let names : list_any (name_holds keys) ps ≡ false = sym c.loop.invariant.names ∙ ap (list_any (name_holds keys)) none in
    let crowd : list_any (crowds keys) ps ≡ c.loop.is_crowded = sym c.loop.invariant.crowd ∙ ap (λ qs. c.loop.is_crowded || list_any (crowds keys) qs) none
    ∙ or_none c.loop.is_crowded in
    let places : c.loop.places.items ≡ occurrences keys tree = sym (append-nil c.loop.places.items)
    ∙ ap (λ qs. c.loop.places.items ++ places_of_pieces keys (length c.bytes-whole.result.now - length c.loop.rest.now) qs) (sym none)
    ∙ c.loop.invariant.places c.if-is_crowded.false in
    ap crowded places ∙ sym (crowded-pieces keys c.sound.ensures 0 ps) ∙ crowd ∙ c.if-is_crowded.false

pub returns-clause-found : goal.returns-clause-found
returns-clause-found g c =
    let keys : Keys = g.S.Seek.keys c.args.seek.now in
    let i : ℕ = c.loop.counter in
    let tree = c.args.archive.now in
    let ps : List Piece = pieces tree in
    let are = tree_are_pieces tree c.bytes-whole.ensures.tree in
    let none : drop i ps ≡ [] = elim c.loop-test.branch [
      | else-loop-test w ↦ drop_of_length-le ps (omega (arith, length-joined ps are, w.loop-test.false, ap length (c.bytes-whole.ensures.text ∙ sym (joined-pieces tree))))
      | then-loop-test+in_default w ↦ none_left (drop i ps) c.loop.rest.now (ArePieces-drop i ps are) c.loop.invariant.rest (sym w.in_default.ensures)
    ] in
    let names : list_any (name_holds keys) ps ≡ false = sym c.loop.invariant.names ∙ ap (list_any (name_holds keys)) none in
    let crowd : list_any (crowds keys) ps ≡ c.loop.is_crowded = sym c.loop.invariant.crowd ∙ ap (λ qs. c.loop.is_crowded || list_any (crowds keys) qs) none
    ∙ or_none c.loop.is_crowded in
    sym (append-nil c.loop.places.items)
    ∙ ap (λ qs. c.loop.places.items ++ places_of_pieces keys (length c.bytes-whole.result.now - length c.loop.rest.now) qs) (sym none)
    ∙ c.loop.invariant.places c.if-is_crowded.false

pub returns-clause-sound : goal.returns-clause-sound
returns-clause-sound g c =
    let keys : Keys = g.S.Seek.keys c.args.seek.now in
    let i : ℕ = c.loop.counter in
    let tree = c.args.archive.now in
    let ps : List Piece = pieces tree in
    let are = tree_are_pieces tree c.bytes-whole.ensures.tree in
    let none : drop i ps ≡ [] = elim c.loop-test.branch [
      | else-loop-test w ↦ drop_of_length-le ps (omega (arith, length-joined ps are, w.loop-test.false, ap length (c.bytes-whole.ensures.text ∙ sym (joined-pieces tree))))
      | then-loop-test+in_default w ↦ none_left (drop i ps) c.loop.rest.now (ArePieces-drop i ps are) c.loop.invariant.rest (sym w.in_default.ensures)
    ] in
    let names : list_any (name_holds keys) ps ≡ false = sym c.loop.invariant.names ∙ ap (list_any (name_holds keys)) none in
    let crowd : list_any (crowds keys) ps ≡ c.loop.is_crowded = sym c.loop.invariant.crowd ∙ ap (λ qs. c.loop.is_crowded || list_any (crowds keys) qs) none
    ∙ or_none c.loop.is_crowded in
    fault_none keys c.sound.ensures tree names (sym (crowded-pieces keys c.sound.ensures 0 ps) ∙ crowd ∙ c.if-is_crowded.false)
