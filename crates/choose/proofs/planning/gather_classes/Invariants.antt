use Rattle.std.proofs.Common.{◌≡◌, ℕ, List, [], take, false}
use Rattle.std.specs.Prelude.{is_none}
use Rattle.std.specs.List.{list_any}
use Rattle.choose.specs.Visible.{choose_in}
use Rattle.choose.specs.Gathering.{IsGathered}
use Rattle.choose.proofs.planning.gather_classes.Given as goal

abbrev pub invariant-loop-class : goal.invariant-loop-class
invariant-loop-class l = record {
  realised : list_any (λ c. is_none (choose_in l.view l.pins c)) (take l.class-index l.classes) ≡ false;
  gathered : (sources : List (List ℕ)) → IsGathered l.view (choose_in l.view l.pins) l.classes sources (take l.class-index l.classes) [] [] l.gathering;
}
