use Rattle.std.proofs.Common.{◌≡◌, rules}
use Rattle.std.specs.List.{list_all}
use Rattle.std.proofs.lemmas.Iterator.{YieldsList-from_slice}
use Rattle.std.proofs.lemmas.Iterator.Search.{all_from_yields_List}
use Rattle.model.specs.Paths.{is_digit_32}
use Rattle.storepath.proofs.hash_part.is_hash_part.Goals as goal

pub returns-then-text-eq32 : goal.returns-then-text-eq32
returns-then-text-eq32 c =
    let text = c.args.text.now in
    let ran = c.all.ensures.ran in
    let all : c.all.result ≡ list_all is_digit_32 text =
    all_from_yields_List is_digit_32 _ _ c.all.result ran (YieldsList-from_slice text cc) (λ x b q k. search rules) in
    rw c.if-text-eq32.true all
