use Rattle.std.proofs.Common.{◌≡◌, ◌≤◌, ℕ, List, length, arith, ◌∙◌, ap, sym}
use Rattle.model.specs.Paths.{base32, IsPath}
use Rattle.storepath.specs.Parts.{hash_part_of}
use Rattle.storepath.proofs.PathLemmas.{length-IsPath, hash_part_of-path_text}
use Rattle.storepath.proofs.PathTests.{base32_is_hash_part}
use Rattle.storepath.proofs.path.StorePath.hash_part.Goals as goal

-- a path's digits are those of its hash part
hash_part_of-path : (text : List ℕ) (path : IsPath text) → hash_part_of text ≡ base32 path.hash_part
hash_part_of-path text path = ap hash_part_of path.is ∙ hash_part_of-path_text path.hash_part path.name

pub slice_bounds-from_digits-end : goal.slice_bounds-from_digits-end
slice_bounds-from_digits-end c =
    let long : 44 ≤ length c.bytes.result.now = rw c.bytes.ensures.value (length-IsPath c.args.self.now c.bytes.ensures.path) in
    omega arith

pub from_digits-requires : goal.from_digits-requires
from_digits-requires c =
    let text = c.args.self.now in
    let path = c.bytes.ensures.path in
    rw c.bytes.ensures.value (base32_is_hash_part path.hash_part (hash_part_of text) (sym (hash_part_of-path text path)))

pub returns-clause-part : goal.returns-clause-part
returns-clause-part c =
    let path = c.bytes.ensures.path in
    rw (c.from_digits.ensures, c.bytes.ensures.value) (path, hash_part_of-path c.args.self.now path)
