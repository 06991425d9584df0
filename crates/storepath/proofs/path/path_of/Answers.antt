use Rattle.std.proofs.Common.{◌≡◌, rules, append_assoc}
use Rattle.model.specs.Paths.{path_text}
use Rattle.storepath.proofs.path.path_of.Goals as goal

pub invariant_of-result : goal.invariant_of-result
unfolding path_text
invariant_of-result c =
    let is : c.in_ok-text-2.text ≡ path_text c.args.hash_part.now c.args.name.now = search (rules, append_assoc) in
    record {
      hash_part = c.args.hash_part.now;
      name = c.args.name.now;
      folded = record { bytes = c.fits-hash_part; length = c.told-hash_part };
      named = c.bytes.ensures.named;
      is = is;
    }

pub returns : goal.returns
unfolding path_text
returns c = search (rules, append_assoc)
