use Rattle.std.proofs.Common.{rules, ℕ, ◌-◌, ◌/◌, ◌%◌, ◌^◌, get_or, arith, sym, ◌∙◌}
use Rattle.std.proofs.lemmas.List.{ext_get_or}
use Rattle.model.specs.Paths.{base32, digits_32, number_of}
use Rattle.hashmod.proofs.ArrayLemmas.{made_at}
use Rattle.storepath.proofs.DigitLemmas.{get_or-digits_of}
use Rattle.storepath.proofs.PathLemmas.{length-base32}
use Rattle.storepath.proofs.base32.to_base32.Goals as goal

pub returns : goal.returns
returns c =
    let bytes = c.args.bytes.now in
    let digit = λ (i : ℕ). get_or digits_32 (number_of bytes / 32 ^ (31 - i) % 32) 0 in
    let made = made_at _ digit _ (λ i r q k. search rules) c.from_fn.result 0 32 c.from_fn.ensures.items.each in
    ext_get_or 0 c.from_fn.result (base32 bytes) (c.from_fn.ensures.items.long ∙ sym (length-base32 bytes))
    (λ k h. made k 0 (omega arith) (omega arith) ∙ sym (get_or-digits_of 32 (number_of bytes) k (31 - k) (omega arith)))
