use Rattle.std.proofs.Common.{rules, ◌≡◌, ℕ, ◌+◌, ◌*◌, ◌/◌, ◌%◌, get_or, arith}
use Rattle.storepath.proofs.NumberLemmas.{digit_from_bytes}
use Rattle.storepath.proofs.base32.digit_at.Goals as goal

pub returns : goal.returns
returns c =
    let number = c.args.number.now in
    let byte : ℕ = 5 * c.args.place / 8 in
    let low : c.from.result ≡ get_or number byte 0 = search rules in
    let high : c.from-2.result ≡ get_or number (byte + 1) 0 = search rules in
    rw (low, high) (digit_from_bytes number c.args.place byte (5 * c.args.place % 8) c.fits-number (omega arith) (omega arith))
