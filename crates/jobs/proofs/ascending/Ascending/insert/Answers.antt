use Rattle.std.proofs.Common.{◌≡◌, ◌∙◌, ◌≤◌, ap, arith, length}
use Rattle.std.specs.Prelude.{nat_lt, is_ok}
use Rattle.std.specs.List.{position_or_len}
use Rattle.jobs.proofs.PlaceLemmas.{insert_number, place_within, rises_so}
use Rattle.jobs.proofs.ascending.Ascending.insert.Goals as goal

pub insert-requires : goal.insert-requires
insert-requires c =
    let place : c.place_above-place.result ≡ position_or_len (λ n. nat_lt c.args.number n) c.args.self.now.numbers.items =
    c.place_above-place.ensures ∙ ap (position_or_len (λ n. nat_lt c.args.number n)) c.as_slice.ensures.value in
    let within : c.place_above-place.result ≤ length c.args.self.now.numbers.items =
    place_within (λ n. nat_lt c.args.number n) c.place_above-place.result c.args.self.now.numbers.items place in
    omega (arith, within, c.args.self.now.numbers.ok.0)

pub invariant_of-self : goal.invariant_of-self
invariant_of-self c =
    let place : c.place_above-place.result ≡ position_or_len (λ n. nat_lt c.args.number n) c.args.self.now.numbers.items =
    c.place_above-place.ensures ∙ ap (position_or_len (λ n. nat_lt c.args.number n)) c.as_slice.ensures.value in
    record {
      rising = rw c.insert.ensures.items
          (rises_so (is_ok c.insert.result) c.args.number c.place_above-place.result c.args.self.now.numbers.items c.args.self.now.rising place);
    }

pub returns : goal.returns
returns c =
    let place : c.place_above-place.result ≡ position_or_len (λ n. nat_lt c.args.number n) c.args.self.now.numbers.items =
    c.place_above-place.ensures ∙ ap (position_or_len (λ n. nat_lt c.args.number n)) c.as_slice.ensures.value in
    c.in_ok-insert.ensures.items ∙ insert_number c.args.number c.place_above-place.result c.args.self.now.numbers.items place
