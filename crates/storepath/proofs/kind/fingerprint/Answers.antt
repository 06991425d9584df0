use Rattle.std.proofs.Common.{◌≡◌, ◌++◌, ◌∙◌, ap}
use Rattle.hex.specs.Hex.{encode_lower}
use Rattle.storepath.specs.Kinds.{kind_of}
use Rattle.storepath.proofs.KindLemmas.{fingerprint-appended}
use Rattle.storepath.proofs.kind.fingerprint.Goals as goal

pub returns : goal.returns
returns c =
    let before = c.extend_from_slice.new.self.items in
    let named = c.extend_from_slice-3.new.self.items in
    let shown : c.as_bytes.result.now ≡ encode_lower c.args.digest.now =
    c.as_bytes.ensures.value ∙ c.in_ok-encode.ensures ∙ ap encode_lower c.as_slice.ensures in
    fingerprint-appended (kind_of c.args.kind.now) c.args.digest.now c.args.name.now c.in_ok-text.text.items c.append_to.new.text.items before
    c.extend_from_slice-2.new.self.items named c.extend_from_slice-4.new.self.items c.in_ok-text.ensures.items c.in_ok-append_to.ensures
    c.in_ok-extend_from_slice.ensures.items (c.in_ok-extend_from_slice-2.ensures.items ∙ ap (λ t. before ++ t) shown)
    c.in_ok-extend_from_slice-3.ensures.items (c.in_ok-extend_from_slice-4.ensures.items ∙ ap (λ t. named ++ t) c.bytes.ensures.value)
