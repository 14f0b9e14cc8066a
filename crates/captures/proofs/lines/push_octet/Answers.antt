use Rattle.std.proofs.Common.{◌/◌, ◌%◌, [], ◌∷◌, string_bytes, append_assoc}
use Rattle.captures.specs.Lines.{hex_digit}
use Rattle.captures.proofs.lines.push_octet.Goals as goal

pub returns : goal.returns
returns c =
    let high = c.push.ensures.ascii c.hex_digit.ensures.bound in
    let low = c.push-2.ensures.ascii c.hex_digit-2.ensures.bound in
    let one = c.in_ok-push.ensures.bytes in
    let two = c.in_ok-push-2.ensures.bytes in
    let join = append_assoc (string_bytes c.args.text.now) (hex_digit (c.args.octet / 16) ∷ []) (hex_digit (c.args.octet % 16) ∷ []) in
    cc
