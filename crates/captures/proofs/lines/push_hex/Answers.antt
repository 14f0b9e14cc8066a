use Rattle.std.proofs.Common.{[], ◌∷◌, get_or, take, string_bytes, append_assoc, arith, rules}
use Rattle.std.proofs.lemmas.List.{take_all}
use Rattle.captures.specs.Lines.{hex_of}
use Rattle.captures.proofs.Hex.{hex_of_more}
use Rattle.captures.proofs.lines.push_hex.Goals as goal

pub loop-octet-preserved : goal.loop-octet-preserved
loop-octet-preserved c =
    let bs = c.args.octets.now in
    let i = c.loop-octet.octet-index in
    let more = hex_of_more bs i (omega arith) in
    let put = c.in_ok-push_octet.ensures in
    let join = append_assoc (string_bytes c.args.text.now) (hex_of (take i bs)) (hex_of (get_or bs i 0 ∷ [])) in
    cc

pub returns : goal.returns
returns c = search (rules, take_all)
