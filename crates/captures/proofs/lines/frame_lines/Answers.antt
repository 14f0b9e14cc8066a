use Rattle.captures.specs.Lines.{head_lines, hex_of, newline}
use Rattle.captures.proofs.Hex.{joined}
use Rattle.captures.proofs.lines.frame_lines.Goals as goal

pub returns : goal.returns
returns c = record {
  answer = joined (head_lines c.args.mode c.args.psdu_length c.args.cost) (hex_of c.args.psdu.now) newline
      c.in_ok-text.ensures.ok
      c.in_ok-push_hex.ensures
      c.in_ok-push_str.ensures.bytes;
}
