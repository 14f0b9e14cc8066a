-- The chain of a band and mode is that of its header and line code.
-- Assumes nothing.
use Rattle.std.proofs.Common.{ℕ, ◌≤◌, length, is_some, Ok, sym, ap, ◌∙◌, subst}
use Rattle.bands.specs.Lines.{line_code, line_lawful}
use Rattle.bands.specs.Modes.{psdu_differential}
use Rattle.codebits.specs.Message.{IsPsdu, message_length}
use Rattle.linecode.specs.Chips.{part}
use Rattle.frames.specs.Sent.{Frame, block_chips, sent_chips}
use Rattle.costs.specs.Kind.{Kind}
use Rattle.costs.specs.declared.Observation.{Observation}
use Rattle.header.specs.Reading.{Fields}
use Rattle.header.proofs.Back.{headers_back}
use Rattle.promise.specs.Clean.{CleanFramesComeBack}
use Rattle.promise.specs.Chain.{EveryChainReturns}

pub chain_returns : {C : Type 0} (kind : Kind Observation C) → CleanFramesComeBack kind → EveryChainReturns kind
chain_returns kind clean b m x is q iq fits h said costs words earlier room hc hw hr =
    let k = line_code x in
    let framed : Fields → Frame = λ (f : Fields). record { code = k; differential = psdu_differential f.band f.mode; last = f.last; octets = f.length } in
    let long : _ = ap (λ (f : Fields). f.length) said in
    record {
      header_read = (headers_back b m (length q) (ap is_some is) fits).clean ∙ ap Ok (sym said);
      as_sent = λ n _. ap (λ (f : Fields). part (block_chips k) (sent_chips (framed f) q) n) said;
      comes_back =
          clean costs words earlier h k (line_lawful x) q room
          (subst (λ (n : ℕ). IsPsdu n q) (sym long) iq) hc (subst (λ (n : ℕ). message_length n ≤ length words) (sym long) hw) (subst (λ (n : ℕ). n ≤ length room) (sym long) hr);
    }
