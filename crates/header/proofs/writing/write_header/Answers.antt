use Rattle.std.proofs.Common.{◌≡◌, ℕ, true, length, Ok, sym, ap, ◌∙◌}
use Rattle.std.proofs.lemmas.Bool.{cond-true, eq-eqb}
use Rattle.linecode.specs.Codes.{Code}
use Rattle.bands.specs.Modes.{header_code}
use Rattle.header.specs.Phr.{has_mode}
use Rattle.header.specs.Headers.{header_length, octet_chips, last_encoded}
use Rattle.codebits.specs.Message.{is_length}
use Rattle.header.proofs.Bands.{laid, laid_out}
use Rattle.header.proofs.writing.write_header.Goals as goal

pub returns : goal.returns
returns c =
    let b = c.args.band in
    let m = c.args.mode in
    let l : ℕ = c.args.psdu_length in
    let os = laid_out b m l _ _ _ c.new.ensures c.octets.ensures c.preamble_octets-start.ensures in
    let room = eq-eqb (length c.args.chips.now) (header_length b) (c.if-chips-header_chips.false ∙ c.header_chips.ensures.answer) in
    let known : has_mode b m ≡ true = sym c.has_mode.ensures.answer ∙ c.if-not-has_mode.false in
    let fits : is_length l ≡ true = sym c.is_length.ensures.answer ∙ c.if-not-is_length.false in
    record {
      answer = ap Ok (c.write_octets.ensures.last ∙ ap last_encoded os) ∙ sym (cond-true _ _ _ room ∙ (cond-true _ _ _ known ∙ cond-true _ _ _ fits));
      memory = c.write_octets.ensures.chips ∙ (ap (λ (k : Code). octet_chips k (laid c.octets.result c.preamble_octets-start.result)) c.header_line.ensures ∙ ap (octet_chips (header_code b)) os)
          ∙ sym (cond-true _ _ _ room ∙ (cond-true _ _ _ known ∙ cond-true _ _ _ fits));
    }
