use Rattle.std.proofs.Common.{refl}
use Rattle.linecode.specs.Codes.{nearest}
use Rattle.codebits.specs.Bits.{number_at}
use Rattle.codebits.specs.Convolution.{code_bit, first, second, back}
use Rattle.codebits.specs.Differential.{encoded}
use Rattle.codebits.specs.Interleaving.{origin_in, origin}
use Rattle.codebits.specs.Message.{message_bit}
use Rattle.frames.specs.Sent.{psdu_bit, spread_groups}
use Rattle.header.specs.Phr.{sum_from}
use Rattle.header.specs.Headers.{octet_stream, last_encoded}
use Rattle.layers.specs.Whitening.{register, whiten}
use Rattle.costs.specs.Kind.{cost_of}
use Rattle.examples.proofs.definitions_compute_the_vectors.Goals as goal

pub returns : goal.returns
unfolding nearest number_at code_bit first second back encoded origin_in origin message_bit psdu_bit spread_groups sum_from octet_stream last_encoded register whiten cost_of
returns c = record {
  groups = record {
    whitened_word = refl;
    whitening_turns = refl;
    odd_position = refl;
    even_position = refl;
    unlike = refl;
    damaged_word = refl;
    count_before_value = refl;
    value_too_large = refl;
    refused_unwritten = refl;
    count_before_chip = refl;
    first_bad_chip = refl;
    no_chips = refl;
  };
  frames = record {
    octets_by_bits = refl;
    stored = refl;
    two_groups = refl;
    zeros_whitened = refl;
    decoded = refl;
    doubted = refl;
    as_it_is = refl;
    counted = refl;
    graded = refl;
  };
  headers = record {
    octets = refl;
    encoded = refl;
    last = refl;
    multiplexed = refl;
    unknown_sfd = refl;
    accepted = refl;
    reserved = refl;
    first_parity = refl;
    second_parity = refl;
    both_parities = refl;
    no_such_mode = refl;
    mode_before_length = refl;
    too_short = refl;
  };
  calls = record {
    short_costs = refl;
    short_words = refl;
    early = refl;
    short_buffer = refl;
    closed = refl;
    full = refl;
    wrong_count = refl;
    bad_chip = refl;
    good = refl;
  };
}
