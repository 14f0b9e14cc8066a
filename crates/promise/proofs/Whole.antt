-- A frame of four zero octets in the band at 915 MHz, mode 3, sent and received.
-- Assumes nothing.
use Rattle.std.proofs.Common.{ℕ, zero, suc, ◌<◌, false, List, get_or, replicate, refl, ap, arith, lit≤}
use lib.ListN.{length-replicate}
use Rattle.linecode.specs.Straight.{straight, straight_lawful}
use Rattle.bands.specs.declared.band.Band.TheVariants.{Mhz915}
use Rattle.bands.specs.declared.band.RateMode.TheVariants.{Mode3}
use Rattle.codebits.specs.Message.{IsPsdu}
use Rattle.costs.specs.Kind.{Kind}
use Rattle.costs.specs.declared.Observation.{Observation}
use Rattle.header.specs.declared.model.Header.{Header}
use Rattle.layers.specs.Whitening.{whitened}
use Rattle.layers.specs.WhiteningLaws.{whitened_lawful}
use Rattle.receiver.specs.Receiver.{Closed}
use Rattle.receiver.specs.Runs.{start}
use Rattle.promise.specs.Clean.{sent_calls, CleanFramesComeBack}
use Rattle.promise.specs.Whole.{WholeRun}

header : Header
header = record { band = Mhz915; mode = Mode3; length = 4; last = false; known = refl; least = lit≤ tt; most = lit≤ tt }

zeros : List ℕ
zeros = replicate 4 0

below : (n i : ℕ) → get_or (replicate n 0) i 0 < 256
below zero i = lit≤ tt
below (suc n) zero = lit≤ tt
below (suc n) (suc i) = below n i

is_psdu : IsPsdu 4 zeros
unfolding zeros
is_psdu = (refl, (λ i h. below 4 i))

pub whole_run : {C : Type 0} (kind : Kind Observation C) → CleanFramesComeBack kind → WholeRun kind
unfolding header zeros
whole_run {C} kind clean = record {
  costs = replicate 128 kind.nothing;
  words = replicate 88 0;
  code = whitened straight;
  lawful = whitened_lawful straight straight_lawful;
  calls = sent_calls start header (whitened straight) zeros 1;
  room = zeros;
  told = kind.nothing;
  accepted =
      ap (λ (b : Closed C). b.answer)
      (clean (replicate 128 kind.nothing) (replicate 88 0) start header (whitened straight) (whitened_lawful straight straight_lawful) zeros zeros is_psdu
      (omega (arith, length-replicate 128 kind.nothing)) (lit≤ tt) (lit≤ tt)).closed;
}
