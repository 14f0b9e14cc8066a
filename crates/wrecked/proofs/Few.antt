-- Few wrecked groups touch few code bits, so they are mended.
-- Assumes nothing.
use Rattle.std.proofs.Common.{◌≡◌, ℕ, ◌*◌, ◌/◌, ◌<◌, ◌≤◌, Bool, true, false, List, length, ap, arith}
use Rattle.std.proofs.lemmas.Bool.{leb-false}
use Rattle.linecode.specs.Codes.{Lawful}
use Rattle.codebits.specs.Bits.{count}
use Rattle.codebits.specs.Message.{blocks}
use Rattle.codebits.specs.Interleaving.{moved}
use Rattle.codebits.specs.Differential.{decoded_doubt}
use Rattle.frames.specs.Sent.{Frame, psdu_bit, groups, frame_chips}
use Rattle.frames.proofs.Agrees.{Agrees, unwrecked_heard, touched_by, untouched}
use Rattle.frames.proofs.Parts.{part_ends}
use Rattle.frames.proofs.Widths.{whole_groups, groups_few}
use Rattle.nearest.specs.Messages.{longest_psdu, psdu_bits, code_length}
use Rattle.exact.specs.Touched.{TouchedOnly}
use Rattle.exact.proofs.Alone.{four_wrong_bits_mended, errors_and_erasures_mended}
use Rattle.exact.proofs.Counting.{move_keeps_count}
use Rattle.reading.specs.Frames.{frame_seen}
use Rattle.wrecked.specs.Wrecked.{wrecked, reach, wrecked_bits}
use Rattle.wrecked.specs.Mended.{FewWreckedMended, ByEveryCode}
use Rattle.wrecked.proofs.Counts.{count_groups, count_twice}
use Rattle.exact.proofs.Untouched.{no_more}

-- decoded bits that may be touched
touched_twice : (d : Bool) (t : ℕ → Bool) (n : ℕ) → count (decoded_doubt d false t) n ≤ reach d * count t n
touched_twice true t n = count_twice t n
touched_twice false t n = omega arith

module _ (f : Frame) (q chips : List ℕ) (l : Lawful f.code) where
  -- the code bits that may be touched
  abbrev touched : ℕ → Bool
  touched j = touched_by f (wrecked f q chips) (moved j)

  touched_few : count touched (code_length f.octets) ≤ wrecked_bits f q chips
  unfolding wrecked_bits
  touched_few =
      let g = f.code.bits in
      let b = blocks f.octets in
      let w = wrecked f q chips in
      let size : code_length f.octets ≡ 176 * b = omega arith in
      let keeps = move_keeps_count (touched_by f w) b in
      let twice = touched_twice f.differential (λ i. w (i / g)) (groups f * g) in
      let each = ap (λ n. reach f.differential * n) (count_groups w g (groups f)) in
      let at = ap (count (touched_by f w)) (whole_groups b g l.width) in
      rw size (omega arith)

  unwrecked : f.octets ≤ longest_psdu → length chips ≡ frame_chips f → (j : ℕ) → j < groups f → wrecked f q chips j ≡ false → Agrees f.code (psdu_bit f q) chips j
  unfolding wrecked
  unwrecked short long j h w =
      let room = groups_few f l short in
      let half = leb-false _ _ w in
      unwrecked_heard f.code l (psdu_bit f q) chips j (omega arith) (omega (arith, part_ends (groups f) f.code.chips j h)) (omega arith)

  touched_only : f.octets ≤ longest_psdu → length chips ≡ frame_chips f → TouchedOnly touched (frame_seen f chips) f.octets q
  touched_only short long j h z =
      let read = untouched f q chips l (wrecked f q chips) (unwrecked short long) j (omega arith) z in
      rw (read.0, read.1)

pub few_wrecked_mended : ByEveryCode FewWreckedMended
few_wrecked_mended f l q chips short iq long few =
    let seen = frame_seen f chips in
    let most = touched_few f q chips l in
    let wrong = no_more seen (psdu_bits q) (touched f q chips l) (code_length f.octets) (touched_only f q chips l short long) in
    record {
      few_wrong = omega (arith, wrong.0);
      few_wrong_or_doubtful = omega (arith, wrong.1);
      by_count = four_wrong_bits_mended seen f.octets q short iq (omega (arith, wrong.0));
      by_graded = errors_and_erasures_mended seen f.octets q short iq (omega (arith, wrong.1));
    }
