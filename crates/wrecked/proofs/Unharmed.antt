-- The chips that are sent: no group is wrecked, each code bit is read as sent, and the PSDU costs nothing.
-- Assumes nothing.
use Rattle.std.proofs.Common.{◌≡◌, ℕ, ◌^◌, ◌<◌, ◌≤◌, List, sym, ap, ◌∙◌, mul-zero, zero-mul, arith}
use Rattle.std.proofs.lemmas.Bool.{lt-leb}
use Rattle.linecode.specs.Codes.{Code, Lawful, distance, least_distance}
use Rattle.linecode.proofs.Hearing.{apart_one}
use Rattle.linecode.proofs.Least.{is_least}
use Rattle.linecode.proofs.Metric.{distance_self}
use Rattle.frames.specs.Sent.{Frame, psdu_bit, groups, group_chips, sent_chips}
use Rattle.frames.specs.Heard.{damaged}
use Rattle.frames.proofs.Agrees.{sent_heard}
use Rattle.frames.proofs.Cuts.{sent_cut}
use Rattle.frames.proofs.Widths.{groups_few}
use Rattle.nearest.specs.Messages.{longest_psdu, code_length}
use Rattle.exact.specs.Touched.{AsSent}
use Rattle.exact.proofs.Few.{clean_count, clean_graded}
use Rattle.reading.specs.Frames.{frame_seen}
use Rattle.wrecked.specs.Wrecked.{DamagedUnlikeSent, wrecked, reach, wrecked_bits}
use Rattle.wrecked.specs.Mended.{SentUnharmed, ByEveryCode}
use Rattle.wrecked.proofs.Counts.{count_none}
use Rattle.wrecked.proofs.Few.{few_wrecked_mended}

-- two words differ in one chip at least
least_some : (k : Code) → Lawful k → (p : ℕ) → p < 2 ^ 32 → 1 ≤ least_distance k p
least_some k l p hp =
    let at = (is_least k l p hp).reached in
    omega (arith, apart_one k l p at.0 hp at.2 at.1 at.3 (λ e. at.4 (sym e)), at.5)

pub damaged_unlike_sent : ByEveryCode DamagedUnlikeSent
damaged_unlike_sent f l q chips short j h = ap (λ word. distance word (group_chips f.code chips j)) (sym (sent_cut.group f q l short j h))

module _ (f : Frame) (q : List ℕ) (l : Lawful f.code) (short : f.octets ≤ longest_psdu) where
  undamaged : (j : ℕ) → j < groups f → damaged f.code (psdu_bit f q) (sent_chips f q) j ≡ 0
  undamaged j h = damaged_unlike_sent f l q (sent_chips f q) short j h ∙ distance_self (group_chips f.code (sent_chips f q) j)

  none_wrecked : wrecked_bits f q (sent_chips f q) ≡ 0
  unfolding wrecked_bits wrecked
  none_wrecked =
      let room = groups_few f l short in
      let none = count_none (wrecked f q (sent_chips f q)) (groups f) (λ j h. lt-leb _ _ (omega (arith, least_some f.code l j (omega arith), undamaged j h))) in
      rw (none, zero-mul f.code.bits, mul-zero (reach f.differential))

  as_sent : (j : ℕ) → j < code_length f.octets → AsSent (frame_seen f (sent_chips f q)) q j
  as_sent j h = let read = sent_heard f q l short j h in rw (read.0, read.1)

pub sent_unharmed : ByEveryCode SentUnharmed
sent_unharmed f l q short iq =
    let whole = sent_cut.whole f q l short in
    let none = none_wrecked f q l short in
    let read = as_sent f q l short in
    record {
      whole = whole;
      unwrecked = none;
      as_sent = read;
      returned = few_wrecked_mended f l q (sent_chips f q) short iq whole (omega arith);
      count_nothing = clean_count (frame_seen f (sent_chips f q)) f.octets q read;
      graded_nothing = clean_graded (frame_seen f (sent_chips f q)) f.octets q read;
    }
