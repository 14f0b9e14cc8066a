-- What the trellis finds: the nearest message and PSDU, from the code bits that have come.
-- Assumes nothing.
use Rattle.std.specs.Prelude.{◌≡◌, ℕ, suc, ◌+◌, ◌*◌, ◌≤◌, Bool, List}
use Rattle.codebits.specs.Message.{tail_bits, message_length, octets_of}
use Rattle.costs.specs.Kind.{Kind, Laws}
use Rattle.nearest.specs.Messages.{longest_psdu, SameBelow}
use Rattle.nearest.specs.Nearest.{NearestMessage, NearestPsdu}
use Rattle.nearest.specs.Trellis.{metric, survivor, traced}

module _ {O C : Type 0} (kind : Kind O C) (observed : ℕ → O) where
  -- the message, zero from place e on, that the survivors of n steps trace back from state zero, and the cost of that state
  abbrev pub traced_message : ℕ → ℕ → ℕ → Bool
  traced_message e n = traced (survivor kind observed e) n 0

  abbrev pub traced_cost : ℕ → ℕ → C
  traced_cost e n = metric kind observed e n 0

  -- the same for the octets of a PSDU
  abbrev pub traced_psdu : ℕ → List ℕ
  traced_psdu L = octets_of L (traced_message (8 * L) (message_length L))

  abbrev pub traced_psdu_cost : ℕ → C
  traced_psdu_cost L = traced_cost (8 * L) (message_length L)

-- Whatever was observed, the survivors trace the nearest message, if N charges cover its code bits.
abbrev pub TracesNearest : {O C : Type 0} → ℕ → Kind O C → Type 0
TracesNearest {O} N kind =
    (observed : ℕ → O) (e n : ℕ) → e + tail_bits ≤ n → 2 * n ≤ N →
    NearestMessage kind observed e n (traced_message kind observed e n) (traced_cost kind observed e n)

-- That follows from the laws alone, whatever the observations and the costs are, and for any number of charges.
abbrev pub NearestByLaws : Type 0 → Type 0 → Type 0
NearestByLaws O C = (kind : Kind O C) (N : ℕ) → Laws N kind → TracesNearest N kind

-- So the survivors trace the nearest PSDU, of every length that a frame can have.
abbrev pub TracesNearestPsdu : {O C : Type 0} → Kind O C → Type 0
TracesNearestPsdu {O} kind =
    (observed : ℕ → O) (L : ℕ) → L ≤ longest_psdu →
    NearestPsdu kind observed L (traced_psdu kind observed L) (traced_psdu_cost kind observed L)

-- The costs after k steps and what they trace go by the first 2 × k observed code bits, and the survivors of step k by those and its own two.
pub record ByWhatCame {O C : Type 0} (kind : Kind O C) : Type 0 where
  pub costs : (a b : ℕ → O) (e k : ℕ) → SameBelow (2 * k) a b → (s : ℕ) → metric kind a e k s ≡ metric kind b e k s
  pub survivors : (a b : ℕ → O) (e k : ℕ) → SameBelow (2 * suc k) a b → (s : ℕ) → survivor kind a e k s ≡ survivor kind b e k s
  pub trace : (a b : ℕ → O) (e k : ℕ) → SameBelow (2 * k) a b → traced_message kind a e k ≡ traced_message kind b e k
