-- Messages as streams of bits, and that a PSDU is the same thing as its message.
-- Assumes nothing.
use Rattle.std.specs.Prelude.{◌≡◌, ℕ, ◌*◌, ◌<◌, ◌≤◌, Bool, false, List}
use Rattle.codebits.specs.Convolution.{code_bit}
use Rattle.codebits.specs.Message.{IsPsdu, message_bit, message_length, octets_of}

-- the most octets that a header can announce
abbrev pub longest_psdu : ℕ
longest_psdu = 2047

-- the code bits of a PSDU, and how many a PSDU of L octets has: two for each bit of its message
abbrev pub psdu_bits : List ℕ → ℕ → Bool
psdu_bits p = code_bit (message_bit p)

abbrev pub code_length : ℕ → ℕ
code_length L = 2 * message_length L

-- a message that is zero from place e on
abbrev pub ZeroFrom : ℕ → (ℕ → Bool) → Type 0
ZeroFrom e m = (k : ℕ) → e ≤ k → m k ≡ false

-- two streams agree at the places below n
abbrev pub SameBelow : {A : Type 0} → ℕ → (ℕ → A) → (ℕ → A) → Type 0
SameBelow n a b = (j : ℕ) → j < n → a j ≡ b j

-- The message of a PSDU of L octets is zero from place 8 × L on, and each such message is that of a PSDU, whose octets are the message's.
pub record MessagesArePsdus : Type 0 where
  pub ends : (L : ℕ) (p : List ℕ) → IsPsdu L p → ZeroFrom (8 * L) (message_bit p)
  pub is_psdu : (L : ℕ) (m : ℕ → Bool) → IsPsdu L (octets_of L m)
  pub its_bits : (L : ℕ) (m : ℕ → Bool) → ZeroFrom (8 * L) m → (k : ℕ) → message_bit (octets_of L m) k ≡ m k
