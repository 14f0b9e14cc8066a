-- The whitening sequence, and chips whitened by it.
-- Assumes nothing.
use Rattle.std.specs.Prelude.{ℕ, zero, suc, ◌+◌, ◌*◌, ◌%◌, Bool, true, ◌&&◌, List, [], ◌∷◌, take, ◌==◌, bit_xor, slice_index}
use Rattle.linecode.specs.Codes.{Code}

-- u_(k-1), u_(k-2), .. u_(k-9), from u_(-1) = 1 and eight zeros before it; u_k is the sum modulo 2 of u_(k-5) and u_(k-9)
abbrev pub after : List ℕ → ℕ
after us = bit_xor (slice_index us 4) (slice_index us 8)

unfoldable pub register : ℕ → List ℕ
register zero = 1 ∷ 0 ∷ 0 ∷ 0 ∷ 0 ∷ 0 ∷ 0 ∷ 0 ∷ 0 ∷ []
register (suc k) = after (register k) ∷ take 8 (register k)

-- element k of the sequence
abbrev pub sequence : ℕ → ℕ
sequence k = after (register k)

-- each element of the list follows from the nine before it
abbrev pub follows : List ℕ → List ℕ → Bool
follows us [] = true
follows us (s ∷ ss) = s == after us && follows (s ∷ take 8 us) ss

-- the list is the sequence from its start
abbrev pub starts : List ℕ → Bool
starts ss = follows (register 0) ss

-- chips from index k on, each added modulo 2 to the sequence, which repeats after 511 elements
unfoldable pub whiten : ℕ → List ℕ → List ℕ
whiten k [] = []
whiten k (x ∷ xs) = bit_xor x (sequence (k % 511)) ∷ whiten (k + 1) xs

-- chip c of position p is whitened by element (p * n + c) modulo 511
abbrev pub whitened : Code → Code
whitened a = record { bits = a.bits; chips = a.chips; word = λ p v. whiten (p * a.chips) (a.word p v) }
