-- Bits, and streams of them. A bit is a truth value, and a stream is a function from places, counted from 0, to bits.
-- Assumes nothing.
use Rattle.std.specs.Prelude.{ℕ, zero, suc, ◌+◌, ◌*◌, ◌/◌, ◌%◌, ◌^◌, Bool, true, false, not, ◌==◌}

infixl 40 ◌⊕◌
-- the sum modulo 2
abbrev pub ◌⊕◌ : Bool → Bool → Bool
true ⊕ b = not b
false ⊕ b = b

-- a bit as a number
abbrev pub one : Bool → ℕ
one true = 1
one false = 0

-- bit i of a number, from its least bit on
abbrev pub bit_at : ℕ → ℕ → Bool
bit_at n i = n / 2 ^ i % 2 == 1

-- the number of g bits of a stream from place i on, the first of them its least bit
unfoldable pub number_at : (ℕ → Bool) → ℕ → ℕ → ℕ
number_at s i zero = 0
number_at s i (suc g) = number_at s i g + one (s (i + g)) * 2 ^ g

-- how many of the places below n pass a test
unfoldable pub count : (ℕ → Bool) → ℕ → ℕ
count f zero = 0
count f (suc n) = count f n + one (f n)

-- in how many of the places below n two streams differ
unfoldable pub differences : (ℕ → Bool) → (ℕ → Bool) → ℕ → ℕ
differences a b n = count (λ j. a j ⊕ b j) n

-- what a stream has before place i, and a before its first place
abbrev pub previous : {A : Type 0} → A → (ℕ → A) → ℕ → A
previous a s zero = a
previous a s (suc i) = s i
