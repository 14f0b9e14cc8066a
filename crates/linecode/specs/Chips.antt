-- Chips: how a slice of them is judged, and how a text writes them.
-- Assumes nothing.
use Rattle.std.specs.Prelude.{ℕ, ◌*◌, ◌%◌, Bool, cond, not, List, map, length, take, drop, Ok, Err, codes, filter, Result, ◌==◌, nat_lt}
use Prim.Native.String.{String}
use Rattle.std.specs.List.{prefix_len}
use Rattle.faults.specs.declared.Fault.{Fault}
use Rattle.faults.specs.declared.Layer.{Layer}
use Rattle.faults.specs.declared.FaultKind.TheVariants.{ChipCount, ChipValue}
use Rattle.faults.specs.Refusals.{fault}

-- a chip is 0 or 1
abbrev pub is_chip : ℕ → Bool
is_chip x = nat_lt x 2

-- n chips are wanted: the slice's length is judged first, then its first element that is no chip
abbrev pub judged : Layer → ℕ → List ℕ → Result (Unit {0}) Fault
judged l n xs =
    cond (length xs == n)
    (cond (prefix_len is_chip xs == n) (Ok tt) (Err (fault ChipValue (prefix_len is_chip xs) l)))
    (Err (fault ChipCount (length xs) l))

-- the answer x, unless the call is refused
abbrev pub unless_refused : {X : Type 0} → Result (Unit {0}) Fault → X → Result X Fault
unless_refused (Ok u) x = Ok x
unless_refused (Err e) x = Err e

-- part j of what is cut into parts of n
abbrev pub part : ℕ → List ℕ → ℕ → List ℕ
part n chips j = take n (drop (j * n) chips)

-- the chip that a digit stands for: 48 and 49 are the codes of 0 and 1
abbrev pub chip_of : ℕ → ℕ
chip_of digit = digit % 2

abbrev pub word_of : List ℕ → List ℕ
word_of digits = map chip_of digits

-- the chips that a text of the digits 0 and 1 writes, with _ between them
abbrev pub chips_of : String → List ℕ
chips_of s = word_of (filter (λ c. not (c == 95)) (codes s))
