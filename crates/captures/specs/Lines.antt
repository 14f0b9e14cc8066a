-- The lines that are printed.
-- Assumes nothing.
use Rattle.std.specs.Prelude.{ℕ, ◌+◌, ◌/◌, ◌%◌, cond, List, [], ◌∷◌, ◌++◌, codes, decimal, nat_lt}
use Rattle.faults.specs.declared.Fault.{Fault}
use Rattle.faults.specs.Refusals.{numbered}
use Rattle.captures.specs.declared.cost.Cost.{Cost}
use Rattle.captures.specs.declared.cost.Cost.TheVariants.{Count, Graded}

-- 0 to 9, then a to f
abbrev pub hex_digit : ℕ → ℕ
hex_digit n = cond (nat_lt n 10) (48 + n) (87 + n)

-- two lower-case digits for each octet
abbrev pub hex_of : List ℕ → List ℕ
hex_of [] = []
hex_of (b ∷ bs) = hex_digit (b / 16) ∷ hex_digit (b % 16) ∷ hex_of bs

abbrev pub cost_text : Cost → List ℕ
cost_text (Count n) = decimal n
cost_text (Graded s d) = decimal s ++ (codes " " ++ decimal d)

abbrev pub newline : List ℕ
newline = 10 ∷ []

-- the first two lines of an accepted capture: mode and length, and the cost
abbrev pub head_lines : ℕ → ℕ → Cost → List ℕ
head_lines m l cost = codes "frame " ++ (decimal m ++ (codes " " ++ (decimal l ++ (codes "\ncost " ++ (cost_text cost ++ newline)))))

-- all three
abbrev pub frame_lines : ℕ → ℕ → Cost → List ℕ → List ℕ
frame_lines m l cost psdu = head_lines m l cost ++ (hex_of psdu ++ newline)

-- the line of a refused capture: the refusal's number, and its place
abbrev pub refused_line : Fault → List ℕ
refused_line f = codes "refused " ++ (decimal (numbered f.kind) ++ (codes " " ++ (decimal f.place ++ newline)))
