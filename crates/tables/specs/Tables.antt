-- Line codes that are given by a table of words.
-- Assumes nothing.
use Rattle.std.specs.Prelude.{ℕ, ◌^◌, Bool, true, false, not, ◌&&◌, ◌||◌, List, [], ◌∷◌, length, ◌==◌, nat_le, slice_index_or}
use Rattle.std.specs.List.{prefix_len}
use Rattle.linecode.specs.Chips.{is_chip}
use Rattle.linecode.specs.Codes.{Code}

abbrev pub is_width : ℕ → Bool
is_width g = g == 1 || (g == 2 || (g == 4 || g == 8))

-- a word of n chips, each 0 or 1
abbrev pub is_word : ℕ → List ℕ → Bool
is_word n w = length w == n && prefix_len is_chip w == n

abbrev pub same : List ℕ → List ℕ → Bool
same [] [] = true
same [] (y ∷ ys) = false
same (x ∷ xs) [] = false
same (x ∷ xs) (y ∷ ys) = x == y && same xs ys

-- none of the words equals w
abbrev pub absent : List ℕ → List (List ℕ) → Bool
absent w [] = true
absent w (x ∷ xs) = not (same w x) && absent w xs

abbrev pub distinct : List (List ℕ) → Bool
distinct [] = true
distinct (w ∷ ws) = absent w ws && distinct ws

abbrev pub all_words : ℕ → List (List ℕ) → Bool
all_words n [] = true
all_words n (w ∷ ws) = is_word n w && all_words n ws

-- 2 to the g words of n chips, all different
abbrev pub sound_table : ℕ → ℕ → List (List ℕ) → Bool
sound_table g n ws =
    is_width g && (nat_le 1 n && (nat_le n 128 && (length ws == 2 ^ g && (all_words n ws && distinct ws))))

-- the word of a value is the same at each position
abbrev pub table_code : ℕ → ℕ → List (List ℕ) → Code
table_code g n ws = record { bits = g; chips = n; word = λ p v. slice_index_or ws v [] }
