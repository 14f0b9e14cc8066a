-- One octet more in hexadecimal, and one text after another.
-- Assumes nothing.
use Rattle.std.proofs.Common.{◌≡◌, ℕ, ◌+◌, ◌/◌, ◌%◌, ◌<◌, List, [], ◌∷◌, ◌++◌, length, get_or, take, refl, ap, ◌∙◌, append_assoc}
use Rattle.std.proofs.lemmas.List.{take_more}
use Rattle.captures.specs.Lines.{hex_digit, hex_of}

hex_of_append : (xs ys : List ℕ) → hex_of (xs ++ ys) ≡ hex_of xs ++ hex_of ys
hex_of_append [] ys = refl
hex_of_append (x ∷ xs) ys = ap (λ l. hex_digit (x / 16) ∷ hex_digit (x % 16) ∷ l) (hex_of_append xs ys)

pub hex_of_more : (xs : List ℕ) (i : ℕ) → i < length xs → hex_of (take (i + 1) xs) ≡ hex_of (take i xs) ++ hex_of (get_or xs i 0 ∷ [])
hex_of_more xs i h = ap hex_of (take_more xs i 0 h) ∙ hex_of_append (take i xs) (get_or xs i 0 ∷ [])

-- one text after another
pub joined : (a b c : List ℕ) {t0 t1 t2 : List ℕ} → t0 ≡ a → t1 ≡ t0 ++ b → t2 ≡ t1 ++ c → t2 ≡ a ++ (b ++ c)
joined a b c p q r = r ∙ ap (λ l. l ++ c) (q ∙ ap (λ l. l ++ b) p) ∙ append_assoc a b c
