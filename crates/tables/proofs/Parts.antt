-- Words that stand one after the other, each as long as the others.
-- Assumes nothing.
use Rattle.std.proofs.Common.{◌≡◌, ℕ, zero, suc, ◌+◌, ◌*◌, ◌<◌, List, [], ◌∷◌, ◌++◌, length, get_or, take, drop, sym, ap, ◌∙◌, le_of_suc-le-suc, not-suc-le-zero, suc-mul, arith}
use Rattle.std.proofs.lemmas.List.{take-map, drop-map, take-append-le, drop-append-le, drop-drop, take_all, drop_all}
use Rattle.linecode.specs.Chips.{chip_of, word_of, part}
use Rattle.tables.specs.Codes.{row}

-- every word has n chips
abbrev pub Sized : ℕ → List (List ℕ) → Type 0
Sized n ws = (v : ℕ) → v < length ws → length (get_or ws v []) ≡ n

-- past a first word of n chips
drop_word : (n m : ℕ) (w xs : List ℕ) → length w ≡ n → drop (m + n) (w ++ xs) ≡ drop m xs
drop_word n m w xs e =
    ap (λ k. drop k (w ++ xs)) (let c : m + n ≡ n + m = omega arith in c)
    ∙ (sym (drop-drop m n (w ++ xs))
    ∙ (ap (drop m) (drop-append-le n w xs (omega arith)) ∙ ap (λ us. drop m (us ++ xs)) (drop_all n w (omega arith))))

pub part_row : (n : ℕ) (ws : List (List ℕ)) → Sized n ws → (v : ℕ) → v < length ws → part n (row ws) v ≡ get_or ws v []
part_row n [] s v h = absurd (not-suc-le-zero h)
part_row n (w ∷ ws) s zero h =
    let e = s 0 (omega arith) in
    ap (λ k. take n (drop k (w ++ row ws))) (let z : 0 * n ≡ 0 = omega arith in z)
    ∙ (take-append-le n w (row ws) (omega arith) ∙ take_all n w (omega arith))
part_row n (w ∷ ws) s (suc v) h =
    ap (λ k. take n (drop k (w ++ row ws))) (suc-mul v n)
    ∙ (ap (take n) (drop_word n (v * n) w (row ws) (s 0 (omega arith)))
    ∙ part_row n ws (λ u lt. s (suc u) (omega arith)) v (le_of_suc-le-suc h))

-- the chips of a part are the part of the chips
pub part_chips : (n : ℕ) (digits : List ℕ) (v : ℕ) → word_of (part n digits v) ≡ part n (word_of digits) v
part_chips n digits v = sym (take-map chip_of n (drop (v * n) digits)) ∙ ap (take n) (sym (drop-map chip_of (v * n) digits))
