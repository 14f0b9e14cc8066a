-- Whitening is its own inverse and keeps lengths, chips and distances, so a whitened line code is a line code.
-- Assumes nothing.
use Rattle.std.specs.Prelude.{◌≡◌, ℕ, zero, suc, ◌+◌, ◌*◌, ◌%◌, ◌<◌, cond, List, [], ◌∷◌, length, ◌==◌, bit_xor, slice_index, refl}
use Rattle.std.proofs.Common.{sym, ap, ◌∙◌, ⊎_elim, arith, le_of_suc-le-suc, not-suc-le-zero}
use Rattle.std.specs.Int.Bits.{xor_assoc, xor_self, xor_zero_r}
use Rattle.std.proofs.lemmas.Nat.{xor_lt}
use Rattle.std.specs.List.{AllByRecursion}
use Rattle.std.proofs.ByRecursion.{All-take}
use Rattle.std.proofs.lemmas.Bool.{eqb-true, eqb-false, eq-eqb, ne_eqb, cases_Bool}
use Rattle.linecode.specs.Codes.{Code, Lawful, distance}
use Rattle.layers.specs.Whitening.{after, register, sequence, whiten, whitened}

xor_back : (x s : ℕ) → bit_xor (bit_xor x s) s ≡ x
xor_back x s = xor_assoc x s s ∙ ap (bit_xor x) (xor_self s) ∙ xor_zero_r x

-- every element of the sequence is 0 or 1
get_d_binary : (us : List ℕ) (i : ℕ) → AllByRecursion (λ x. x < 2) us → slice_index us i < 2
get_d_binary [] i h = omega arith
get_d_binary (x ∷ xs) zero h = h.0
get_d_binary (x ∷ xs) (suc i) h = get_d_binary xs i h.1

after_binary : (us : List ℕ) → AllByRecursion (λ x. x < 2) us → after us < 2
after_binary us h = xor_lt 1 (slice_index us 4) (slice_index us 8) (get_d_binary us 4 h) (get_d_binary us 8 h)

register_binary : (k : ℕ) → AllByRecursion (λ x. x < 2) (register k)
unfolding register
register_binary zero = (omega arith, (omega arith, (omega arith, (omega arith, (omega arith, (omega arith, (omega arith, (omega arith, (omega arith, tt)))))))))
register_binary (suc k) = (after_binary (register k) (register_binary k), All-take (λ x. x < 2) 8 (register k) (register_binary k))

pub sequence_binary : (k : ℕ) → sequence k < 2
sequence_binary k = after_binary (register k) (register_binary k)

pub length_whiten : (k : ℕ) (xs : List ℕ) → length (whiten k xs) ≡ length xs
unfolding whiten
length_whiten k [] = refl
length_whiten k (x ∷ xs) = ap suc (length_whiten (k + 1) xs)

pub whiten_twice : (k : ℕ) (xs : List ℕ) → whiten k (whiten k xs) ≡ xs
unfolding whiten
whiten_twice k [] = refl
whiten_twice k (x ∷ xs) = ap (λ y. y ∷ whiten (k + 1) (whiten (k + 1) xs)) (xor_back x (sequence (k % 511))) ∙ ap (λ ys. x ∷ ys) (whiten_twice (k + 1) xs)

pub whiten_binary : (k : ℕ) (xs : List ℕ) (i : ℕ) → i < length xs → slice_index xs i < 2 → slice_index (whiten k xs) i < 2
unfolding whiten
whiten_binary k [] i h b = absurd (not-suc-le-zero h)
whiten_binary k (x ∷ xs) zero h b = xor_lt 1 x (sequence (k % 511)) b (sequence_binary (k % 511))
whiten_binary k (x ∷ xs) (suc i) h b = whiten_binary (k + 1) xs i (le_of_suc-le-suc h) b

eqb_move : (x y s : ℕ) → (bit_xor x s == y) ≡ (x == bit_xor y s)
eqb_move x y s =
    ⊎_elim
    (λ t. t ∙ sym (eq-eqb x (bit_xor y s) (sym (xor_back x s) ∙ ap (λ z. bit_xor z s) (eqb-true (bit_xor x s) y t))))
    (λ f. f ∙ sym (ne_eqb x (bit_xor y s) (λ e. eqb-false (bit_xor x s) y f (ap (λ z. bit_xor z s) e ∙ xor_back y s))))
    (cases_Bool (bit_xor x s == y))

-- chips are as far from a whitened word as the chips, whitened, are from the word
pub whiten_distance : (k : ℕ) (ws xs : List ℕ) → distance (whiten k ws) xs ≡ distance ws (whiten k xs)
unfolding whiten
whiten_distance k [] xs = refl
whiten_distance k (w ∷ ws) [] = refl
whiten_distance k (w ∷ ws) (x ∷ xs) =
    ap (λ t. cond t 0 1 + distance (whiten (k + 1) ws) xs) (eqb_move w x (sequence (k % 511)))
    ∙ ap (λ n. cond (w == bit_xor x (sequence (k % 511))) 0 1 + n) (whiten_distance (k + 1) ws xs)

module _ (a : Code) (la : Lawful a) where
  pub whitened_lawful : Lawful (whitened a)
  whitened_lawful = record {
    width = la.width;
    some = la.some;
    few = la.few;
    sized = λ p v hp hv. length_whiten (p * a.chips) (a.word p v) ∙ la.sized p v hp hv;
    binary = λ p v i hp hv hi. let e = la.sized p v hp hv in whiten_binary (p * a.chips) (a.word p v) i (omega arith) (la.binary p v i hp hv hi);
    apart = λ p v u hp hv hu e.
        la.apart p v u hp hv hu
        (sym (whiten_twice (p * a.chips) (a.word p v)) ∙ ap (whiten (p * a.chips)) e ∙ whiten_twice (p * a.chips) (a.word p u));
  }
