-- A table of the whitening sequence, tested whole, and one more chip whitened.
-- Assumes nothing.
use Rattle.std.proofs.Common.{◌≡◌, ℕ, zero, suc, ◌+◌, ◌%◌, ◌<◌, ◌≤◌, Bool, true, false, T, eqb, List, [], ◌∷◌, ◌++◌, length, get_or, take, drop, set, sym, refl, ap, ◌∙◌, le_of_suc-le-suc, not-suc-le-zero, add-zero, add_assoc, add-suc, suc-add, zero-add, arith}
use lib.Bits.{bit_xor}
use Rattle.std.proofs.lemmas.List.{take_more_set, drop_more, drop-set-lt, drop_all, append_assoc, append-nil}
use Rattle.std.proofs.lemmas.List as lists
use Rattle.std.proofs.lemmas.Bool.{eqb-true, and_parts}
use Rattle.layers.specs.Whitening.{after, register, sequence, whiten, follows, starts}

t_true : (b : Bool) → T b → b ≡ true
t_true true t = refl
t_true false t = absurd t

from : (k : ℕ) (ss : List ℕ) → follows (register k) ss ≡ true → (i : ℕ) → i < length ss → get_or ss i 0 ≡ sequence (k + i)
unfolding register
from k [] t i h = absurd (not-suc-le-zero h)
from k (s ∷ ss) t zero h =
    eqb-true s (after (register k)) (and_parts (eqb s (after (register k))) (follows (s ∷ take 8 (register k)) ss) t).0 ∙ ap sequence (sym (add-zero k))
from k (s ∷ ss) t (suc i) h =
    let both = and_parts (eqb s (after (register k))) (follows (s ∷ take 8 (register k)) ss) t in
    let here = eqb-true s (after (register k)) both.0 in
    from (suc k) ss (sym (ap (λ x. follows (x ∷ take 8 (register k)) ss) here) ∙ both.1) i (le_of_suc-le-suc h)
    ∙ ap sequence (suc-add k i ∙ sym (add-suc k i))

pub period_at : (ss : List ℕ) → T (starts ss) → (i : ℕ) → i < length ss → get_or ss i 0 ≡ sequence i
period_at ss t i h = from 0 ss (t_true _ t) i h ∙ ap sequence (zero-add i)

-- a loop that has whitened the first i chips whitens one more, by element s
pub whiten_more : (k i s : ℕ) (xs : List ℕ) → i < length xs → s ≡ sequence ((k + i) % 511) →
    take i xs ++ whiten (k + i) (drop i xs)
    ≡ take (i + 1) (set xs i (bit_xor (get_or xs i 0) s)) ++ whiten (k + (i + 1)) (drop (i + 1) (set xs i (bit_xor (get_or xs i 0) s)))
unfolding whiten
whiten_more k i s xs h is =
    let y = bit_xor (get_or xs i 0) s in
    ap (λ zs. take i xs ++ whiten (k + i) zs) (drop_more xs i 0 h)
    ∙ ap (λ u. take i xs ++ bit_xor (get_or xs i 0) u ∷ whiten (k + i + 1) (drop (i + 1) xs)) (sym is)
    ∙ sym (append_assoc (take i xs) (y ∷ []) (whiten (k + i + 1) (drop (i + 1) xs)))
    ∙ ap (λ zs. zs ++ whiten (k + i + 1) (drop (i + 1) xs)) (sym (take_more_set xs i y h))
    ∙ ap (λ zs. take (i + 1) (set xs i y) ++ whiten (k + i + 1) zs) (sym (drop-set-lt (i + 1) xs i y (omega arith)))
    ∙ ap (λ n. take (i + 1) (set xs i y) ++ whiten n (drop (i + 1) (set xs i y))) (add_assoc k i 1)

pub whiten_all : (k i : ℕ) (xs : List ℕ) → length xs ≤ i → take i xs ++ whiten (k + i) (drop i xs) ≡ xs
unfolding whiten
whiten_all k i xs h = ap (λ zs. take i xs ++ whiten (k + i) zs) (drop_all i xs h) ∙ append-nil (take i xs) ∙ lists.take_all i xs h
