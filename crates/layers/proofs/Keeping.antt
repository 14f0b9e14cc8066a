-- The layers keep the least distance.
-- Assumes nothing.
use Rattle.std.proofs.Common.{◌≡◌, ℕ, ◌*◌, ◌%◌, true, cond, not, ◌||◌, List, sym, refl, ap, ◌∙◌, arith}
use Rattle.std.proofs.lemmas.Bool.{eq-eqb, ne_eqb}
use Rattle.linecode.specs.Codes.{Code, distance, least_distance}
use Rattle.linecode.proofs.Least.{distance_same, words_same}
use Rattle.layers.specs.Whitening.{whiten, whitened}
use Rattle.layers.specs.WhiteningLaws.{whiten_distance, whiten_twice}
use Rattle.layers.specs.Layers.{alike, in_use, alternating, LayersKeepDistance}
use Rattle.layers.specs.LayerLaws.{in_use_make}

whiten_both : (k : ℕ) (xs ys : List ℕ) → distance (whiten k xs) (whiten k ys) ≡ distance xs ys
whiten_both k xs ys = whiten_distance k xs (whiten k ys) ∙ ap (distance xs) (whiten_twice k ys)

-- an alternation has the least distance of the code in use
in_use_distance : (a b : Code) (p : ℕ) → least_distance (alternating a b) p ≡ least_distance (in_use a b p) p
in_use_distance a b p = words_same (alternating a b) (in_use a b p) p (sym (in_use_make a b p).bits) (λ v. refl)

even_use : (a b : Code) (p : ℕ) → p % 2 ≡ 0 → in_use a b p ≡ a
even_use a b p h = ap (λ e. cond (e || not (alike a b)) a b) (eq-eqb (p % 2) 0 h)

odd_use : (a b : Code) (p : ℕ) → alike a b ≡ true → p % 2 ≡ 1 → in_use a b p ≡ b
odd_use a b p t h = ap (λ e. cond (e || not (alike a b)) a b) (ne_eqb (p % 2) 0 (λ z. omega arith)) ∙ ap (λ s. cond (not s) a b) t

pub layers_keep_distance : LayersKeepDistance
layers_keep_distance = record {
  by_whitening = λ k p. distance_same (whitened k) k p refl (λ v w. whiten_both (p * k.chips) (k.word p v) (k.word p w));
  at_even = λ a b p h. in_use_distance a b p ∙ ap (λ k. least_distance k p) (even_use a b p h);
  at_odd = λ a b p t h. in_use_distance a b p ∙ ap (λ k. least_distance k p) (odd_use a b p t h);
}
