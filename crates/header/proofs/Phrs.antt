-- The PHR of a mode and a length is read as that mode and length.
-- Assumes nothing.
use Rattle.std.proofs.Common.{◌≡◌, ℕ, zero, suc, ◌+◌, ◌/◌, ◌%◌, ◌^◌, ◌<◌, ◌≤◌, Bool, true, false, eqb, ltb, Ok, sym, refl, ap, ◌∙◌, arith, lit≤}
use Rattle.std.proofs.lemmas.Nat.{shr-shr}
use Rattle.std.proofs.lemmas.Bool.{cond-true, cond-false, le-ltb, leb-true, and_parts}
use Rattle.codebits.specs.Bits.{◌⊕◌, one, bit_at}
use Rattle.codebits.proofs.Numbers.{one_small, eqb_one}
use Rattle.bands.specs.declared.band.Band.{Band}
use Rattle.bands.specs.declared.band.RateMode.{RateMode}
use Rattle.bands.specs.declared.band.RateMode.TheVariants.{Mode0, Mode1, Mode2, Mode3}
use Rattle.bands.specs.Numbers.{mode_number}
use Rattle.header.specs.Phr.{has_mode, sum_from, low_parity, high_parity, mode_numbered, mode_of, length_of, judged_fields, read_phr, phr_body, phr}
use Rattle.codebits.specs.Message.{is_length}

few_modes : (m : RateMode) → mode_number m ≤ 3
few_modes Mode0 = lit≤ tt
few_modes Mode1 = lit≤ tt
few_modes Mode2 = lit≤ tt
few_modes Mode3 = lit≤ tt

pub numbered_back : (m : RateMode) → mode_numbered (mode_number m) ≡ m
numbered_back Mode0 = refl
numbered_back Mode1 = refl
numbered_back Mode2 = refl
numbered_back Mode3 = refl

xor_same : (a : Bool) → a ⊕ a ≡ false
xor_same true = refl
xor_same false = refl

-- numbers with the same bits from bit 2 on have the same sums of them
bit_same : (w v : ℕ) → w / 4 ≡ v / 4 → (j : ℕ) → bit_at w (2 + j) ≡ bit_at v (2 + j)
bit_same w v e j = ap (λ (x : ℕ). eqb (x % 2) 1) (sym (shr-shr w 2 j) ∙ (ap (λ (x : ℕ). x / 2 ^ j) e ∙ shr-shr v 2 j))

sum_same : (w v : ℕ) → w / 4 ≡ v / 4 → (i n : ℕ) → sum_from w (2 + i) n ≡ sum_from v (2 + i) n
unfolding sum_from
sum_same w v e i zero = refl
sum_same w v e i (suc n) =
    let front = sum_same w v e i n in
    let at : 2 + (i + n) ≡ 2 + i + n = omega arith in
    let bit : bit_at w (2 + i + n) ≡ bit_at v (2 + i + n) = ap (bit_at w) (sym at) ∙ (bit_same w v e (i + n) ∙ ap (bit_at v) at) in
    cc

module _ (m : RateMode) (l : ℕ) where
  same_front : phr m l / 4 ≡ phr_body m l / 4
  same_front = omega (arith, one_small (low_parity (phr_body m l)), one_small (high_parity (phr_body m l)))

  low_bit : bit_at (phr m l) 0 ≡ low_parity (phr_body m l)
  low_bit =
      let e : phr m l / 2 ^ 0 % 2 ≡ one (low_parity (phr_body m l)) = omega (arith, one_small (low_parity (phr_body m l))) in
      ap (λ (x : ℕ). eqb x 1) e ∙ eqb_one (low_parity (phr_body m l))

  high_bit : bit_at (phr m l) 1 ≡ high_parity (phr_body m l)
  high_bit =
      let e : phr m l / 2 ^ 1 % 2 ≡ one (high_parity (phr_body m l)) = omega (arith, one_small (low_parity (phr_body m l)), one_small (high_parity (phr_body m l))) in
      ap (λ (x : ℕ). eqb x 1) e ∙ eqb_one (high_parity (phr_body m l))

  mode_back : mode_of (phr m l) ≡ m
  mode_back = let e : phr m l / 4 % 4 ≡ mode_number m = omega (arith, same_front, few_modes m) in ap mode_numbered e ∙ numbered_back m

  length_back : length_of (phr m l) ≡ l
  length_back = omega (arith, few_modes m, one_small (low_parity (phr_body m l)), one_small (high_parity (phr_body m l)))

pub phr_back : (b : Band) (m : RateMode) (l : ℕ) → has_mode b m ≡ true → is_length l ≡ true → read_phr b (phr m l) ≡ Ok (m, l)
phr_back b m l known fits =
    let low : bit_at (phr m l) 0 ⊕ low_parity (phr m l) ≡ false = ap (λ x. x ⊕ low_parity (phr m l)) (low_bit m l ∙ sym (sum_same (phr m l) (phr_body m l) (same_front m l) 0 7)) ∙ xor_same (low_parity (phr m l)) in
    let high : bit_at (phr m l) 1 ⊕ high_parity (phr m l) ≡ false = ap (λ x. x ⊕ high_parity (phr m l)) (high_bit m l ∙ sym (sum_same (phr m l) (phr_body m l) (same_front m l) 7 7)) ∙ xor_same (high_parity (phr m l)) in
    let long : ltb l 4 ≡ false = le-ltb l 4 (leb-true 4 l (and_parts _ _ fits).0) in
    cond-false _ _ _ low
    ∙ (cond-false _ _ _ high
    ∙ (ap (λ x. judged_fields b x (length_of (phr m l))) (mode_back m l)
    ∙ (ap (judged_fields b m) (length_back m l) ∙ (cond-true _ _ _ known ∙ cond-false _ _ _ long))))

-- and it has two octets
pub phr_small : (m : RateMode) (l : ℕ) → is_length l ≡ true → phr m l < 65536
phr_small m l fits = omega (arith, few_modes m, leb-true l 2047 (and_parts _ _ fits).1, one_small (low_parity (phr_body m l)), one_small (high_parity (phr_body m l)))
