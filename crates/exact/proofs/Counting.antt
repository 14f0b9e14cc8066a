-- Counting places in another order.
-- Assumes nothing.
use Rattle.std.proofs.Common.{◌≡◌, ℕ, zero, suc, ◌+◌, ◌-◌, ◌*◌, ◌/◌, ◌%◌, ◌<◌, Bool, false, sym, refl, ap, ◌∙◌, add-zero, add-suc, mul-zero, arith}
use native.Mathlib.Nat.{suc-sub-suc, sub-zero}
use Rattle.codebits.specs.Bits.{one, count}
use Rattle.codebits.specs.Interleaving.{moved_in, moved}
use Rattle.exact.specs.Touched.{MoveKeepsCount}

total : (ℕ → ℕ) → ℕ → ℕ
total f zero = 0
total f (suc n) = total f n + f n

count_total : (f : ℕ → Bool) (n : ℕ) → count f n ≡ total (λ k. one (f k)) n
unfolding count total
count_total f zero = refl
count_total f (suc n) = ap (λ x. x + one (f n)) (count_total f n)

total_same : (f g : ℕ → ℕ) (n : ℕ) → ((k : ℕ) → k < n → f k ≡ g k) → total f n ≡ total g n
unfolding total
total_same f g zero h = refl
total_same f g (suc n) h = omega (arith, total_same f g n (λ k l. h k (omega arith)), h n (omega arith))

total_add : (f g : ℕ → ℕ) (n : ℕ) → total (λ k. f k + g k) n ≡ total f n + total g n
unfolding total
total_add f g zero = refl
total_add f g (suc n) = omega (arith, total_add f g n)

-- from the front, and backwards
total_front : (f : ℕ → ℕ) (n : ℕ) → total f (suc n) ≡ f 0 + total (λ k. f (suc k)) n
unfolding total
total_front f zero = omega arith
total_front f (suc n) = omega (arith, total_front f n)

total_back : (f : ℕ → ℕ) (n : ℕ) → total (λ k. f (n - k)) (suc n) ≡ total f (suc n)
total_back f zero = unfold total in refl
total_back f (suc n) =
    total_front (λ k. f (suc n - k)) (suc n)
    ∙ (ap (λ x. f (suc n - 0) + x) (total_same (λ k. f (suc n - suc k)) (λ k. f (n - k)) (suc n) (λ k l. ap f (suc-sub-suc n k)) ∙ total_back f n)
    ∙ unfold total in rw (sub-zero (suc n)) (omega arith))

-- by rows of a places
total_split : (f : ℕ → ℕ) (n a : ℕ) → total f (n + a) ≡ total f n + total (λ r. f (n + r)) a
unfolding total
total_split f n zero = rw (add-zero n) (omega arith)
total_split f n (suc a) = rw (add-suc n a) (omega (arith, total_split f n a))

total_rows : (f : ℕ → ℕ) (a b : ℕ) → total f (a * b) ≡ total (λ q. total (λ r. f (a * q + r)) a) b
unfolding total
total_rows f a zero = rw (mul-zero a)
total_rows f a (suc b) =
    let next : a * suc b ≡ a * b + a = omega arith in
    rw (next, total_split f (a * b) a) (ap (λ x. x + total (λ r. f (a * b + r)) a) (total_rows f a b))

total_zero : (n : ℕ) → total (λ k. 0) n ≡ 0
unfolding total
total_zero zero = refl
total_zero (suc n) = omega (arith, total_zero n)

-- rows for columns
total_swap : (g : ℕ → ℕ → ℕ) (a b : ℕ) → total (λ q. total (λ r. g q r) a) b ≡ total (λ r. total (λ q. g q r) b) a
unfolding total
total_swap g a zero = sym (total_zero a)
total_swap g a (suc b) =
    ap (λ x. x + total (λ r. g b r) a) (total_swap g a b) ∙ sym (total_add (λ r. total (λ q. g q r) b) (λ r. g b r) a)

-- the move within a block
move_block : (u : ℕ → ℕ) → total (λ k. u (moved_in k)) 176 ≡ total u 176
unfolding moved_in
move_block u =
    total_back (λ t. u (16 * (t % 11) + t / 11)) 175
    ∙ (total_rows (λ t. u (16 * (t % 11) + t / 11)) 11 16
    ∙ (total_same _ (λ q. total (λ r. u (16 * r + q)) 11) 16 (λ q lq. total_same _ (λ r. u (16 * r + q)) 11 (λ r lr. ap u (place q r lr)))
    ∙ (total_swap (λ q r. u (16 * r + q)) 11 16 ∙ sym (total_rows u 16 11))))
  where
    place : (q r : ℕ) → r < 11 → 16 * ((11 * q + r) % 11) + (11 * q + r) / 11 ≡ 16 * r + q
    place q r h = omega arith

pub move_keeps_count : MoveKeepsCount
unfolding moved
move_keeps_count t n =
    count_total (λ j. t (moved j)) (176 * n)
    ∙ (total_rows (λ j. one (t (moved j))) 176 n
    ∙ (total_same _ (λ b. total (λ k. one (t (176 * b + k))) 176) n
    (λ b lb.
    total_same (λ k. one (t (moved (176 * b + k)))) (λ k. one (t (176 * b + moved_in k))) 176 (λ k lk. ap (λ x. one (t x)) (in_block b k lk))
    ∙ move_block (λ k. one (t (176 * b + k))))
    ∙ (sym (total_rows (λ j. one (t j)) 176 n) ∙ sym (count_total t (176 * n)))))
  where
    in_block : (b k : ℕ) → k < 176 → moved (176 * b + k) ≡ 176 * b + moved_in k
    in_block b k h =
        let row : (176 * b + k) / 176 ≡ b = omega arith in
        let col : (176 * b + k) % 176 ≡ k = omega arith in
        rw (row, col)

pub count_none : (n : ℕ) → count (λ j. false) n ≡ 0
unfolding count
count_none zero = refl
count_none (suc n) = omega (arith, count_none n)
