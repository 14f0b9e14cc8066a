-- Counting touched places: by groups, and a place beside the one before it.
-- Assumes nothing.
use Rattle.std.proofs.Common.{◌≡◌, ℕ, zero, suc, ◌+◌, ◌*◌, ◌/◌, ◌<◌, ◌≤◌, Bool, true, false, ◌||◌, refl, ap, ◌∙◌, add-zero, add-suc, add-mul, mul-zero, zero-mul, arith, lit≤}
use Rattle.std.proofs.lemmas.Nat.{div-mul-add}
use Rattle.codebits.specs.Bits.{one, count, previous}

count_split : (f : ℕ → Bool) (n a : ℕ) → count f (n + a) ≡ count f n + count (λ r. f (n + r)) a
unfolding count
count_split f n zero = rw (add-zero n) (omega arith)
count_split f n (suc a) = rw (add-suc n a) (omega (arith, count_split f n a))

count_constant : (f : ℕ → Bool) (b : Bool) (n : ℕ) → ((k : ℕ) → k < n → f k ≡ b) → count f n ≡ one b * n
unfolding count
count_constant f b zero h = rw (mul-zero (one b)) refl
count_constant f b (suc n) h = omega (arith, count_constant f b n (λ k l. h k (omega arith)), ap one (h n (omega arith)))

count_more : (t : ℕ → Bool) (n : ℕ) → count t (suc n) ≡ count t n + one (t n)
unfolding count
count_more t n = refl

pub count_none : (f : ℕ → Bool) (n : ℕ) → ((k : ℕ) → k < n → f k ≡ false) → count f n ≡ 0
count_none f n h = count_constant f false n h ∙ zero-mul n

-- every place of a passing group passes
pub count_groups : (t : ℕ → Bool) (g n : ℕ) → count (λ i. t (i / g)) (n * g) ≡ count t n * g
count_groups t g zero = unfold count in rw (zero-mul g) refl
count_groups t g (suc n) =
    let rest : count (λ r. t ((n * g + r) / g)) g ≡ one (t n) * g = count_constant (λ r. t ((n * g + r) / g)) (t n) g (λ r h. ap t (div-mul-add n g r h)) in
    let next : suc n * g ≡ n * g + g = omega arith in
    let split = count_split (λ i. t (i / g)) (n * g) g in
    let front = count_groups t g n in
    rw (next, count_more t n, add-mul (count t n) (one (t n)) g) (omega arith)

count_previous : (t : ℕ → Bool) (n : ℕ) → count (previous false t) (suc n) ≡ count t n
unfolding count
count_previous t zero = refl
count_previous t (suc n) = ap (λ x. x + one (t n)) (count_previous t n)

one_or : (a b : Bool) → one (a || b) ≤ one a + one b
one_or true b = omega arith
one_or false b = omega arith

count_or : (s t : ℕ → Bool) (n : ℕ) → count (λ i. s i || t i) n ≤ count s n + count t n
unfolding count
count_or s t zero = lit≤ tt
count_or s t (suc n) = omega (arith, count_or s t n, one_or (s n) (t n))

-- a place passes or the one before it does: at most twice as many
pub count_twice : (t : ℕ → Bool) (n : ℕ) → count (λ i. t i || previous false t i) n ≤ 2 * count t n
count_twice t zero = unfold count in lit≤ tt
count_twice t (suc n) =
    let both = count_or t (previous false t) (suc n) in
    let shifted = count_previous t n in
    omega (arith, count_more t n)
