-- The parts of a list of chips: in a longer list, and in words that follow one another.
-- Assumes nothing.
use Rattle.std.proofs.Common.{◌≡◌, ℕ, zero, suc, ◌+◌, ◌-◌, ◌*◌, ◌^◌, ◌<◌, ◌≤◌, Bool, List, [], ◌++◌, length, get_or, take, drop, sym, refl, ap, ◌∙◌, subst, ⊎_elim, append_assoc, append-nil, add-zero, add_assoc, add-suc, mul-le-mul_right, suc-mul, add-mul, zero-mul, add-one, arith, length-append, length-drop, length-take}
use lib.Seq.{drop-append-add}
use Rattle.std.proofs.lemmas.List.{take-append-le, take_at, drop_at, drop-append-le, get_or_append_left, get_or-append_right}
use Rattle.std.proofs.lemmas.Bool.{cases_lt}
use Rattle.linecode.specs.Codes.{Code, Lawful}
use Rattle.codebits.proofs.Numbers.{number_below}
use Rattle.linecode.specs.Chips.{part}
use Rattle.frames.specs.Sent.{group_value, spread_groups}

-- part j of m parts of n chips ends within them
pub part_ends : (m n j : ℕ) → j < m → j * n + n ≤ m * n
part_ends m n j h = let e = suc-mul j n in let le : suc j * n ≤ m * n = mul-le-mul_right n h in omega arith

pub part_length : (n : ℕ) (chips : List ℕ) (j : ℕ) → j * n + n ≤ length chips → length (part n chips j) ≡ n
part_length n chips j h = simp (length-take, length-drop) (omega arith)

-- chips that follow change no part
pub part_front : (n : ℕ) (front rest : List ℕ) (j : ℕ) → j * n + n ≤ length front → part n (front ++ rest) j ≡ part n front j
part_front n front rest j h =
    ap (take n) (drop-append-le (j * n) front rest (omega arith))
    ∙ take-append-le n (drop (j * n) front) rest (simp length-drop (omega arith))

-- after m whole parts the next ones begin
pub part_after : (n m : ℕ) (front rest : List ℕ) (j : ℕ) → length front ≡ m * n → part n (front ++ rest) (m + j) ≡ part n rest j
part_after n m front rest j long =
    let place : (m + j) * n ≡ length front + j * n = omega (arith, add-mul m j n) in
    ap (λ x. take n (drop x (front ++ rest))) place ∙ ap (take n) (drop-append-add front rest (j * n))

-- the part between a front and what follows
pub part_between : (n m : ℕ) (front mid rest : List ℕ) → length front ≡ m * n → length mid ≡ n → part n (front ++ (mid ++ rest)) m ≡ mid
part_between n m front mid rest long size = ap (take n) (drop_at front (mid ++ rest) (m * n) long) ∙ take_at mid rest n size

module _ (k : Code) (s : ℕ → Bool) where
  pub groups_more : (first n : ℕ) → spread_groups k s first (n + 1) ≡ spread_groups k s first n ++ k.word (first + n) (group_value k s (first + n))
  unfolding spread_groups
  groups_more first n = rw add-one refl

  pub groups_none : (first : ℕ) → spread_groups k s first 0 ≡ []
  unfolding spread_groups
  groups_none first = refl

  -- groups, and the groups that follow them
  pub groups_split : (first m n : ℕ) → spread_groups k s first (m + n) ≡ spread_groups k s first m ++ spread_groups k s (first + m) n
  unfolding spread_groups
  groups_split first m zero = ap (spread_groups k s first) (add-zero m) ∙ sym (append-nil _)
  groups_split first m (suc n) =
      let at = add_assoc first m n in
      let front = groups_split first m n in
      let word : k.word (first + (m + n)) (group_value k s (first + (m + n))) ≡ k.word (first + m + n) (group_value k s (first + m + n)) = ap (λ x. k.word x (group_value k s x)) (sym at) in
      ap (spread_groups k s first) (add-suc m n)
      ∙ (ap (λ xs. xs ++ k.word (first + (m + n)) (group_value k s (first + (m + n)))) front
      ∙ (append_assoc (spread_groups k s first m) (spread_groups k s (first + m) n) _ ∙ ap (λ xs. spread_groups k s first m ++ (spread_groups k s (first + m) n ++ xs)) word))

  pub word_length : Lawful k → (j : ℕ) → j < 2 ^ 32 → length (k.word j (group_value k s j)) ≡ k.chips
  word_length l j h = l.sized j (group_value k s j) h (number_below s (k.bits * j) k.bits)

  pub groups_length : Lawful k → (first n : ℕ) → first + n ≤ 2 ^ 32 → length (spread_groups k s first n) ≡ n * k.chips
  unfolding spread_groups
  groups_length l first zero h = sym (zero-mul k.chips)
  groups_length l first (suc n) h =
      simp length-append (omega (arith, groups_length l first n (omega arith), word_length l (first + n) (omega arith), suc-mul n k.chips))

  -- every chip is 0 or 1
  pub groups_binary : Lawful k → (first n : ℕ) → first + n ≤ 2 ^ 32 → (i : ℕ) → i < n * k.chips → get_or (spread_groups k s first n) i 0 < 2
  unfolding spread_groups
  groups_binary l first zero h i lt = absurd (omega (arith, zero-mul k.chips))
  groups_binary l first (suc n) h i lt =
      let front : List ℕ = spread_groups k s first n in
      let v : ℕ = group_value k s (first + n) in
      let long : length front ≡ n * k.chips = groups_length l first n (omega arith) in
      ⊎_elim
      (λ below. subst (λ (x : ℕ). x < 2) (sym (get_or_append_left front (k.word (first + n) v) 0 i (omega arith))) (groups_binary l first n (omega arith) i below))
      (λ top.
      subst (λ (x : ℕ). x < 2) (sym (get_or-append_right front (k.word (first + n) v) (n * k.chips) i 0 long top))
      (l.binary (first + n) v (i - n * k.chips) (omega arith) (number_below s (k.bits * (first + n)) k.bits) (omega (arith, suc-mul n k.chips))))
      (cases_lt i (n * k.chips))
