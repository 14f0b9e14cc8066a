-- Words that are written to a slice, one after the other.
-- Assumes nothing.
use Rattle.std.proofs.Common.{◌≡◌, ℕ, ◌+◌, ◌*◌, ◌^◌, ◌<◌, ◌≤◌, Bool, eqb, ltb, List, ◌++◌, length, take, sym, ap, ◌∙◌, mul-zero, mul-add, arith}
use borrow.Rule.Slice.PartMut.{put_mid}
use Rattle.std.proofs.lemmas.Bool.{eq-eqb, lt-ltb, cond-true}
use Rattle.std.proofs.lemmas.List.{take_all}
use Rattle.std.proofs.lemmas.Slice.{take-put_mid}
use Rattle.linecode.specs.Codes.{Code, spread_chips}
use Rattle.frames.specs.Sent.{group_value, spread_groups}
use Rattle.frames.proofs.Parts.{groups_none, groups_more}

-- what spreading leaves where its slice and its value are right
pub word_is : (k : Code) (p v : ℕ) (xs ys : List ℕ) → length xs ≡ k.chips → v < 2 ^ k.bits → ys ≡ spread_chips k p v xs → ys ≡ k.word p v
word_is k p v xs ys e h is =
    is ∙ (cond-true (eqb (length xs) k.chips) _ _ (eq-eqb (length xs) k.chips e) ∙ cond-true (ltb v (2 ^ k.bits)) _ _ (lt-ltb v (2 ^ k.bits) h))

-- j words of n chips are written, the first at position `first`
module _ (k : Code) (s : ℕ → Bool) (first n : ℕ) (chips : List ℕ) where
  pub words_none : take (n * 0) chips ≡ spread_groups k s first 0
  words_none = rw (mul-zero n) (sym (groups_none k s first))

  pub words_more : (j m : ℕ) (ys : List ℕ) → ys ≡ k.word (first + j) (group_value k s (first + j)) → length ys ≡ n → n * j + n ≤ length chips →
      take (n * j) chips ≡ spread_groups k s first j → take (n * (j + 1)) (put_mid (n * j) m chips ys) ≡ spread_groups k s first (j + 1)
  words_more j m ys is long room before =
      take-put_mid (n * j) m chips ys (n * (j + 1)) (omega (arith, mul-add n j 1)) (omega arith)
      ∙ (ap (λ (t : List ℕ). t ++ ys) before ∙ (ap (λ (t : List ℕ). spread_groups k s first j ++ t) is ∙ sym (groups_more k s first j)))

  pub words_all : (j : ℕ) → length chips ≤ n * j → take (n * j) chips ≡ spread_groups k s first j → chips ≡ spread_groups k s first j
  words_all j most written = sym (take_all (n * j) chips most) ∙ written
