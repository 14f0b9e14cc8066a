-- The words of a block, written one after the other.
-- Assumes nothing.
use Rattle.std.proofs.Common.{◌≡◌, ℕ, ◌+◌, ◌*◌, ◌/◌, ◌<◌, ◌≤◌, List, length, take, sym, ap, ◌∙◌, mul_comm, mul-add, arith}
use borrow.Rule.Slice.PartMut.{put_mid}
use Rattle.linecode.specs.Codes.{Code, Lawful}
use Rattle.codebits.specs.Bits.{number_at}
use Rattle.frames.specs.Sent.{block_groups, block_chips, group_value}
use Rattle.frames.proofs.Parts.{part_ends}
use Rattle.frames.proofs.Writes.{words_more}
use Rattle.frames.proofs.Widths.{whole_groups}
use Rattle.sender.specs.Sending.{State, sent_stream, block_words}

-- A line code tells its g bits and n chips to a group, and group j of a block is at hand.
module _ (k : Code) (l : Lawful k) (s : State) (g n j : ℕ) (is_g : g ≡ k.bits) (is_n : n ≡ k.chips) where
  -- the part of group j lies within a block's chips
  pub within : j < 176 / g → (room : ℕ) → room ≡ block_chips k → n * j + n ≤ room
  within h room is =
      let less : j < block_groups k = rw (← is_g) h in
      let ends = part_ends (block_groups k) k.chips j less in
      omega (arith, mul_comm n j, ap (λ (x : ℕ). j * x) is_n)

  -- the place of its first bit
  place : g * (s.block * block_groups k + j) ≡ 176 * s.block + g * j
  place =
      let whole = whole_groups s.block k.bits l.width in
      omega (arith, mul-add g (s.block * block_groups k) j, mul_comm g (s.block * block_groups k), ap (λ (x : ℕ). s.block * block_groups k * x) is_g)

  -- one word more
  pub block_word_more : (m : ℕ) (chips ys : List ℕ) (v : ℕ) → v ≡ number_at (sent_stream s) (176 * s.block + g * j) g
      → ys ≡ k.word (s.block * (176 / g) + j) v → length ys ≡ n → n * j + n ≤ length chips
      → take (n * j) chips ≡ block_words k s j → take (n * (j + 1)) (put_mid (n * j) m chips ys) ≡ block_words k s (j + 1)
  block_word_more m chips ys v is_v is long room before =
      let value : v ≡ group_value k (sent_stream s) (s.block * block_groups k + j)
      = is_v ∙ (ap (λ (x : ℕ). number_at (sent_stream s) x g) (sym place) ∙ ap (λ (x : ℕ). number_at (sent_stream s) (x * (s.block * block_groups k + j)) x) is_g) in
      let word : ys ≡ k.word (s.block * block_groups k + j) (group_value k (sent_stream s) (s.block * block_groups k + j))
      = is ∙ (ap (λ (x : ℕ). k.word (s.block * (176 / x) + j) v) is_g ∙ ap (k.word (s.block * block_groups k + j)) value) in
      words_more k (sent_stream s) (s.block * block_groups k) n chips j m ys word long room before
