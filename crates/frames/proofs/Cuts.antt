-- The chips of a PSDU, cut into groups and into blocks.
-- Assumes nothing.
use Rattle.std.proofs.Common.{◌≡◌, ℕ, ◌+◌, ◌-◌, ◌*◌, ◌^◌, ◌<◌, ◌≤◌, Bool, ◌++◌, sym, ap, ◌∙◌, add-zero, mul_assoc, one-mul, zero-add, mul-one, arith}
use Rattle.linecode.specs.Codes.{Code, Lawful}
use Rattle.codebits.specs.Message.{blocks}
use Rattle.linecode.specs.Chips.{part}
use Rattle.frames.specs.Sent.{psdu_bit, group_value, spread_groups, block_groups, groups, group_chips, SentCut}
use Rattle.frames.proofs.Widths.{groups_few}
use Rattle.frames.proofs.Parts.{part_between, part_ends, groups_more, groups_split, groups_length}

module _ (k : Code) (l : Lawful k) (s : ℕ → Bool) where
  -- a run of n groups inside of m: its chips are a part
  run_part : (b n m : ℕ) → m ≤ 2 ^ 32 → b * n + n ≤ m → part (n * k.chips) (spread_groups k s 0 m) b ≡ spread_groups k s (b * n) n
  run_part b n m few within =
      let rest : ℕ = m - (b * n + n) in
      let front = spread_groups k s 0 (b * n) in
      let mid = spread_groups k s (b * n) n in
      let cut : spread_groups k s 0 m ≡ front ++ (mid ++ spread_groups k s (b * n + n) rest)
      = ap (spread_groups k s 0) (omega arith)
      ∙ (groups_split k s 0 (b * n) (n + rest)
      ∙ (ap (λ x. front ++ spread_groups k s x (n + rest)) (zero-add (b * n)) ∙ ap (λ xs. front ++ xs) (groups_split k s (b * n) n rest))) in
      ap (λ xs. part (n * k.chips) xs b) cut
      ∙ part_between (n * k.chips) b front mid _ (groups_length k s l 0 (b * n) (omega arith) ∙ mul_assoc b n k.chips) (groups_length k s l (b * n) n (omega arith))

  -- one group
  one_group : (j : ℕ) → spread_groups k s j 1 ≡ k.word j (group_value k s j)
  unfolding spread_groups
  one_group j = groups_more k s j 0 ∙ ap (λ x. k.word x (group_value k s x)) (add-zero j)

  pub group_part : (j m : ℕ) → m ≤ 2 ^ 32 → j < m → group_chips k (spread_groups k s 0 m) j ≡ k.word j (group_value k s j)
  group_part j m few h =
      ap (λ n. part n (spread_groups k s 0 m) j) (sym (one-mul k.chips))
      ∙ (run_part j 1 m few (omega arith) ∙ (ap (λ x. spread_groups k s x 1) (mul-one j) ∙ one_group j))

pub sent_cut : SentCut
sent_cut = record {
  whole = λ f q l few. let room = groups_few f l few in groups_length f.code (psdu_bit f q) l 0 (groups f) (omega arith);
  group = λ f q l few j h. let room = groups_few f l few in group_part f.code l (psdu_bit f q) j (groups f) (omega arith) h;
  block = λ f q l few b h.
      let room = groups_few f l few in
      run_part f.code l (psdu_bit f q) b (block_groups f.code) (groups f) (omega arith) (part_ends (blocks f.octets) (block_groups f.code) b h);
}
