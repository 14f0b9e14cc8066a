-- A block is a whole number of groups, of 1, 2, 4 or 8 bits each.
-- Assumes nothing.
use Rattle.std.proofs.Common.{◌≡◌, ℕ, ◌+◌, ◌*◌, ◌/◌, ◌%◌, ◌<◌, ◌≤◌, sym, subst, ⊎_elim, arith}
use Rattle.linecode.specs.Codes.{Lawful, Width}
use Rattle.codebits.specs.Message.{blocks}
use Rattle.frames.specs.Sent.{Frame, groups}

pub by_width : (P : ℕ → Type 0) → P 1 → P 2 → P 4 → P 8 → (g : ℕ) → Width g → P g
by_width P p1 p2 p4 p8 g =
    ⊎_elim (λ e. subst P (sym e) p1) (⊎_elim (λ e. subst P (sym e) p2) (⊎_elim (λ e. subst P (sym e) p4) (λ e. subst P (sym e) p8)))

pub some_bits : (g : ℕ) → Width g → 0 < g
some_bits = by_width (λ g. 0 < g) (omega arith) (omega arith) (omega arith) (omega arith)

pub few_bits : (g : ℕ) → Width g → g ≤ 8
few_bits = by_width (λ g. g ≤ 8) (omega arith) (omega arith) (omega arith) (omega arith)

-- b blocks have all their bits in groups
pub whole_groups : (b g : ℕ) → Width g → b * (176 / g) * g ≡ 176 * b
whole_groups b = by_width (λ g. b * (176 / g) * g ≡ 176 * b) (omega arith) (omega arith) (omega arith) (omega arith)

pub few_groups : (b g : ℕ) → Width g → b * (176 / g) ≤ 176 * b
few_groups b = by_width (λ g. b * (176 / g) ≤ 176 * b) (omega arith) (omega arith) (omega arith) (omega arith)

-- the group and the bit of a place after b blocks
pub place_group : (b i g : ℕ) → Width g → (176 * b + i) / g ≡ b * (176 / g) + i / g
place_group b i = by_width (λ g. (176 * b + i) / g ≡ b * (176 / g) + i / g) (omega arith) (omega arith) (omega arith) (omega arith)

pub place_bit : (b i g : ℕ) → Width g → (176 * b + i) % g ≡ i % g
place_bit b i = by_width (λ g. (176 * b + i) % g ≡ i % g) (omega arith) (omega arith) (omega arith) (omega arith)

-- a frame has few groups
pub groups_few : (f : Frame) → Lawful f.code → f.octets ≤ 2047 → groups f ≤ 32912
groups_few f l h = omega (arith, few_groups (blocks f.octets) f.code.bits l.width)
