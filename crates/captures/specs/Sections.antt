-- The sections of a capture: what each holds, what follows it, and how it is refused.
-- Assumes nothing.
use Rattle.std.specs.Prelude.{ℕ, ◌+◌, ◌*◌, cond, ◌&&◌, List, [], ◌∷◌, length, take, drop, Some, None, Ok, Err, Option, Result, ◌==◌, nat_le, slice_index}
use Rattle.std.specs.Borrow.{Bor}
use Rattle.faults.specs.declared.Fault.{Fault}
use Rattle.faults.specs.declared.FaultKind.{FaultKind}
use Rattle.faults.specs.declared.FaultKind.TheVariants.{Settings as WrongSettings, Section}
use Rattle.faults.specs.declared.Layer.TheVariants.{Bench}
use Rattle.faults.specs.Refusals.{fault}
use Rattle.captures.specs.declared.settings.Settings.{Settings}
use Rattle.captures.specs.Letters.{band_of, choice_of}

-- the bench refuses
abbrev pub refuse : {X : Type 0} → FaultKind → ℕ → Result X Fault
refuse kind place = Err (fault kind place Bench)

-- what a first part gives is handed to the next, unless it is refused
abbrev pub bind : {X Y : Type 0} → Result X Fault → (X → Result Y Fault) → Result Y Fault
bind (Ok x) next = next x
bind (Err f) next = Err f

-- what an octet of section 1 stands for, with the octets after it; one that stands for nothing is wrong, by its place
abbrev pub stands_for : {X : Type 0} → Option X → ℕ → List ℕ → Result (X × List ℕ) Fault
stands_for None place rest = refuse WrongSettings place
stands_for (Some x) place rest = Ok (x, rest)

-- the octet at a place of section 1, by what it may stand for
abbrev pub octet_by : {X : Type 0} → (ℕ → Option X) → ℕ → List ℕ → Result (X × List ℕ) Fault
octet_by f place [] = refuse Section 1
octet_by f place (c ∷ cs) = stands_for (f c) place cs

-- the octet v at a place of section 1
abbrev pub exactly : ℕ → ℕ → List ℕ → Result (List ℕ) Fault
exactly v place [] = refuse Section 1
exactly v place (c ∷ cs) = cond (c == v) (Ok cs) (refuse WrongSettings place)

-- the count 2, least octet first
abbrev pub count_two : List ℕ → Result (List ℕ) Fault
count_two bs = bind (exactly 2 0 bs) (λ bs1. bind (exactly 0 1 bs1) (λ bs2. bind (exactly 0 2 bs2) (λ bs3. exactly 0 3 bs3)))

-- section 1: the count 2, and the two letters
abbrev pub settings_of : List ℕ → Result (Settings × List ℕ) Fault
settings_of bs = bind (count_two bs) (λ bs4. bind (octet_by band_of 4 bs4) (λ b. bind (octet_by choice_of 5 b.1) (λ k. Ok (record { band = b.0; cost = k.0 }, k.1))))

-- a count in four octets, least first
abbrev pub count_of : List ℕ → ℕ
count_of bs = slice_index bs 0 + slice_index bs 1 * 256 + slice_index bs 2 * 65536 + slice_index bs 3 * 16777216

-- what follows the count of a later section, by its number, which needs n octets
abbrev pub section_start : ℕ → ℕ → List ℕ → Result (List ℕ) Fault
section_start number n bs = cond (nat_le 4 (length bs) && count_of bs == n) (Ok (drop 4 bs)) (refuse Section number)

-- the n octets of a section that is there whole, and what follows
abbrev pub whole_of : ℕ → ℕ → List ℕ → Result (List ℕ × List ℕ) Fault
whole_of number n rest = cond (nat_le n (length rest)) (Ok (take n rest, drop n rest)) (refuse Section number)

abbrev pub section_of : ℕ → ℕ → List ℕ → Result (List ℕ × List ℕ) Fault
section_of number n bs = bind (section_start number n bs) (whole_of number n)

-- what a result's references point to
abbrev pub seen : {X : Type 0} → Result (X × Bor (List ℕ)) Fault → Result (X × List ℕ) Fault
seen (Ok p) = Ok (p.0, p.1.now)
seen (Err f) = Err f

abbrev pub seen_rest : Result (Bor (List ℕ)) Fault → Result (List ℕ) Fault
seen_rest (Ok x) = Ok x.now
seen_rest (Err f) = Err f

abbrev pub seen_both : Result (Bor (List ℕ) × Bor (List ℕ)) Fault → Result (List ℕ × List ℕ) Fault
seen_both (Ok p) = Ok (p.0.now, p.1.now)
seen_both (Err f) = Err f
