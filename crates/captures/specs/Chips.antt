-- Section 3, which is judged block by block, each once it is there whole.
-- Assumes nothing.
use Rattle.std.specs.Prelude.{◌≡◌, ℕ, ◌+◌, ◌*◌, ◌/◌, ◌%◌, cond, List, length, take, Ok, Err, Result, ◌==◌, nat_le}
use Rattle.std.specs.List.{prefix_len}
use Rattle.faults.specs.declared.Fault.{Fault}
use Rattle.faults.specs.declared.FaultKind.TheVariants.{ChipValue, Section}
use Rattle.faults.specs.declared.Layer.TheVariants.{Frame}
use Rattle.faults.specs.Refusals.{fault}
use Rattle.linecode.specs.Chips.{is_chip}
use Rattle.captures.specs.Sections.{refuse}

-- how many of the octets of n blocks, each of `size` octets, are chips before the first that is none, or before the end of input
unfoldable pub good_chips : ℕ → ℕ → List ℕ → ℕ
good_chips size n octets = prefix_len is_chip (take (n * size) octets)

-- all of the first n blocks are good
abbrev pub Good : ℕ → ℕ → List ℕ → Type 0
Good size n octets = good_chips size n octets ≡ n * size

-- The chips of n blocks. Where the good ones end too early, either the block that they end in is there whole, and the next octet is a bad chip, by its place in the block, or the input ends inside the section.
unfoldable pub blocks_of : ℕ → ℕ → List ℕ → Result (List ℕ) Fault
blocks_of size n octets =
    let good = good_chips size n octets in
    cond (good == n * size) (Ok (take (n * size) octets))
    (cond (nat_le ((good / size + 1) * size) (length octets)) (Err (fault ChipValue (good % size) Frame)) (refuse Section 3))
