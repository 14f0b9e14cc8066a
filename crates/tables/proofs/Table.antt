-- The words of a table as its digits hold them.
-- Assumes nothing.
use Rattle.std.proofs.Common.{◌≡◌, ℕ, ◌^◌, ◌<◌, List, [], length, get_or, ap, ◌∙◌, arith}
use Rattle.linecode.specs.Chips.{word_of, part}
use Rattle.tables.specs.Codes.{words, group_bits, word_chips, row}
use Rattle.tables.specs.CodeLaws.{tables_sound}
use Rattle.tables.specs.TableLaws.{Sound, sound, word_length}
use Rattle.tables.specs.declared.code.TableCode.{TableCode}
use Rattle.tables.proofs.Parts.{part_row, part_chips}

module _ (t : TableCode) where
  pub facts : Sound (group_bits t) (word_chips t) (words t)
  facts = sound (group_bits t) (word_chips t) (words t) (tables_sound t)

  pub long : (v : ℕ) → v < length (words t) → length (get_or (words t) v []) ≡ word_chips t
  long = word_length (group_bits t) (word_chips t) (words t) (tables_sound t)

  pub word_at : (digits : List ℕ) → word_of digits ≡ row (words t) → (v : ℕ) → v < 2 ^ group_bits t → word_of (part (word_chips t) digits v) ≡ get_or (words t) v []
  word_at digits is v h =
      let count = facts.count in
      part_chips (word_chips t) digits v ∙ (ap (λ xs. part (word_chips t) xs v) is ∙ part_row (word_chips t) (words t) long v (omega arith))
