use Rattle.std.proofs.Common.{refl, length-take}
use Rattle.reading.proofs.Blocks.{room_of, read_answer_lem, read_after_lem}
use Rattle.reading.proofs.read_block.Goals as goal

pub returns : goal.returns
returns g c =
    let line = c.args.line.now in
    let k = g.L.LineCode.code line in
    let lawful = g.L.LineCode.lawful line in
    let bits = c.bits_per_group-bits.result in
    record {
      answer = read_answer_lem k lawful bits c.args.block c.args.chips.now _ c.despread_groups.new.values c.despread_groups.result _
          c.bits_per_group-bits.ensures c.in_ok-despread_groups.was c.despread_groups.ensures.memory (simp length-take (room_of bits 176 refl))
          c.encoded.result c.despread_groups.ensures.answer c.encoded.ensures;
      memory = read_after_lem k lawful bits c.args.block c.args.chips.now _ c.despread_groups.new.values c.despread_groups.result _
          c.bits_per_group-bits.ensures c.in_ok-despread_groups.was c.despread_groups.ensures.memory (simp length-take (room_of bits 176 refl))
          c.encoded.result c.args.last c.args.differential c.decode.new.observed c.args.observed.now c.decode.ensures;
    }
