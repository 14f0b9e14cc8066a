-- Two halves make the step and its word.
use Rattle.std.proofs.Common.{arith}
use Rattle.nearest.specs.Trellis.{takes, stepped}
use Rattle.trellis.specs.Memory.{cost_in}
use Rattle.trellis.proofs.Banks.{written_join, written_all}
use Rattle.trellis.proofs.Numbered.{word_halves}
use Rattle.trellis.proofs.butterfly.step.Goals as goal

pub returns : goal.returns
returns g c =
    let kind = g.K.CostKind.kind in
    let section = c.args.section in
    let cost = stepped kind section.first section.second section.free (cost_in kind c.args.from.now 0) in
    let took = takes kind section.first section.second section.free (cost_in kind c.args.from.now 0) in
    record {
      memory = written_all kind.nothing cost c.args.to.now c.half-high.new.to (omega arith)
          (written_join kind.nothing cost 32 64 c.args.to.now c.half-low.new.to c.half-high.new.to (omega arith) c.half-low.ensures.memory c.half-high.ensures.memory);
      answer = word_halves took c.half-low.result c.half-high.result _ c.half-low.ensures.answer c.half-high.ensures.answer (omega arith);
    }
