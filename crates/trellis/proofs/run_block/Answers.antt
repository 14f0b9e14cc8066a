-- The words of the block's steps stand at the block's places.
use Rattle.std.proofs.Common.{◌≡◌, ◌+◌, ◌-◌, ◌*◌, ◌++◌, take, ap, arith}
use Rattle.std.proofs.lemmas.List.{drop-drop}
use Rattle.trellis.specs.Block.{start_of, block_words, words_after}
use Rattle.trellis.specs.Memory.{observed_at}
use Rattle.trellis.proofs.run_block.Goals as goal

pub returns : goal.returns
unfolding words_after
returns g c =
    let first = 88 * c.args.block in
    let eighty_eight : first + 88 - first ≡ 88 = omega arith in
    record {
      memory = (
        c.run.ensures.costs,
        rw (c.run.ensures.words, eighty_eight)
            (ap (λ l. take first c.args.words.now ++ (block_words g.K.CostKind.kind (observed_at c.args.observed.now) (8 * c.args.octets) first (start_of g.K.CostKind.kind c.args.block c.args.costs.now) ++ l)) (drop-drop 88 first c.args.words.now)),
      );
    }
