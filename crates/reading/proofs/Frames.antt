-- A frame is read by its blocks.
-- Assumes nothing.
use Rattle.std.proofs.Common.{◌+◌, ◌*◌, ◌++◌, sym, refl, ap, ◌∙◌}
use Rattle.frames.specs.Sent.{block_groups}
use Rattle.frames.specs.Heard.{encoded_doubt, observed, doubtful}
use Rattle.frames.specs.Joined.{block_observed, block_doubtful, last_bit, last_doubt}
use Rattle.frames.proofs.Joins.{blocks_join}
use Rattle.costs.specs.Observed.{observation, doubt_of}
use Rattle.reading.specs.Frames.{frame_last, FrameReads}
use Rattle.reading.proofs.Blocks.{bit_of_lem, doubt_of_lem}

pub frame_reads : FrameReads
unfolding last_bit last_doubt
frame_reads = record {
  starts = λ f. refl;
  goes_on = λ f l b front block long.
      let k = f.code in
      let first = b * block_groups k in
      let joins = blocks_join f l b front block long in
      let d = f.differential in
      record {
        codes = λ j h.
            ap (λ x. observation (block_observed k d x first block j) (block_doubtful k d (doubt_of (frame_last f b front)) first block j)) (bit_of_lem (last_bit f b front) (last_doubt f b front))
            ∙ (ap (λ x. observation (block_observed k d (last_bit f b front) first block j) (block_doubtful k d x first block j)) (doubt_of_lem (last_bit f b front) (last_doubt f b front))
            ∙ (ap (λ x. observation x (block_doubtful k d (last_doubt f b front) first block j)) (sym (joins.next_observed j h))
            ∙ ap (observation (observed f (front ++ block) (176 * b + j))) (sym (joins.next_doubtful j h))));
        last = ap (λ x. observation x (encoded_doubt k first block 175)) (sym joins.next_last_bit) ∙ ap (observation (last_bit f (b + 1) (front ++ block))) (sym joins.next_last_doubt);
        earlier = λ j h. ap (λ x. observation x (doubtful f (front ++ block) j)) (joins.earlier j h).0 ∙ ap (observation (observed f front j)) (joins.earlier j h).1;
      };
}
