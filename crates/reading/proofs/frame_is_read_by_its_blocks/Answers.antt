use Rattle.reading.proofs.Frames.{frame_reads}
use Rattle.reading.proofs.frame_is_read_by_its_blocks.Goals as goal

pub returns : goal.returns
returns c = frame_reads
