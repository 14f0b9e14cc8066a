use Rattle.codebits.proofs.Coding.{decoding_undoes}
use Rattle.codebits.proofs.decoding_undoes_coding.Goals as goal

pub returns : goal.returns
returns c = decoding_undoes
