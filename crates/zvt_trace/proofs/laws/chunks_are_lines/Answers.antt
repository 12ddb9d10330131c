use Rattle.zvt_trace.proofs.ChunkLaws.{chunks_are_lines}
use Rattle.zvt_trace.proofs.laws.chunks_are_lines.Goals as goal

pub returns : goal.returns
returns c = chunks_are_lines
