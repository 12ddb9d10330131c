use Rattle.std.proofs.Common.{ℕ, List, Option, None, Some}
use Rattle.std.specs.Prelude.{MatchOption}
use Rattle.memchr.specs.Find.{IsLastByte}
use Rattle.zvt_trace.specs.Chunks.{EndsAt, HasNoEnd}
use Rattle.zvt_trace.proofs.ChunkLemmas.{ends_at, no_end_in}
use Rattle.zvt_trace.proofs.LineLemmas.{newline}
use Rattle.zvt_trace.proofs.lines.last_newline.Goals as goal

last : (text : List ℕ) (found : Option ℕ) → IsLastByte newline text found → MatchOption found (HasNoEnd text) (EndsAt text)
last text None nowhere = no_end_in text nowhere
last text (Some n) at = ends_at text n at.0 at.1

pub returns : goal.returns
returns c = last c.args.bytes.now c.memrchr.result c.memrchr.ensures
