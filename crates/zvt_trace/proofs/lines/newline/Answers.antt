use Rattle.std.proofs.Common.{ℕ, List, Option, None, Some}
use Rattle.std.specs.Prelude.{MatchOption}
use Rattle.memchr.specs.Find.{IsFirstByte}
use Rattle.zvt_trace.specs.Chunks.{EndsFirst, HasNoEnd}
use Rattle.zvt_trace.proofs.ChunkLemmas.{ends_first, no_end_in}
use Rattle.zvt_trace.proofs.LineLemmas.{newline, position-first}
use Rattle.zvt_trace.proofs.lines.newline.Goals as goal

pub returns-clause-place : goal.returns-clause-place
returns-clause-place c = position-first newline c.args.bytes.now c.memchr.result c.memchr.ensures

first : (text : List ℕ) (found : Option ℕ) → IsFirstByte newline text found → MatchOption found (HasNoEnd text) (EndsFirst text)
first text None nowhere = no_end_in text nowhere
first text (Some n) at = ends_first text n at.0 at.1

pub returns-clause-ends : goal.returns-clause-ends
returns-clause-ends c = first c.args.bytes.now c.memchr.result c.memchr.ensures
