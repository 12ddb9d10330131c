use Rattle.std.proofs.Common.{◌≡◌, ◌+◌, ◌≤◌, length}
use Rattle.zvt_tool.proofs.LineLemmas.{SoFar}
use Rattle.zvt_tool.proofs.vector_check.check.check_lines.Given as goal

abbrev pub invariant-lines : goal.invariant-lines
invariant-lines g l = record {
  so_far : SoFar l.form l.text l.rest l.number (record { messages = l.messages; bad = l.bad }) (g.W.Sink.written l.initial.writer) (g.W.Sink.written l.writer);
  lines : l.number + length l.rest ≤ length l.text;
  messages : l.messages ≤ l.number;
  bad : l.bad ≤ l.number;
  failures : g.W.Sink.failures l.writer ≡ g.W.Sink.failures l.initial.writer;
}

abbrev pub decreases-lines : goal.decreases-lines
decreases-lines g l = length l.rest
