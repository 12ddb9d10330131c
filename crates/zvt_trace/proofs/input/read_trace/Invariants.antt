use Rattle.std.proofs.Common.{◌≡◌, ◌≤◌, vec_len}
use Rattle.std.specs.Io.KnownBytes.{Consumes}
use Rattle.zvt_trace.proofs.input.read_trace.Given as goal

abbrev pub invariant-loop-turn : goal.invariant-loop-turn
invariant-loop-turn g l = record {
  turns : l._turn ≤ vec_len l.trace;
  small : vec_len l.trace ≤ 16777216;
  taken : Consumes (g.R.Source.remaining l.initial.reader) (g.R.Source.remaining l.reader) l.trace.items;
  count : g.R.Source.failures l.reader ≡ g.R.Source.failures l.initial.reader;
}
