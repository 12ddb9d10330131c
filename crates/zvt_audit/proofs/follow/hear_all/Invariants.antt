use Rattle.std.proofs.Common.{◌≡◌, ◌≤◌, ℕ, List, length}
use Rattle.std.specs.Io.KnownBytes.{Consumes}
use Rattle.zvt_grammar.specs.Lengths.{reading_of}
use Rattle.zvt_audit.specs.Heard.{HasAudited, IsAuditing}
use Rattle.zvt_audit.proofs.follow.hear_all.Given as goal

abbrev pub invariant-loop-turn : goal.invariant-loop-turn
invariant-loop-turn g l = record {
  so_far : (taken : List ℕ) × Consumes (g.R.Source.remaining l.initial.reader) (g.R.Source.remaining l.reader) taken × (l._turn ≤ length taken) × HasAudited (reading_of l.fn.lengths) l.fn.scope taken l.audit;
  ready : IsAuditing l.audit;
  read : g.R.Source.failures l.reader ≡ g.R.Source.failures l.initial.reader;
}
