use Rattle.std.proofs.Common.{◌≡◌, ◌+◌, ◌≤◌, ◌++◌, ℕ, List, length}
use Rattle.std.specs.Str.Lines.{lines}
use Rattle.zvt_trace.specs.Listening.{HasWalked, TakeBy, reading_by, scope_of}
use Rattle.zvt_trace.specs.TraceEvent.{At}
use Rattle.zvt_trace.proofs.TallyLemmas.{CountsBeside}
use Rattle.zvt_trace.proofs.WalkedLemmas.{Walked}
use Rattle.zvt_trace.proofs.walker.Progress.read_lines.Given as goal

abbrev pub invariant-lines : goal.invariant-lines
invariant-lines g l = record {
  so_far : (before : List (List ℕ)) (earlier : List At) → HasWalked (reading_by l.initial.self) (scope_of l.initial.self) before earlier l.initial.self
      → Walked (reading_by l.initial.self) (CountsBeside (λ b. b.now) (λ b. b.ghost_name) g.L.Listener.hears g.L.Listener.fails) (scope_of l.initial.self) (before ++ lines l.text) earlier (l.initial.self.size + length l.text) l.rest l.number l.self.sides l.initial.both l.both;
  reading : TakeBy (reading_by l.initial.self) l.self.sides;
  options : l.self.options ≡ l.initial.self.options;
  size : l.self.size ≡ l.initial.self.size;
  lines : l.number + length l.rest ≤ l.initial.self.size + length l.text;
}

abbrev pub decreases-lines : goal.decreases-lines
decreases-lines g l = length l.rest
