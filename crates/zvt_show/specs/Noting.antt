-- What hearing one thing makes of the notes.
use Rattle.std.specs.Prelude.{◌≡◌, ℕ, ◌+◌, List, [], ◌∷◌, ◌++◌, length}
use Rattle.zvt_trace.specs.TraceEvent.{At, TraceEvent, on}
use Rattle.zvt_trace.specs.TraceEvent as trace_event
use Rattle.zvt_trace.specs.declared.direction.Direction.TheVariants.{FromTill, FromTerminal}
use Rattle.zvt_trace.specs.declared.listener.Scope.{Scope}
use Rattle.zvt_show.specs.Notes.{last_line, most, note_text, unread_lines, unread_of}
use Rattle.zvt_show.specs.declared.diagnostics.skipped_lines.SkippedLines.{SkippedLines}
use Rattle.zvt_show.specs.declared.diagnostics.skipped_lines.Unread.{Unread}
use Rattle.zvt_show.specs.declared.diagnostics.counts.Counts.{Counts}
use Rattle.zvt_show.specs.declared.diagnostics.notes.Notes.{Notes}

-- ---- what is not read

-- these lines are counted, and the last of them is known
pub record CountsLines (unread : Unread) (lines : List ℕ) : Type 0 where
  pub count : unread.count ≡ most (length lines)
  pub last : unread.last ≡ last_line lines

-- the lines that were not read since the line between till and terminal was made
pub record CountsAfter (scope : Scope) (trailing : SkippedLines) (events : List At) : Type 0 where
  pub till : CountsLines trailing.till (unread_lines scope FromTill events)
  pub terminal : CountsLines trailing.terminal (unread_lines scope FromTerminal events)

abbrev pub one_more : Unread → ℕ → Unread
one_more unread line = record { count = most (unread.count + 1); last = line }

-- ---- all that is counted

abbrev pub counted_more : Counts → TraceEvent → Counts
counted_more counts (trace_event.message from m) = record counts { messages = most (counts.messages + 1) }
counted_more counts (trace_event.refused from before byte why) = record counts { refused = most (counts.refused + 1) }
counted_more counts (trace_event.unread from) = counts
counted_more counts (trace_event.resumed from size) = counts
counted_more counts (trace_event.cut_off from bytes) = record counts { cut_off = most (counts.cut_off + 1) }
counted_more counts trace_event.lost = counts

-- ---- one thing

-- the events since the line was made, with this one
abbrev pub events_since : List At → (line : ℕ) → TraceEvent → List At
events_since events line (trace_event.message from m) = events ++ on line (trace_event.message from m) ∷ []
events_since events line (trace_event.refused from before byte why) = events ++ on line (trace_event.refused from before byte why) ∷ []
events_since events line (trace_event.unread from) = events ++ on line (trace_event.unread from) ∷ []
events_since events line (trace_event.resumed from size) = events ++ on line (trace_event.resumed from size) ∷ []
events_since events line (trace_event.cut_off from bytes) = events ++ on line (trace_event.cut_off from bytes) ∷ []
events_since events line trace_event.lost = []

-- a note of it, or of all that was not read up to it
abbrev pub said_at : Scope → List At → (line : ℕ) → TraceEvent → List ℕ
said_at scope events line (trace_event.message from m) = []
said_at scope events line (trace_event.refused from before byte why) = note_text (on line (trace_event.refused from before byte why))
said_at scope events line (trace_event.unread from) = []
said_at scope events line (trace_event.resumed from size) = []
said_at scope events line (trace_event.cut_off from bytes) = note_text (on line (trace_event.cut_off from bytes))
said_at scope events line trace_event.lost = unread_of scope events

-- the notes say it too
pub record Noted (old new : Notes) (event : At) : Type 0 where
  pub scope : new.scope ≡ old.scope
  pub counts : new.counts ≡ counted_more old.counts event.trace_event
  pub text : (events : List At) → CountsAfter old.scope old.trailing events → new.text ≡ old.text ++ said_at old.scope events event.line event.trace_event
  pub trailing : (events : List At) → CountsAfter old.scope old.trailing events → CountsAfter old.scope new.trailing (events_since events event.line event.trace_event)
