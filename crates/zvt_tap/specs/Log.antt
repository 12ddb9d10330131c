-- What a tap has observed of a line: its trace, the text that is shown, and the audit.
use Rattle.std.specs.Prelude.{◌≡◌, ◌++◌, ◌∷◌, [], codes, ℕ, Bool, true, List, Option, Result}
use Rattle.zvt_grammar.specs.Reading.{Reading}
use Rattle.zvt_trace.specs.Resuming.{side_scope}
use Rattle.zvt_audit.specs.declared.line.LineAudit.{LineAudit}
use Rattle.zvt_audit.specs.declared.line.LineBooks.{LineBooks}
use Rattle.zvt_show.specs.Beside.{Watching, showing_of}
use Rattle.zvt_show.specs.Shown.{AnswersShown, HasShown}
use Rattle.zvt_show.specs.declared.render.Style.TheVariants.{Show}
use Rattle.zvt_text.specs.TextOptions.{safe_text}
use Rattle.zvt_trace.specs.declared.fault.Tally.{Tally}
use Rattle.zvt_trace.specs.declared.fault.TraceFault.{TraceFault}
use Rattle.zvt_trace.specs.declared.listener.ListenerError.{ListenerError}
use Rattle.zvt_trace.specs.declared.listener.ListenerError.TheVariants.{Memory, Write}
use Rattle.zvt_tap.specs.Chunks.{Chunk, trace_text}
use Rattle.zvt_tap.specs.Heard.{AnswersHeard, HasHeard}
use Rattle.zvt_tap.specs.Traced.{HasTraced, traced_by}
use Rattle.zvt_tap.specs.declared.tracing.Tracing.{Tracing}

-- All of this trace was observed, to a log whose devices had that first.
pub record HasObserved {T O : Type 0} (written : T → Option (List ℕ)) (output : O → Option (List ℕ)) (r : Reading) (reads_on : Bool) (trace : List ℕ) (first_trace first_output : Option (List ℕ)) (tracing : Tracing T) (watching : Watching O LineAudit) : Type 0 where
  pub traced : HasTraced tracing.failed trace first_trace (traced_by written tracing.trace)
  pub shows : HasShown output r (side_scope reads_on) (Show safe_text) trace first_output (showing_of watching)
  pub hears : HasHeard r reads_on trace watching

-- What a log of this whole trace found: the trace is on its device, then come the text that is shown and the books.
pub record HasFound (r : Reading) (reads_on : Bool) (trace : List ℕ) (first_trace first_output : Option (List ℕ)) (failed : Bool) (trace_now output_now : Option (List ℕ)) (shown : Result Tally TraceFault) (audited : Result LineBooks TraceFault) : Type 0 where
  pub traced : HasTraced failed trace first_trace trace_now
  pub middle : Option (List ℕ)
  pub shows : AnswersShown r (side_scope reads_on) (Show safe_text) trace first_output middle shown
  pub audits : AnswersHeard r reads_on trace middle output_now audited

-- the trace of a line that has ended after these chunks
abbrev pub ended_trace : List Chunk → List ℕ
ended_trace chunks = trace_text chunks ++ (codes "!" ++ 10 ∷ [])

-- What was found where the line was stopped after these chunks by one that was missed. One without memory was not observed at
-- all; one that the trace lacks was.
abbrev pub FoundStopped : (Found : List ℕ → Type 0) → (failed : Bool) → ListenerError → List Chunk → (last : Chunk) → Type 0
FoundStopped Found failed Memory chunks last = Found (ended_trace chunks)
FoundStopped Found failed Write chunks last = Found (ended_trace (chunks ++ last ∷ [])) × (failed ≡ true)
