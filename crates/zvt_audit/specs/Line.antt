-- What the audit of a line answers that is heard while it goes on.
use Rattle.std.specs.Prelude.{◌≡◌, ℕ, Bool, true, false, List, Option, Result, Ok, Err}
use Rattle.zvt_grammar.specs.Reading.{Reading}
use Rattle.zvt_text.specs.declared.form.Form.TheVariants.{Text}
use Rattle.zvt_trace.specs.Apart.{HearsUntil}
use Rattle.zvt_trace.specs.Listening.{Hears}
use Rattle.zvt_trace.specs.Resuming.{side_scope}
use Rattle.zvt_trace.specs.declared.fault.Tally.{Tally}
use Rattle.zvt_trace.specs.declared.fault.TraceFault.{TraceFault}
use Rattle.zvt_trace.specs.declared.listener.Scope.{Scope}
use Rattle.zvt_trace.specs.declared.listener.Scope.TheVariants.{OneMessage, WholeLine}
use Rattle.zvt_audit.specs.Audited.{AnswersReadBy, IsConnected, hears}
use Rattle.zvt_audit.specs.ByControl.{HearsBy}
use Rattle.zvt_audit.specs.declared.line.LineAudit.{LineAudit}
use Rattle.zvt_audit.specs.declared.line.LineBooks.{LineBooks}
use Rattle.zvt_audit.specs.declared.summary.AuditSummary.{AuditSummary}

-- what the books of a line leave unread after a refused message
abbrev pub books_scope : (reads_on : Bool) → Scope
books_scope false = WholeLine
books_scope true = OneMessage

-- nothing was heard
abbrev pub IsNew : (reads_on : Bool) → LineAudit → Type 0
IsNew reads_on audit =
    IsConnected audit.auditor.listener.listener × (audit.auditor.listener.is_refused ≡ false) × (audit.auditor.scope ≡ side_scope reads_on) × (audit.auditor.passed ≡ 0)

-- an auditor hears a line until it is refused, and not read on
abbrev pub hears_line : Hears LineAudit
hears_line old event new = HearsBy (HearsUntil hears) old.auditor event new.auditor

-- what was found, and a tally
abbrev pub with_tally : Tally → LineBooks → AuditSummary
with_tally tally found = record { tally = tally; total = found.total; unclear = found.unclear; swapped = found.swapped; unfollowed = found.unfollowed; passed = found.passed }

-- What an audit of the line's whole trace answers, apart from its tally.
abbrev pub AnswersLine : Reading → (reads_on : Bool) → (trace : List ℕ) → (old new : Option (List ℕ)) → Result LineBooks TraceFault → Type 0
AnswersLine r reads_on trace old new (Ok found) = (tally : Tally) × AnswersReadBy r (books_scope reads_on) Text trace old new (Ok (with_tally tally found))
AnswersLine r reads_on trace old new (Err fault) = AnswersReadBy r (books_scope reads_on) Text trace old new (Err fault)
