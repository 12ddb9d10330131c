-- The exit statuses of the program.
use Rattle.std.specs.Prelude.{ℕ, length, zero, suc, ◌+◌, ◌-◌, Bool, false, true, Result, Ok, Err}
use Rattle.std.specs.IoError.{error_kind}
use Rattle.std.specs.declared.io.ErrorKind.{ErrorKind}
use Rattle.std.specs.declared.io.ErrorKind.TheVariants.{OutOfMemory}
use Rattle.zvt_stream.specs.declared.line.LineFault.{LineFault}
use Rattle.zvt_stream.specs.declared.line.LineFault.TheVariants.{Read as ReadBroke, Write as WriteBroke, Ended, Turns, Malformed, Memory as NoMemory, Stopped}
use Rattle.zvt_audit.specs.declared.summary.AuditSummary.{AuditSummary}
use Rattle.zvt_trace.specs.declared.fault.TraceFault.{TraceFault}
use Rattle.zvt_trace.specs.declared.fault.TraceFault.TheVariants as on_trace
use Rattle.zvt_runs.specs.declared.fault.EndFault.{EndFault}
use Rattle.zvt_runs.specs.declared.fault.EndFault.TheVariants as at_end
use Rattle.zvt_journal.specs.declared.device.DeviceError.{DeviceError}
use Rattle.zvt_journal.specs.declared.device.DeviceError.TheVariants as on_device
use Rattle.zvt_journal.specs.declared.error.JournalFileError.{JournalFileError}
use Rattle.zvt_journal.specs.declared.error.JournalFileError.TheVariants as on_file
use Rattle.zvt_kept.specs.declared.recovery.RecoveryError.{RecoveryError}
use Rattle.zvt_kept.specs.declared.recovery.RecoveryError.TheVariants as on_records

-- 1 if a stream of the trace was refused or cut off
abbrev pub status_of_bad : ℕ → ℕ
status_of_bad zero = 0
status_of_bad (suc bad) = 1

-- running out of memory is always 5, and any other break of a line is 4
abbrev pub status_of_line : LineFault → ℕ
status_of_line NoMemory = 5
status_of_line ReadBroke = 4
status_of_line WriteBroke = 4
status_of_line (Ended have) = 4
status_of_line Turns = 4
status_of_line (Malformed place why) = 4
status_of_line Stopped = 4

-- a text that is not a trace is 3, a failed device 4, running out of memory 5
abbrev pub status_of_trace_fault : TraceFault → ℕ
status_of_trace_fault (on_trace.Trace line what) = 3
status_of_trace_fault on_trace.TooLong = 3
status_of_trace_fault on_trace.Read = 4
status_of_trace_fault on_trace.Write = 4
status_of_trace_fault on_trace.Memory = 5

-- a step that did not succeed is 1, a wrong word 2, a failed device, line, trace, book or connection 4, running out of
-- memory 5
abbrev pub status_of_end_fault : EndFault → ℕ
status_of_end_fault at_end.Unsuccessful = 1
status_of_end_fault (at_end.BadStep at) = 2
status_of_end_fault (at_end.Net why) = 4
status_of_end_fault at_end.Trace = 4
status_of_end_fault at_end.Book = 4
status_of_end_fault (at_end.Line fault) = status_of_line fault
status_of_end_fault (at_end.Silent seconds) = 4
status_of_end_fault at_end.Write = 4
status_of_end_fault at_end.Memory = 5

-- a failed call on a file is 4, and 5 if memory ran out
abbrev pub status_of_call : ErrorKind → ℕ
status_of_call OutOfMemory = 5
status_of_call _ = 4

-- a file that is not a journal is 3, a file that cannot be opened 4, running out of memory 5
abbrev pub status_of_file_error : JournalFileError → ℕ
status_of_file_error on_file.InUse = 4
status_of_file_error on_file.Displaced = 4
status_of_file_error on_file.Folder = 4
status_of_file_error on_file.NotAFile = 4
status_of_file_error on_file.NotAJournal = 3
status_of_file_error (on_file.RecordsBehind line records) = 3
status_of_file_error (on_file.TooMuchAfter bytes) = 3
status_of_file_error (on_file.CutNotKept error) = status_of_call (error_kind error)
status_of_file_error (on_file.FolderNotSynced error) = status_of_call (error_kind error)
status_of_file_error (on_file.Io error) = status_of_call (error_kind error)
status_of_file_error on_file.Memory = 5

-- records that restore no till are 3, running out of memory 5
abbrev pub status_of_recovery : RecoveryError → ℕ
status_of_recovery on_records.Opening = 3
status_of_recovery (on_records.Line number) = 3
status_of_recovery (on_records.Record number) = 3
status_of_recovery (on_records.Check number) = 3
status_of_recovery on_records.Memory = 5

-- a journal that cannot be begun is 4, running out of memory 5
abbrev pub status_of_device : DeviceError → ℕ
status_of_device on_device.Memory = 5
status_of_device on_device.Failed = 4
status_of_device on_device.Full = 4

-- the status of a command on a trace; if it checks that no payment is unclear, an unclear payment counts as bad
abbrev pub status_of_found : (check : Bool) → Result AuditSummary TraceFault → ℕ
status_of_found false (Ok found) = status_of_bad (found.tally.bad - found.passed)
status_of_found true (Ok found) = status_of_bad (found.unclear + (found.tally.bad - found.passed) + length found.unfollowed.items)
status_of_found false (Err fault) = status_of_trace_fault fault
status_of_found true (Err fault) = status_of_trace_fault fault

-- the status of a run
abbrev pub status_of_run : Result Unit EndFault → ℕ
status_of_run (Ok done) = 0
status_of_run (Err fault) = status_of_end_fault fault
