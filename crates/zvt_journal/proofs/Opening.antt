-- What follows of the calls that open a journal's file.
use Rattle.std.proofs.Common.{◌≡◌, List, ℕ, sym, ◌∙◌, ap}
use Rattle.zvt_journal.specs.declared.error.JournalFileError.{JournalFileError}
use Rattle.zvt_journal.specs.declared.error.JournalFileError.TheVariants.{InUse, Displaced, Folder, NotAFile, NotAJournal, RecordsBehind, TooMuchAfter, CutNotKept, FolderNotSynced, Io, Memory}
use Rattle.zvt_journal.specs.Calls.{Event}
use Rattle.zvt_journal.specs.Opening.{IsRefusedFor, WasRead, WhyRefused}
use Rattle.zvt_journal.specs.Text.{recovered}
use Rattle.zvt_journal.proofs.Lines.{recovered_again}

-- bytes that were read and are refused are the cause
pub read_and_refused : (error : JournalFileError) (bytes : List ℕ) (made : List Event) → WasRead bytes made → IsRefusedFor error bytes → WhyRefused error made
read_and_refused NotAJournal bytes made read why = (bytes, read, why)
read_and_refused (RecordsBehind line records) bytes made read why = (bytes, read, why)
read_and_refused (TooMuchAfter count) bytes made read why = (bytes, read, why)
read_and_refused InUse bytes made read why = absurd why
read_and_refused Displaced bytes made read why = absurd why
read_and_refused Folder bytes made read why = absurd why
read_and_refused NotAFile bytes made read why = absurd why
read_and_refused (CutNotKept error) bytes made read why = absurd why
read_and_refused (FolderNotSynced error) bytes made read why = absurd why
read_and_refused (Io error) bytes made read why = absurd why
read_and_refused Memory bytes made read why = absurd why

-- what was recovered is recovered again
pub whole_lines_alone : (text bytes : List ℕ) → text ≡ recovered bytes → recovered text ≡ text
whole_lines_alone text bytes is = ap recovered is ∙ recovered_again bytes ∙ sym is
