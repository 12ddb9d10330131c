use Rattle.std.proofs.Common.{List, Result, Ok, Err, IfOk, MatchResult, ◌≡◌, ℕ}
use Rattle.zvt_journal.specs.declared.create.Opened.{Opened}
use Rattle.zvt_journal.specs.declared.error.JournalFileError.{JournalFileError}
use Rattle.zvt_journal.specs.Calls.{Event}
use Rattle.zvt_journal.specs.Opening.{WhyRefused, WasOpened}
use Rattle.zvt_journal.specs.Text.{recovered}
use Rattle.zvt_journal.proofs.Opening.{whole_lines_alone}
use Rattle.zvt_journal.proofs.create.open_file.Goals as goal

whole_text : (path : List ℕ) (made : List Event) (result : Result Opened JournalFileError)
    → MatchResult result (λ opened. WasOpened path made opened.text.items opened.cut opened.created) (λ error. WhyRefused error made)
    → IfOk result (λ opened. recovered opened.text.items ≡ opened.text.items)
whole_text path made (Ok opened) was = whole_lines_alone opened.text.items was.bytes was.text_is
whole_text path made (Err error) was = tt

pub returns-clause-whole : goal.returns-clause-whole
returns-clause-whole c = whole_text _ _ c.opened_by-answer.result c.opened_by-answer.ensures.calls
