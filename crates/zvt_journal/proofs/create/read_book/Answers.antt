use Rattle.std.proofs.Common.{List, ℕ, Vec, Result, Ok, Err, IfOk, MatchResult, ◌≡◌}
use Rattle.std.specs.declared.alloc.Global.{Global}
use Rattle.zvt_journal.specs.declared.error.JournalFileError.{JournalFileError}
use Rattle.zvt_journal.specs.Calls.{Event}
use Rattle.zvt_journal.specs.Opening.{WhyRefused, WasPeeked}
use Rattle.zvt_journal.specs.Text.{recovered}
use Rattle.zvt_journal.proofs.Opening.{whole_lines_alone}
use Rattle.zvt_journal.proofs.create.read_book.Goals as goal

whole_text : (path : List ℕ) (made : List Event) (result : Result (Vec ℕ Global) JournalFileError)
    → MatchResult result (λ text. WasPeeked path made text.items) (λ error. WhyRefused error made) → IfOk result (λ text. recovered text.items ≡ text.items)
whole_text path made (Ok text) was = whole_lines_alone text.items was.bytes was.text_is
whole_text path made (Err error) was = tt

pub returns-clause-whole : goal.returns-clause-whole
returns-clause-whole c = whole_text _ _ c.peeked_by-answer.result c.peeked_by-answer.ensures
