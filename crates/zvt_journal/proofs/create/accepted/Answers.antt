use Rattle.std.proofs.Common.{Result, Ok, Err, IfErr, List, ℕ}
use Rattle.zvt_journal.specs.declared.error.JournalFileError.{JournalFileError}
use Rattle.zvt_journal.specs.Calls.{Event}
use Rattle.zvt_journal.specs.Opening.{IsRefusedFor, WasRead, WhyRefused}
use Rattle.zvt_journal.proofs.Opening.{read_and_refused}
use Rattle.zvt_journal.proofs.create.accepted.Goals as goal

why : (bytes : List ℕ) (made : List Event) → WasRead bytes made → (result : Result ℕ JournalFileError)
    → IfErr result (λ error. IsRefusedFor error bytes) → IfErr result (λ error. WhyRefused error made)
why bytes made read (Ok end) is = tt
why bytes made read (Err error) is = read_and_refused error bytes made read is

pub returns-clause-refused : goal.returns-clause-refused
returns-clause-refused c = why _ _ c.requires c.accepted_lines.result c.accepted_lines.ensures.refused
