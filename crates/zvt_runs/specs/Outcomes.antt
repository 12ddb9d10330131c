-- The texts of what steps came to: the outcomes of orders and asks.
use Rattle.std.specs.Prelude.{ℕ, List, [], ◌∷◌, ◌++◌, codes, Option, Some, None, Result, Ok, Err}
use Rattle.std.specs.Fmt.{decimal}
use Rattle.zvt_text.specs.Numbers.{numbers_text}
use Rattle.zvt_text.specs.Results.{result_words}
use Rattle.zvt_till.specs.Names.{cause_name, refusal_name}
use Rattle.zvt_till.specs.declared.line.RunFault.{RunFault}
use Rattle.zvt_till.specs.declared.keeper.BookFault.TheVariants.{NoSpace, Failed}
use Rattle.zvt_till.specs.declared.line.RunFault.TheVariants.{Order, Line, Book as BookBroke}
use Rattle.zvt_till.specs.declared.outcomes.Outcome.{Outcome}
use Rattle.zvt_till.specs.declared.outcomes.Outcome.TheVariants.{Registered, Paid, Declined, Refused, Aborted, Unclear, Reversed, DayClosed}
use Rattle.zvt_runs.specs.declared.asking.Asked.{Asked}
use Rattle.zvt_runs.specs.declared.asking.Asked.TheVariants.{Nothing, Unsettled, Settled}
use Rattle.zvt_runs.specs.declared.asking.Ended.{Ended}
use Rattle.zvt_runs.specs.declared.asking.Ended.TheVariants.{Order as EndedOrder, Ask}
use Rattle.zvt_runs.specs.Settlements.{settled_words}

-- a booked payment, by its numbers
abbrev pub paid_text : ℕ → Option (List ℕ) → List ℕ
paid_text trace receipt = codes "paid " ++ numbers_text trace receipt

-- a result of the terminal, with its code in words
abbrev pub coded_text : List ℕ → ℕ → List ℕ
coded_text said code = said ++ result_words code

abbrev pub outcome_text : Outcome → List ℕ
outcome_text Registered = codes "registered"
outcome_text (Paid trace receipt) = paid_text trace receipt
outcome_text (Declined code) = coded_text (codes "declined ") code
outcome_text (Refused code) = coded_text (codes "refused ") code
outcome_text (Aborted code) = coded_text (codes "aborted ") code
outcome_text (Unclear cause) = codes "unclear " ++ cause_name cause
outcome_text Reversed = codes "reversed"
outcome_text DayClosed = codes "day closed"

-- the name of the fault that a book has no room for the records of an order
abbrev pub no_space : List ℕ
no_space = codes "NoSpace"

-- what an ask came to
abbrev pub asked_text : Asked → List ℕ
asked_text Nothing = codes "nothing to settle"
asked_text Unsettled = codes "not settled"
asked_text (Settled settlement) = settled_words settlement

abbrev pub ended_text : Ended → List ℕ
ended_text (EndedOrder outcome) = outcome_text outcome
ended_text (Ask asked) = asked_text asked

-- what a step came to whose line broke or whose book failed
abbrev pub broken_text : Option Ended → List ℕ
broken_text None = []
broken_text (Some ended) = ended_text ended

-- what a step came to; `last` is its end where the line broke or the book failed
abbrev pub ending_text : Result Ended RunFault → Option Ended → List ℕ
ending_text (Ok ended) last = ended_text ended
ending_text (Err (Order why)) last = codes "not sent: " ++ refusal_name why
ending_text (Err (Line fault)) last = broken_text last
ending_text (Err (BookBroke NoSpace)) last = codes "not sent: " ++ no_space
ending_text (Err (BookBroke Failed)) last = broken_text last

-- the line of a step
abbrev pub step_text : List ℕ → List ℕ → List ℕ
step_text word ending = word ++ codes " -> " ++ ending ++ 10 ∷ []

-- the last line
abbrev pub total_text : ℕ → List ℕ
total_text total = codes "total " ++ decimal total ++ 10 ∷ []
