-- The names of numbers. Each table takes its numbers and names from their definitions.
use Rattle.std.specs.Prelude.{ℕ, ◌==◌, nat_lt, cond, List, [], ◌∷◌, None, option_map, unwrap_or, find, codes}
use Rattle.zvt_grammar.specs.Names.{why_name}
use Rattle.zvt_grammar.specs.declared.why.Why.TheVariants.{NotShortest, DoesNotFit, LengthForm, TooDeep, TagTooLong, UnknownField, NotDigit, LengthDigit}
use Rattle.zvt_till.specs.Names.{cause_name, refusal_name}
use Rattle.zvt_till.specs.declared.outcomes.Cause.TheVariants.{NoStatus, Conflict, AmountDiffers, NoTrace, TraceUsed, AbortAfterApproval, Line, Malformed, Unfinished, WrongCurrency}
use Rattle.zvt_till.specs.declared.outcomes.Outcome.TheVariants.{Registered, Paid, Declined, Refused, Aborted, Unclear, Reversed, DayClosed}
use Rattle.zvt_till.specs.declared.orders.OrderRefusal.TheVariants.{Offline, NotRegistered, Busy, NothingToCancel, BookFull, UnknownEntry, AlreadyReversed, NoReceipt, Memory}
use Rattle.zvt_c.specs.Answers.{code_of_why}
use Rattle.zvt_till.specs.SnapshotEncoded.{cause_code}
use Rattle.zvt_c.specs.Numbers.{ended}
use Rattle.zvt_c.specs.Ordering.{status_of}
use Rattle.zvt_text.specs.Meanings.{meaning_of, status_words}

-- The name for a number, or an empty text if the table does not contain it.
abbrev pub name_in : List (ℕ × List ℕ) → (number : ℕ) → List ℕ
name_in rows number = unwrap_or (option_map (λ row. row.1) (find (λ row. row.0 == number) rows)) []

abbrev pub reasons : List (ℕ × List ℕ)
reasons =
    (code_of_why NotShortest, why_name NotShortest) ∷
    (code_of_why DoesNotFit, why_name DoesNotFit) ∷
    (code_of_why LengthForm, why_name LengthForm) ∷
    (code_of_why TooDeep, why_name TooDeep) ∷
    (code_of_why TagTooLong, why_name TagTooLong) ∷
    (code_of_why UnknownField, why_name UnknownField) ∷
    (code_of_why NotDigit, why_name NotDigit) ∷
    (code_of_why LengthDigit, why_name LengthDigit) ∷
    []

abbrev pub causes : List (ℕ × List ℕ)
causes =
    (cause_code NoStatus, cause_name NoStatus) ∷
    (cause_code Conflict, cause_name Conflict) ∷
    (cause_code AmountDiffers, cause_name AmountDiffers) ∷
    (cause_code NoTrace, cause_name NoTrace) ∷
    (cause_code TraceUsed, cause_name TraceUsed) ∷
    (cause_code AbortAfterApproval, cause_name AbortAfterApproval) ∷
    (cause_code Line, cause_name Line) ∷
    (cause_code Malformed, cause_name Malformed) ∷
    (cause_code Unfinished, cause_name Unfinished) ∷
    (cause_code WrongCurrency, cause_name WrongCurrency) ∷
    []

-- The kinds of outcomes, by the words with which the program prints them.
abbrev pub outcomes : List (ℕ × List ℕ)
outcomes =
    ((ended Registered).kind, codes "registered") ∷
    ((ended (Paid 0 None)).kind, codes "paid") ∷
    ((ended (Declined 0)).kind, codes "declined") ∷
    ((ended (Refused 0)).kind, codes "refused") ∷
    ((ended (Aborted 0)).kind, codes "aborted") ∷
    ((ended (Unclear NoStatus)).kind, codes "unclear") ∷
    ((ended Reversed).kind, codes "reversed") ∷
    ((ended DayClosed).kind, codes "day closed") ∷
    []

abbrev pub refusals : List (ℕ × List ℕ)
refusals =
    (status_of Memory, refusal_name Memory) ∷
    (status_of Offline, refusal_name Offline) ∷
    (status_of NotRegistered, refusal_name NotRegistered) ∷
    (status_of Busy, refusal_name Busy) ∷
    (status_of NothingToCancel, refusal_name NothingToCancel) ∷
    (status_of BookFull, refusal_name BookFull) ∷
    (status_of UnknownEntry, refusal_name UnknownEntry) ∷
    (status_of AlreadyReversed, refusal_name AlreadyReversed) ∷
    (status_of NoReceipt, refusal_name NoReceipt) ∷
    []

-- The meaning of a result code, or an empty text. A code is one byte.
abbrev pub meaning_in : (code : ℕ) → List ℕ
meaning_in code = cond (nat_lt code 256) (unwrap_or (meaning_of code) []) []

-- The words of an intermediate status, or an empty text. A status is one byte.
abbrev pub status_in : (status : ℕ) → List ℕ
status_in status = cond (nat_lt status 256) (unwrap_or (status_words status) []) []
