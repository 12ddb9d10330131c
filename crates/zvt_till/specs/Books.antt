-- The books of a log: each payment is judged by its whole segment.
use Rattle.std.specs.Prelude.{ℕ, Bool, true, false, not, cond, ◌&&◌, nat_eq, List, [], ◌∷◌, ◌++◌, Option, Some, None, map, fold, filter}
use Rattle.std.specs.List.{list_all, list_any}
use Rattle.zvt_till.specs.declared.happenings.Happening.{Happening}
use Rattle.zvt_till.specs.declared.happenings.Happening.TheVariants.{Connected, Sent as SentOut, Heard as HeardIn, Malformed, Lost}
use Rattle.zvt_till.specs.declared.happenings.Sent.{Sent}
use Rattle.zvt_till.specs.declared.happenings.Sent.TheVariants.{Register, Pay, Reverse, CloseDay, Cancel, Foreign}
use Rattle.zvt_till.specs.declared.messages.Heard.TheVariants.{Positive, Negative, Status, Passing, Completion, Abort, Strange}
use Rattle.zvt_till.specs.declared.messages.StatusFacts.{StatusFacts}
use Rattle.zvt_till.specs.declared.outcomes.Cause.{Cause}
use Rattle.zvt_till.specs.declared.outcomes.Cause.TheVariants.{NoStatus, NoTrace, TraceUsed, AbortAfterApproval, Line, Malformed as MalformedCause, Unfinished}
use Rattle.zvt_till.specs.Statuses.{Charge, approves, Payment, Class, Good, Declining, Doubtful, class_of, dissenter, objection, is_declined}
use Rattle.zvt_till.specs.Segments.{Opening, Segment, Ended, segments, end_of, statuses}

-- a payment in the book, without its mark
pub record Booked : Type 0 where
  pub amount : ℕ
  pub trace : ℕ
  pub receipt : Option (List ℕ)

-- the amount and currency that the statuses of a payment must confirm
abbrev pub charge_of : Opening → ℕ → Charge
charge_of opening amount = record { amount = amount; currency = opening.currency }

abbrev pub booked_as : ℕ → ℕ → Option (List ℕ) → Booked
booked_as amount trace receipt = record { amount = amount; trace = trace; receipt = receipt }

-- an entry is earned if all statuses, and at least one, approve the charge under one trace number that was not booked
-- before
abbrev pub earned : Charge → List ℕ → List StatusFacts → Option Booked
earned charge used [] = None
earned charge used (s ∷ more) =
    elim s.trace [
      | None ↦ None
      | Some t ↦ cond (list_all (approves charge t) (s ∷ more) && not (list_any (λ x. nat_eq x t) used)) (Some (booked_as charge.amount t s.receipt)) None
    ]

-- a payment is booked, or left unclear, or known not to have happened
pub data Verdict : Type 0 where
  Entered : (row : Booked) → Verdict
  Unclear : (cause : Cause) → Verdict
  Refused : Verdict

-- all good, and yet nothing earned: the trace number was booked before
abbrev pub unbooked : Option ℕ → Cause
unbooked None = NoTrace
unbooked (Some t) = TraceUsed

-- a completed payment that earned no entry
abbrev pub unearned : List Class → Verdict
unearned [] = Unclear NoStatus
unearned (c ∷ cs) =
    elim (dissenter (c ∷ cs)) [
      | None ↦ elim c [ Good t ↦ Unclear (unbooked t) | Declining d ↦ Refused | Doubtful cause ↦ Unclear cause ]
      | Some d ↦ Unclear (objection d)
    ]

-- a payment that ended by a completion
abbrev pub completed : Charge → List ℕ → List StatusFacts → Verdict
completed charge used ss =
    elim (earned charge used ss) [ None ↦ unearned (map (class_of (Payment charge)) ss) | Some row ↦ Entered row ]

-- a payment that was aborted or refused: it certainly did not happen if all statuses were declines
abbrev pub broken_off : Charge → List StatusFacts → Verdict
broken_off charge ss = cond (is_declined (map (class_of (Payment charge)) ss)) Refused (Unclear AbortAfterApproval)

-- the verdict, by the event that ended the payment
abbrev pub verdict_by : Charge → List ℕ → List StatusFacts → Happening → Verdict
verdict_by charge used ss (HeardIn Completion) = completed charge used ss
verdict_by charge used ss (HeardIn (Abort c)) = broken_off charge ss
verdict_by charge used ss (HeardIn (Negative c)) = broken_off charge ss
verdict_by charge used ss Lost = Unclear Line
verdict_by charge used ss Malformed = Unclear MalformedCause
-- nothing else ends an order
verdict_by charge used ss Connected = Unclear Unfinished
verdict_by charge used ss (SentOut o) = Unclear Unfinished
verdict_by charge used ss (HeardIn Positive) = Unclear Unfinished
verdict_by charge used ss (HeardIn (Status s)) = Unclear Unfinished
verdict_by charge used ss (HeardIn Passing) = Unclear Unfinished
verdict_by charge used ss (HeardIn Strange) = Unclear Unfinished

-- a payment without an end is unfinished
abbrev pub verdict_at : Charge → List ℕ → Option Ended → Verdict
verdict_at charge used None = Unclear Unfinished
verdict_at charge used (Some e) = verdict_by charge used (statuses e.before) e.by

pub record Books : Type 0 where
  pub booked : List Booked
  pub unclear : List (ℕ × Cause)

abbrev pub traces : List Booked → List ℕ
traces rows = map (λ row. row.trace) rows

abbrev pub write_down : Books → ℕ → Verdict → Books
write_down b amount (Entered row) = record { booked = b.booked ++ row ∷ []; unclear = b.unclear }
write_down b amount (Unclear cause) = record { booked = b.booked; unclear = b.unclear ++ (amount, cause) ∷ [] }
write_down b amount Refused = b

abbrev pub judge_as : Sent → Books → Opening → Option Ended → Books
judge_as (Register c) b opening end = b
judge_as (Pay a) b opening end = write_down b a (verdict_at (charge_of opening a) (traces b.booked) end)
judge_as (Reverse e) b opening end = b
judge_as CloseDay b opening end = b
judge_as Cancel b opening end = b
judge_as Foreign b opening end = b

abbrev pub judge_end : Books → Opening → Option Ended → Books
judge_end b opening end = judge_as opening.order b opening end

-- the rows that a segment adds; only payments add rows
abbrev pub judge : Books → Segment → Books
judge b s = judge_end b s.opening (end_of s.answers)

abbrev pub empty_books : Books
empty_books = record { booked = []; unclear = [] }

abbrev pub books_of : List Segment → Books
books_of ss = fold judge empty_books ss

-- the payments of a log, judged in the order in which they were sent
abbrev pub books : List Happening → Books
books log = books_of (segments log)

-- the unclear rows of orders that have ended
abbrev pub is_finished : Cause → Bool
is_finished Unfinished = false
is_finished _ = true

abbrev pub settled : List (ℕ × Cause) → List (ℕ × Cause)
settled rows = filter (λ row. is_finished row.1) rows
