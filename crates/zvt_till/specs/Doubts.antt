-- The doubts that the reversals of a log leave: whether a payment of the book was reversed.
use Rattle.std.specs.Prelude.{ℕ, ◌+◌, ◌==◌, Bool, true, false, cond, List, [], ◌∷◌, Option, Some, None, map, fold}
use Rattle.zvt_till.specs.declared.happenings.Happening.{Happening}
use Rattle.zvt_till.specs.declared.happenings.Happening.TheVariants.{Connected, Sent as SentOut, Heard as HeardIn, Malformed, Lost}
use Rattle.zvt_till.specs.declared.happenings.Sent.{Sent}
use Rattle.zvt_till.specs.declared.happenings.Sent.TheVariants.{Register, Pay, Reverse, CloseDay, Cancel, Foreign}
use Rattle.zvt_till.specs.declared.messages.Heard.TheVariants.{Positive, Negative, Status, Passing, Completion, Abort, Strange}
use Rattle.zvt_till.specs.declared.entries.Doubt.{Doubt}
use Rattle.zvt_till.specs.declared.entries.Doubt.TheVariants.{No, Unclear, TakenBack}
use Rattle.zvt_till.specs.declared.entries.Entry.{Entry}
use Rattle.zvt_till.specs.declared.outcomes.Cause.{Cause}
use Rattle.zvt_till.specs.declared.outcomes.Cause.TheVariants.{NoStatus, AbortAfterApproval, Line, Malformed as MalformedCause, Unfinished}
use Rattle.zvt_till.specs.Statuses.{Demand, Reversal, Class, Good, Declining, Doubtful, class_of, dissenter, objection, is_declined}
use Rattle.zvt_till.specs.Segments.{Opening, Segment, Ended, end_of, statuses}
use Rattle.zvt_till.specs.Books.{Booked, charge_of}

-- B4: the terminal had reversed the payment before
abbrev pub already_reversed : ℕ
already_reversed = 0xB4

-- a completed reversal: all statuses good, and the payment is marked; all declining, and nothing changed; else it is unclear
abbrev pub doubt_completed : Doubt → List Class → Doubt
doubt_completed before [] = Unclear NoStatus
doubt_completed before (c ∷ cs) =
    elim (dissenter (c ∷ cs)) [
      | None ↦ elim c [ Good t ↦ No | Declining d ↦ before | Doubtful cause ↦ Unclear cause ]
      | Some d ↦ Unclear (objection d)
    ]

-- a refused or aborted reversal: nothing changed if all statuses were declines, except that B4 reports an earlier
-- reversal
abbrev pub doubt_broken : Doubt → List Class → ℕ → Doubt
doubt_broken before cs code = cond (is_declined cs) (cond (code == already_reversed) TakenBack before) (Unclear AbortAfterApproval)

-- the doubt, by the event that ended the reversal
abbrev pub doubt_by : Doubt → List Class → Happening → Doubt
doubt_by before cs (HeardIn Completion) = doubt_completed before cs
doubt_by before cs (HeardIn (Abort c)) = doubt_broken before cs c
doubt_by before cs (HeardIn (Negative c)) = doubt_broken before cs c
doubt_by before cs Lost = Unclear Line
doubt_by before cs Malformed = Unclear MalformedCause
-- nothing else ends an order
doubt_by before cs Connected = Unclear Unfinished
doubt_by before cs (SentOut o) = Unclear Unfinished
doubt_by before cs (HeardIn Positive) = Unclear Unfinished
doubt_by before cs (HeardIn (Status s)) = Unclear Unfinished
doubt_by before cs (HeardIn Passing) = Unclear Unfinished
doubt_by before cs (HeardIn Strange) = Unclear Unfinished

-- a reversal that runs has changed nothing yet
abbrev pub doubt_at : Demand → Doubt → Option Ended → Doubt
doubt_at demand before None = before
doubt_at demand before (Some e) = doubt_by before (map (class_of demand) (statuses e.before)) e.by

-- the values with which the statuses of a reversal of this row must agree
abbrev pub reversing : Opening → Booked → Demand
reversing opening row = Reversal (charge_of opening row.amount) row.trace opening.sole

abbrev pub doubt_as : Sent → ℕ → Booked → Doubt → Opening → Option Ended → Doubt
doubt_as (Register c) place row before opening end = before
doubt_as (Pay a) place row before opening end = before
doubt_as (Reverse e) place row before opening end = cond (e == place) (doubt_at (reversing opening row) before end) before
doubt_as CloseDay place row before opening end = before
doubt_as Cancel place row before opening end = before
doubt_as Foreign place row before opening end = before

abbrev pub doubt_end : ℕ → Booked → Doubt → Opening → Option Ended → Doubt
doubt_end place row before opening end = doubt_as opening.order place row before opening end

-- the doubt about the row at this index of the book after one more segment
abbrev pub doubt_after : ℕ → Booked → Doubt → Segment → Doubt
doubt_after place row before s = doubt_end place row before s.opening (end_of s.answers)

-- the doubt about it after all segments: the last reversal that changed anything counts
abbrev pub doubt_of : ℕ → Booked → List Segment → Doubt
doubt_of place row ss = fold (doubt_after place row) No ss

abbrev pub is_unclear : Entry → Bool
is_unclear entry = elim entry.doubt [ No ↦ false | Unclear cause ↦ true | TakenBack ↦ false ]

-- the entries whose last reversal is unclear, each by its index in the book and with the cause
abbrev pub unclear_reversals_from : ℕ → List Entry → List (ℕ × Cause)
unclear_reversals_from place [] = []
unclear_reversals_from place (entry ∷ book) =
    elim entry.doubt [
      | No ↦ unclear_reversals_from (place + 1) book
      | Unclear cause ↦ (place, cause) ∷ unclear_reversals_from (place + 1) book
      | TakenBack ↦ unclear_reversals_from (place + 1) book
    ]

abbrev pub unclear_reversals : List Entry → List (ℕ × Cause)
unclear_reversals book = unclear_reversals_from 0 book
