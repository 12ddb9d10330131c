-- The entries of the book that were reversed, the doubts about them, and the total of the others.
use Rattle.std.specs.Prelude.{ℕ, ◌+◌, Bool, false, cond, ◌&&◌, ◌==◌, List, [], ◌∷◌, ◌++◌, Option, None, map, fold, slice_get, sum_by}
use Rattle.std.specs.List.{list_any}
use Rattle.zvt_till.specs.declared.happenings.Happening.{Happening}
use Rattle.zvt_till.specs.declared.happenings.Sent.{Sent}
use Rattle.zvt_till.specs.declared.happenings.Sent.TheVariants.{Register, Pay, Reverse, CloseDay, Cancel, Foreign}
use Rattle.zvt_till.specs.declared.messages.StatusFacts.{StatusFacts}
use Rattle.zvt_till.specs.declared.entries.Doubt.{Doubt}
use Rattle.zvt_till.specs.declared.entries.Entry.{Entry}
use Rattle.zvt_till.specs.declared.outcomes.Cause.{Cause}
use Rattle.zvt_till.specs.Statuses.{class_of, is_good}
use Rattle.zvt_till.specs.declared.settings.Rules.{Rules}
use Rattle.zvt_till.specs.ByReceipt.{sole_at}
use Rattle.zvt_till.specs.Segments.{Opening, Segment, Ended, segments, end_of, completes}
use Rattle.zvt_till.specs.Books.{Booked, books_of, settled}
use Rattle.zvt_till.specs.Doubts.{reversing, doubt_of, unclear_reversals}

-- all statuses, one at least, are good for taking back this row
abbrev pub takes_back : Opening → Booked → List StatusFacts → Bool
takes_back opening row ss = is_good (map (class_of (reversing opening row)) ss)

abbrev pub reverses_as : Sent → ℕ → Booked → Opening → Option Ended → Bool
reverses_as (Register c) place row opening end = false
reverses_as (Pay a) place row opening end = false
reverses_as (Reverse e) place row opening end = (e == place) && completes (takes_back opening row) end
reverses_as CloseDay place row opening end = false
reverses_as Cancel place row opening end = false
reverses_as Foreign place row opening end = false

abbrev pub reverses_end : ℕ → Booked → Opening → Option Ended → Bool
reverses_end place row opening end = reverses_as opening.order place row opening end

-- whether the segment reverses the row at this index of the book
abbrev pub reverses : ℕ → Booked → Segment → Bool
reverses place row s = reverses_end place row s.opening (end_of s.answers)

abbrev pub entry_of : Bool → Doubt → Booked → Entry
entry_of reversed doubt row = record { amount = row.amount; trace = row.trace; receipt = row.receipt; reversed = reversed; doubt = doubt }

-- each row, marked if some segment reverses it, with the doubt that the reversals leave
abbrev pub mark : List Segment → ℕ → List Booked → List Entry
mark ss place [] = []
mark ss place (row ∷ rows) = entry_of (list_any (reverses place row) ss) (doubt_of place row ss) row ∷ mark ss (place + 1) rows

abbrev pub entries_of : List Segment → List Entry
entries_of ss = mark ss 0 (books_of ss).booked

-- the receipt number of the payment that an order reverses, if its statuses may leave that payment unnamed after these
-- segments
abbrev pub sole_after : Bool → List Segment → Sent → Option (List ℕ)
sole_after by_receipt ss (Register c) = None
sole_after by_receipt ss (Pay a) = None
sole_after by_receipt ss (Reverse e) = sole_at by_receipt (entries_of ss) (settled (books_of ss).unclear) (slice_get (entries_of ss) e)
sole_after by_receipt ss CloseDay = None
sole_after by_receipt ss Cancel = None
sole_after by_receipt ss Foreign = None

-- an order after these segments
abbrev pub opened_after : Bool → List Segment → Opening → Opening
opened_after by_receipt ss o = record { order = o.order; currency = o.currency; sole = sole_after by_receipt ss o.order }

abbrev pub add_segment : Bool → List Segment → Segment → List Segment
add_segment by_receipt ss s = ss ++ record { opening = opened_after by_receipt ss s.opening; answers = s.answers } ∷ []

-- the segments with reversals by receipt number, or as they are
abbrev pub ruled : Bool → List Segment → List Segment
ruled by_receipt ss = cond by_receipt (fold (add_segment by_receipt) [] ss) ss

-- the book with its marks
abbrev pub entries : Rules → List Happening → List Entry
entries rules log = entries_of (ruled rules.reversal_by_receipt (segments log))

-- the unclear reversals of a log: the index of the entry, and the cause
abbrev pub reversals_left : Rules → List Happening → List (ℕ × Cause)
reversals_left rules log = unclear_reversals (entries rules log)

-- the sum of the entries that were not reversed
abbrev pub standing : Entry → ℕ
standing e = cond e.reversed 0 e.amount

abbrev pub total : List Entry → ℕ
total rows = sum_by standing rows
