-- The moments of a trace's lines, by its time marks and by the records of a book, and the time marks that cannot be read.
use Rattle.std.specs.Prelude.{◌≡◌, ℕ, ◌+◌, ◌*◌, ◌==◌, nat_lt, nat_le, ◌&&◌, Bool, true, false, if◌then◌else◌, List, [], ◌∷◌, ◌++◌, codes, drop, length, take, Option, None, Some, is_none, option_map}
use Rattle.std.specs.List.{position_or_len}
use Rattle.std.specs.Option.{option_and_then, option_or}
use Rattle.std.specs.Str.Lines.{lines}
use Rattle.zvt_text.specs.Words.{trailing}
use Rattle.zvt_trace.specs.Marks.{mark_of, moment}
use Rattle.zvt_trace.specs.declared.moment.Moment.{Moment}
use Rattle.zvt_trace.specs.declared.moments.Timed.{Timed}

-- an empty line or one with '#'
abbrev pub is_comment : (line : List ℕ) → Bool
is_comment [] = true
is_comment (first ∷ rest) = first == 35

abbrev pub begins_mark : (line : List ℕ) → Bool
begins_mark [] = false
begins_mark (first ∷ []) = false
begins_mark (first ∷ second ∷ rest) = (first == 35) && (second == 64)

-- it begins as a mark, and is none
abbrev pub is_bad_mark : (line : List ℕ) → Bool
is_bad_mark line = begins_mark line && is_none (mark_of line)

-- ---- times

-- what stands after the first word
abbrev pub without_word : (words : List ℕ) → List ℕ
without_word words = drop (position_or_len (λ byte. byte == 32) words) words

abbrev pub timed : (line : ℕ) → Moment → Timed
timed line moment = record { line = line; moment = moment }

-- what stands in the record of an order after the words of the order
abbrev pub after_order : (words : List ℕ) → Option (List ℕ)
after_order words =
    option_or (trailing (codes "register") words) (option_or (trailing (codes "close") words) (option_or (trailing (codes "cancel") words)
    (option_map without_word (option_or (trailing (codes "pay ") words) (trailing (codes "reverse ") words)))))

-- a date and a time of day to the second
abbrev pub moment_to_second : (text : List ℕ) → Option Moment
moment_to_second text = if nat_le 20 (length text) then mark_of (codes "#@ " ++ take 20 text) else None

-- the time of an order, in the first line of its record in a book
abbrev pub order_time : (line : List ℕ) → Option Moment
order_time line =
    option_and_then (λ words. option_and_then (λ rest. option_and_then moment_to_second (trailing (codes " at ") rest)) (after_order words)) (trailing (codes "# ") line)

-- the moment that a comment states for the next line that is not a comment
abbrev pub comment_time : (line : List ℕ) → Option Moment
comment_time line = option_or (mark_of line) (order_time line)

-- of two marks the later one counts
abbrev pub latest : (mark next : Option Moment) → Option Moment
latest mark None = mark
latest mark (Some next) = Some next

-- the mark for the next line, after a line
abbrev pub mark_after : (mark : Option Moment) → (line : List ℕ) → Option Moment
mark_after mark line = if is_comment line then latest mark (comment_time line) else None

abbrev pub timed_by : (number : ℕ) → (mark : Option Moment) → List Timed
timed_by number None = []
timed_by number (Some moment) = timed number moment ∷ []

-- the line with this number, after this mark
abbrev pub line_times : (number : ℕ) → (mark : Option Moment) → (line : List ℕ) → List Timed
line_times number mark line = if is_comment line then [] else timed_by number mark

-- The lines that have a moment, after that many others and a mark: those that are no comment and have a mark since the last
-- line that is none.
abbrev pub times_from : (count : ℕ) → (mark : Option Moment) → List (List ℕ) → List Timed
times_from count mark [] = []
times_from count mark (line ∷ lines) = line_times (count + 1) mark line ++ times_from (count + 1) (mark_after mark line) lines

-- the moments of a trace's lines, by their numbers from 1
abbrev pub times_of : List (List ℕ) → List Timed
times_of lines = times_from 0 None lines

-- the moment of the line with this number, if it is one of these
abbrev pub time_at : List Timed → (line : ℕ) → Option Moment
time_at [] line = None
time_at (first ∷ later) line = if first.line == line then Some first.moment else time_at later line

-- ---- a clock that goes back

-- a number that grows with time
abbrev pub instant : Moment → ℕ
instant m =
    (((((m.year * 12 + m.month) * 31 + m.day) * 24 + m.hour) * 60 + m.minute) * 60 + m.second) * 1_000_000_000 + m.nanosecond

abbrev pub back_after : (before : Moment) → List Timed → Option ℕ
back_after before [] = None
back_after before (next ∷ later) = if nat_lt (instant next.moment) (instant before) then Some next.line else back_after next.moment later

-- the first of these lines whose moment is before the moment of the line above it
abbrev pub went_back : List Timed → Option ℕ
went_back [] = None
went_back (first ∷ later) = back_after first.moment later

-- ---- bad marks

abbrev pub bad_line : (number : ℕ) → (line : List ℕ) → List ℕ
bad_line number line = if is_bad_mark line then number ∷ [] else []

abbrev pub bad_from : (count : ℕ) → List (List ℕ) → List ℕ
bad_from count [] = []
bad_from count (line ∷ lines) = bad_line (count + 1) line ++ bad_from (count + 1) lines

-- the numbers of the bad marks of a trace
abbrev pub bad_marks_of : List (List ℕ) → List ℕ
bad_marks_of lines = bad_from 0 lines

-- ---- worked rows

abbrev pub MomentRows : Type 0
MomentRows =
    -- a mark belongs to the next line, and to no other
    (times_of (codes "#@ 2026-11-28T09:14:03Z" ∷ codes "> 0600" ∷ codes "< 80" ∷ []) ≡ timed 2 (moment 2026 11 28 9 14 3 0) ∷ []) ×
    -- comments and empty lines may stand between, and of several marks the last counts
    (times_of (codes "#@ 2026-11-28T09:14:03Z" ∷ codes "# note" ∷ codes "#@ 2026-11-28T09:14:04Z" ∷ [] ∷ codes "!" ∷ []) ≡ timed 5 (moment 2026 11 28 9 14 4 0) ∷ []) ×
    -- the record of an order has a time, and its message is the next line
    (times_of (codes "# pay 500 at 2026-11-28T09:14:03Z ref A-1009" ∷ codes "> 0601" ∷ codes "< 800000" ∷ []) ≡ timed 2 (moment 2026 11 28 9 14 3 0) ∷ []) ×
    (times_of (codes "# register at 2026-11-28T09:14:03Z" ∷ codes "> 0600" ∷ codes "# reverse 12 at 2026-11-28T09:15:00Z" ∷ codes "> 0630" ∷ []) ≡ timed 2 (moment 2026 11 28 9 14 3 0) ∷ timed 4 (moment 2026 11 28 9 15 0 0) ∷ []) ×
    (times_of (codes "# pay 500 at 2026-11-28" ∷ codes "# pay 500" ∷ codes "# till at 2026-11-28T09:14:03Z" ∷ codes "#pay 500 at 2026-11-28T09:14:03Z" ∷ codes "> 0601" ∷ []) ≡ []) ×
    -- a bad one gives no time, and takes none
    (times_of (codes "#@ 2026-02-30T09:14:03Z" ∷ codes "!" ∷ []) ≡ []) ×
    (times_of (codes "#@ 2026-11-28T09:14:03Z" ∷ codes "#@ today" ∷ codes "!" ∷ []) ≡ timed 3 (moment 2026 11 28 9 14 3 0) ∷ []) ×
    (times_of (codes "!" ∷ codes "#@ 2026-11-28T09:14:03Z" ∷ []) ≡ []) ×
    (went_back (timed 2 (moment 2026 11 28 9 14 3 0) ∷ timed 4 (moment 2026 11 28 9 14 3 0) ∷ timed 6 (moment 2026 11 28 9 14 2 999_000_000) ∷ timed 8 (moment 2026 11 27 0 0 0 0) ∷ []) ≡ Some 6) ×
    (went_back (timed 2 (moment 2026 12 31 23 59 59 999_999_999) ∷ timed 4 (moment 2027 1 1 0 0 0 0) ∷ []) ≡ None) ×
    (bad_marks_of (codes "#@ 2026-02-30T09:14:03Z" ∷ codes "#@ 2026-11-28T09:14:03Z" ∷ codes "#@today" ∷ codes "# @" ∷ codes "#~ 1" ∷ []) ≡ 1 ∷ 3 ∷ [])
