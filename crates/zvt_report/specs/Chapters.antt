-- The orders of a log, each with its line, and with what was noted up to the next one.
use Rattle.std.specs.Prelude.{◌≡◌, ℕ, suc, List, [], ◌∷◌, Option, Some, None, map, take, length, refl}
use Rattle.zvt_till.specs.declared.happenings.Happening.{Happening}
use Rattle.zvt_till.specs.declared.happenings.Happening.TheVariants.{Connected, Sent as SentOut, Heard as HeardIn, Lost}
use Rattle.zvt_till.specs.declared.happenings.Sent.{Sent}
use Rattle.zvt_till.specs.declared.happenings.Sent.TheVariants.{Register, Pay, Cancel}
use Rattle.zvt_till.specs.declared.messages.Heard.TheVariants.{Positive, Completion, Passing}
use Rattle.zvt_till.specs.Segments.{Segment, Ended, begun, force_after, end_of}

-- something that happened at a line of the trace
pub record Noted : Type 0 where
  pub line : ℕ
  pub happening : Happening

abbrev pub noted : ℕ → Happening → Noted
noted line happening = record { line = line; happening = happening }

-- the log, without its lines
abbrev pub happenings : List Noted → List Happening
happenings notes = map (λ (note : Noted). note.happening) notes

-- an order, the currency in force before it, its line, and what was noted up to the next order
pub record Chapter : Type 0 where
  pub order : Sent
  pub currency : Option ℕ
  pub line : ℕ
  pub answers : List Noted

-- what was noted up to the next order
abbrev pub up_to_order : List Noted → List Noted
up_to_order [] = []
up_to_order (n ∷ rest) = elim (begun n.happening) [ None ↦ n ∷ up_to_order rest | Some o ↦ [] ]

-- the chapters of notes that begin with this currency in force
abbrev pub chapters_from : Option ℕ → List Noted → List Chapter
chapters_from force [] = []
chapters_from force (n ∷ rest) =
    elim (begun n.happening) [
      | None ↦ chapters_from (force_after force n.happening) rest
      | Some o ↦ record { order = o; currency = force; line = n.line; answers = up_to_order rest } ∷ chapters_from (force_after force n.happening) rest
    ]

-- each order except Cancel begins a chapter; what was noted before the first belongs to none
abbrev pub chapters : List Noted → List Chapter
chapters notes = chapters_from None notes

-- a chapter, as the books see it
abbrev pub segment_of : Chapter → Segment
segment_of c = record { opening = record { order = c.order; currency = c.currency; sole = None }; answers = happenings c.answers }

-- what ended the order, if anything did
abbrev pub ended : Chapter → Option Ended
ended c = end_of (happenings c.answers)

-- the answers up to the end and with it; all of them if the order did not end
abbrev pub heeded : List Noted → Option Ended → List Noted
heeded answers None = answers
heeded answers (Some e) = take (suc (length e.before)) answers

-- the line of the last note, or this one if there is none
abbrev pub last_line : ℕ → List Noted → ℕ
last_line line [] = line
last_line line (n ∷ notes) = last_line n.line notes

-- the line where the order ended, or the last before the next order
abbrev pub closing_line : Chapter → ℕ
closing_line c = last_line c.line (heeded c.answers (ended c))

-- ---- rows worked by hand

abbrev a_day : List Noted
a_day =
    noted 0 Connected ∷ noted 2 (SentOut (Register None)) ∷ noted 4 (HeardIn Positive) ∷ noted 6 (HeardIn Completion) ∷ noted 8 (HeardIn Passing)
    ∷ noted 10 (SentOut (Pay 500)) ∷ noted 12 (SentOut Cancel) ∷ noted 14 Lost ∷ noted 14 Connected ∷ []

two_orders : map (λ (c : Chapter). c.line) (chapters a_day) ≡ 2 ∷ 10 ∷ []
two_orders = refl

-- a print line after the completion belongs to the chapter, and the order ended before it
both_end : map closing_line (chapters a_day) ≡ 6 ∷ 14 ∷ []
both_end = refl

one_runs : map closing_line (chapters (noted 3 (SentOut (Pay 500)) ∷ noted 5 (HeardIn Positive) ∷ [])) ≡ 5 ∷ []
one_runs = refl
