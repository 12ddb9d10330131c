-- The segments of a log: an order, the events after it, and its end.
use Rattle.std.specs.Prelude.{ℕ, Bool, true, false, not, cond, ◌&&◌, List, [], ◌∷◌, ◌++◌, Option, Some, None, filter_map, fold}
use Rattle.std.specs.List.{list_any}
use Rattle.zvt_till.specs.declared.happenings.Happening.{Happening}
use Rattle.zvt_till.specs.declared.happenings.Happening.TheVariants.{Connected, Sent as SentOut, Heard as HeardIn, Malformed, Lost}
use Rattle.zvt_till.specs.declared.happenings.Sent.{Sent}
use Rattle.zvt_till.specs.declared.happenings.Sent.TheVariants.{Register, Pay, Reverse, CloseDay, Cancel, Foreign}
use Rattle.zvt_till.specs.declared.messages.Heard.TheVariants.{Positive, Negative, Status, Passing, Completion, Abort, Strange}
use Rattle.zvt_till.specs.declared.messages.StatusFacts.{StatusFacts}

-- the order that a segment begins with: any but Cancel
abbrev pub begun : Happening → Option Sent
begun Connected = None
begun (SentOut (Register c)) = Some (Register c)
begun (SentOut (Pay a)) = Some (Pay a)
begun (SentOut (Reverse e)) = Some (Reverse e)
begun (SentOut CloseDay) = Some CloseDay
begun (SentOut Cancel) = None
begun (SentOut Foreign) = Some Foreign
begun (HeardIn m) = None
begun Malformed = None
begun Lost = None

-- the currency in force after an order: a registration gives its own, also none
abbrev pub force_by : Option ℕ → Sent → Option ℕ
force_by force (Register currency) = currency
force_by force (Pay a) = force
force_by force (Reverse e) = force
force_by force CloseDay = force
force_by force Cancel = force
force_by force Foreign = force

abbrev pub force_after : Option ℕ → Happening → Option ℕ
force_after force Connected = force
force_after force (SentOut o) = force_by force o
force_after force (HeardIn m) = force
force_after force Malformed = force
force_after force Lost = force

-- the currency in force after a log, which is the one of its last registration
abbrev pub in_force : List Happening → Option ℕ
in_force log = fold force_after None log

-- an order as it is sent, the currency in force before it, and the receipt number of the payment that it reverses if its
-- statuses may leave that payment unnamed
pub record Opening : Type 0 where
  pub order : Sent
  pub currency : Option ℕ
  pub sole : Option (List ℕ)

-- an order, and the events up to the next one
pub record Segment : Type 0 where
  pub opening : Opening
  pub answers : List Happening

-- the events up to the next order
abbrev pub up_to_order : List Happening → List Happening
up_to_order [] = []
up_to_order (h ∷ rest) = elim (begun h) [ None ↦ h ∷ up_to_order rest | Some o ↦ [] ]

-- the segments of events that begin with this currency in force
abbrev pub segments_from : Option ℕ → List Happening → List Segment
segments_from force [] = []
segments_from force (h ∷ rest) =
    elim (begun h) [
      | None ↦ segments_from (force_after force h) rest
      | Some o ↦ record { opening = record { order = o; currency = force; sole = None }; answers = up_to_order rest } ∷ segments_from (force_after force h) rest
    ]

-- each order except Cancel begins a segment; the events before the first belong to none; a reversal names its payment
abbrev pub segments : List Happening → List Segment
segments log = segments_from None log

-- an end: the event that ended the order, and the events before it
pub record Ended : Type 0 where
  pub before : List Happening
  pub by : Happening

-- a positive answer: the terminal has accepted the order
abbrev pub is_positive : Happening → Bool
is_positive Connected = false
is_positive (SentOut o) = false
is_positive (HeardIn Positive) = true
is_positive (HeardIn (Negative c)) = false
is_positive (HeardIn (Status s)) = false
is_positive (HeardIn Passing) = false
is_positive (HeardIn Completion) = false
is_positive (HeardIn (Abort c)) = false
is_positive (HeardIn Strange) = false
is_positive Malformed = false
is_positive Lost = false

-- a negative answer ends an order only if no positive one came before it
abbrev pub ends : Bool → Happening → Bool
ends positive Connected = false
ends positive (SentOut o) = false
ends positive (HeardIn Positive) = false
ends positive (HeardIn (Negative c)) = not positive
ends positive (HeardIn (Status s)) = false
ends positive (HeardIn Passing) = false
ends positive (HeardIn Completion) = true
ends positive (HeardIn (Abort c)) = true
ends positive (HeardIn Strange) = false
ends positive Malformed = true
ends positive Lost = true

abbrev pub end_after : List Happening → List Happening → Option Ended
end_after before [] = None
end_after before (h ∷ rest) =
    cond (ends (list_any is_positive before) h) (Some (record { before = before; by = h })) (end_after (before ++ h ∷ []) rest)

-- the first that ends the order, with all that came before it
abbrev pub end_of : List Happening → Option Ended
end_of answers = end_after [] answers

-- the values of a status information
abbrev pub status_of : Happening → Option StatusFacts
status_of Connected = None
status_of (SentOut o) = None
status_of (HeardIn Positive) = None
status_of (HeardIn (Negative c)) = None
status_of (HeardIn (Status s)) = Some s
status_of (HeardIn Passing) = None
status_of (HeardIn Completion) = None
status_of (HeardIn (Abort c)) = None
status_of (HeardIn Strange) = None
status_of Malformed = None
status_of Lost = None

abbrev pub statuses : List Happening → List StatusFacts
statuses hs = filter_map status_of hs

-- a completion
abbrev pub is_completion : Happening → Bool
is_completion Connected = false
is_completion (SentOut o) = false
is_completion (HeardIn Positive) = false
is_completion (HeardIn (Negative c)) = false
is_completion (HeardIn (Status s)) = false
is_completion (HeardIn Passing) = false
is_completion (HeardIn Completion) = true
is_completion (HeardIn (Abort c)) = false
is_completion (HeardIn Strange) = false
is_completion Malformed = false
is_completion Lost = false

-- ended by a completion after these statuses
abbrev pub completes : (List StatusFacts → Bool) → Option Ended → Bool
completes test None = false
completes test (Some e) = is_completion e.by && test (statuses e.before)
