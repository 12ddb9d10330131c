-- The logs that a till can have, in terms of the log itself.
use Rattle.std.specs.Prelude.{◌≡◌, Bool, true, false, cond, List, [], ◌∷◌, ◌++◌, Option, Some, None, fold}
use Rattle.std.specs.List.{list_any}
use Rattle.zvt_till.specs.declared.happenings.Happening.{Happening}
use Rattle.zvt_till.specs.declared.happenings.Happening.TheVariants.{Connected, Sent as SentOut, Heard as HeardIn, Malformed, Lost}
use Rattle.zvt_till.specs.declared.happenings.Sent.{Sent}
use Rattle.zvt_till.specs.declared.happenings.Sent.TheVariants.{Register, Pay, Reverse, CloseDay, Cancel, Foreign}
use Rattle.zvt_till.specs.declared.settings.Rules.{Rules}
use Rattle.zvt_till.specs.Segments.{Opening, Segment, Ended, segments, end_of, is_positive, completes}
use Rattle.zvt_till.specs.Books.{books_of, settled}
use Rattle.zvt_till.specs.Marks.{entries_of, ruled}
use Rattle.zvt_till.specs.Refusals.{Facts, Awaited, refusal, sent_as, order_in}
use Rattle.zvt_till.specs.Sending.{Settings}
use Rattle.zvt_till.specs.Till.{facts_of, state_after}

-- whether the last of these events was Connected
abbrev pub line_after : Bool → Happening → Bool
line_after up Connected = true
line_after up (SentOut o) = up
line_after up (HeardIn m) = up
line_after up Malformed = false
line_after up Lost = false

abbrev pub line_up : List Happening → Bool
line_up log = fold line_after false log

abbrev pub is_break : Happening → Bool
is_break Connected = false
is_break (SentOut o) = false
is_break (HeardIn m) = false
is_break Malformed = true
is_break Lost = true

abbrev pub registered_as : Sent → Bool → Option Ended → Bool
registered_as (Register c) before end = completes (λ ss. true) end
registered_as (Pay a) before end = before
registered_as (Reverse e) before end = before
registered_as CloseDay before end = before
registered_as Cancel before end = before
registered_as Foreign before end = before

abbrev pub registered_by : Bool → Opening → Option Ended → Bool
registered_by before opening end = registered_as opening.order before end

-- registered by the last registration, if that was completed and the line has been up since
abbrev pub registered_after : Bool → Segment → Bool
registered_after before s = cond (list_any is_break s.answers) false (registered_by before s.opening (end_of s.answers))

abbrev pub registered_of : List Segment → Bool
registered_of ss = fold registered_after false ss

-- the last order, if it has not ended yet
abbrev pub awaited_by_end : Segment → Option Ended → Option Awaited
awaited_by_end s None = Some (record { order = s.opening.order; positive = list_any is_positive s.answers })
awaited_by_end s (Some e) = None

abbrev pub awaited_after : Option Awaited → Segment → Option Awaited
awaited_after before s = awaited_by_end s (end_of s.answers)

abbrev pub awaited_of : List Segment → Option Awaited
awaited_of ss = fold awaited_after None ss

abbrev pub facts_in_segments : Bool → List Segment → Facts
facts_in_segments up ss =
    record {
      line_up = up;
      registered = registered_of ss;
      awaited = awaited_of ss;
      book = entries_of ss;
      unclear = settled (books_of ss).unclear;
    }

-- the state of a till of these rules, in terms of its log
abbrev pub facts_in : Rules → List Happening → Facts
facts_in rules log = facts_in_segments (line_up log) (ruled rules.reversal_by_receipt (segments log))

-- no message arrives on a line that is down, and the till sends an order, one of its own, only if nothing refuses it
abbrev pub CanFollow : Settings → Facts → Happening → Type 0
CanFollow settings f Connected = Unit {0}
CanFollow settings f (SentOut o) = elim (order_in o) [ None ↦ ⊥ | Some order ↦ (o ≡ sent_as settings.currency order) × (refusal f order ≡ None) ]
CanFollow settings f (HeardIn m) = f.line_up ≡ true
CanFollow settings f Malformed = f.line_up ≡ true
CanFollow settings f Lost = Unit {0}

abbrev pub IsLogFrom : Settings → List Happening → List Happening → Type 0
IsLogFrom settings log [] = Unit {0}
IsLogFrom settings log (h ∷ more) = CanFollow settings (facts_in settings.rules log) h × IsLogFrom settings (log ++ h ∷ []) more

-- a log that a till of these settings can have
abbrev pub IsLog : Settings → List Happening → Type 0
IsLog settings log = IsLogFrom settings [] log

-- the state after the steps has the book, the marks and the unclear payments of the log, and accepts the same orders
abbrev pub StepsMeetLog : Type 0
StepsMeetLog = (settings : Settings) (log : List Happening) → IsLog settings log → facts_of (state_after settings log) ≡ facts_in settings.rules log
