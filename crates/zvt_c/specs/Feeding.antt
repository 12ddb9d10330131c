-- The effect of a terminal's bytes on a till and its stream.
use Rattle.std.specs.Prelude.{◌≡◌, ℕ, true, cond, List, [], length, Option, Some, None, is_some}
use Rattle.zvt_apdu.specs.Message.{Message}
use Rattle.zvt_apdu.specs.Briefs.{message_of_brief, PutsMessage}
use Rattle.zvt_stream.specs.Feeds.{Feeds}
use Rattle.zvt_stream.specs.StreamState.{Keeps}
use Rattle.zvt_stream.specs.declared.stream.FeedError.{FeedError}
use Rattle.zvt_stream.specs.declared.stream.FeedError.TheVariants.{Stopped, Memory}
use Rattle.zvt_stream.specs.declared.stream.Fed.{Fed}
use Rattle.zvt_stream.specs.declared.stream.Fed.TheVariants.{Message as Whole, More, Refused}
use Rattle.zvt_till.specs.declared.happenings.Happening.TheVariants.{Heard, Malformed}
use Rattle.zvt_till.specs.declared.orders.Outgoing.{Outgoing}
use Rattle.zvt_till.specs.Hearing.{heard_as}
use Rattle.zvt_till.specs.Sending.{reply_to}
use Rattle.zvt_till.specs.Till.{TillState, outcome_at}
use Rattle.zvt_settle.specs.Inside.{both_of}
use Rattle.zvt_settle.specs.Settling.{Both, Line as OnLine, take}
use Rattle.zvt_c.specs.declared.session.Session.{Session}
use Rattle.zvt_c.specs.declared.numbers.ZvtStep.{ZvtStep}
use Rattle.zvt_c.specs.Answers.{code_of_why}
use Rattle.zvt_c.specs.Cards.{heard_card}
use Rattle.zvt_c.specs.Lines.{line_in}
use Rattle.zvt_c.specs.Numbers.{nothing, outcome_of, silent}
use Rattle.zvt_c.specs.Saving.{Written}
use Rattle.zvt_c.specs.Statuses as statuses

-- The bytes to send: none, or the encoding of one message at the start of the buffer.
abbrev pub Sends : Option Outgoing → (buffer_before buffer_after : List ℕ) → (send : ℕ) → Type 0
Sends None before after send = (send ≡ 0) × (after ≡ before)
Sends (Some outgoing) before after send = PutsMessage (message_of_brief outgoing.brief) before after send

-- The till's reply to a message, while its line is up.
abbrev pub replied : TillState → Message → Option Outgoing
replied state message = cond state.line_up (reply_to (heard_as message)) None

-- The first line to print is at the start of its buffer if it fits, and its size is reported.
abbrev pub Prints : Option (List ℕ) → (line_before line_after : List ℕ) → (size printed : ℕ) → Type 0
Prints None before after size printed = (after ≡ before) × (size ≡ 0) × (printed ≡ 0)
Prints (Some text) before after size printed = Written text size before after × (printed ≡ 1)

-- A message leads the till and what it settles from one state to another, gets this reply, and is reported in these
-- numbers.
pub record TellsMessage (apdu : Message) (taken : ℕ) (before after : Both) (buffer_before buffer_after line_before line_after : List ℕ) (answer : ZvtStep) : Type 0 where
  pub state : after ≡ take before (OnLine (Heard (heard_as apdu)))
  pub sends : Sends (replied before.till apdu) buffer_before buffer_after answer.send
  pub prints : Prints (line_in apdu 0) line_before line_after answer.line answer.printed
  pub outcome : answer.outcome ≡ outcome_of (cond before.till.line_up (outcome_at before.till (Heard (heard_as apdu))) None)
  pub taken_is : answer.taken ≡ taken
  pub message : answer.message ≡ 1
  pub place : answer.place ≡ 0
  pub reason : answer.reason ≡ 0

-- The fed bytes lead the till from one state to another, get this reply, and are reported in these numbers.
abbrev pub Told : Fed → (piece : List ℕ) → (before after : Both) → (buffer_before buffer_after line_before line_after : List ℕ) → ZvtStep → (status : ℕ) → Type 0
Told (Whole apdu taken) piece before after buffer_before buffer_after line_before line_after answer status =
    TellsMessage apdu taken before after buffer_before buffer_after line_before line_after answer × (status ≡ statuses.ok)
Told More piece before after buffer_before buffer_after line_before line_after answer status =
    (after ≡ before) × (buffer_after ≡ buffer_before) × (line_after ≡ line_before) × (answer ≡ silent (length piece) 0 0 (outcome_of None)) × (status ≡ statuses.ok)
Told (Refused place why) piece before after buffer_before buffer_after line_before line_after answer status =
    (after ≡ take before (OnLine Malformed)) × (buffer_after ≡ buffer_before) × (line_after ≡ line_before)
    × (answer ≡ silent 0 place (code_of_why why) (outcome_of (outcome_at before.till Malformed))) × (status ≡ statuses.refused)

-- The message that a feed ended with, which the stream lends until the next feed.
abbrev pub ended_with : Fed → Option Message
ended_with (Whole apdu taken) = Some apdu
ended_with More = None
ended_with (Refused place why) = None

-- The card after a feed.
abbrev pub card_after : TillState → Fed → List ℕ × List ℕ → List ℕ × List ℕ
card_after state (Whole apdu taken) card = heard_card (is_some state.running) apdu card
card_after state More card = card
card_after state (Refused place why) card = card

-- The status of a feed that failed.
abbrev pub status_of_failure : FeedError → ℕ
status_of_failure Stopped = statuses.stopped
status_of_failure Memory = statuses.no_memory

-- A feed reports `Stopped` only if bytes were refused before.
abbrev pub IsFailure : FeedError → Session → Type 0
IsFailure Stopped end = end.stream.stopped ≡ true
IsFailure Memory end = Unit {0}

-- A feed of an open session feeds the stream and the till; or nothing happens, because bytes were refused before or
-- memory ran out.
pub data FeedsEnd (before : Session) (piece : List ℕ) (after : Session) (buffer_before buffer_after line_before line_after : List ℕ) (answer : ZvtStep) (status : ℕ) : Type 0 where
  fed : (fed : Fed) → Feeds before.stream piece fed after.stream → after.stream.lent ≡ ended_with fed → after.card ≡ card_after before.till.till.state fed before.card
      → Told fed piece (both_of before.till) (both_of after.till) buffer_before buffer_after line_before line_after answer status
      → FeedsEnd before piece after buffer_before buffer_after line_before line_after answer status
  failed : (why : FeedError) → IsFailure why before → Keeps before.stream after.stream → after.till ≡ before.till → after.card ≡ before.card → buffer_after ≡ buffer_before → line_after ≡ line_before
      → answer ≡ nothing → status ≡ status_of_failure why → FeedsEnd before piece after buffer_before buffer_after line_before line_after answer status

-- A handle is fed, and no print line is handed out.
abbrev pub FeedsHandle : Option Session → (piece : List ℕ) → Option Session → (buffer_before buffer_after : List ℕ) → ZvtStep → (status : ℕ) → Type 0
FeedsHandle None piece after buffer_before buffer_after answer status = (after ≡ None) × (buffer_after ≡ buffer_before) × (answer ≡ nothing) × (status ≡ statuses.closed)
FeedsHandle (Some before) piece after buffer_before buffer_after answer status =
    (end : Session) × (after ≡ Some end) × FeedsEnd before piece end buffer_before buffer_after [] [] answer status
