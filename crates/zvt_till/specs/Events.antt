-- The log of a list of events, and the bytes that a till sends during it.
use Rattle.std.specs.Prelude.{◌≡◌, ◌⊎◌, ℕ, Bool, true, false, cond, List, [], ◌∷◌, ◌++◌, Option, Some, None, map, option_to_list}
use Rattle.zvt_grammar.specs.Reading.{shortest}
use Rattle.zvt_apdu.specs.Message.{Message}
use Rattle.zvt_apdu.specs.Briefs.{message_of_brief}
use Rattle.zvt_stream.specs.Apdus.{Alive, Cut, Spelled}
use Rattle.zvt_stream.specs.LineReading.{strictly}
use Rattle.zvt_stream.specs.StreamState.{StreamState, Holds}
use Rattle.zvt_till.specs.declared.happenings.Happening.{Happening}
use Rattle.zvt_till.specs.declared.happenings.Happening.TheVariants.{Connected, Sent as SentOut, Heard as HeardIn, Malformed, Lost}
use Rattle.zvt_till.specs.declared.orders.Order.{Order}
use Rattle.zvt_till.specs.declared.orders.OrderRefusal.{OrderRefusal}
use Rattle.zvt_till.specs.declared.orders.Outgoing.{Outgoing}
use Rattle.zvt_till.specs.declared.events.Event.{Event}
use Rattle.zvt_till.specs.declared.events.Event.TheVariants.{Connected as ConnectedEvent, Order as OrderEvent, Piece, Lost as LostEvent}
use Rattle.zvt_till.specs.Hearing.{heard_as}
use Rattle.zvt_till.specs.Refusals.{refusal, sent_as, order_in}
use Rattle.zvt_till.specs.Sending.{Settings, message_of, reply_to}
use Rattle.zvt_till.specs.Settings.{strict}
use Rattle.zvt_till.specs.Marks.{entries}
use Rattle.zvt_till.specs.Till.{TillState, state_after}
use Rattle.zvt_till.specs.Log.{IsLog, facts_in, line_up}

-- the till of a run has the password 00 00 00, the configuration BE, the euro and the strict rules
abbrev pub run_settings : Settings
run_settings = record { password = 0 ∷ 0 ∷ 0 ∷ []; config = 190; currency = 978; rules = strict }

-- an order is sent if nothing in the log so far refuses it; otherwise it has no effect
abbrev pub log_after_order : List Happening → Order → Option OrderRefusal → List Happening
log_after_order log order None = log ++ SentOut (sent_as run_settings.currency order) ∷ []
log_after_order log order (Some why) = log

-- if no message begins with the rest of a line, the line is malformed
abbrev pub EndsLine : List ℕ → List Happening → Type 0
EndsLine rest end = (Alive rest × (end ≡ [])) ⊎ ((Alive rest → ⊥) × (end ≡ Malformed ∷ []))

abbrev pub hears : Message → Happening
hears message = HeardIn (heard_as message)

-- the effect of a piece on a line with these bytes: the new messages in all its bytes, and how the line ends
pub record HearsPiece (bytes piece : List ℕ) (added : List Happening) : Type 0 where
  pub earlier : List Message
  pub more : List Message
  pub left : List ℕ
  pub rest : List ℕ
  pub end : List Happening
  pub cut_before : Cut bytes earlier left
  pub cut : Cut (bytes ++ piece) (earlier ++ more) rest
  pub ends : EndsLine rest end
  pub heard : added ≡ map hears more ++ end

-- pieces of a line that is down are not read
abbrev pub FollowsPiece : (up : Bool) → List Happening → (bytes piece : List ℕ) → List Happening → List ℕ → Type 0
FollowsPiece false log bytes piece next later = (next ≡ log) × (later ≡ bytes)
FollowsPiece true log bytes piece next later = (added : List Happening) × HearsPiece bytes piece added × (next ≡ log ++ added) × (later ≡ bytes ++ piece)

-- From a log, and the bytes of its line so far, the event leads to this log and these bytes.
abbrev pub Follows : List Happening → List ℕ → Event → List Happening → List ℕ → Type 0
Follows log bytes ConnectedEvent next later = (next ≡ log ++ Connected ∷ []) × (later ≡ cond (line_up log) bytes [])
Follows log bytes (OrderEvent order) next later = (next ≡ log_after_order log order (refusal (facts_in strict log) order)) × (later ≡ bytes)
Follows log bytes (Piece piece) next later = FollowsPiece (line_up log) log bytes piece.items next later
Follows log bytes LostEvent next later = (next ≡ log ++ Lost ∷ []) × (later ≡ bytes)

-- the events lead there one after another
abbrev pub Leads : List Happening → List ℕ → List Event → List Happening → List ℕ → Type 0
Leads log bytes [] last later = (log ≡ last) × (bytes ≡ later)
Leads log bytes (event ∷ events) last later = (next : List Happening) × (more : List ℕ) × Follows log bytes event next more × Leads next more events last later

-- the log of the events
abbrev pub IsLogOf : List Event → List Happening → Type 0
IsLogOf events log = (bytes : List ℕ) × Leads [] [] events log bytes

-- the bytes that the till sends for one more event: the message of an order, given the book so far, or the reply to a
-- message
abbrev pub sends : List Happening → Happening → List Outgoing
sends log Connected = []
sends log (SentOut o) = elim (order_in o) [ None ↦ [] | Some order ↦ option_to_list (message_of run_settings (entries strict log) order) ]
sends log (HeardIn m) = option_to_list (reply_to m)
sends log Malformed = []
sends log Lost = []

abbrev pub sent_from : List Happening → List Happening → List Outgoing
sent_from log [] = []
sent_from log (h ∷ more) = sends log h ++ sent_from (log ++ h ∷ []) more

abbrev pub message_out : Outgoing → Message
message_out outgoing = message_of_brief outgoing.brief

-- all that is sent over a log, in order
abbrev pub sent_over : List Happening → List Message
sent_over log = map message_out (sent_from [] log)

-- a till with this log, and the bytes that it sent
pub record IsTied (log : List Happening) (state : TillState) (sent : List ℕ) : Type 0 where
  pub allowed : IsLog run_settings log
  pub reached : state ≡ state_after run_settings log
  pub spelled : Spelled sent (sent_over log) []

-- while the line is up, the stream holds the incomplete message at the end of its bytes, read with the shortest lengths
abbrev pub HoldsLine : List Happening → List ℕ → StreamState → Type 0
HoldsLine log bytes stream = line_up log ≡ true → (stream.stopped ≡ false) × ((messages : List Message) × Cut bytes messages stream.held) × (stream.reading ≡ strictly shortest)

-- A piece after the bytes that the stream of a line holds: its messages, and how the line ends. If the line continues,
-- the stream holds the rest.
pub record ReadsPiece (log : List Happening) (held piece : List ℕ) (next : List Happening) (stream : StreamState) : Type 0 where
  pub messages : List Message
  pub rest : List ℕ
  pub end : List Happening
  pub cut : Cut (held ++ piece) messages rest
  pub ends : EndsLine rest end
  pub heard : next ≡ log ++ (map hears messages ++ end)
  pub goes_on : end ≡ [] → Holds rest stream
  pub strict : stream.reading ≡ strictly shortest
