-- What playing a script does to the devices of a connection.
use Rattle.std.specs.Prelude.{◌≡◌, ⊤, ◌<◌, ◌≤◌, ◌⊎◌, ℕ, ◌+◌, Bool, false, true, List, [], ◌∷◌, ◌++◌, length, map, take, drop, Option, Some, None}
use Rattle.std.specs.Borrow.{Bor}
use Rattle.std.specs.List.{All, concat}
use Rattle.std.specs.Io.KnownBytes.{Appends, Consumes, IsAtEnd}
use Rattle.zvt_io.specs.Devices.{IsPrefix}
use Rattle.zvt_apdu.specs.Message.{Message}
use Rattle.zvt_stream.specs.LineReading.{IsRefusedBy, LineReading, Reads, UnfinishedBy}
use Rattle.zvt_stream.specs.StreamState.{IsReserved, StreamState}
use Rattle.zvt_play.specs.Numbers.{Binds, HasNoNew, IsNumbered, bound, prepared, sent_as, used}
use Rattle.zvt_play.specs.Script.{Act, act_of, await, bind, break, listen, prepare, same, send, silence, wait}
use Rattle.zvt_play.specs.declared.numbers.Names.{Names}
use Rattle.zvt_play.specs.declared.numbers.Number.{Number}
use Rattle.zvt_play.specs.declared.difference.Difference.{Difference}
use Rattle.zvt_play.specs.declared.difference.Difference.TheVariants.{Closed, Malformed, Other, Read, Surplus, Write}
use Rattle.zvt_play.specs.declared.difference.Unplayed.{Unplayed}
use Rattle.zvt_play.specs.declared.step.ScriptStep.{ScriptStep}

-- ---- messages

abbrev pub IsMessage : LineReading → List ℕ → Type 0
IsMessage r bytes = (message : Message) × Reads r message bytes

-- The messages are what a line demands: all but the last are its next bytes, and the last begins with the remaining bytes.
-- So a line without bytes demands one message of any kind.
abbrev pub Meets : (demanded : List ℕ) → (messages : List (List ℕ)) → Type 0
Meets demanded [] = ⊥
Meets demanded (message ∷ []) = IsPrefix demanded message
Meets demanded (message ∷ next ∷ later) = (left : List ℕ) × (demanded ≡ message ++ left) × (0 < length left) × Meets left (next ∷ later)

-- the messages are the first of the demanded bytes, and these bytes are left
abbrev pub Agrees : (demanded : List ℕ) → (messages : List (List ℕ)) → (left : List ℕ) → Type 0
Agrees demanded [] left = demanded ≡ left
Agrees demanded (message ∷ later) left = (between : List ℕ) × (demanded ≡ message ++ between) × (0 < length between) × Agrees between later left

-- neither begins the other
abbrev pub AreApart : List ℕ → List ℕ → Type 0
AreApart a b = (IsPrefix a b → ⊥) × (IsPrefix b a → ⊥)

-- the demanded bytes that are left after a message that agrees with them
abbrev pub Leaves : (demanded message left : List ℕ) → Type 0
Leaves demanded message left = ((left ≡ []) × IsPrefix demanded message) ⊎ ((0 < length left) × (demanded ≡ message ++ left))

-- the demanded bytes that are left after a message, or `None` if it does not agree with them
abbrev pub LeavesOrNot : (demanded message : List ℕ) → Option (Bor (List ℕ)) → Type 0
LeavesOrNot demanded message None = AreApart demanded message
LeavesOrNot demanded message (Some left) = Leaves demanded message left.now

-- a stream with this reading of lengths that holds nothing and never allocates
pub record IsReady (r : LineReading) (s : StreamState) : Type 0 where
  pub holds : s.held ≡ []
  pub goes_on : s.stopped ≡ false
  pub reading : s.reading ≡ r
  pub reserved : IsReserved s

-- the bytes that were read but not heard, those to come, those written, the last message, and the numbers of the names
pub record LineState : Type 0 where
  pub unheard : List ℕ
  pub coming : Option (List ℕ)
  pub written : Option (List ℕ)
  pub lent : Option Message
  pub names : Names

abbrev pub line_state : List ℕ → (coming written : Option (List ℕ)) → (lent : Option Message) → Names → LineState
line_state unheard coming written lent names = record { unheard = unheard; coming = coming; written = written; lent = lent; names = names }

-- the same with these names
abbrev pub with_names : LineState → Names → LineState
with_names state names = line_state state.unheard state.coming state.written state.lent names

-- One complete message arrived, and the stream lends it. It was the first of the unheard bytes and those read after them, and
-- the rest is unheard now.
pub record NextMessage (r : LineReading) (unheard : List ℕ) (coming : Option (List ℕ)) (rest : List ℕ) (left : Option (List ℕ)) (stream : StreamState) : Type 0 where
  pub message : Message
  pub bytes : List ℕ
  pub read : List ℕ
  pub some : 0 < length bytes
  pub spells : Reads r message bytes
  pub lent : stream.lent ≡ Some message
  pub consumed : Consumes coming left read
  pub cut : unheard ++ read ≡ bytes ++ rest

-- One complete message arrived, and these demanded bytes are left after it.
abbrev pub NextOf : LineReading → (demanded unheard : List ℕ) → (coming : Option (List ℕ)) → (rest : List ℕ) → (left : Option (List ℕ)) → StreamState → Option (Bor (List ℕ)) → Type 0
NextOf r demanded unheard coming rest left stream after = (next : NextMessage r unheard coming rest left stream) × LeavesOrNot demanded next.bytes after

-- No complete message arrived: no message begins with the bytes, or they begin one and nothing followed.
abbrev pub NoneOf : LineReading → Difference → (bytes : List ℕ) → (left : Option (List ℕ)) → Type 0
NoneOf r (Closed have) bytes left = UnfinishedBy r bytes × (have ≡ length bytes) × IsAtEnd left
NoneOf r (Malformed place why) bytes left = IsRefusedBy r bytes place why
NoneOf r Read bytes left = UnfinishedBy r bytes
NoneOf r (Other at) bytes left = ⊥
NoneOf r (Surplus count) bytes left = ⊥
NoneOf r Write bytes left = ⊥

pub record NoMessage (r : LineReading) (why : Difference) (unheard : List ℕ) (coming left : Option (List ℕ)) : Type 0 where
  pub bytes : List ℕ
  pub rest : List ℕ
  pub read : List ℕ
  pub consumed : Consumes coming left read
  pub cut : unheard ++ read ≡ bytes ++ rest
  pub none : NoneOf r why bytes left

-- some bytes are unheard: the earlier ones, or the bytes of one read
pub record Fills (old : List ℕ) (coming : Option (List ℕ)) (new : List ℕ) (left : Option (List ℕ)) : Type 0 where
  pub read : List ℕ
  pub consumed : Consumes coming left read
  pub cut : old ++ read ≡ new
  pub some : 0 < length new

-- none were unheard, and none arrived
abbrev pub NoMore : Difference → (have : ℕ) → (unheard : List ℕ) → (coming left : Option (List ℕ)) → Type 0
NoMore (Closed bytes) have unheard coming left = (bytes ≡ have) × (unheard ≡ []) × Consumes coming left [] × IsAtEnd left
NoMore Read have unheard coming left = (unheard ≡ []) × Consumes coming left []
NoMore (Malformed place why) have unheard coming left = ⊥
NoMore (Other at) have unheard coming left = ⊥
NoMore (Surplus count) have unheard coming left = ⊥
NoMore Write have unheard coming left = ⊥

-- ---- failed devices

-- the number of failed reads at a difference
abbrev pub failed_reads : Difference → ℕ
failed_reads Read = 1
failed_reads (Other at) = 0
failed_reads (Surplus count) = 0
failed_reads (Closed have) = 0
failed_reads (Malformed place why) = 0
failed_reads Write = 0

-- the number of failed writes at a difference
abbrev pub failed_writes : Difference → ℕ
failed_writes Write = 1
failed_writes (Other at) = 0
failed_writes (Surplus count) = 0
failed_writes (Closed have) = 0
failed_writes (Malformed place why) = 0
failed_writes Read = 0

-- ---- one step

-- the last of these messages, which the stream lends
pub record IsLast (r : LineReading) (messages : List (List ℕ)) (lent : Option Message) : Type 0 where
  pub before : List (List ℕ)
  pub bytes : List ℕ
  pub message : Message
  pub cut : messages ≡ before ++ bytes ∷ []
  pub spells : Reads r message bytes
  pub lends : lent ≡ Some message

-- Messages arrived that are what a line demands, and the stream lends the last of them.
pub record Hears (r : LineReading) (demanded unheard : List ℕ) (coming : Option (List ℕ)) (rest : List ℕ) (left : Option (List ℕ)) (lent : Option Message) : Type 0 where
  pub messages : List (List ℕ)
  pub read : List ℕ
  pub each : All (IsMessage r) messages
  pub meets : Meets demanded messages
  pub last : IsLast r messages lent
  pub consumed : Consumes coming left read
  pub cut : unheard ++ read ≡ concat messages ++ rest

-- Messages arrived that agree with a line, and more of its bytes are demanded.
pub record HearsPart (r : LineReading) (demanded unheard : List ℕ) (coming : Option (List ℕ)) (rest : List ℕ) (left : Option (List ℕ)) (wanted : List ℕ) : Type 0 where
  pub messages : List (List ℕ)
  pub read : List ℕ
  pub each : All (IsMessage r) messages
  pub agrees : Agrees demanded messages wanted
  pub consumed : Consumes coming left read
  pub cut : unheard ++ read ≡ concat messages ++ rest

-- the next message is not what is wanted, or there is none
abbrev pub ComesOtherwise : LineReading → Difference → (demanded wanted unheard : List ℕ) → (coming left : Option (List ℕ)) → StreamState → Type 0
ComesOtherwise r (Other at) demanded wanted unheard coming left stream =
    (rest : List ℕ) × (next : NextMessage r unheard coming rest left stream) × AreApart wanted next.bytes × (at + length wanted ≡ length demanded)
ComesOtherwise r (Closed have) demanded wanted unheard coming left stream = NoMessage r (Closed have) unheard coming left
ComesOtherwise r (Malformed place why) demanded wanted unheard coming left stream = NoMessage r (Malformed place why) unheard coming left
ComesOtherwise r Read demanded wanted unheard coming left stream = NoMessage r Read unheard coming left
ComesOtherwise r (Surplus count) demanded wanted unheard coming left stream = ⊥
ComesOtherwise r Write demanded wanted unheard coming left stream = ⊥

-- After messages that agree with a line, something else arrived than it demands.
pub record Differs (r : LineReading) (why : Difference) (demanded unheard : List ℕ) (coming left : Option (List ℕ)) (stream : StreamState) : Type 0 where
  pub wanted : List ℕ
  pub rest : List ℕ
  pub between : Option (List ℕ)
  pub part : HearsPart r demanded unheard coming rest between wanted
  pub last : ComesOtherwise r why demanded wanted rest between left stream

-- An own line was sent, with the number of the prepared name if there is one.
pub record Sent (bytes : List ℕ) (old new : LineState) : Type 0 where
  pub heard : old.unheard ≡ []
  pub sent : Appends old.written new.written (sent_as old.names.next bytes)
  pub is : new ≡ line_state [] old.coming new.written old.lent (used old.names)

-- The messages of a line arrived.
pub record Heard (r : LineReading) (bytes : List ℕ) (old new : LineState) : Type 0 where
  pub hears : Hears r bytes old.unheard old.coming new.unheard new.coming new.lent
  pub is : new ≡ line_state new.unheard new.coming old.written new.lent old.names

-- A step was played. Before an own line, no unheard bytes were left.
abbrev pub Played : LineReading → Act → (old new : LineState) → Type 0
Played r (send bytes) old new = Sent bytes old new
Played r (await bytes) old new = Heard r bytes old new
Played r break old new = ⊥
Played r (wait milliseconds) old new = new ≡ old
Played r silence old new = ⊥
Played r (listen milliseconds) old new = ⊥
Played r (bind field name) old new = Binds field name old.lent old.names new.names × (new ≡ with_names old new.names)
Played r (same field name) old new = IsNumbered field name old.lent old.names × (new ≡ old)
Played r (prepare field name) old new = new ≡ with_names old (prepared name old.names)

-- A step ends the play over one connection. Before the connection is broken or listened to, no unheard bytes are left.
abbrev pub EndsLine : Act → LineState → Type 0
EndsLine (send bytes) state = ⊥
EndsLine (await bytes) state = ⊥
EndsLine break state = state.unheard ≡ []
EndsLine (wait milliseconds) state = ⊥
EndsLine silence state = ⊤
EndsLine (listen milliseconds) state = state.unheard ≡ []
EndsLine (bind field name) state = ⊥
EndsLine (same field name) state = ⊥
EndsLine (prepare field name) state = ⊥

-- more was read than was awaited
abbrev pub IsSurplus : (count : ℕ) → (old new : LineState) → Type 0
IsSurplus count old new = (count ≡ length old.unheard) × (0 < count) × (new ≡ old)

-- A step could not be played.
abbrev pub Stops : LineReading → Difference → Act → (old new : LineState) → StreamState → Type 0
Stops r why (await bytes) old new stream = Differs r why bytes old.unheard old.coming new.coming stream × (new.written ≡ old.written) × (new.names ≡ old.names)
Stops r (Surplus count) (send bytes) old new stream = IsSurplus count old new
Stops r (Surplus count) break old new stream = IsSurplus count old new
Stops r (Surplus count) (listen milliseconds) old new stream = IsSurplus count old new
Stops r Write (send bytes) old new stream = (old.unheard ≡ []) × (new.coming ≡ old.coming) × (part : List ℕ) × IsPrefix part (sent_as old.names.next bytes) × Appends old.written new.written part
Stops r (Other at) (bind field name) old new stream = (at ≡ 0) × HasNoNew field old.lent old.names × (new ≡ old)
Stops r (Other at) (same field name) old new stream = (at ≡ 0) × (IsNumbered field name old.lent old.names → ⊥) × (new ≡ old)
Stops r why act old new stream = ⊥

-- the result of one step: it was played, or it ends the play over the connection
abbrev pub PlaysStep : LineReading → Act → (goes_on : Bool) → (old new : LineState) → Type 0
PlaysStep r act true old new = Played r act old new
PlaysStep r act false old new = EndsLine act old × (new ≡ old)

-- ---- after the last line

-- the acknowledgement, if the other side owes one
abbrev pub may_come : (owed : Bool) → List ℕ
may_come true = 0x80 ∷ 0x00 ∷ 0x00 ∷ []
may_come false = []

-- After the last line, the other side sends nothing, or acknowledges the last message.
abbrev pub MayFollow : (owed : Bool) → List ℕ → Type 0
MayFollow owed bytes = (bytes ≡ []) ⊎ (bytes ≡ may_come owed)

-- A read brought nothing: the other side had closed the connection, or the read failed, for example by its timeout.
abbrev pub NoneCame : (coming left : Option (List ℕ)) → (failures failures_now : ℕ) → Type 0
NoneCame coming left failures failures_now = Consumes coming left [] × (IsAtEnd left ⊎ (failures_now ≡ failures + 1))

-- Only these bytes arrived after the last line, and the last read brought nothing.
pub record FallsSilent (owed : Bool) (coming left : Option (List ℕ)) (failures failures_now : ℕ) : Type 0 where
  pub came : List ℕ
  pub may_follow : MayFollow owed came
  pub consumed : Consumes coming left came
  pub silent : IsAtEnd left ⊎ (failures_now ≡ failures + 1)

-- This many bytes arrived after the last line, and they may not follow it.
pub record SaysMore (owed : Bool) (why : Difference) (coming left : Option (List ℕ)) : Type 0 where
  pub came : List ℕ
  pub may_not_follow : MayFollow owed came → ⊥
  pub consumed : Consumes coming left came
  pub surplus : why ≡ Surplus (length came)

-- What arrives is discarded, up to the first read that brings nothing, or for a million reads.
pub record StaysSilent (coming left : Option (List ℕ)) (failures failures_now reads reads_now : ℕ) : Type 0 where
  pub came : List ℕ
  pub consumed : Consumes coming left came
  pub each : reads_now ≤ reads + length came + 1
  pub few : reads_now ≤ reads + 1000000
  pub ended : IsAtEnd left ⊎ (failures_now ≡ failures + 1) ⊎ (reads_now ≡ reads + 1000000)

-- ---- the steps over one connection

abbrev pub acts_of : List ScriptStep → List Act
acts_of steps = map (λ step. act_of step.action) steps

-- the steps were played, one after another
abbrev pub Plays : LineReading → List Act → (old new : LineState) → Type 0
Plays r [] old new = new ≡ old
Plays r (act ∷ acts) old new = (middle : LineState) × Played r act old middle × Plays r acts middle new

-- the play over the connection ends before these steps: without unheard bytes, or in silence
abbrev pub EndsBefore : List Act → LineState → Type 0
EndsBefore [] state = state.unheard ≡ []
EndsBefore (act ∷ acts) state = EndsLine act state

-- the first of these steps, or the end, could not be played
abbrev pub StopsAt : LineReading → Difference → List Act → (old new : LineState) → StreamState → Type 0
StopsAt r why (act ∷ acts) old new stream = Stops r why act old new stream
StopsAt r (Surplus count) [] old new stream = IsSurplus count old new
StopsAt r (Other at) [] old new stream = ⊥
StopsAt r (Closed have) [] old new stream = ⊥
StopsAt r (Malformed place why) [] old new stream = ⊥
StopsAt r Read [] old new stream = ⊥
StopsAt r Write [] old new stream = ⊥

-- This many of the steps were played, and the play over the connection ends there.
pub record PlaysTo (r : LineReading) (steps : List ScriptStep) (count : ℕ) (old : LineState) (left written : Option (List ℕ)) (lent : Option Message) (names : Names) : Type 0 where
  pub unheard : List ℕ
  pub few : count ≤ length steps
  pub plays : Plays r (take count (acts_of steps)) old (line_state unheard left written lent names)
  pub ends : EndsBefore (drop count (acts_of steps)) (line_state unheard left written lent names)

-- The steps before this one were played, and this one could not be played.
pub record StopsPlay (r : LineReading) (steps : List ScriptStep) (unplayed : Unplayed) (old : LineState) (left written : Option (List ℕ)) (stream : StreamState) (names : Names) : Type 0 where
  pub middle : LineState
  pub unheard : List ℕ
  pub few : unplayed.step ≤ length steps
  pub plays : Plays r (take unplayed.step (acts_of steps)) old middle
  pub stops : StopsAt r unplayed.why (drop unplayed.step (acts_of steps)) middle (line_state unheard left written stream.lent names) stream

-- What a step sends: an own line, with the number of the prepared name if there is one. From its `bind` on, a name has the
-- number that arrived.
abbrev pub Sends : Act → (old new : Names) → (sent : List ℕ) → Type 0
Sends (send bytes) old new sent = (new ≡ used old) × (sent ≡ sent_as old.next bytes)
Sends (bind field name) old new sent = ((number : Number) × (new ≡ bound name number old)) × (sent ≡ [])
Sends (prepare field name) old new sent = (new ≡ prepared name old) × (sent ≡ [])
Sends (same field name) old new sent = (new ≡ old) × (sent ≡ [])
Sends (await bytes) old new sent = (new ≡ old) × (sent ≡ [])
Sends break old new sent = (new ≡ old) × (sent ≡ [])
Sends (wait milliseconds) old new sent = (new ≡ old) × (sent ≡ [])
Sends silence old new sent = (new ≡ old) × (sent ≡ [])
Sends (listen milliseconds) old new sent = (new ≡ old) × (sent ≡ [])

-- what the steps send, one after another
abbrev pub SendAll : List Act → (old new : Names) → (sent : List ℕ) → Type 0
SendAll [] old new sent = (new ≡ old) × (sent ≡ [])
SendAll (act ∷ acts) old new sent = (middle : Names) × (first : List ℕ) × (rest : List ℕ) × Sends act old middle first × SendAll acts middle new rest × (sent ≡ first ++ rest)

-- What the steps send was written.
abbrev pub WritesAll : List Act → (old new : Names) → (written written_now : Option (List ℕ)) → Type 0
WritesAll acts old new written written_now = (sent : List ℕ) × SendAll acts old new sent × Appends written written_now sent
