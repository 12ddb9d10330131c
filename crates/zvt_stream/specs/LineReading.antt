-- How the bytes of a line are read: a frame whose data is no message breaks the line, or counts as a message.
use Rattle.std.specs.Prelude.{◌≡◌, ◌⊎◌, ℕ, ◌+◌, suc, Bool, true, false, List, [], ◌++◌, length, map}
use Rattle.zvt_grammar.specs.Beginnings as beginnings
use Rattle.zvt_grammar.specs.Cuts as cuts
use Rattle.zvt_grammar.specs.Laws.{CutsAreOne, PrefixesOfCut, Growth}
use Rattle.zvt_grammar.specs.Lengths.{reading_of}
use Rattle.zvt_grammar.specs.Reading.{Reading, AreBytes}
use Rattle.zvt_grammar.specs.declared.why.Why.{Why}
use Rattle.zvt_apdu.specs.Kinds.{kind_at}
use Rattle.zvt_apdu.specs.declared.kinds.Kind.{Kind}
use Rattle.zvt_apdu.specs.declared.kinds.Kind.TheVariants as kind
use Rattle.zvt_apdu.specs.Message.{Message, abort, completion, other, status}
use Rattle.zvt_apdu.specs.Grammar as grammar
use Rattle.zvt_stream.specs.declared.form.LineForm.{LineForm}
use Rattle.zvt_stream.specs.Apdus.{CutIn, AliveIn, IsRefusedIn, PlaceIn}
use Rattle.zvt_stream.specs.declared.head.Head.{Head}
use Rattle.zvt_stream.specs.declared.head.Head.TheVariants.{Empty, One, Two}
use Rattle.zvt_stream.specs.OpenReading.{OpenCutIn, OpenItem, OpenSpells, read, unread}

-- Such a frame breaks the line, or is passed; lengths are read in either way.
pub data LineReading : Type 0 where
  strictly : (lengths : Reading) → LineReading
  openly : (lengths : Reading) → LineReading

abbrev pub lengths_of : LineReading → Reading
lengths_of (strictly r) = r
lengths_of (openly r) = r

abbrev pub is_open : LineReading → Bool
is_open (strictly r) = false
is_open (openly r) = true

abbrev pub line_reading : (is_open : Bool) → Reading → LineReading
line_reading false r = strictly r
line_reading true r = openly r

-- What an unread frame of this kind counts as: a status that says nothing, a completion, an abort whose reason is unknown,
-- or a message that nobody expects.
abbrev pub stand_in : Kind → Message
stand_in kind.Status = status []
stand_in kind.Completion = completion []
stand_in kind.Abort = abort 0xFF []
stand_in _ = other 0xFF 0xFF []

-- The kind that the first bytes of a frame name.
abbrev pub kind_named : Head → Kind
kind_named (Two high low) = kind_at high low
kind_named (One high) = kind.Other
kind_named Empty = kind.Other

abbrev pub heard_of : OpenItem → Message
heard_of (read message) = message
heard_of (unread high low size before byte why) = stand_in (kind_at high low)

-- The bytes are read as the message: they spell it; or, on an open line, they are an unread frame that counts as it.
abbrev pub Reads : LineReading → Message → List ℕ → Type 0
Reads (strictly r) message bytes = grammar.Spells r message bytes
Reads (openly r) message bytes = (item : OpenItem) × OpenSpells r item bytes × (heard_of item ≡ message)

-- Some message begins with the bytes.
abbrev pub AliveBy : LineReading → List ℕ → Type 0
AliveBy l = beginnings.Alive (Reads l)

-- No message is a prefix of the bytes.
abbrev pub NoneWholeBy : LineReading → List ℕ → Type 0
NoneWholeBy l = beginnings.NoneWhole (Reads l)

-- The bytes begin a message and hold none.
abbrev pub UnfinishedBy : LineReading → List ℕ → Type 0
UnfinishedBy l = beginnings.Unfinished (Reads l)

-- The bytes are refused, which breaks the line. An open line never breaks so.
abbrev pub IsRefusedBy : LineReading → List ℕ → (place : ℕ) → Why → Type 0
IsRefusedBy (strictly r) bytes place why = IsRefusedIn r bytes place why
IsRefusedBy (openly r) bytes place why = ⊥

-- The bytes are the messages one after another, then the rest.
abbrev pub SpelledBy : LineReading → List ℕ → List Message → (rest : List ℕ) → Type 0
SpelledBy l = cuts.Spelled (Reads l)

-- The messages of the bytes, and the rest, which begins with no message.
abbrev pub CutBy : LineReading → List ℕ → List Message → (rest : List ℕ) → Type 0
CutBy l = cuts.Cut (Reads l)

-- The reading that the code's choices ask for.
abbrev pub reading_as : LineForm → LineReading
reading_as form = line_reading form.passes (reading_of form.lengths)

-- The bytes of one message, or of its beginning, are judged up to the first after which no message can follow.
abbrev pub JudgedOf : Reading → (bytes : List ℕ) → (count : ℕ) → Type 0
JudgedOf r bytes count = (AliveIn r bytes × (count ≡ length bytes)) ⊎ ((place : ℕ) × PlaceIn r bytes place × (count ≡ suc place))

-- How many bytes were judged of those taken after the held ones: each once, and none after the one that is refused.
abbrev pub Judges : LineReading → (held taken : List ℕ) → (old new : ℕ) → Type 0
Judges (strictly r) held taken old new = new ≡ old + length taken
Judges (openly r) held taken old new = (before all : ℕ) × JudgedOf r held before × JudgedOf r (held ++ taken) all × (new + before ≡ old + all)

-- ---- laws

-- A line has one cut, a prefix of the line has a prefix of its messages, and more bytes change none of them.
pub record LineCutsAreOne (l : LineReading) : Type 0 where
  pub one : CutsAreOne (Reads l)
  pub prefixes : PrefixesOfCut (Reads l)
  pub growth : Growth (Reads l)

-- The messages of an open line are those that its items count as.
abbrev pub OpenLinesAreHeard : Reading → Type 0
OpenLinesAreHeard r = (bytes : List ℕ) (items : List OpenItem) (rest : List ℕ) → OpenCutIn r bytes items rest → CutBy (openly r) bytes (map heard_of items) rest

-- Of the same bytes, the same number is judged.
abbrev pub JudgedOnce : Reading → Type 0
JudgedOnce r = (bytes : List ℕ) (m n : ℕ) → JudgedOf r bytes m → JudgedOf r bytes n → m ≡ n

-- Each open line has a cut, and its rest can always be completed.
abbrev pub EachOpenLineIsHeard : Reading → Type 0
EachOpenLineIsHeard r = (bytes : List ℕ) → AreBytes bytes → (messages : List Message) × (rest : List ℕ) × CutBy (openly r) bytes messages rest × AliveBy (openly r) rest

-- Where the rest of a line's strict cut is not dead, both readings hear the same.
abbrev pub OpenHearsStrict : Reading → Type 0
OpenHearsStrict r = (bytes : List ℕ) (messages : List Message) (rest : List ℕ) → CutIn r bytes messages rest → AliveIn r rest → CutBy (openly r) bytes messages rest
