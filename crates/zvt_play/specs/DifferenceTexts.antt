-- The text about a step that could not be played.
use Rattle.std.specs.Prelude.{◌≡◌, ◌⊎◌, ℕ, List, [], ◌∷◌, ◌++◌, codes, length, take, drop, min, Option, Some, None}
use Rattle.std.specs.Borrow.{Bor}
use Rattle.std.specs.Fmt.{decimal}
use Rattle.hex.specs.Hex.{encode_upper}
use Rattle.zvt_grammar.specs.Names.{why_name}
use Rattle.zvt_grammar.specs.declared.why.Why.{Why}
use Rattle.zvt_apdu.specs.Grammar.{Spells}
use Rattle.zvt_apdu.specs.Message.{Message}
use Rattle.zvt_text.specs.MessageTexts.{said}
use Rattle.zvt_text.specs.TextOptions.{safe_text}
use Rattle.zvt_trace.specs.Emitting.{other}
use Rattle.zvt_trace.specs.Lines.{direction_text}
use Rattle.zvt_trace.specs.declared.direction.Direction.{Direction}
use Rattle.zvt_stream.specs.LineReading.{IsRefusedBy, LineReading, UnfinishedBy, openly, strictly}
use Rattle.zvt_stream.specs.OpenReading.{OpenItem, OpenSpells, read, unread}
use Rattle.zvt_play.specs.Numbers.{bmp_of, bytes_in, named}
use Rattle.zvt_play.specs.declared.numbers.Names.{Names}
use Rattle.zvt_play.specs.declared.numbers.Number.{Number}
use Rattle.zvt_play.specs.declared.numbers.NumberField.{NumberField}
use Rattle.zvt_play.specs.declared.difference.Difference.{Difference}
use Rattle.zvt_play.specs.declared.difference.Difference.TheVariants.{Closed, Malformed, Other, Read, Surplus, Write}
use Rattle.zvt_play.specs.declared.step.Action.{Action}
use Rattle.zvt_play.specs.declared.step.Action.TheVariants.{Await, Bind, Break, Listen, Same, Send, Silence, Use, Wait}
use Rattle.zvt_play.specs.declared.step.ScriptStep.{ScriptStep}

-- where in the trace a step is
abbrev pub place_text : Option (Bor ScriptStep) → List ℕ
place_text None = codes "the end of the trace"
place_text (Some step) = codes "line " ++ decimal step.now.line

-- this many bytes arrived before it that the trace does not have
abbrev pub surplus : Option (Bor ScriptStep) → (count : ℕ) → List ℕ
surplus step count = place_text step ++ codes ": " ++ decimal count ++ codes " bytes came before it that the trace does not have\n"

-- ---- a message, as it is named

-- where and why bytes are refused
abbrev pub refusal_text : (place : ℕ) → Why → List ℕ
refusal_text place why = codes "refused at " ++ decimal place ++ codes ": " ++ why_name why ++ 10 ∷ []

-- an unread message: its control bytes, its size, and where and why it is refused
abbrev pub unread_text : (control : List ℕ) → (size place : ℕ) → Why → List ℕ
unread_text control size place why = codes "unread " ++ encode_upper control ++ codes ", " ++ decimal size ++ codes " bytes, " ++ refusal_text place why

-- the safe text of a message, or what is said of one that is not read
abbrev pub item_text : OpenItem → List ℕ
item_text (read message) = said safe_text message
item_text (unread high low size before byte why) = unread_text (high ∷ low ∷ []) size (length before) why

-- the text of the message that these bytes are; on an open line it may be an unread one
abbrev pub SaysWhole : LineReading → (bytes text : List ℕ) → Type 0
SaysWhole (strictly r) bytes text = (message : Message) × Spells r message bytes × (text ≡ said safe_text message)
SaysWhole (openly r) bytes text = (item : OpenItem) × OpenSpells r item bytes × (text ≡ item_text item)

-- the bytes begin with a message, and the text is its text
abbrev pub SaysFirst : LineReading → (bytes text : List ℕ) → Type 0
SaysFirst r bytes text = (count : ℕ) × SaysWhole r (take count bytes) text

-- the first two of the bytes, and their number
abbrev pub beginning_text : List ℕ → List ℕ
beginning_text bytes =
    codes "a message that begins with " ++ encode_upper (take (min (length bytes) 2) bytes) ++ codes ", " ++ decimal (length bytes) ++ codes " bytes of it are given\n"

-- the bytes begin a message, or no message begins with them
abbrev pub SaysBeginning : LineReading → (bytes text : List ℕ) → Type 0
SaysBeginning r bytes text = (UnfinishedBy r bytes ⊎ ((place : ℕ) × (why : Why) × IsRefusedBy r bytes place why)) × (text ≡ beginning_text bytes)

abbrev pub SaysBytes : LineReading → (bytes text : List ℕ) → Type 0
SaysBytes r bytes text = SaysFirst r bytes text ⊎ SaysBeginning r bytes text

-- ---- what is awaited

abbrev pub SaysWanted : LineReading → (wanted text : List ℕ) → Type 0
SaysWanted r [] text = text ≡ codes "any message\n"
SaysWanted r (byte ∷ bytes) text = SaysBytes r (byte ∷ bytes) text

-- how many bytes of the step arrived before the difference
abbrev pub heard_before : Difference → ℕ
heard_before (Other at) = at
heard_before (Surplus count) = 0
heard_before (Closed have) = 0
heard_before (Malformed place why) = 0
heard_before Read = 0
heard_before Write = 0

-- no message is awaited
abbrev pub nothing_text : List ℕ
nothing_text = codes "nothing\n"

-- a field, by its BMP
abbrev pub field_text : NumberField → List ℕ
field_text field = codes "a message whose field " ++ encode_upper (bmp_of field ∷ []) ++ codes " has "

-- a name, and its number
abbrev pub name_text : (name : ℕ) → Option Number → List ℕ
name_text name None = codes "n" ++ decimal name
name_text name (Some number) = codes "n" ++ decimal name ++ codes " (" ++ encode_upper (bytes_in number) ++ codes ")"

abbrev pub new_text : NumberField → List ℕ
new_text field = field_text field ++ codes "a number that has no name yet\n"

abbrev pub same_text : NumberField → (name : ℕ) → Option Number → List ℕ
same_text field name number = field_text field ++ codes "the number " ++ name_text name number ++ 10 ∷ []

abbrev pub SaysAction : LineReading → Action → Names → Difference → (text : List ℕ) → Type 0
SaysAction r (Await bytes) names why text = SaysWanted r (drop (min (heard_before why) (length bytes.items)) bytes.items) text
SaysAction r (Send bytes) names why text = text ≡ nothing_text
SaysAction r Break names why text = text ≡ nothing_text
SaysAction r (Wait milliseconds) names why text = text ≡ nothing_text
SaysAction r Silence names why text = text ≡ nothing_text
SaysAction r (Listen milliseconds) names why text = text ≡ nothing_text
SaysAction r (Bind field name) names why text = text ≡ new_text field
SaysAction r (Same field name) names why text = text ≡ same_text field name (named names name)
SaysAction r (Use field name) names why text = text ≡ nothing_text

abbrev pub SaysAwaited : LineReading → Option (Bor ScriptStep) → Names → Difference → (text : List ℕ) → Type 0
SaysAwaited r None names why text = text ≡ nothing_text
SaysAwaited r (Some step) names why text = SaysAction r step.now.action names why text

-- ---- what arrived

-- the message that these bytes are, if any arrived
abbrev pub SaysCame : LineReading → Direction → (came : Option (Bor (List ℕ))) → (text : List ℕ) → Type 0
SaysCame r from None text = text ≡ []
SaysCame r from (Some bytes) text = (first : List ℕ) × SaysBytes r bytes.now first × (text ≡ direction_text from ++ codes " " ++ first)

abbrev pub closed_text : (have : ℕ) → List ℕ
closed_text have = codes "but the other side closed the connection after " ++ decimal have ++ codes " bytes of a message\n"

abbrev pub malformed_text : (place : ℕ) → Why → List ℕ
malformed_text place why = codes "but no message begins with what came: " ++ refusal_text place why

-- what arrived instead, or the reason why nothing did
abbrev pub SaysCause : LineReading → Direction → Difference → (came : Option (Bor (List ℕ))) → (text : List ℕ) → Type 0
SaysCause r from (Other at) came text = (instead : List ℕ) × SaysCame r from came instead × (text ≡ codes "but another message came\n" ++ instead)
SaysCause r from (Closed have) came text = text ≡ closed_text have
SaysCause r from (Malformed place why) came text = text ≡ malformed_text place why
SaysCause r from Read came text = text ≡ codes "but nothing came: the other side timed out, or the connection failed\n"
SaysCause r from (Surplus count) came text = text ≡ []
SaysCause r from Write came text = text ≡ []

-- ---- the whole text

-- what is awaited, and what arrived instead
abbrev pub SaysOther : LineReading → Direction → Option (Bor ScriptStep) → Names → Difference → (came : Option (Bor (List ℕ))) → (text : List ℕ) → Type 0
SaysOther r own step names why came text =
    (awaited : List ℕ) × (cause : List ℕ) × SaysAwaited r step names why awaited × SaysCause r (other own) why came cause
    × (text ≡ place_text step ++ codes " awaits\n" ++ direction_text (other own) ++ codes " " ++ awaited ++ cause)

-- the text about a step that could not be played, or about the end of the trace
abbrev pub SaysDifference : LineReading → Direction → Option (Bor ScriptStep) → Names → Difference → (came : Option (Bor (List ℕ))) → (text : List ℕ) → Type 0
SaysDifference r own step names (Surplus count) came text = text ≡ surplus step count
SaysDifference r own step names (Other at) came text = SaysOther r own step names (Other at) came text
SaysDifference r own step names (Closed have) came text = SaysOther r own step names (Closed have) came text
SaysDifference r own step names (Malformed place why) came text = SaysOther r own step names (Malformed place why) came text
SaysDifference r own step names Read came text = SaysOther r own step names Read came text
SaysDifference r own step names Write came text = SaysOther r own step names Write came text
