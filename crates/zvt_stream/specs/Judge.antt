-- The judge as its callers see it, and what it answers.
use Rattle.std.specs.Prelude.{◌≡◌, ◌⊎◌, Bool, true, false, ℕ, ◌+◌, ◌<◌, ◌≤◌, suc, zero, Option, Some, None, Result, Ok, Err, List, [], ◌∷◌, ◌++◌, length, min, take}
use Rattle.zvt_grammar.specs.declared.why.Why.{Why}
use Rattle.zvt_grammar.specs.Reading.{Reading, shortest}
use Rattle.zvt_apdu.specs.Message.{Message}
use Rattle.zvt_apdu.specs.Grammar.{Spells}
use Rattle.zvt_tlv.specs.Judging.{Opener}
use Rattle.zvt_apdu.specs.Judging.{Role, first_control, second_control, first_size, low_size, high_size, free, digit, in_fields, Position}
use Rattle.zvt_stream.specs.Apdus.{UnfinishedIn, IsRefusedIn}
use Rattle.zvt_stream.specs.LineReading.{LineReading, openly, strictly}
use Rattle.zvt_stream.specs.DecoderState.{Where, IsFull, depth_of, role_of}
use Rattle.zvt_stream.specs.Parts.{At}
use Rattle.zvt_stream.specs.Parts as at
use Rattle.zvt_stream.specs.Moves.{Leads, at_in, move_of, outer_of}
use Rattle.zvt_stream.specs.declared.transitions.Goes.{Goes}
use Rattle.zvt_stream.specs.declared.transitions.Levels.{Levels}
use Rattle.zvt_stream.specs.declared.transitions.Part.{Part}
use Rattle.zvt_stream.specs.declared.transitions.Part.TheVariants as part
use Rattle.zvt_stream.specs.declared.transitions.Transition.{Transition}
use Rattle.zvt_stream.specs.declared.judge.Judged.{Judged}
use Rattle.zvt_stream.specs.declared.judge.Judged.TheVariants.{Open, Ended}
use Rattle.zvt_stream.specs.declared.judge.DecodeRun.{DecodeRun}
use Rattle.zvt_stream.specs.declared.judge.DecodeRun.TheVariants as run
use Rattle.zvt_stream.specs.declared.judge.Steps.{Steps}
use Rattle.zvt_stream.specs.declared.head.Head.{Head}
use Rattle.zvt_stream.specs.declared.head.Head.TheVariants.{Empty, One, Two}
use Rattle.zvt_stream.specs.Head.{head_of}

-- The reading of lengths, the role of the next byte, the number of bytes missing in the innermost level, the number
-- missing after the open item of each level around it, from the inside out, and the control bytes.
pub record JudgeState : Type 0 where
  pub reading : Reading
  pub at : At
  pub left : ℕ
  pub outer : List ℕ
  pub head : Head

-- the control bytes, as far as they have arrived
abbrev pub head_at : Part → Levels → Head
head_at part.FirstControl levels = Empty
head_at part.SecondControl levels = One levels.high
head_at part.FirstSize levels = Two levels.high levels.low
head_at part.LowSize levels = Two levels.high levels.low
head_at part.HighSize levels = Two levels.high levels.low
head_at part.Payload levels = Two levels.high levels.low
head_at part.Head levels = Two levels.high levels.low
head_at part.Name levels = Two levels.high levels.low
head_at part.Digit levels = Two levels.high levels.low
head_at part.Content levels = Two levels.high levels.low
head_at part.Digits levels = Two levels.high levels.low
head_at part.Container levels = Two levels.high levels.low
head_at part.Tag levels = Two levels.high levels.low
head_at part.Length levels = Two levels.high levels.low
head_at part.Object levels = Two levels.high levels.low

-- the state that the code keeps represents this
abbrev pub state_of : Reading → Goes → Levels → JudgeState
state_of r goes levels = record { reading = r; at = at_in goes levels; left = goes.left; outer = outer_of levels; head = head_at goes.part levels }

abbrev pub start : Reading → JudgeState
start r = record { reading = r; at = at.FirstControl; left = 1; outer = []; head = Empty }

-- The bytes are the start of a message, not a whole one, and this is what they leave open.
pub record StandsFor (judge : JudgeState) (bytes : List ℕ) : Type 0 where
  pub unfinished : UnfinishedIn judge.reading bytes
  pub stands : Where judge.reading judge.at judge.left judge.outer bytes
  pub prefix : judge.head ≡ head_of bytes

-- It represents some bytes.
abbrev pub IsJudge : JudgeState → Type 0
IsJudge judge = (bytes : List ℕ) × StandsFor judge bytes

abbrev pub IsMessageIn : Reading → List ℕ → Type 0
IsMessageIn r bytes = (message : Message) × Spells r message bytes

abbrev pub IsMessage : List ℕ → Type 0
IsMessage = IsMessageIn shortest

-- After these bytes the byte gives this answer.
abbrev pub Stepped : Reading → (bytes : List ℕ) → (byte : ℕ) → Result Judged Why → (new : JudgeState) → Type 0
Stepped r bytes byte (Ok Open) new = StandsFor new (bytes ++ byte ∷ []) × (new.reading ≡ r)
Stepped r bytes byte (Ok Ended) new = IsMessageIn r (bytes ++ byte ∷ []) × (new ≡ start r)
Stepped r bytes byte (Err why) new = IsRefusedIn r (bytes ++ byte ∷ []) (length bytes) why × (new ≡ start r)

-- The same before the judge returns to the start of a message.
abbrev pub Advances : Reading → (bytes : List ℕ) → (byte : ℕ) → Result Judged Why → (new : JudgeState) → Type 0
Advances r bytes byte (Ok Open) new = StandsFor new (bytes ++ byte ∷ [])
Advances r bytes byte (Ok Ended) new = IsMessageIn r (bytes ++ byte ∷ []) × (new.outer ≡ [])
Advances r bytes byte (Err why) new = IsRefusedIn r (bytes ++ byte ∷ []) (length bytes) why

-- After these bytes more bytes give this answer.
abbrev pub Ran : Reading → (bytes more : List ℕ) → DecodeRun → (new : JudgeState) → Type 0
Ran r bytes more run.Open new = StandsFor new (bytes ++ more) × (new.reading ≡ r)
Ran r bytes more (run.Ended taken) new = (0 < taken) × (taken ≤ length more) × IsMessageIn r (bytes ++ take taken more) × (new ≡ start r)
Ran r bytes more (run.Refused at why) new = (at < length more) × IsRefusedIn r (bytes ++ take (suc at) more) (length bytes + at) why × (new ≡ start r)

-- The number of bytes judged.
abbrev pub judged_of : Steps → ℕ
judged_of steps = steps.judged.count

-- The number of bytes that a run takes.
abbrev pub taken_by : (more : List ℕ) → DecodeRun → ℕ
taken_by more run.Open = length more
taken_by more (run.Ended taken) = taken
taken_by more (run.Refused at why) = suc at

-- The number of bytes that a run keeps.
abbrev pub kept_by : (more : List ℕ) → DecodeRun → ℕ
kept_by more run.Open = length more
kept_by more (run.Ended taken) = taken
kept_by more (run.Refused at why) = 0

-- There is room for this many more bytes of the message, up to the longest one.
abbrev pub HasRoomFor : JudgeState → (more room : ℕ) → Type 0
HasRoomFor judge more room = (held : List ℕ) × StandsFor judge held × (min (length held + more) 65540 ≤ length held + room)

-- The number of open levels: the frame, the fields, and those that the openers lead into.
abbrev pub levels_of : Role → List Opener → ℕ
levels_of first_control openers = 1
levels_of second_control openers = 1
levels_of (first_size high low) openers = 1
levels_of (low_size high low) openers = 1
levels_of (high_size high low size_low) openers = 1
levels_of free openers = 1
levels_of digit openers = 1
levels_of (in_fields role left) openers = 2 + length openers

abbrev pub HasLevelsIn : Reading → (bytes : List ℕ) → ℕ → Type 0
HasLevelsIn r bytes levels = (openers : List Opener) × (role : Role) × Position r openers bytes role × (levels ≡ levels_of role openers)

abbrev pub HasLevels : (bytes : List ℕ) → ℕ → Type 0
HasLevels = HasLevelsIn shortest

-- Of a frame that is not read, the frame alone is open.
abbrev pub HasLevelsBy : LineReading → (bytes : List ℕ) → ℕ → Type 0
HasLevelsBy (strictly r) bytes levels = HasLevelsIn r bytes levels
HasLevelsBy (openly r) bytes levels = HasLevelsIn r bytes levels ⊎ (((place : ℕ) × (why : Why) × IsRefusedIn r bytes place why) × (levels ≡ 1))

-- The levels that still lack bytes, without the full ones.
abbrev pub unfilled : (left : ℕ) → (outer : List ℕ) → Option (ℕ × List ℕ)
unfilled zero [] = None
unfilled zero (k ∷ ks) = unfilled k ks
unfilled (suc left) outer = Some (suc left, outer)

abbrev pub Closes : (left : ℕ) → (old new : List ℕ) → Option ℕ → Type 0
Closes left old new None = (unfilled left old ≡ None) × (new ≡ [])
Closes left old new (Some n) = unfilled left old ≡ Some (n, new)

-- This role is rare.
abbrev pub is_rare : Part → Bool
is_rare part.LowSize = true
is_rare part.HighSize = true
is_rare part.Head = true
is_rare part.Container = true
is_rare part.Tag = true
is_rare part.Length = true
is_rare _ = false

-- Where a message begins.
abbrev pub beginning : Goes
beginning = record { part = part.FirstControl; more = 0; left = 1 }

-- After a complete item: the next one, or the end of the message.
abbrev pub Settles : Reading → (old : Levels) → (goes : Goes) → (new : Levels) → (bytes : List ℕ) → Judged → Type 0
Settles r old goes new bytes Open = Where r (at_in goes new) goes.left (outer_of new) bytes × (new.high ≡ old.high) × (new.low ≡ old.low)
Settles r old goes new bytes Ended = IsFull r bytes × (outer_of new ≡ [])

-- The state after a byte that passed its tests. A byte that failed one leads nowhere.
abbrev pub Follows : Reading → Result Transition Why → (goes : Goes) → (levels : Levels) → Result Judged Why → (new_goes : Goes) → (new_levels : Levels) → (bytes : List ℕ) → Type 0
Follows r (Ok moved) goes levels (Ok judged) new_goes new_levels bytes =
    Leads r (move_of moved goes levels) (outer_of levels) bytes → Settles r levels new_goes new_levels bytes judged
Follows r (Ok moved) goes levels (Err why) new_goes new_levels bytes = ⊥
Follows r (Err why) goes levels result new_goes new_levels bytes = result ≡ Err why

-- A judge is at the position of its bytes in the grammar: at the role of the next byte, within as many levels as it
-- counts.
abbrev pub JudgesStand : Type 0
JudgesStand = (judge : JudgeState) (bytes : List ℕ) → StandsFor judge bytes →
    (openers : List Opener) × Position judge.reading openers bytes (role_of judge.at judge.left (depth_of judge.outer)) × (levels_of (role_of judge.at judge.left (depth_of judge.outer)) openers ≡ suc (length judge.outer))
