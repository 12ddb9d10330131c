-- The state after a judged byte.
use Rattle.std.specs.Prelude.{◌≡◌, ℕ, ◌+◌, ◌<◌, ◌≤◌, true, false, Some, None, Result, Ok, Err, List, [], ◌∷◌, ◌++◌, reverse}
use Rattle.zvt_grammar.specs.declared.why.Why.{Why}
use Rattle.zvt_grammar.specs.declared.why.Why.TheVariants.{DoesNotFit}
use Rattle.zvt_grammar.specs.Reading.{Reading}
use Rattle.zvt_apdu.specs.Grammar.{IsFrameLength}
use Rattle.zvt_apdu.specs.Judging.{fault, layout_of, can_fill}
use Rattle.zvt_stream.specs.Parts.{At}
use Rattle.zvt_stream.specs.Parts as at
use Rattle.zvt_stream.specs.Parts.{Move}
use Rattle.zvt_stream.specs.Parts.{Within, Ends, Opens}
use Rattle.zvt_stream.specs.declared.transitions.Goes.{Goes}
use Rattle.zvt_stream.specs.declared.transitions.Levels.{Levels}
use Rattle.zvt_stream.specs.declared.transitions.Part.{Part}
use Rattle.zvt_stream.specs.declared.transitions.Part.TheVariants as part
use Rattle.zvt_stream.specs.declared.transitions.Transition.{Transition}
use Rattle.zvt_stream.specs.declared.transitions.Transition.TheVariants as code
use Rattle.zvt_stream.specs.DecoderState.{Where, Between, HasDigits, depth_of, role_of}

-- ---- what the code keeps

abbrev pub at_part : Part → (more : ℕ) → Levels → At
at_part part.FirstControl more levels = at.FirstControl
at_part part.SecondControl more levels = at.SecondControl levels.high
at_part part.FirstSize more levels = at.FirstSize levels.high levels.low
at_part part.LowSize more levels = at.LowSize levels.high levels.low
at_part part.HighSize more levels = at.HighSize levels.high levels.low levels.number
at_part part.Payload more levels = at.Payload
at_part part.Head more levels = at.Head more levels.number
at_part part.Name more levels = at.Name
at_part part.Digit more levels = at.Digit more levels.number
at_part part.Content more levels = at.Content false more
at_part part.Digits more levels = at.Content true more
at_part part.Container more levels = at.Container levels.length
at_part part.Tag more levels = at.Tag levels.tag
at_part part.Length more levels = at.Length levels.nests levels.length
at_part part.Object more levels = at.Object more

-- the part of the next byte, with what its tests need to know
abbrev pub at_in : Goes → Levels → At
at_in goes levels = at_part goes.part goes.more levels

-- the levels around the innermost one, from the inside out
abbrev pub outer_of : Levels → List ℕ
outer_of levels = reverse levels.outer.items

abbrev pub move_of : Transition → Goes → Levels → Move
move_of code.Within goes levels = Within (at_in goes levels) goes.left
move_of code.Ends goes levels = Ends goes.left
move_of (code.Opens trailing) goes levels = Opens trailing goes.left

abbrev pub leads_to : Result Transition Why → Goes → Levels → Result Move Why
leads_to (Ok moved) goes levels = Ok (move_of moved goes levels)
leads_to (Err why) goes levels = Err why

abbrev pub opens : ℕ → Transition
opens trailing = code.Opens trailing

-- the control bytes and the levels around the innermost one stay
abbrev pub Keeps : (old new : Levels) → Type 0
Keeps old new = (new.high ≡ old.high) × (new.low ≡ old.low) × (new.outer ≡ old.outer)

-- ---- what a byte leads to

-- What is known after the byte.
abbrev pub Leads : Reading → Move → (outer : List ℕ) → (bytes : List ℕ) → Type 0
Leads r (Within at left) outer bytes = Where r at left outer bytes
Leads r (Ends left) outer bytes = Between r left outer bytes
Leads r (Opens trailing left) outer bytes = Between r left (trailing ∷ outer) bytes

-- A byte after these bytes: the next state if its tests pass, or else the reason of the first test that fails.
abbrev pub Moves : Reading → At → (left : ℕ) → (outer : List ℕ) → (bytes : List ℕ) → (byte : ℕ) → Result Move Why → Type 0
Moves r at left outer bytes byte (Ok move) = (fault r (role_of at left (depth_of outer)) byte ≡ None) × Leads r move outer (bytes ++ byte ∷ [])
Moves r at left outer bytes byte (Err why) = fault r (role_of at left (depth_of outer)) byte ≡ Some why

-- The same after any bytes that lead to this role.
abbrev pub Judges : Reading → At → (left depth : ℕ) → (byte : ℕ) → Result Move Why → Type 0
Judges r at left depth byte result = (outer bytes : List ℕ) → depth ≡ depth_of outer → Where r at left outer bytes → Moves r at left outer bytes byte result

-- The same at every depth, in terms of the state that the code keeps before and after the byte.
abbrev pub Judged : Reading → Part → Goes → Levels → (byte : ℕ) → Result Transition Why → Goes → Levels → Type 0
Judged r part goes levels byte result new now = (depth : ℕ) → Judges r (at_part part goes.more levels) goes.left depth byte (leads_to result new now)

-- Data of n bytes begins after these control bytes and this length.
abbrev pub BeginsData : Reading → (high low n : ℕ) → Result Move Why → Type 0
BeginsData r high low n (Ok move) =
    (can_fill (layout_of high low n) n ≡ true)
    × ((size bytes : List ℕ) → (high < 256) × (low < 256) → IsFrameLength r n size → bytes ≡ high ∷ low ∷ (size ++ []) → Leads r move [] bytes)
BeginsData r high low n (Err why) = (why ≡ DoesNotFit) × (can_fill (layout_of high low n) n ≡ false)

-- The numbers that the role of a byte needs.
abbrev pub IsReady : At → (left : ℕ) → Type 0
IsReady at.FirstControl left = Unit {0}
IsReady (at.SecondControl high) left = Unit {0}
IsReady (at.FirstSize high low) left = Unit {0}
IsReady (at.LowSize high low) left = Unit {0}
IsReady (at.HighSize high low size_low) left = Unit {0}
IsReady at.Payload left = 0 < left
IsReady (at.Head free digits) left = (0 < free + digits) × (free + digits ≤ left)
IsReady at.Name left = 2 ≤ left
IsReady (at.Digit more before) left = HasDigits more before left
IsReady (at.Content digits more) left = (0 < more) × (more ≤ left)
IsReady (at.Container at) left = 1 ≤ left
IsReady (at.Tag at) left = 2 ≤ left
IsReady (at.Length nests at) left = 1 ≤ left
IsReady (at.Object more) left = (0 < more) × (more ≤ left)
