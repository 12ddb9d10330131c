-- The open reading of a line: a frame ends where its length says, whether or not its data can be read.
use Rattle.std.specs.Prelude.{◌≡◌, ℕ, ◌<◌, List, ◌∷◌, ◌++◌, length, map}
use Rattle.zvt_grammar.specs.Beginnings.{Alive}
use Rattle.zvt_grammar.specs.Cuts as cuts
use Rattle.zvt_grammar.specs.Laws.{CutsAreOne, PrefixesOfCut, Growth}
use Rattle.zvt_grammar.specs.Reading.{Reading, AreBytes, padded}
use Rattle.zvt_grammar.specs.declared.why.Why.{Why}
use Rattle.zvt_apdu.specs.Message.{Message}
use Rattle.zvt_apdu.specs.Grammar.{IsFrameLength, Spells}
use Rattle.zvt_stream.specs.Apdus.{AliveIn, CutIn, IsRefusedIn}

-- Two control bytes, a length in either form, and as many bytes of data.
pub record IsFrame (high low : ℕ) (bytes : List ℕ) : Type 0 where
  pub size : List ℕ
  pub content : List ℕ
  pub whole : bytes ≡ high ∷ low ∷ (size ++ content)
  pub are_bytes : (high < 256) × (low < 256)
  pub is_size : IsFrameLength padded (length content) size

-- Some bytes are a frame.
abbrev pub IsFramed : List ℕ → Type 0
IsFramed bytes = (high : ℕ) × (low : ℕ) × IsFrame high low bytes

-- A message, or a frame that holds none: its control bytes, its size, its bytes before the first after which no message
-- can follow, that byte, and the reason.
pub data OpenItem : Type 0 where
  read : (message : Message) → OpenItem
  unread : (high low size : ℕ) → (before : List ℕ) → (byte : ℕ) → (why : Why) → OpenItem

-- The bytes spell the item.
abbrev pub OpenSpells : Reading → OpenItem → List ℕ → Type 0
OpenSpells r (read message) bytes = Spells r message bytes
OpenSpells r (unread high low size before byte why) bytes =
    IsFrame high low bytes × (size ≡ length bytes) × IsRefusedIn r bytes (length before) why × ((later : List ℕ) × (bytes ≡ before ++ byte ∷ later))

-- The items of a line, and the rest, which has no complete frame.
abbrev pub OpenCutIn : Reading → List ℕ → List OpenItem → (rest : List ℕ) → Type 0
OpenCutIn r = cuts.Cut (OpenSpells r)

-- ---- laws

-- A line has one open cut, a prefix of the line has a prefix of its items, and more bytes change none of them.
pub record OpenCutsAreOne (r : Reading) : Type 0 where
  pub one : CutsAreOne (OpenSpells r)
  pub prefixes : PrefixesOfCut (OpenSpells r)
  pub growth : Growth (OpenSpells r)

-- Each line has an open cut, and its rest can always be completed: no rest is dead.
abbrev pub EachLineIsCut : Reading → Type 0
EachLineIsCut r = (bytes : List ℕ) → AreBytes bytes → (items : List OpenItem) × (rest : List ℕ) × OpenCutIn r bytes items rest × Alive (OpenSpells r) rest

-- Where the rest of a line's cut is not dead, the open cut is the same messages.
abbrev pub OpenIsStrict : Reading → Type 0
OpenIsStrict r = (bytes : List ℕ) (messages : List Message) (rest : List ℕ) → CutIn r bytes messages rest → AliveIn r rest → OpenCutIn r bytes (map read messages) rest
