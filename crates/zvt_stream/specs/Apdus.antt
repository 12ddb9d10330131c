-- The notions that all grammars share, for messages: by a reading of lengths, and for their one spelling.
use Rattle.std.specs.Prelude.{ℕ, List}
use Rattle.zvt_grammar.specs.declared.why.Why.{Why}
use Rattle.zvt_grammar.specs.Reading.{Reading, shortest}
use Rattle.zvt_grammar.specs.Beginnings as beginnings
use Rattle.zvt_grammar.specs.Cuts as cuts
use Rattle.zvt_apdu.specs.Message.{Message}
use Rattle.zvt_apdu.specs.Grammar as grammar
use Rattle.zvt_apdu.specs.Judging.{WhyOf}

-- Some message begins with the bytes, by that reading.
abbrev pub AliveIn : Reading → List ℕ → Type 0
AliveIn r = beginnings.Alive (grammar.Spells r)

-- No message is a prefix of the bytes.
abbrev pub NoneWholeIn : Reading → List ℕ → Type 0
NoneWholeIn r = beginnings.NoneWhole (grammar.Spells r)

-- The bytes begin a message and hold none.
abbrev pub UnfinishedIn : Reading → List ℕ → Type 0
UnfinishedIn r = beginnings.Unfinished (grammar.Spells r)

-- The first byte after which no message can follow.
abbrev pub PlaceIn : Reading → List ℕ → (place : ℕ) → Type 0
PlaceIn r = beginnings.Place (grammar.Spells r)

-- No message is a prefix of the bytes, and the first byte after which none can follow is at this place, for this reason.
abbrev pub IsRefusedIn : Reading → List ℕ → (place : ℕ) → Why → Type 0
IsRefusedIn r bytes place why = NoneWholeIn r bytes × PlaceIn r bytes place × WhyOf r bytes place why

-- The bytes are the spellings of the messages one after another, then the rest.
abbrev pub SpelledIn : Reading → List ℕ → List Message → (rest : List ℕ) → Type 0
SpelledIn r = cuts.Spelled (grammar.Spells r)

-- The messages of the bytes, and the rest, which begins with no message.
abbrev pub CutIn : Reading → List ℕ → List Message → (rest : List ℕ) → Type 0
CutIn r = cuts.Cut (grammar.Spells r)

-- The bytes are the spelling of the message.
abbrev pub Spells : Message → List ℕ → Type 0
Spells = grammar.Spells shortest

-- Some message begins with the bytes.
abbrev pub Alive : List ℕ → Type 0
Alive = AliveIn shortest

-- No message is a prefix of the bytes.
abbrev pub NoneWhole : List ℕ → Type 0
NoneWhole = NoneWholeIn shortest

-- The bytes begin a message and hold none.
abbrev pub Unfinished : List ℕ → Type 0
Unfinished = UnfinishedIn shortest

-- The first byte after which no message can follow.
abbrev pub Place : List ℕ → (place : ℕ) → Type 0
Place = PlaceIn shortest

-- The first byte after which no message can follow is at the place, for that reason.
abbrev pub IsRefused : List ℕ → (place : ℕ) → Why → Type 0
IsRefused = IsRefusedIn shortest

-- The bytes are the spellings of the messages one after another, then the rest.
abbrev pub Spelled : List ℕ → List Message → (rest : List ℕ) → Type 0
Spelled = SpelledIn shortest

-- The messages of the bytes, and the rest, which begins with no message.
abbrev pub Cut : List ℕ → List Message → (rest : List ℕ) → Type 0
Cut = CutIn shortest
