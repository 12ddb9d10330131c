-- Laws of the grammar. Each holds in both readings of lengths, where it doesn't say which.
use Rattle.std.specs.Prelude.{◌≡◌, ◌≢◌, ◌↔◌, ℕ, ◌<◌, None, List, [], ◌∷◌, ◌++◌, length}
use Rattle.zvt_grammar.specs.Beginnings.{Alive, Unfinished}
use Rattle.zvt_grammar.specs.Laws.{EndThemselves}
use Rattle.zvt_grammar.specs.Laws as spelling
use Rattle.zvt_grammar.specs.Reading.{Reading, shortest}
use Rattle.zvt_grammar.specs.declared.answer.Scan.{Scan}
use Rattle.zvt_grammar.specs.declared.answer.Scan.TheVariants.{More}
use Rattle.zvt_tlv.specs.declared.trees.BadForest.{BadForest}
use Rattle.zvt_tlv.specs.Answers.{AnswersForest}
use Rattle.zvt_tlv.specs.Checks.{HasFault}
use Rattle.zvt_tlv.specs.Spelled.{HasSpelling}
use Rattle.zvt_tlv.specs.Grammar.{Objects, none, primitive, constructed, Spells}
use Rattle.zvt_tlv.specs.Judging.{Filled, AliveIn, Role, Opener, Position, fault}
use Rattle.zvt_tlv.specs.Sized.{Sized, SizedIn, PositionSized, AnswersSized}

-- Some objects have exactly that size, for each size but one byte.
abbrev pub EachSizeIsFilled : Type 0
EachSizeIsFilled = (r : Reading) (depth size : ℕ) → size ≢ 1 → (f : Objects) × (s : List ℕ) × Spells r depth f s × (length s ≡ size)

-- Bytes that are alive and don't fill the room are at a position.
abbrev pub EachBeginningStands : Type 0
EachBeginningStands = (r : Reading) (depth room : ℕ) (b : List ℕ) → AliveIn r depth room b → length b < room →
    (os : List Opener) × (at : ℕ) × (role : Role) × (left : ℕ) × Position r depth room os b at role left

-- They are at one alone.
abbrev pub PositionsAreOne : Type 0
PositionsAreOne = (r : Reading) (depth room : ℕ) (os qs : List Opener) (b : List ℕ) (at at' : ℕ) (role role' : Role) (left left' : ℕ) →
    Position r depth room os b at role left → Position r depth room qs b at' role' left' → (at ≡ at') × (role ≡ role') × (left ≡ left')

-- There, one more byte leaves the bytes alive exactly where its tests pass.
abbrev pub TestsDecide : Type 0
TestsDecide = (r : Reading) (depth room : ℕ) (os : List Opener) (b : List ℕ) (at : ℕ) (role : Role) (left x : ℕ) →
    AliveIn r depth room b → Position r depth room os b at role left → x < 256 →
    (fault r at role left x ≡ None) ↔ AliveIn r depth room (b ++ x ∷ [])

-- The same three for a length and its objects.
abbrev pub EachSizedBeginningStands : Type 0
EachSizedBeginningStands = (r : Reading) (room : ℕ) (b : List ℕ) → Unfinished (SizedIn r room) b →
    (os : List Opener) × (at : ℕ) × (role : Role) × (left : ℕ) × PositionSized r room os b at role left

abbrev pub SizedPositionsAreOne : Type 0
SizedPositionsAreOne = (r : Reading) (room : ℕ) (os qs : List Opener) (b : List ℕ) (at at' : ℕ) (role role' : Role) (left left' : ℕ) →
    PositionSized r room os b at role left → PositionSized r room qs b at' role' left' → (at ≡ at') × (role ≡ role') × (left ≡ left')

abbrev pub SizedTestsDecide : Type 0
SizedTestsDecide = (r : Reading) (room : ℕ) (os : List Opener) (b : List ℕ) (at : ℕ) (role : Role) (left x : ℕ) →
    Alive (SizedIn r room) b → PositionSized r room os b at role left → x < 256 →
    (fault r at role left x ≡ None) ↔ Alive (SizedIn r room) (b ++ x ∷ [])

-- A reader has one answer: no two of whole, more and refused hold together, and each of them has one value.
abbrev pub AnswersAreOne : Type 0
AnswersAreOne = (r : Reading) (depth room : ℕ) (bytes : List ℕ) (q q' : Scan Objects) →
    AnswersForest r depth room bytes q → AnswersForest r depth room bytes q' → q ≡ q'

abbrev pub SizedAnswersAreOne : Type 0
SizedAnswersAreOne = (r : Reading) (room : ℕ) (bytes : List ℕ) (q q' : Scan (Objects × ℕ)) →
    AnswersSized r room bytes q → AnswersSized r room bytes q' → q ≡ q'

-- More bytes leave each answer but More as it is: nothing after a whole, or after the place of a refusal, counts.
abbrev pub AnswersStay : Type 0
AnswersStay = (r : Reading) (depth room : ℕ) (bytes more : List ℕ) (q : Scan Objects) → q ≢ More →
    AnswersForest r depth room bytes q → AnswersForest r depth room (bytes ++ more) q

abbrev pub SizedAnswersStay : Type 0
SizedAnswersStay = (r : Reading) (room : ℕ) (bytes more : List ℕ) (q : Scan (Objects × ℕ)) → q ≢ More →
    AnswersSized r room bytes q → AnswersSized r room (bytes ++ more) q

-- One object alone.
abbrev pub IsOne : Objects → Type 0
IsOne none = ⊥
IsOne (primitive tag content none) = Unit {0}
IsOne (primitive tag content (primitive t c f)) = ⊥
IsOne (primitive tag content (constructed t i f)) = ⊥
IsOne (constructed tag inner none) = Unit {0}
IsOne (constructed tag inner (primitive t c f)) = ⊥
IsOne (constructed tag inner (constructed t i f)) = ⊥

-- The spelling of one object.
abbrev pub SpellsOne : Reading → (depth : ℕ) → Objects → List ℕ → Type 0
SpellsOne r depth object bytes = IsOne object × Spells r depth object bytes

-- Where two objects are at the start of the same bytes, they are one, in one spelling.
abbrev pub ObjectsEndThemselves : Type 0
ObjectsEndThemselves = (r : Reading) (depth : ℕ) → EndThemselves (SpellsOne r depth)

-- The same of two lists of objects that fill a room.
abbrev pub RoomsEndThemselves : Type 0
RoomsEndThemselves = (r : Reading) (depth room : ℕ) → EndThemselves (Filled r depth room)

-- The same of two lengths with their objects.
abbrev pub SizedEndThemselves : Type 0
SizedEndThemselves = (r : Reading) → EndThemselves (Sized r)

-- In the shortest reading objects have one spelling, without a length before them and with one.
abbrev pub SpellingsAreOne : Type 0
SpellingsAreOne = (depth : ℕ) → spelling.SpellingsAreOne (Spells shortest depth)

abbrev pub SizedSpellingsAreOne : Type 0
SizedSpellingsAreOne = spelling.SpellingsAreOne (Sized shortest)

-- Objects have one fault at most, and none where they have a spelling.
abbrev pub FaultsAreOne : Type 0
FaultsAreOne = (f : Objects) (v w : BadForest) → HasFault f v → HasFault f w → v ≡ w

abbrev pub SpelledIsFaultless : Type 0
SpelledIsFaultless = (f : Objects) (v : BadForest) → HasSpelling f → HasFault f v → ⊥
