-- Laws of the grammar.
use Rattle.std.specs.Prelude.{◌≡◌, ◌≢◌, ◌↔◌, ℕ, ◌<◌, None, List, [], ◌∷◌, ◌++◌, length}
use Rattle.zvt_grammar.specs.declared.why.Why.{Why}
use Rattle.zvt_grammar.specs.Reading.{Reading, shortest}
use Rattle.zvt_grammar.specs.Laws.{EndThemselves, SpellingsAreOne}
use Rattle.zvt_tlv.specs.Judging.{Opener}
use Rattle.zvt_field.specs.Shapes.{format_of}
use Rattle.zvt_field.specs.declared.shapes.Format.TheVariants.{Hidden}
use Rattle.zvt_field.specs.Grammar.{Field, FieldOf, FieldList}
use Rattle.zvt_grammar.specs.declared.answer.Scan.{Scan}
use Rattle.zvt_grammar.specs.declared.answer.Scan.TheVariants.{More}
use Rattle.zvt_field.specs.declared.bodies.BadField.{BadField}
use Rattle.zvt_field.specs.Bodies.{name_of, HasSpelling, HasFault}
use Rattle.zvt_field.specs.Answers.{Answers, Begun}
use Rattle.zvt_field.specs.Judging.{AliveIn, PlaceIn, WhyIn, Role, Position, fault}

-- Some fields have exactly that size, for each size but one byte.
abbrev pub EachSizeIsFilled : Type 0
EachSizeIsFilled = (r : Reading) (size : ℕ) → size ≢ 1 → (fields : List Field) × (bytes : List ℕ) × FieldList r fields bytes × (length bytes ≡ size)

-- Bytes that are alive and don't fill the room are at a position, and at one alone.
abbrev pub EachBeginningStands : Type 0
EachBeginningStands = (r : Reading) (room : ℕ) (b : List ℕ) → AliveIn r room b → length b < room →
    (os : List Opener) × (role : Role) × (left : ℕ) × Position r room os b role left

abbrev pub PositionsAreOne : Type 0
PositionsAreOne = (r : Reading) (room : ℕ) (os qs : List Opener) (b : List ℕ) (role role' : Role) (left left' : ℕ) →
    Position r room os b role left → Position r room qs b role' left' → (role ≡ role') × (left ≡ left')

-- There, one more byte leaves the bytes alive exactly where its tests pass.
abbrev pub TestsDecide : Type 0
TestsDecide = (r : Reading) (room : ℕ) (os : List Opener) (b : List ℕ) (role : Role) (left x : ℕ) → AliveIn r room b → Position r room os b role left → x < 256 →
    (fault r role left x ≡ None) ↔ AliveIn r room (b ++ x ∷ [])

-- A refusal has one place and one reason.
abbrev pub RefusalsAreOne : Type 0
RefusalsAreOne = (r : Reading) (room j k : ℕ) (b : List ℕ) (v w : Why) → PlaceIn r room b j → PlaceIn r room b k → WhyIn r room b j v → WhyIn r room b k w → (j ≡ k) × (v ≡ w)

-- No field's spelling begins another, and two fields share none; nor do two lists.
abbrev pub FieldsEndThemselves : Type 0
FieldsEndThemselves = (r : Reading) → EndThemselves (FieldOf r)

abbrev pub ListsAreOne : Type 0
ListsAreOne = (r : Reading) (fs gs : List Field) (b : List ℕ) → FieldList r fs b → FieldList r gs b → fs ≡ gs

-- In the shortest reading fields have one spelling.
abbrev pub ListsHaveOne : Type 0
ListsHaveOne = SpellingsAreOne (FieldList shortest)

-- A room of bytes has one answer.
abbrev pub AnswersAreOne : Type 0
AnswersAreOne = (r : Reading) (room : ℕ) (b : List ℕ) (p q : Scan (List Field)) → Answers r room b p → Answers r room b q → p ≡ q

-- Bytes begin with one list of whole fields.
abbrev pub BegunAreOne : Type 0
BegunAreOne = (r : Reading) (b : List ℕ) (fs gs : List Field) → Begun r b fs → Begun r b gs → fs ≡ gs

-- More bytes leave each answer but More as it is: nothing after a whole, or after the place of a refusal, counts.
abbrev pub AnswersStay : Type 0
AnswersStay = (r : Reading) (room : ℕ) (bytes more : List ℕ) (q : Scan (List Field)) → q ≢ More → Answers r room bytes q → Answers r room (bytes ++ more) q

-- A field has one fault at most, and none where it has a spelling.
abbrev pub FaultsAreOne : Type 0
FaultsAreOne = (f : Field) (v w : BadField) → HasFault (name_of f) f v → HasFault (name_of f) f w → v ≡ w

abbrev pub SpelledIsFaultless : Type 0
SpelledIsFaultless = (f : Field) (v : BadField) → HasSpelling f → HasFault (name_of f) f v → ⊥

-- The card number, the three tracks, the verification value and the password.
abbrev pub SecretsAreHidden : Type 0
SecretsAreHidden =
    (format_of 0x22 ≡ Hidden) × (format_of 0x23 ≡ Hidden) × (format_of 0x24 ≡ Hidden) × (format_of 0x2D ≡ Hidden) × (format_of 0x3A ≡ Hidden) × (format_of 0x3D ≡ Hidden)
