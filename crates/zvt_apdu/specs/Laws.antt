-- Laws of the grammar.
use Rattle.std.specs.Prelude.{◌≡◌, ◌≢◌, ◌↔◌, ℕ, ◌<◌, None, List, [], ◌∷◌, ◌++◌, length}
use Rattle.zvt_grammar.specs.declared.why.Why.{Why}
use Rattle.zvt_grammar.specs.declared.why.Why.TheVariants.{NotShortest}
use Rattle.zvt_grammar.specs.declared.answer.Scan.{Scan}
use Rattle.zvt_grammar.specs.declared.answer.Scan.TheVariants.{Whole, More}
use Rattle.zvt_grammar.specs.Reading.{Reading, shortest, padded}
use Rattle.zvt_tlv.specs.Judging.{Opener}
use Rattle.zvt_grammar.specs.Beginnings.{Alive, Unfinished, Place}
use Rattle.zvt_apdu.specs.declared.messages.BadValue.{BadValue}
use Rattle.zvt_apdu.specs.Message.{Message}
use Rattle.zvt_apdu.specs.Messages.{HasSpelling, HasFault}
use Rattle.zvt_apdu.specs.Grammar.{Spells}
use Rattle.zvt_apdu.specs.Judging.{Role, Position, WhyOf, fault, Found, Answers}
use Rattle.zvt_apdu.specs.Normal.{IsNormal}

-- No spelling begins another, and two messages share none.
abbrev pub MessagesEndThemselves : Type 0
MessagesEndThemselves = (r : Reading) (m n : Message) (a b x y : List ℕ) → Spells r m a → Spells r n b → a ++ x ≡ b ++ y → (m ≡ n) × (a ≡ b)

-- Of a spelling with anything after it, the answer is its message and its size.
abbrev pub SpellingsAreRead : Type 0
SpellingsAreRead = (r : Reading) (m : Message) (b rest : List ℕ) (answer : Scan (Message × ℕ)) → Spells r m b → Answers r (b ++ rest) answer → answer ≡ Whole (m, length b)

-- Bytes that are alive and hold no message are at a position.
abbrev pub EachBeginningStands : Type 0
EachBeginningStands = (r : Reading) (b : List ℕ) → Unfinished (Spells r) b → (os : List Opener) × (role : Role) × Position r os b role

-- And at one alone.
abbrev pub PositionsAreOne : Type 0
PositionsAreOne = (r : Reading) (os qs : List Opener) (b : List ℕ) (role role' : Role) → Position r os b role → Position r qs b role' → role ≡ role'

-- There, one more byte leaves them alive exactly where its tests pass.
abbrev pub TestsDecide : Type 0
TestsDecide = (r : Reading) (os : List Opener) (b : List ℕ) (role : Role) (x : ℕ) → Unfinished (Spells r) b → Position r os b role → x < 256 →
    (fault r role x ≡ None) ↔ Alive (Spells r) (b ++ x ∷ [])

-- A refusal has one place and one reason.
abbrev pub RefusalsAreOne : Type 0
RefusalsAreOne = (r : Reading) (j k : ℕ) (b : List ℕ) (v w : Why) → Place (Spells r) b j → Place (Spells r) b k →
    WhyOf r b j v → WhyOf r b k w → (j ≡ k) × (v ≡ w)

-- Bytes have one answer.
abbrev pub AnswersAreOne : Type 0
AnswersAreOne = (r : Reading) (b : List ℕ) (p q : Scan (Message × ℕ)) → Answers r b p → Answers r b q → p ≡ q

-- More bytes leave each answer but More as it is: nothing after a whole, or after the place of a refusal, counts.
abbrev pub AnswersStay : Type 0
AnswersStay = (r : Reading) (bytes more : List ℕ) (q : Scan (Message × ℕ)) → q ≢ More → Answers r bytes q → Answers r (bytes ++ more) q

-- What spells a message strictly spells it with padded lengths too.
abbrev pub StrictIsPadded : Type 0
StrictIsPadded = (m : Message) (b : List ℕ) → Spells shortest m b → Spells padded m b

-- What the strict reading finds, the padded one finds.
abbrev pub StrictStays : Type 0
StrictStays = (bytes : List ℕ) (m : Message) (n : ℕ) → Found shortest bytes m n → Found padded bytes m n

-- The padded reading refuses no length for its form.
abbrev pub NeverNotShortest : Type 0
NeverNotShortest = (bytes : List ℕ) (place : ℕ) → WhyOf padded bytes place NotShortest → ⊥

-- Bytes have one normal spelling.
abbrev pub NormalsAreOne : Type 0
NormalsAreOne = (bytes s t : List ℕ) (n k : ℕ) → IsNormal bytes s n → IsNormal bytes t k → (s ≡ t) × (n ≡ k)

-- A normal spelling is its own, whatever comes after it.
abbrev pub NormalsStay : Type 0
NormalsStay = (bytes rest s : List ℕ) (n : ℕ) → IsNormal bytes s n → IsNormal (s ++ rest) s (length s)

-- A message has one fault at most, and none where it has a spelling.
abbrev pub FaultsAreOne : Type 0
FaultsAreOne = (m : Message) (v w : BadValue) → HasFault m v → HasFault m w → v ≡ w

abbrev pub SpelledIsFaultless : Type 0
SpelledIsFaultless = (m : Message) (v : BadValue) → HasSpelling m → HasFault m v → ⊥
