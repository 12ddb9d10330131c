-- A frame that is not read is passed by its own length.
use Rattle.std.specs.Prelude.{◌≡◌, ◌==◌, ℕ, ◌+◌, ◌*◌, ◌-◌, ◌≤◌, Bool, true, false, cond, Option, Some, None, List, [], ◌∷◌, ◌++◌, length, take}
use Rattle.zvt_grammar.specs.Reading.{Reading, AreBytes}
use Rattle.zvt_grammar.specs.declared.why.Why.{Why}
use Rattle.zvt_stream.specs.Apdus.{IsRefusedIn}
use Rattle.zvt_stream.specs.Head.{head_of}
use Rattle.zvt_stream.specs.Judge.{IsMessageIn, JudgeState, StandsFor, start}
use Rattle.zvt_stream.specs.LineReading.{kind_named, stand_in}
use Rattle.zvt_stream.specs.declared.stream.Fed.{Fed}
use Rattle.zvt_stream.specs.declared.stream.Fed.TheVariants as fed
use Rattle.zvt_stream.specs.declared.stream.FedView.{FedView}
use Rattle.zvt_stream.specs.declared.stream.FedView.TheVariants as view
use Rattle.zvt_stream.specs.OpenReading.{IsFramed}

-- No frame is a prefix of the bytes.
abbrev pub NoFrame : List ℕ → Type 0
NoFrame bytes = (prefix rest : List ℕ) → bytes ≡ prefix ++ rest → IsFramed prefix → ⊥

-- The bytes that a frame with this beginning still needs, as far as its length has arrived.
abbrev pub missing_after_FF : List ℕ → ℕ
missing_after_FF [] = 2
missing_after_FF (low ∷ []) = 1
missing_after_FF (low ∷ high ∷ content) = (256 * high + low) - length content

abbrev pub missing : List ℕ → ℕ
missing [] = 3
missing (high ∷ []) = 2
missing (high ∷ low ∷ []) = 1
missing (high ∷ low ∷ size ∷ content) = cond (size == 0xFF) (missing_after_FF content) (size - length content)

-- The piece ends the frame after that many bytes, or all of it is taken.
abbrev pub Passes : (old piece : List ℕ) → Option ℕ → (new : List ℕ) → Type 0
Passes old piece (Some taken) new = (taken ≤ length piece) × (new ≡ old ++ take taken piece) × IsFramed new
Passes old piece None new = (new ≡ old ++ piece) × NoFrame new × AreBytes new

-- After a frame the judge is at the start of a message; within one, after its control bytes.
abbrev pub Rests : Reading → (bytes : List ℕ) → Option ℕ → JudgeState → Type 0
Rests r bytes (Some taken) judge = judge ≡ start r
Rests r bytes None judge = StandsFor judge (take 2 bytes) × (judge.outer ≡ []) × (judge.reading ≡ r)

-- The result of a feed that passed a frame.
abbrev pub seen_as : Option ℕ → FedView
seen_as (Some taken) = view.Message taken
seen_as None = view.More

-- The same with the stand-in, which is taken out of these bytes.
abbrev pub HearsFrame : (old : List ℕ) → Option ℕ → Fed → (new : List ℕ) → Type 0
HearsFrame old (Some taken) found new = (found ≡ fed.Message (stand_in (kind_named (head_of old))) taken) × (new ≡ [])
HearsFrame old None found new = (found ≡ fed.More) × (new ≡ old)

-- ---- what a stream keeps

-- The first bytes of a frame that is refused. The judge stays at its length.
pub record IsPassing (judge : JudgeState) (bytes : List ℕ) : Type 0 where
  pub place : ℕ
  pub why : Why
  pub refused : IsRefusedIn judge.reading bytes place why
  pub none_whole : NoFrame bytes
  pub are_bytes : AreBytes bytes
  pub one_level : judge.outer ≡ []

-- A whole frame that is refused.
pub record IsUnread (r : Reading) (bytes : List ℕ) : Type 0 where
  pub place : ℕ
  pub why : Why
  pub refused : IsRefusedIn r bytes place why
  pub framed : IsFramed bytes

-- The bytes that the judge has judged of these: of a refused frame, the control bytes.
abbrev pub judged_bytes : (refused : Bool) → List ℕ → List ℕ
judged_bytes false held = held
judged_bytes true held = take 2 held

-- A strict stream stops where bytes are refused.
abbrev pub stops : (refused passes : Bool) → Bool
stops false passes = false
stops true false = true
stops true true = false

-- What the bytes of a stream are besides a beginning.
abbrev pub Knows : (passes refused has_message : Bool) → JudgeState → List ℕ → Type 0
Knows passes false has_message judge bytes = has_message ≡ true → IsMessageIn judge.reading bytes
Knows false true has_message judge bytes = has_message ≡ false
Knows true true false judge bytes = IsPassing judge bytes
Knows true true true judge bytes = IsUnread judge.reading bytes
