-- The check of a file of vectors.
use Rattle.std.specs.Prelude.{◌≡◌, ◌≢◌, ℕ, ◌+◌, ◌<◌, ◌≤◌, ◌⊎◌, List, [], ◌∷◌, ◌++◌, length, Option, Result, Ok, Err}
use Rattle.std.specs.Io.KnownBytes.{Appends, Keeps}
use Rattle.std.specs.Str.Lines.{lines}
use Rattle.zvt_trace.specs.Written.{AppendsPrefix, limit}
use Rattle.zvt_trace.specs.declared.fault.Tally.{Tally}
use Rattle.zvt_trace.specs.declared.fault.TraceFault.{TraceFault}
use Rattle.zvt_trace.specs.declared.fault.TraceFault.TheVariants.{Memory, Read, TooLong, Trace, Write}
use Rattle.zvt_trace.specs.declared.fault.TraceLineError.{TraceLineError}
use Rattle.zvt_text.specs.declared.form.Form.{Form}
use Rattle.zvt_tool.specs.Got.{got_in}
use Rattle.zvt_tool.specs.Vectors.{AnswersAs, Meaning, Means, comment, vector}

-- the result of checking lines: the text written, the number of vectors, and the number of wrong ones
pub record Part : Type 0 where
  pub text : List ℕ
  pub messages : ℕ
  pub bad : ℕ

abbrev pub nothing : Part
nothing = record { text = []; messages = 0; bad = 0 }

abbrev pub both : Part → Part → Part
both a b = record {
  text = a.text ++ b.text;
  messages = a.messages + b.messages;
  bad = a.bad + b.bad;
}

-- the tally has the numbers of the part
pub record Counts (tally : Tally) (part : Part) : Type 0 where
  pub messages : tally.messages ≡ part.messages
  pub bad : tally.bad ≡ part.bad

-- A vector is right if its claim is the result of the reader.
abbrev pub Judged : Form → (number : ℕ) → (claim answer : List ℕ) → Part → Type 0
Judged form number claim answer part =
    ((claim ≡ answer) × (part ≡ record { text = []; messages = 1; bad = 0 }))
    ⊎ ((claim ≢ answer) × (part ≡ record { text = got_in form number answer; messages = 1; bad = 1 }))

-- the result of checking the line with this number
abbrev pub LineSays : Form → (number : ℕ) → Meaning → Part → Type 0
LineSays form number comment part = part ≡ nothing
LineSays form number (vector bytes claim) part = (answer : List ℕ) × AnswersAs bytes answer × Judged form number claim answer part

-- the result of checking the first line, and then the others
pub record OneMore (form : Form) (number : ℕ) (line : List ℕ) (Others : Part → Type 0) (all : Part) : Type 0 where
  pub meaning : Meaning
  pub part : Part
  pub rest : Part
  pub means : Means line (Ok meaning)
  pub says : LineSays form number meaning part
  pub others : Others rest
  pub whole : all ≡ both part rest

-- the result of checking lines whose numbers follow this one
abbrev pub LinesSay : Form → (before : ℕ) → List (List ℕ) → Part → Type 0
LinesSay form before [] all = all ≡ nothing
LinesSay form before (line ∷ later) all = OneMore form (before + 1) line (LinesSay form (before + 1) later) all

-- the first lines can be read, and this is the result of checking them
pub record Leading (form : Form) (lines : List (List ℕ)) (all : Part) : Type 0 where
  pub done : List (List ℕ)
  pub later : List (List ℕ)
  pub cut : lines ≡ done ++ later
  pub says : LinesSay form 0 done all

-- a line cannot be read: the result of checking the lines before it
pub record Broken (form : Form) (lines : List (List ℕ)) (number : ℕ) (what : TraceLineError) (all : Part) : Type 0 where
  pub done : List (List ℕ)
  pub line : List ℕ
  pub later : List (List ℕ)
  pub cut : lines ≡ done ++ line ∷ later
  pub says : LinesSay form 0 done all
  pub wrong : Means line (Err what)
  pub is_number : number ≡ length done + 1

-- the result of checking all lines, or the lines before a fault
abbrev pub AnswersLines : Form → List (List ℕ) → (old new : Option (List ℕ)) → Result Tally TraceFault → Type 0
AnswersLines form lines old new (Ok tally) = (all : Part) × LinesSay form 0 lines all × Appends old new all.text × Counts tally all
AnswersLines form lines old new (Err (Trace number what)) = (all : Part) × Broken form lines number what all × Appends old new all.text
AnswersLines form lines old new (Err TooLong) = ⊥
AnswersLines form lines old new (Err Read) = ⊥
AnswersLines form lines old new (Err Write) = (all : Part) × Leading form lines all × AppendsPrefix old new all.text
AnswersLines form lines old new (Err Memory) = (all : Part) × Leading form lines all × Appends old new all.text

-- The result of `vectors` in this form for a text of known bytes. If memory runs out, the output for the lines before
-- that has been written; after a failed write, a prefix of the output up to that line.
abbrev pub AnswersVectors : Form → (text : List ℕ) → (old new : Option (List ℕ)) → Result Tally TraceFault → Type 0
AnswersVectors form text old new (Ok tally) = (length text ≤ limit) × AnswersLines form (lines text) old new (Ok tally)
AnswersVectors form text old new (Err (Trace number what)) = (length text ≤ limit) × AnswersLines form (lines text) old new (Err (Trace number what))
AnswersVectors form text old new (Err TooLong) = (limit < length text) × Keeps old new
AnswersVectors form text old new (Err Read) = Keeps old new
AnswersVectors form text old new (Err Write) = (length text ≤ limit) × AnswersLines form (lines text) old new (Err Write)
AnswersVectors form text old new (Err Memory) = AnswersLines form (lines text) old new (Err Memory)

-- The result of checking the line with this number.
abbrev pub ChecksLine : Form → (number : ℕ) → (line : List ℕ) → (old new : Option (List ℕ)) → Result Tally TraceFault → Type 0
ChecksLine form number line old new (Ok tally) =
    (meaning : Meaning) × (part : Part) × Means line (Ok meaning) × LineSays form number meaning part × Appends old new part.text × Counts tally part
ChecksLine form number line old new (Err (Trace at what)) = (at ≡ number) × Means line (Err what) × Keeps old new
ChecksLine form number line old new (Err TooLong) = ⊥
ChecksLine form number line old new (Err Read) = ⊥
ChecksLine form number line old new (Err Write) =
    (meaning : Meaning) × (part : Part) × Means line (Ok meaning) × LineSays form number meaning part × AppendsPrefix old new part.text
ChecksLine form number line old new (Err Memory) = Keeps old new

-- The result of checking a vector.
abbrev pub ChecksVector : Form → (number : ℕ) → (bytes claim : List ℕ) → (old new : Option (List ℕ)) → Result Tally TraceFault → Type 0
ChecksVector form number bytes claim old new (Ok tally) = (part : Part) × LineSays form number (vector bytes claim) part × Appends old new part.text × Counts tally part
ChecksVector form number bytes claim old new (Err (Trace at what)) = ⊥
ChecksVector form number bytes claim old new (Err TooLong) = ⊥
ChecksVector form number bytes claim old new (Err Read) = ⊥
ChecksVector form number bytes claim old new (Err Write) = (part : Part) × LineSays form number (vector bytes claim) part × AppendsPrefix old new part.text
ChecksVector form number bytes claim old new (Err Memory) = Keeps old new
