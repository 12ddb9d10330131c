-- What the player of one side does for a trace.
use Rattle.std.specs.Prelude.{◌≡◌, ℕ, ◌+◌, ◌⊎◌, cond, List, [], ◌∷◌, ◌++◌, codes, length, map, Option, Some, None, option_and_then, option_map, Result, Ok, Err, Vec}
use Rattle.std.specs.Global.{Global}
use Rattle.std.specs.Str.{bytes_eq}
use Rattle.std.specs.Str.Lines.{lines}
use Rattle.zvt_grammar.specs.declared.why.Why.{Why}
use Rattle.zvt_apdu.specs.Message.{Message}
use Rattle.zvt_text.specs.Words.{number_in, trailing}
use Rattle.zvt_stream.specs.LineReading.{AliveBy, CutBy, IsRefusedBy, LineReading, SpelledBy}
use Rattle.zvt_trace.specs.Meanings.{Meaning, comment, lost, meaning_of, piece}
use Rattle.zvt_trace.specs.declared.direction.Direction.{Direction}
use Rattle.zvt_trace.specs.declared.direction.Direction.TheVariants.{FromTill, FromTerminal}
use Rattle.zvt_trace.specs.declared.fault.TraceLineError.{TraceLineError}
use Rattle.zvt_play.specs.declared.numbers.NumberField.{NumberField}
use Rattle.zvt_play.specs.declared.numbers.NumberField.TheVariants.{Original, Receipt, Trace}
use Rattle.zvt_play.specs.declared.line.ScriptLineError.{ScriptLineError}
use Rattle.zvt_play.specs.declared.line.ScriptLineError.TheVariants as error
use Rattle.zvt_play.specs.declared.scripts.ScriptFault.{ScriptFault}
use Rattle.zvt_play.specs.declared.scripts.ScriptFault.TheVariants as fault
use Rattle.zvt_play.specs.declared.step.Action.{Action}
use Rattle.zvt_play.specs.declared.step.Action.TheVariants as code
use Rattle.zvt_play.specs.declared.step.ScriptStep.{ScriptStep}

-- ---- what the player does for a line

pub data Act : Type 0 where
  send : (bytes : List ℕ) → Act
  await : (bytes : List ℕ) → Act
  break : Act
  wait : (milliseconds : ℕ) → Act
  silence : Act
  listen : (milliseconds : ℕ) → Act
  bind : (field : NumberField) → (name : ℕ) → Act
  same : (field : NumberField) → (name : ℕ) → Act
  prepare : (field : NumberField) → (name : ℕ) → Act

-- the act that an action of the code represents
abbrev pub act_of : Action → Act
act_of (code.Send bytes) = send bytes.items
act_of (code.Await bytes) = await bytes.items
act_of code.Break = break
act_of (code.Wait milliseconds) = wait milliseconds
act_of code.Silence = silence
act_of (code.Listen milliseconds) = listen milliseconds
act_of (code.Bind field name) = bind field name
act_of (code.Same field name) = same field name
act_of (code.Use field name) = prepare field name

-- ---- one line

-- '87 n1': a field, and the number of a name
abbrev pub name_by : NumberField → (digits : List ℕ) → Option (NumberField × ℕ)
name_by field digits = option_map (λ name. (field, name)) (number_in 2 digits)

abbrev pub receipt_named : (digits : Option (List ℕ)) → Option (NumberField × ℕ)
receipt_named digits = option_and_then (name_by Receipt) digits

abbrev pub original_named : (digits : Option (List ℕ)) → (words : List ℕ) → Option (NumberField × ℕ)
original_named None words = receipt_named (trailing (codes "87 n") words)
original_named (Some digits) words = name_by Original digits

abbrev pub trace_named : (digits : Option (List ℕ)) → (words : List ℕ) → Option (NumberField × ℕ)
trace_named None words = original_named (trailing (codes "37 n") words) words
trace_named (Some digits) words = name_by Trace digits

abbrev pub named_in : List ℕ → Option (NumberField × ℕ)
named_in words = trace_named (trailing (codes "0B n") words) words

abbrev pub name_mark : (act : NumberField → ℕ → Act) → (words : List ℕ) → Option Act
name_mark act words = option_map (λ named. act named.0 named.1) (named_in words)

-- '#~ ' and a number of milliseconds
abbrev pub wait_mark : (words : List ℕ) → Option Act
wait_mark words = option_map wait (option_and_then (number_in 7) (trailing (codes " ") words))

-- '#~ use ', '#~ same ' or '#~ bind ', a field and a name
abbrev pub use_mark : (named : Option (List ℕ)) → (words : List ℕ) → Option Act
use_mark None words = wait_mark words
use_mark (Some named) words = name_mark prepare named

abbrev pub same_mark : (named : Option (List ℕ)) → (words : List ℕ) → Option Act
same_mark None words = use_mark (trailing (codes " use ") words) words
same_mark (Some named) words = name_mark same named

abbrev pub bind_mark : (named : Option (List ℕ)) → (words : List ℕ) → Option Act
bind_mark None words = same_mark (trailing (codes " same ") words) words
bind_mark (Some named) words = name_mark bind named

-- '#~ listen ' and a number of milliseconds
abbrev pub listen_mark : (listened : Option (List ℕ)) → (words : List ℕ) → Option Act
listen_mark None words = bind_mark (trailing (codes " bind ") words) words
listen_mark (Some digits) words = option_map listen (number_in 7 digits)

-- A mark is '#~ silent', has a number of milliseconds, or has a field and a name. These words come after '#~'.
abbrev pub mark_of : List ℕ → Option Act
mark_of words = cond (bytes_eq words (codes " silent")) (Some silence) (listen_mark (trailing (codes " listen ") words) words)

abbrev pub mark_or_error : Option Act → Result (Option Act) ScriptLineError
mark_or_error None = Err error.Mark
mark_or_error (Some act) = Ok (Some act)

-- a comment that does not begin with '#~' has no meaning for the player
abbrev pub comment_by : Option (List ℕ) → Result (Option Act) ScriptLineError
comment_by None = Ok None
comment_by (Some words) = mark_or_error (mark_of words)

abbrev pub comment_says : List ℕ → Result (Option Act) ScriptLineError
comment_says line = comment_by (trailing (codes "#~") line)

-- the other side can send the bytes: whole messages, and then perhaps the beginning of one
pub record CanCome (r : LineReading) (bytes : List ℕ) : Type 0 where
  pub messages : List Message
  pub rest : List ℕ
  pub cut : CutBy r bytes messages rest
  pub alive : AliveBy r rest

-- no message after the whole ones begins with the bytes up to and including the one at this place, counted from the first byte
pub record CannotCome (r : LineReading) (bytes : List ℕ) (at : ℕ) (why : Why) : Type 0 where
  pub messages : List Message
  pub before : List ℕ
  pub rest : List ℕ
  pub place : ℕ
  pub whole : bytes ≡ before ++ rest
  pub spelled : SpelledBy r bytes messages rest
  pub refused : IsRefusedBy r rest place why
  pub is_at : at ≡ length before + place

abbrev pub AwaitSays : LineReading → List ℕ → Result (Option Act) ScriptLineError → Type 0
AwaitSays r bytes answer =
    (CanCome r bytes × (answer ≡ Ok (Some (await bytes))))
    ⊎ ((at : ℕ) × (why : Why) × CannotCome r bytes at why × (answer ≡ Err (error.NoMessage at why)))

-- a line of the own side is sent unchanged, and a line of the other side is awaited
abbrev pub PieceSays : LineReading → (own from : Direction) → List ℕ → Result (Option Act) ScriptLineError → Type 0
PieceSays r FromTill FromTill bytes answer = answer ≡ Ok (Some (send bytes))
PieceSays r FromTill FromTerminal bytes answer = AwaitSays r bytes answer
PieceSays r FromTerminal FromTill bytes answer = AwaitSays r bytes answer
PieceSays r FromTerminal FromTerminal bytes answer = answer ≡ Ok (Some (send bytes))

abbrev pub SaysBy : LineReading → (own : Direction) → (line : List ℕ) → Result Meaning TraceLineError → Result (Option Act) ScriptLineError → Type 0
SaysBy r own line (Ok comment) answer = answer ≡ comment_says line
SaysBy r own line (Ok (piece from bytes)) answer = PieceSays r own from bytes answer
SaysBy r own line (Ok lost) answer = answer ≡ Ok (Some break)
SaysBy r own line (Err what) answer = answer ≡ Err (error.Trace what)

-- what the player of this side does for a line, or the reason why it can't be played
abbrev pub LineSays : LineReading → (own : Direction) → List ℕ → Result (Option Act) ScriptLineError → Type 0
LineSays r own line answer = SaysBy r own line (meaning_of line) answer

-- ---- a trace

-- a step, and the number of its line
pub record StepAt : Type 0 where
  pub line : ℕ
  pub act : Act

abbrev pub step_at : ScriptStep → StepAt
step_at step = record { line = step.line; act = act_of step.action }

abbrev pub steps_at : List ScriptStep → List StepAt
steps_at steps = map step_at steps

-- one step at most
abbrev pub some_step : (line : ℕ) → Option Act → List StepAt
some_step line None = []
some_step line (Some act) = record { line = line; act = act } ∷ []

-- the steps of the lines after this many earlier ones: at most one for each line, in order
abbrev pub LinesSay : LineReading → (own : Direction) → (before : ℕ) → List (List ℕ) → List StepAt → Type 0
LinesSay r own before [] steps = steps ≡ []
LinesSay r own before (line ∷ later) steps =
    (said : Option Act) × (rest : List StepAt) × LineSays r own line (Ok said) × LinesSay r own (before + 1) later rest × (steps ≡ some_step (before + 1) said ++ rest)

-- the line with this number is the first that can't be played
pub record IsFirstWrong (r : LineReading) (own : Direction) (lines : List (List ℕ)) (number : ℕ) (why : ScriptLineError) : Type 0 where
  pub done : List (List ℕ)
  pub line : List ℕ
  pub later : List (List ℕ)
  pub steps : List StepAt
  pub cut : lines ≡ done ++ line ∷ later
  pub good : LinesSay r own 0 done steps
  pub wrong : LineSays r own line (Err why)
  pub is_number : number ≡ length done + 1

-- the result of reading the lines of a trace
abbrev pub ReadsLines : LineReading → (own : Direction) → (trace : List ℕ) → Result (Vec ScriptStep Global) ScriptFault → Type 0
ReadsLines r own trace (Ok steps) = LinesSay r own 0 (lines trace) (steps_at steps.items)
ReadsLines r own trace (Err (fault.Line number why)) = IsFirstWrong r own (lines trace) number why
ReadsLines r own trace (Err fault.Memory) = Unit {0}
