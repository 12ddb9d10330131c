-- The choice that a command line names.
use Rattle.std.specs.Prelude.{◌≡◌, ◌≢◌, ◌⊎◌, ⊤, List, [], Option, Some, None, codes, map}
use Rattle.clap.specs.Words.{IsAmong, Kinds, Row, Text, fault_of, kind_of, subcommand_of}
use Rattle.clap.specs.declared.error.Error.{Error}
use Rattle.clap.specs.declared.error.kind.ErrorKind.TheVariants.{MissingRequiredArgument, OutOfMemory}
use Rattle.zvt_grammar.specs.declared.lengths.Lengths.TheVariants.{Padded, Shortest}
use Rattle.zvt_show.specs.declared.render.Style.TheVariants as style
use Rattle.zvt_tool.specs.Commands.{zvt_app}
use Rattle.zvt_tool.specs.Given.{IsFlagOf, IsTextOf, words_of}
use Rattle.zvt_tool.specs.PlayOptions.{AreCheckOptionsOf, ArePlayOptionsOf}
use Rattle.zvt_tool.specs.ServeOptions.{AreServeOptionsOf}
use Rattle.zvt_tool.specs.TapOptions.{AreTapOptionsOf}
use Rattle.zvt_tool.specs.TerminalOptions.{AreTerminalOptionsOf}
use Rattle.zvt_tool.specs.TillOptions.{AreTillOptionsOf}
use Rattle.zvt_tool.specs.TraceCommands.{IsAudit, IsReceipts, IsReport, IsShow, IsTraceCommandOf, IsVectors}
use Rattle.zvt_tool.specs.declared.choices.Choice.{Choice}
use Rattle.zvt_tool.specs.declared.choices.Choice.TheVariants.{Audit, Book, CheckTerminal, CheckTill, Join, Loop, Normalise, Play, Receipts, Report, Serve, Show, Tap, Terminal, Till, Vectors}
use Rattle.zvt_tool.specs.declared.choices.ChoiceFault.{ChoiceFault}
use Rattle.zvt_tool.specs.declared.choices.ChoiceFault.TheVariants.{Memory, Words}
use Rattle.zvt_tool.specs.declared.trace_command.TraceWork.TheVariants.{Render}

-- the command in the words that clap parsed, with its arguments
unfoldable pub reading_of_arguments : List Text → Option (Text × List Row)
reading_of_arguments words = subcommand_of zvt_app words

-- the first error that clap finds in the words, or a request for help or the version
unfoldable pub faults_of_arguments : List Text → Kinds
faults_of_arguments words = fault_of zvt_app words

-- the command with this name and these arguments is the choice
abbrev pub IsCommandOf : Text → List Row → Choice → Type 0
IsCommandOf name rows (Show command) = (name ≡ codes "show") × IsShow rows command
IsCommandOf name rows (Join command) = (name ≡ codes "join") × IsTraceCommandOf rows (Render style.Join) Shortest command
IsCommandOf name rows (Normalise command) = (name ≡ codes "normalise") × IsTraceCommandOf rows (Render style.Join) Padded command
IsCommandOf name rows (Audit command) = (name ≡ codes "audit") × IsAudit rows command
IsCommandOf name rows (Report command) = (name ≡ codes "report") × IsReport rows command
IsCommandOf name rows (Receipts command) = (name ≡ codes "receipts") × IsReceipts rows command
IsCommandOf name rows (Vectors command) = (name ≡ codes "vectors") × IsVectors rows command
IsCommandOf name rows (Book files json records) =
    (name ≡ codes "book") × (map (λ file. file.now) files.items ≡ words_of (codes "file") rows)
    × IsFlagOf (codes "json") rows json
    × IsFlagOf (codes "records") rows records
IsCommandOf name rows (Loop trace no_times book check json steps) =
    (name ≡ codes "loop") × IsTextOf (codes "trace") rows trace
    × IsFlagOf (codes "no-times") rows no_times
    × IsTextOf (codes "book") rows book
    × IsFlagOf (codes "check") rows check
    × IsFlagOf (codes "json") rows json
    × (map (λ step. step.now) steps.items ≡ words_of (codes "step") rows)
IsCommandOf name rows (Till options) = (name ≡ codes "till") × AreTillOptionsOf rows options
IsCommandOf name rows (Terminal options) = (name ≡ codes "terminal") × AreTerminalOptionsOf rows options
IsCommandOf name rows (Tap options) = (name ≡ codes "tap") × AreTapOptionsOf rows options
IsCommandOf name rows (Serve options) = (name ≡ codes "serve") × AreServeOptionsOf rows options
IsCommandOf name rows (Play options) = (name ≡ codes "play") × ArePlayOptionsOf rows options
IsCommandOf name rows (CheckTill options) = (name ≡ codes "check-till") × AreCheckOptionsOf (codes "listen") rows options
IsCommandOf name rows (CheckTerminal options) = (name ≡ codes "check-terminal") × AreCheckOptionsOf (codes "port") rows options

-- a name that belongs to no command, except perhaps to one that plays situations
abbrev pub PlaysAtMost : Text → Type 0
PlaysAtMost name =
    (name ≢ codes "show") × (name ≢ codes "join") × (name ≢ codes "normalise") × (name ≢ codes "audit")
    × (name ≢ codes "report") × (name ≢ codes "receipts") × (name ≢ codes "vectors") × (name ≢ codes "book") × (name ≢ codes "loop")
    × (name ≢ codes "till") × (name ≢ codes "terminal") × (name ≢ codes "tap") × (name ≢ codes "serve") × (name ≢ codes "play")

-- without a command, the choice is `show`
abbrev pub IsChoiceOf : Option (Text × List Row) → Choice → Type 0
IsChoiceOf None choice = IsCommandOf (codes "show") [] choice
IsChoiceOf (Some given) choice = IsCommandOf given.0 given.1 choice

-- the parsed words name no choice
abbrev pub HasNoChoice : Option (Text × List Row) → Type 0
HasNoChoice reading = (choice : Choice) → IsChoiceOf reading choice → ⊥

-- the choice that the parsed words name, or none
abbrev pub MayBeChoiceOf : Option (Text × List Row) → Option Choice → Type 0
MayBeChoiceOf reading (Some choice) = IsChoiceOf reading choice
MayBeChoiceOf reading None = HasNoChoice reading

-- an error of clap; out of memory has a fault of its own
abbrev pub IsTakenAs : Error → ChoiceFault → Type 0
IsTakenAs error Memory = kind_of error ≡ OutOfMemory
IsTakenAs error (Words given) = (given ≡ error) × (kind_of error ≢ OutOfMemory)

-- the kind of the error is the one that clap finds, or an option is missing in words that name no choice
abbrev pub IsFaultOf : List Text → ChoiceFault → Type 0
IsFaultOf words Memory = ⊤
IsFaultOf words (Words error) = IsAmong (kind_of error) (faults_of_arguments words)
    ⊎ ((kind_of error ≡ MissingRequiredArgument) × HasNoChoice (reading_of_arguments words))

abbrev pub IsMissing : ChoiceFault → Type 0
IsMissing Memory = ⊤
IsMissing (Words error) = kind_of error ≡ MissingRequiredArgument
