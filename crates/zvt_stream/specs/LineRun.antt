-- The outcomes of a line.
use Rattle.std.specs.Prelude.{◌≡◌, ℕ, Bool, true, false, ◌||◌, List, [], ◌∷◌, ◌++◌, length, Option}
use Rattle.std.specs.Io.KnownBytes.{Consumes, Appends, IsAtEnd}
use Rattle.zvt_io.specs.Devices.{IsPrefix}
use Rattle.zvt_apdu.specs.Message.{Message}
use Rattle.zvt_stream.specs.LineReading.{CutBy, IsRefusedBy, LineReading, SpelledBy}
use Rattle.zvt_stream.specs.StreamState.{StreamState, HasRefused}
use Rattle.zvt_stream.specs.Answered.{Answered, bytes_of}
use Rattle.zvt_stream.specs.Hearing.{Hears, Heard}
use Rattle.zvt_stream.specs.declared.line.LineFault.{LineFault}
use Rattle.zvt_stream.specs.declared.line.LineFault.TheVariants.{Read, Write, Ended, Turns, Malformed, Memory, Stopped}
use Rattle.zvt_stream.specs.declared.line.Until.{Until}
use Rattle.zvt_stream.specs.declared.line.Until.TheVariants.{Rest, Sent}

-- All messages of the bytes held before and the bytes read were heard and answered, and the rest is held.
pub record Course {S : Type 0} (step : S → Message → Answered → S → Type 0) (before : StreamState) (read : List ℕ) (after : StreamState) (old new : S) (written : List ℕ) (sent : Bool) : Type 0 where
  pub heard : Heard before.reading step (before.held ++ read) old after.held new written sent
  pub cut : CutBy before.reading (before.held ++ read) heard.messages after.held
  pub same : after.stopped ≡ before.stopped
  pub reads_alike : after.reading ≡ before.reading
  -- on a stream that has refused nothing is heard
  pub still : before.stopped ≡ true → (old ≡ new) × (written ≡ [])

-- The answers to the last message could not be written completely. All earlier answers were.
pub record CutOff {S : Type 0} (l : LineReading) (step : S → Message → Answered → S → Type 0) (bytes : List ℕ) (old new : S) (written : List ℕ) : Type 0 where
  pub messages : List Message
  pub answers : List Answered
  pub last : Message
  pub answer : Answered
  pub part : List ℕ
  pub rest : List ℕ
  pub spelled : SpelledBy l bytes (messages ++ last ∷ []) rest
  pub heard : Hears step old (messages ++ last ∷ []) (answers ++ answer ∷ []) new
  pub answered : written ≡ bytes_of answers ++ part
  pub some_part : IsPrefix part answer.bytes

-- The point at which a line broke, before the machine is notified.
abbrev pub Breaks : {S : Type 0} → (S → Message → Answered → S → Type 0) → LineFault → StreamState → List ℕ → StreamState → S → S → List ℕ → Type 0
Breaks step Read before read after old new written = (sent : Bool) × Course step before read after old new written sent
Breaks step (Ended have) before read after old new written = (sent : Bool) × Course step before read after old new written sent × (have ≡ length after.held)
Breaks step Turns before read after old new written = (sent : Bool) × Course step before read after old new written sent
Breaks step (Malformed place why) before read after old new written = (sent : Bool) × (rest : List ℕ) × Heard before.reading step (before.held ++ read) old rest new written sent × IsRefusedBy before.reading rest place why × HasRefused after
Breaks step Memory before read after old new written = (sent : Bool) × (rest : List ℕ) × Heard before.reading step (before.held ++ read) old rest new written sent
Breaks step Write before read after old new written = CutOff before.reading step (before.held ++ read) old new written
Breaks step Stopped before read after old new written = (before.stopped ≡ true) × (old ≡ new) × (written ≡ [])

-- The number of failed reads and writes that a fault stands for.
abbrev pub failed_reads : LineFault → ℕ
failed_reads Read = 1
failed_reads Write = 0
failed_reads (Ended have) = 0
failed_reads Turns = 0
failed_reads (Malformed place why) = 0
failed_reads Memory = 0
failed_reads Stopped = 0

abbrev pub failed_writes : LineFault → ℕ
failed_writes Read = 0
failed_writes Write = 1
failed_writes (Ended have) = 0
failed_writes Turns = 0
failed_writes (Malformed place why) = 0
failed_writes Memory = 0
failed_writes Stopped = 0

-- Whether the condition holds before the first turn.
abbrev pub there_at_once : Until → (resting : Bool) → Bool
there_at_once Rest resting = resting
there_at_once Sent resting = false

-- Whether the condition holds after a turn.
abbrev pub reached : Until → (resting sent : Bool) → Bool
reached Rest resting sent = resting
reached Sent resting sent = sent || resting

-- The machine after it is notified of a fault: of a malformed line, or of a lost one.
abbrev pub Reported : {S : Type 0} → (S → S → Type 0) → (S → S → Type 0) → LineFault → S → S → Type 0
Reported loses malforms (Malformed place why) old new = malforms old new
Reported loses malforms Stopped old new = malforms old new
Reported loses malforms Read old new = loses old new
Reported loses malforms Write old new = loses old new
Reported loses malforms (Ended have) old new = loses old new
Reported loses malforms Turns old new = loses old new
Reported loses malforms Memory old new = loses old new

-- No more bytes come after the end of a line.
abbrev pub EndsAt : LineFault → Option (List ℕ) → Type 0
EndsAt (Ended have) left = IsAtEnd left
EndsAt Read left = Unit {0}
EndsAt Write left = Unit {0}
EndsAt Turns left = Unit {0}
EndsAt (Malformed place why) left = Unit {0}
EndsAt Memory left = Unit {0}
EndsAt Stopped left = Unit {0}

-- Bytes were read, and all their messages heard and answered.
pub record Pumped {S : Type 0} (step : S → Message → Answered → S → Type 0) (before after : StreamState) (old new : S) (coming left first last : Option (List ℕ)) (sent : Bool) : Type 0 where
  pub read : List ℕ
  pub written : List ℕ
  pub consumed : Consumes coming left read
  pub appended : Appends first last written
  pub course : Course step before read after old new written sent

-- Bytes were read, and the line broke.
pub record Broken {S : Type 0} (step : S → Message → Answered → S → Type 0) (fault : LineFault) (before after : StreamState) (old new : S) (coming left first last : Option (List ℕ)) : Type 0 where
  pub read : List ℕ
  pub written : List ℕ
  pub consumed : Consumes coming left read
  pub appended : Appends first last written
  pub breaks : Breaks step fault before read after old new written
  pub ended : EndsAt fault left

-- How a line may break once bytes were read.
abbrev pub IsPieceFault : LineFault → Type 0
IsPieceFault (Malformed place why) = Unit {0}
IsPieceFault Memory = Unit {0}
IsPieceFault Write = Unit {0}
IsPieceFault Stopped = Unit {0}
IsPieceFault Read = ⊥
IsPieceFault Turns = ⊥
IsPieceFault (Ended have) = ⊥
