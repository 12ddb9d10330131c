-- The calls that open a journal's file, newest first, and why it is refused.
use Rattle.std.specs.Prelude.{◌≡◌, ◌<◌, ◌-◌, ℕ, Bool, true, false, List, [], ◌∷◌, ◌++◌, length}
use Rattle.zvt_journal.specs.declared.call.Call.TheVariants.{Aside}
use Rattle.zvt_journal.specs.declared.call.Step.{Step}
use Rattle.zvt_journal.specs.declared.call.Step.TheVariants.{Made, Found, Locked, Read, Peeked, InPlace, Beside, KeptBeside, FolderSynced}
use Rattle.zvt_journal.specs.declared.error.JournalFileError.{JournalFileError}
use Rattle.zvt_journal.specs.declared.error.JournalFileError.TheVariants.{InUse, Folder, NotAFile, NotAJournal, RecordsBehind, TooMuchAfter, CutNotKept, FolderNotSynced, Io, Memory}
use Rattle.zvt_journal.specs.Calls.{Event, failed_among}
use Rattle.zvt_journal.specs.Files.{IsKnown, IsRepairable, HasFewAfter, HasNoLineBehind, behind_gate, gate_line, records_behind}
use Rattle.zvt_journal.specs.Text.{recovered, whole}

-- the call that opened the file: it was made, or found
abbrev pub found_by : (created : Bool) → Step
found_by true = Made
found_by false = Found

-- bytes to be removed are saved first, if there are any
abbrev pub kept_beside : (path cut : List ℕ) → List Event
kept_beside path [] = []
kept_beside path (byte ∷ cut) = (Aside KeptBeside, byte ∷ cut, true) ∷ (Aside Beside, path, true) ∷ []

-- A file with these bytes was opened: it was locked, made durable and read, and checked again. Bytes to be removed were
-- saved, and then the file's name was made durable.
abbrev pub calls_to_open : (path : List ℕ) → (created : Bool) → (bytes : List ℕ) → List Event
calls_to_open path created bytes =
    (Aside FolderSynced, path, true) ∷ (kept_beside path (behind_gate bytes) ++ (Aside InPlace, path, true) ∷ (Aside Read, bytes, true) ∷ (Aside Locked, [], true) ∷ (Aside (found_by created), path, true) ∷ [])

-- a journal's file may hold these bytes
pub record IsAccepted (bytes : List ℕ) : Type 0 where
  pub known : IsKnown bytes
  pub repairable : IsRepairable bytes

-- the journal's file of this name was opened by these calls, whose records are the text
pub record WasOpened (path : List ℕ) (made : List Event) (text : List ℕ) (cut : ℕ) (created : Bool) : Type 0 where
  pub bytes : List ℕ
  pub calls : made ≡ calls_to_open path created bytes
  pub text_is : text ≡ recovered bytes
  pub cut_is : cut ≡ length (behind_gate bytes)
  pub accepted : IsAccepted bytes

-- the journal's file of this name was read, and its records are the text
pub record WasPeeked (path : List ℕ) (made : List Event) (text : List ℕ) : Type 0 where
  pub bytes : List ℕ
  pub calls : made ≡ (Aside Peeked, bytes, true) ∷ (Aside Found, path, true) ∷ []
  pub text_is : text ≡ recovered bytes
  pub accepted : IsAccepted bytes

-- the bytes that were read last
abbrev pub WasRead : List ℕ → List Event → Type 0
WasRead bytes [] = ⊥
WasRead bytes ((Aside Read, these, true) ∷ made) = these ≡ bytes
WasRead bytes ((Aside Peeked, these, true) ∷ made) = these ≡ bytes
WasRead bytes (event ∷ made) = WasRead bytes made

-- the newest call acquired the lock
abbrev pub IsLocked : List Event → Type 0
IsLocked ((Aside Locked, bytes, true) ∷ made) = Unit {0}
IsLocked other = ⊥

-- bytes with this property were read
abbrev pub WasReadAs : (List ℕ → Type 0) → List Event → Type 0
WasReadAs P made = (bytes : List ℕ) × WasRead bytes made × P bytes

-- the newest call failed
abbrev pub WasRefused : Step → List Event → Type 0
WasRefused step made = (bytes : List ℕ) × (before : List Event) × (made ≡ (Aside step, bytes, false) ∷ before)

-- errors of a call of the operating system
abbrev pub IsOfCall : JournalFileError → Type 0
IsOfCall Folder = Unit {0}
IsOfCall NotAFile = Unit {0}
IsOfCall (Io error) = Unit {0}
IsOfCall other = ⊥

-- errors of the calls that make a name durable
abbrev pub IsOfFolder : JournalFileError → Type 0
IsOfFolder (FolderNotSynced error) = Unit {0}
IsOfFolder (Io error) = Unit {0}
IsOfFolder other = ⊥

-- these bytes are refused for this reason: they are not a journal, or no crash leaves such a file
abbrev pub IsRefusedFor : JournalFileError → List ℕ → Type 0
IsRefusedFor NotAJournal bytes = IsKnown bytes → ⊥
IsRefusedFor (RecordsBehind line records) bytes = (line ≡ gate_line bytes) × (records ≡ records_behind bytes) × (HasNoLineBehind bytes → ⊥)
IsRefusedFor (TooMuchAfter count) bytes = (count ≡ length bytes - whole 0 bytes) × (HasFewAfter bytes → ⊥)
IsRefusedFor other bytes = ⊥

-- A file that is known and repairable is never refused for its content.
abbrev pub NoneIsRefused : Type 0
NoneIsRefused = (file : List ℕ) (error : JournalFileError) → IsKnown file → IsRepairable file → IsRefusedFor error file → ⊥

-- The cause of an error. An allocation may always fail.
abbrev pub WhyRefused : JournalFileError → List Event → Type 0
WhyRefused InUse made = WasRefused Locked made
WhyRefused NotAJournal made = WasReadAs (IsRefusedFor NotAJournal) made
WhyRefused (RecordsBehind line records) made = WasReadAs (IsRefusedFor (RecordsBehind line records)) made
WhyRefused (TooMuchAfter count) made = WasReadAs (IsRefusedFor (TooMuchAfter count)) made
WhyRefused (CutNotKept error) made = WasRefused KeptBeside made
WhyRefused (FolderNotSynced error) made = WasRefused FolderSynced made
WhyRefused Memory made = Unit {0}
WhyRefused of_call made = 0 < failed_among made
