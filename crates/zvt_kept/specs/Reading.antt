-- The records that the code reads and writes, in terms of their definitions.
use Rattle.std.specs.Prelude.{◌≡◌, ◌+◌, ◌≤◌, ℕ, List, [], ◌∷◌, ◌++◌, map, length, Option, Some, None, IsSome, Result, Ok, Err, MatchResult, Vec}
use Rattle.std.specs.Str.Lines.{lines}
use Rattle.std.specs.declared.alloc.Global.{Global}
use Rattle.zvt_io.specs.Devices.{IsPrefix}
use Rattle.zvt_kept.specs.Checks.{IsFirstWrongCheck}
use Rattle.zvt_kept.specs.Records.{Kept, ordered, asked, heard, lost, kept_in, last_of, meaning_behind, meanings}
use Rattle.zvt_kept.specs.declared.records.Entry.{Entry}
use Rattle.zvt_kept.specs.declared.records.Entry.TheVariants as entry
use Rattle.zvt_kept.specs.declared.lines.Meaning.{Meaning}
use Rattle.zvt_kept.specs.declared.lines.Meaning.TheVariants.{Nothing, Kept as KeptEntry, Unknown}
use Rattle.zvt_kept.specs.declared.lines.RecordError.{RecordError}
use Rattle.zvt_kept.specs.declared.lines.RecordError.TheVariants.{Check, Line, Memory}

-- the meaning of an entry of the code
abbrev pub kept_of : Entry → Kept
kept_of (entry.Order order note) = ordered order note
kept_of (entry.Ask note) = asked note
kept_of (entry.Heard message) = heard message.items
kept_of entry.Lost = lost

-- the meaning of a line of the code
abbrev pub meant_by : Meaning → Option (List Kept)
meant_by Nothing = Some []
meant_by (KeptEntry one) = Some (kept_of one ∷ [])
meant_by Unknown = None

-- the line of this number, counted from 1, is the first that has no meaning
pub record IsFirstWrong (text : List ℕ) (number : ℕ) : Type 0 where
  pub before : List (List ℕ)
  pub line : List ℕ
  pub after : List (List ℕ)
  pub is : lines text ≡ before ++ line ∷ after
  pub good : IsSome (meanings [] before)
  pub wrong : meaning_behind (last_of [] before) line ≡ None
  pub number_is : number ≡ length before + 1

-- the entries are the meaning of the text; or the text has no meaning, because of this line or this check
abbrev pub ReadsRecords : (text : List ℕ) → Result (Vec Entry Global) RecordError → Type 0
ReadsRecords text (Ok entries) = kept_in text ≡ Some (map kept_of entries.items)
ReadsRecords text (Err (Line number)) = (kept_in text ≡ None) × IsFirstWrong text number
ReadsRecords text (Err (Check number)) = (kept_in text ≡ None) × IsFirstWrongCheck text number
ReadsRecords text (Err Memory) = Unit {0}

-- the lines of the text before the rest: their meanings, the last of them, and their number
pub record HasRead (text rest last : List ℕ) (number : ℕ) (entries : List Entry) : Type 0 where
  pub before : List (List ℕ)
  pub is : lines text ≡ before ++ lines rest
  pub good : meanings [] before ≡ Some (map kept_of entries)
  pub last_is : last ≡ last_of [] before
  pub number_is : number ≡ length before
  pub fits : number + length rest ≤ length text

-- The text was extended by everything that was to be written or, if memory ran out, by a prefix of it.
abbrev pub Extends : {E : Type 0} → Result Unit E → (old new : List ℕ) → (written : List ℕ) → Type 0
Extends result old new written = MatchResult result (λ _. new ≡ old ++ written) (λ _. (part : List ℕ) × IsPrefix part written × (new ≡ old ++ part))
