-- One ask of a till on a line, from start to end.
use Rattle.std.specs.Prelude.{◌≡◌, ◌⊎◌, ℕ, Bool, true, false, List, Option, None, Result, Ok, Err}
use Rattle.std.specs.Io.KnownBytes.{Appends}
use Rattle.zvt_apdu.specs.Message.{Message}
use Rattle.zvt_stream.specs.Answered.{Answered}
use Rattle.zvt_stream.specs.EndState.{EndState}
use Rattle.zvt_stream.specs.Pumping.{Comes, GivesUp}
use Rattle.zvt_stream.specs.declared.line.LineFault.{LineFault}
use Rattle.zvt_stream.specs.declared.line.LineFault.TheVariants.{Write}
use Rattle.zvt_stream.specs.declared.line.Until.TheVariants.{Rest}
use Rattle.zvt_till.specs.declared.keeper.BookFault.TheVariants.{NoSpace, Failed}
use Rattle.zvt_till.specs.declared.keeper.Untaken.{Untaken}
use Rattle.zvt_till.specs.declared.keeper.Untaken.TheVariants.{Order as Refused, Book as Unkept}
use Rattle.zvt_till.specs.declared.line.RunFault.{RunFault}
use Rattle.zvt_till.specs.declared.line.RunFault.TheVariants.{Order as OrderFault, Line, Book as BookBroke}
use Rattle.zvt_settle.specs.Settling.{Both}

module _ {K : Type 0} (asks : K → Result (List ℕ) Untaken → K → Type 0) where
  -- An ask was accepted, and its message was written.
  pub record SendsAsk (old new : K) (first last : Option (List ℕ)) : Type 0 where
    pub bytes : List ℕ
    pub asked : asks old (Ok bytes) new
    pub appended : Appends first last bytes

  -- An ask was sent, and nothing was read yet.
  pub record AskBegins (old new : K) (before after : EndState) : Type 0 where
    pub sends : SendsAsk old new before.written after.written
    pub unread : after ≡ record before { written = after.written }

  module _ (loses : K → K → Type 0) where
    -- An ask was refused, or its book could not be kept; or it was accepted and could not be written, and the till
    -- lost its line.
    abbrev pub NotAsked : RunFault → (old new : K) → (first last : Option (List ℕ)) → Type 0
    NotAsked (OrderFault why) old new first last = asks old (Err (Refused why)) new × (last ≡ first)
    NotAsked (BookBroke why) old new first last = asks old (Err (Unkept why)) new × (last ≡ first)
    NotAsked (Line fault) old new first last = (fault ≡ Write) × (bytes : List ℕ) × (taken : K) × asks old (Ok bytes) taken × loses taken new

  module _ (hears : K → Message → Answered → K → Type 0) (is_resting : K → Bool) (turns : ℕ) where
    -- An ask was sent, and the line went on until the till rested.
    pub record AskComes (before after : EndState) (old new : K) : Type 0 where
      pub asking : K
      pub middle : EndState
      pub begins : AskBegins old asking before middle
      pub comes : Comes hears is_resting Rest turns middle asking after new

    module _ (loses malforms : K → K → Type 0) (failed : K → Bool) where
      -- An ask was sent, and then the line broke, and the till was notified.
      pub record AskBreaksOff (fault : LineFault) (before after : EndState) (old new : K) : Type 0 where
        pub asking : K
        pub middle : EndState
        pub begins : AskBegins old asking before middle
        pub gives_up : GivesUp hears is_resting Rest turns loses malforms fault middle asking after new

      -- An ask was not sent, and nothing was read; or the line broke, or the book failed while the replies were
      -- processed.
      abbrev pub AskFails : RunFault → (before after : EndState) → (old new : K) → Type 0
      AskFails fault before after old new =
          (NotAsked loses fault old new before.written after.written × (after ≡ record before { written = after.written; failed_writes = after.failed_writes }))
          ⊎ ((broken : LineFault) × (fault ≡ Line broken) × AskBreaksOff broken before after old new)
          ⊎ ((fault ≡ BookBroke Failed) × (failed new ≡ true) × AskComes before after old new)

      -- what became of an ask, and whether its book has it
      abbrev pub AskRuns : Result Unit RunFault → (before after : EndState) → (old new : K) → Type 0
      AskRuns (Ok done) before after old new = AskComes before after old new × (failed new ≡ false)
      AskRuns (Err fault) before after old new = AskFails fault before after old new

-- neither an order nor an ask is running
pub record Rests (b : Both) : Type 0 where
  pub order : b.till.running ≡ None
  pub ask : b.settling.asking ≡ None

-- and the line is down
abbrev pub IsSilent : Both → Type 0
IsSilent b = Rests b × (b.till.line_up ≡ false)

-- this holds after a broken line and after a book that failed
abbrev pub IsSilentAfter : RunFault → Both → Type 0
IsSilentAfter (OrderFault why) b = Unit {0}
IsSilentAfter (Line fault) b = IsSilent b
IsSilentAfter (BookBroke NoSpace) b = Unit {0}
IsSilentAfter (BookBroke Failed) b = IsSilent b
