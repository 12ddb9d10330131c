-- A call at one end of a line: one turn, the turns of the call, and the whole call. Each relation takes the end and its
-- machine before and after.
use Rattle.std.specs.Prelude.{◌≡◌, ◌≢◌, ◌⊎◌, ℕ, ◌+◌, ◌<◌, ◌≤◌, length, Bool, true, false, Result, Ok, Err}
use Rattle.zvt_apdu.specs.Message.{Message}
use Rattle.zvt_stream.specs.LineReading.{UnfinishedBy}
use Rattle.zvt_stream.specs.Answered.{Answered}
use Rattle.zvt_stream.specs.EndState.{EndState, NoneFails, OneFails}
use Rattle.zvt_stream.specs.LineRun.{Broken, Pumped, Reported, reached, there_at_once}
use Rattle.zvt_stream.specs.Turns.{Arrives, Falters, LineState, line_ends, line_state}
use Rattle.zvt_stream.specs.declared.line.LineFault.{LineFault}
use Rattle.zvt_stream.specs.declared.line.LineFault.TheVariants.{Turns}
use Rattle.zvt_stream.specs.declared.line.Until.{Until}

-- The line before the first turn of a call, and after the last one, whether or not a message was written.
abbrev pub line_before : {S : Type 0} → EndState → S → LineState S
line_before end machine = line_state end.stream machine end.coming end.written

abbrev pub line_after : {S : Type 0} → EndState → S → Bool → LineState S
line_after end machine = line_ends end.stream machine end.coming end.written

-- ---- one turn

module _ {S : Type 0} (hears : S → Message → Answered → S → Type 0) where
  -- One read brought bytes, and every message in them was heard and answered. No read and no write failed.
  pub record TurnMade (sent : Bool) (before : EndState) (old : S) (after : EndState) (new : S) : Type 0 where
    pub pumped : Pumped hears before.stream after.stream old new before.coming after.coming before.written after.written sent
    pub one_read : length pumped.read ≤ 1024
    pub some_read : 0 < length pumped.read
    pub reads : after.reads ≡ before.reads + 1
    pub none_fails : NoneFails before after

  -- One read failed or met the end of the line, or the line broke over the bytes that it brought.
  pub record TurnBroken (fault : LineFault) (before : EndState) (old : S) (after : EndState) (new : S) : Type 0 where
    pub broken : Broken hears fault before.stream after.stream old new before.coming after.coming before.written after.written
    pub kinds : fault ≢ Turns
    pub reads : after.reads ≡ before.reads + 1
    pub one_fails : OneFails fault before after

  -- The result of a turn: whether a message was written, or the fault.
  abbrev pub MakesTurn : EndState → S → EndState → S → Result Bool LineFault → Type 0
  MakesTurn before old after new (Ok sent) = TurnMade sent before old after new
  MakesTurn before old after new (Err fault) = TurnBroken fault before old after new

-- ---- the turns of a call

module _ {S : Type 0} (hears : S → Message → Answered → S → Type 0) (resting : S → Bool) (until : Until) (turns : ℕ) where
  -- The condition holds, and the last turn is the first after which it does. Every message of the bytes that were read
  -- was heard and answered, and no read and no write failed.
  pub record GetsThere (before : EndState) (old : S) (after : EndState) (new : S) : Type 0 where
    pub sent : Bool
    pub pumped : Pumped hears before.stream after.stream old new before.coming after.coming before.written after.written sent
    pub there : reached until (resting new) sent ≡ true
    pub arrives : Arrives hears resting until turns before.reads after.reads (line_before before old) (line_after after new)
    pub none_fails : NoneFails before after

  -- The condition held after no turn before the fault.
  pub record FallsShort (fault : LineFault) (before : EndState) (old : S) (after : EndState) (new : S) : Type 0 where
    pub broken : Broken hears fault before.stream after.stream old new before.coming after.coming before.written after.written
    pub falters : Falters hears resting until fault turns before.reads after.reads (line_before before old) (line_after after new)
    pub one_fails : OneFails fault before after

  -- The result of the turns of a call, before a fault is reported to the machine.
  abbrev pub MakesTurns : EndState → S → EndState → S → Result Unit LineFault → Type 0
  MakesTurns before old after new (Ok done) = GetsThere before old after new
  MakesTurns before old after new (Err fault) = FallsShort fault before old after new

  -- ---- the whole call

  -- The condition held before the first turn. Nothing was read or written, and the stream holds only the beginning of a
  -- message.
  pub record StaysThere (before : EndState) (old : S) (after : EndState) (new : S) : Type 0 where
    pub at_once : there_at_once until (resting old) ≡ true
    pub same_end : after ≡ before
    pub same_machine : new ≡ old
    pub unfinished : UnfinishedBy before.stream.reading before.stream.held

  -- The condition holds: at once, or after some turns.
  abbrev pub Comes : EndState → S → EndState → S → Type 0
  Comes before old after new = StaysThere before old after new ⊎ ((there_at_once until (resting old) ≡ false) × GetsThere before old after new)

  module _ (loses malforms : S → S → Type 0) where
    -- The condition did not hold at once, a fault ended the turns, and the machine was notified of it.
    pub record GivesUp (fault : LineFault) (before : EndState) (old : S) (after : EndState) (new : S) : Type 0 where
      pub middle : S
      pub not_at_once : there_at_once until (resting old) ≡ false
      pub falls_short : FallsShort fault before old after middle
      pub reported : Reported loses malforms fault middle new

    -- The result of a call of `pump`.
    abbrev pub Pumps : EndState → S → EndState → S → Result Unit LineFault → Type 0
    Pumps before old after new (Ok done) = Comes before old after new
    Pumps before old after new (Err fault) = GivesUp fault before old after new
