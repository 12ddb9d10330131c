-- One end of a line, at which a machine takes turns.
use Rattle.std.specs.Prelude.{◌≡◌, ◌+◌, Bool, Result}
use Rattle.zvt_apdu.specs.Message.{Message}
use Rattle.zvt_stream.specs.Answered.{Answered}
use Rattle.zvt_stream.specs.EndState.{EndState}
use Rattle.zvt_stream.specs.Pumping.{Comes, GivesUp, Pumps}
use Rattle.zvt_stream.specs.declared.line.LineFault.{LineFault}
use Rattle.zvt_stream.specs.declared.line.Until.TheVariants.{Sent}
use Rattle.zvt_till.specs.Line.{NotSent, Sends, writes_failed}
use Rattle.zvt_till.specs.declared.keeper.Untaken.{Untaken}
use Rattle.zvt_till.specs.declared.line.RunFault.{RunFault}
use Rattle.zvt_till.specs.declared.orders.Order.{Order}
use Rattle.zvt_till.specs.declared.orders.Outgoing.{Outgoing}

-- nothing was read
pub record ReadsNothing (old new : EndState) : Type 0 where
  pub stream : new.stream ≡ old.stream
  pub coming : new.coming ≡ old.coming
  pub reads : new.reads ≡ old.reads
  pub failed_reads : new.failed_reads ≡ old.failed_reads

-- the order was accepted and written
pub record Ordered {K : Type 0} (orders : K → Order → Result Outgoing Untaken → K → Type 0) (order : Order) (before : EndState) (old : K) (after : EndState) (new : K) : Type 0 where
  pub sends : Sends orders order old new before.written after.written
  pub reads_nothing : ReadsNothing before after
  pub written_whole : after.failed_writes ≡ before.failed_writes

-- the order was not accepted, or could not be written
pub record NotOrdered {K : Type 0} (orders : K → Order → Result Outgoing Untaken → K → Type 0) (loses : K → K → Type 0) (fault : RunFault) (order : Order) (before : EndState) (old : K) (after : EndState) (new : K) : Type 0 where
  pub not_sent : NotSent orders loses fault order old new before.written after.written
  pub reads_nothing : ReadsNothing before after
  pub failed_write : after.failed_writes ≡ before.failed_writes + writes_failed fault

-- A machine read until it had written a message or was at rest.
abbrev pub Turn : {M : Type 0} → (M → Message → Answered → M → Type 0) → (M → Bool) → EndState → M → EndState → M → Type 0
Turn hears rests before old after new = Comes hears rests Sent 1000 before old after new

-- The line broke during a turn, and the machine was notified.
abbrev pub TurnBreaks : {M : Type 0} → (M → Message → Answered → M → Type 0) → (M → Bool) → (loses malforms : M → M → Type 0) → LineFault → EndState → M → EndState → M → Type 0
TurnBreaks hears rests loses malforms fault before old after new = GivesUp hears rests Sent 1000 loses malforms fault before old after new

-- The result of a turn.
abbrev pub TakesTurn : {M : Type 0} → (M → Message → Answered → M → Type 0) → (M → Bool) → (loses malforms : M → M → Type 0) → EndState → M → EndState → M → Result Unit LineFault → Type 0
TakesTurn hears rests loses malforms before old after new result = Pumps hears rests Sent 1000 loses malforms before old after new result
