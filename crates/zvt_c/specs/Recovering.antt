-- Recovery of a till from a journal.
use Rattle.std.specs.Prelude.{◌≡◌, ℕ, List, Option, Some, None, Ok, Err}
use Rattle.zvt_stream.specs.StreamState.{at_start}
use Rattle.zvt_settle.specs.Inside.{both_of}
use Rattle.zvt_kept.specs.Recovery.{HasSettled, Recovers}
use Rattle.zvt_kept.specs.declared.recovery.RecoveryError.{RecoveryError}
use Rattle.zvt_kept.specs.declared.recovery.RecoveryError.TheVariants.{Opening, Check, Line, Record, Memory}
use Rattle.zvt_c.specs.declared.answer.ZvtAnswer.{ZvtAnswer}
use Rattle.zvt_c.specs.declared.session.Session.{Session}
use Rattle.zvt_c.specs.Cards.{no_card}
use Rattle.zvt_c.specs.Saving.{bare}
use Rattle.zvt_c.specs.Statuses as statuses

-- bytes that are no journal of this till, for a reason, and the line or the record that is wrong
abbrev pub wrong_at : (reason place : ℕ) → ZvtAnswer
wrong_at reason place = record { size = 0; place = place; reason = reason; status = statuses.refused }

-- why there is no till
abbrev pub refused_as : RecoveryError → ZvtAnswer
refused_as Opening = wrong_at 1 1
refused_as (Line number) = wrong_at 2 number
refused_as (Record number) = wrong_at 3 number
refused_as (Check number) = wrong_at 4 number
refused_as Memory = bare statuses.no_memory

-- The till is restored from the records, with its former settings, and knows what their asks settled and what is pending.
-- Its stream is at the start of a line, and it has no card. Or nothing changes.
pub data RecoversEnd (before : Session) (text : List ℕ) (after : Session) (answer : ZvtAnswer) : Type 0 where
  recovered : Recovers before.till.till.state.settings text (Ok after.till.till) → HasSettled before.till.till.state.settings text (both_of after.till) → after.stream ≡ at_start → after.card ≡ no_card → answer ≡ bare statuses.ok → RecoversEnd before text after answer
  refused : (why : RecoveryError) → Recovers before.till.till.state.settings text (Err why) → after ≡ before → answer ≡ refused_as why → RecoversEnd before text after answer

-- The till of a handle is recovered. If the handle is closed, nothing changes.
abbrev pub RecoversHandle : Option Session → (text : List ℕ) → Option Session → ZvtAnswer → Type 0
RecoversHandle None text after answer = (after ≡ None) × (answer ≡ bare statuses.closed)
RecoversHandle (Some before) text after answer = (end : Session) × (after ≡ Some end) × RecoversEnd before text end answer
