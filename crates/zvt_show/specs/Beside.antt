-- What is shown of a line while another listener hears it.
use Rattle.std.specs.Prelude.{◌≡◌, ◌⊎◌, ◌++◌, [], ℕ, Bool, true, false, List, Option, None, Some, Result, Ok, Err}
use Rattle.std.specs.Io.KnownBytes.{Appends}
use Rattle.std.specs.Str.Lines.{lines}
use Rattle.zvt_grammar.specs.Reading.{Reading}
use Rattle.zvt_trace.specs.Chunks.{HasRead, IsBetweenLines, IsReady, walker_reading, walker_scope}
use Rattle.zvt_trace.specs.Emitting.{WholeTrace}
use Rattle.zvt_trace.specs.Listening.{Hears, HearsAll, fault_of}
use Rattle.zvt_trace.specs.TraceEvent.{At}
use Rattle.zvt_trace.specs.Written.{AppendsPrefix}
use Rattle.zvt_trace.specs.declared.alone.Alone.{Alone}
use Rattle.zvt_trace.specs.declared.both.Both.{Both}
use Rattle.zvt_trace.specs.declared.chunks.Walker.{Walker}
use Rattle.zvt_trace.specs.declared.fault.TraceFault.{TraceFault}
use Rattle.zvt_trace.specs.declared.listener.ListenerError.{ListenerError}
use Rattle.zvt_trace.specs.declared.listener.ListenerError.TheVariants as failure
use Rattle.zvt_trace.specs.declared.listener.Scope.{Scope}
use Rattle.zvt_show.specs.Shown.{Showing}
use Rattle.zvt_show.specs.declared.follow.Follower.{Follower}
use Rattle.zvt_show.specs.declared.pages.Pages.{Pages}
use Rattle.zvt_show.specs.declared.pages.Printing.{Printing}

-- how far the text of a line has come, whether printing it or reading the line failed, the device that has the text, and
-- the other listener
pub record Watching (W L : Type 0) : Type 0 where
  pub follower : Follower
  pub printing_fault : Option ListenerError
  pub fault : Option TraceFault
  pub output : W
  pub beside : L
  pub beside_fault : Option ListenerError

abbrev pub watching : {W L : Type 0} → Walker → Option TraceFault → Both (Alone (Printing W)) (Alone L) → Watching W L
watching walker fault listeners = record {
  follower = record { pages = listeners.first.listener.pages; walker = walker };
  printing_fault = listeners.first.fault;
  fault = fault;
  output = listeners.first.listener.output;
  beside = listeners.second.listener;
  beside_fault = listeners.second.fault;
}

-- the walker has read some bytes
abbrev pub HasReadSome : Walker → Type 0
HasReadSome walker = (bytes : List ℕ) × (events : List At) × HasRead (walker_reading walker) (walker_scope walker) bytes events walker

-- Unless the line can't be read on, more of it can be. Unless printing failed, no text waits.
abbrev pub MayWatch : Option ListenerError → Option TraceFault → Walker → Pages → Type 0
MayWatch printing_fault None walker pages = IsReady walker × IsBetweenLines walker × HasReadSome walker × (printing_fault ≡ None → pages.block ≡ [])
MayWatch printing_fault (Some fault) walker pages = Unit {0}

-- ---- the text

-- the fault that ends a text, if any
abbrev pub first_fault : Option ListenerError → Option TraceFault → Option TraceFault
first_fault (Some why) fault = Some (fault_of why)
first_fault None fault = fault

abbrev pub or_failed : {X : Type 0} → Option ListenerError → Result X TraceFault → Result X TraceFault
or_failed (Some why) answer = Err (fault_of why)
or_failed None answer = answer

-- how far the text has come, and whether showing it failed
abbrev pub showing_of : {W L : Type 0} → Watching W L → Showing W
showing_of one = record { follower = one.follower; fault = first_fault one.printing_fault one.fault; output = one.output }

-- The text that waits was written, or some prefix of it, unless printing had failed before.
abbrev pub PrintsRest : {W : Type 0} → (W → Option (List ℕ)) → (was_failed : Bool) → (old new : Alone (Printing W)) → Type 0
PrintsRest written true old new = new ≡ old
PrintsRest written false old new =
    (new.listener.pages.style ≡ old.listener.pages.style) × (new.listener.pages.block ≡ [])
    × (((new.fault ≡ old.fault) × Appends (written old.listener.output) (written new.listener.output) old.listener.pages.block)
    ⊎ ((new.fault ≡ Some failure.Write) × AppendsPrefix (written old.listener.output) (written new.listener.output) old.listener.pages.block))

-- ---- the other listener

-- it has heard all whole lines of these bytes
pub record HearsRead {L : Type 0} (hears : Hears L) (r : Reading) (scope : Scope) (bytes : List ℕ) (start now : L) (walker : Walker) : Type 0 where
  pub events : List At
  pub read : HasRead r scope bytes events walker
  pub heard : HearsAll hears start events now
  pub reading : walker_reading walker ≡ r
  pub by_scope : walker_scope walker ≡ scope

-- unless it failed, or the line can't be read
abbrev pub HasToldBy : {L : Type 0} → Option TraceFault → Option ListenerError → Hears L → Reading → Scope → List ℕ → (start now : L) → Walker → Type 0
HasToldBy None None hears r scope bytes start now walker = HearsRead hears r scope bytes start now walker
HasToldBy None (Some why) hears r scope bytes start now walker = Unit {0}
HasToldBy (Some fault) failed hears r scope bytes start now walker = Unit {0}

-- the listener heard what these lines of a trace say
abbrev pub HasTold : {W L : Type 0} → Hears L → Reading → Scope → (trace : List ℕ) → (start : L) → Watching W L → Type 0
HasTold hears r scope trace start one = HasToldBy one.fault one.beside_fault hears r scope trace start one.beside one.follower.walker

-- it hears what these lines of the trace say besides
abbrev pub Tells : {W L : Type 0} → Hears L → (old : Watching W L) → (text : List ℕ) → (new : Watching W L) → Type 0
Tells {L = L} hears old text new = (r : Reading) (scope : Scope) (trace : List ℕ) (start : L) → HasTold hears r scope trace start old → HasTold hears r scope (trace ++ text) start new

-- a listener that has heard all, or why it has not
abbrev pub told_all : {X L : Type 0} → Option ListenerError → Result X TraceFault → L → Result L TraceFault
told_all (Some why) answer listener = Err (fault_of why)
told_all None (Ok done) listener = Ok listener
told_all None (Err fault) listener = Err fault

-- A listener that has heard all events of the whole trace.
abbrev pub AnswersTold : {L : Type 0} → Hears L → Reading → Scope → (trace : List ℕ) → (start : L) → Result L TraceFault → Type 0
AnswersTold hears r scope trace start (Ok now) = (events : List At) × WholeTrace r scope (lines trace) events × HearsAll hears start events now
AnswersTold hears r scope trace start (Err fault) = Unit {0}
