-- What two listeners hear, and what a tally counts of it.
use Rattle.std.specs.Prelude.{◌≡◌, ◌⊎◌, ℕ, ◌+◌, min}
use Rattle.zvt_trace.specs.Listening.{Fails, Hears}
use Rattle.zvt_trace.specs.TraceEvent.{At, TraceEvent, message, refused, unread, resumed, cut_off, lost}
use Rattle.zvt_trace.specs.declared.fault.Tally.{Tally}
use Rattle.zvt_trace.specs.declared.listener.ListenerError.{ListenerError}

-- each hears the event
abbrev pub BothHear : {A B : Type 0} → Hears A → Hears B → At → (a : A) (b : B) (x : A) (y : B) → Type 0
BothHear first second event a b x y = first a event x × second b event y

-- The first fails, and the second does not change; or the first hears the event, and the second fails.
abbrev pub OneFails : {A B : Type 0} → Hears A → Fails A → Fails B → At → ListenerError → (a : A) (b : B) (x : A) (y : B) → Type 0
OneFails hears fails second_fails event why a b x y = (fails a event why x × (y ≡ b)) ⊎ (hears a event x × second_fails b event why y)

-- one more, saturating at 64 bits
abbrev pub one_more : ℕ → ℕ
one_more n = min (n + 1) 18446744073709551615

-- messages are counted, and so are streams that are refused or cut off
abbrev pub counted : Tally → TraceEvent → Tally
counted tally (message from m) = record tally { messages = one_more tally.messages }
counted tally (refused from before byte why) = record tally { bad = one_more tally.bad }
counted tally (unread from) = tally
counted tally (resumed from size) = tally
counted tally (cut_off from bytes) = record tally { bad = one_more tally.bad }
counted tally lost = tally
