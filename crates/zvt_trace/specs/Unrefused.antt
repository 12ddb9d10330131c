-- What a refusal leaves unread changes nothing of a trace in which nothing is refused.
use Rattle.std.specs.Prelude.{⊤, ◌≡◌, ℕ, Bool, true, false, List, [], ◌∷◌}
use Rattle.zvt_grammar.specs.Reading.{Reading}
use Rattle.zvt_trace.specs.Emitting.{WholeTrace}
use Rattle.zvt_trace.specs.TraceEvent.{At, TraceEvent, message, refused, unread, resumed, cut_off, lost}
use Rattle.zvt_trace.specs.declared.listener.Scope.{Scope}

abbrev pub is_refusal : TraceEvent → Bool
is_refusal (message from m) = false
is_refusal (refused from before byte why) = true
is_refusal (unread from) = false
is_refusal (resumed from size) = false
is_refusal (cut_off from bytes) = false
is_refusal lost = false

abbrev pub NoneRefused : List At → Type 0
NoneRefused [] = ⊤
NoneRefused (event ∷ events) = (is_refusal event.trace_event ≡ false) × NoneRefused events

-- Where nothing is refused, the events are the same in all scopes.
abbrev pub ScopesAgree : Type 0
ScopesAgree = (r : Reading) (scope other : Scope) (lines : List (List ℕ)) (events : List At) → NoneRefused events → WholeTrace r scope lines events → WholeTrace r other lines events
