-- A line that is read on is never malformed.
use Rattle.std.proofs.Common.{◌≡◌, ◌∙◌, Bool, false, ◌||◌, List, [], ◌∷◌, ◌++◌, Option, None, Some, refl, ap₂}
use Rattle.std.proofs.lemmas.List.Folds.{list_any-append}
use Rattle.std.specs.List.{cons_option, flat_map, list_any}
use Rattle.std.specs.Option.{option_map}
use Rattle.zvt_stream.specs.declared.head.Head.{Head}
use Rattle.zvt_stream.specs.declared.head.Head.TheVariants.{Empty, One, Two}
use Rattle.zvt_apdu.specs.Kinds.{kind_at}
use Rattle.zvt_apdu.specs.Message.{Message}
use Rattle.zvt_till.specs.declared.happenings.Happening.{Happening}
use Rattle.zvt_till.specs.declared.happenings.Happening.TheVariants.{Sent as SentOut}
use Rattle.zvt_till.specs.declared.happenings.Sent.{Sent}
use Rattle.zvt_trace.specs.TraceEvent.{At, TraceEvent, message, refused, unread, resumed, cut_off, lost, refused_head}
use Rattle.zvt_trace.specs.declared.direction.Direction.{Direction}
use Rattle.zvt_trace.specs.declared.direction.Direction.TheVariants.{FromTill, FromTerminal}
use Rattle.zvt_trace.specs.declared.listener.Scope.TheVariants.{OneMessage}
use Rattle.zvt_audit.specs.ByControl.{event_for, known_by, seen, shortest_of, taken_as}
use Rattle.zvt_audit.specs.Happened.{happenings_of, ordered}
use Rattle.zvt_audit.specs.Laws.{ReadOnIsWellFormed, is_malformed}

any_more : (a b : List Happening) → list_any is_malformed a ≡ false → list_any is_malformed b ≡ false → list_any is_malformed (a ++ b) ≡ false
any_more a b first later = list_any-append is_malformed a b ∙ ap₂ (λ (x y : Bool). x || y) first later

any_sent : (order : Option Sent) → list_any is_malformed (cons_option (option_map SentOut order) []) ≡ false
any_sent None = refl
any_sent (Some order) = refl

any_message : (from : Direction) (m : Message) → list_any is_malformed (happenings_of (message from m)) ≡ false
any_message FromTill m = any_sent (ordered m)
any_message FromTerminal m = refl

any_known : (from : Direction) (o : Option Message) → list_any is_malformed (happenings_of (event_for from o)) ≡ false
any_known from None = refl
any_known from (Some m) = any_message from m

any_head : (from : Direction) (head : Head) → list_any is_malformed (happenings_of (known_by from head)) ≡ false
any_head from Empty = refl
any_head from (One high) = refl
any_head from (Two high low) = any_known from (shortest_of (kind_at high low) high low)

any_event : (event : TraceEvent) → list_any is_malformed (happenings_of (taken_as OneMessage event)) ≡ false
any_event (message from m) = any_message from m
any_event (refused from before byte why) = any_head from (refused_head before byte)
any_event (unread from) = refl
any_event (resumed from size) = refl
any_event (cut_off from bytes) = refl
any_event lost = refl

any_events : (events : List At) → list_any is_malformed (flat_map (λ (event : At). happenings_of event.trace_event) (seen OneMessage events)) ≡ false
any_events [] = refl
any_events (event ∷ events) = any_more (happenings_of (taken_as OneMessage event.trace_event)) _ (any_event event.trace_event) (any_events events)

pub read_on_is_well_formed : ReadOnIsWellFormed
read_on_is_well_formed events = any_events events
