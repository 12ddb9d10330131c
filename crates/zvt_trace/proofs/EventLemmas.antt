-- Events, one after another.
use Rattle.std.proofs.Common.{◌≡◌, inl, inr, ℕ, ◌+◌, List, [], ◌∷◌, ◌++◌, length, refl, sym, ◌∙◌, ap, subst, arith, append_assoc, append-nil}
use Rattle.std.proofs.lemmas.List.Sums.{sum_by-append, sum_by-cons}
use Rattle.zvt_apdu.specs.Message.{Message}
use Rattle.zvt_trace.specs.Listening.{Fails, FailsIn, Hears, HearsAll, Stops}
use Rattle.zvt_trace.specs.TraceEvent.{At, bad_count, bad_in, message, message_count, messages_in, on}
use Rattle.zvt_trace.specs.Emitting.{PrefixOf, messages_emitted}
use Rattle.zvt_trace.specs.declared.direction.Direction.{Direction}
use Rattle.zvt_trace.specs.declared.listener.ListenerError.{ListenerError}
use Rattle.zvt_trace.specs.declared.listener.ListenerError.TheVariants.{Memory}

-- ---- what is heard

pub hears_append : {S : Type 0} (hears : Hears S) (a b : List At) (x y z : S) → HearsAll hears x a y → HearsAll hears y b z → HearsAll hears x (a ++ b) z
hears_append {S = S} hears [] b x y z none later = subst (λ (s : S). HearsAll hears s b z) none later
hears_append hears (event ∷ a) b x y z some later = (some.0, some.1, hears_append hears a b some.0 y z some.2 later)

pub hears_one : {S : Type 0} (hears : Hears S) (event : At) (x y : S) → hears x event y → HearsAll hears x (event ∷ []) y
hears_one hears event x y heard = (y, heard, refl)

pub hears_push : {S : Type 0} (hears : Hears S) (a : List At) (event : At) (x y z : S) → HearsAll hears x a y → hears y event z → HearsAll hears x (a ++ event ∷ []) z
hears_push hears a event x y z so heard = hears_append hears a (event ∷ []) x y z so (hears_one hears event y z heard)

-- ---- counts

pub messages_append : (a b : List At) → messages_in (a ++ b) ≡ messages_in a + messages_in b
messages_append a b = sum_by-append (λ (event : At). message_count event.trace_event) a b

pub bad_append : (a b : List At) → bad_in (a ++ b) ≡ bad_in a + bad_in b
bad_append a b = sum_by-append (λ (event : At). bad_count event.trace_event) a b

pub messages_of : (line : ℕ) (from : Direction) (messages : List Message) → messages_in (messages_emitted line from messages) ≡ length messages
messages_of line from [] = refl
messages_of line from (m ∷ messages) =
    sum_by-cons (λ (event : At). message_count event.trace_event) (on line (message from m)) (messages_emitted line from messages) ∙ ap (λ n. 1 + n) (messages_of line from messages) ∙ omega arith

pub none_bad : (line : ℕ) (from : Direction) (messages : List Message) → bad_in (messages_emitted line from messages) ≡ 0
none_bad line from [] = refl
none_bad line from (m ∷ messages) =
    sum_by-cons (λ (event : At). bad_count event.trace_event) (on line (message from m)) (messages_emitted line from messages) ∙ ap (λ (n : ℕ). 0 + n) (none_bad line from messages)

-- ---- prefixes

pub prefix_whole : {Emit : List At → Type 0} (all : List At) → Emit all → PrefixOf Emit all
prefix_whole all emit = record { all = all; later = []; emit = emit; is_prefix = sym (append-nil all) }

-- what follows is emitted too
pub prefix_before : {Emit More : List At → Type 0} (events : List At) → PrefixOf Emit events → ((all : List At) → Emit all → (rest : List At) × More (all ++ rest)) → PrefixOf More events
prefix_before events prefix more =
    let longer = more prefix.all prefix.emit in record {
      all = prefix.all ++ longer.0;
      later = prefix.later ++ longer.0;
      emit = longer.1;
      is_prefix = ap (λ (a : List At). a ++ longer.0) prefix.is_prefix ∙ append_assoc events prefix.later longer.0;
    }

-- what comes before is emitted too
pub prefix_after : {Emit More : List At → Type 0} (before events : List At) → PrefixOf Emit events → ((all : List At) → Emit all → More (before ++ all)) → PrefixOf More (before ++ events)
prefix_after before events prefix more = record {
  all = before ++ prefix.all;
  later = prefix.later;
  emit = more prefix.all prefix.emit;
  is_prefix = ap (λ (a : List At). before ++ a) prefix.is_prefix ∙ sym (append_assoc before events prefix.later);
}

-- ---- failures

pub fails_here : {S : Type 0} (hears : Hears S) (fails : Fails S) {So : List At → Type 0} (events : List At) (old new : S) → HearsAll hears old events new → So events → FailsIn hears fails Memory So old new
fails_here hears fails events old new heard so = record { events = events; middle = new; heard = heard; stops = inl (refl, so, refl) }

pub fails_next : {S : Type 0} (hears : Hears S) (fails : Fails S) (why : ListenerError) {So : List At → Type 0} (events : List At) (event : At) (old middle new : S)
    → HearsAll hears old events middle → So (events ++ event ∷ []) → fails middle event why new → FailsIn hears fails why So old new
fails_next hears fails why events event old middle new heard so failed = record { events = events; middle = middle; heard = heard; stops = inr (event, so, failed) }

-- after what was heard before
pub fails_after : {S : Type 0} (hears : Hears S) (fails : Fails S) (why : ListenerError) {So More : List At → Type 0} (before : List At) (old middle new : S)
    → HearsAll hears old before middle → FailsIn hears fails why So middle new → ((events : List At) → So events → More (before ++ events)) → FailsIn hears fails why More old new
fails_after {S = S} hears fails why {So = So} {More = More} before old middle new heard failed more = record {
  events = before ++ failed.events;
  middle = failed.middle;
  heard = hears_append hears before failed.events old middle failed.middle heard failed.heard;
  stops = by failed.stops;
}
  where
    by : Stops fails why So failed.events failed.middle new → Stops fails why More (before ++ failed.events) failed.middle new
    by (inl (is, so, same)) = inl (is, more failed.events so, same)
    by (inr (event, so, left)) = inr (event, subst More (sym (append_assoc before failed.events (event ∷ []))) (more (failed.events ++ event ∷ []) so), left)

pub fails_as : {S : Type 0} (hears : Hears S) (fails : Fails S) (why : ListenerError) {So More : List At → Type 0} (old new : S)
    → FailsIn hears fails why So old new → ((events : List At) → So events → More events) → FailsIn hears fails why More old new
fails_as hears fails why old new failed more = fails_after hears fails why [] old old new refl failed more
