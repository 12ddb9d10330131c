-- What is seen of a trace, and messages that are known by their control bytes.
use Rattle.std.proofs.Common.{◌≡◌, ◌<◌, ℕ, List, [], ◌∷◌, None, length, refl, sym, ◌∙◌, ap, subst, arith}
use Rattle.zvt_grammar.specs.Reading.{AreBytes, shortest}
use Rattle.zvt_apdu.specs.Grammar.{Data, IsControl, Spells}
use Rattle.zvt_apdu.specs.Kinds.{kind_at}
use Rattle.zvt_apdu.specs.Message.{Message, registration, authorisation, reversal, end_of_day, abort_order, status, completion, abort, other}
use Rattle.zvt_apdu.specs.declared.kinds.Kind.TheVariants as kind
use Rattle.zvt_stream.specs.declared.head.Head.TheVariants.{Two}
use Rattle.zvt_apdu.specs.declared.kinds.Kind.{Kind}
use Rattle.zvt_apdu.proofs.FormLemmas.{form_of_one}
use Rattle.zvt_trace.specs.Listening.{Hears, HearsAll}
use Rattle.zvt_trace.specs.TraceEvent.{At}
use Rattle.zvt_trace.specs.declared.direction.Direction.{Direction}
use Rattle.zvt_trace.specs.declared.listener.Scope.{Scope}
use Rattle.zvt_trace.specs.declared.listener.Scope.TheVariants.{OneSide, WholeLine}
use Rattle.zvt_audit.specs.ByControl.{HearsBy, at_by, event_for, known_by, passed_after, passed_with, seen, shortest_of}
use Rattle.zvt_audit.specs.declared.by_control.ByControl.{ByControl}

-- ---- what is seen

-- the listener heard what is seen of the events
pub all_seen : {S : Type 0} (hears : Hears S) (scope : Scope) (events : List At) (old new : ByControl S) → old.scope ≡ scope → HearsAll (HearsBy hears) old events new
    → HearsAll hears old.listener (seen scope events) new.listener × (new.passed ≡ passed_after scope old.passed events)
all_seen hears scope [] old new is same = (ap (λ s. s.listener) same, ap (λ s. s.passed) same)
all_seen {S = S} hears scope (event ∷ events) old new is (middle, (heard, kept, counted), rest) =
    let later = all_seen hears scope events middle new (kept ∙ is) rest in
    let first : hears old.listener (at_by scope event) middle.listener = subst (λ (s : Scope). hears old.listener (at_by s event) middle.listener) is heard in
    let count : middle.passed ≡ passed_with scope old.passed event.trace_event = subst (λ (s : Scope). middle.passed ≡ passed_with s old.passed event.trace_event) is counted in
    ((middle.listener, first, later.0), later.1 ∙ ap (λ (n : ℕ). passed_after scope n events) count)

-- where the whole line stops, all is seen as it is
pub seen_whole : (events : List At) → seen WholeLine events ≡ events
seen_whole [] = refl
seen_whole (event ∷ events) = ap (λ (later : List At). event ∷ later) (seen_whole events)

pub none_passed : (n : ℕ) (events : List At) → passed_after WholeLine n events ≡ n
none_passed n [] = refl
none_passed n (event ∷ events) = none_passed n events

-- where one side stops, too
pub seen_side : (events : List At) → seen OneSide events ≡ events
seen_side [] = refl
seen_side (event ∷ events) = ap (λ (later : List At). event ∷ later) (seen_side events)

pub none_passed_side : (n : ℕ) (events : List At) → passed_after OneSide n events ≡ n
none_passed_side n [] = refl
none_passed_side n (event ∷ events) = none_passed_side n events

-- ---- the shortest spellings

of_control : (m : Message) (high low : ℕ) (content : List ℕ) → IsControl m (high ∷ low ∷ []) → length content < 255 → Data shortest m content → Spells shortest m (high ∷ low ∷ length content ∷ content)
of_control m high low content is small is_data = record {
  control = high ∷ low ∷ [];
  size = length content ∷ [];
  content = content;
  whole = refl;
  is_control = is;
  is_size = (small, refl);
  is_content = is_data;
}

password : AreBytes (0 ∷ 0 ∷ 0 ∷ [])
password = (omega arith, (omega arith, (omega arith, tt)))

pub spells_registration : Spells shortest (registration (0 ∷ 0 ∷ 0 ∷ []) 0 None) (0x06 ∷ 0x00 ∷ 4 ∷ 0 ∷ 0 ∷ 0 ∷ 0 ∷ [])
spells_registration = of_control (registration (0 ∷ 0 ∷ 0 ∷ []) 0 None) 0x06 0x00 (0 ∷ 0 ∷ 0 ∷ 0 ∷ []) refl (omega arith) (refl, refl, (omega arith, (omega arith, (omega arith, (omega arith, tt)))), tt)

pub spells_authorisation : Spells shortest (authorisation []) (0x06 ∷ 0x01 ∷ 0 ∷ [])
spells_authorisation = of_control (authorisation []) 0x06 0x01 [] refl (omega arith) ([], refl, refl, tt, refl)

pub spells_reversal : Spells shortest (reversal (0 ∷ 0 ∷ 0 ∷ []) []) (0x06 ∷ 0x30 ∷ 3 ∷ 0 ∷ 0 ∷ 0 ∷ [])
spells_reversal = of_control (reversal (0 ∷ 0 ∷ 0 ∷ []) []) 0x06 0x30 (0 ∷ 0 ∷ 0 ∷ []) refl (omega arith) ([], refl, refl, password, refl)

pub spells_end_of_day : Spells shortest (end_of_day (0 ∷ 0 ∷ 0 ∷ []) []) (0x06 ∷ 0x50 ∷ 3 ∷ 0 ∷ 0 ∷ 0 ∷ [])
spells_end_of_day = of_control (end_of_day (0 ∷ 0 ∷ 0 ∷ []) []) 0x06 0x50 (0 ∷ 0 ∷ 0 ∷ []) refl (omega arith) ([], refl, refl, password, refl)

pub spells_abort_order : Spells shortest (abort_order []) (0x06 ∷ 0xB0 ∷ 0 ∷ [])
spells_abort_order = of_control (abort_order []) 0x06 0xB0 [] refl (omega arith) ([], refl, refl, tt, refl)

pub spells_status : Spells shortest (status []) (0x04 ∷ 0x0F ∷ 0 ∷ [])
spells_status = of_control (status []) 0x04 0x0F [] refl (omega arith) ([], refl, refl, tt, refl)

pub spells_completion : Spells shortest (completion []) (0x06 ∷ 0x0F ∷ 0 ∷ [])
spells_completion = of_control (completion []) 0x06 0x0F [] refl (omega arith) ([], refl, refl, tt, refl)

pub spells_abort : Spells shortest (abort 0xFF []) (0x06 ∷ 0x1E ∷ 1 ∷ 0xFF ∷ [])
spells_abort = of_control (abort 0xFF []) 0x06 0x1E (0xFF ∷ []) refl (omega arith) (refl, refl, (omega arith, tt), tt)

pub spells_other : (high low : ℕ) → high < 256 → low < 256 → kind_at high low ≡ kind.Other → Spells shortest (other high low []) (high ∷ low ∷ 0 ∷ [])
spells_other high low small_high small_low is = of_control (other high low []) high low [] (refl, small_high, small_low, sym (form_of_one high low refl is)) (omega arith) (refl, refl, tt, tt)

-- the message that stands for one with these control bytes
pub known_as : (from : Direction) (high low : ℕ) (k : Kind) → kind_at high low ≡ k → known_by from (Two high low) ≡ event_for from (shortest_of k high low)
known_as from high low k is = ap (λ (x : Kind). event_for from (shortest_of x high low)) is
