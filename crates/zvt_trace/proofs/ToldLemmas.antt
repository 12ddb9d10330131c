-- What a whole piece emits.
use Rattle.std.proofs.Common.{◌≡◌, ℕ, Bool, true, false, ◌||◌, subst, List, [], ◌∷◌, ◌++◌, length, arith, refl, sym, ◌∙◌, ap, append-nil}
use Rattle.std.specs.Prelude.{MatchResult, Result, Ok, Err}
use Rattle.std.proofs.lemmas.Bool.{false≢true, or_parts, true≢false}
use Rattle.zvt_grammar.specs.Reading.{Reading}
use Rattle.zvt_trace.specs.Emitting.{Passes, PieceEmits, PrefixOf, or_unread, told}
use Rattle.zvt_trace.specs.Listening.{BytesBegin, EmitsPiece, Fails, FailsIn, Hears, HearsAll, HearsBytes, HearsPiece, PieceBegins, has_some, is_stopped}
use Rattle.zvt_trace.specs.TraceEvent.{At, on, unread}
use Rattle.zvt_trace.specs.Trace.{Side, running, skipping, stopped}
use Rattle.zvt_trace.specs.Written.{Follows, Knows, is_everything, is_nothing}
use Rattle.zvt_trace.specs.declared.direction.Direction.{Direction}
use Rattle.zvt_trace.specs.declared.listener.ListenerError.{ListenerError}
use Rattle.zvt_trace.specs.declared.listener.Scope.{Scope}
use Rattle.zvt_trace.specs.declared.side.SideReader.{SideReader}
use Rattle.zvt_trace.specs.declared.side.Skipped.{Skipped}
use Rattle.zvt_trace.proofs.EventLemmas.{fails_as, fails_next, hears_one, prefix_whole}

-- nothing more is read, or some of what comes is
pub ends_with : (reader : SideReader) (side : Side) → Knows reader side → is_everything reader.skipped ≡ is_stopped side
ends_with reader (running bytes) knows = ap is_everything knows
ends_with reader (skipping size left) knows = ap is_everything knows.0
ends_with reader stopped knows = ap is_everything knows

-- what a prefix of the bytes emits, a prefix of the piece does
told_begins : {r : Reading} (scope : Scope) (line : ℕ) (from : Direction) (side after : Side) (first : List ℕ) (events : List At) → PrefixOf (λ all. Passes r scope line from side first all after) events
    → PrefixOf (λ all. PieceEmits r scope line from side first all after) events
told_begins {r = r} scope line from side after first events prefix =
    let longer = told_longer side prefix.all events prefix.later prefix.is_prefix in record {
      all = told line from side prefix.all;
      later = longer.0;
      emit = record { own = prefix.all; passes = prefix.emit; is_all = refl };
      is_prefix = longer.1;
    }
  where
    unread_longer : (all events later : List At) → all ≡ events ++ later → (rest : List At) × (or_unread line from all ≡ events ++ rest)
    unread_longer [] [] later is = (on line (unread from) ∷ [], refl)
    unread_longer [] (event ∷ events) later is = absurd (omega (arith, ap (λ (es : List At). length es) is))
    unread_longer (event ∷ all) events later is = (later, is)

    told_longer : (side : Side) (all events later : List At) → all ≡ events ++ later → (rest : List At) × (told line from side all ≡ events ++ rest)
    told_longer (running bytes) all events later is = (later, is)
    told_longer (skipping size left) all events later is = unread_longer all events later is
    told_longer stopped all events later is = unread_longer all events later is

pub bytes_fail : {S : Type 0} {r : Reading} (hears : Hears S) (fails : Fails S) (why : ListenerError) (scope : Scope) (line : ℕ) (from : Direction) (side : Side) (bytes : List ℕ) (old new : S)
    → FailsIn hears fails why (BytesBegin r scope line from side bytes) old new → FailsIn hears fails why (PieceBegins r scope line from side bytes) old new
bytes_fail hears fails why scope line from side bytes old new failed =
    fails_as hears fails why old new failed (λ events so. record {
      first = so.first;
      more = so.more;
      after = so.after;
      cut = so.cut;
      emits = told_begins scope line from side so.after so.first events so.emits;
    })

-- what the bytes emit, the piece does, where the side is read on or something is emitted
pub hears_piece : {S : Type 0} {r : Reading} (hears : Hears S) (scope : Scope) (line : ℕ) (from : Direction) (side : Side) (bytes : List ℕ) (start reader : SideReader) (any : Bool) (old new : S) → Follows r start side
    → HearsBytes r hears scope line from side bytes reader any old new → (is_nothing start.skipped || any) ≡ true
    → HearsPiece r hears scope line from side bytes reader old new
hears_piece hears scope line from side bytes start reader any old new follows heard some = record {
  events = heard.events;
  after = heard.after;
  emits = record { own = heard.events; passes = heard.passes; is_all = sym (told_some side heard.events (subst (λ (b : Bool). (is_nothing start.skipped || b) ≡ true) heard.some some) follows.1) };
  heard = heard.heard;
  follows = heard.follows;
  few = heard.few;
}
  where
    some_told : (events : List At) → has_some events ≡ true → or_unread line from events ≡ events
    some_told [] none = absurd (false≢true none)
    some_told (event ∷ events) e = refl

    told_some : (side : Side) (events : List At) → (is_nothing start.skipped || has_some events) ≡ true → Knows start side → told line from side events ≡ events
    told_some (running before) events e knows = refl
    told_some (skipping size left) events e knows = some_told events (subst (λ (s : Skipped). (is_nothing s || has_some events) ≡ true) knows.0 e)
    told_some stopped events e knows = some_told events (subst (λ (s : Skipped). (is_nothing s || has_some events) ≡ true) knows e)

-- else none of it was read
unread_emits : {S : Type 0} {r : Reading} (hears : Hears S) (scope : Scope) (line : ℕ) (from : Direction) (side : Side) (bytes : List ℕ) (start reader : SideReader) (any : Bool) (old now : S) → Follows r start side
    → (heard : HearsBytes r hears scope line from side bytes reader any old now) → (is_nothing start.skipped || any) ≡ false
    → PieceEmits r scope line from side bytes (on line (unread from) ∷ []) heard.after × (now ≡ old) × (heard.events ≡ [])
unread_emits {r = r} hears scope line from side bytes start reader any old now follows heard none = (
  record {
    own = [];
    passes = subst (λ (es : List At). Passes r scope line from side bytes es heard.after) silent heard.passes;
    is_all = sym (told_none side quiet.0 follows.1);
  },
  subst (λ (es : List At). HearsAll hears old es now) silent heard.heard,
  silent,
)
  where
    quiet : (is_nothing start.skipped ≡ false) × (any ≡ false)
    quiet = or_parts (is_nothing start.skipped) any none

    is_empty : (events : List At) → has_some events ≡ false → events ≡ []
    is_empty [] e = refl
    is_empty (event ∷ events) e = absurd (true≢false e)

    silent : heard.events ≡ []
    silent = is_empty heard.events (sym heard.some ∙ quiet.1)

    told_none : (side : Side) → is_nothing start.skipped ≡ false → Knows start side → told line from side [] ≡ on line (unread from) ∷ []
    told_none (running before) e knows = absurd (true≢false (sym (ap is_nothing knows) ∙ e))
    told_none (skipping size left) e knows = refl
    told_none stopped e knows = refl

unread_piece : {S : Type 0} {r : Reading} (hears : Hears S) (scope : Scope) (line : ℕ) (from : Direction) (side : Side) (bytes : List ℕ) (start reader : SideReader) (any : Bool) (old now new : S) → Follows r start side
    → HearsBytes r hears scope line from side bytes reader any old now → (is_nothing start.skipped || any) ≡ false → hears now (on line (unread from)) new
    → HearsPiece r hears scope line from side bytes reader old new
unread_piece {S = S} hears scope line from side bytes start reader any old now new follows heard none last =
    let unheard = unread_emits hears scope line from side bytes start reader any old now follows heard none in
    let silent : heard.events ≡ [] = unheard.2 in
    record {
      events = on line (unread from) ∷ [];
      after = heard.after;
      emits = unheard.0;
      heard = subst (λ (s : S). HearsAll hears s (on line (unread from) ∷ []) new) unheard.1 (hears_one hears (on line (unread from)) now new last);
      follows = heard.follows;
      few = omega arith;
    }

unread_fails : {S : Type 0} {r : Reading} (hears : Hears S) (fails : Fails S) (why : ListenerError) (scope : Scope) (line : ℕ) (from : Direction) (side : Side) (bytes : List ℕ) (start reader : SideReader) (any : Bool) (old now new : S)
    → Follows r start side → HearsBytes r hears scope line from side bytes reader any old now → (is_nothing start.skipped || any) ≡ false → fails now (on line (unread from)) why new
    → FailsIn hears fails why (PieceBegins r scope line from side bytes) old new
unread_fails hears fails why scope line from side bytes start reader any old now new follows heard none failed =
    let unheard = unread_emits hears scope line from side bytes start reader any old now follows heard none in
    fails_next hears fails why [] (on line (unread from)) old now new unheard.1
    (record { first = bytes; more = []; after = heard.after; cut = sym (append-nil bytes); emits = prefix_whole (on line (unread from) ∷ []) unheard.0 }) failed

-- what saying that it is not read answers
pub unread_ends : {S : Type 0} {r : Reading} (hears : Hears S) (fails : Fails S) (scope : Scope) (line : ℕ) (from : Direction) (side : Side) (bytes : List ℕ) (start reader : SideReader) (any : Bool) (old now new : S) (answer : Result Unit ListenerError)
    → Follows r start side → HearsBytes r hears scope line from side bytes reader any old now → (is_nothing start.skipped || any) ≡ false
    → MatchResult answer (λ _. hears now (on line (unread from)) new) (λ why. fails now (on line (unread from)) why new) → EmitsPiece r hears fails scope line from side bytes reader old new answer
unread_ends hears fails scope line from side bytes start reader any old now new (Ok done) follows heard none last = unread_piece hears scope line from side bytes start reader any old now new follows heard none last
unread_ends hears fails scope line from side bytes start reader any old now new (Err why) follows heard none last = unread_fails hears fails why scope line from side bytes start reader any old now new follows heard none last
