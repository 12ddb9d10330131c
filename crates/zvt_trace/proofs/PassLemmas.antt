-- What bytes emit, part by part.
use Rattle.std.proofs.Common.{◌≡◌, ℕ, Bool, false, ◌||◌, length-append, subst, List, [], ◌∷◌, ◌++◌, length, refl, sym, ◌∙◌, ap, arith, append_assoc, append-nil}
use Rattle.std.specs.List.{concat}
use Rattle.zvt_grammar.specs.Reading.{Reading}
use Rattle.zvt_trace.specs.Emitting.{PartEmits, PartsEmit, Passes}
use Rattle.zvt_trace.specs.Listening.{BytesBegin, Fails, FailsIn, Hears, HearsBytes, HearsFirst, has_some}
use Rattle.zvt_trace.specs.Meanings.{bytes_of}
use Rattle.zvt_trace.specs.TraceEvent.{At}
use Rattle.zvt_trace.specs.Trace.{Side}
use Rattle.zvt_trace.specs.Written.{Follows}
use Rattle.zvt_trace.specs.declared.direction.Direction.{Direction}
use Rattle.zvt_trace.specs.declared.listener.ListenerError.{ListenerError}
use Rattle.zvt_trace.specs.declared.listener.ListenerError.TheVariants.{Memory}
use Rattle.zvt_trace.specs.declared.listener.Scope.{Scope}
use Rattle.zvt_trace.specs.declared.side.SideReader.{SideReader}
use Rattle.zvt_trace.proofs.EventLemmas.{bad_append, fails_after, fails_as, fails_here, hears_append, messages_append, prefix_after, prefix_whole}
use Rattle.zvt_trace.proofs.SpelledLemmas.{no_bytes_of}

-- ---- parts

concat_both : (a b : List (List ℕ)) → concat (a ++ b) ≡ concat a ++ concat b
concat_both [] b = refl
concat_both (part ∷ a) b = ap (λ (bytes : List ℕ). part ++ bytes) (concat_both a b) ∙ sym (append_assoc part (concat a) (concat b))

parts_both : (r : Reading) (scope : Scope) (line : ℕ) (from : Direction) (side middle after : Side) (a b : List (List ℕ)) (e d : List At) → PartsEmit r scope line from side a e middle → PartsEmit r scope line from middle b d after
    → PartsEmit r scope line from side (a ++ b) (e ++ d) after
parts_both r scope line from side middle after [] b e d one two =
    let here = subst (λ (s : Side). PartsEmit r scope line from s b d after) one.1 two in
    subst (λ (es : List At). PartsEmit r scope line from side b (es ++ d) after) (sym one.0) here
parts_both r scope line from side middle after (part ∷ a) b e d one two = record {
  own = one.own;
  later = one.later ++ d;
  middle = one.middle;
  emits = one.emits;
  others = parts_both r scope line from one.middle middle after a b one.later d one.others two;
  is_all = ap (λ (es : List At). es ++ d) one.is_all ∙ append_assoc one.own one.later d;
}

-- bytes, and those after them
pub passes_both : {r : Reading} (scope : Scope) (line : ℕ) (from : Direction) (side middle after : Side) (first second : List ℕ) (e d : List At) → Passes r scope line from side first e middle → Passes r scope line from middle second d after
    → Passes r scope line from side (first ++ second) (e ++ d) after
passes_both {r = r} scope line from side middle after first second e d one two = record {
  parts = one.parts ++ two.parts;
  cut = ap (λ (b : List ℕ). b ++ second) one.cut ∙ ap (λ (b : List ℕ). concat one.parts ++ b) two.cut ∙ sym (concat_both one.parts two.parts);
  emit = parts_both r scope line from side middle after one.parts two.parts e d one.emit two.emit;
}

pub one_part : (r : Reading) (scope : Scope) (line : ℕ) (from : Direction) (side after : Side) (bytes : List ℕ) (events : List At) → PartEmits r scope line from side bytes events after → Passes r scope line from side bytes events after
one_part r scope line from side after bytes events emits = record {
  parts = bytes ∷ [];
  cut = sym (append-nil bytes);
  emit = record { own = events; later = []; middle = after; emits = emits; others = (refl, refl); is_all = sym (append-nil events) };
}

-- ---- what was heard of them

some_both : (a b : List At) → (has_some a || has_some b) ≡ has_some (a ++ b)
some_both [] b = refl
some_both (event ∷ a) b = refl

pub hears_both : {S : Type 0} {r : Reading} (hears : Hears S) (scope : Scope) (line : ℕ) (from : Direction) (side : Side) (first second : List ℕ) (reader next : SideReader) (one two both : Bool) (old now new : S)
    → (heard : HearsBytes r hears scope line from side first reader one old now) → HearsBytes r hears scope line from heard.after second next two now new → both ≡ (one || two)
    → HearsBytes r hears scope line from side (first ++ second) next both old new
hears_both {r = r} hears scope line from side first second reader next one two both old now new heard later sum = record {
  events = heard.events ++ later.events;
  after = later.after;
  passes = passes_both scope line from side heard.after later.after first second heard.events later.events heard.passes later.passes;
  heard = hears_append hears heard.events later.events old now new heard.heard later.heard;
  follows = later.follows;
  few = omega (arith, heard.few, later.few, messages_append heard.events later.events, bad_append heard.events later.events, length-append first second);
  some = sum ∙ ap (λ (b : Bool). b || two) heard.some ∙ ap (λ (b : Bool). has_some heard.events || b) later.some ∙ some_both heard.events later.events;
}

-- a prefix of what the first bytes emit, and of what those after them do
pub fails_first : {S : Type 0} {r : Reading} (hears : Hears S) (fails : Fails S) (why : ListenerError) (scope : Scope) (line : ℕ) (from : Direction) (side : Side) (first second : List ℕ) (old new : S)
    → FailsIn hears fails why (BytesBegin r scope line from side first) old new → FailsIn hears fails why (BytesBegin r scope line from side (first ++ second)) old new
fails_first hears fails why scope line from side first second old new failed =
    fails_as hears fails why old new failed (λ events so. record {
      first = so.first;
      more = so.more ++ second;
      after = so.after;
      cut = ap (λ (bytes : List ℕ). bytes ++ second) so.cut ∙ append_assoc so.first so.more second;
      emits = so.emits;
    })

pub fails_part : {S : Type 0} {r : Reading} (hears : Hears S) (fails : Fails S) (why : ListenerError) (scope : Scope) (line : ℕ) (from : Direction) (side : Side) (bytes first second : List ℕ) (old new : S) → bytes ≡ first ++ second
    → FailsIn hears fails why (BytesBegin r scope line from side first) old new → FailsIn hears fails why (BytesBegin r scope line from side bytes) old new
fails_part {r = r} hears fails why scope line from side bytes first second old new cut failed =
    subst (λ (b : List ℕ). FailsIn hears fails why (BytesBegin r scope line from side b) old new) (sym cut) (fails_first hears fails why scope line from side first second old new failed)

pub fails_second : {S : Type 0} {r : Reading} (hears : Hears S) (fails : Fails S) (why : ListenerError) (scope : Scope) (line : ℕ) (from : Direction) (side : Side) (first second : List ℕ) (reader : SideReader) (one : Bool) (old now new : S)
    → (heard : HearsBytes r hears scope line from side first reader one old now) → FailsIn hears fails why (BytesBegin r scope line from heard.after second) now new → FailsIn hears fails why (BytesBegin r scope line from side (first ++ second)) old new
fails_second {r = r} hears fails why scope line from side first second reader one old now new heard failed =
    fails_after hears fails why heard.events old now new heard.heard failed (λ events so. record {
      first = first ++ so.first;
      more = so.more;
      after = so.after;
      cut = ap (λ (bytes : List ℕ). first ++ bytes) so.cut ∙ sym (append_assoc first so.first so.more);
      emits = prefix_after heard.events events so.emits (λ all passes. passes_both scope line from side heard.after so.after first so.first heard.events all heard.passes passes);
    })

-- ---- the first bytes

pub none_heard : {S : Type 0} {r : Reading} (hears : Hears S) (scope : Scope) (line : ℕ) (from : Direction) (side : Side) (bytes : List ℕ) (reader : SideReader) (old : S) → Follows r reader side
    → HearsFirst r hears scope line from side bytes bytes reader false old old
none_heard hears scope line from side bytes reader old follows = record {
  first = [];
  cut = refl;
  heard = record {
    events = [];
    after = side;
    passes = record { parts = []; cut = refl; emit = (refl, refl) };
    heard = refl;
    follows = follows;
    few = omega arith;
    some = refl;
  };
}

pub first_heard : {S : Type 0} {r : Reading} (hears : Hears S) (scope : Scope) (line : ℕ) (from : Direction) (side : Side) (bytes rest : List ℕ) (reader : SideReader) (any : Bool) (old now : S)
    → HearsBytes r hears scope line from side bytes reader any old now → HearsFirst r hears scope line from side (bytes ++ rest) rest reader any old now
first_heard hears scope line from side bytes rest reader any old now heard = record { first = bytes; cut = refl; heard = heard }

-- and those after them
pub heard_more : {S : Type 0} {r : Reading} (hears : Hears S) (scope : Scope) (line : ℕ) (from : Direction) (side : Side) (bytes rest after : List ℕ) (reader next : SideReader) (one two both : Bool) (old now new : S)
    → (so : HearsFirst r hears scope line from side bytes rest reader one old now) → HearsFirst r hears scope line from so.heard.after rest after next two now new → both ≡ (one || two)
    → HearsFirst r hears scope line from side bytes after next both old new
heard_more hears scope line from side bytes rest after reader next one two both old now new so later sum = record {
  first = so.first ++ later.first;
  cut = so.cut ∙ ap (λ (b : List ℕ). so.first ++ b) later.cut ∙ sym (append_assoc so.first later.first after);
  heard = hears_both hears scope line from side so.first later.first reader next one two both old now new so.heard later.heard sum;
}

pub heard_fails : {S : Type 0} {r : Reading} (hears : Hears S) (fails : Fails S) (why : ListenerError) (scope : Scope) (line : ℕ) (from : Direction) (side : Side) (bytes rest : List ℕ) (reader : SideReader) (one : Bool) (old now new : S)
    → (so : HearsFirst r hears scope line from side bytes rest reader one old now) → FailsIn hears fails why (BytesBegin r scope line from so.heard.after rest) now new → FailsIn hears fails why (BytesBegin r scope line from side bytes) old new
heard_fails {r = r} hears fails why scope line from side bytes rest reader one old now new so failed =
    subst (λ (b : List ℕ). FailsIn hears fails why (BytesBegin r scope line from side b) old new) (sym so.cut) (fails_second hears fails why scope line from side so.first rest reader one old now new so.heard failed)

-- nothing is left
pub heard_all : {S : Type 0} {r : Reading} (hears : Hears S) (scope : Scope) (line : ℕ) (from : Direction) (side : Side) (bytes rest : List ℕ) (reader : SideReader) (any : Bool) (old now : S) → HearsFirst r hears scope line from side bytes rest reader any old now
    → rest ≡ [] → HearsBytes r hears scope line from side bytes reader any old now
heard_all {r = r} hears scope line from side bytes rest reader any old now so none =
    let all : so.first ≡ bytes = sym (append-nil so.first) ∙ ap (λ (b : List ℕ). so.first ++ b) (sym none) ∙ sym so.cut in
    subst (λ (b : List ℕ). HearsBytes r hears scope line from side b reader any old now) all so.heard

pub is_empty : (rest : List ℕ) → length rest ≡ 0 → rest ≡ []
is_empty [] none = refl
is_empty (byte ∷ rest) none = absurd (omega (arith, none))

-- no text comes after the bytes
pub all_read : (bytes undecoded : List ℕ) → length undecoded ≡ 0 → bytes ++ bytes_of undecoded ≡ bytes
all_read bytes [] none = ap (λ (b : List ℕ). bytes ++ b) no_bytes_of ∙ append-nil bytes
all_read bytes (first ∷ undecoded) none = absurd (omega (arith, none))

pub none_left : (rest : List ℕ) → length rest ≡ 0 → bytes_of rest ≡ []
none_left [] none = no_bytes_of
none_left (byte ∷ rest) none = absurd (omega (arith, none))

-- memory was refused before anything was heard
pub stops_here : {S : Type 0} {r : Reading} (hears : Hears S) (fails : Fails S) (scope : Scope) (line : ℕ) (from : Direction) (side : Side) (bytes : List ℕ) (now : S) → FailsIn hears fails Memory (BytesBegin r scope line from side bytes) now now
stops_here hears fails scope line from side bytes now =
    fails_here hears fails [] now now refl (record { first = []; more = bytes; after = side; cut = refl; emits = prefix_whole [] (record { parts = []; cut = refl; emit = (refl, refl) }) })
