-- The events of a trace in which nothing is refused, in one scope and in another.
use Rattle.std.proofs.Common.{◌≡◌, ◌∙◌, ℕ, ◌+◌, true, false, List, [], ◌∷◌, ◌++◌, refl, sym, subst}
use Rattle.std.specs.Prelude.{⊤}
use Rattle.zvt_grammar.specs.Reading.{Reading}
use Rattle.zvt_apdu.specs.Message.{Message}
use Rattle.zvt_trace.specs.Meanings.{Meaning, comment, lost, piece}
use Rattle.zvt_trace.specs.Emitting.{Emits, EmitsBeside, Leaves, LineEmits, LinesEmit, PartEmits, PartsEmit, WholeTrace, both_sides, ending_events, messages_emitted, other, side_after, told}
use Rattle.zvt_trace.specs.Trace.{Arrives, Ending, Side, Sides, begun, new_line, refused, running, side_of, skipping, stopped}
use Rattle.zvt_trace.specs.TraceEvent.{At}
use Rattle.zvt_trace.specs.Unrefused.{NoneRefused, ScopesAgree}
use Rattle.zvt_trace.specs.declared.direction.Direction.{Direction}
use Rattle.zvt_trace.specs.declared.direction.Direction.TheVariants.{FromTill, FromTerminal}
use Rattle.zvt_trace.specs.declared.listener.Scope.{Scope}
use Rattle.zvt_trace.specs.declared.listener.Scope.TheVariants.{OneMessage, OneSide, WholeLine}

-- ---- nothing is refused

none_first : (a b : List At) → NoneRefused (a ++ b) → NoneRefused a
none_first [] b none = tt
none_first (event ∷ a) b none = (none.0, none_first a b none.1)

none_later : (a b : List At) → NoneRefused (a ++ b) → NoneRefused b
none_later [] b none = none
none_later (event ∷ a) b none = none_later a b none.1

abbrev IsRead : Side → Type 0
IsRead (running bytes) = ⊤
IsRead (skipping size left) = ⊥
IsRead stopped = ⊥

-- ---- one side

emits_alike : (r : Reading) (s t : Scope) (line : ℕ) (from : Direction) (before bytes : List ℕ) (events : List At) (after : Side) → NoneRefused events → Emits r s line from before bytes events after → Emits r t line from before bytes events after × IsRead after
emits_alike r s t line from before bytes events after none one = by one.ending one.arrives one.is_all one.is_after
  where
    by : (ending : Ending) → Arrives r before bytes one.messages one.rest ending → events ≡ messages_emitted line from one.messages ++ ending_events s line from one.rest ending → after ≡ side_after s (before ++ bytes) one.rest ending
        → Emits r t line from before bytes events after × IsRead after
    by begun arrives is_all is_after = (record { messages = one.messages; rest = one.rest; ending = begun; arrives = arrives; within = tt; is_all = is_all; is_after = is_after }, subst IsRead (sym is_after) tt)
    by (refused place why) arrives is_all is_after =
        let bad = (none_later (messages_emitted line from one.messages) _ (subst NoneRefused is_all none)).0 in absurd (cc bad)

part_alike : (r : Reading) (s t : Scope) (line : ℕ) (from : Direction) (side : Side) (bytes : List ℕ) (events : List At) (after : Side) → IsRead side → NoneRefused events → PartEmits r s line from side bytes events after → PartEmits r t line from side bytes events after × IsRead after
part_alike r s t line from (running before) bytes events after read none one = emits_alike r s t line from before bytes events after none one
part_alike r s t line from (skipping size left) bytes events after never none one = absurd never
part_alike r s t line from stopped bytes events after never none one = absurd never

parts_alike : (r : Reading) (s t : Scope) (line : ℕ) (from : Direction) (side : Side) (parts : List (List ℕ)) (events : List At) (after : Side) → IsRead side → NoneRefused events → PartsEmit r s line from side parts events after → PartsEmit r t line from side parts events after × IsRead after
parts_alike r s t line from side [] events after read none one = (one, subst IsRead (sym one.1) read)
parts_alike r s t line from side (part ∷ parts) events after read none one =
    let both = subst NoneRefused one.is_all none in
    let first = part_alike r s t line from side part one.own one.middle read (none_first one.own one.later both) one.emits in
    let rest = parts_alike r s t line from one.middle parts one.later after first.1 (none_later one.own one.later both) one.others in
    (record { own = one.own; later = one.later; middle = one.middle; emits = first.0; others = rest.0; is_all = one.is_all }, rest.1)

-- ---- both sides

-- a side that is read leaves the other as it is, in every scope
leaves_as_it_is : (r : Reading) (s : Scope) (line : ℕ) (from : Direction) (side beside : Side) (events : List At) (after : Side) → IsRead side → Leaves r s line from side beside events after → (events ≡ []) × (after ≡ beside)
leaves_as_it_is r OneSide line from side beside events after read leaves = leaves
leaves_as_it_is r OneMessage line from side beside events after read leaves = leaves
leaves_as_it_is r WholeLine line from (running bytes) beside events after read leaves = leaves
leaves_as_it_is r WholeLine line from (skipping size left) beside events after never leaves = absurd never
leaves_as_it_is r WholeLine line from stopped beside events after never leaves = absurd never

leaves_in : (r : Reading) (t : Scope) (line : ℕ) (from : Direction) (side beside : Side) (events : List At) (after : Side) → IsRead side → (events ≡ []) × (after ≡ beside) → Leaves r t line from side beside events after
leaves_in r OneSide line from side beside events after read same = same
leaves_in r OneMessage line from side beside events after read same = same
leaves_in r WholeLine line from (running bytes) beside events after read same = same
leaves_in r WholeLine line from (skipping size left) beside events after never same = absurd never
leaves_in r WholeLine line from stopped beside events after never same = absurd never

own_of : (line : ℕ) (from : Direction) (side : Side) (own : List At) → IsRead side → NoneRefused (told line from side own) → NoneRefused own
own_of line from (running bytes) own read none = none
own_of line from (skipping size left) own never none = absurd never
own_of line from stopped own never none = absurd never

beside_alike : (r : Reading) (s t : Scope) (line : ℕ) (from : Direction) (side beside : Side) (bytes : List ℕ) (events : List At) (after beside_after : Side) → IsRead side → IsRead beside → NoneRefused events
    → EmitsBeside r s line from side beside bytes events after beside_after → EmitsBeside r t line from side beside bytes events after beside_after × IsRead after × IsRead beside_after
beside_alike r s t line from side beside bytes events after beside_after read beside_read none one =
    let first = none_first one.own one.others (subst NoneRefused one.is_all none) in
    let own = own_of line from side one.emits.own read (subst NoneRefused one.emits.is_all first) in
    let parts = parts_alike r s t line from side one.emits.passes.parts one.emits.own after read own one.emits.passes.emit in
    let same = leaves_as_it_is r s line from after beside one.others beside_after parts.1 one.leaves in (
      record {
        own = one.own;
        others = one.others;
        emits = record { own = one.emits.own; passes = record { parts = one.emits.passes.parts; cut = one.emits.passes.cut; emit = parts.0 }; is_all = one.emits.is_all };
        leaves = leaves_in r t line from after beside one.others beside_after parts.1 same;
        is_all = one.is_all;
      },
      parts.1,
      subst IsRead (sym same.1) beside_read,
    )

-- ---- lines

abbrev AreRead : Sides → Type 0
AreRead sides = IsRead sides.till × IsRead sides.terminal

read_side : (from : Direction) (sides : Sides) → AreRead sides → IsRead (side_of from sides)
read_side FromTill sides read = read.0
read_side FromTerminal sides read = read.1

read_both : (from : Direction) (side beside : Side) → IsRead side → IsRead beside → AreRead (both_sides from side beside)
read_both FromTill side beside read beside_read = (read, beside_read)
read_both FromTerminal side beside read beside_read = (beside_read, read)

line_alike : (r : Reading) (s t : Scope) (line : ℕ) (meaning : Meaning) (sides : Sides) (events : List At) (after : Sides) → AreRead sides → NoneRefused events → LineEmits r s line meaning sides events after → LineEmits r t line meaning sides events after × AreRead after
line_alike r s t line comment sides events after read none one = (one, subst AreRead (sym one.1) read)
line_alike r s t line (piece from bytes) sides events after read none (side, beside, emits, is) =
    let both = beside_alike r s t line from (side_of from sides) (side_of (other from) sides) bytes events side beside (read_side from sides read) (read_side (other from) sides read) none emits in
    ((side, beside, both.0, is), subst AreRead (sym is) (read_both from side beside both.1 both.2))
line_alike r s t line lost sides events after read none (ended, ends, is_all, is) = ((ended, ends, is_all, is), subst AreRead (sym is) (tt, tt))

lines_alike : (r : Reading) (s t : Scope) (count : ℕ) (sides : Sides) (lines : List (List ℕ)) (events : List At) (after : Sides) → AreRead sides → NoneRefused events → LinesEmit r s count sides lines events after → LinesEmit r t count sides lines events after
lines_alike r s t count sides [] events after read none one = one
lines_alike r s t count sides (line ∷ lines) events after read none one =
    let both = subst NoneRefused one.is_all none in
    let first = line_alike r s t (count + 1) one.meaning sides one.own one.middle read (none_first one.own one.rest both) one.emits in
    record {
      meaning = one.meaning;
      own = one.own;
      rest = one.rest;
      middle = one.middle;
      means = one.means;
      emits = first.0;
      others = lines_alike r s t (count + 1) one.middle lines one.rest after first.1 (none_later one.own one.rest both) one.others;
      is_all = one.is_all;
    }

pub scopes_agree : ScopesAgree
scopes_agree r s t lines events none whole = record {
  body = whole.body;
  after = whole.after;
  last = whole.last;
  emit = lines_alike r s t 0 new_line lines whole.body whole.after (tt, tt) (none_first whole.body whole.last (subst NoneRefused whole.is_all none)) whole.emit;
  ends = whole.ends;
  is_all = whole.is_all;
}
