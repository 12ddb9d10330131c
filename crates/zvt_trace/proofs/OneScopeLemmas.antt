-- The events of a line whose sides are refused one by one, and those of a line that is refused whole.
use Rattle.std.proofs.Common.{◌≡◌, ◌∙◌, ℕ, zero, suc, ◌+◌, Bool, true, false, List, [], ◌∷◌, ◌++◌, length, refl, sym, ap, subst, append-nil}
use Rattle.std.specs.Prelude.{⊤}
use Rattle.zvt_grammar.specs.Cuts.{Cut}
use Rattle.zvt_grammar.specs.Reading.{Reading}
use Rattle.zvt_apdu.specs.Grammar.{Spells}
use Rattle.zvt_apdu.specs.Message.{Message}
use Rattle.zvt_trace.specs.Meanings.{Meaning, comment, lost, piece}
use Rattle.zvt_stream.proofs.Beginnings.{nothing_in}
use Rattle.zvt_trace.specs.Emitting.{Emits, EmitsBeside, LineEmits, LineEnds, LinesEmit, PartEmits, PartsEmit, PieceEmits, SideEnds, WholeTrace, both_sides, cut_off_event, ending_events, messages_emitted, or_unread, other, side_after, told}
use Rattle.zvt_trace.specs.Listening.{Hears, HearsAll}
use Rattle.zvt_trace.specs.Apart.{HearsIf, HearsUntil, is_told, refused_after}
use Rattle.zvt_trace.specs.Resuming.{skipping_events}
use Rattle.zvt_trace.specs.Trace.{Arrives, Ending, Side, Sides, begun, new_line, refused, running, side_of, skipping, stopped}
use Rattle.zvt_trace.specs.TraceEvent.{At, TraceEvent, on}
use Rattle.zvt_trace.specs.TraceEvent as trace_event
use Rattle.zvt_trace.specs.declared.until_refused.UntilRefused.{UntilRefused}
use Rattle.zvt_trace.specs.declared.direction.Direction.{Direction}
use Rattle.zvt_trace.specs.declared.direction.Direction.TheVariants.{FromTill, FromTerminal}
use Rattle.zvt_trace.specs.declared.listener.Scope.TheVariants.{OneSide, WholeLine}

-- ---- the parts of a side are the same in both scopes

emits_whole : (r : Reading) (line : ℕ) (from : Direction) (before bytes : List ℕ) (events : List At) (after : Side) → Emits r OneSide line from before bytes events after → Emits r WholeLine line from before bytes events after
emits_whole r line from before bytes events after one = by one.ending one.arrives one.is_all one.is_after
  where
    by : (ending : Ending) → Arrives r before bytes one.messages one.rest ending → events ≡ messages_emitted line from one.messages ++ ending_events OneSide line from one.rest ending → after ≡ side_after OneSide (before ++ bytes) one.rest ending
        → Emits r WholeLine line from before bytes events after
    by begun arrives is_all is_after = record { messages = one.messages; rest = one.rest; ending = begun; arrives = arrives; within = tt; is_all = is_all; is_after = is_after }
    by (refused place why) arrives is_all is_after = record { messages = one.messages; rest = one.rest; ending = refused place why; arrives = arrives; within = tt; is_all = is_all; is_after = is_after }

part_whole : (r : Reading) (line : ℕ) (from : Direction) (side : Side) (bytes : List ℕ) (events : List At) (after : Side) → PartEmits r OneSide line from side bytes events after → PartEmits r WholeLine line from side bytes events after
part_whole r line from (running before) bytes events after one = emits_whole r line from before bytes events after one
part_whole r line from (skipping size left) bytes events after one = one
part_whole r line from stopped bytes events after one = one

parts_whole : (r : Reading) (line : ℕ) (from : Direction) (side : Side) (parts : List (List ℕ)) (events : List At) (after : Side) → PartsEmit r OneSide line from side parts events after → PartsEmit r WholeLine line from side parts events after
parts_whole r line from side [] events after none = none
parts_whole r line from side (part ∷ parts) events after one = record {
  own = one.own;
  later = one.later;
  middle = one.middle;
  emits = part_whole r line from side part one.own one.middle one.emits;
  others = parts_whole r line from one.middle parts one.later after one.others;
  is_all = one.is_all;
}

piece_whole : (r : Reading) (line : ℕ) (from : Direction) (side : Side) (bytes : List ℕ) (events : List At) (after : Side) → PieceEmits r OneSide line from side bytes events after → PieceEmits r WholeLine line from side bytes events after
piece_whole r line from side bytes events after one =
    record { own = one.own; passes = record { parts = one.passes.parts; cut = one.passes.cut; emit = parts_whole r line from side one.passes.parts one.own after one.passes.emit }; is_all = one.is_all }

-- ---- events that are not told of a refused line

abbrev Silent : List At → Type 0
Silent [] = ⊤
Silent (event ∷ events) = (is_told true event.trace_event ≡ false) × Silent events

silent_append : (a b : List At) → Silent a → Silent b → Silent (a ++ b)
silent_append [] b none more = more
silent_append (event ∷ a) b some more = (some.0, silent_append a b some.1 more)

silent_messages : (line : ℕ) (from : Direction) (messages : List Message) → Silent (messages_emitted line from messages)
silent_messages line from [] = tt
silent_messages line from (message ∷ messages) = (refl, silent_messages line from messages)

silent_ending : (line : ℕ) (from : Direction) (rest : List ℕ) (ending : Ending) → Silent (ending_events OneSide line from rest ending)
silent_ending line from rest begun = tt
silent_ending line from rest (refused place why) = (refl, tt)

silent_skipping : (line : ℕ) (from : Direction) (size left : ℕ) → Silent (skipping_events line from size left)
silent_skipping line from size zero = (refl, tt)
silent_skipping line from size (suc left) = tt

silent_part : (r : Reading) (line : ℕ) (from : Direction) (side : Side) (bytes : List ℕ) (events : List At) (after : Side) → PartEmits r OneSide line from side bytes events after → Silent events
silent_part r line from (running before) bytes events after one =
    subst Silent (sym one.is_all) (silent_append (messages_emitted line from one.messages) (ending_events OneSide line from one.rest one.ending) (silent_messages line from one.messages) (silent_ending line from one.rest one.ending))
silent_part r line from (skipping size left) bytes events after one = subst Silent (sym one.1) (silent_skipping line from size _)
silent_part r line from stopped bytes events after one = subst Silent (sym one.0) tt

silent_parts : (r : Reading) (line : ℕ) (from : Direction) (side : Side) (parts : List (List ℕ)) (events : List At) (after : Side) → PartsEmit r OneSide line from side parts events after → Silent events
silent_parts r line from side [] events after none = subst Silent (sym none.0) tt
silent_parts r line from side (part ∷ parts) events after one =
    subst Silent (sym one.is_all) (silent_append one.own one.later (silent_part r line from side part one.own one.middle one.emits) (silent_parts r line from one.middle parts one.later after one.others))

silent_unread : (line : ℕ) (from : Direction) (events : List At) → Silent events → Silent (or_unread line from events)
silent_unread line from [] none = (refl, tt)
silent_unread line from (event ∷ events) some = some

silent_told : (line : ℕ) (from : Direction) (side : Side) (events : List At) → Silent events → Silent (told line from side events)
silent_told line from (running bytes) events so = so
silent_told line from (skipping size left) events so = silent_unread line from events so
silent_told line from stopped events so = silent_unread line from events so

silent_piece : (r : Reading) (line : ℕ) (from : Direction) (side : Side) (bytes : List ℕ) (events : List At) (after : Side) → PieceEmits r OneSide line from side bytes events after → Silent events
silent_piece r line from side bytes events after one =
    subst Silent (sym one.is_all) (silent_told line from side one.own (silent_parts r line from side one.passes.parts one.own after one.passes.emit))

silent_cut : (line : ℕ) (from : Direction) (rest : List ℕ) → Silent (cut_off_event line from rest)
silent_cut line from [] = tt
silent_cut line from (byte ∷ bytes) = (refl, tt)

silent_side : (r : Reading) (line : ℕ) (from : Direction) (side : Side) (events : List At) → SideEnds r line from side events → Silent events
silent_side r line from (running bytes) events (messages, rest, cut, is) = subst Silent (sym is) (silent_cut line from rest)
silent_side r line from (skipping size left) events is = subst Silent (sym is) tt
silent_side r line from stopped events is = subst Silent (sym is) tt

silent_end : (r : Reading) (line : ℕ) (sides : Sides) (events : List At) → LineEnds r line sides events → Silent events
silent_end r line sides events ends =
    subst Silent (sym ends.is_all) (silent_append ends.till ends.terminal (silent_side r line FromTill sides.till ends.till ends.till_ends) (silent_side r line FromTerminal sides.terminal ends.terminal ends.terminal_ends))

-- ---- events by which no line is refused

abbrev Plain : List At → Type 0
Plain [] = ⊤
Plain (event ∷ events) = (refused_after false event.trace_event ≡ false) × Plain events

plain_append : (a b : List At) → Plain a → Plain b → Plain (a ++ b)
plain_append [] b none more = more
plain_append (event ∷ a) b some more = (some.0, plain_append a b some.1 more)

plain_messages : (line : ℕ) (from : Direction) (messages : List Message) → Plain (messages_emitted line from messages)
plain_messages line from [] = tt
plain_messages line from (message ∷ messages) = (refl, plain_messages line from messages)

plain_cut : (line : ℕ) (from : Direction) (rest : List ℕ) → Plain (cut_off_event line from rest)
plain_cut line from [] = tt
plain_cut line from (byte ∷ bytes) = (refl, tt)

plain_side : (r : Reading) (line : ℕ) (from : Direction) (side : Side) (events : List At) → SideEnds r line from side events → Plain events
plain_side r line from (running bytes) events (messages, rest, cut, is) = subst Plain (sym is) (plain_cut line from rest)
plain_side r line from (skipping size left) events is = subst Plain (sym is) tt
plain_side r line from stopped events is = subst Plain (sym is) tt

plain_end : (r : Reading) (line : ℕ) (sides : Sides) (events : List At) → LineEnds r line sides events → Plain events
plain_end r line sides events ends =
    subst Plain (sym ends.is_all) (plain_append ends.till ends.terminal (plain_side r line FromTill sides.till ends.till ends.till_ends) (plain_side r line FromTerminal sides.terminal ends.terminal ends.terminal_ends))

-- ---- both lines

-- the bytes of a side that is read are cut into messages
abbrev SideCut : Reading → Side → Type 0
SideCut r (running bytes) = (messages : List Message) × (rest : List ℕ) × Cut (Spells r) bytes messages rest
SideCut r (skipping size left) = ⊥
SideCut r stopped = ⊥

abbrev BothCut : Reading → Sides → Type 0
BothCut r sides = SideCut r sides.till × SideCut r sides.terminal

abbrev both_stopped : Sides
both_stopped = record { till = stopped; terminal = stopped }

-- the line that is refused whole is as the other one, or all of it is unread
abbrev Agree : Reading → Bool → (sides whole : Sides) → Type 0
Agree r false sides whole = (whole ≡ sides) × BothCut r sides
Agree r true sides whole = whole ≡ both_stopped

start_cut : (r : Reading) → BothCut r new_line
start_cut r =
    let cut : Cut (Spells r) [] [] [] = record { spelled = refl; none_whole = (nothing_in r).none_whole } in
    (([], [], cut), ([], [], cut))

side_cut : (r : Reading) (from : Direction) (sides : Sides) → BothCut r sides → SideCut r (side_of from sides)
side_cut r FromTill sides cut = cut.0
side_cut r FromTerminal sides cut = cut.1

both_cut : (r : Reading) (from : Direction) (side beside : Side) → SideCut r side → SideCut r beside → BothCut r (both_sides from side beside)
both_cut r FromTill side beside cut more = (cut, more)
both_cut r FromTerminal side beside cut more = (more, cut)

stop_both : (from : Direction) → both_sides from stopped stopped ≡ both_stopped
stop_both FromTill = refl
stop_both FromTerminal = refl

stopped_of : (from : Direction) → side_of from both_stopped ≡ stopped
stopped_of FromTill = refl
stopped_of FromTerminal = refl

-- a side that is cut off emits that
cut_ends : (r : Reading) (line : ℕ) (from : Direction) (side : Side) → SideCut r side → (events : List At) × SideEnds r line from side events
cut_ends r line from (running bytes) (messages, rest, cut) = (cut_off_event line from rest, (messages, rest, cut, refl))
cut_ends r line from (skipping size left) never = absurd never
cut_ends r line from stopped never = absurd never

-- a message is cut off
abbrev pub IsCut : TraceEvent → Type 0
IsCut (trace_event.message from m) = ⊥
IsCut (trace_event.refused from before byte why) = ⊥
IsCut (trace_event.unread from) = ⊥
IsCut (trace_event.resumed from size) = ⊥
IsCut (trace_event.cut_off from bytes) = ⊤
IsCut trace_event.lost = ⊥

-- a piece is unread where both sides are
none_beside : (r : Reading) (line : ℕ) (from : Direction) (bytes : List ℕ) → EmitsBeside r WholeLine line from stopped stopped bytes (on line (trace_event.unread from) ∷ []) stopped stopped
none_beside r line from bytes = record {
  own = on line (trace_event.unread from) ∷ [];
  others = [];
  emits = record {
    own = [];
    passes = record { parts = bytes ∷ []; cut = sym (append-nil bytes); emit = record { own = []; later = []; middle = stopped; emits = (refl, refl); others = (refl, refl); is_all = refl } };
    is_all = refl;
  };
  leaves = (refl, refl);
  is_all = refl;
}

-- ---- what is told

module _ {S : Type 0} (hears : Hears S) where
  abbrev Told : Bool → S → List At → Bool → S → Type 0
  Told was old [] is new = (new ≡ old) × (is ≡ was)
  Told was old (event ∷ events) is new = (middle : S) × HearsIf (is_told was event.trace_event) hears old event middle × Told (refused_after was event.trace_event) middle events is new

  as_told : (events : List At) (old new : UntilRefused S) → HearsAll (HearsUntil hears) old events new → Told old.is_refused old.listener events new.is_refused new.listener
  as_told [] old new same = (ap (λ (u : UntilRefused S). u.listener) same, ap (λ (u : UntilRefused S). u.is_refused) same)
  as_told (event ∷ events) old new (middle, heard, rest) =
      (middle.listener, heard.0, subst (λ (b : Bool). Told b middle.listener events new.is_refused new.listener) heard.1 (as_told events middle new rest))

  told_split : (a b : List At) (was is : Bool) (old new : S) → Told was old (a ++ b) is new → (middle : S) × (between : Bool) × Told was old a between middle × Told between middle b is new
  told_split [] b was is old new so = (old, was, (refl, refl), so)
  told_split (event ∷ a) b was is old new (middle, heard, rest) =
      let later = told_split a b (refused_after was event.trace_event) is middle new rest in
      (later.0, later.1, (middle, heard, later.2), later.3)

  -- nothing is told
  told_none : (events : List At) (is : Bool) (old new : S) → Silent events → Told true old events is new → (new ≡ old) × (is ≡ true)
  told_none [] is old new none so = so
  told_none (event ∷ events) is old new some (middle, heard, rest) =
      let same : middle ≡ old = subst (λ (b : Bool). HearsIf b hears old event middle) some.0 heard in
      let later = told_none events is middle new some.1 (subst (λ (b : Bool). Told b middle events is new) (still event.trace_event some.0) rest) in
      (later.0 ∙ same, later.1)
    where
      still : (event : TraceEvent) → is_told true event ≡ false → refused_after true event ≡ true
      still (trace_event.message from m) silent = refl
      still (trace_event.refused from before byte why) silent = refl
      still (trace_event.unread from) silent = refl
      still (trace_event.resumed from size) silent = refl
      still (trace_event.cut_off from bytes) silent = refl
      still trace_event.lost silent = let bad = silent in cc

  -- all is told, and no line is refused
  told_all : (events : List At) (is : Bool) (old new : S) → Plain events → Told false old events is new → HearsAll hears old events new × (is ≡ false)
  told_all [] is old new none so = so
  told_all (event ∷ events) is old new some (middle, heard, rest) =
      let later = told_all events is middle new some.1 (subst (λ (b : Bool). Told b middle events is new) some.0 rest) in
      ((middle, heard, later.0), later.1)

  hears_more : (a b : List At) (x y z : S) → HearsAll hears x a y → HearsAll hears y b z → HearsAll hears x (a ++ b) z
  hears_more [] b x y z none later = subst (λ (s : S). HearsAll hears s b z) none later
  hears_more (event ∷ a) b x y z some later = (some.0, some.1, hears_more a b some.0 y z some.2 later)

  -- ---- the parts of a side that is read

  -- the side is read on, or it is refused
  abbrev Goes : Reading → Side → Bool → Type 0
  Goes r (running bytes) is = SideCut r (running bytes) × (is ≡ false)
  Goes r (skipping size left) is = ⊥
  Goes r stopped is = is ≡ true

  parts_stopped : (r : Reading) (line : ℕ) (from : Direction) (parts : List (List ℕ)) (events : List At) (after : Side) → PartsEmit r OneSide line from stopped parts events after → (events ≡ []) × (after ≡ stopped)
  parts_stopped r line from [] events after none = none
  parts_stopped r line from (part ∷ parts) events after one =
      let later = parts_stopped r line from parts one.later after (subst (λ (s : Side). PartsEmit r OneSide line from s parts one.later after) one.emits.1 one.others) in
      (one.is_all ∙ ap (λ (es : List At). es ++ one.later) one.emits.0 ∙ later.0, later.1)

  parts_told : (r : Reading) (line : ℕ) (from : Direction) (before : List ℕ) (parts : List (List ℕ)) (events : List At) (after : Side) (is : Bool) (old new : S) → SideCut r (running before) → PartsEmit r OneSide line from (running before) parts events after
      → Told false old events is new → HearsAll hears old events new × Goes r after is
  parts_told r line from before [] events after is old new cut none so =
      let here = subst (λ (es : List At). Told false old es is new) none.0 so in
      (subst (λ (es : List At). HearsAll hears old es new) (sym none.0) here.0, subst (λ (s : Side). Goes r s is) (sym none.1) (cut, here.1))
  parts_told r line from before (part ∷ parts) events after is old new cut one so = by one.emits.ending one.emits.arrives one.emits.is_all one.emits.is_after (λ middle cut_there emits there. parts_told r line from (before ++ part) parts one.later after is middle new cut_there emits there)
    where
      messages : List At
      messages = messages_emitted line from one.emits.messages

      by : (ending : Ending) → Arrives r before part one.emits.messages one.emits.rest ending → one.own ≡ messages ++ ending_events OneSide line from one.emits.rest ending → one.middle ≡ side_after OneSide (before ++ part) one.emits.rest ending
          → ((middle : S) → SideCut r (running (before ++ part)) → PartsEmit r OneSide line from (running (before ++ part)) parts one.later after → Told false middle one.later is new → HearsAll hears middle one.later new × Goes r after is)
          → HearsAll hears old events new × Goes r after is
      by begun arrives is_own is_middle more =
          let is_all : events ≡ messages ++ one.later = one.is_all ∙ ap (λ (es : List At). es ++ one.later) (is_own ∙ append-nil messages) in
          let split = told_split messages one.later false is old new (subst (λ (es : List At). Told false old es is new) is_all so) in
          let first = told_all messages split.1 old split.0 (plain_messages line from one.emits.messages) split.2 in
          let later = more split.0 (arrives.earlier ++ one.emits.messages, one.emits.rest, arrives.now)
          (subst (λ (s : Side). PartsEmit r OneSide line from s parts one.later after) is_middle one.others)
          (subst (λ (b : Bool). Told b split.0 one.later is new) first.1 split.3) in
          (subst (λ (es : List At). HearsAll hears old es new) (sym is_all) (hears_more messages one.later old split.0 new first.0 later.0), later.1)
      by (refused place why) arrives is_own is_middle more =
          let ends = ending_events OneSide line from one.emits.rest (refused place why) in
          let stays = parts_stopped r line from parts one.later after (subst (λ (s : Side). PartsEmit r OneSide line from s parts one.later after) is_middle one.others) in
          let is_all : events ≡ messages ++ ends = one.is_all ∙ ap (λ (es : List At). one.own ++ es) stays.0 ∙ append-nil one.own ∙ is_own in
          let split = told_split messages ends false is old new (subst (λ (es : List At). Told false old es is new) is_all so) in
          let first = told_all messages split.1 old split.0 (plain_messages line from one.emits.messages) split.2 in
          let last = subst (λ (b : Bool). Told b split.0 ends is new) first.1 split.3 in
          (subst (λ (es : List At). HearsAll hears old es new) (sym is_all) (hears_more messages ends old split.0 new first.0 (last.0, last.1, last.2.0)), subst (λ (s : Side). Goes r s is) (sym stays.1) last.2.1)

  -- ---- a line

  module _ (unheard : (s : S) (line : ℕ) (from : Direction) → hears s (on line (trace_event.unread from)) s) (cut_short : (s : S) (event : TraceEvent) (line : ℕ) → IsCut event → hears s (on line event) s) where
    -- what is cut off changes nothing
    side_heard : (r : Reading) (line : ℕ) (from : Direction) (side : Side) (events : List At) (s : S) → SideEnds r line from side events → HearsAll hears s events s
    side_heard r line from (running bytes) events s (messages, rest, cut, is) = subst (λ (es : List At). HearsAll hears s es s) (sym is) (by rest)
      where
        by : (rest : List ℕ) → HearsAll hears s (cut_off_event line from rest) s
        by [] = refl
        by (byte ∷ bytes) = (s, cut_short s _ line tt, refl)
    side_heard r line from (skipping size left) events s is = subst (λ (es : List At). HearsAll hears s es s) (sym is) refl
    side_heard r line from stopped events s is = subst (λ (es : List At). HearsAll hears s es s) (sym is) refl

    -- what the line emits that is refused whole
    pub record Whole (Emit : List At → Sides → Type 0) (r : Reading) (is : Bool) (sides : Sides) (old new : S) : Type 0 where
      pub events : List At
      pub whole : Sides
      pub emits : Emit events whole
      pub heard : HearsAll hears old events new
      pub agree : Agree r is sides whole

    piece_told : (r : Reading) (line : ℕ) (from : Direction) (before : Side) (bytes : List ℕ) (events : List At) (after : Side) (is : Bool) (old new : S) → SideCut r before → PieceEmits r OneSide line from before bytes events after
        → Told false old events is new → HearsAll hears old events new × Goes r after is
    piece_told r line from (running before) bytes events after is old new cut emits so =
        let heard = parts_told r line from before emits.passes.parts emits.own after is old new cut emits.passes.emit (subst (λ (es : List At). Told false old es is new) emits.is_all so) in
        (subst (λ (es : List At). HearsAll hears old es new) (sym emits.is_all) heard.0, heard.1)
    piece_told r line from (skipping size left) bytes events after is old new never emits so = absurd never
    piece_told r line from stopped bytes events after is old new never emits so = absurd never

    -- a piece of a line that is read
    piece_read : (r : Reading) (line : ℕ) (from : Direction) (sides after : Sides) (bytes : List ℕ) (events : List At) (is : Bool) (old new : S) → BothCut r sides → LineEmits r OneSide line (piece from bytes) sides events after → Told false old events is new
        → Whole (LineEmits r WholeLine line (piece from bytes) sides) r is after old new
    piece_read r line from sides after bytes events is old new cut (side, beside, emits, is_after) so = by side emits.emits is_after heard.1
      where
        is_own : events ≡ emits.own
        is_own = emits.is_all ∙ ap (λ (es : List At). emits.own ++ es) emits.leaves.0 ∙ append-nil emits.own

        heard : HearsAll hears old emits.own new × Goes r side is
        heard = piece_told r line from (side_of from sides) bytes emits.own side is old new (side_cut r from sides cut) emits.emits (subst (λ (es : List At). Told false old es is new) is_own so)

        there : SideCut r (side_of (other from) sides)
        there = side_cut r (other from) sides cut

        by : (side : Side) → PieceEmits r OneSide line from (side_of from sides) bytes emits.own side → after ≡ both_sides from side beside → Goes r side is → Whole (LineEmits r WholeLine line (piece from bytes) sides) r is after old new
        by (running read) one is_there goes = record {
          events = emits.own ++ [];
          whole = after;
          emits = (running read, beside, record { own = emits.own; others = []; emits = piece_whole r line from (side_of from sides) bytes emits.own (running read) one; leaves = (refl, emits.leaves.1); is_all = refl }, is_there);
          heard = hears_more emits.own [] old new new heard.0 refl;
          agree = subst (λ (b : Bool). Agree r b after after) (sym goes.1) (refl, subst (BothCut r) (sym is_there) (both_cut r from (running read) beside goes.0 (subst (SideCut r) (sym emits.leaves.1) there)));
        }
        by (skipping size left) one is_there never = absurd never
        by stopped one is_there goes =
            let ends = cut_ends r line (other from) (side_of (other from) sides) there in record {
              events = emits.own ++ ends.0;
              whole = both_sides from stopped stopped;
              emits = (stopped, stopped, record { own = emits.own; others = ends.0; emits = piece_whole r line from (side_of from sides) bytes emits.own stopped one; leaves = (ends.1, refl); is_all = refl }, refl);
              heard = hears_more emits.own ends.0 old new new heard.0 (side_heard r line (other from) (side_of (other from) sides) ends.0 new ends.1);
              agree = subst (λ (b : Bool). Agree r b after (both_sides from stopped stopped)) (sym goes) (stop_both from);
            }

    -- a piece of a line that was refused
    unread_emits : (r : Reading) (line : ℕ) (from : Direction) (bytes : List ℕ) → LineEmits r WholeLine line (piece from bytes) both_stopped (on line (trace_event.unread from) ∷ []) both_stopped
    unread_emits r line FromTill bytes = (stopped, stopped, none_beside r line FromTill bytes, refl)
    unread_emits r line FromTerminal bytes = (stopped, stopped, none_beside r line FromTerminal bytes, refl)

    piece_unread : (r : Reading) (line : ℕ) (from : Direction) (sides after : Sides) (bytes : List ℕ) (events : List At) (is : Bool) (old new : S) → LineEmits r OneSide line (piece from bytes) sides events after → Told true old events is new
        → Whole (LineEmits r WholeLine line (piece from bytes) both_stopped) r is after old new
    piece_unread r line from sides after bytes events is old new (side, beside, emits, is_after) so =
        let silent = subst Silent (sym emits.is_all) (silent_append emits.own emits.others (silent_piece r line from (side_of from sides) bytes emits.own side emits.emits) (subst Silent (sym emits.leaves.0) tt)) in
        let none = told_none events is old new silent so in
        record { events = on line (trace_event.unread from) ∷ []; whole = both_stopped; emits = unread_emits r line from bytes; heard = (old, unheard old line from, none.0); agree = subst (λ (b : Bool). Agree r b after both_stopped) (sym none.1) refl }

    none_ends : (r : Reading) (line : ℕ) → LineEnds r line both_stopped []
    none_ends r line = record { till = []; terminal = []; till_ends = refl; terminal_ends = refl; is_all = refl }

    -- the line is lost
    lost_read : (r : Reading) (line : ℕ) (sides after : Sides) (events : List At) (is : Bool) (old new : S) → LineEmits r OneSide line lost sides events after → Told false old events is new → Whole (LineEmits r WholeLine line lost sides) r is after old new
    lost_read r line sides after events is old new (ended, ends, is_all, is_after) so =
        let plain = subst Plain (sym is_all) (plain_append ended (on line trace_event.lost ∷ []) (plain_end r line sides ended ends) (refl, tt)) in
        let heard = told_all events is old new plain so in
        record { events = events; whole = new_line; emits = (ended, ends, is_all, refl); heard = heard.0; agree = subst (λ (b : Bool). Agree r b after new_line) (sym heard.1) (sym is_after, subst (BothCut r) (sym is_after) (start_cut r)) }

    lost_unread : (r : Reading) (line : ℕ) (sides after : Sides) (events : List At) (is : Bool) (old new : S) → LineEmits r OneSide line lost sides events after → Told true old events is new → Whole (LineEmits r WholeLine line lost both_stopped) r is after old new
    lost_unread r line sides after events is old new (ended, ends, is_all, is_after) so =
        let split = told_split ended (on line trace_event.lost ∷ []) true is old new (subst (λ (es : List At). Told true old es is new) is_all so) in
        let none = told_none ended split.1 old split.0 (silent_end r line sides ended ends) split.2 in
        let last = subst (λ (b : Bool). Told b split.0 (on line trace_event.lost ∷ []) is new) none.1 split.3 in
        record {
          events = on line trace_event.lost ∷ [];
          whole = new_line;
          emits = ([], none_ends r line, refl, refl);
          heard = (last.0, subst (λ (s : S). hears s (on line trace_event.lost) last.0) none.0 last.1, last.2.0);
          agree = subst (λ (b : Bool). Agree r b after new_line) (sym last.2.1) (sym is_after, subst (BothCut r) (sym is_after) (start_cut r));
        }

    line_told : (r : Reading) (line : ℕ) (meaning : Meaning) (sides whole after : Sides) (events : List At) (was is : Bool) (old new : S) → LineEmits r OneSide line meaning sides events after → Agree r was sides whole → Told was old events is new
        → Whole (LineEmits r WholeLine line meaning whole) r is after old new
    line_told r line comment sides whole after events was is old new (none, same) agree so =
        let still = subst (λ (es : List At). Told was old es is new) none so in
        record { events = []; whole = whole; emits = (refl, refl); heard = still.0; agree = subst (λ (b : Bool). Agree r b after whole) (sym still.1) (subst (λ (s : Sides). Agree r was s whole) (sym same) agree) }
    line_told r line (piece from bytes) sides whole after events false is old new emits agree so =
        subst (λ (s : Sides). Whole (LineEmits r WholeLine line (piece from bytes) s) r is after old new) (sym agree.0) (piece_read r line from sides after bytes events is old new agree.1 emits so)
    line_told r line (piece from bytes) sides whole after events true is old new emits agree so =
        subst (λ (s : Sides). Whole (LineEmits r WholeLine line (piece from bytes) s) r is after old new) (sym agree) (piece_unread r line from sides after bytes events is old new emits so)
    line_told r line lost sides whole after events false is old new emits agree so =
        subst (λ (s : Sides). Whole (LineEmits r WholeLine line lost s) r is after old new) (sym agree.0) (lost_read r line sides after events is old new emits so)
    line_told r line lost sides whole after events true is old new emits agree so =
        subst (λ (s : Sides). Whole (LineEmits r WholeLine line lost s) r is after old new) (sym agree) (lost_unread r line sides after events is old new emits so)

    lines_told : (r : Reading) (count : ℕ) (lines : List (List ℕ)) (sides whole after : Sides) (events : List At) (was is : Bool) (old new : S) → LinesEmit r OneSide count sides lines events after → Agree r was sides whole → Told was old events is new
        → Whole (LinesEmit r WholeLine count whole lines) r is after old new
    lines_told r count [] sides whole after events was is old new (none, same) agree so =
        let still = subst (λ (es : List At). Told was old es is new) none so in
        record { events = []; whole = whole; emits = (refl, refl); heard = still.0; agree = subst (λ (b : Bool). Agree r b after whole) (sym still.1) (subst (λ (s : Sides). Agree r was s whole) (sym same) agree) }
    lines_told r count (line ∷ lines) sides whole after events was is old new one agree so =
        let split = told_split one.own one.rest was is old new (subst (λ (es : List At). Told was old es is new) one.is_all so) in
        let first = line_told r (count + 1) one.meaning sides whole one.middle one.own was split.1 old split.0 one.emits agree split.2 in
        let later = lines_told r (count + 1) lines one.middle first.whole after one.rest split.1 is split.0 new one.others first.agree split.3 in
        record {
          events = first.events ++ later.events;
          whole = later.whole;
          emits = record { meaning = one.meaning; own = first.events; rest = later.events; middle = first.whole; means = one.means; emits = first.emits; others = later.emits; is_all = refl };
          heard = hears_more first.events later.events old split.0 new first.heard later.heard;
          agree = later.agree;
        }

    end_told : (r : Reading) (line : ℕ) (sides whole : Sides) (events : List At) (was is : Bool) (old new : S) → LineEnds r line sides events → Agree r was sides whole → Told was old events is new
        → (all : List At) × LineEnds r line whole all × HearsAll hears old all new
    end_told r line sides whole events false is old new ends agree so =
        (events, subst (λ (s : Sides). LineEnds r line s events) (sym agree.0) ends, (told_all events is old new (plain_end r line sides events ends) so).0)
    end_told r line sides whole events true is old new ends agree so =
        ([], subst (λ (s : Sides). LineEnds r line s []) (sym agree) (none_ends r line), (told_none events is old new (silent_end r line sides events ends) so).0)

    -- What a listener hears that is told nothing of a refused line is what a line emits that is refused whole.
    pub one_scope : (r : Reading) (lines : List (List ℕ)) (events : List At) (old new : UntilRefused S) → WholeTrace r OneSide lines events → old.is_refused ≡ false → HearsAll (HearsUntil hears) old events new
        → (all : List At) × WholeTrace r WholeLine lines all × HearsAll hears old.listener all new.listener
    one_scope r lines events old new trace starts heard =
        let so = subst (λ (b : Bool). Told b old.listener events new.is_refused new.listener) starts (as_told events old new heard) in
        let split = told_split trace.body trace.last false new.is_refused old.listener new.listener (subst (λ (es : List At). Told false old.listener es new.is_refused new.listener) trace.is_all so) in
        let body = lines_told r 0 lines new_line new_line trace.after trace.body false split.1 old.listener split.0 trace.emit (refl, start_cut r) split.2 in
        let last = end_told r (length lines) trace.after body.whole trace.last split.1 new.is_refused split.0 new.listener trace.ends body.agree split.3 in (
          body.events ++ last.0,
          record { body = body.events; after = body.whole; last = last.0; emit = body.emits; ends = last.1; is_all = refl },
          hears_more body.events last.0 old.listener split.0 new.listener body.heard last.2,
        )
