-- What both sides of the line emit.
use Rattle.std.proofs.Common.{◌≡◌, ℕ, Result, Ok, Err, Bool, true, false, subst, List, [], ◌∷◌, ◌++◌, refl, sym, ◌∙◌, arith, append-nil}
use Rattle.std.specs.Prelude.{MatchResult}
use Rattle.std.proofs.lemmas.Bool.{false≢true}
use Rattle.zvt_grammar.specs.Reading.{Reading}
use Rattle.zvt_trace.specs.declared.side.SideReader.{SideReader}
use Rattle.zvt_trace.specs.Listening.{BesideBegins, EmitsEnd, EmitsLine, Fails, FailsIn, FollowBoth, FollowsUntil, Hears, HearsBeside, HearsEnd, HearsLine, HearsPiece, PieceBegins, is_stopped}
use Rattle.zvt_trace.specs.Lending.{side_of, with_side}
use Rattle.zvt_trace.specs.Meanings.{lost, piece, comment}
use Rattle.zvt_trace.specs.TraceEvent.{At, on, unread}
use Rattle.zvt_trace.specs.TraceEvent as trace_event
use Rattle.zvt_trace.specs.Emitting.{PrefixOf, Leaves, LineEnds, LineEmits, MeaningBegins, PieceEmits, SideEnds, both_sides, cut_off_event, other}
use Rattle.zvt_trace.specs.Trace.{Side, Sides, new_line, running, skipping, stopped}
use Rattle.zvt_trace.specs.Written.{Follows, is_everything}
use Rattle.zvt_trace.specs.declared.walker.BothSides.{BothSides}
use Rattle.zvt_trace.specs.declared.direction.Direction.{Direction}
use Rattle.zvt_trace.specs.declared.direction.Direction.TheVariants.{FromTill, FromTerminal}
use Rattle.zvt_trace.specs.declared.listener.ListenerError.{ListenerError}
use Rattle.zvt_trace.specs.declared.listener.Scope.{Scope}
use Rattle.zvt_trace.specs.declared.listener.Scope.TheVariants.{OneMessage, OneSide, WholeLine}
use Rattle.zvt_trace.proofs.EventLemmas.{fails_as, fails_after, fails_next, prefix_before, prefix_after, prefix_whole, hears_append, hears_one, hears_push, messages_append, bad_append}
use Rattle.zvt_trace.proofs.PassLemmas.{one_part}
use Rattle.zvt_trace.proofs.ToldLemmas.{ends_with}

-- ---- a piece, and the other side

-- a side that goes on leaves the other one as it is, and so does one that is left alone
leaves_all : (r : Reading) (scope : Scope) (line : ℕ) (from : Direction) (side beside : Side) → (scope ≡ WholeLine → is_stopped side ≡ false) → Leaves r scope line from side beside [] beside
leaves_all r OneSide line from side beside going = (refl, refl)
leaves_all r OneMessage line from side beside going = (refl, refl)
leaves_all r WholeLine line from (running bytes) beside going = (refl, refl)
leaves_all r WholeLine line from (skipping size left) beside going = (refl, refl)
leaves_all r WholeLine line from stopped beside going = absurd (false≢true (sym (going refl)))

goes_on : {S : Type 0} {r : Reading} (hears : Hears S) (scope : Scope) (line : ℕ) (from : Direction) (side beside : Side) (bytes : List ℕ) (state others : SideReader) (old new : S)
    → HearsPiece r hears scope line from side bytes state old new → Follows r others beside → (scope ≡ WholeLine → is_everything state.skipped ≡ false) → HearsBeside r hears scope line from side beside bytes state others false old new
goes_on {r = r} hears scope line from side beside bytes state others old new heard follows going = record {
  events = heard.events;
  after = heard.after;
  beside_after = beside;
  emits = record {
    own = heard.events;
    others = [];
    emits = heard.emits;
    leaves = leaves_all r scope line from heard.after beside (λ is. sym (ends_with state heard.after (heard.follows).1) ∙ going is);
    is_all = sym (append-nil heard.events);
  };
  heard = heard.heard;
  follows = heard.follows;
  follows_beside = follows;
  few = omega (arith, heard.few);
}

is_end : (side : Side) → is_stopped side ≡ true → side ≡ stopped
is_end (running bytes) e = absurd (false≢true e)
is_end (skipping size left) e = absurd (false≢true e)
is_end stopped e = refl

gives_up : {S : Type 0} {r : Reading} (hears : Hears S) (scope : Scope) (line : ℕ) (from there : Direction) (side beside : Side) (bytes : List ℕ) (state others : SideReader) (old middle new : S)
    → scope ≡ WholeLine → there ≡ other from → HearsPiece r hears scope line from side bytes state old middle → is_everything state.skipped ≡ true → HearsEnd hears (SideEnds r line there beside) 1 middle new
    → HearsBeside r hears scope line from side beside bytes state others true old new
gives_up {r = r} hears scope line from there side beside bytes state others old middle new is_whole is_other heard over cut =
    let after : heard.after ≡ stopped = is_end heard.after (sym (ends_with state heard.after (heard.follows).1) ∙ over) in
    let ended : SideEnds r line (other from) beside cut.events = subst (λ (d : Direction). SideEnds r line d beside cut.events) is_other cut.ends in
    let emits : PieceEmits r scope line from side bytes heard.events stopped = subst (λ (s : Side). PieceEmits r scope line from side bytes heard.events s) after heard.emits in
    record {
      events = heard.events ++ cut.events;
      after = stopped;
      beside_after = stopped;
      emits = record {
        own = heard.events;
        others = cut.events;
        emits = emits;
        leaves = rw is_whole (ended, refl);
        is_all = refl;
      };
      heard = hears_append hears heard.events cut.events old middle new heard.heard cut.heard;
      follows = refl;
      follows_beside = refl;
      few = omega (arith, heard.few, cut.few, messages_append heard.events cut.events, bad_append heard.events cut.events);
    }

-- there is something that a refusal leaves
ends_some : (r : Reading) (line : ℕ) (from : Direction) (side : Side) (state : SideReader) → Follows r state side → (events : List At) × SideEnds r line from side events
ends_some r line from (running bytes) state follows = (cut_off_event line from state.stream.held, ((follows.0).1, state.stream.held, (follows.0).2, refl))
ends_some r line from (skipping size left) state follows = ([], refl)
ends_some r line from stopped state follows = ([], refl)

leaves_some : (r : Reading) (scope : Scope) (line : ℕ) (from : Direction) (side beside : Side) (others : SideReader) → Follows r others beside → (after : Side) × (events : List At) × Leaves r scope line from side beside events after
leaves_some r OneSide line from side beside others follows = (beside, [], (refl, refl))
leaves_some r OneMessage line from side beside others follows = (beside, [], (refl, refl))
leaves_some r WholeLine line from (running bytes) beside others follows = (beside, [], (refl, refl))
leaves_some r WholeLine line from (skipping size left) beside others follows = (beside, [], (refl, refl))
leaves_some r WholeLine line from stopped beside others follows = let ended = ends_some r line (other from) beside others follows in (stopped, ended.0, (ended.1, refl))

beside_begins : {r : Reading} (scope : Scope) (line : ℕ) (from : Direction) (side beside : Side) (bytes : List ℕ) (others : SideReader) (events : List At) → Follows r others beside → PieceBegins r scope line from side bytes events
    → BesideBegins r scope line from side beside bytes events
beside_begins {r = r} scope line from side beside bytes others events follows begins =
    let leaves = leaves_some r scope line from begins.after beside others follows in record {
      first = begins.first;
      more = begins.more;
      after = begins.after;
      beside_after = leaves.0;
      cut = begins.cut;
      emits = prefix_before events begins.emits (λ all emits. (leaves.1, record { own = all; others = leaves.1; emits = emits; leaves = leaves.2; is_all = refl }));
    }

piece_fails : {S : Type 0} {r : Reading} (hears : Hears S) (fails : Fails S) (why : ListenerError) (scope : Scope) (line : ℕ) (from : Direction) (side beside : Side) (bytes : List ℕ) (others : SideReader) (old new : S)
    → FailsIn hears fails why (PieceBegins r scope line from side bytes) old new → Follows r others beside → FailsIn hears fails why (BesideBegins r scope line from side beside bytes) old new
piece_fails hears fails why scope line from side beside bytes others old new failed follows =
    fails_as hears fails why old new failed (λ events so. beside_begins scope line from side beside bytes others events follows so)

cut_off_fails : {S : Type 0} {r : Reading} (hears : Hears S) (fails : Fails S) (why : ListenerError) (scope : Scope) (line : ℕ) (from there : Direction) (side beside : Side) (bytes : List ℕ) (state : SideReader) (old middle new : S)
    → scope ≡ WholeLine → there ≡ other from → HearsPiece r hears scope line from side bytes state old middle → is_everything state.skipped ≡ true → FailsIn hears fails why (PrefixOf (SideEnds r line there beside)) middle new
    → FailsIn hears fails why (BesideBegins r scope line from side beside bytes) old new
cut_off_fails {r = r} hears fails why scope line from there side beside bytes state old middle new is_whole is_other heard over failed =
    let after : heard.after ≡ stopped = is_end heard.after (sym (ends_with state heard.after (heard.follows).1) ∙ over) in
    let emits : PieceEmits r scope line from side bytes heard.events stopped = subst (λ (s : Side). PieceEmits r scope line from side bytes heard.events s) after heard.emits in
    fails_after hears fails why heard.events old middle new heard.heard failed (λ events prefix. record {
      first = bytes;
      more = [];
      after = stopped;
      beside_after = stopped;
      cut = sym (append-nil bytes);
      emits = prefix_after heard.events events prefix (λ all ended. record {
        own = heard.events;
        others = all;
        emits = emits;
        leaves = rw is_whole (subst (λ (d : Direction). SideEnds r line d beside all) is_other ended, refl);
        is_all = refl;
      });
    })

-- ---- both sides

pub until : (r : Reading) (rejected : Bool) (state : SideReader) (side : Side) → rejected ≡ false → FollowsUntil r rejected state side → Follows r state side
until r false state side e follows = follows
until r true state side e follows = absurd (false≢true (sym e))

until_end : (r : Reading) (rejected : Bool) (state : SideReader) (side : Side) → rejected ≡ true → FollowsUntil r rejected state side → side ≡ stopped
until_end r false state side e follows = absurd (false≢true e)
until_end r true state side e follows = follows

abbrev silent : Sides
silent = record { till = stopped; terminal = stopped }

silent_is : {a b : Side} → a ≡ stopped → b ≡ stopped → (let both : Sides = record { till = a; terminal = b } in both) ≡ silent
silent_is e f = rw (e, f) refl

is_silent : {r : Reading} (state : BothSides) (sides : Sides) → FollowBoth r state sides → state.rejected ≡ true → sides ≡ silent
is_silent {r = r} state sides follow rejected = silent_is (until_end r state.rejected state.till sides.till rejected follow.till) (until_end r state.rejected state.terminal sides.terminal rejected follow.terminal)

leaves_silent : (r : Reading) (scope : Scope) (line : ℕ) (from : Direction) → Leaves r scope line from stopped stopped [] stopped
leaves_silent r OneSide line from = (refl, refl)
leaves_silent r OneMessage line from = (refl, refl)
leaves_silent r WholeLine line from = (refl, refl)

silent_emits : (r : Reading) (scope : Scope) (line : ℕ) (from : Direction) (bytes : List ℕ) → PieceEmits r scope line from stopped bytes (on line (unread from) ∷ []) stopped
silent_emits r scope line from bytes = record { own = []; passes = one_part r scope line from stopped stopped bytes [] (refl, refl); is_all = refl }

silent_piece : {r : Reading} (scope : Scope) (line : ℕ) (from : Direction) (bytes : List ℕ) → LineEmits r scope line (piece from bytes) silent (on line (unread from) ∷ []) silent
silent_piece {r = r} scope line FromTill bytes =
    (stopped, stopped, record { own = on line (unread FromTill) ∷ []; others = []; emits = silent_emits r scope line FromTill bytes; leaves = leaves_silent r scope line FromTill; is_all = refl }, refl)
silent_piece {r = r} scope line FromTerminal bytes =
    (stopped, stopped, record { own = on line (unread FromTerminal) ∷ []; others = []; emits = silent_emits r scope line FromTerminal bytes; leaves = leaves_silent r scope line FromTerminal; is_all = refl }, refl)

unheard : {S : Type 0} {r : Reading} (hears : Hears S) (scope : Scope) (line : ℕ) (from : Direction) (bytes : List ℕ) (sides : Sides) (state : BothSides) (old new : S) → FollowBoth r state sides → state.rejected ≡ true
    → hears old (on line (unread from)) new → HearsLine r hears scope line (piece from bytes) sides state old new
unheard {r = r} hears scope line from bytes sides state old new follow rejected heard =
    let is = is_silent state sides follow rejected in record {
      events = on line (unread from) ∷ [];
      after = silent;
      emits = subst (λ (s : Sides). LineEmits r scope line (piece from bytes) s (on line (unread from) ∷ []) silent) (sym is) (silent_piece scope line from bytes);
      heard = hears_one hears (on line (unread from)) old new heard;
      follow = subst (λ (s : Sides). FollowBoth r state s) is follow;
      few = omega arith;
    }

unheard_fails : {S : Type 0} {r : Reading} (hears : Hears S) (fails : Fails S) (why : ListenerError) (scope : Scope) (line : ℕ) (from : Direction) (bytes : List ℕ) (sides : Sides) (state : BothSides) (old new : S) → FollowBoth r state sides → state.rejected ≡ true
    → fails old (on line (unread from)) why new → FailsIn hears fails why (MeaningBegins r scope line (piece from bytes) sides) old new
unheard_fails {r = r} hears fails why scope line from bytes sides state old new follow rejected failed =
    let is = is_silent state sides follow rejected in
    let emits = subst (λ (s : Sides). LineEmits r scope line (piece from bytes) s (on line (unread from) ∷ []) silent) (sym is) (silent_piece scope line from bytes) in
    fails_next hears fails why [] (on line (unread from)) old old new refl
    (record { prefix = piece from bytes; after = silent; begins = (bytes, [], refl, sym (append-nil bytes)); emits = prefix_whole (on line (unread from) ∷ []) emits }) failed

-- what saying that a piece is not read answers
pub unheard_ends : {S : Type 0} {r : Reading} (hears : Hears S) (fails : Fails S) (scope : Scope) (line : ℕ) (from : Direction) (bytes : List ℕ) (sides : Sides) (state : BothSides) (old new : S) (answer : Result Unit ListenerError) → FollowBoth r state sides → state.rejected ≡ true
    → MatchResult answer (λ _. hears old (on line (unread from)) new) (λ why. fails old (on line (unread from)) why new) → EmitsLine r hears fails scope line (piece from bytes) sides state old new answer
unheard_ends hears fails scope line from bytes sides state old new (Ok done) follow rejected heard = unheard hears scope line from bytes sides state old new follow rejected heard
unheard_ends hears fails scope line from bytes sides state old new (Err why) follow rejected failed = unheard_fails hears fails why scope line from bytes sides state old new follow rejected failed

-- ---- a piece of one of the sides

-- what was read of this side, and of the one that faces it
abbrev pub own : Direction → Sides → Side
own FromTill sides = sides.till
own FromTerminal sides = sides.terminal

abbrev pub facing : Direction → Sides → Side
facing from sides = own (other from) sides

pub follows_own : {r : Reading} (from : Direction) (state : BothSides) (sides : Sides) → FollowBoth r state sides → state.rejected ≡ false → Follows r (side_of from state) (own from sides)
follows_own FromTill state sides follow going = until _ state.rejected state.till sides.till going follow.till
follows_own FromTerminal state sides follow going = until _ state.rejected state.terminal sides.terminal going follow.terminal

side_heard : {S : Type 0} {r : Reading} (hears : Hears S) (scope : Scope) (line : ℕ) (from : Direction) (bytes : List ℕ) (sides : Sides) (state : BothSides) (reader : SideReader) (stops : Bool) (old new : S)
    → HearsBeside r hears scope line from (own from sides) (facing from sides) bytes reader (side_of (other from) state) stops old new
    → HearsLine r hears scope line (piece from bytes) sides (let both = with_side from state reader in record both { rejected = stops }) old new
side_heard hears scope line FromTill bytes sides state reader stops old new heard = record {
  events = heard.events;
  after = both_sides FromTill heard.after heard.beside_after;
  emits = (heard.after, heard.beside_after, heard.emits, refl);
  heard = heard.heard;
  follow = record { till = heard.follows; terminal = heard.follows_beside };
  few = omega (arith, heard.few);
}
side_heard hears scope line FromTerminal bytes sides state reader stops old new heard = record {
  events = heard.events;
  after = both_sides FromTerminal heard.after heard.beside_after;
  emits = (heard.after, heard.beside_after, heard.emits, refl);
  heard = heard.heard;
  follow = record { till = heard.follows_beside; terminal = heard.follows };
  few = omega (arith, heard.few);
}

side_fails : {S : Type 0} {r : Reading} (hears : Hears S) (fails : Fails S) (why : ListenerError) (scope : Scope) (line : ℕ) (from : Direction) (bytes : List ℕ) (sides : Sides) (old new : S)
    → FailsIn hears fails why (BesideBegins r scope line from (own from sides) (facing from sides) bytes) old new → FailsIn hears fails why (MeaningBegins r scope line (piece from bytes) sides) old new
side_fails {r = r} hears fails why scope line from bytes sides old new failed = fails_as hears fails why old new failed (begins from)
  where
    begins : (from : Direction) (events : List At) → BesideBegins r scope line from (own from sides) (facing from sides) bytes events → MeaningBegins r scope line (piece from bytes) sides events
    begins FromTill events so = record {
      prefix = piece FromTill so.first;
      after = both_sides FromTill so.after so.beside_after;
      begins = (so.first, so.more, refl, so.cut);
      emits = prefix_after [] events so.emits (λ all emits. (so.after, so.beside_after, emits, refl));
    }
    begins FromTerminal events so = record {
      prefix = piece FromTerminal so.first;
      after = both_sides FromTerminal so.after so.beside_after;
      begins = (so.first, so.more, refl, so.cut);
      emits = prefix_after [] events so.emits (λ all emits. (so.after, so.beside_after, emits, refl));
    }

pub side_goes_on : {S : Type 0} {r : Reading} (hears : Hears S) (scope : Scope) (line : ℕ) (from : Direction) (bytes : List ℕ) (sides : Sides) (state : BothSides) (reader : SideReader) (old new : S) → FollowBoth r state sides → state.rejected ≡ false
    → HearsPiece r hears scope line from (own from sides) bytes reader old new → (scope ≡ WholeLine → is_everything reader.skipped ≡ false)
    → HearsLine r hears scope line (piece from bytes) sides (with_side from state reader) old new
side_goes_on {r = r} hears scope line from bytes sides state reader old new follow going heard reads =
    subst (λ (both : BothSides). HearsLine r hears scope line (piece from bytes) sides both old new) (sym (same from))
    (side_heard hears scope line from bytes sides state reader false old new
    (goes_on hears scope line from (own from sides) (facing from sides) bytes reader (side_of (other from) state) old new heard (follows_own (other from) state sides follow going) reads))
  where
    same : (from : Direction) → with_side from state reader ≡ (let both = with_side from state reader in record both { rejected = false })
    same FromTill = rw going refl
    same FromTerminal = rw going refl

pub side_gives_up : {S : Type 0} {r : Reading} (hears : Hears S) (scope : Scope) (line : ℕ) (from there : Direction) (bytes : List ℕ) (sides : Sides) (state : BothSides) (reader : SideReader) (old middle new : S)
    → scope ≡ WholeLine → there ≡ other from → HearsPiece r hears scope line from (own from sides) bytes reader old middle → is_everything reader.skipped ≡ true → HearsEnd hears (SideEnds r line there (facing from sides)) 1 middle new
    → HearsLine r hears scope line (piece from bytes) sides (let both = with_side from state reader in record both { rejected = true }) old new
side_gives_up hears scope line from there bytes sides state reader old middle new whole is heard over cut =
    side_heard hears scope line from bytes sides state reader true old new
    (gives_up hears scope line from there (own from sides) (facing from sides) bytes reader (side_of (other from) state) old middle new whole is heard over cut)

pub side_piece_fails : {S : Type 0} {r : Reading} (hears : Hears S) (fails : Fails S) (why : ListenerError) (scope : Scope) (line : ℕ) (from : Direction) (bytes : List ℕ) (sides : Sides) (state : BothSides) (old new : S) → FollowBoth r state sides → state.rejected ≡ false
    → FailsIn hears fails why (PieceBegins r scope line from (own from sides) bytes) old new → FailsIn hears fails why (MeaningBegins r scope line (piece from bytes) sides) old new
side_piece_fails hears fails why scope line from bytes sides state old new follow going failed =
    side_fails hears fails why scope line from bytes sides old new
    (piece_fails hears fails why scope line from (own from sides) (facing from sides) bytes (side_of (other from) state) old new failed (follows_own (other from) state sides follow going))

pub side_end_fails : {S : Type 0} {r : Reading} (hears : Hears S) (fails : Fails S) (why : ListenerError) (scope : Scope) (line : ℕ) (from there : Direction) (bytes : List ℕ) (sides : Sides) (reader : SideReader) (old middle new : S)
    → scope ≡ WholeLine → there ≡ other from → HearsPiece r hears scope line from (own from sides) bytes reader old middle → is_everything reader.skipped ≡ true → FailsIn hears fails why (PrefixOf (SideEnds r line there (facing from sides))) middle new
    → FailsIn hears fails why (MeaningBegins r scope line (piece from bytes) sides) old new
side_end_fails hears fails why scope line from there bytes sides reader old middle new whole is heard over failed =
    side_fails hears fails why scope line from bytes sides old new
    (cut_off_fails hears fails why scope line from there (own from sides) (facing from sides) bytes reader old middle new whole is heard over failed)

-- ---- the end of the line

pub none_ends : {S : Type 0} {r : Reading} (hears : Hears S) (line : ℕ) (sides : Sides) (state : BothSides) (now : S) → FollowBoth r state sides → state.rejected ≡ true → HearsEnd hears (LineEnds r line sides) 2 now now
none_ends {r = r} hears line sides state now follow rejected =
    let is = is_silent state sides follow rejected in record {
      events = [];
      ends = subst (λ (s : Sides). LineEnds r line s []) (sym is) (record { till = []; terminal = []; till_ends = refl; terminal_ends = refl; is_all = refl });
      heard = refl;
      few = omega arith;
    }

both_end : {S : Type 0} {r : Reading} (hears : Hears S) (line : ℕ) (sides : Sides) (old middle new : S) → HearsEnd hears (SideEnds r line FromTill sides.till) 1 old middle → HearsEnd hears (SideEnds r line FromTerminal sides.terminal) 1 middle new
    → HearsEnd hears (LineEnds r line sides) 2 old new
both_end hears line sides old middle new till terminal = record {
  events = till.events ++ terminal.events;
  ends = record { till = till.events; terminal = terminal.events; till_ends = till.ends; terminal_ends = terminal.ends; is_all = refl };
  heard = hears_append hears till.events terminal.events old middle new till.heard terminal.heard;
  few = omega (arith, till.few, terminal.few, messages_append till.events terminal.events, bad_append till.events terminal.events);
}

pub till_end_fails : {S : Type 0} {r : Reading} (hears : Hears S) (fails : Fails S) (why : ListenerError) (line : ℕ) (sides : Sides) (terminal : SideReader) (old new : S) → FailsIn hears fails why (PrefixOf (SideEnds r line FromTill sides.till)) old new
    → Follows r terminal sides.terminal → FailsIn hears fails why (PrefixOf (LineEnds r line sides)) old new
till_end_fails {r = r} hears fails why line sides terminal old new failed follows =
    let ended = ends_some r line FromTerminal sides.terminal terminal follows in
    fails_as hears fails why old new failed (λ events so. prefix_before events so
    (λ all till. (ended.0, record { till = all; terminal = ended.0; till_ends = till; terminal_ends = ended.1; is_all = refl })))

terminal_end_fails : {S : Type 0} {r : Reading} (hears : Hears S) (fails : Fails S) (why : ListenerError) (line : ℕ) (sides : Sides) (old middle new : S) → HearsEnd hears (SideEnds r line FromTill sides.till) 1 old middle
    → FailsIn hears fails why (PrefixOf (SideEnds r line FromTerminal sides.terminal)) middle new → FailsIn hears fails why (PrefixOf (LineEnds r line sides)) old new
terminal_end_fails hears fails why line sides old middle new till failed =
    fails_after hears fails why till.events old middle new till.heard failed (λ events so. prefix_after till.events events so
    (λ all terminal. record { till = till.events; terminal = all; till_ends = till.ends; terminal_ends = terminal; is_all = refl }))

-- the till's side was emitted, and this comes of the terminal's
pub terminal_ends : {S : Type 0} (r : Reading) (hears : Hears S) (fails : Fails S) (line : ℕ) (sides : Sides) (old middle new : S) (answer : Result Unit ListenerError) → HearsEnd hears (SideEnds r line FromTill sides.till) 1 old middle
    → EmitsEnd hears fails (SideEnds r line FromTerminal sides.terminal) 1 middle new answer → EmitsEnd hears fails (LineEnds r line sides) 2 old new answer
terminal_ends r hears fails line sides old middle new (Ok done) till terminal = both_end hears line sides old middle new till terminal
terminal_ends r hears fails line sides old middle new (Err why) till failed = terminal_end_fails hears fails why line sides old middle new till failed

-- ---- the other lines

pub comments : {S : Type 0} {r : Reading} (hears : Hears S) (scope : Scope) (line : ℕ) (sides : Sides) (state : BothSides) (now : S) → FollowBoth r state sides → HearsLine r hears scope line comment sides state now now
comments hears scope line sides state now follow = record {
  events = [];
  after = sides;
  emits = (refl, refl);
  heard = refl;
  follow = follow;
  few = omega arith;
}

pub loses : {S : Type 0} {r : Reading} (hears : Hears S) (scope : Scope) (line : ℕ) (sides : Sides) (state : BothSides) (old middle new : S) → HearsEnd hears (LineEnds r line sides) 2 old middle → hears middle (on line trace_event.lost) new
    → FollowBoth r state new_line → HearsLine r hears scope line lost sides state old new
loses hears scope line sides state old middle new ended heard fresh =
    let last = on line trace_event.lost ∷ [] in record {
      events = ended.events ++ last;
      after = new_line;
      emits = (ended.events, ended.ends, refl, refl);
      heard = hears_push hears ended.events (on line trace_event.lost) old middle new ended.heard heard;
      follow = fresh;
      few = omega (arith, ended.few, messages_append ended.events last, bad_append ended.events last);
    }

pub end_fails : {S : Type 0} {r : Reading} (hears : Hears S) (fails : Fails S) (why : ListenerError) (scope : Scope) (line : ℕ) (sides : Sides) (old new : S) → FailsIn hears fails why (PrefixOf (LineEnds r line sides)) old new
    → FailsIn hears fails why (MeaningBegins r scope line lost sides) old new
end_fails hears fails why scope line sides old new failed =
    fails_as hears fails why old new failed (λ events so. record {
      prefix = lost;
      after = new_line;
      begins = refl;
      emits = prefix_before events so (λ all ended. (on line trace_event.lost ∷ [], (all, ended, refl, refl)));
    })

pub loss_fails : {S : Type 0} {r : Reading} (hears : Hears S) (fails : Fails S) (why : ListenerError) (scope : Scope) (line : ℕ) (sides : Sides) (old middle new : S) → HearsEnd hears (LineEnds r line sides) 2 old middle → fails middle (on line trace_event.lost) why new
    → FailsIn hears fails why (MeaningBegins r scope line lost sides) old new
loss_fails hears fails why scope line sides old middle new ended failed =
    fails_next hears fails why ended.events (on line trace_event.lost) old middle new ended.heard (record {
      prefix = lost;
      after = new_line;
      begins = refl;
      emits = prefix_whole (ended.events ++ on line trace_event.lost ∷ []) (ended.events, ended.ends, refl, refl);
    }) failed
