-- What the parts of a piece emit.
use Rattle.std.proofs.Common.{◌≡◌, ◌≢◌, inl, inr, ℕ, ◌-◌, ◌<◌, ◌≤◌, ◌==◌, zero, suc, min, Bool, true, false, subst, List, [], ◌∷◌, ◌++◌, length, take, Option, None, Some, Result, Ok, Err, refl, sym, ◌∙◌, ap, arith, append-nil}
use Rattle.std.specs.Prelude.{MatchResult}
use Rattle.std.proofs.lemmas.List.{length-take-le, take-append-drop}
use Rattle.std.proofs.lemmas.Bool.{false≢true}
use Rattle.std.proofs.lemmas.Bool.Decides.{eqb_tells}
use Rattle.zvt_grammar.specs.Cuts.{Cut}
use Rattle.zvt_grammar.specs.Reading.{Reading}
use Rattle.zvt_grammar.specs.declared.why.Why.{Why}
use Rattle.zvt_apdu.specs.Grammar.{Spells}
use Rattle.zvt_apdu.specs.Message.{Message}
use Rattle.zvt_stream.proofs.Beginnings.{nothing_in}
use Rattle.zvt_stream.specs.Apdus.{IsRefusedIn, UnfinishedIn}
use Rattle.zvt_stream.specs.StreamState.{StreamState, HasRefused, Holds, Keeps}
use Rattle.zvt_trace.specs.Listening.{BytesBegin, EmitsEnd, EmitsRest, Fails, FailsIn, Hears, HearsAll, HearsBytes, HearsEnd, StaysSilent, counted_in}
use Rattle.zvt_trace.specs.TraceEvent.{At, message, on}
use Rattle.zvt_trace.specs.TraceEvent as trace_event
use Rattle.zvt_trace.specs.Emitting.{PartEmits, PrefixOf, SideEnds, refusal_event}
use Rattle.zvt_trace.specs.Resuming.{IsWithin, announced, refused_size, resuming_events, side_refused, side_skipping, skipping_events}
use Rattle.zvt_trace.specs.Trace.{Side, begun, refused, running, skipping, stopped}
use Rattle.zvt_trace.specs.Written.{Follows, Skips, SkipsTo, StreamFollows, is_everything, skipped_by}
use Rattle.zvt_trace.specs.declared.direction.Direction.{Direction}
use Rattle.zvt_trace.specs.declared.listener.ListenerError.{ListenerError}
use Rattle.zvt_trace.specs.declared.listener.Scope.{Scope}
use Rattle.zvt_trace.specs.declared.side.SideReader.{SideReader}
use Rattle.zvt_trace.specs.declared.side.Skipped.{Skipped}
use Rattle.zvt_trace.specs.declared.side.Skipped.TheVariants.{Everything, Nothing, Rest}
use Rattle.zvt_trace.proofs.EventLemmas.{fails_after, fails_as, fails_next, prefix_after, prefix_whole, hears_one}
use Rattle.zvt_trace.proofs.PassLemmas.{one_part}
use Rattle.zvt_trace.proofs.PieceLemmas.{arrived, goes_on_with}
use Rattle.zvt_trace.proofs.ResumingLemmas.{size_within}

-- ---- a message

message_emits : {r : Reading} (scope : Scope) (line : ℕ) (from : Direction) (before part : List ℕ) (reader : SideReader) (m : Message) → Follows r reader (running before) → Spells r m (reader.stream.held ++ part)
    → PartEmits r scope line from (running before) part (on line (message from m) ∷ []) (running (before ++ part))
message_emits {r = r} scope line from before part reader m follows spells = record {
  messages = m ∷ [];
  rest = [];
  ending = begun;
  arrives = arrived before part [] reader.stream (m ∷ []) begun follows.0 (reader.stream.held ++ part, [], sym (append-nil (reader.stream.held ++ part)), spells, refl) (nothing_in r).none_whole (nothing_in r).alive;
  within = tt;
  is_all = refl;
  is_after = refl;
}

pub hears_message : {S : Type 0} {r : Reading} (hears : Hears S) (scope : Scope) (line : ℕ) (from : Direction) (part : List ℕ) (reader next : SideReader) (m : Message) (now new : S) → 0 < length part → reader.stream.stopped ≡ false → Spells r m (reader.stream.held ++ part)
    → Holds [] next.stream → next.skipped ≡ reader.skipped → hears now (on line (message from m)) new → (side : Side) → Follows r reader side → HearsBytes r hears scope line from side part next true now new
unfolding message_emits
hears_message hears scope line from part reader next m now new long going spells is_next same heard stopped follows = absurd (false≢true (sym going ∙ (follows.0).1))
hears_message hears scope line from part reader next m now new long going spells is_next same heard (skipping size left) follows = absurd (false≢true (sym going ∙ (follows.0).1))
hears_message {r = r} hears scope line from part reader next m now new long going spells is_next same heard (running before) follows =
    let emits = message_emits scope line from before part reader m follows spells in record {
      events = on line (message from m) ∷ [];
      after = running (before ++ part);
      passes = one_part r scope line from (running before) (running (before ++ part)) part (on line (message from m) ∷ []) emits;
      heard = hears_one hears (on line (message from m)) now new heard;
      follows = (goes_on_with before part [] next.stream (m ∷ []) begun emits.arrives is_next, same ∙ follows.1);
      few = long;
      some = refl;
    }

pub fails_message : {S : Type 0} {r : Reading} (hears : Hears S) (fails : Fails S) (why : ListenerError) (scope : Scope) (line : ℕ) (from : Direction) (part : List ℕ) (reader : SideReader) (m : Message) (now new : S) → reader.stream.stopped ≡ false
    → Spells r m (reader.stream.held ++ part) → fails now (on line (message from m)) why new → (side : Side) → Follows r reader side → FailsIn hears fails why (BytesBegin r scope line from side part) now new
fails_message hears fails why scope line from part reader m now new going spells failed stopped follows = absurd (false≢true (sym going ∙ (follows.0).1))
fails_message hears fails why scope line from part reader m now new going spells failed (skipping size left) follows = absurd (false≢true (sym going ∙ (follows.0).1))
fails_message {r = r} hears fails why scope line from part reader m now new going spells failed (running before) follows =
    let emits = one_part r scope line from (running before) (running (before ++ part)) part (on line (message from m) ∷ []) (message_emits scope line from before part reader m follows spells) in
    fails_next hears fails why [] (on line (message from m)) now now new refl (record { first = part; more = []; after = running (before ++ part); cut = sym (append-nil part); emits = prefix_whole (on line (message from m) ∷ []) emits }) failed

-- ---- the beginning of a message

pub hears_more : {S : Type 0} {r : Reading} (hears : Hears S) (scope : Scope) (line : ℕ) (from : Direction) (part : List ℕ) (reader next : SideReader) (now : S) → reader.stream.stopped ≡ false → UnfinishedIn r (reader.stream.held ++ part)
    → Holds (reader.stream.held ++ part) next.stream → next.skipped ≡ reader.skipped
    → (side : Side) → Follows r reader side → HearsBytes r hears scope line from side part next false now now
hears_more hears scope line from part reader next now going unfinished is_next same stopped follows = absurd (false≢true (sym going ∙ (follows.0).1))
hears_more hears scope line from part reader next now going unfinished is_next same (skipping size left) follows = absurd (false≢true (sym going ∙ (follows.0).1))
hears_more {r = r} hears scope line from part reader next now going unfinished is_next same (running before) follows =
    let arrives = arrived before part (reader.stream.held ++ part) reader.stream [] begun follows.0 refl unfinished.none_whole unfinished.alive in
    let emits : PartEmits r scope line from (running before) part [] (running (before ++ part)) = record { messages = []; rest = reader.stream.held ++ part; ending = begun; arrives = arrives; within = tt; is_all = refl; is_after = refl } in record {
      events = [];
      after = running (before ++ part);
      passes = one_part r scope line from (running before) (running (before ++ part)) part [] emits;
      heard = refl;
      follows = (
        goes_on_with before part (reader.stream.held ++ part) next.stream [] begun arrives is_next,
        same ∙ follows.1,
      );
      few = omega arith;
      some = refl;
    }

-- ---- a refusal

refusal_emits : {r : Reading} (scope : Scope) (line : ℕ) (from : Direction) (before part : List ℕ) (reader : SideReader) (place : ℕ) (why : Why) → Follows r reader (running before) → IsRefusedIn r (reader.stream.held ++ part) place why
    → suc place ≡ length (reader.stream.held ++ part)
    → (let whole = reader.stream.held ++ part in PartEmits r scope line from (running before) part (refusal_event line from whole place why ∷ resuming_events line from (refused_size scope whole place) (length whole)) (side_refused (refused_size scope whole place) (length whole)))
refusal_emits {r = r} scope line from before part reader place why follows fatal all =
    let whole = reader.stream.held ++ part in record {
      messages = [];
      rest = whole;
      ending = refused place why;
      arrives = arrived before part whole reader.stream [] (refused place why) follows.0 refl fatal.0 (fatal.1, fatal.2);
      within = subst (λ (n : ℕ). IsWithin (refused_size scope whole place) n) all (size_within scope place (announced (take (suc place) whole)));
      is_all = refl;
      is_after = refl;
    }

-- what the code has after it emitted what comes of a refusal
abbrev pub EndsRefusal : {S : Type 0} → Reading → Hears S → Fails S → ℕ → Direction → Option ℕ → (come : ℕ) → SideReader → (now new : S) → Result Bool ListenerError → Type 0
EndsRefusal r hears fails line from size come next now new (Ok any) = HearsAll hears now (resuming_events line from size come) new × Follows r next (side_refused size come)
EndsRefusal r hears fails line from size come next now new (Err why) = FailsIn hears fails why (PrefixOf (λ all. all ≡ resuming_events line from size come)) now new

pub ends_refusal : {S : Type 0} (r : Reading) (hears : Hears S) (fails : Fails S) (line : ℕ) (from : Direction) (size : Option ℕ) (come : ℕ) (reader next : SideReader) (now new : S) (answer : Result Bool ListenerError) → HasRefused reader.stream
    → reader.skipped ≡ skipped_by size come → ((size left : ℕ) → SkipsTo reader size left → EmitsRest r hears fails line from size left next now new answer)
    → (is_everything reader.skipped ≡ true → StaysSilent hears reader next now new answer) → EndsRefusal r hears fails line from size come next now new answer
ends_refusal {S = S} r hears fails line from None come reader next now new answer gone is rest all =
    let stays = all (ap is_everything is) in
    subst (λ (a : Result Bool ListenerError). EndsRefusal r hears fails line from None come next now new a) (sym stays.0)
    (stays.2, subst (λ (n : SideReader). Follows r n stopped) (sym stays.1) (gone, is))
ends_refusal r hears fails line from (Some size) come reader next now new (Ok any) gone is rest all = let ended = rest size (size - come) (gone, is) in (ended.0, ended.1)
ends_refusal r hears fails line from (Some size) come reader next now new (Err why) gone is rest all = rest size (size - come) (gone, is)

pub hears_refused : {S : Type 0} {r : Reading} (hears : Hears S) (fails : Fails S) (scope : Scope) (line : ℕ) (from : Direction) (part : List ℕ) (reader next : SideReader) (dead : List ℕ) (place : ℕ) (why : Why) (now middle new : S) (any : Bool) → 0 < length part → reader.stream.stopped ≡ false
    → IsRefusedIn r (reader.stream.held ++ part) place why → suc place ≡ length (reader.stream.held ++ part) → dead ≡ reader.stream.held ++ part → hears now (refusal_event line from dead place why) middle
    → EndsRefusal r hears fails line from (refused_size scope dead place) (length dead) next middle new (Ok any)
    → (side : Side) → Follows r reader side → HearsBytes r hears scope line from side part next true now new
hears_refused hears fails scope line from part reader next dead place why now middle new any long going fatal all opens heard ended stopped follows = absurd (false≢true (sym going ∙ (follows.0).1))
hears_refused hears fails scope line from part reader next dead place why now middle new any long going fatal all opens heard ended (skipping size left) follows = absurd (false≢true (sym going ∙ (follows.0).1))
hears_refused {r = r} hears fails scope line from part reader next dead place why now middle new any long going fatal all opens heard ended (running before) follows =
    let whole = reader.stream.held ++ part in
    let size = refused_size scope whole place in
    let first = refusal_event line from whole place why in
    let later = resuming_events line from size (length whole) in
    let after = side_refused size (length whole) in
    let over = subst (λ (w : List ℕ). EndsRefusal r hears fails line from (refused_size scope w place) (length w) next middle new (Ok any)) opens ended in record {
      events = first ∷ later;
      after = after;
      passes = one_part r scope line from (running before) after part (first ∷ later) (refusal_emits scope line from before part reader place why follows fatal all);
      heard = (middle, subst (λ (w : List ℕ). hears now (refusal_event line from w place why) middle) opens heard, over.0);
      follows = over.1;
      few = omega (arith, long, no_more size (length whole));
      some = refl;
    }
  where
    none_left : (size left : ℕ) → counted_in (refusal_event line from (reader.stream.held ++ part) place why ∷ skipping_events line from size left) ≡ 1
    none_left size zero = refl
    none_left size (suc left) = refl

    no_more : (size : Option ℕ) (come : ℕ) → counted_in (refusal_event line from (reader.stream.held ++ part) place why ∷ resuming_events line from size come) ≡ 1
    no_more None come = refl
    no_more (Some size) come = none_left size (size - come)

pub fails_refused : {S : Type 0} {r : Reading} (hears : Hears S) (fails : Fails S) (failure : ListenerError) (scope : Scope) (line : ℕ) (from : Direction) (part : List ℕ) (reader : SideReader) (dead : List ℕ) (place : ℕ) (why : Why) (now new : S) → reader.stream.stopped ≡ false
    → IsRefusedIn r (reader.stream.held ++ part) place why → suc place ≡ length (reader.stream.held ++ part) → dead ≡ reader.stream.held ++ part → fails now (refusal_event line from dead place why) failure new
    → (side : Side) → Follows r reader side → FailsIn hears fails failure (BytesBegin r scope line from side part) now new
fails_refused hears fails failure scope line from part reader dead place why now new going fatal all opens failed stopped follows = absurd (false≢true (sym going ∙ (follows.0).1))
fails_refused hears fails failure scope line from part reader dead place why now new going fatal all opens failed (skipping size left) follows = absurd (false≢true (sym going ∙ (follows.0).1))
fails_refused {r = r} hears fails failure scope line from part reader dead place why now new going fatal all opens failed (running before) follows =
    let whole = reader.stream.held ++ part in
    let size = refused_size scope whole place in
    let first = refusal_event line from whole place why in
    let later = resuming_events line from size (length whole) in
    let after = side_refused size (length whole) in
    let passes = one_part r scope line from (running before) after part (first ∷ later) (refusal_emits scope line from before part reader place why follows fatal all) in
    fails_next hears fails failure [] first now now new refl
    (record { first = part; more = []; after = after; cut = sym (append-nil part); emits = record { all = first ∷ later; later = later; emit = passes; is_prefix = refl } }) (subst (λ (w : List ℕ). fails now (refusal_event line from w place why) failure new) opens failed)

pub fails_resumed : {S : Type 0} {r : Reading} (hears : Hears S) (fails : Fails S) (failure : ListenerError) (scope : Scope) (line : ℕ) (from : Direction) (part : List ℕ) (reader next : SideReader) (dead : List ℕ) (place : ℕ) (why : Why) (now middle new : S) → reader.stream.stopped ≡ false
    → IsRefusedIn r (reader.stream.held ++ part) place why → suc place ≡ length (reader.stream.held ++ part) → dead ≡ reader.stream.held ++ part → hears now (refusal_event line from dead place why) middle
    → EndsRefusal r hears fails line from (refused_size scope dead place) (length dead) next middle new (Err failure)
    → (side : Side) → Follows r reader side → FailsIn hears fails failure (BytesBegin r scope line from side part) now new
fails_resumed hears fails failure scope line from part reader next dead place why now middle new going fatal all opens heard ended stopped follows = absurd (false≢true (sym going ∙ (follows.0).1))
fails_resumed hears fails failure scope line from part reader next dead place why now middle new going fatal all opens heard ended (skipping size left) follows = absurd (false≢true (sym going ∙ (follows.0).1))
fails_resumed {r = r} hears fails failure scope line from part reader next dead place why now middle new going fatal all opens heard ended (running before) follows =
    let whole = reader.stream.held ++ part in
    let size = refused_size scope whole place in
    let first = refusal_event line from whole place why in
    let after = side_refused size (length whole) in
    let emits = refusal_emits scope line from before part reader place why follows fatal all in
    fails_after hears fails failure (first ∷ []) now middle new (hears_one hears first now middle (subst (λ (w : List ℕ). hears now (refusal_event line from w place why) middle) opens heard)) (subst (λ (w : List ℕ). EndsRefusal r hears fails line from (refused_size scope w place) (length w) next middle new (Err failure)) opens ended) (λ events so. record {
      first = part;
      more = [];
      after = after;
      cut = sym (append-nil part);
      emits = prefix_after (first ∷ []) events so (λ later is. one_part r scope line from (running before) after part (first ∷ later)
          (subst (λ (es : List At). PartEmits r scope line from (running before) part (first ∷ es) after) (sym is) emits));
    })

-- ---- what is skipped

-- the bytes that are skipped
abbrev pub skipped_part : Skipped → List ℕ → List ℕ
skipped_part Nothing bytes = bytes
skipped_part (Rest size left) bytes = take (min left (length bytes)) bytes
skipped_part Everything bytes = bytes

pub skips_part : (skipped next : Skipped) (bytes rest : List ℕ) → Skips skipped bytes next rest → bytes ≡ skipped_part skipped bytes ++ rest
skips_part Nothing next bytes rest skips = sym (append-nil bytes) ∙ ap (λ (b : List ℕ). bytes ++ b) (sym skips.1)
skips_part (Rest size left) next bytes rest skips = sym (take-append-drop (min left (length bytes)) bytes) ∙ ap (λ (b : List ℕ). take (min left (length bytes)) bytes ++ b) (sym skips.1)
skips_part Everything next bytes rest skips = sym (append-nil bytes) ∙ ap (λ (b : List ℕ). bytes ++ b) (sym skips.1)

-- a reader that keeps its stream
kept_refused : (old new : StreamState) → Keeps old new → HasRefused old → HasRefused new
kept_refused old new kept gone = (kept.0 ∙ gone.0, kept.1 ∙ gone.1)

none_counted : (line : ℕ) (from : Direction) (size left : ℕ) → counted_in (skipping_events line from size left) ≡ 0
none_counted line from size zero = refl
none_counted line from size (suc left) = refl

rest_emits : (r : Reading) (scope : Scope) (line : ℕ) (from : Direction) (size left count : ℕ) (bytes : List ℕ) → count ≡ min left (length bytes)
    → PartEmits r scope line from (skipping size left) (take count bytes) (skipping_events line from size (left - count)) (side_skipping size (left - count))
rest_emits r scope line from size left count bytes is =
    let there : length (take count bytes) ≡ count = length-take-le count bytes (omega (arith, is)) in
    (omega (arith, there, is), ap (λ (n : ℕ). skipping_events line from size (left - n)) (sym there), ap (λ (n : ℕ). side_skipping size (left - n)) (sym there))

-- all of the bytes are skipped, or the last ones of a refused message
pub hears_skipped : {S : Type 0} {r : Reading} (hears : Hears S) (fails : Fails S) (scope : Scope) (line : ℕ) (from : Direction) (bytes rest : List ℕ) (reader middle next : SideReader) (now new : S) (any : Bool) → reader.stream.stopped ≡ true
    → Keeps reader.stream middle.stream → Skips reader.skipped bytes middle.skipped rest → ((size left : ℕ) → SkipsTo middle size left → EmitsRest r hears fails line from size left next now new (Ok any))
    → (is_everything middle.skipped ≡ true → StaysSilent hears middle next now new (Ok any))
    → (side : Side) → Follows r reader side → HearsBytes r hears scope line from side (skipped_part reader.skipped bytes) next any now new
hears_skipped hears fails scope line from bytes rest reader middle next now new any still kept skips ended all (running before) follows = absurd (false≢true (sym (follows.0).0 ∙ still))
hears_skipped {r = r} hears fails scope line from bytes rest reader middle next now new any still kept skips ended all stopped follows =
    subst (λ (s : Skipped). Skips s bytes middle.skipped rest → HearsBytes r hears scope line from stopped (skipped_part s bytes) next any now new) (sym follows.1)
    (λ skipped. let stays = all (ap is_everything skipped.0) in record {
      events = [];
      after = stopped;
      passes = one_part r scope line from stopped stopped bytes [] (refl, refl);
      heard = stays.2;
      follows = subst (λ (n : SideReader). Follows r n stopped) (sym stays.1) (kept_refused reader.stream middle.stream kept follows.0, skipped.0);
      few = omega arith;
      some = cc (stays.0);
    }) skips
hears_skipped {r = r} hears fails scope line from bytes rest reader middle next now new any still kept skips ended all (skipping size left) follows =
    let count = min left (length bytes) in
    subst (λ (s : Skipped). Skips s bytes middle.skipped rest → HearsBytes r hears scope line from (skipping size left) (skipped_part s bytes) next any now new) (sym (follows.1).0)
    (λ skipped. let over = ended size (left - count) (kept_refused reader.stream middle.stream kept follows.0, skipped.0) in record {
      events = skipping_events line from size (left - count);
      after = side_skipping size (left - count);
      passes = one_part r scope line from (skipping size left) (side_skipping size (left - count)) (take count bytes) (skipping_events line from size (left - count)) (rest_emits r scope line from size left count bytes refl);
      heard = over.0;
      follows = over.1;
      few = omega (arith, none_counted line from size (left - count));
      some = over.2;
    }) skips

pub fails_skipped : {S : Type 0} {r : Reading} (hears : Hears S) (fails : Fails S) (why : ListenerError) (scope : Scope) (line : ℕ) (from : Direction) (bytes rest : List ℕ) (reader middle next : SideReader) (now new : S) → reader.stream.stopped ≡ true
    → Keeps reader.stream middle.stream → Skips reader.skipped bytes middle.skipped rest → ((size left : ℕ) → SkipsTo middle size left → EmitsRest r hears fails line from size left next now new (Err why))
    → (is_everything middle.skipped ≡ true → StaysSilent hears middle next now new (Err why))
    → (side : Side) → Follows r reader side → FailsIn hears fails why (BytesBegin r scope line from side (skipped_part reader.skipped bytes)) now new
fails_skipped hears fails why scope line from bytes rest reader middle next now new still kept skips ended all (running before) follows = absurd (false≢true (sym (follows.0).0 ∙ still))
fails_skipped {r = r} hears fails why scope line from bytes rest reader middle next now new still kept skips ended all stopped follows =
    let skipped = subst (λ (s : Skipped). Skips s bytes middle.skipped rest) follows.1 skips in
    absurd (differ (all (ap is_everything skipped.0)).0)
  where
    differ : (let a : Result Bool ListenerError = Err why in a) ≡ Ok false → ⊥
    differ e = cc (e)
fails_skipped {r = r} hears fails why scope line from bytes rest reader middle next now new still kept skips ended all (skipping size left) follows =
    let count = min left (length bytes) in
    subst (λ (s : Skipped). Skips s bytes middle.skipped rest → FailsIn hears fails why (BytesBegin r scope line from (skipping size left) (skipped_part s bytes)) now new) (sym (follows.1).0)
    (λ skipped. fails_as hears fails why now new (ended size (left - count) (kept_refused reader.stream middle.stream kept follows.0, skipped.0)) (λ events so. record {
      first = take count bytes;
      more = [];
      after = side_skipping size (left - count);
      cut = sym (append-nil (take count bytes));
      emits = prefix_after [] events so (λ later is. one_part r scope line from (skipping size left) (side_skipping size (left - count)) (take count bytes) later
          (subst (λ (es : List At). PartEmits r scope line from (skipping size left) (take count bytes) es (side_skipping size (left - count))) (sym is) (rest_emits r scope line from size left count bytes refl)));
    })) skips

-- ---- a reader that is read on

abbrev pub is_rest : Skipped → Bool
is_rest Nothing = false
is_rest (Rest size left) = true
is_rest Everything = false

same_rest : (a b c d : ℕ) → Rest a b ≡ Rest c d → (a ≡ c) × (b ≡ d)
same_rest a b c d e = (cc (e), cc (e))

pub rest_resumed : {S : Type 0} {r : Reading} (hears : Hears S) (fails : Fails S) (line : ℕ) (from : Direction) (reader next : SideReader) (known zero_left size left : ℕ) (now new : S) → reader.skipped ≡ Rest known zero_left → zero_left ≤ 0 → Follows r next (running [])
    → hears now (on line (trace_event.resumed from known)) new → SkipsTo reader size left → EmitsRest r hears fails line from size left next now new (Ok true)
rest_resumed {r = r} hears fails line from reader next known zero_left size left now new is none follows heard skips =
    let same = same_rest known 0 size left (ap (λ (n : ℕ). Rest known n) (let e : 0 ≡ zero_left = omega (arith, none) in e) ∙ sym is ∙ skips.1) in
    subst (λ (n : ℕ). EmitsRest r hears fails line from n left next now new (Ok true)) same.0
    (subst (λ (n : ℕ). EmitsRest r hears fails line from known n next now new (Ok true)) same.1 (hears_one hears (on line (trace_event.resumed from known)) now new heard, follows, refl))

pub rest_failed : {S : Type 0} (r : Reading) (hears : Hears S) (fails : Fails S) (why : ListenerError) (line : ℕ) (from : Direction) (reader next : SideReader) (known zero_left size left : ℕ) (now new : S) → reader.skipped ≡ Rest known zero_left → zero_left ≤ 0
    → fails now (on line (trace_event.resumed from known)) why new → SkipsTo reader size left → EmitsRest r hears fails line from size left next now new (Err why)
rest_failed r hears fails why line from reader next known zero_left size left now new is none failed skips =
    let same = same_rest known 0 size left (ap (λ (n : ℕ). Rest known n) (let e : 0 ≡ zero_left = omega (arith, none) in e) ∙ sym is ∙ skips.1) in
    subst (λ (n : ℕ). EmitsRest r hears fails line from n left next now new (Err why)) same.0
    (subst (λ (n : ℕ). EmitsRest r hears fails line from known n next now new (Err why)) same.1
    (fails_next hears fails why [] (on line (trace_event.resumed from known)) now now new refl (prefix_whole (on line (trace_event.resumed from known) ∷ []) refl) failed))

pub rest_left : {S : Type 0} (r : Reading) (hears : Hears S) (fails : Fails S) (line : ℕ) (from : Direction) (reader : SideReader) (known some_left size left : ℕ) (now : S) → reader.skipped ≡ Rest known some_left → 0 < some_left → SkipsTo reader size left
    → EmitsRest r hears fails line from size left reader now now (Ok false)
rest_left r hears fails line from reader known some_left size zero now is some skips = absurd (omega (arith, some, (same_rest known some_left size 0 (sym is ∙ skips.1)).1))
rest_left r hears fails line from reader known some_left size (suc left) now is some skips = (refl, (skips.0, (skips.1, omega arith)), refl)

-- ---- the end of a side

pub length_none : (bytes : List ℕ) → (length bytes == 0) ≡ true → bytes ≡ []
length_none [] is = refl
length_none (byte ∷ bytes) is = elim (eqb_tells (length (byte ∷ bytes)) 0) [
  | inl same ↦ absurd (omega (arith, same.1))
  | inr other ↦ absurd (false≢true (sym other.0 ∙ is))
]

pub length_some : (bytes : List ℕ) → (length bytes == 0) ≡ false → bytes ≢ []
length_some [] is none = false≢true (sym is)
length_some (byte ∷ bytes) is none = cc (none)

pub none_cut : {S : Type 0} (r : Reading) (hears : Hears S) (line : ℕ) (from : Direction) (side : Side) (state : StreamState) (now : S) → StreamFollows r state side → state.held ≡ [] → HearsEnd hears (SideEnds r line from side) 1 now now
none_cut r hears line from (running bytes) state now follows none = record {
  events = [];
  ends = (follows.1, [], subst (λ (h : List ℕ). Cut (Spells r) bytes follows.1 h) none follows.2, refl);
  heard = refl;
  few = omega arith;
}
none_cut r hears line from (skipping size left) state now follows none = record { events = []; ends = refl; heard = refl; few = omega arith }
none_cut r hears line from stopped state now follows none = record { events = []; ends = refl; heard = refl; few = omega arith }

-- what is cut off, as its events are emitted
pub ends_cut : (r : Reading) (line : ℕ) (from : Direction) (side : Side) (state : StreamState) (bytes : List ℕ) → StreamFollows r state side → bytes ≢ [] → bytes ≡ state.held → SideEnds r line from side (on line (trace_event.cut_off from bytes) ∷ [])
ends_cut r line from (skipping size left) state bytes follows some is = absurd (some (is ∙ follows.0))
ends_cut r line from stopped state bytes follows some is = absurd (some (is ∙ follows.0))
ends_cut r line from (running sent) state [] follows some is = absurd (some refl)
ends_cut r line from (running sent) state (byte ∷ bytes) follows some is = (follows.1, byte ∷ bytes, subst (λ (h : List ℕ). Cut (Spells r) sent follows.1 h) (sym is) follows.2, refl)

some_cut : {S : Type 0} (r : Reading) (hears : Hears S) (line : ℕ) (from : Direction) (side : Side) (bytes : List ℕ) (old new : S) → SideEnds r line from side (on line (trace_event.cut_off from bytes) ∷ []) → hears old (on line (trace_event.cut_off from bytes)) new
    → HearsEnd hears (SideEnds r line from side) 1 old new
some_cut r hears line from side bytes old new ended heard = record {
  events = on line (trace_event.cut_off from bytes) ∷ [];
  ends = ended;
  heard = hears_one hears (on line (trace_event.cut_off from bytes)) old new heard;
  few = omega arith;
}

cut_failed : {S : Type 0} (r : Reading) (hears : Hears S) (fails : Fails S) (why : ListenerError) (line : ℕ) (from : Direction) (side : Side) (bytes : List ℕ) (old new : S) → SideEnds r line from side (on line (trace_event.cut_off from bytes) ∷ []) → fails old (on line (trace_event.cut_off from bytes)) why new
    → FailsIn hears fails why (PrefixOf (SideEnds r line from side)) old new
cut_failed r hears fails why line from side bytes old new ended failed =
    fails_next hears fails why [] (on line (trace_event.cut_off from bytes)) old old new refl (prefix_whole (on line (trace_event.cut_off from bytes) ∷ []) ended) failed

-- what emitting that it is cut off answers
pub cut_ends : {S : Type 0} (r : Reading) (hears : Hears S) (fails : Fails S) (line : ℕ) (from : Direction) (side : Side) (bytes : List ℕ) (old new : S) (answer : Result Unit ListenerError) → SideEnds r line from side (on line (trace_event.cut_off from bytes) ∷ [])
    → MatchResult answer (λ _. hears old (on line (trace_event.cut_off from bytes)) new) (λ why. fails old (on line (trace_event.cut_off from bytes)) why new) → EmitsEnd hears fails (SideEnds r line from side) 1 old new answer
cut_ends r hears fails line from side bytes old new (Ok done) ended heard = some_cut r hears line from side bytes old new ended heard
cut_ends r hears fails line from side bytes old new (Err why) ended failed = cut_failed r hears fails why line from side bytes old new ended failed
