-- What is written at one turn, and after all turns.
use Rattle.std.proofs.Common.{◌≡◌, inr, ℕ, ◌<◌, List, [], ◌++◌, length, Result, Option, Ok, Err, refl, sym, ap, ◌∙◌, subst, arith, append-nil, take}
use Rattle.std.proofs.KnownBytes.{Consumes-trans}
use Rattle.std.specs.Io.KnownBytes.{Appends, Consumes, IsAtEnd}
use Rattle.std.specs.Str.Lines.{lines}
use Rattle.zvt_grammar.specs.Reading.{Reading}
use Rattle.zvt_trace.specs.Chunks.{AnswersFeed, FeedFaults, HasRead, walker_reading, walker_scope}
use Rattle.zvt_trace.specs.Listening.{AnswersFrom, Fails, Hears, most}
use Rattle.zvt_trace.specs.TraceEvent.{At}
use Rattle.zvt_trace.specs.Written.{AppendsPrefix}
use Rattle.zvt_trace.specs.declared.chunks.Walker.{Walker}
use Rattle.zvt_trace.specs.declared.fault.Tally.{Tally}
use Rattle.zvt_trace.specs.declared.fault.TraceFault.{TraceFault}
use Rattle.zvt_trace.specs.declared.fault.TraceFault.TheVariants.{Memory, Read, TooLong, Trace, Write}
use Rattle.zvt_trace.specs.declared.listener.Scope.{Scope}
use Rattle.zvt_trace.proofs.WalkerLemmas.{read_so_far, too_long, whole_lines}
use Rattle.zvt_show.specs.Followed.{AnswersFollow, AnswersTurn, CountsWrites, HasWritten, TurnFaults}
use Rattle.zvt_show.specs.Text.{Rendering, untimed}
use Rattle.zvt_show.specs.Written.{AnswersLinesBy, Page}
use Rattle.zvt_show.specs.declared.follow.Follower.{Follower}
use Rattle.zvt_show.specs.declared.render.Style.{Style}
use Rattle.zvt_show.proofs.FollowLemmas.{Said, fault_counted, fault_lost, fault_said, fault_written, kept_style, lost_out, said_before, said_less, said_more, said_out}
use Rattle.zvt_show.proofs.PageLemmas.{fails, shown, writes}

-- ---- what the walker answers, by the reading of the follower

pub at_both : (P : Reading → Scope → Type 0) (r q : Reading) (s t : Scope) → r ≡ q → s ≡ t → P r s → P q t
at_both P r q s t same_reading same_scope p = subst (λ (x : Scope). P q x) same_scope (subst (λ (x : Reading). P x s) same_reading p)

pub turn_fed : {S : Type 0} (r : Reading) (scope : Scope) (hears : Hears S) (failing : Fails S) (style : Style) (bytes all : List ℕ) (first now : Option (List ℕ)) (old : Follower) (walker : Walker) (answer : Result Unit TraceFault) (x y : S) → (has : HasWritten r scope style bytes first now old)
    → (HasRead (walker_reading old.walker) (walker_scope old.walker) bytes has.events old.walker → AnswersFeed (walker_reading old.walker) hears failing (walker_scope old.walker) all has.events walker x y answer)
    → AnswersFeed r hears failing scope all has.events walker x y answer
turn_fed r scope hears failing style bytes all first now old walker answer x y has feeds =
    at_both (λ q s. HasRead q s bytes has.events old.walker → AnswersFeed q hears failing s all has.events walker x y answer) (walker_reading old.walker) r (walker_scope old.walker) scope has.reading has.by_scope feeds has.read

pub end_fed : {S : Type 0} (r : Reading) (scope : Scope) (hears : Hears S) (failing : Fails S) (style : Style) (bytes : List ℕ) (first now : Option (List ℕ)) (old : Follower) (answer : Result Tally TraceFault) (x y : S) → (has : HasWritten r scope style bytes first now old)
    → (HasRead (walker_reading old.walker) (walker_scope old.walker) bytes has.events old.walker → AnswersFrom (walker_reading old.walker) hears failing (walker_scope old.walker) (lines bytes) has.events x y answer)
    → AnswersFrom r hears failing scope (lines bytes) has.events x y answer
end_fed r scope hears failing style bytes first now old answer x y has feeds =
    at_both (λ q s. HasRead q s bytes has.events old.walker → AnswersFrom q hears failing s (lines bytes) has.events x y answer) (walker_reading old.walker) r (walker_scope old.walker) scope has.reading has.by_scope feeds has.read

-- ---- one turn

-- what waits and what was written, before the turn
pub turn_said : (r : Reading) (scope : Scope) (style : Style) (bytes : List ℕ) (first : Option (List ℕ)) (page : Page) (follower : Follower) → (has : HasWritten r scope style bytes first page.written follower) → page.block ≡ [] → Said (untimed style) has.events first page
turn_said r scope style bytes first page follower has empty = said_before (untimed style) has.events has.text first page has.says has.written empty

fault_turn : {S : Type 0} (r : Reading) (scope : Scope) (view : S → Page) (style : Style) (all : List ℕ) (earlier : List At) (first device : Option (List ℕ)) (fault : TraceFault) (x y : S) → (view x).rendering ≡ untimed style → Said (untimed style) earlier first (view x)
    → FeedFaults r (writes view) (fails view) scope all earlier x y fault → Appends (view y).written device (view y).block → TurnFaults r scope style all first device fault
fault_turn r scope view style all earlier first device (Trace number what) x y in_style said failed out = fault_written r scope (untimed style) (lines all) first device (view y) (Trace number what) (fault_said r scope view (untimed style) (lines all) earlier first (Trace number what) x y in_style said failed) out
fault_turn r scope view style all earlier first device Memory x y in_style said failed out = fault_written r scope (untimed style) (lines all) first device (view y) Memory (fault_said r scope view (untimed style) (lines all) earlier first Memory x y in_style said failed) out
fault_turn r scope view style all earlier first device Write x y in_style said failed out = fault_written r scope (untimed style) (lines all) first device (view y) Write (fault_said r scope view (untimed style) (lines all) earlier first Write x y in_style said failed) out
fault_turn r scope view style all earlier first device TooLong x y in_style said (own, long, heard) out =
    let more = said_more view (untimed style) earlier own first x y in_style said heard in
    (earlier ++ own, more.text, long, more.says, said_out (untimed style) (earlier ++ own) first device (view y) more out)
fault_turn r scope view style all earlier first device Read x y in_style said never out = absurd never

-- the block went out
pub turn_written : {S : Type 0} (r : Reading) (scope : Scope) (view : S → Page) (style : Style) (all : List ℕ) (earlier : List At) (first device : Option (List ℕ)) (follower : Follower) (answer : Result Unit TraceFault) (x y : S) → (view x).rendering ≡ untimed style → Said (untimed style) earlier first (view x)
    → AnswersFeed r (writes view) (fails view) scope all earlier follower.walker x y answer → Appends (view y).written device (view y).block → follower.pages.style ≡ (view y).rendering.style → walker_reading follower.walker ≡ r → walker_scope follower.walker ≡ scope
    → AnswersTurn r scope style all first device follower answer
turn_written r scope view style all earlier first device follower (Ok fed) x y in_style said (own, has, heard) out same reading by_scope =
    let more = said_more view (untimed style) earlier own first x y in_style said heard in record {
      events = earlier ++ own;
      text = more.text;
      read = has;
      says = more.says;
      written = said_out (untimed style) (earlier ++ own) first device (view y) more out;
      in_style = same ∙ ap (λ (r : Rendering). r.style) (kept_style view own x y heard ∙ in_style);
      reading = reading;
      by_scope = by_scope;
    }
turn_written r scope view style all earlier first device follower (Err fault) x y in_style said failed out same reading by_scope = fault_turn r scope view style all earlier first device fault x y in_style said failed out

-- the block could not go out
pub turn_lost : {S : Type 0} (r : Reading) (scope : Scope) (view : S → Page) (style : Style) (all : List ℕ) (earlier : List At) (first device : Option (List ℕ)) (walker : Walker) (answer : Result Unit TraceFault) (x y : S) → (view x).rendering ≡ untimed style → Said (untimed style) earlier first (view x)
    → AnswersFeed r (writes view) (fails view) scope all earlier walker x y answer → AppendsPrefix (view y).written device (view y).block → AnswersLinesBy r scope style (lines all) first device (Err Write)
turn_lost {S = S} r scope view style all earlier first device walker answer x y in_style said fed out = by answer fed
  where
    by : (answer : Result Unit TraceFault) → AnswersFeed r (writes view) (fails view) scope all earlier walker x y answer → AnswersLinesBy r scope style (lines all) first device (Err Write)
    by (Ok fed) (own, has, heard) = lost_out r scope (untimed style) (lines all) (earlier ++ own) first device (view y) (read_so_far r scope all _ (earlier ++ own) walker.progress has.to) (said_less (untimed style) (earlier ++ own) first (view y) (said_more view (untimed style) earlier own first x y in_style said heard)) out
    by (Err (Trace number what)) failed = fault_lost r scope (untimed style) (lines all) first device (view y) (Trace number what) (fault_said r scope view (untimed style) (lines all) earlier first (Trace number what) x y in_style said failed) out
    by (Err Memory) failed = fault_lost r scope (untimed style) (lines all) first device (view y) Memory (fault_said r scope view (untimed style) (lines all) earlier first Memory x y in_style said failed) out
    by (Err Write) failed = fault_lost r scope (untimed style) (lines all) first device (view y) Write (fault_said r scope view (untimed style) (lines all) earlier first Write x y in_style said failed) out
    by (Err TooLong) (own, long, heard) = lost_out r scope (untimed style) (lines all) (earlier ++ own) first device (view y) long.so_far (said_less (untimed style) (earlier ++ own) first (view y) (said_more view (untimed style) earlier own first x y in_style said heard)) out
    by (Err Read) never = absurd never

-- no failure is taken back, and a turn that failed by a write counted one
pub turn_counted : {S : Type 0} (r : Reading) (scope : Scope) (view : S → Page) (all : List ℕ) (earlier : List At) (walker : Walker) (answer : Result Unit TraceFault) (x y : S) → AnswersFeed r (writes view) (fails view) scope all earlier walker x y answer
    → CountsWrites (view x).failures (view y).failures answer
turn_counted r scope view all earlier walker (Ok fed) x y (own, has, heard) = (omega (arith, (shown view own x y heard).failures), λ is. cc is)
turn_counted r scope view all earlier walker (Err (Trace number what)) x y failed = let counted = fault_counted r scope view (lines all) earlier (Trace number what) x y failed in (counted.0, λ is. cc is)
turn_counted r scope view all earlier walker (Err Memory) x y failed = let counted = fault_counted r scope view (lines all) earlier Memory x y failed in (counted.0, λ is. cc is)
turn_counted r scope view all earlier walker (Err Write) x y failed = let counted = fault_counted r scope view (lines all) earlier Write x y failed in (counted.0, λ is. counted.1 refl)
turn_counted r scope view all earlier walker (Err TooLong) x y (own, long, heard) = (omega (arith, (shown view own x y heard).failures), λ is. cc is)
turn_counted r scope view all earlier walker (Err Read) x y never = absurd never

-- ---- all turns

-- at the end of what is read
pub follow_end : (r : Reading) (scope : Scope) (style : Style) (taken : List ℕ) (rest first device : Option (List ℕ)) (answer : Result Tally TraceFault) → AnswersLinesBy r scope style (lines taken) first device answer → IsAtEnd rest
    → AnswersFollow r scope style taken rest first device answer
follow_end r scope style taken rest first device (Ok tally) wrote end = (wrote, end)
follow_end r scope style taken rest first device (Err (Trace number what)) wrote end = wrote
follow_end r scope style taken rest first device (Err Memory) wrote end = wrote
follow_end r scope style taken rest first device (Err Write) wrote end = wrote
follow_end r scope style taken rest first device (Err TooLong) never end = absurd never
follow_end r scope style taken rest first device (Err Read) never end = absurd never

-- a turn failed
pub follow_failed : (r : Reading) (scope : Scope) (style : Style) (taken : List ℕ) (rest first device : Option (List ℕ)) (fault : TraceFault) → TurnFaults r scope style taken first device fault → AnswersFollow r scope style taken rest first device (Err fault)
follow_failed r scope style taken rest first device (Trace number what) failed = failed
follow_failed r scope style taken rest first device Memory failed = failed
follow_failed r scope style taken rest first device Write failed = failed
follow_failed r scope style taken rest first device TooLong failed = failed
follow_failed r scope style taken rest first device Read never = absurd never

-- a read failed
pub follow_unread : (r : Reading) (scope : Scope) (style : Style) (taken : List ℕ) (rest first device : Option (List ℕ)) (fault : TraceFault) (follower : Follower) → HasWritten r scope style taken first device follower → fault ≡ Read → AnswersFollow r scope style taken rest first device (Err fault)
follow_unread r scope style taken rest first device fault follower has is =
    subst (λ (f : TraceFault). AnswersFollow r scope style taken rest first device (Err f)) (sym is) (has.events, has.text, whole_lines r scope taken has.events follower.walker has.read, has.says, has.written)

-- no reader brings so many bytes
pub follow_endless : (r : Reading) (scope : Scope) (style : Style) (taken : List ℕ) (rest first device : Option (List ℕ)) (follower : Follower) → HasWritten r scope style taken first device follower → most < length taken → AnswersFollow r scope style taken rest first device (Err TooLong)
follow_endless r scope style taken rest first device follower has many =
    (has.events, has.text, too_long r scope taken follower.walker.begun.items follower.walker.begun.items [] has.events follower.walker.progress has.read.to (sym (append-nil follower.walker.begun.items)) (inr many), has.says, has.written)

-- nothing came
pub none_more : (start before after : Option (List ℕ)) (taken buffer : List ℕ) (n : ℕ) → n ≡ 0 → Consumes start before taken → Consumes before after (take n buffer) → Consumes start after taken
none_more start before after taken buffer n none so more =
    let nothing : Consumes before after [] = subst (λ (k : ℕ). Consumes before after (take k buffer)) none more in
    subst (λ (t : List ℕ). Consumes start after t) (append-nil taken) (Consumes-trans start before after taken [] so nothing)

-- no fault of what was taken is one of a read
pub end_no_read : (r : Reading) (scope : Scope) (style : Style) (taken : List ℕ) (first device : Option (List ℕ)) (answer : Result Tally TraceFault) → AnswersLinesBy r scope style (lines taken) first device answer → answer ≡ Err Read → ⊥
end_no_read r scope style taken first device answer wrote is = subst (λ (a : Result Tally TraceFault). AnswersLinesBy r scope style (lines taken) first device a) is wrote

pub turn_no_read : (r : Reading) (scope : Scope) (style : Style) (taken : List ℕ) (first device : Option (List ℕ)) (fault : TraceFault) → TurnFaults r scope style taken first device fault → fault ≡ Read → ⊥
turn_no_read r scope style taken first device fault failed is = subst (λ (f : TraceFault). TurnFaults r scope style taken first device f) is failed
