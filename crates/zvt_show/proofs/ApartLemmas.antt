-- Two listeners of a line, each of which stops at its own failure.
use Rattle.std.proofs.Common.{◌≡◌, ◌∙◌, inl, inr, ℕ, List, [], ◌∷◌, ◌++◌, Option, None, Some, Result, Ok, Err, refl, sym, ap, subst, append_assoc}
use Rattle.std.specs.Str.Lines.{lines}
use Rattle.zvt_grammar.specs.Reading.{Reading}
use Rattle.zvt_trace.specs.Apart.{HearsAlone, HearsOrFailed}
use Rattle.zvt_trace.specs.Chunks.{AnswersFeed, HasRead, IsTooLong}
use Rattle.zvt_trace.specs.Emitting.{BrokenTrace, EventsSoFar, WholeTrace}
use Rattle.zvt_trace.specs.Listening.{AnswersFrom, Fails, FailsIn, Hears, HearsAll, Stops}
use Rattle.zvt_trace.specs.Pairs.{BothHear, OneFails}
use Rattle.zvt_trace.specs.TraceEvent.{At, Tallies}
use Rattle.zvt_trace.specs.declared.alone.Alone.{Alone}
use Rattle.zvt_trace.specs.declared.both.Both.{Both}
use Rattle.zvt_trace.specs.declared.chunks.Walker.{Walker}
use Rattle.zvt_trace.specs.declared.fault.Tally.{Tally}
use Rattle.zvt_trace.specs.declared.fault.TraceFault.{TraceFault}
use Rattle.zvt_trace.specs.declared.fault.TraceFault.TheVariants.{Memory, Read, TooLong, Trace, Write}
use Rattle.zvt_trace.specs.declared.listener.ListenerError.{ListenerError}
use Rattle.zvt_trace.specs.declared.listener.ListenerError.TheVariants as failure
use Rattle.zvt_trace.specs.declared.listener.Scope.{Scope}
use Rattle.zvt_trace.proofs.WalkerLemmas.{read_so_far}
use Rattle.zvt_show.specs.Beside.{or_failed}
use Rattle.zvt_show.proofs.PageLemmas.{broken_so_far, prefix_fewer, whole_so_far}

-- ---- one listener

module _ {S : Type 0} (hears : Hears S) (fails : Fails S) where
  -- these events come, and the listener stops at its first failure
  abbrev Alones : Option ListenerError → S → List At → Option ListenerError → S → Type 0
  Alones was old [] is new = (new ≡ old) × (is ≡ was)
  Alones was old (event ∷ events) is new = (middle : S) × (between : Option ListenerError) × HearsOrFailed hears fails was between old event middle × Alones between middle events is new

  as_alones : (events : List At) (old new : Alone S) → HearsAll (HearsAlone hears fails) old events new → Alones old.fault old.listener events new.fault new.listener
  as_alones [] old new same = (ap (λ (a : Alone S). a.listener) same, ap (λ (a : Alone S). a.fault) same)
  as_alones (event ∷ events) old new (middle, heard, rest) = (middle.listener, middle.fault, heard, as_alones events middle new rest)

  still_failed : (events : List At) (why : ListenerError) (is : Option ListenerError) (old new : S) → Alones (Some why) old events is new → (new ≡ old) × (is ≡ Some why)
  still_failed [] why is old new so = so
  still_failed (event ∷ events) why is old new (middle, between, (same, kept), rest) =
      let later = still_failed events why is middle new (subst (λ (f : Option ListenerError). Alones f middle events is new) same rest) in
      (later.0 ∙ kept, later.1)

  -- a listener that failed stays as it is
  pub stays : (events : List At) (why : ListenerError) (old new : Alone S) → old.fault ≡ Some why → HearsAll (HearsAlone hears fails) old events new → (new.listener ≡ old.listener) × (new.fault ≡ Some why)
  stays events why old new failed heard =
      still_failed events why new.fault old.listener new.listener (subst (λ (f : Option ListenerError). Alones f old.listener events new.fault new.listener) failed (as_alones events old new heard))

  -- some of the events were heard, and it failed at the next
  pub record FailedIn (why : ListenerError) (old : S) (all : List At) (new : S) : Type 0 where
    pub events : List At
    pub event : At
    pub later : List At
    pub middle : S
    pub cut : all ≡ events ++ event ∷ later
    pub heard : HearsAll hears old events middle
    pub failed : fails middle event why new

  abbrev pub HeardOrFailed : Option ListenerError → S → List At → S → Type 0
  HeardOrFailed None old events new = HearsAll hears old events new
  HeardOrFailed (Some why) old events new = FailedIn why old events new

  one_before : (event : At) (events : List At) (is : Option ListenerError) (old middle new : S) → hears old event middle → HeardOrFailed is middle events new → HeardOrFailed is old (event ∷ events) new
  one_before event events None old middle new heard rest = (middle, heard, rest)
  one_before event events (Some why) old middle new heard rest =
      record { events = event ∷ rest.events; event = rest.event; later = rest.later; middle = rest.middle; cut = ap (λ (es : List At). event ∷ es) rest.cut; heard = (middle, heard, rest.heard); failed = rest.failed }

  heard_or : (events : List At) (is : Option ListenerError) (old new : S) → Alones None old events is new → HeardOrFailed is old events new
  heard_or [] is old new so = subst (λ (f : Option ListenerError). HeardOrFailed f old [] new) (sym so.1) so.0
  heard_or (event ∷ events) is old new (middle, None, heard, rest) = one_before event events is old middle new heard (heard_or events is middle new rest)
  heard_or (event ∷ events) is old new (middle, Some why, failed, rest) =
      let later = still_failed events why is middle new rest in
      subst (λ (f : Option ListenerError). HeardOrFailed f old (event ∷ events) new) (sym later.1)
      (record { events = []; event = event; later = events; middle = old; cut = refl; heard = refl; failed = subst (λ (s : S). fails old event why s) (sym later.0) failed })

  pub heard_alone : (events : List At) (old new : Alone S) → old.fault ≡ None → HearsAll (HearsAlone hears fails) old events new → HeardOrFailed new.fault old.listener events new.listener
  heard_alone events old new sound heard =
      heard_or events new.fault old.listener new.listener (subst (λ (f : Option ListenerError). Alones f old.listener events new.fault new.listener) sound (as_alones events old new heard))

-- ---- what the bytes say, whoever hears it

abbrev pub Fed : Reading → Scope → (all : List ℕ) → List At → Walker → Result Unit TraceFault → Type 0
Fed r scope all events walker (Ok done) = HasRead r scope all events walker
Fed r scope all events walker (Err (Trace number what)) = BrokenTrace r scope (lines all) number what events
Fed r scope all events walker (Err Memory) = EventsSoFar r scope (lines all) events
Fed r scope all events walker (Err Write) = ⊥
Fed r scope all events walker (Err TooLong) = IsTooLong r scope all events
Fed r scope all events walker (Err Read) = ⊥

fed_so_far : (r : Reading) (scope : Scope) (all : List ℕ) (events : List At) (walker : Walker) (answer : Result Unit TraceFault) → Fed r scope all events walker answer → EventsSoFar r scope (lines all) events
fed_so_far r scope all events walker (Ok done) has = read_so_far r scope all walker.begun.items events walker.progress has.to
fed_so_far r scope all events walker (Err (Trace number what)) broken = broken_so_far scope (lines all) number what events broken
fed_so_far r scope all events walker (Err Memory) so_far = so_far
fed_so_far r scope all events walker (Err Write) never = absurd never
fed_so_far r scope all events walker (Err TooLong) long = long.so_far
fed_so_far r scope all events walker (Err Read) never = absurd never

abbrev pub Ended : Reading → Scope → List (List ℕ) → List At → Result Tally TraceFault → Type 0
Ended r scope lines events (Ok tally) = WholeTrace r scope lines events × Tallies tally events
Ended r scope lines events (Err (Trace number what)) = BrokenTrace r scope lines number what events
Ended r scope lines events (Err Memory) = EventsSoFar r scope lines events
Ended r scope lines events (Err Write) = ⊥
Ended r scope lines events (Err TooLong) = ⊥
Ended r scope lines events (Err Read) = ⊥

ended_so_far : (r : Reading) (scope : Scope) (lines : List (List ℕ)) (events : List At) (answer : Result Tally TraceFault) → Ended r scope lines events answer → EventsSoFar r scope lines events
ended_so_far r scope lines events (Ok tally) ended = whole_so_far scope lines events ended.0
ended_so_far r scope lines events (Err (Trace number what)) broken = broken_so_far scope lines number what events broken
ended_so_far r scope lines events (Err Memory) so_far = so_far
ended_so_far r scope lines events (Err Write) never = absurd never
ended_so_far r scope lines events (Err TooLong) never = absurd never
ended_so_far r scope lines events (Err Read) never = absurd never

-- ---- one of the listeners

module _ {S : Type 0} (hears : Hears S) (fails : Fails S) where
  -- its failure, after that many of the events
  failed_in : (r : Reading) (scope : Scope) (lines : List (List ℕ)) (earlier own : List At) (why : ListenerError) (old new : S) → EventsSoFar r scope lines (earlier ++ own) → FailedIn hears fails why old own new
      → FailsIn hears fails why (λ events. EventsSoFar r scope lines (earlier ++ events)) old new
  failed_in r scope lines earlier own why old new so_far failed =
      let first : earlier ++ own ≡ (earlier ++ (failed.events ++ failed.event ∷ [])) ++ failed.later =
      ap (λ (es : List At). earlier ++ es) (failed.cut ∙ sym (append_assoc failed.events (failed.event ∷ []) failed.later)) ∙ sym (append_assoc earlier (failed.events ++ failed.event ∷ []) failed.later) in
      record {
        events = failed.events;
        middle = failed.middle;
        heard = failed.heard;
        stops = inr (failed.event, prefix_fewer (earlier ++ (failed.events ++ failed.event ∷ [])) failed.later (subst (λ (es : List At). EventsSoFar r scope lines es) first so_far), failed.failed);
      }

  pub alone_fed : (r : Reading) (scope : Scope) (all : List ℕ) (earlier own : List At) (walker : Walker) (answer : Result Unit TraceFault) (fault : Option ListenerError) (old new : S) → Fed r scope all (earlier ++ own) walker answer → HeardOrFailed hears fails fault old own new
      → AnswersFeed r hears fails scope all earlier walker old new (or_failed fault answer)
  alone_fed r scope all earlier own walker (Ok done) None old new fed heard = (own, fed, heard)
  alone_fed r scope all earlier own walker (Err (Trace number what)) None old new fed heard = (own, fed, heard)
  alone_fed r scope all earlier own walker (Err Memory) None old new fed heard = record { events = own; middle = new; heard = heard; stops = inl (refl, fed, refl) }
  alone_fed r scope all earlier own walker (Err Write) None old new never heard = absurd never
  alone_fed r scope all earlier own walker (Err TooLong) None old new fed heard = (own, fed, heard)
  alone_fed r scope all earlier own walker (Err Read) None old new never heard = absurd never
  alone_fed r scope all earlier own walker answer (Some failure.Memory) old new fed failed = failed_in r scope (lines all) earlier own failure.Memory old new (fed_so_far r scope all (earlier ++ own) walker answer fed) failed
  alone_fed r scope all earlier own walker answer (Some failure.Write) old new fed failed = failed_in r scope (lines all) earlier own failure.Write old new (fed_so_far r scope all (earlier ++ own) walker answer fed) failed

  pub alone_ended : (r : Reading) (scope : Scope) (lines : List (List ℕ)) (earlier own : List At) (answer : Result Tally TraceFault) (fault : Option ListenerError) (old new : S) → Ended r scope lines (earlier ++ own) answer → HeardOrFailed hears fails fault old own new
      → AnswersFrom r hears fails scope lines earlier old new (or_failed fault answer)
  alone_ended r scope lines earlier own (Ok tally) None old new ended heard = (own, ended.0, heard, ended.1)
  alone_ended r scope lines earlier own (Err (Trace number what)) None old new broken heard = (own, broken, heard)
  alone_ended r scope lines earlier own (Err Memory) None old new so_far heard = record { events = own; middle = new; heard = heard; stops = inl (refl, so_far, refl) }
  alone_ended r scope lines earlier own (Err Write) None old new never heard = absurd never
  alone_ended r scope lines earlier own (Err TooLong) None old new never heard = absurd never
  alone_ended r scope lines earlier own (Err Read) None old new never heard = absurd never
  alone_ended r scope lines earlier own answer (Some failure.Memory) old new ended failed = failed_in r scope lines earlier own failure.Memory old new (ended_so_far r scope lines (earlier ++ own) answer ended) failed
  alone_ended r scope lines earlier own answer (Some failure.Write) old new ended failed = failed_in r scope lines earlier own failure.Write old new (ended_so_far r scope lines (earlier ++ own) answer ended) failed

-- ---- both

module _ {A B : Type 0} (hears : Hears A) (fails : Fails A) (hears_there : Hears B) (fails_there : Fails B) where
  abbrev pub never : {S : Type 0} → Fails S
  never old event why new = ⊥

  abbrev pub PairHears : Hears (Both (Alone A) (Alone B))
  PairHears old event new = BothHear (HearsAlone hears fails) (HearsAlone hears_there fails_there) event old.first old.second new.first new.second

  abbrev pub PairFails : Fails (Both (Alone A) (Alone B))
  PairFails old event why new = OneFails (HearsAlone hears fails) never never event why old.first old.second new.first new.second

  pub first_heard : (events : List At) (old new : Both (Alone A) (Alone B)) → HearsAll PairHears old events new → HearsAll (HearsAlone hears fails) old.first events new.first
  first_heard [] old new same = ap (λ (b : Both (Alone A) (Alone B)). b.first) same
  first_heard (event ∷ events) old new (middle, heard, rest) = (middle.first, heard.0, first_heard events middle new rest)

  pub second_heard : (events : List At) (old new : Both (Alone A) (Alone B)) → HearsAll PairHears old events new → HearsAll (HearsAlone hears_there fails_there) old.second events new.second
  second_heard [] old new same = ap (λ (b : Both (Alone A) (Alone B)). b.second) same
  second_heard (event ∷ events) old new (middle, heard, rest) = (middle.second, heard.1, second_heard events middle new rest)

  -- only memory was refused to the walk
  by_walk : (So : List At → Type 0) (why : ListenerError) (old new : Both (Alone A) (Alone B)) → (failed : FailsIn PairHears PairFails why So old new) → (why ≡ failure.Memory) × So failed.events × HearsAll PairHears old failed.events new
  by_walk So why old new failed = by failed.stops
    where
      by : Stops PairFails why So failed.events failed.middle new → (why ≡ failure.Memory) × So failed.events × HearsAll PairHears old failed.events new
      by (inl (is, so, same)) = (is, so, subst (λ (b : Both (Alone A) (Alone B)). HearsAll PairHears old failed.events b) (sym same) failed.heard)
      by (inr (event, so, inl stopped)) = absurd stopped.0
      by (inr (event, so, inr stopped)) = absurd stopped.1

  pub pair_fed : (r : Reading) (scope : Scope) (all : List ℕ) (earlier : List At) (walker : Walker) (answer : Result Unit TraceFault) (old new : Both (Alone A) (Alone B)) → AnswersFeed r PairHears PairFails scope all earlier walker old new answer
      → (own : List At) × Fed r scope all (earlier ++ own) walker answer × HearsAll PairHears old own new
  pair_fed r scope all earlier walker (Ok done) old new fed = fed
  pair_fed r scope all earlier walker (Err (Trace number what)) old new fed = fed
  pair_fed r scope all earlier walker (Err Memory) old new failed = let walked = by_walk (λ events. EventsSoFar r scope (lines all) (earlier ++ events)) failure.Memory old new failed in (failed.events, walked.1, walked.2)
  pair_fed r scope all earlier walker (Err Write) old new failed = let walked = by_walk (λ events. EventsSoFar r scope (lines all) (earlier ++ events)) failure.Write old new failed in let bad = walked.0 in cc
  pair_fed r scope all earlier walker (Err TooLong) old new fed = fed
  pair_fed r scope all earlier walker (Err Read) old new never = absurd never

  pub pair_ended : (r : Reading) (scope : Scope) (lines : List (List ℕ)) (earlier : List At) (answer : Result Tally TraceFault) (old new : Both (Alone A) (Alone B)) → AnswersFrom r PairHears PairFails scope lines earlier old new answer
      → (own : List At) × Ended r scope lines (earlier ++ own) answer × HearsAll PairHears old own new
  pair_ended r scope lines earlier (Ok tally) old new (own, whole, heard, tallies) = (own, (whole, tallies), heard)
  pair_ended r scope lines earlier (Err (Trace number what)) old new ended = ended
  pair_ended r scope lines earlier (Err Memory) old new failed = let walked = by_walk (λ events. EventsSoFar r scope lines (earlier ++ events)) failure.Memory old new failed in (failed.events, walked.1, walked.2)
  pair_ended r scope lines earlier (Err Write) old new failed = let walked = by_walk (λ events. EventsSoFar r scope lines (earlier ++ events)) failure.Write old new failed in let bad = walked.0 in cc
  pair_ended r scope lines earlier (Err TooLong) old new never = absurd never
  pair_ended r scope lines earlier (Err Read) old new never = absurd never
