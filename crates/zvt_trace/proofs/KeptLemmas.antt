-- What is said less of each event is said less of all, and what each event keeps all do.
use Rattle.std.proofs.Common.{◌≡◌, ◌∙◌, ap, inl, inr, ℕ, List, [], ◌∷◌, Result, Ok, Err}
use Rattle.zvt_grammar.specs.Reading.{Reading}
use Rattle.zvt_trace.specs.Chunks.{AnswersFeed}
use Rattle.zvt_trace.specs.Listening.{AnswersFrom, AnswersWalk, Fails, FailsIn, FaultsFrom, Hears, HearsAll, Stops}
use Rattle.zvt_trace.specs.TraceEvent.{At}
use Rattle.zvt_trace.specs.declared.chunks.Walker.{Walker}
use Rattle.zvt_trace.specs.declared.fault.Tally.{Tally}
use Rattle.zvt_trace.specs.declared.fault.TraceFault.{TraceFault}
use Rattle.zvt_trace.specs.declared.fault.TraceFault.TheVariants.{Memory, Read, TooLong, Trace, Write}
use Rattle.zvt_trace.specs.declared.listener.ListenerError.{ListenerError}
use Rattle.zvt_trace.specs.declared.listener.ListenerError.TheVariants as failure
use Rattle.zvt_trace.specs.declared.listener.Scope.{Scope}

-- ---- less is said of each event

-- What is said of a part of the state follows from what is said of all of it.
pub record SaysLess {S T : Type 0} (part : S → T) (hears : Hears S) (own : Hears T) (fails : Fails S) (own_fails : Fails T) : Type 0 where
  pub by_event : (old : S) (event : At) (new : S) → hears old event new → own (part old) event (part new)
  pub by_failure : (old : S) (event : At) (why : ListenerError) (new : S) → fails old event why new → own_fails (part old) event why (part new)

pub heard_as : {S T : Type 0} (part : S → T) (hears : Hears S) (own : Hears T) → ((old : S) (event : At) (new : S) → hears old event new → own (part old) event (part new))
    → (events : List At) (old new : S) → HearsAll hears old events new → HearsAll own (part old) events (part new)
heard_as part hears own step [] old new heard = ap part heard
heard_as part hears own step (event ∷ events) old new heard =
    let middle = heard.0 in
    (part middle, step old event middle heard.1, heard_as part hears own step events middle new heard.2)

pub failed_as : {S T : Type 0} (part : S → T) (hears : Hears S) (own : Hears T) (fails : Fails S) (own_fails : Fails T) → SaysLess part hears own fails own_fails → (why : ListenerError) (So : List At → Type 0) (old new : S) → FailsIn hears fails why So old new → FailsIn own own_fails why So (part old) (part new)
failed_as part hears own fails own_fails less why So old new failed = record {
  events = failed.events;
  middle = part failed.middle;
  heard = heard_as part hears own less.by_event failed.events old failed.middle failed.heard;
  stops = by failed.stops;
}
  where
    by : Stops fails why So failed.events failed.middle new → Stops own_fails why So failed.events (part failed.middle) (part new)
    by (inl (is, so, same)) = inl (is, so, ap part same)
    by (inr (event, so, left)) = inr (event, so, less.by_failure failed.middle event why new left)

pub fault_as : {S T : Type 0} (part : S → T) (hears : Hears S) (own : Hears T) (fails : Fails S) (own_fails : Fails T) → SaysLess part hears own fails own_fails → (r : Reading) (scope : Scope) (lines : List (List ℕ)) (earlier : List At) (fault : TraceFault) (old new : S)
    → FaultsFrom r hears fails scope lines earlier old new fault → FaultsFrom r own own_fails scope lines earlier (part old) (part new) fault
fault_as part hears own fails own_fails less r scope lines earlier (Trace number what) old new (events, broken, heard) = (events, broken, heard_as part hears own less.by_event events old new heard)
fault_as part hears own fails own_fails less r scope lines earlier Memory old new failed = failed_as part hears own fails own_fails less failure.Memory _ old new failed
fault_as part hears own fails own_fails less r scope lines earlier Write old new failed = failed_as part hears own fails own_fails less failure.Write _ old new failed
fault_as part hears own fails own_fails less r scope lines earlier TooLong old new never = absurd never
fault_as part hears own fails own_fails less r scope lines earlier Read old new never = absurd never

pub end_as : {S T : Type 0} (part : S → T) (hears : Hears S) (own : Hears T) (fails : Fails S) (own_fails : Fails T) → SaysLess part hears own fails own_fails → (r : Reading) (scope : Scope) (lines : List (List ℕ)) (earlier : List At) (answer : Result Tally TraceFault) (old new : S)
    → AnswersFrom r hears fails scope lines earlier old new answer → AnswersFrom r own own_fails scope lines earlier (part old) (part new) answer
end_as part hears own fails own_fails less r scope lines earlier (Ok tally) old new (events, whole, heard, counts) = (events, whole, heard_as part hears own less.by_event events old new heard, counts)
end_as part hears own fails own_fails less r scope lines earlier (Err fault) old new failed = fault_as part hears own fails own_fails less r scope lines earlier fault old new failed

pub walk_as : {S T : Type 0} (part : S → T) (hears : Hears S) (own : Hears T) (fails : Fails S) (own_fails : Fails T) → SaysLess part hears own fails own_fails → (r : Reading) (scope : Scope) (lines : List (List ℕ)) (answer : Result Tally TraceFault) (old new : S)
    → AnswersWalk r hears fails scope lines old new answer → AnswersWalk r own own_fails scope lines (part old) (part new) answer
walk_as part hears own fails own_fails less r scope lines (Ok tally) old new walked = end_as part hears own fails own_fails less r scope lines [] (Ok tally) old new walked
walk_as part hears own fails own_fails less r scope lines (Err (Trace number what)) old new walked = fault_as part hears own fails own_fails less r scope lines [] (Trace number what) old new walked
walk_as part hears own fails own_fails less r scope lines (Err Memory) old new failed = fault_as part hears own fails own_fails less r scope lines [] Memory old new failed
walk_as part hears own fails own_fails less r scope lines (Err Write) old new failed = fault_as part hears own fails own_fails less r scope lines [] Write old new failed
walk_as part hears own fails own_fails less r scope lines (Err TooLong) old new never = absurd never
walk_as part hears own fails own_fails less r scope lines (Err Read) old new never = absurd never

pub feed_as : {S T : Type 0} (part : S → T) (hears : Hears S) (own : Hears T) (fails : Fails S) (own_fails : Fails T) → SaysLess part hears own fails own_fails → (r : Reading) (scope : Scope) (bytes : List ℕ) (earlier : List At) (walker : Walker) (answer : Result Unit TraceFault) (old new : S)
    → AnswersFeed r hears fails scope bytes earlier walker old new answer → AnswersFeed r own own_fails scope bytes earlier walker (part old) (part new) answer
feed_as part hears own fails own_fails less r scope bytes earlier walker (Ok fed) old new (events, read, heard) = (events, read, heard_as part hears own less.by_event events old new heard)
feed_as part hears own fails own_fails less r scope bytes earlier walker (Err (Trace number what)) old new failed = fault_as part hears own fails own_fails less r scope _ earlier (Trace number what) old new failed
feed_as part hears own fails own_fails less r scope bytes earlier walker (Err Memory) old new failed = fault_as part hears own fails own_fails less r scope _ earlier Memory old new failed
feed_as part hears own fails own_fails less r scope bytes earlier walker (Err Write) old new failed = fault_as part hears own fails own_fails less r scope _ earlier Write old new failed
feed_as part hears own fails own_fails less r scope bytes earlier walker (Err TooLong) old new (events, long, heard) = (events, long, heard_as part hears own less.by_event events old new heard)
feed_as part hears own fails own_fails less r scope bytes earlier walker (Err Read) old new never = absurd never

-- ---- what each event keeps

-- What each event keeps, all do, and so does a failure.
pub record Keeps {S T : Type 0} (part : S → T) (hears : Hears S) (fails : Fails S) : Type 0 where
  pub by_event : (old : S) (event : At) (new : S) → hears old event new → part new ≡ part old
  pub by_failure : (old : S) (event : At) (why : ListenerError) (new : S) → fails old event why new → part new ≡ part old

pub part_kept : {S T : Type 0} (part : S → T) (hears : Hears S) (fails : Fails S) → Keeps part hears fails → (events : List At) (old new : S) → HearsAll hears old events new → part new ≡ part old
part_kept part hears fails keeps [] old new heard = ap part heard
part_kept part hears fails keeps (event ∷ events) old new heard =
    let middle = heard.0 in
    part_kept part hears fails keeps events middle new heard.2 ∙ keeps.by_event old event middle heard.1

pub failed_kept : {S T : Type 0} (part : S → T) (hears : Hears S) (fails : Fails S) → Keeps part hears fails → (why : ListenerError) (So : List At → Type 0) (old new : S) → FailsIn hears fails why So old new → part new ≡ part old
failed_kept {S = S} part hears fails keeps why So old new failed = by failed.stops ∙ part_kept part hears fails keeps failed.events old failed.middle failed.heard
  where
    by : Stops fails why So failed.events failed.middle new → part new ≡ part failed.middle
    by (inl (is, so, same)) = ap part same
    by (inr (event, so, left)) = keeps.by_failure failed.middle event why new left

pub fault_kept : {S T : Type 0} (part : S → T) (hears : Hears S) (fails : Fails S) → Keeps part hears fails → (r : Reading) (scope : Scope) (lines : List (List ℕ)) (earlier : List At) (fault : TraceFault) (old new : S) → FaultsFrom r hears fails scope lines earlier old new fault → part new ≡ part old
fault_kept part hears fails keeps r scope lines earlier (Trace number what) old new (events, broken, heard) = part_kept part hears fails keeps events old new heard
fault_kept part hears fails keeps r scope lines earlier Memory old new failed = failed_kept part hears fails keeps failure.Memory _ old new failed
fault_kept part hears fails keeps r scope lines earlier Write old new failed = failed_kept part hears fails keeps failure.Write _ old new failed
fault_kept part hears fails keeps r scope lines earlier TooLong old new never = absurd never
fault_kept part hears fails keeps r scope lines earlier Read old new never = absurd never

pub end_kept : {S T : Type 0} (part : S → T) (hears : Hears S) (fails : Fails S) → Keeps part hears fails → (r : Reading) (scope : Scope) (lines : List (List ℕ)) (earlier : List At) (answer : Result Tally TraceFault) (old new : S) → AnswersFrom r hears fails scope lines earlier old new answer → part new ≡ part old
end_kept part hears fails keeps r scope lines earlier (Ok tally) old new (events, whole, heard, counts) = part_kept part hears fails keeps events old new heard
end_kept part hears fails keeps r scope lines earlier (Err fault) old new failed = fault_kept part hears fails keeps r scope lines earlier fault old new failed

pub walk_kept : {S T : Type 0} (part : S → T) (hears : Hears S) (fails : Fails S) → Keeps part hears fails → (r : Reading) (scope : Scope) (lines : List (List ℕ)) (answer : Result Tally TraceFault) (old new : S) → AnswersWalk r hears fails scope lines old new answer → part new ≡ part old
walk_kept part hears fails keeps r scope lines (Ok tally) old new walked = end_kept part hears fails keeps r scope lines [] (Ok tally) old new walked
walk_kept part hears fails keeps r scope lines (Err (Trace number what)) old new walked = fault_kept part hears fails keeps r scope lines [] (Trace number what) old new walked
walk_kept part hears fails keeps r scope lines (Err Memory) old new failed = fault_kept part hears fails keeps r scope lines [] Memory old new failed
walk_kept part hears fails keeps r scope lines (Err Write) old new failed = fault_kept part hears fails keeps r scope lines [] Write old new failed
walk_kept part hears fails keeps r scope lines (Err TooLong) old new never = absurd never
walk_kept part hears fails keeps r scope lines (Err Read) old new never = absurd never

pub feed_kept : {S T : Type 0} (part : S → T) (hears : Hears S) (fails : Fails S) → Keeps part hears fails → (r : Reading) (scope : Scope) (bytes : List ℕ) (earlier : List At) (walker : Walker) (answer : Result Unit TraceFault) (old new : S) → AnswersFeed r hears fails scope bytes earlier walker old new answer → part new ≡ part old
feed_kept part hears fails keeps r scope bytes earlier walker (Ok fed) old new (events, read, heard) = part_kept part hears fails keeps events old new heard
feed_kept part hears fails keeps r scope bytes earlier walker (Err (Trace number what)) old new failed = fault_kept part hears fails keeps r scope _ earlier (Trace number what) old new failed
feed_kept part hears fails keeps r scope bytes earlier walker (Err Memory) old new failed = fault_kept part hears fails keeps r scope _ earlier Memory old new failed
feed_kept part hears fails keeps r scope bytes earlier walker (Err Write) old new failed = fault_kept part hears fails keeps r scope _ earlier Write old new failed
feed_kept part hears fails keeps r scope bytes earlier walker (Err TooLong) old new (events, long, heard) = part_kept part hears fails keeps events old new heard
feed_kept part hears fails keeps r scope bytes earlier walker (Err Read) old new never = absurd never
