-- The text of a walk that goes on.
use Rattle.std.proofs.Common.{◌≡◌, inl, inr, ℕ, ◌<◌, ◌≤◌, List, [], ◌∷◌, ◌++◌, Result, Option, Ok, Err, sym, ◌∙◌, ap, subst, arith, append_assoc}
use Rattle.std.proofs.KnownBytes.{Appends-kept, Appends-trans}
use Rattle.std.specs.Io.KnownBytes.{Appends}
use Rattle.std.specs.Str.Lines.{lines}
use Rattle.zvt_grammar.specs.Reading.{Reading}
use Rattle.zvt_trace.specs.Emitting.{BrokenTrace, EventsSoFar}
use Rattle.zvt_trace.specs.Listening.{AnswersFrom, FailsIn, FaultsFrom, HearsAll, Stops}
use Rattle.zvt_trace.specs.TraceEvent.{At}
use Rattle.zvt_trace.specs.Written.{AppendsPrefix}
use Rattle.zvt_trace.specs.declared.fault.Tally.{Tally}
use Rattle.zvt_trace.specs.declared.fault.TraceFault.{TraceFault}
use Rattle.zvt_trace.specs.declared.fault.TraceFault.TheVariants.{Memory, Read, TooLong, Trace, Write}
use Rattle.zvt_trace.specs.declared.listener.ListenerError.TheVariants as failure
use Rattle.zvt_trace.specs.declared.listener.Scope.{Scope}
use Rattle.zvt_show.specs.Text.{RenderedTexts, Rendering}
use Rattle.zvt_show.specs.Written.{AnswersRendered, Extends, Page, all_of}
use Rattle.zvt_show.proofs.BlockLemmas.{after_nothing, all_written, extends_more, last_failed, last_written, short_of, whole_prefix}
use Rattle.zvt_show.proofs.PageLemmas.{broken_so_far, fails, prefix_fewer, shown, whole_so_far, writes}

-- ---- the text of events

texts_append : (rendering : Rendering) (a b : List At) (x y : List ℕ) → RenderedTexts rendering a x → RenderedTexts rendering b y → RenderedTexts rendering (a ++ b) (x ++ y)
texts_append rendering [] b x y none more = subst (λ (t : List ℕ). RenderedTexts rendering b (t ++ y)) (sym none) more
texts_append rendering (event ∷ a) b x y (one, after, cut, says, rest) more =
    (one, after ++ y, ap (λ (t : List ℕ). t ++ y) cut ∙ append_assoc one after y, says, texts_append rendering a b after y rest more)

-- the page and the device have the text of these events, besides what the device had first
pub record Said (rendering : Rendering) (events : List At) (first : Option (List ℕ)) (page : Page) : Type 0 where
  pub text : List ℕ
  pub says : RenderedTexts rendering events text
  pub appended : Appends first (all_of page) text
  pub extends : Extends first page.written

-- they have a prefix of it
pub record SaidLess (rendering : Rendering) (events : List At) (first : Option (List ℕ)) (page : Page) : Type 0 where
  pub text : List ℕ
  pub says : RenderedTexts rendering events text
  pub prefix : AppendsPrefix first (all_of page) text
  pub extends : Extends first page.written

pub said_before : (rendering : Rendering) (events : List At) (text : List ℕ) (first : Option (List ℕ)) (page : Page) → RenderedTexts rendering events text → Appends first page.written text → page.block ≡ [] → Said rendering events first page
said_before rendering events text first page says wrote empty =
    record { text = text; says = says; appended = subst (λ (o : Option (List ℕ)). Appends first o text) (sym (after_nothing page.written page.block empty)) wrote; extends = (text, wrote) }

pub kept_style : {S : Type 0} (view : S → Page) (events : List At) (old new : S) → HearsAll (writes view) old events new → (view new).rendering ≡ (view old).rendering
kept_style view [] old new same = ap (λ s. (view s).rendering) same
kept_style view (event ∷ events) old new some = kept_style view events some.0 new some.2 ∙ some.1.same

-- more events were heard
pub said_more : {S : Type 0} (view : S → Page) (rendering : Rendering) (earlier own : List At) (first : Option (List ℕ)) (old new : S) → (view old).rendering ≡ rendering → Said rendering earlier first (view old) → HearsAll (writes view) old own new → Said rendering (earlier ++ own) first (view new)
said_more view rendering earlier own first old new in_style said heard =
    let shows = shown view own old new heard in record {
      text = said.text ++ shows.text;
      says = texts_append rendering earlier own said.text shows.text said.says (subst (λ (s : Rendering). RenderedTexts s own shows.text) in_style shows.says);
      appended = Appends-trans first (all_of (view old)) (all_of (view new)) said.text shows.text said.appended shows.appended;
      extends = extends_more first (view old).written (view new).written said.extends shows.extends;
    }

pub said_less : (rendering : Rendering) (events : List At) (first : Option (List ℕ)) (page : Page) → Said rendering events first page → SaidLess rendering events first page
said_less rendering events first page said = record { text = said.text; says = said.says; prefix = whole_prefix first (all_of page) said.text said.appended; extends = said.extends }

-- ---- a failure

-- what a fault leaves on the page and the device
abbrev pub SaidAtFault : Reading → Scope → Rendering → List (List ℕ) → Option (List ℕ) → Page → TraceFault → Type 0
SaidAtFault r scope rendering lines first page (Trace number what) = (events : List At) × BrokenTrace r scope lines number what events × Said rendering events first page
SaidAtFault r scope rendering lines first page Memory = (events : List At) × EventsSoFar r scope lines events × Said rendering events first page
SaidAtFault r scope rendering lines first page Write = (events : List At) × EventsSoFar r scope lines events × SaidLess rendering events first page
SaidAtFault r scope rendering lines first page TooLong = ⊥
SaidAtFault r scope rendering lines first page Read = ⊥

memory_said : {S : Type 0} (r : Reading) (scope : Scope) (view : S → Page) (rendering : Rendering) (lines : List (List ℕ)) (earlier : List At) (first : Option (List ℕ)) (old new : S) → (view old).rendering ≡ rendering → Said rendering earlier first (view old)
    → FailsIn (writes view) (fails view) failure.Memory (λ own. EventsSoFar r scope lines (earlier ++ own)) old new → SaidAtFault r scope rendering lines first (view new) Memory
memory_said {S = S} r scope view rendering lines earlier first old new in_style said failed = by failed.stops
  where
    middle : Said rendering (earlier ++ failed.events) first (view failed.middle)
    middle = said_more view rendering earlier failed.events first old failed.middle in_style said failed.heard

    by : Stops (fails view) failure.Memory (λ own. EventsSoFar r scope lines (earlier ++ own)) failed.events failed.middle new → SaidAtFault r scope rendering lines first (view new) Memory
    by (inl (is, so_far, same)) = (earlier ++ failed.events, so_far, subst (λ (s : S). Said rendering (earlier ++ failed.events) first (view s)) (sym same) middle)
    by (inr (event, so_far, left)) = (
      earlier ++ failed.events,
      prefix_fewer (earlier ++ failed.events) (event ∷ []) (subst (λ (es : List At). EventsSoFar r scope lines es) (sym (append_assoc earlier failed.events (event ∷ []))) so_far),
      record {
        text = middle.text;
        says = middle.says;
        appended = Appends-kept first (all_of (view failed.middle)) (all_of (view new)) middle.text middle.appended left.0;
        extends = extends_more first (view failed.middle).written (view new).written middle.extends left.1;
      },
    )

write_said : {S : Type 0} (r : Reading) (scope : Scope) (view : S → Page) (rendering : Rendering) (lines : List (List ℕ)) (earlier : List At) (first : Option (List ℕ)) (old new : S) → (view old).rendering ≡ rendering → Said rendering earlier first (view old)
    → FailsIn (writes view) (fails view) failure.Write (λ own. EventsSoFar r scope lines (earlier ++ own)) old new → SaidAtFault r scope rendering lines first (view new) Write
write_said {S = S} r scope view rendering lines earlier first old new in_style said failed = by failed.stops
  where
    middle : Said rendering (earlier ++ failed.events) first (view failed.middle)
    middle = said_more view rendering earlier failed.events first old failed.middle in_style said failed.heard

    by : Stops (fails view) failure.Write (λ own. EventsSoFar r scope lines (earlier ++ own)) failed.events failed.middle new → SaidAtFault r scope rendering lines first (view new) Write
    by (inl (is, so_far, same)) = cc
    by (inr (event, so_far, left)) =
        let extends = extends_more first (view failed.middle).written (view new).written middle.extends left.1 in (
          earlier ++ failed.events,
          prefix_fewer (earlier ++ failed.events) (event ∷ []) (subst (λ (es : List At). EventsSoFar r scope lines es) (sym (append_assoc earlier failed.events (event ∷ []))) so_far),
          record {
            text = middle.text;
            says = middle.says;
            prefix = short_of first (view new).written (all_of (view failed.middle)) (view new).block middle.text extends middle.appended left.0;
            extends = extends;
          },
        )

pub fault_said : {S : Type 0} (r : Reading) (scope : Scope) (view : S → Page) (rendering : Rendering) (lines : List (List ℕ)) (earlier : List At) (first : Option (List ℕ)) (fault : TraceFault) (old new : S) → (view old).rendering ≡ rendering → Said rendering earlier first (view old)
    → FaultsFrom r (writes view) (fails view) scope lines earlier old new fault → SaidAtFault r scope rendering lines first (view new) fault
fault_said r scope view rendering lines earlier first (Trace number what) old new in_style said (own, broken, heard) = (earlier ++ own, broken, said_more view rendering earlier own first old new in_style said heard)
fault_said r scope view rendering lines earlier first Memory old new in_style said failed = memory_said r scope view rendering lines earlier first old new in_style said failed
fault_said r scope view rendering lines earlier first Write old new in_style said failed = write_said r scope view rendering lines earlier first old new in_style said failed
fault_said r scope view rendering lines earlier first TooLong old new in_style said never = absurd never
fault_said r scope view rendering lines earlier first Read old new in_style said never = absurd never

-- ---- the block goes out

-- it was written
pub said_out : (rendering : Rendering) (events : List At) (first device : Option (List ℕ)) (page : Page) → (said : Said rendering events first page) → Appends page.written device page.block → Appends first device said.text
said_out rendering events first device page said out = all_written first page.written device page.block said.text said.appended out

-- it could not be written
pub lost_out : (r : Reading) (scope : Scope) (rendering : Rendering) (lines : List (List ℕ)) (events : List At) (first device : Option (List ℕ)) (page : Page) → EventsSoFar r scope lines events → SaidLess rendering events first page → AppendsPrefix page.written device page.block → AnswersRendered r scope rendering lines first device (Err Write)
lost_out r scope rendering lines events first device page so_far less out = (events, less.text, so_far, less.says, last_failed first page.written device page.block less.text less.extends less.prefix out)

pub fault_written : (r : Reading) (scope : Scope) (rendering : Rendering) (lines : List (List ℕ)) (first device : Option (List ℕ)) (page : Page) (fault : TraceFault) → SaidAtFault r scope rendering lines first page fault → Appends page.written device page.block → AnswersRendered r scope rendering lines first device (Err fault)
fault_written r scope rendering lines first device page (Trace number what) (events, broken, said) out = (events, said.text, broken, said.says, said_out rendering events first device page said out)
fault_written r scope rendering lines first device page Memory (events, so_far, said) out = (events, said.text, so_far, said.says, said_out rendering events first device page said out)
fault_written r scope rendering lines first device page Write (events, so_far, less) out = (events, less.text, so_far, less.says, last_written first page.written device page.block less.text less.prefix out)
fault_written r scope rendering lines first device page TooLong never out = absurd never
fault_written r scope rendering lines first device page Read never out = absurd never

pub fault_lost : (r : Reading) (scope : Scope) (rendering : Rendering) (lines : List (List ℕ)) (first device : Option (List ℕ)) (page : Page) (fault : TraceFault) → SaidAtFault r scope rendering lines first page fault → AppendsPrefix page.written device page.block → AnswersRendered r scope rendering lines first device (Err Write)
fault_lost r scope rendering lines first device page (Trace number what) (events, broken, said) out = lost_out r scope rendering lines events first device page (broken_so_far scope lines number what events broken) (said_less rendering events first page said) out
fault_lost r scope rendering lines first device page Memory (events, so_far, said) out = lost_out r scope rendering lines events first device page so_far (said_less rendering events first page said) out
fault_lost r scope rendering lines first device page Write (events, so_far, less) out = lost_out r scope rendering lines events first device page so_far less out
fault_lost r scope rendering lines first device page TooLong never out = absurd never
fault_lost r scope rendering lines first device page Read never out = absurd never

-- ---- the answer at the end

pub end_written : {S : Type 0} (r : Reading) (scope : Scope) (view : S → Page) (rendering : Rendering) (lines : List (List ℕ)) (earlier : List At) (first device : Option (List ℕ)) (answer : Result Tally TraceFault) (old new : S) → (view old).rendering ≡ rendering → Said rendering earlier first (view old)
    → AnswersFrom r (writes view) (fails view) scope lines earlier old new answer → Appends (view new).written device (view new).block → AnswersRendered r scope rendering lines first device answer
end_written r scope view rendering lines earlier first device (Ok tally) old new in_style said (own, whole, heard, counts) out =
    let all = said_more view rendering earlier own first old new in_style said heard in
    (earlier ++ own, all.text, whole, all.says, said_out rendering (earlier ++ own) first device (view new) all out, counts)
end_written r scope view rendering lines earlier first device (Err fault) old new in_style said failed out = fault_written r scope rendering lines first device (view new) fault (fault_said r scope view rendering lines earlier first fault old new in_style said failed) out

pub end_lost : {S : Type 0} (r : Reading) (scope : Scope) (view : S → Page) (rendering : Rendering) (lines : List (List ℕ)) (earlier : List At) (first device : Option (List ℕ)) (answer : Result Tally TraceFault) (old new : S) → (view old).rendering ≡ rendering → Said rendering earlier first (view old)
    → AnswersFrom r (writes view) (fails view) scope lines earlier old new answer → AppendsPrefix (view new).written device (view new).block → AnswersRendered r scope rendering lines first device (Err Write)
end_lost r scope view rendering lines earlier first device (Ok tally) old new in_style said (own, whole, heard, counts) out =
    lost_out r scope rendering lines (earlier ++ own) first device (view new) (whole_so_far scope lines (earlier ++ own) whole) (said_less rendering (earlier ++ own) first (view new) (said_more view rendering earlier own first old new in_style said heard)) out
end_lost r scope view rendering lines earlier first device (Err fault) old new in_style said failed out = fault_lost r scope rendering lines first device (view new) fault (fault_said r scope view rendering lines earlier first fault old new in_style said failed) out

-- ---- failures

-- no failure is taken back, and a walk that failed by a write counted one
pub fault_counted : {S : Type 0} (r : Reading) (scope : Scope) (view : S → Page) (lines : List (List ℕ)) (earlier : List At) (fault : TraceFault) (old new : S) → FaultsFrom r (writes view) (fails view) scope lines earlier old new fault
    → ((view old).failures ≤ (view new).failures) × (fault ≡ Write → (view old).failures < (view new).failures)
fault_counted r scope view lines earlier (Trace number what) old new (own, broken, heard) = (omega (arith, (shown view own old new heard).failures), λ is. cc is)
fault_counted {S = S} r scope view lines earlier Memory old new failed = (by failed.stops, λ is. cc is)
  where
    by : Stops (fails view) failure.Memory (λ own. EventsSoFar r scope lines (earlier ++ own)) failed.events failed.middle new → (view old).failures ≤ (view new).failures
    by (inl (is, so_far, same)) = subst (λ (s : S). (view old).failures ≤ (view s).failures) (sym same) (omega (arith, (shown view failed.events old failed.middle failed.heard).failures))
    by (inr (event, so_far, left)) = omega (arith, (shown view failed.events old failed.middle failed.heard).failures, left.2)
fault_counted {S = S} r scope view lines earlier Write old new failed = let more = by failed.stops in (omega (arith, more), λ is. more)
  where
    by : Stops (fails view) failure.Write (λ own. EventsSoFar r scope lines (earlier ++ own)) failed.events failed.middle new → (view old).failures < (view new).failures
    by (inl (is, so_far, same)) = cc
    by (inr (event, so_far, left)) = omega (arith, (shown view failed.events old failed.middle failed.heard).failures, left.2)
fault_counted r scope view lines earlier TooLong old new never = absurd never
fault_counted r scope view lines earlier Read old new never = absurd never

pub end_counted : {S : Type 0} (r : Reading) (scope : Scope) (view : S → Page) (lines : List (List ℕ)) (earlier : List At) (answer : Result Tally TraceFault) (old new : S) → AnswersFrom r (writes view) (fails view) scope lines earlier old new answer
    → ((view old).failures ≤ (view new).failures) × (answer ≡ Err Write → (view old).failures < (view new).failures)
end_counted r scope view lines earlier (Ok tally) old new (own, whole, heard, counts) = (omega (arith, (shown view own old new heard).failures), λ is. cc is)
end_counted r scope view lines earlier (Err fault) old new failed = let counted = fault_counted r scope view lines earlier fault old new failed in (counted.0, λ is. counted.1 (cc is))
