-- Counts that stay at the largest number, and lines that are counted.
use Rattle.std.proofs.Common.{◌≡◌, ◌⊎◌, inl, inr, ℕ, ◌+◌, ◌-◌, ◌^◌, ◌<◌, ◌≤◌, List, [], ◌∷◌, ◌++◌, length, map, refl, sym, ◌∙◌, ap, subst, arith, append-nil, length-append}
use Rattle.std.specs.List.{filter, sum_by}
use Rattle.std.proofs.lemmas.Bool.{cases_lt}
use Rattle.std.proofs.Math.Nat.{min-eq_left, min-eq_right}
use Rattle.std.proofs.lemmas.List.{map-append}
use Rattle.std.proofs.lemmas.List.Elements.{filter-append}
use Rattle.std.proofs.lemmas.List.Sums.{sum_by-cons}
use Rattle.zvt_trace.specs.Listening.{Hears, HearsAll}
use Rattle.zvt_trace.specs.TraceEvent.{At, TraceEvent, on}
use Rattle.zvt_trace.specs.TraceEvent as trace_event
use Rattle.zvt_trace.specs.declared.direction.Direction.{Direction}
use Rattle.zvt_trace.specs.declared.direction.Direction.TheVariants.{FromTill, FromTerminal}
use Rattle.zvt_trace.specs.declared.listener.Scope.{Scope}
use Rattle.zvt_show.specs.Notes.{counted_side, is_unread, last_line, most, unread_lines}
use Rattle.zvt_show.specs.Noting.{CountsAfter, CountsLines, one_more}
use Rattle.zvt_show.specs.declared.diagnostics.skipped_lines.SkippedLines.{SkippedLines}
use Rattle.zvt_show.specs.declared.diagnostics.skipped_lines.Unread.{Unread}

-- ---- numbers

abbrev largest : ℕ
largest = 2 ^ 64 - 1

few_more : (a c : ℕ) → a ≤ largest → most (most a + c) ≡ most (a + c)
few_more a c few = ap (λ (n : ℕ). most (n + c)) (min-eq_left few)

many_more : (a c : ℕ) → largest < a → most (most a + c) ≡ most (a + c)
many_more a c many =
    let whole : largest ≤ a = omega arith in
    let more : largest ≤ largest + c = omega arith in
    let all : largest ≤ a + c = omega arith in
    ap (λ (n : ℕ). most (n + c)) (min-eq_right whole) ∙ min-eq_right more ∙ sym (min-eq_right all)

pub most_more : (a c : ℕ) → most (most a + c) ≡ most (a + c)
most_more a c = elim (cases_lt largest a) [ inl many ↦ many_more a c many | inr few ↦ few_more a c few ]

-- one thing is counted, or nothing is
abbrev pub Over : (old new count : ℕ) → Type 0
Over old new count = (new ≡ most (old + count)) ⊎ ((count ≡ 0) × (new ≡ old))

counts_more : (a old new count : ℕ) → old ≡ most a → Over old new count → new ≡ most (a + count)
counts_more a old new count start (inl more) = more ∙ ap (λ (n : ℕ). most (n + count)) start ∙ most_more a count
counts_more a old new count start (inr (none, same)) = same ∙ start ∙ ap most (omega (arith, none))

-- each thing that is heard is counted, up to the largest number
pub totals : {S : Type 0} (hears : Hears S) (count : TraceEvent → ℕ) (of : S → ℕ) (events : List At) (a : ℕ) (old new : S) → ((x y : S) (event : At) → hears x event y → Over (of x) (of y) (count event.trace_event))
    → of old ≡ most a → HearsAll hears old events new → of new ≡ most (a + sum_by (λ (event : At). count event.trace_event) events)
totals hears count of [] a old new step start same = ap of same ∙ start ∙ ap most (omega arith)
totals hears count of (event ∷ events) a old new step start some =
    let here = counts_more a (of old) (of some.0) (count event.trace_event) start (step old some.0 event some.1) in
    totals hears count of events (a + count event.trace_event) some.0 new step here some.2 ∙ ap most (omega (arith, sum_by-cons (λ (event : At). count event.trace_event) event events))

-- ---- lines

last_line_more : (lines : List ℕ) (line : ℕ) → last_line (lines ++ line ∷ []) ≡ line
last_line_more [] line = refl
last_line_more (first ∷ []) line = refl
last_line_more (first ∷ next ∷ lines) line = last_line_more (next ∷ lines) line

unread_append : (scope : Scope) (side : Direction) (a b : List At) → unread_lines scope side (a ++ b) ≡ unread_lines scope side a ++ unread_lines scope side b
unread_append scope side a b =
    let p = λ (event : At). is_unread scope side event.trace_event in
    ap (λ (events : List At). map (λ (event : At). event.line) events) (filter-append p a b) ∙ map-append (λ (event : At). event.line) (filter p a) (filter p b)

lines_kept : (unread : Unread) (scope : Scope) (side : Direction) (events : List At) (event : At) → unread_lines scope side (event ∷ []) ≡ [] → CountsLines unread (unread_lines scope side events) → CountsLines unread (unread_lines scope side (events ++ event ∷ []))
lines_kept unread scope side events event none counts =
    let same = unread_append scope side events (event ∷ []) ∙ ap (λ (ls : List ℕ). unread_lines scope side events ++ ls) none ∙ append-nil (unread_lines scope side events) in
    subst (λ (ls : List ℕ). CountsLines unread ls) (sym same) counts

lines_more : (unread : Unread) (scope : Scope) (side : Direction) (events : List At) (event : At) → unread_lines scope side (event ∷ []) ≡ event.line ∷ [] → CountsLines unread (unread_lines scope side events)
    → CountsLines (one_more unread event.line) (unread_lines scope side (events ++ event ∷ []))
lines_more unread scope side events event one counts =
    let before = unread_lines scope side events in
    let more = unread_append scope side events (event ∷ []) ∙ ap (λ (ls : List ℕ). before ++ ls) one in
    subst (λ (ls : List ℕ). CountsLines (one_more unread event.line) ls) (sym more) (record {
      count = ap (λ (n : ℕ). most (n + 1)) counts.count ∙ most_more (length before) 1 ∙ ap most (sym (length-append before (event.line ∷ [])));
      last = sym (last_line_more before event.line);
    })

-- a piece that is not read is counted for one side
pub till_more : (scope : Scope) (trailing : SkippedLines) (events : List At) (line : ℕ) (from : Direction) → counted_side scope from ≡ FromTill
    → CountsAfter scope trailing events → CountsAfter scope (record trailing { till = one_more trailing.till line }) (events ++ on line (trace_event.unread from) ∷ [])
till_more scope trailing events line from is counts =
    let event = on line (trace_event.unread from) in
    let till : unread_lines scope FromTill (event ∷ []) ≡ line ∷ [] = rw is refl in
    let terminal : unread_lines scope FromTerminal (event ∷ []) ≡ [] = rw is refl in record {
      till = lines_more trailing.till scope FromTill events event till counts.till;
      terminal = lines_kept trailing.terminal scope FromTerminal events event terminal counts.terminal;
    }

pub terminal_more : (scope : Scope) (trailing : SkippedLines) (events : List At) (line : ℕ) (from : Direction) → counted_side scope from ≡ FromTerminal
    → CountsAfter scope trailing events → CountsAfter scope (record trailing { terminal = one_more trailing.terminal line }) (events ++ on line (trace_event.unread from) ∷ [])
terminal_more scope trailing events line from is counts =
    let event = on line (trace_event.unread from) in
    let till : unread_lines scope FromTill (event ∷ []) ≡ [] = rw is refl in
    let terminal : unread_lines scope FromTerminal (event ∷ []) ≡ line ∷ [] = rw is refl in record {
      till = lines_kept trailing.till scope FromTill events event till counts.till;
      terminal = lines_more trailing.terminal scope FromTerminal events event terminal counts.terminal;
    }
