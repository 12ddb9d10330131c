-- The dialogue of a trace, as a page shows it.
use Rattle.std.specs.Prelude.{◌≡◌, ℕ, ◌==◌, ◌&&◌, nat_le, Bool, true, false, cond, List, [], ◌∷◌, ◌++◌, codes, length, take, map, option_map, Option, Some, None, Result, Ok, Err, refl}
use Rattle.std.specs.List.{cons_option, filter, list_any, slice_get}
use Rattle.std.specs.Str.Lines.{lines}
use Rattle.zvt_grammar.specs.Reading.{Reading}
use Rattle.zvt_page.specs.Html.{Html, nothing, both, element, end_tag, leaf, render, start_tag}
use Rattle.zvt_page.specs.declared.elements.Attribute.TheVariants.{Class}
use Rattle.zvt_page.specs.declared.elements.Element.TheVariants.{H2, Ol, P}
use Rattle.zvt_trace.specs.Emitting.{BrokenTrace, WholeTrace}
use Rattle.zvt_trace.specs.Listening.{Fails, Hears}
use Rattle.zvt_trace.specs.TraceEvent.{At, on}
use Rattle.zvt_trace.specs.TraceEvent as trace_event
use Rattle.zvt_trace.specs.declared.fault.Tally.{Tally}
use Rattle.zvt_trace.specs.declared.fault.TraceFault.{TraceFault}
use Rattle.zvt_trace.specs.declared.fault.TraceFault.TheVariants.{Memory, Read, TooLong, Trace, Write}
use Rattle.zvt_trace.specs.declared.listener.ListenerError.TheVariants as failure
use Rattle.zvt_trace.specs.declared.listener.Scope.{Scope}
use Rattle.zvt_report.specs.PageEvents.{event_item, has_line}
use Rattle.zvt_report.specs.declared.cases.Look.{Look}
use Rattle.zvt_report.specs.declared.dialogue.Dialogue.{Dialogue}
use Rattle.zvt_report.specs.declared.dialogue.Drawn.{Drawn}
use Rattle.zvt_report.specs.declared.form.ReportForm.{ReportForm}
use Rattle.zvt_report.specs.declared.form.ReportForm.TheVariants.{Text, Json, Page}
use Rattle.zvt_report.specs.declared.report.Report.{Report}
use Rattle.zvt_report.specs.declared.rows.OrderRow.{OrderRow}

-- ---- which events are shown

-- the maximum number of messages of a trace that is shown whole, and of events that a page shows
abbrev pub most : ℕ
most = 2000

-- the first and the last line of an order
abbrev pub order_lines : OrderRow → ℕ × ℕ
order_lines row = (row.first, row.last)

-- the first and the last line of each order that needs a look
abbrev pub look_lines : List OrderRow → List Look → List (ℕ × ℕ)
look_lines rows [] = []
look_lines rows (look ∷ looks) = cons_option (option_map order_lines (slice_get rows look.order)) (look_lines rows looks)

-- Only a trace of few messages is shown whole.
abbrev pub shown_lines : Tally → List OrderRow → List Look → Option (List (ℕ × ℕ))
shown_lines tally rows looks = cond (nat_le tally.messages most) None (Some (look_lines rows looks))

abbrev pub is_between : ℕ → ℕ × ℕ → Bool
is_between line range = nat_le range.0 line && nat_le line range.1

abbrev pub is_within : Option (List (ℕ × ℕ)) → ℕ → Bool
is_within None line = true
is_within (Some ranges) line = list_any (is_between line) ranges

-- the first of the events at these lines
abbrev pub listed : Option (List (ℕ × ℕ)) → List At → List At
listed ranges events = take most (filter (λ (event : At). is_within ranges event.line) events)

abbrev pub line_numbers : List At → List ℕ
line_numbers events = map (λ (event : At). event.line) events

-- ---- how they are shown

-- one item after another, after items of events at these lines
abbrev pub items_after : (before : List ℕ) → List At → Html
items_after before [] = nothing
items_after before (event ∷ events) = both (event_item (has_line before event.line) event) (items_after (before ++ event.line ∷ []) events)

abbrev pub part_words : Option (List (ℕ × ℕ)) → List ℕ
part_words None = codes "No more than 2000 events are shown here. `zvt show --safe --explain FILE` prints the whole dialogue."
part_words (Some ranges) =
    codes "The trace has more than 2000 messages. Only the orders that need a look are shown here, up to 2000 events. `zvt show --safe --explain FILE` prints the whole dialogue."

-- whether a part may be left out
abbrev pub has_note : Option (List (ℕ × ℕ)) → (shown : ℕ) → Bool
has_note None shown = nat_le most shown
has_note (Some ranges) shown = true

-- which part is left out
unfoldable pub part_note : Option (List (ℕ × ℕ)) → (shown : ℕ) → Html
part_note ranges shown = cond (has_note ranges shown) (leaf P (codes "meta") (part_words ranges)) nothing

unfoldable pub dialogue_section : Option (List (ℕ × ℕ)) → List At → Html
dialogue_section ranges events =
    both (leaf H2 [] (codes "Dialogue"))
    (both (part_note ranges (length (listed ranges events))) (element Ol ((Class, codes "dlg") ∷ []) (items_after [] (listed ranges events))))

-- the same with items that are spelled already, and their number
unfoldable pub section_with : Option (List (ℕ × ℕ)) → (shown : ℕ) → (items : List ℕ) → List ℕ
section_with ranges shown items =
    render (leaf H2 [] (codes "Dialogue")) ++ (render (part_note ranges shown) ++ (start_tag Ol ((Class, codes "dlg") ∷ []) ++ (items ++ end_tag Ol)))

-- ---- a listener

abbrev pub ranges_of : Dialogue → Option (List (ℕ × ℕ))
ranges_of dialogue = option_map (λ ranges. ranges.items) dialogue.ranges

-- the items of these events were written
pub record HasListed (events : List At) (dialogue : Dialogue) : Type 0 where
  pub lines : dialogue.lines.items ≡ line_numbers (listed (ranges_of dialogue) events)
  pub items : dialogue.items ≡ render (items_after [] (listed (ranges_of dialogue) events))

-- the item of one more event was written
pub record Adds (old : Dialogue) (event : At) (new : Dialogue) : Type 0 where
  pub ranges : new.ranges ≡ old.ranges
  pub lines : new.lines.items ≡ old.lines.items ++ event.line ∷ []
  pub items : new.items ≡ old.items ++ render (event_item (has_line old.lines.items event.line) event)

-- what a dialogue becomes by an event
pub record Lists (old : Dialogue) (event : At) (new : Dialogue) : Type 0 where
  pub ranges : new.ranges ≡ old.ranges
  pub lists : (events : List At) → HasListed events old → HasListed (events ++ event ∷ []) new

abbrev pub lists : Hears Dialogue
lists old event new = Lists old event new

abbrev pub wants_memory : Fails Dialogue
wants_memory old event why new = why ≡ failure.Memory

-- ---- the answer

-- nothing was drawn
abbrev pub IsUndrawn : Drawn → Type 0
IsUndrawn drawn = (drawn.text ≡ []) × (drawn.lines.items ≡ [])

-- the section of the dialogue of these events, and the lines of its items
abbrev pub Draws : Option (List (ℕ × ℕ)) → List At → Drawn → Type 0
Draws ranges events drawn = (drawn.text ≡ render (dialogue_section ranges events)) × (drawn.lines.items ≡ line_numbers (listed ranges events))

-- The dialogue of a trace, in the one form that has one.
abbrev pub IsDialogue : Reading → Scope → (trace : List ℕ) → ReportForm → Report → List Look → Drawn → Type 0
IsDialogue r scope trace Text report looks drawn = IsUndrawn drawn
IsDialogue r scope trace Json report looks drawn = IsUndrawn drawn
IsDialogue r scope trace Page report looks drawn = (events : List At) × WholeTrace r scope (lines trace) events × Draws (shown_lines report.tally report.books.orders looks) events drawn

abbrev pub AnswersDialogue : Reading → Scope → (trace : List ℕ) → ReportForm → Report → List Look → Result Drawn TraceFault → Type 0
AnswersDialogue r scope trace form report looks (Ok drawn) = IsDialogue r scope trace form report looks drawn
AnswersDialogue r scope trace form report looks (Err (Trace number what)) = (events : List At) × BrokenTrace r scope (lines trace) number what events
AnswersDialogue r scope trace form report looks (Err Memory) = Unit {0}
AnswersDialogue r scope trace form report looks (Err Write) = ⊥
AnswersDialogue r scope trace form report looks (Err TooLong) = ⊥
AnswersDialogue r scope trace form report looks (Err Read) = ⊥

-- ---- rows worked by hand

-- of two events at a line, the first one has its id
ids : items_after [] (on 3 trace_event.lost ∷ on 3 trace_event.lost ∷ [])
    ≡ both (event_item false (on 3 trace_event.lost)) (both (event_item true (on 3 trace_event.lost)) nothing)
ids = refl

some_lines : listed (Some ((2, 3) ∷ (5, 5) ∷ [])) (on 1 trace_event.lost ∷ on 2 trace_event.lost ∷ on 4 trace_event.lost ∷ on 5 trace_event.lost ∷ []) ≡ on 2 trace_event.lost ∷ on 5 trace_event.lost ∷ []
some_lines = refl
