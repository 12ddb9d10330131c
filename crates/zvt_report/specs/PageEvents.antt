-- One event of a trace, as a page shows it.
use Rattle.std.specs.Prelude.{◌≡◌, ◌==◌, ℕ, Bool, true, length, false, cond, List, [], ◌∷◌, ◌++◌, codes, Option, Some, None, refl}
use Rattle.std.specs.List.{list_any}
use Rattle.std.specs.Fmt.{decimal, digits}
use Rattle.std.specs.Str.Lines.{lines}
use Rattle.zvt_text.specs.TextOptions.{safe_explained_text}
use Rattle.zvt_trace.specs.TraceEvent.{At, TraceEvent, on}
use Rattle.zvt_trace.specs.TraceEvent as trace_event
use Rattle.zvt_trace.specs.declared.direction.Direction.{Direction}
use Rattle.zvt_trace.specs.declared.direction.Direction.TheVariants.{FromTill, FromTerminal}
use Rattle.zvt_page.specs.Html.{Html, nothing, both, all, attributes_of, element, text, leaf, attribute_text, end_tag, escaped, render, start_tag}
use Rattle.zvt_page.specs.declared.elements.Attribute.{Attribute}
use Rattle.zvt_page.specs.declared.elements.Attribute.TheVariants.{Class, Href, Id}
use Rattle.zvt_page.specs.declared.elements.Element.TheVariants.{A, Div, Li, Span}
use Rattle.zvt_show.specs.Lines.{lost_text, refused_text, resumed_text, stopped_text, truncated_text}
use Rattle.zvt_show.specs.Text.{shown}
use Rattle.zvt_show.specs.declared.render.Style.{Style}
use Rattle.zvt_show.specs.declared.render.Style.TheVariants.{Show}

-- ---- the text

abbrev pub safe_style : Style
safe_style = Show safe_explained_text

-- the text of an event as `show --safe --explain` writes it
abbrev pub event_text : TraceEvent → List ℕ
event_text (trace_event.message from m) = shown safe_explained_text from m
event_text (trace_event.refused from before byte why) = refused_text safe_style from (length before) why
event_text (trace_event.unread from) = stopped_text safe_style from
event_text (trace_event.resumed from size) = resumed_text safe_style from size
event_text (trace_event.cut_off from bytes) = truncated_text safe_style from (length bytes)
event_text trace_event.lost = lost_text safe_style

-- an element for each line
abbrev pub line_parts : List (List ℕ) → Html
line_parts [] = nothing
line_parts (line ∷ lines) = both (leaf Div [] line) (line_parts lines)

unfoldable pub say_part : TraceEvent → Html
say_part event = element Div ((Class, codes "say") ∷ []) (line_parts (lines (event_text event)))

-- ---- the item

abbrev pub side_class : Direction → List ℕ
side_class FromTill = codes "till"
side_class FromTerminal = codes "terminal"

-- who says it; or that some bytes are no message; or that nobody says anything
abbrev pub event_class : TraceEvent → List ℕ
event_class (trace_event.message from m) = side_class from
event_class (trace_event.refused from before byte why) = codes "bad"
event_class (trace_event.unread from) = codes "bad"
event_class (trace_event.resumed from size) = codes "bad"
event_class (trace_event.cut_off from bytes) = codes "bad"
event_class trace_event.lost = codes "lost"

-- where a link to a line leads
unfoldable pub line_id : ℕ → List ℕ
line_id line = 108 ∷ decimal line

-- the first event of a line has the id of the line
abbrev pub id_of : (seen : Bool) → ℕ → Option (Attribute × List ℕ)
id_of true line = None
id_of false line = Some (Id, line_id line)

abbrev pub has_line : List ℕ → ℕ → Bool
has_line lines line = list_any (λ (other : ℕ). line == other) lines

-- a link to the item of a line
unfoldable pub line_link : (line : ℕ) → (words : List ℕ) → Html
line_link line words = element A ((Class, codes "at") ∷ (Href, 35 ∷ line_id line) ∷ []) (text words)

-- words about this line, with a link if the dialogue has an item of it
unfoldable pub lines_at : (shown : List ℕ) → (line : ℕ) → (words : List ℕ) → Html
lines_at shown line words = cond (has_line shown line) (line_link line words) (leaf Span (codes "at") words)

unfoldable pub number_part : ℕ → Html
number_part line = leaf Span (codes "ln") (decimal line)

unfoldable pub event_item : (seen : Bool) → At → Html
event_item seen event =
    element Li (attributes_of (event_class event.trace_event) (id_of seen event.line)) (both (number_part event.line) (say_part event.trace_event))

-- ---- rows worked by hand

a_loss : render (event_item false (on 12 trace_event.lost)) ≡ codes "<li class=\"lost\" id=\"l12\"><span class=\"ln\">12</span><div class=\"say\"><div>! line lost</div></div></li>"
unfolding attribute_text digits end_tag escaped event_item line_id number_part say_part start_tag
a_loss = refl

an_unread_piece : render (event_item true (on 13 (trace_event.unread FromTerminal))) ≡ codes "<li class=\"bad\"><span class=\"ln\">13</span><div class=\"say\"><div>&lt; stopped</div></div></li>"
unfolding attribute_text digits end_tag escaped event_item line_id number_part say_part start_tag
an_unread_piece = refl
