-- What a dialogue has of the events that it heard.
use Rattle.std.proofs.Common.{inl, inr, ◌≡◌, ◌∙◌, ◌++◌, ◌<◌, ◌≤◌, ℕ, Bool, true, false, List, [], ◌∷◌, Option, Some, None, Result, Ok, Err, codes, refl, sym, ap, subst, arith, length, nat_le, take, map, option_map, append_assoc, append-nil, length-append, length-take}
use Rattle.std.proofs.lemmas.Bool.{leb-false, leb-true}
use Rattle.std.proofs.lemmas.List.{length-map, map-append, take-append-le, take_all}
use Rattle.std.proofs.lemmas.List.Elements.{filter-append}
use Rattle.std.specs.List.{filter}
use Rattle.std.specs.declared.alloc.Global.{Global}
use Rattle.std.specs.declared.vec.Vec.{Vec}
use Rattle.std.specs.Prelude.{OnOk}
use Rattle.std.specs.Str.Lines.{lines}
use Rattle.zvt_grammar.specs.Reading.{Reading}
use Rattle.zvt_trace.specs.Emitting.{EventsSoFar}
use Rattle.zvt_trace.specs.Listening.{AnswersWalk, HearsAll, Stops}
use Rattle.zvt_trace.specs.declared.fault.Tally.{Tally}
use Rattle.zvt_trace.specs.declared.fault.TraceFault.{TraceFault}
use Rattle.zvt_trace.specs.declared.fault.TraceFault.TheVariants.{Memory, Read, TooLong, Trace, Write}
use Rattle.zvt_trace.specs.declared.listener.ListenerError.TheVariants as failure
use Rattle.zvt_trace.specs.declared.listener.Scope.{Scope}
use Rattle.zvt_trace.specs.TraceEvent.{At, TraceEvent, on}
use Rattle.zvt_trace.specs.TraceEvent as trace_event
use Rattle.zvt_show.specs.Text.{EventText}
use Rattle.zvt_show.specs.Written.{AddsEvent}
use Rattle.zvt_page.specs.Html.{Html, both, element, end_tag, leaf, render, start_tag}
use Rattle.zvt_page.specs.declared.elements.Attribute.{Attribute}
use Rattle.zvt_page.specs.declared.elements.Attribute.TheVariants.{Class}
use Rattle.zvt_page.specs.declared.elements.Element.TheVariants.{H2, Ol}
use Rattle.zvt_report.specs.Dialogue.{Adds, AnswersDialogue, HasListed, Lists, dialogue_section, is_within, items_after, line_numbers, listed, lists, most, part_note, ranges_of, section_with, shown_lines, wants_memory}
use Rattle.zvt_report.specs.PageEvents.{event_item, event_text, has_line, safe_style}
use Rattle.zvt_report.specs.declared.cases.Look.{Look}
use Rattle.zvt_report.specs.declared.dialogue.Dialogue.{Dialogue}
use Rattle.zvt_report.specs.declared.dialogue.Drawn.{Drawn}
use Rattle.zvt_report.specs.declared.form.ReportForm.TheVariants.{Page}
use Rattle.zvt_report.specs.declared.report.Report.{Report}

-- an event has one text
pub one_text : (line : ℕ) (event : TraceEvent) (text : List ℕ) → EventText safe_style (on line event) text → text ≡ event_text event
one_text line (trace_event.message from m) text is = is
one_text line (trace_event.refused from before byte why) text is = is
one_text line (trace_event.unread from) text is = is
one_text line (trace_event.resumed from size) text is = is
one_text line (trace_event.cut_off from bytes) text is = is
one_text line trace_event.lost text is = is

-- the text of the event alone was written
pub text_alone : {E : Type 0} (r : Result (Unit {0}) E) (line : ℕ) (event : TraceEvent) (old new : List ℕ) → old ≡ [] → OnOk r (AddsEvent safe_style (on line event) old new) → OnOk r (new ≡ event_text event)
text_alone (Ok _) line event old new empty adds = adds.grown ∙ rw empty (one_text line event adds.one adds.says)
text_alone (Err e) line event old new empty adds = tt

-- ---- one more event

-- one more element that passes, or that does not
filter_in : (p : At → Bool) (event : At) → p event ≡ true → filter p (event ∷ []) ≡ event ∷ []
filter_in p event is = rw is refl

filter_out : (p : At → Bool) (event : At) → p event ≡ false → filter p (event ∷ []) ≡ []
filter_out p event is = rw is refl

-- the first elements are full
taken_full : (n : ℕ) (all more : List At) → n ≤ length (take n all) → take n (all ++ more) ≡ take n all
taken_full n all more full = take-append-le n all more (omega (arith, length-take n all, full))

-- there is room for one more
taken_more : (n : ℕ) (all : List At) (event : At) → length (take n all) < n → take n (all ++ event ∷ []) ≡ take n all ++ event ∷ []
taken_more n all event few =
    let short : length all < n = omega (arith, length-take n all, few) in
    let fits : length (all ++ event ∷ []) ≤ n = omega (arith, length-append all (event ∷ []), short) in
    take_all n (all ++ event ∷ []) fits ∙ ap (λ (l : List At). l ++ event ∷ []) (sym (take_all n all (omega (arith, short))))

abbrev passes : Option (List (ℕ × ℕ)) → At → Bool
passes ranges event = is_within ranges event.line

listed_out : (ranges : Option (List (ℕ × ℕ))) (events : List At) (event : At) → is_within ranges event.line ≡ false → listed ranges (events ++ event ∷ []) ≡ listed ranges events
listed_out ranges events event out =
    ap (take most) (filter-append (passes ranges) events (event ∷ []) ∙ ap (λ (l : List At). filter (passes ranges) events ++ l) (filter_out (passes ranges) event out) ∙ append-nil (filter (passes ranges) events))

listed_full : (ranges : Option (List (ℕ × ℕ))) (events : List At) (event : At) → most ≤ length (listed ranges events) → listed ranges (events ++ event ∷ []) ≡ listed ranges events
listed_full ranges events event full =
    ap (take most) (filter-append (passes ranges) events (event ∷ [])) ∙ taken_full most (filter (passes ranges) events) (filter (passes ranges) (event ∷ [])) full

listed_more : (ranges : Option (List (ℕ × ℕ))) (events : List At) (event : At) → length (listed ranges events) < most → is_within ranges event.line ≡ true
    → listed ranges (events ++ event ∷ []) ≡ listed ranges events ++ event ∷ []
listed_more ranges events event few within =
    ap (take most) (filter-append (passes ranges) events (event ∷ []) ∙ ap (λ (l : List At). filter (passes ranges) events ++ l) (filter_in (passes ranges) event within))
    ∙ taken_more most (filter (passes ranges) events) event few

-- the item of one more event
items_more : (before : List ℕ) (events : List At) (event : At)
    → render (items_after before (events ++ event ∷ [])) ≡ render (items_after before events) ++ render (event_item (has_line (before ++ line_numbers events) event.line) event)
items_more before [] event =
    append-nil (render (event_item (has_line before event.line) event)) ∙ ap (λ (l : List ℕ). render (event_item (has_line l event.line) event)) (sym (append-nil before))
items_more before (first ∷ events) event =
    let later = before ++ first.line ∷ [] in
    ap (λ (t : List ℕ). render (event_item (has_line before first.line) first) ++ t)
    (items_more later events event
    ∙ ap (λ (l : List ℕ). render (items_after later events) ++ render (event_item (has_line l event.line) event)) (append_assoc before (first.line ∷ []) (line_numbers events)))
    ∙ sym (append_assoc (render (event_item (has_line before first.line) first)) (render (items_after later events))
    (render (event_item (has_line (before ++ line_numbers (first ∷ events)) event.line) event)))

-- ---- a dialogue

-- there is an item for each line
listed_length : (events : List At) (old : Dialogue) → HasListed events old → length old.lines.items ≡ length (listed (ranges_of old) events)
listed_length events old has = ap length has.lines ∙ length-map (listed (ranges_of old) events) (λ (event : At). event.line)

same_listed : (events : List At) (event : At) (old : Dialogue) → HasListed events old → listed (ranges_of old) (events ++ event ∷ []) ≡ listed (ranges_of old) events → HasListed (events ++ event ∷ []) old
same_listed events event old has same = record {
  lines = has.lines ∙ ap line_numbers (sym same);
  items = has.items ∙ ap (λ (l : List At). render (items_after [] l)) (sym same);
}

pub lists_full : (old : Dialogue) (event : At) → nat_le most (length old.lines.items) ≡ true → Lists old event old
lists_full old event full = record {
  ranges = refl;
  lists = λ events has. same_listed events event old has
      (listed_full (ranges_of old) events event (subst (λ (n : ℕ). most ≤ n) (listed_length events old has) (leb-true most (length old.lines.items) full)));
}

pub lists_out : (old : Dialogue) (event : At) → is_within (ranges_of old) event.line ≡ false → Lists old event old
lists_out old event out = record {
  ranges = refl;
  lists = λ events has. same_listed events event old has (listed_out (ranges_of old) events event out);
}

one_listed : (events : List At) (event : At) (old new : Dialogue) → HasListed events old → Adds old event new → listed (ranges_of new) (events ++ event ∷ []) ≡ listed (ranges_of old) events ++ event ∷ []
    → HasListed (events ++ event ∷ []) new
one_listed events event old new has adds more =
    let shown = listed (ranges_of old) events in record {
      lines = adds.lines ∙ ap (λ (l : List ℕ). l ++ event.line ∷ []) has.lines ∙ sym (map-append (λ (e : At). e.line) shown (event ∷ [])) ∙ ap line_numbers (sym more);
      items = adds.items ∙ ap (λ (t : List ℕ). t ++ render (event_item (has_line old.lines.items event.line) event)) has.items
          ∙ ap (λ (l : List ℕ). render (items_after [] shown) ++ render (event_item (has_line l event.line) event)) has.lines
          ∙ sym (items_more [] shown event) ∙ ap (λ (l : List At). render (items_after [] l)) (sym more);
    }

lists_more : (old new : Dialogue) (event : At) → length old.lines.items < most → is_within (ranges_of old) event.line ≡ true → Adds old event new → Lists old event new
lists_more old new event few within adds = record {
  ranges = adds.ranges;
  lists = λ events has. one_listed events event old new has adds
      (ap (λ (r : Option (Vec (ℕ × ℕ) Global)). listed (option_map (λ v. v.items) r) (events ++ event ∷ [])) adds.ranges
      ∙ listed_more (ranges_of old) events event (subst (λ (n : ℕ). n < most) (listed_length events old has) few) within);
}

pub lists_one : {E : Type 0} (r : Result (Unit {0}) E) (old new : Dialogue) (event : At) → nat_le most (length old.lines.items) ≡ false → is_within (ranges_of old) event.line ≡ true
    → OnOk r (Adds old event new) → OnOk r (Lists old event new)
lists_one (Ok _) old new event few within adds = lists_more old new event (leb-false most (length old.lines.items) few) within adds
lists_one (Err e) old new event few within adds = tt

-- ---- all events

pub all_listed : (events more : List At) (old new : Dialogue) → HasListed events old → HearsAll lists old more new → HasListed (events ++ more) new × (new.ranges ≡ old.ranges)
all_listed events [] old new has same = rw same (rw (append-nil events) has, refl)
all_listed events (event ∷ more) old new has some =
    let rest = all_listed (events ++ event ∷ []) more some.0 new (some.1.lists events has) some.2 in
    (subst (λ (l : List At). HasListed l new) (append_assoc events (event ∷ []) more) rest.0, rest.1 ∙ some.1.ranges)

-- what is spelled of three parts
joined : (a b : Html) (attributes : List (Attribute × List ℕ)) (c : Html)
    → render (both a (both b (element Ol attributes c))) ≡ render a ++ (render b ++ (start_tag Ol attributes ++ (render c ++ end_tag Ol)))
joined a b attributes c = ap (λ (t : List ℕ). render a ++ (render b ++ t)) (append_assoc (start_tag Ol attributes) (render c) (end_tag Ol))

-- a section whose items are spelled
spelled : (ranges : Option (List (ℕ × ℕ))) (events : List At) → section_with ranges (length (listed ranges events)) (render (items_after [] (listed ranges events))) ≡ render (dialogue_section ranges events)
unfolding dialogue_section section_with
spelled ranges events =
    sym (joined (leaf H2 [] (codes "Dialogue")) (part_note ranges (length (listed ranges events))) ((Class, codes "dlg") ∷ []) (items_after [] (listed ranges events)))

-- the section of these events
pub section_is : (dialogue : Dialogue) (events : List At) (ranges : Option (List (ℕ × ℕ))) (text : List ℕ) → ranges_of dialogue ≡ ranges → HasListed events dialogue
    → text ≡ section_with (ranges_of dialogue) (length dialogue.lines.items) dialogue.items → text ≡ render (dialogue_section ranges events)
section_is dialogue events ranges text same has is =
    is ∙ ap (λ (n : ℕ). section_with (ranges_of dialogue) n dialogue.items) (listed_length events dialogue has)
    ∙ ap (λ (t : List ℕ). section_with (ranges_of dialogue) (length (listed (ranges_of dialogue) events)) t) has.items
    ∙ ap (λ (r : Option (List (ℕ × ℕ))). section_with r (length (listed r events)) (render (items_after [] (listed r events)))) same
    ∙ spelled ranges events

-- ---- the answer

pub walked_all : (r : Reading) (scope : Scope) (trace : List ℕ) (report : Report) (looks : List Look) (tally : Tally) (old new : Dialogue) (drawn : Drawn)
    → HasListed [] old → ranges_of old ≡ shown_lines report.tally report.books.orders looks → AnswersWalk r lists wants_memory scope (lines trace) old new (Ok tally)
    → drawn.text ≡ section_with (ranges_of new) (length new.lines.items) new.items → drawn.lines ≡ new.lines → AnswersDialogue r scope trace Page report looks (Ok drawn)
walked_all r scope trace report looks tally old new drawn starts same walked is kept =
    let all = all_listed [] walked.0 old new starts walked.2 in
    let ranges = shown_lines report.tally report.books.orders looks in
    let shown = ap (λ (v : Option (Vec (ℕ × ℕ) Global)). option_map (λ v. v.items) v) all.1 ∙ same in
    (walked.0, walked.1, (section_is new walked.0 ranges drawn.text shown all.0 is, ap (λ (v : Vec ℕ Global). v.items) kept ∙ all.0.lines ∙ ap (λ (r : Option (List (ℕ × ℕ))). line_numbers (listed r walked.0)) shown))

-- a dialogue writes nothing to a device, so no write fails
no_write : {r : Reading} {scope : Scope} (lines : List (List ℕ)) (old new : Dialogue) → AnswersWalk r lists wants_memory scope lines old new (Err Write) → ⊥
no_write {r = r} {scope = scope} lines old new failed = by failed.stops
  where
    differ : failure.Write ≡ failure.Memory → ⊥
    differ e = cc

    by : Stops {S = Dialogue} wants_memory failure.Write (EventsSoFar r scope lines) failed.events failed.middle new → ⊥
    by (inl (is, so_far, same)) = differ is
    by (inr (event, so_far, left)) = differ left

pub walk_stopped : (r : Reading) (scope : Scope) (trace : List ℕ) (report : Report) (looks : List Look) (fault : TraceFault) (old new : Dialogue)
    → AnswersWalk r lists wants_memory scope (lines trace) old new (Err fault) → AnswersDialogue r scope trace Page report looks (Err fault)
walk_stopped r scope trace report looks (Trace number what) old new walked = (walked.0, walked.1)
walk_stopped r scope trace report looks Memory old new walked = tt
walk_stopped r scope trace report looks Write old new walked = absurd (no_write (lines trace) old new walked)
walk_stopped r scope trace report looks TooLong old new never = absurd never
walk_stopped r scope trace report looks Read old new never = absurd never
