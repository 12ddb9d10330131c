-- What a listener becomes by an event, and the slips after all events.
use Rattle.std.proofs.Common.{◌≡◌, ℕ, Bool, true, false, List, [], ◌∷◌, ◌++◌, Option, Some, None, Result, Ok, Err, length, option_map, refl, sym, ◌∙◌, ap, ap₂, append_assoc, append-nil, inl, inr}
use Rattle.std.proofs.lemmas.Bool.{cases_Bool}
use Rattle.std.specs.List.{flat_map}
use Rattle.std.specs.Prelude.{OnOk}
use Rattle.std.specs.Str.Lines.{lines}
use Rattle.std.specs.declared.alloc.Global.{Global}
use Rattle.std.specs.declared.vec.Vec.{Vec}
use Rattle.zvt_grammar.specs.Reading.{Reading}
use Rattle.zvt_trace.specs.Emitting.{EventsSoFar}
use Rattle.zvt_trace.specs.Listening.{AnswersWalk, HearsAll, Stops}
use Rattle.zvt_trace.specs.TraceEvent.{At}
use Rattle.zvt_trace.specs.declared.fault.Tally.{Tally}
use Rattle.zvt_trace.specs.declared.fault.TraceFault.{TraceFault}
use Rattle.zvt_trace.specs.declared.fault.TraceFault.TheVariants.{Memory, Read, TooLong, Trace, Write}
use Rattle.zvt_trace.specs.declared.listener.ListenerError.TheVariants as failure
use Rattle.zvt_trace.specs.declared.listener.Scope.{Scope}
use Rattle.zvt_audit.specs.ByControl.{seen}
use Rattle.zvt_audit.specs.declared.by_control.ByControl.{ByControl}
use Rattle.zvt_audit.proofs.ControlLemmas.{all_seen}
use Rattle.zvt_page.specs.Html.{render, start_tag}
use Rattle.zvt_report.specs.Dialogue.{is_within, shown_lines}
use Rattle.zvt_report.specs.PageSlips.{shown_slips, slip_html, slips_html, slips_section}
use Rattle.zvt_report.specs.SlipObjects.{slip_line}
use Rattle.zvt_report.specs.SlipWalk.{AnswersWalked, Closes, Prints, closed, first_by, headed, kept, opened, prints, prints_by, ranges_of, slip_text, slip_texts, slips_part, told, wants_memory_by}
use Rattle.zvt_report.specs.Slips.{Slip, fields_by, order_after, printed_by, role_by, run_end, run_slip, run_texts, slips, slips_from, slips_in}
use Rattle.zvt_report.specs.Statements.{begins}
use Rattle.zvt_report.specs.declared.cases.Look.{Look}
use Rattle.zvt_report.specs.declared.form.ReportForm.{ReportForm}
use Rattle.zvt_report.specs.declared.form.ReportForm.TheVariants.{Text, Json, Page}
use Rattle.zvt_report.specs.declared.report.Report.{Report}
use Rattle.zvt_report.specs.declared.slip_kinds.Role.TheVariants.{Line, Block, Acknowledgement, Other}
use Rattle.zvt_report.specs.declared.slips.Slips.{Slips}

-- ---- slips, one after another

texts_append : (form : ReportForm) (ranges : Option (List (ℕ × ℕ))) (some more : List Slip) → slip_texts form ranges (some ++ more) ≡ slip_texts form ranges some ++ slip_texts form ranges more
texts_append form ranges [] more = refl
texts_append form ranges (slip ∷ some) more =
    ap (λ (t : List ℕ). slip_text form ranges slip ++ t) (texts_append form ranges some more)
    ∙ sym (append_assoc (slip_text form ranges slip) (slip_texts form ranges some) (slip_texts form ranges more))

-- ---- what comes after an event, by what it is

-- the slip that goes on ends before an event that is neither a print line nor an acknowledgement
ends_open : (order : ℕ) (going : Option (ℕ × ℕ)) (texts : List (List ℕ)) (event : At) (later : List At) (rest : List Slip)
    → run_texts (event ∷ later) ≡ [] → ((line : ℕ) → run_end line (event ∷ later) ≡ line) → ((running : Bool) → slips_from order running (event ∷ later) ≡ rest)
    → closed order going texts ++ rest ≡ opened order going texts (event ∷ later)
ends_open order None texts event later rest none last after = sym (after false)
ends_open order (Some place) texts event later rest none last after =
    ap₂ (λ (l : List (List ℕ)) (n : ℕ). run_of l n ∷ rest) (sym (append-nil texts) ∙ ap (λ (l : List (List ℕ)). texts ++ l) (sym none)) (sym (last place.1))
    ∙ ap (λ (l : List Slip). run_slip order place.0 place.1 texts (event ∷ later) ∷ l) (sym (after true))
  where
    run_of : List (List ℕ) → ℕ → Slip
    run_of l n = record (run_slip order place.0 n [] []) { last = n; texts = l }

-- a block
block_ends : (order : ℕ) (going : Option (ℕ × ℕ)) (texts : List (List ℕ)) (event : At) (later : List At) → role_by event.trace_event ≡ Block
    → closed order going texts ++ (slips_in order event.line (fields_by event.trace_event) ++ slips_from order false later) ≡ opened order going texts (event ∷ later)
block_ends order going texts event later is =
    ends_open order going texts event later (slips_in order event.line (fields_by event.trace_event) ++ slips_from order false later) (rw is refl) (λ line. rw is refl) (λ running. rw is refl)

-- any other event
other_ends : (order : ℕ) (going : Option (ℕ × ℕ)) (texts : List (List ℕ)) (event : At) (later : List At) → role_by event.trace_event ≡ Other
    → closed order going texts ++ slips_from (order_after (begins event.trace_event) order) false later ≡ opened order going texts (event ∷ later)
other_ends order going texts event later is =
    ends_open order going texts event later (slips_from (order_after (begins event.trace_event) order) false later) (rw is refl) (λ line. rw is refl) (λ running. rw is refl)

-- an acknowledgement
acknowledged : (order : ℕ) (going : Option (ℕ × ℕ)) (texts : List (List ℕ)) (event : At) (later : List At) → role_by event.trace_event ≡ Acknowledgement
    → opened order going texts later ≡ opened order going texts (event ∷ later)
acknowledged order None texts event later is = rw is refl
acknowledged order (Some place) texts event later is = rw is refl

-- a print line
line_printed : (order : ℕ) (going : Option (ℕ × ℕ)) (texts : List (List ℕ)) (event : At) (later : List At) → role_by event.trace_event ≡ Line
    → opened order (Some (first_by going event.line, event.line)) (kept going texts ++ printed_by event.trace_event ∷ []) later ≡ opened order going texts (event ∷ later)
line_printed order None texts event later is = rw is refl
line_printed order (Some place) texts event later is =
    ap (λ (l : List (List ℕ)). record (run_slip order place.0 event.line [] later) { texts = l } ∷ slips_from order true later)
    (append_assoc texts (printed_by event.trace_event ∷ []) (run_texts later)) ∙ rw is refl

-- ---- a listener

-- what is told after an event, if its slips were written and these come later
told_after : (old new : Slips) (later : List At) (written rest whole : List Slip) → new.form ≡ old.form → new.ranges ≡ old.ranges → new.text ≡ old.text ++ slip_texts old.form (ranges_of old) written
    → opened (length new.begun.items) new.going new.texts.items later ≡ rest → written ++ rest ≡ whole → told new later ≡ old.text ++ slip_texts old.form (ranges_of old) whole
told_after old new later written rest whole form ranges text opens same =
    ap (λ (l : List Slip). new.text ++ slip_texts new.form (ranges_of new) l) opens
    ∙ ap₂ (λ (f : ReportForm) (v : Option (Vec (ℕ × ℕ) Global)). new.text ++ slip_texts f (option_map (λ v. v.items) v) rest) form ranges
    ∙ ap (λ (t : List ℕ). t ++ slip_texts old.form (ranges_of old) rest) text
    ∙ append_assoc old.text (slip_texts old.form (ranges_of old) written) (slip_texts old.form (ranges_of old) rest)
    ∙ ap (λ (t : List ℕ). old.text ++ t) (sym (texts_append old.form (ranges_of old) written rest) ∙ ap (slip_texts old.form (ranges_of old)) same)

-- no slip goes on
none_goes_on : (old new : Slips) (written : List Slip) (later : List At) → Closes old written new
    → opened (length new.begun.items) new.going new.texts.items later ≡ slips_from (length old.begun.items) false later
none_goes_on old new written later closes = ap₂ (λ (b : List ℕ) (g : Option (ℕ × ℕ)). opened (length b) g new.texts.items later) closes.begun closes.going

pub acknowledged_prints : (old : Slips) (event : At) → role_by event.trace_event ≡ Acknowledgement → Prints old event old
acknowledged_prints old event is = record {
  form = refl;
  ranges = refl;
  text = λ later. ap (λ (l : List Slip). old.text ++ slip_texts old.form (ranges_of old) l) (acknowledged (length old.begun.items) old.going old.texts.items event later is);
}

-- an event that begins no order
pub other_prints : (old new : Slips) (event : At) → role_by event.trace_event ≡ Other → begins event.trace_event ≡ false → Closes old [] new → Prints old event new
other_prints old new event is none closes = record {
  form = closes.form;
  ranges = closes.ranges;
  text = λ later.
      let order = length old.begun.items in
      let closing = closed order old.going old.texts.items in
      told_after old new later (closing ++ []) (slips_from order false later) (opened order old.going old.texts.items (event ∷ later)) closes.form closes.ranges closes.text (none_goes_on old new [] later closes)
      (ap (λ (l : List Slip). l ++ slips_from order false later) (append-nil closing) ∙ ap (λ (b : Bool). closing ++ slips_from (order_after b order) false later) (sym none)
      ∙ other_ends order old.going old.texts.items event later is);
}

-- a message of the till, which begins an order or not
pub till_prints : (old middle new : Slips) (event : At) → role_by event.trace_event ≡ Other → Closes old [] middle → new.form ≡ middle.form → new.ranges ≡ middle.ranges → new.going ≡ middle.going → new.text ≡ middle.text
    → length new.begun.items ≡ order_after (begins event.trace_event) (length middle.begun.items) → Prints old event new
till_prints old middle new event is closes form ranges going text begun = record {
  form = form ∙ closes.form;
  ranges = ranges ∙ closes.ranges;
  text = λ later.
      let order = length old.begun.items in
      let closing = closed order old.going old.texts.items in
      let next = order_after (begins event.trace_event) order in
      let counted : length new.begun.items ≡ next = begun ∙ ap (λ (l : List ℕ). order_after (begins event.trace_event) (length l)) closes.begun in
      told_after old new later (closing ++ []) (slips_from next false later) (opened order old.going old.texts.items (event ∷ later)) (form ∙ closes.form) (ranges ∙ closes.ranges) (text ∙ closes.text)
      (ap₂ (λ (n : ℕ) (g : Option (ℕ × ℕ)). opened n g new.texts.items later) counted (going ∙ closes.going))
      (ap (λ (l : List Slip). l ++ slips_from next false later) (append-nil closing) ∙ other_ends order old.going old.texts.items event later is);
}

-- a text block
pub block_prints : (old new : Slips) (event : At) → role_by event.trace_event ≡ Block → Closes old (slips_in (length old.begun.items) event.line (fields_by event.trace_event)) new → Prints old event new
block_prints old new event is closes = record {
  form = closes.form;
  ranges = closes.ranges;
  text = λ later.
      let order = length old.begun.items in
      let closing = closed order old.going old.texts.items in
      let block = slips_in order event.line (fields_by event.trace_event) in
      told_after old new later (closing ++ block) (slips_from order false later) (opened order old.going old.texts.items (event ∷ later)) closes.form closes.ranges closes.text (none_goes_on old new block later closes)
      (append_assoc closing block (slips_from order false later) ∙ block_ends order old.going old.texts.items event later is);
}

-- a print line
pub line_prints : (old new : Slips) (event : At) → role_by event.trace_event ≡ Line → new.form ≡ old.form → new.ranges ≡ old.ranges → new.begun.items ≡ old.begun.items → new.text ≡ old.text
    → new.going ≡ Some (first_by old.going event.line, event.line) → new.texts.items ≡ kept old.going old.texts.items ++ printed_by event.trace_event ∷ [] → Prints old event new
line_prints old new event is form ranges begun text going texts = record {
  form = form;
  ranges = ranges;
  text = λ later.
      let order = length old.begun.items in
      ap (λ (l : List Slip). new.text ++ slip_texts new.form (ranges_of new) l)
      (ap₂ (λ (b : List ℕ) (g : Option (ℕ × ℕ)). opened (length b) g new.texts.items later) begun going
      ∙ ap (λ (l : List (List ℕ)). opened order (Some (first_by old.going event.line, event.line)) l later) texts
      ∙ line_printed order old.going old.texts.items event later is)
      ∙ ap₂ (λ (f : ReportForm) (v : Option (Vec (ℕ × ℕ) Global)). new.text ++ slip_texts f (option_map (λ v. v.items) v) (opened order old.going old.texts.items (event ∷ later))) form ranges
      ∙ ap (λ (t : List ℕ). t ++ slip_texts old.form (ranges_of old) (opened order old.going old.texts.items (event ∷ later))) text;
}

pub line_ok : {E : Type 0} (r : Result (Unit {0}) E) (old new : Slips) (event : At) → role_by event.trace_event ≡ Line → OnOk r (new.form ≡ old.form) → OnOk r (new.ranges ≡ old.ranges)
    → OnOk r (new.begun.items ≡ old.begun.items) → OnOk r (new.text ≡ old.text) → OnOk r (new.going ≡ Some (first_by old.going event.line, event.line))
    → OnOk r (new.texts.items ≡ kept old.going old.texts.items ++ printed_by event.trace_event ∷ []) → OnOk r (Prints old event new)
line_ok (Ok _) old new event is form ranges begun text going texts = line_prints old new event is form ranges begun text going texts
line_ok (Err e) old new event is form ranges begun text going texts = tt

pub till_ok : {E : Type 0} (r : Result (Unit {0}) E) (old middle new : Slips) (event : At) → role_by event.trace_event ≡ Other → Closes old [] middle → OnOk r (new.form ≡ middle.form)
    → OnOk r (new.ranges ≡ middle.ranges) → OnOk r (new.going ≡ middle.going) → OnOk r (new.text ≡ middle.text)
    → OnOk r (length new.begun.items ≡ order_after (begins event.trace_event) (length middle.begun.items)) → OnOk r (Prints old event new)
till_ok (Ok _) old middle new event is closes form ranges going text begun = till_prints old middle new event is closes form ranges going text begun
till_ok (Err e) old middle new event is closes form ranges going text begun = tt

closed_none : (order : ℕ) (going : Option (ℕ × ℕ)) (texts : List (List ℕ)) → going ≡ None → closed order going texts ≡ []
closed_none order None texts is = refl
closed_none order (Some place) texts is = cc

-- a slip is written after the one that went on
pub closes_more : (old middle new : Slips) (more : List Slip) → Closes old [] middle → new.form ≡ middle.form → new.ranges ≡ middle.ranges → new.begun.items ≡ middle.begun.items → new.going ≡ middle.going
    → new.text ≡ middle.text ++ slip_texts middle.form (ranges_of middle) more → Closes old more new
closes_more old middle new more closes form ranges begun going text =
    let closing = closed (length old.begun.items) old.going old.texts.items in
    record {
      form = form ∙ closes.form;
      ranges = ranges ∙ closes.ranges;
      begun = begun ∙ closes.begun;
      going = going ∙ closes.going;
      text = text
          ∙ ap₂ (λ (f : ReportForm) (v : Option (Vec (ℕ × ℕ) Global)). middle.text ++ slip_texts f (option_map (λ v. v.items) v) more) closes.form closes.ranges
          ∙ ap (λ (t : List ℕ). t ++ slip_texts old.form (ranges_of old) more) (closes.text ∙ ap (λ (l : List Slip). old.text ++ slip_texts old.form (ranges_of old) l) (append-nil closing))
          ∙ append_assoc old.text (slip_texts old.form (ranges_of old) closing) (slip_texts old.form (ranges_of old) more)
          ∙ ap (λ (t : List ℕ). old.text ++ t) (sym (texts_append old.form (ranges_of old) closing more));
    }

-- ---- all events

pub all_told : (events : List At) (old new : Slips) → HearsAll prints old events new → (told new [] ≡ told old events) × (new.form ≡ old.form) × (new.ranges ≡ old.ranges)
all_told [] old new same = (ap (λ (s : Slips). told s []) same, ap (λ (s : Slips). s.form) same, ap (λ (s : Slips). s.ranges) same)
all_told (event ∷ events) old new some =
    let rest = all_told events some.0 new some.2 in
    (rest.0 ∙ some.1.text events, rest.1 ∙ some.1.form, rest.2 ∙ some.1.ranges)

closed_all : (order : ℕ) (going : Option (ℕ × ℕ)) (texts : List (List ℕ)) → closed order going texts ++ [] ≡ opened order going texts []
closed_all order None texts = refl
closed_all order (Some place) texts = ap (λ (l : List (List ℕ)). record (run_slip order place.0 place.1 [] []) { texts = l } ∷ []) (sym (append-nil texts))

-- all is written if no slip goes on
closed_told : (last done : Slips) → Closes last [] done → done.text ≡ told last []
closed_told last done closes = closes.text ∙ ap (λ (l : List Slip). last.text ++ slip_texts last.form (ranges_of last) l) (closed_all (length last.begun.items) last.going last.texts.items)

-- the text of a listener that starts without slips
started : (first : Slips) (events : List At) → first.text ≡ [] → first.begun.items ≡ [] → first.going ≡ None → told first events ≡ slip_texts first.form (ranges_of first) (slips events)
started first events empty none rests =
    ap (λ (t : List ℕ). t ++ slip_texts first.form (ranges_of first) (opened (length first.begun.items) first.going first.texts.items events)) empty
    ∙ ap₂ (λ (b : List ℕ) (g : Option (ℕ × ℕ)). slip_texts first.form (ranges_of first) (opened (length b) g first.texts.items events)) none rests

-- ---- the parts of a report

text_has_none : (ranges : Option (List (ℕ × ℕ))) (slips : List Slip) → slip_texts Text ranges slips ≡ []
text_has_none ranges [] = refl
text_has_none ranges (slip ∷ slips) = text_has_none ranges slips

json_lines : (ranges : Option (List (ℕ × ℕ))) (slips : List Slip) → slip_texts Json ranges slips ≡ flat_map slip_line slips
json_lines ranges [] = refl
json_lines ranges (slip ∷ slips) = ap (λ (t : List ℕ). slip_line slip ++ t) (json_lines ranges slips)

page_slips : (ranges : Option (List (ℕ × ℕ))) (slips : List Slip) → slip_texts Page ranges slips ≡ render (slips_html (shown_slips ranges slips))
page_slips ranges [] = refl
page_slips ranges (slip ∷ slips) = elim (cases_Bool (is_within ranges slip.first)) [
  | inl shown ↦ rw shown (ap (λ (t : List ℕ). render (slip_html slip) ++ t) (page_slips ranges slips))
  | inr hidden ↦ rw hidden (page_slips ranges slips)
]

page_headed : (slips : List Slip) → headed Page (render (slips_html slips)) ≡ render (slips_section slips)
unfolding slip_html slips_section start_tag
page_headed [] = refl
page_headed (slip ∷ slips) = refl

pub parts_headed : (form : ReportForm) (ranges : Option (List (ℕ × ℕ))) (slips : List Slip) → headed form (slip_texts form ranges slips) ≡ slips_part form ranges slips
parts_headed Text ranges slips = text_has_none ranges slips
parts_headed Json ranges slips = json_lines ranges slips
parts_headed Page ranges slips = ap (headed Page) (page_slips ranges slips) ∙ page_headed (shown_slips ranges slips)

-- ---- the answer

pub slips_written : (r : Reading) (scope : Scope) (trace : List ℕ) (form : ReportForm) (report : Report) (looks : List Look) (tally : Tally) (first last : ByControl Slips) (done : Slips) (texts text : List ℕ)
    → first.scope ≡ scope → first.listener.form ≡ form → ranges_of first.listener ≡ shown_lines report.tally report.books.orders looks
    → first.listener.text ≡ [] → first.listener.begun.items ≡ [] → first.listener.going ≡ None
    → AnswersWalk r prints_by wants_memory_by scope (lines trace) first last (Ok tally) → Closes last.listener [] done → texts ≡ done.text → text ≡ headed form texts
    → AnswersWalked r scope trace form report looks (Ok text)
slips_written r scope trace form report looks tally first last done texts text in_scope formed ranged empty none rests walked closes same is =
    let events = seen scope walked.0 in
    let heard = all_seen prints scope walked.0 first last in_scope walked.2 in
    let all = all_told events first.listener last.listener heard.0 in
    let whole : texts ≡ slip_texts first.listener.form (ranges_of first.listener) (slips events) =
    same ∙ closed_told last.listener done closes ∙ all.0 ∙ started first.listener events empty none rests in (
      walked.0,
      walked.1,
      is ∙ ap (headed form) (whole ∙ ap₂ (λ (f : ReportForm) (v : Option (List (ℕ × ℕ))). slip_texts f v (slips events)) formed ranged)
          ∙ parts_headed form (shown_lines report.tally report.books.orders looks) (slips events),
    )

-- a listener writes nothing to a device, so no write fails
no_write : {r : Reading} {scope : Scope} (lines : List (List ℕ)) (old new : ByControl Slips) → AnswersWalk r prints_by wants_memory_by scope lines old new (Err Write) → ⊥
no_write {r = r} {scope = scope} lines old new failed = by failed.stops
  where
    differ : failure.Write ≡ failure.Memory → ⊥
    differ e = cc

    by : Stops {S = ByControl Slips} wants_memory_by failure.Write (EventsSoFar r scope lines) failed.events failed.middle new → ⊥
    by (inl (is, so_far, same)) = differ is
    by (inr (event, so_far, left)) = differ left

pub walk_stopped : (r : Reading) (scope : Scope) (trace : List ℕ) (form : ReportForm) (report : Report) (looks : List Look) (fault : TraceFault) (old new : ByControl Slips)
    → AnswersWalk r prints_by wants_memory_by scope (lines trace) old new (Err fault) → AnswersWalked r scope trace form report looks (Err fault)
walk_stopped r scope trace form report looks (Trace number what) old new walked = (walked.0, walked.1)
walk_stopped r scope trace form report looks Memory old new walked = tt
walk_stopped r scope trace form report looks Write old new walked = absurd (no_write (lines trace) old new walked)
walk_stopped r scope trace form report looks TooLong old new never = absurd never
walk_stopped r scope trace form report looks Read old new never = absurd never
