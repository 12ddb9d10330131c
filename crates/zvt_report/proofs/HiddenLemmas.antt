-- What no report shows changes nothing in it, and nothing in a dialogue.
use Rattle.std.proofs.Common.{◌≡◌, ℕ, ◌+◌, Bool, true, false, cond, List, [], ◌∷◌, ◌++◌, Option, Some, None, map, length, refl, sym, ◌∙◌, ap, ap₂, subst, suc}
use Rattle.std.specs.Prelude.{◌==◌, codes, if◌then◌else◌, replicate}
use Rattle.std.specs.Str.Lines.{lines}
use Rattle.std.proofs.lemmas.List.{length-replicate}
use Rattle.std.specs.List.{cons_option}
use Rattle.std.specs.Option.{option_and_then, option_or}
use Rattle.zvt_field.specs.Grammar.{Field, plain, tree}
use Rattle.zvt_apdu.specs.Message.{Message, ack, nack, registration, authorisation, reversal, end_of_day, abort_order, status, intermediate, print_line, text_block, completion, abort, other}
use Rattle.zvt_till.specs.declared.happenings.Happening.TheVariants.{Connected}
use Rattle.zvt_trace.specs.TraceEvent.{At, TraceEvent, on}
use Rattle.zvt_trace.specs.TraceEvent as trace_event
use Rattle.zvt_trace.specs.declared.direction.Direction.{Direction}
use Rattle.zvt_trace.specs.declared.direction.Direction.TheVariants.{FromTill, FromTerminal}
use Rattle.zvt_audit.specs.Currencies.{currencies_of, named_by, one_currency}
use Rattle.zvt_tlv.specs.Grammar.{Objects, none, primitive, constructed}
use Rattle.zvt_field.specs.Shapes.{format_of}
use Rattle.zvt_field.specs.declared.shapes.Format.{Format}
use Rattle.zvt_field.specs.declared.shapes.Format.TheVariants.{Amount, Bytes, Hidden, Result, Text}
use Rattle.zvt_text.specs.Laws.{SafeTextsAgree}
use Rattle.zvt_text.specs.Secrets.{blank, blanked, blanked_field, blanked_fields, blanked_in, blanked_objects, is_secret_tag}
use Rattle.zvt_text.specs.TextOptions.{safe_explained_text}
use Rattle.zvt_trace.specs.Lines.{direction_text}
use Rattle.zvt_page.specs.Html.{Html, attributes_of, both, element}
use Rattle.zvt_page.specs.declared.elements.Attribute.TheVariants.{Class}
use Rattle.zvt_page.specs.declared.elements.Element.TheVariants.{Div, Li}
use Rattle.zvt_report.specs.PageEvents.{event_item, line_parts, number_part, say_part, side_class}
use Rattle.zvt_report.specs.PageEvents.{id_of as event_id}
use Rattle.zvt_trace.specs.Moments.{times_of}
use Rattle.zvt_report.specs.Cards.{is_masked}
use Rattle.zvt_report.specs.Chapters.{Noted, noted}
use Rattle.zvt_report.specs.Day.{day_of}
use Rattle.zvt_report.specs.Hidden.{HiddenBytesAreNotShown, HiddenBytesMeanNothing, disclosed, disclosed_at, disclosed_bytes, disclosed_event, disclosed_field, disclosed_fields, disclosed_in, disclosed_number}
use Rattle.zvt_report.specs.Reported.{beginnings, reported}
use Rattle.zvt_report.specs.Said.{AreSaidBy, moves_money}
use Rattle.zvt_report.specs.Settling.{settled}
use Rattle.zvt_report.specs.Statements.{statements_of}
use Rattle.zvt_report.specs.TerminalIds.{first_terminal, id_in, id_of, terminal_by, terminal_in}
use Rattle.zvt_report.specs.Times.{timed_day}
use Rattle.zvt_report.specs.declared.statements.Statement.{Statement}
use Rattle.zvt_report.proofs.HiddenFields.{same_content, same_number}
use Rattle.zvt_report.proofs.HiddenMessages.{all_said_of, all_said_to, beginnings_same, currency_same, notes_same}
use Rattle.zvt_report.proofs.HiddenStatuses.{statements_same}

-- ---- the currency and the terminal

pub as_many : (bytes : List ℕ) → length (disclosed_bytes bytes) ≡ length bytes
as_many [] = refl
as_many (high ∷ []) = refl
as_many (high ∷ low ∷ rest) = ap (λ (n : ℕ). suc (suc n)) (length-replicate (length rest) 0)

pub named_same : (event : TraceEvent) → named_by (disclosed_event event) ≡ named_by event
named_same (trace_event.message FromTill m) = currency_same m
named_same (trace_event.message FromTerminal m) = refl
named_same (trace_event.refused from before byte why) = refl
named_same (trace_event.unread from) = refl
named_same (trace_event.resumed from size) = refl
named_same (trace_event.cut_off from bytes) = refl
named_same trace_event.lost = refl

currencies_same : (events : List At) → currencies_of (map disclosed_at events) ≡ currencies_of events
currencies_same [] = refl
currencies_same (event ∷ events) =
    ap (λ (n : Option ℕ). cons_option n (currencies_of (map disclosed_at events))) (named_same event.trace_event) ∙ ap (λ (l : List ℕ). cons_option (named_by event.trace_event) l) (currencies_same events)

id_same : (fields : List Field) → id_in (disclosed_fields fields) ≡ id_in fields
id_same fields = ap (λ (o : Option (List ℕ)). option_and_then id_of o) (same_content 0x29 (λ content. refl) fields)

terminal_same : (m : Message) → terminal_in (disclosed m) ≡ terminal_in m
terminal_same (ack payload) = refl
terminal_same (nack code payload) = refl
terminal_same (registration password config rest) = refl
terminal_same (authorisation fields) = refl
terminal_same (reversal password fields) = refl
terminal_same (end_of_day password fields) = refl
terminal_same (abort_order fields) = refl
terminal_same (status fields) = id_same fields
terminal_same (intermediate step payload) = refl
terminal_same (print_line attribute text) = refl
terminal_same (text_block fields) = refl
terminal_same (completion fields) = id_same fields
terminal_same (abort code payload) = refl
terminal_same (other high low payload) = refl

terminal_by_same : (event : TraceEvent) → terminal_by (disclosed_event event) ≡ terminal_by event
terminal_by_same (trace_event.message FromTill m) = refl
terminal_by_same (trace_event.message FromTerminal m) = terminal_same m
terminal_by_same (trace_event.refused from before byte why) = refl
terminal_by_same (trace_event.unread from) = refl
terminal_by_same (trace_event.resumed from size) = refl
terminal_by_same (trace_event.cut_off from bytes) = refl
terminal_by_same trace_event.lost = refl

first_terminal_same : (events : List At) → first_terminal (map disclosed_at events) ≡ first_terminal events
first_terminal_same [] = refl
first_terminal_same (event ∷ events) = ap₂ (λ (a b : Option (List ℕ)). option_or a b) (terminal_by_same event.trace_event) (first_terminal_same events)

-- ---- the report

-- what is the same for what is disclosed is the same for both
both_ways : {A : Type 0} (f : List At → A) → ((events : List At) → f (map disclosed_at events) ≡ f events) → (events others : List At) → map disclosed_at events ≡ map disclosed_at others → f events ≡ f others
both_ways f same events others alike = sym (same events) ∙ ap f alike ∙ same others

pub hidden_bytes_mean_nothing : HiddenBytesMeanNothing
hidden_bytes_mean_nothing zone trace events others report alike is =
    let said = both_ways statements_of statements_same events others alike in
    let notes = both_ways reported (λ these. notes_same (noted 0 Connected ∷ []) these) events others alike in record {
      currency = is.currency ∙ ap one_currency (both_ways currencies_of currencies_same events others alike);
      terminal = is.terminal ∙ both_ways first_terminal first_terminal_same events others alike;
      books = is.books ∙ ap₂ (λ (s : List Statement) (n : List Noted). timed_day zone (times_of trace) (settled s (day_of n))) said notes;
      times = is.times;
      statements = is.statements ∙ said;
      closings = is.closings;
      messages = all_said_of (beginnings others) report.messages.items
          (subst (λ (messages : List Message). AreSaidBy messages report.messages.items) (sym (beginnings_same events) ∙ ap beginnings alike ∙ beginnings_same others)
          (all_said_to (beginnings events) report.messages.items is.messages));
    }

-- ---- the dialogue

blank_twice : (content : List ℕ) → blank (blank content) ≡ blank content
blank_twice content = ap (λ (size : ℕ). replicate size 0) (length-replicate (length content) 0)

number_blanked : (content : List ℕ) → blank (disclosed_number content) ≡ blank content
number_blanked content = by_test (is_masked content)
  where
    by_test : (masked : Bool) → blank (cond masked content (blank content)) ≡ blank content
    by_test true = refl
    by_test false = blank_twice content

format_blanked : (format : Format) (content : List ℕ) → blanked_in format (blanked_in format content) ≡ blanked_in format content
format_blanked Hidden content = blank_twice content
format_blanked Amount content = refl
format_blanked Result content = refl
format_blanked Text content = refl
format_blanked Bytes content = refl

field_blanked : (f : Field) → blanked_field (disclosed_field f) ≡ blanked_field f
field_blanked (plain bmp content) = by_test (bmp == 0x22) refl
  where
    by_test : (number : Bool) → (bmp == 0x22) ≡ number → plain bmp (blanked_in (format_of bmp) (disclosed_in bmp content)) ≡ plain bmp (blanked_in (format_of bmp) content)
    by_test true is =
        ap (λ (b : Bool). plain bmp (blanked_in (format_of bmp) (cond b (disclosed_number content) (blanked_in (format_of bmp) content)))) is
        ∙ subst (λ (b : ℕ). plain b (blanked_in (format_of b) (disclosed_number content)) ≡ plain b (blanked_in (format_of b) content)) (sym (same_number bmp 0x22 is)) (ap (plain 0x22) (number_blanked content))
    by_test false is =
        ap (λ (b : Bool). plain bmp (blanked_in (format_of bmp) (cond b (disclosed_number content) (blanked_in (format_of bmp) content)))) is ∙ ap (plain bmp) (format_blanked (format_of bmp) content)
field_blanked (tree bmp objects) = ap (tree bmp) (objects_blanked objects)
  where
    secret_blanked : (secret : Bool) (content : List ℕ) → (if secret then blank (if secret then blank content else content) else (if secret then blank content else content)) ≡ (if secret then blank content else content)
    secret_blanked true content = blank_twice content
    secret_blanked false content = refl

    objects_blanked : (objects : Objects) → blanked_objects (blanked_objects objects) ≡ blanked_objects objects
    objects_blanked none = refl
    objects_blanked (primitive tag content rest) = ap₂ (λ (c : List ℕ) (o : Objects). primitive tag c o) (secret_blanked (is_secret_tag tag) content) (objects_blanked rest)
    objects_blanked (constructed tag inner rest) = ap₂ (λ (i o : Objects). constructed tag i o) (objects_blanked inner) (objects_blanked rest)

fields_blanked : (fields : List Field) → blanked_fields (disclosed_fields fields) ≡ blanked_fields fields
fields_blanked [] = refl
fields_blanked (f ∷ fields) = ap₂ (λ (one : Field) (more : List Field). one ∷ more) (field_blanked f) (fields_blanked fields)

payload_blanked : (moves : Bool) (payload : List ℕ) → blank (cond moves payload (blank payload)) ≡ blank payload
payload_blanked true payload = refl
payload_blanked false payload = blank_twice payload

message_blanked : (m : Message) → blanked (disclosed m) ≡ blanked m
message_blanked (ack payload) = refl
message_blanked (nack code payload) = refl
message_blanked (registration password config None) = ap (λ (p : List ℕ). registration p config None) (blank_twice password)
message_blanked (registration password config (Some rest)) = ap₂ (λ (p : List ℕ) (f : List Field). registration p config (Some (rest.0, f))) (blank_twice password) (fields_blanked rest.1)
message_blanked (authorisation fields) = ap authorisation (fields_blanked fields)
message_blanked (reversal password fields) = ap₂ reversal (blank_twice password) (fields_blanked fields)
message_blanked (end_of_day password fields) = ap₂ end_of_day (blank_twice password) (fields_blanked fields)
message_blanked (abort_order fields) = ap abort_order (fields_blanked fields)
message_blanked (status fields) = ap status (fields_blanked fields)
message_blanked (intermediate step payload) = refl
message_blanked (print_line attribute text) = refl
message_blanked (text_block fields) = ap text_block (fields_blanked fields)
message_blanked (completion fields) = ap completion (fields_blanked fields)
message_blanked (abort code payload) = refl
message_blanked (other high low payload) = ap (other high low) (payload_blanked (moves_money high low) payload)

item_same : SafeTextsAgree → (seen : Bool) (event : At) → event_item seen (disclosed_at event) ≡ event_item seen event
unfolding event_item say_part
item_same agree seen event = by_event event.trace_event
  where
    by_event : (e : TraceEvent) → event_item seen (on event.line (disclosed_event e)) ≡ event_item seen (on event.line e)
    by_event (trace_event.message from m) = ap (item_with from) (agree safe_explained_text refl (disclosed m) m (message_blanked m))
      where
        item_with : Direction → List ℕ → Html
        item_with from text = element Li (attributes_of (side_class from) (event_id seen event.line)) (both (number_part event.line) (element Div ((Class, codes "say") ∷ []) (line_parts (lines (direction_text from ++ 32 ∷ text)))))
    by_event (trace_event.refused from before byte why) = rw (as_many before) refl
    by_event (trace_event.unread from) = refl
    by_event (trace_event.resumed from size) = refl
    by_event (trace_event.cut_off from bytes) = rw (as_many bytes) refl
    by_event trace_event.lost = refl

pub hidden_bytes_are_not_shown : SafeTextsAgree → HiddenBytesAreNotShown
hidden_bytes_are_not_shown agree seen event another alike = sym (item_same agree seen event) ∙ ap (event_item seen) alike ∙ item_same agree seen another
