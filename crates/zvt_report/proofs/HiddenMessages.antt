-- What no report shows changes nothing that a till hears, orders or says.
use Rattle.std.proofs.Common.{◌≡◌, ℕ, ◌+◌, Bool, true, false, cond, List, [], ◌∷◌, ◌++◌, Option, Some, None, fold, map, refl, sym, ◌∙◌, ap, ap₂}
use Rattle.std.specs.Prelude.{◌==◌, not, option_map}
use Rattle.std.specs.List.{cons_option}
use Rattle.std.specs.Option.{option_and_then}
use Rattle.zvt_bcd.specs.Digits.{number_of as digits_value}
use Rattle.zvt_field.specs.Grammar.{Field}
use Rattle.zvt_field.specs.Named.{amount_of, content_of, count_of, first, positive}
use Rattle.zvt_apdu.specs.Message.{Message, ack, nack, registration, authorisation, reversal, end_of_day, abort_order, status, intermediate, print_line, text_block, completion, abort, other}
use Rattle.zvt_apdu.specs.Views.{currency_in}
use Rattle.zvt_till.specs.Hearing.{facts_in_fields, heard_as}
use Rattle.zvt_till.specs.Segments.{begun}
use Rattle.zvt_till.specs.declared.entries.Entry.{Entry}
use Rattle.zvt_till.specs.declared.happenings.Happening.{Happening}
use Rattle.zvt_till.specs.declared.happenings.Happening.TheVariants.{Sent as SentOut, Heard as HeardIn}
use Rattle.zvt_till.specs.declared.happenings.Sent.{Sent}
use Rattle.zvt_till.specs.declared.messages.CurrencyFact.TheVariants.{Absent as NoCurrency, Once as OneCurrency, Many as ManyCurrencies}
use Rattle.zvt_till.specs.declared.messages.Heard.{Heard}
use Rattle.zvt_till.specs.declared.messages.Heard.TheVariants.{Status}
use Rattle.zvt_till.specs.declared.messages.Original.TheVariants.{Absent, Once, Many}
use Rattle.zvt_till.specs.declared.messages.StatusFacts.{StatusFacts}
use Rattle.zvt_trace.specs.TraceEvent.{At, TraceEvent}
use Rattle.zvt_trace.specs.TraceEvent as trace_event
use Rattle.zvt_trace.specs.declared.direction.Direction.{Direction}
use Rattle.zvt_trace.specs.declared.direction.Direction.TheVariants.{FromTill, FromTerminal}
use Rattle.zvt_audit.specs.Happened.{ordered, paid}
use Rattle.zvt_text.specs.Secrets.{blank}
use Rattle.zvt_report.specs.Chapters.{Noted, noted}
use Rattle.zvt_report.specs.Day.{day_of}
use Rattle.zvt_report.specs.Hidden.{disclosed, disclosed_at, disclosed_event, disclosed_fields}
use Rattle.zvt_report.specs.Reported.{beginning, beginning_in, beginnings, happened_with, happenings_with, message_if, order_in, sent_by, with_event}
use Rattle.zvt_report.specs.Said.{AreListedIf, AreSaidBy, IsSaidBy, listed_in, moves_money, said_with}
use Rattle.zvt_report.specs.declared.ordering.TillOrder.{TillOrder}
use Rattle.zvt_report.specs.declared.ordering.TillOrder.TheVariants.{Reversal, Plain}
use Rattle.zvt_report.specs.declared.rows.OrderMessage.{OrderMessage}
use Rattle.zvt_report.proofs.HiddenFields.{same_content, same_count}

-- ---- what a till hears

abbrev facts_by : (result amount trace receipt original currency : Option (List ℕ)) → (results originals currencies : ℕ) → StatusFacts
facts_by result amount trace receipt original currency results originals currencies =
    record {
      result = option_and_then first result;
      has_result = elim (option_and_then first result) [ None ↦ not (results == 0) | Some code ↦ true ];
      amount = option_and_then (λ digits. positive (digits_value digits)) amount;
      trace = option_map digits_value trace;
      receipt = receipt;
      original = elim original [ None ↦ cond (originals == 0) Absent Many | Some bytes ↦ Once bytes ];
      currency = elim (option_map digits_value currency) [ None ↦ cond (currencies == 0) NoCurrency ManyCurrencies | Some code ↦ OneCurrency code ];
    }

same_facts : (fields : List Field) → facts_in_fields (disclosed_fields fields) ≡ facts_in_fields fields
same_facts fields =
    let of : ℕ → Option (List ℕ) = λ bmp. content_of bmp fields in
    let new : ℕ → Option (List ℕ) = λ bmp. content_of bmp (disclosed_fields fields) in
    let many : ℕ → ℕ = λ bmp. count_of bmp fields in
    let more : ℕ → ℕ = λ bmp. count_of bmp (disclosed_fields fields) in
    ap₂ (λ (a b : Option (List ℕ)). facts_by a b (new 0x0B) (new 0x87) (new 0x37) (new 0x49) (more 0x27) (more 0x37) (more 0x49)) (same_content 0x27 (λ content. refl) fields) (same_content 0x04 (λ content. refl) fields)
    ∙ ap₂ (λ (a b : Option (List ℕ)). facts_by (of 0x27) (of 0x04) a b (new 0x37) (new 0x49) (more 0x27) (more 0x37) (more 0x49)) (same_content 0x0B (λ content. refl) fields) (same_content 0x87 (λ content. refl) fields)
    ∙ ap₂ (λ (a b : Option (List ℕ)). facts_by (of 0x27) (of 0x04) (of 0x0B) (of 0x87) a b (more 0x27) (more 0x37) (more 0x49)) (same_content 0x37 (λ content. refl) fields) (same_content 0x49 (λ content. refl) fields)
    ∙ ap₂ (λ (a b : ℕ). facts_by (of 0x27) (of 0x04) (of 0x0B) (of 0x87) (of 0x37) (of 0x49) a b (more 0x49)) (same_count 0x27 fields) (same_count 0x37 fields)
    ∙ ap (λ (a : ℕ). facts_by (of 0x27) (of 0x04) (of 0x0B) (of 0x87) (of 0x37) (of 0x49) (many 0x27) (many 0x37) a) (same_count 0x49 fields)

pub heard_same : (m : Message) → heard_as (disclosed m) ≡ heard_as m
heard_same (ack payload) = refl
heard_same (nack code payload) = refl
heard_same (registration password config rest) = refl
heard_same (authorisation fields) = refl
heard_same (reversal password fields) = refl
heard_same (end_of_day password fields) = refl
heard_same (abort_order fields) = refl
heard_same (status fields) = ap Status (same_facts fields)
heard_same (intermediate step payload) = refl
heard_same (print_line attribute text) = refl
heard_same (text_block fields) = refl
heard_same (completion fields) = refl
heard_same (abort code payload) = refl
heard_same (other high low payload) = refl

-- ---- what a till orders

same_amount : (fields : List Field) → amount_of (disclosed_fields fields) ≡ amount_of fields
same_amount fields = ap (λ (o : Option (List ℕ)). option_and_then (λ digits. positive (digits_value digits)) o) (same_content 0x04 (λ content. refl) fields)

pub currency_same : (m : Message) → currency_in (disclosed m) ≡ currency_in m
currency_same (ack payload) = refl
currency_same (nack code payload) = refl
currency_same (registration password config None) = refl
currency_same (registration password config (Some rest)) = refl
currency_same (authorisation fields) = refl
currency_same (reversal password fields) = refl
currency_same (end_of_day password fields) = refl
currency_same (abort_order fields) = refl
currency_same (status fields) = refl
currency_same (intermediate step payload) = refl
currency_same (print_line attribute text) = refl
currency_same (text_block fields) = refl
currency_same (completion fields) = refl
currency_same (abort code payload) = refl
currency_same (other high low payload) = refl

ordered_same : (m : Message) → ordered (disclosed m) ≡ ordered m
ordered_same (ack payload) = refl
ordered_same (nack code payload) = refl
ordered_same (registration password config None) = refl
ordered_same (registration password config (Some rest)) = refl
ordered_same (authorisation fields) = ap (λ (a : Option ℕ). Some (paid a)) (same_amount fields)
ordered_same (reversal password fields) = refl
ordered_same (end_of_day password fields) = refl
ordered_same (abort_order fields) = refl
ordered_same (status fields) = refl
ordered_same (intermediate step payload) = refl
ordered_same (print_line attribute text) = refl
ordered_same (text_block fields) = refl
ordered_same (completion fields) = refl
ordered_same (abort code payload) = refl
ordered_same (other high low payload) = refl

order_same : (m : Message) → order_in (disclosed m) ≡ order_in m
order_same (ack payload) = refl
order_same (nack code payload) = refl
order_same (registration password config None) = refl
order_same (registration password config (Some rest)) = refl
order_same (authorisation fields) = ap (option_map Plain) (ordered_same (authorisation fields))
order_same (reversal password fields) = ap (λ (r : Option (List ℕ)). Some (Reversal r)) (same_content 0x87 (λ content. refl) fields)
order_same (end_of_day password fields) = refl
order_same (abort_order fields) = refl
order_same (status fields) = refl
order_same (intermediate step payload) = refl
order_same (print_line attribute text) = refl
order_same (text_block fields) = refl
order_same (completion fields) = refl
order_same (abort code payload) = refl
order_same (other high low payload) = refl

-- ---- the notes of a trace

happened_same : (book : List Entry) (from : Direction) (m : Message) → happened_with book from (disclosed m) ≡ happened_with book from m
happened_same book FromTill m = ap (λ (o : Option TillOrder). option_map (λ order. SentOut (sent_by book order)) o) (order_same m)
happened_same book FromTerminal m = ap (λ (h : Heard). Some (HeardIn h)) (heard_same m)

happenings_same : (book : List Entry) (event : TraceEvent) → happenings_with book (disclosed_event event) ≡ happenings_with book event
happenings_same book (trace_event.message from m) = ap (λ (h : Option Happening). cons_option h []) (happened_same book from m)
happenings_same book (trace_event.refused from before byte why) = refl
happenings_same book (trace_event.unread from) = refl
happenings_same book (trace_event.resumed from size) = refl
happenings_same book (trace_event.cut_off from bytes) = refl
happenings_same book trace_event.lost = refl

pub notes_same : (notes : List Noted) (events : List At) → fold with_event notes (map disclosed_at events) ≡ fold with_event notes events
notes_same notes [] = refl
notes_same notes (event ∷ events) =
    ap (λ (happened : List Happening). fold with_event (notes ++ map (noted event.line) happened) (map disclosed_at events)) (happenings_same (day_of notes).book event.trace_event)
    ∙ notes_same (with_event notes event) events

-- ---- the messages of the orders

pub beginning_same : (m : Message) → beginning (disclosed m) ≡ beginning m
beginning_same m = ap (λ (o : Option Sent). option_and_then (λ order. begun (SentOut order)) o) (ordered_same m)

if_same : (m : Message) (o : Option Sent) → message_if (disclosed m) o ≡ map disclosed (message_if m o)
if_same m None = refl
if_same m (Some order) = refl

begun_same : (event : TraceEvent) → beginning_in (disclosed_event event) ≡ map disclosed (beginning_in event)
begun_same (trace_event.message FromTill m) = ap (message_if (disclosed m)) (beginning_same m) ∙ if_same m (beginning m)
begun_same (trace_event.message FromTerminal m) = refl
begun_same (trace_event.refused from before byte why) = refl
begun_same (trace_event.unread from) = refl
begun_same (trace_event.resumed from size) = refl
begun_same (trace_event.cut_off from bytes) = refl
begun_same trace_event.lost = refl

pub map_append : {A B : Type 0} (f : A → B) (xs ys : List A) → map f (xs ++ ys) ≡ map f xs ++ map f ys
map_append f [] ys = refl
map_append f (x ∷ xs) ys = ap (λ l. f x ∷ l) (map_append f xs ys)

pub beginnings_same : (events : List At) → beginnings (map disclosed_at events) ≡ map disclosed (beginnings events)
beginnings_same [] = refl
beginnings_same (event ∷ events) =
    ap₂ (λ (xs ys : List Message). xs ++ ys) (begun_same event.trace_event) (beginnings_same events) ∙ sym (map_append disclosed (beginning_in event.trace_event) (beginnings events))

said_same : (control : List ℕ) (fields : List Field) → said_with control (Some (disclosed_fields fields)) ≡ said_with control (Some fields)
said_same control fields =
    ap₂ (λ (amount : Option ℕ) (receipt : Option (List ℕ)). record { high = (said_with control None).high; low = (said_with control None).low; amount = amount; receipt = receipt })
    (same_amount fields) (same_content 0x87 (λ content. refl) fields)

module _ (said : OrderMessage) where
  -- a message with fields
  to_fields : (control : List ℕ) (before : Option (List Field)) (fields : List Field) → before ≡ Some fields → said ≡ said_with control before → said ≡ said_with control (Some (disclosed_fields fields))
  to_fields control before fields has is = is ∙ ap (said_with control) has ∙ sym (said_same control fields)

  of_fields : (control : List ℕ) (before : Option (List Field)) (fields : List Field) → before ≡ Some (disclosed_fields fields) → said ≡ said_with control before → said ≡ said_with control (Some fields)
  of_fields control before fields has is = is ∙ ap (said_with control) has ∙ said_same control fields

  -- data that is no fields
  to_payload : (moves : Bool) (low : ℕ) (payload : List ℕ) (fields : Option (List Field)) → AreListedIf moves (listed_in low payload) fields → AreListedIf moves (listed_in low (cond moves payload (blank payload))) fields
  to_payload true low payload fields has = has
  to_payload false low payload fields has = has

  of_payload : (moves : Bool) (low : ℕ) (payload : List ℕ) (fields : Option (List Field)) → AreListedIf moves (listed_in low (cond moves payload (blank payload))) fields → AreListedIf moves (listed_in low payload) fields
  of_payload true low payload fields has = has
  of_payload false low payload fields has = has

  said_to : (m : Message) → IsSaidBy m said → IsSaidBy (disclosed m) said
  said_to (ack payload) is = record { fields = is.fields; has = is.has; is = is.is }
  said_to (nack code payload) is = record { fields = is.fields; has = is.has; is = is.is }
  said_to (registration password config None) is = record { fields = is.fields; has = is.has; is = is.is }
  said_to (registration password config (Some rest)) is = record { fields = Some (disclosed_fields rest.1); has = refl; is = to_fields (0x06 ∷ 0x00 ∷ []) is.fields rest.1 is.has is.is }
  said_to (authorisation fields) is = record { fields = Some (disclosed_fields fields); has = refl; is = to_fields (0x06 ∷ 0x01 ∷ []) is.fields fields is.has is.is }
  said_to (reversal password fields) is = record { fields = Some (disclosed_fields fields); has = refl; is = to_fields (0x06 ∷ 0x30 ∷ []) is.fields fields is.has is.is }
  said_to (end_of_day password fields) is = record { fields = Some (disclosed_fields fields); has = refl; is = to_fields (0x06 ∷ 0x50 ∷ []) is.fields fields is.has is.is }
  said_to (abort_order fields) is = record { fields = Some (disclosed_fields fields); has = refl; is = to_fields (0x06 ∷ 0xB0 ∷ []) is.fields fields is.has is.is }
  said_to (status fields) is = record { fields = Some (disclosed_fields fields); has = refl; is = to_fields (0x04 ∷ 0x0F ∷ []) is.fields fields is.has is.is }
  said_to (intermediate step payload) is = record { fields = is.fields; has = is.has; is = is.is }
  said_to (print_line attribute text) is = record { fields = is.fields; has = is.has; is = is.is }
  said_to (text_block fields) is = record { fields = Some (disclosed_fields fields); has = refl; is = to_fields (0x06 ∷ 0xD3 ∷ []) is.fields fields is.has is.is }
  said_to (completion fields) is = record { fields = Some (disclosed_fields fields); has = refl; is = to_fields (0x06 ∷ 0x0F ∷ []) is.fields fields is.has is.is }
  said_to (abort code payload) is = record { fields = is.fields; has = is.has; is = is.is }
  said_to (other high low payload) is = record { fields = is.fields; has = to_payload (moves_money high low) low payload is.fields is.has; is = is.is }

  said_of : (m : Message) → IsSaidBy (disclosed m) said → IsSaidBy m said
  said_of (ack payload) is = record { fields = is.fields; has = is.has; is = is.is }
  said_of (nack code payload) is = record { fields = is.fields; has = is.has; is = is.is }
  said_of (registration password config None) is = record { fields = is.fields; has = is.has; is = is.is }
  said_of (registration password config (Some rest)) is = record { fields = Some rest.1; has = refl; is = of_fields (0x06 ∷ 0x00 ∷ []) is.fields rest.1 is.has is.is }
  said_of (authorisation fields) is = record { fields = Some fields; has = refl; is = of_fields (0x06 ∷ 0x01 ∷ []) is.fields fields is.has is.is }
  said_of (reversal password fields) is = record { fields = Some fields; has = refl; is = of_fields (0x06 ∷ 0x30 ∷ []) is.fields fields is.has is.is }
  said_of (end_of_day password fields) is = record { fields = Some fields; has = refl; is = of_fields (0x06 ∷ 0x50 ∷ []) is.fields fields is.has is.is }
  said_of (abort_order fields) is = record { fields = Some fields; has = refl; is = of_fields (0x06 ∷ 0xB0 ∷ []) is.fields fields is.has is.is }
  said_of (status fields) is = record { fields = Some fields; has = refl; is = of_fields (0x04 ∷ 0x0F ∷ []) is.fields fields is.has is.is }
  said_of (intermediate step payload) is = record { fields = is.fields; has = is.has; is = is.is }
  said_of (print_line attribute text) is = record { fields = is.fields; has = is.has; is = is.is }
  said_of (text_block fields) is = record { fields = Some fields; has = refl; is = of_fields (0x06 ∷ 0xD3 ∷ []) is.fields fields is.has is.is }
  said_of (completion fields) is = record { fields = Some fields; has = refl; is = of_fields (0x06 ∷ 0x0F ∷ []) is.fields fields is.has is.is }
  said_of (abort code payload) is = record { fields = is.fields; has = is.has; is = is.is }
  said_of (other high low payload) is = record { fields = is.fields; has = of_payload (moves_money high low) low payload is.fields is.has; is = is.is }

pub all_said_to : (messages : List Message) (said : List OrderMessage) → AreSaidBy messages said → AreSaidBy (map disclosed messages) said
all_said_to [] [] are = tt
all_said_to [] (one ∷ said) never = absurd never
all_said_to (m ∷ messages) [] never = absurd never
all_said_to (m ∷ messages) (one ∷ said) are = (said_to one m are.0, all_said_to messages said are.1)

pub all_said_of : (messages : List Message) (said : List OrderMessage) → AreSaidBy (map disclosed messages) said → AreSaidBy messages said
all_said_of [] [] are = tt
all_said_of [] (one ∷ said) never = absurd never
all_said_of (m ∷ messages) [] never = absurd never
all_said_of (m ∷ messages) (one ∷ said) are = (said_of one m are.0, all_said_of messages said are.1)
