-- What no report shows changes nothing that the statuses of an order say.
use Rattle.std.proofs.Common.{◌≡◌, ℕ, ◌+◌, Bool, true, false, cond, ◌&&◌, ◌||◌, List, [], ◌∷◌, ◌++◌, Option, Some, None, map, length, refl, sym, ◌∙◌, ap, ap₂}
use Rattle.std.specs.Prelude.{◌==◌, is_some, nat_le, not, option_map, replicate, suc, zero}
use Rattle.std.specs.List.{cons_option, list_any}
use Rattle.std.specs.Option.{option_and_then, option_or}
use Rattle.zvt_bcd.specs.Digits.{number_of as digits_value}
use Rattle.zvt_field.specs.Grammar.{Field}
use Rattle.zvt_field.specs.Named.{content_of, first, result_of}
use Rattle.zvt_apdu.specs.Message.{Message, ack, nack, registration, authorisation, reversal, end_of_day, abort_order, status, intermediate, print_line, text_block, completion, abort, other}
use Rattle.zvt_till.specs.Segments.{ends, is_positive}
use Rattle.zvt_till.specs.declared.happenings.Happening.TheVariants.{Heard as HeardIn}
use Rattle.zvt_till.specs.declared.happenings.Sent.{Sent}
use Rattle.zvt_till.specs.declared.messages.Heard.{Heard}
use Rattle.zvt_trace.specs.TraceEvent.{At, TraceEvent}
use Rattle.zvt_trace.specs.TraceEvent as trace_event
use Rattle.zvt_trace.specs.declared.direction.Direction.TheVariants.{FromTill, FromTerminal}
use Rattle.zvt_text.specs.Secrets.{blank}
use Rattle.zvt_report.specs.CardTotals.{total_in, totals_in}
use Rattle.zvt_report.specs.declared.card_totals.CardTotals.{CardTotals}
use Rattle.zvt_report.specs.Cards.{digits_in, is_filled, is_masked, known_card, name_of, number_of, padded, type_of}
use Rattle.zvt_report.specs.Hidden.{disclosed, disclosed_at, disclosed_event, disclosed_fields, disclosed_number}
use Rattle.zvt_report.specs.Statements.{accepts, answered, begins, card_by, card_if, declines_by, ends_by, first_card, first_undoing, heard_statuses, latest, stated_by, statements_of, stating, statuses_in, total_by, totals_of, undoing_by}
use Rattle.zvt_report.specs.declared.cards.Card.{Card}
use Rattle.zvt_report.specs.declared.statements.Statement.{Statement}
use Rattle.zvt_report.specs.declared.statements.Undoing.{Undoing}
use Rattle.zvt_report.proofs.HiddenFields.{same_content, same_view}
use Rattle.zvt_report.proofs.HiddenMessages.{beginning_same, heard_same, map_append}

-- ---- the statuses of the orders

begins_same : (event : TraceEvent) → begins (disclosed_event event) ≡ begins event
begins_same (trace_event.message FromTill m) = ap (λ (o : Option Sent). is_some o) (beginning_same m)
begins_same (trace_event.message FromTerminal m) = refl
begins_same (trace_event.refused from before byte why) = refl
begins_same (trace_event.unread from) = refl
begins_same (trace_event.resumed from size) = refl
begins_same (trace_event.cut_off from bytes) = refl
begins_same trace_event.lost = refl

ends_same : (accepted : Bool) (event : TraceEvent) → ends_by accepted (disclosed_event event) ≡ ends_by accepted event
ends_same accepted (trace_event.message FromTill m) = refl
ends_same accepted (trace_event.message FromTerminal m) = ap (λ (h : Heard). ends accepted (HeardIn h)) (heard_same m)
ends_same accepted (trace_event.refused from before byte why) = refl
ends_same accepted (trace_event.unread from) = refl
ends_same accepted (trace_event.resumed from size) = refl
ends_same accepted (trace_event.cut_off from bytes) = refl
ends_same accepted trace_event.lost = refl

accepts_same : (event : TraceEvent) → accepts (disclosed_event event) ≡ accepts event
accepts_same (trace_event.message FromTill m) = refl
accepts_same (trace_event.message FromTerminal m) = ap (λ (h : Heard). is_positive (HeardIn h)) (heard_same m)
accepts_same (trace_event.refused from before byte why) = refl
accepts_same (trace_event.unread from) = refl
accepts_same (trace_event.resumed from size) = refl
accepts_same (trace_event.cut_off from bytes) = refl
accepts_same trace_event.lost = refl

stating_same : (m : Message) → stating (disclosed m) ≡ option_map disclosed_fields (stating m)
stating_same (ack payload) = refl
stating_same (nack code payload) = refl
stating_same (registration password config rest) = refl
stating_same (authorisation fields) = refl
stating_same (reversal password fields) = refl
stating_same (end_of_day password fields) = refl
stating_same (abort_order fields) = refl
stating_same (status fields) = refl
stating_same (intermediate step payload) = refl
stating_same (print_line attribute text) = refl
stating_same (text_block fields) = refl
stating_same (completion fields) = refl
stating_same (abort code payload) = refl
stating_same (other high low payload) = by_kind
  where
    by_kind : stating (disclosed (other high low payload)) ≡ option_map disclosed_fields (stating (other high low payload))
    by_kind = refl

one_status : (o : Option (List Field)) → cons_option (option_map disclosed_fields o) [] ≡ map disclosed_fields (cons_option o [])
one_status None = refl
one_status (Some fields) = refl

statuses_same : (event : TraceEvent) → statuses_in (disclosed_event event) ≡ map disclosed_fields (statuses_in event)
statuses_same (trace_event.message FromTill m) = refl
statuses_same (trace_event.message FromTerminal m) = ap (λ (o : Option (List Field)). cons_option o []) (stating_same m) ∙ one_status (stating m)
statuses_same (trace_event.refused from before byte why) = refl
statuses_same (trace_event.unread from) = refl
statuses_same (trace_event.resumed from size) = refl
statuses_same (trace_event.cut_off from bytes) = refl
statuses_same trace_event.lost = refl

-- the statuses up to the end of an order
abbrev up_to : (begins ends : Bool) → (xs ys : List (List Field)) → List (List Field)
up_to begins ends xs ys = cond begins [] (cond ends [] (xs ++ ys))

up_to_same : (begins ends : Bool) (xs ys : List (List Field)) → up_to begins ends (map disclosed_fields xs) (map disclosed_fields ys) ≡ map disclosed_fields (up_to begins ends xs ys)
up_to_same true ends xs ys = refl
up_to_same false true xs ys = refl
up_to_same false false xs ys = sym (map_append disclosed_fields xs ys)

heard_all_same : (accepted : Bool) (events : List At) → heard_statuses accepted (map disclosed_at events) ≡ map disclosed_fields (heard_statuses accepted events)
heard_all_same accepted [] = refl
heard_all_same accepted (event ∷ later) =
    let rest : heard_statuses (accepted || accepts (disclosed_event event.trace_event)) (map disclosed_at later) ≡ map disclosed_fields (heard_statuses (accepted || accepts event.trace_event) later) =
    ap (λ (a : Bool). heard_statuses (accepted || a) (map disclosed_at later)) (accepts_same event.trace_event) ∙ heard_all_same (accepted || accepts event.trace_event) later in
    ap₂ (λ (b e : Bool). up_to b e (statuses_in (disclosed_event event.trace_event)) (heard_statuses (accepted || accepts (disclosed_event event.trace_event)) (map disclosed_at later))) (begins_same event.trace_event) (ends_same accepted event.trace_event)
    ∙ ap₂ (λ (xs ys : List (List Field)). up_to (begins event.trace_event) (ends_by accepted event.trace_event) xs ys) (statuses_same event.trace_event) rest
    ∙ up_to_same (begins event.trace_event) (ends_by accepted event.trace_event) (statuses_in event.trace_event) (heard_statuses (accepted || accepts event.trace_event) later)

-- the statuses of one order more
abbrev and_these : (begins : Bool) → List (List Field) → List (List (List Field)) → List (List (List Field))
and_these begins heard more = cond begins (heard ∷ more) more

and_same : (begins : Bool) (heard : List (List Field)) (more : List (List (List Field))) → and_these begins (map disclosed_fields heard) (map (map disclosed_fields) more) ≡ map (map disclosed_fields) (and_these begins heard more)
and_same true heard more = refl
and_same false heard more = refl

answered_same : (events : List At) → answered (map disclosed_at events) ≡ map (map disclosed_fields) (answered events)
answered_same [] = refl
answered_same (event ∷ later) =
    ap (λ (b : Bool). and_these b (heard_statuses false (map disclosed_at later)) (answered (map disclosed_at later))) (begins_same event.trace_event)
    ∙ ap₂ (λ (heard : List (List Field)) (more : List (List (List Field))). and_these (begins event.trace_event) heard more) (heard_all_same false later) (answered_same later)
    ∙ and_same (begins event.trace_event) (heard_statuses false later) (answered later)

-- ---- what the statuses say

result_same : (fields : List Field) → result_of (disclosed_fields fields) ≡ result_of fields
result_same fields = ap (λ (o : Option (List ℕ)). option_and_then first o) (same_content 0x27 (λ content. refl) fields)

declines_same : (fields : List Field) → declines_by (disclosed_fields fields) ≡ declines_by fields
declines_same fields = ap (λ (o : Option ℕ). elim o [ None ↦ false | Some code ↦ not (code == 0) ]) (result_same fields)

any_same : (heard : List (List Field)) → list_any declines_by (map disclosed_fields heard) ≡ list_any declines_by heard
any_same [] = refl
any_same (fields ∷ more) = ap₂ (λ (a b : Bool). a || b) (declines_same fields) (any_same more)

latest_same : {A : Type 0} (before : A) (says : List Field → A) → ((fields : List Field) → says (disclosed_fields fields) ≡ says fields) → (heard : List (List Field)) → latest before says (map disclosed_fields heard) ≡ latest before says heard
latest_same before says same [] = refl
latest_same before says same (fields ∷ more) = ap (λ b. latest b says (map disclosed_fields more)) (same fields) ∙ latest_same (says fields) says same more

abbrev zeros : ℕ → List ℕ
zeros size = replicate size 0

-- zeros are no masked number
no_masks : (size : ℕ) → digits_in 14 14 (zeros size) ≡ 0
no_masks zero = refl
no_masks (suc size) = no_masks size

and_never : (a b c : Bool) → (a && (b && (false && c))) ≡ false
and_never true true c = refl
and_never true false c = refl
and_never false b c = refl

zeros_unmasked : (size : ℕ) → is_masked (zeros size) ≡ false
zeros_unmasked size =
    ap (λ (masks : ℕ). nat_le (length (zeros size)) 10 && (is_filled (zeros size) && (nat_le 4 masks && nat_le (digits_in 0 9 (zeros size)) 10))) (no_masks size)
    ∙ and_never (nat_le (length (zeros size)) 10) (is_filled (zeros size)) (nat_le (digits_in 0 9 (zeros size)) 10)

-- what is kept of a number that is masked or not
abbrev number_if : Bool → List ℕ → Option (List ℕ)
number_if masked bytes = cond masked (Some (padded 10 0xFF bytes)) None

number_same : (content : List ℕ) → number_of (disclosed_number content) ≡ number_of content
number_same content = by_test (is_masked content) refl
  where
    by_test : (masked : Bool) → is_masked content ≡ masked → number_of (disclosed_number content) ≡ number_of content
    by_test true is = ap (λ (b : Bool). number_of (cond b content (blank content))) is
    by_test false is =
        ap (λ (b : Bool). number_of (cond b content (blank content))) is ∙ ap (λ (b : Bool). number_if b (blank content)) (zeros_unmasked (length content))
        ∙ sym (ap (λ (b : Bool). number_if b content) is)

card_same : (fields : List Field) → card_by (disclosed_fields fields) ≡ card_by fields
card_same fields =
    let number : option_and_then number_of (content_of 0x22 (disclosed_fields fields)) ≡ option_and_then number_of (content_of 0x22 fields) = same_view 0x22 number_of number_same fields in
    ap (λ (o : Option ℕ). card_if o (disclosed_fields fields)) (result_same fields) ∙ by_code (result_of fields) number
  where
    by_code : (code : Option ℕ) → option_and_then number_of (content_of 0x22 (disclosed_fields fields)) ≡ option_and_then number_of (content_of 0x22 fields) → card_if code (disclosed_fields fields) ≡ card_if code fields
    by_code None number = refl
    by_code (Some code) number =
        ap₂ (λ (t n : Option (List ℕ)). cond (code == 0) (known_card (option_and_then type_of t) (option_and_then name_of n) (option_and_then number_of (content_of 0x22 (disclosed_fields fields)))) None)
        (same_content 0x8A (λ content. refl) fields) (same_content 0x8B (λ content. refl) fields)
        ∙ ap (λ (n : Option (List ℕ)). cond (code == 0) (known_card (option_and_then type_of (content_of 0x8A fields)) (option_and_then name_of (content_of 0x8B fields)) n) None) number

first_same : (heard : List (List Field)) → first_card (map disclosed_fields heard) ≡ first_card heard
first_same [] = refl
first_same (fields ∷ more) = ap₂ (λ (a b : Option Card). option_or a b) (card_same fields) (first_same more)

undoing_same : (fields : List Field) → undoing_by (disclosed_fields fields) ≡ undoing_by fields
undoing_same fields =
    ap₂ (λ (original trace : Option (List ℕ)). option_map (λ (digits : List ℕ). record { original = digits; trace = option_map digits_value trace }) original)
    (same_content 0x37 (λ content. refl) fields) (same_content 0x0B (λ content. refl) fields)

first_undoing_same : (heard : List (List Field)) → first_undoing (map disclosed_fields heard) ≡ first_undoing heard
first_undoing_same [] = refl
first_undoing_same (fields ∷ more) = ap₂ (λ (a b : Option Undoing). option_or a b) (undoing_same fields) (first_undoing_same more)

stated_same : (heard : List (List Field)) → stated_by (map disclosed_fields heard) ≡ stated_by heard
stated_same heard =
    ap₂ (λ (d : Bool) (c : Option Card). record { declines = d; total = latest None total_by (map disclosed_fields heard); totals = latest None totals_of (map disclosed_fields heard); card = c; undoing = first_undoing (map disclosed_fields heard) })
    (any_same heard) (first_same heard)
    ∙ ap₂ (λ (n : Option ℕ) (t : Option CardTotals). record { declines = list_any declines_by heard; total = n; totals = t; card = first_card heard; undoing = first_undoing (map disclosed_fields heard) })
    (latest_same None total_by (λ fields. ap (λ (o : Option (List ℕ)). total_in o) (same_content 0x04 (λ content. refl) fields)) heard)
    (latest_same None totals_of (λ fields. ap (λ (o : Option (List ℕ)). totals_in o) (same_content 0x60 (λ content. refl) fields)) heard)
    ∙ ap (λ (u : Option Undoing). record { declines = list_any declines_by heard; total = latest None total_by heard; totals = latest None totals_of heard; card = first_card heard; undoing = u }) (first_undoing_same heard)

all_stated_same : (heard : List (List (List Field))) → map stated_by (map (map disclosed_fields) heard) ≡ map stated_by heard
all_stated_same [] = refl
all_stated_same (one ∷ more) = ap₂ (λ (s : Statement) (l : List Statement). s ∷ l) (stated_same one) (all_stated_same more)

pub statements_same : (events : List At) → statements_of (map disclosed_at events) ≡ statements_of events
statements_same events = ap (map stated_by) (answered_same events) ∙ all_stated_same (answered events)
