-- The text of a line of a book is that of its value.
use Rattle.std.proofs.Common.{◌≡◌, ℕ, Bool, true, false, List, [], ◌∷◌, ◌++◌, Option, Some, None, codes, refl, sym, ◌∙◌, ap, append_assoc}
use Rattle.std.specs.Fmt.{decimal}
use Rattle.json.specs.Print.{escape, escape_byte}
use Rattle.serde_json.specs.Data.{string, object, Members, no_members, member}
use Rattle.serde_json.specs.Written.{members_text}
use Rattle.zvt_json.specs.Strings.{count_value, line_text}
use Rattle.zvt_json.proofs.EscapeLemmas.{four_plain}
use Rattle.zvt_text.specs.MessageTexts.{four_digits}
use Rattle.zvt_till.specs.Names.{cause_name}
use Rattle.zvt_till.specs.declared.entries.Doubt.{Doubt}
use Rattle.zvt_till.specs.declared.entries.Doubt.TheVariants.{No, Unclear, TakenBack}
use Rattle.zvt_till.specs.declared.entries.Entry.{Entry}
use Rattle.zvt_till.specs.declared.numbers.Numbers.{Numbers}
use Rattle.zvt_till.specs.declared.outcomes.Cause.{Cause}
use Rattle.zvt_till.specs.declared.outcomes.Cause.TheVariants.{NoStatus, Conflict, AmountDiffers, NoTrace, TraceUsed, AbortAfterApproval, Line, Malformed, Unfinished, WrongCurrency}
use Rattle.zvt_kept.specs.Notes.{at_in, reference_in}
use Rattle.zvt_runs.specs.BookObjects.{amount_part, cause_part, currency_part, entry_json, entry_value, heard_part, moment_part, number_part, receipt_part, reference_part, reversals_part, reversed_part, sum_json, sum_value, taken_back_part, time_part, trace_part, unclear_json, unclear_reversal_part, unclear_value, with_cause, with_heard, with_moment, with_number, with_receipt, with_reference, with_reversals, with_reversed, with_taken_back, with_time, with_trace, with_unclear_reversal, with_word, word_part}

cause_plain : (c : Cause) → escape (cause_name c) ≡ cause_name c
unfolding escape_byte
cause_plain NoStatus = refl
cause_plain Conflict = refl
cause_plain AmountDiffers = refl
cause_plain NoTrace = refl
cause_plain TraceUsed = refl
cause_plain AbortAfterApproval = refl
cause_plain Line = refl
cause_plain Malformed = refl
cause_plain Unfinished = refl
cause_plain WrongCurrency = refl

-- ---- members that may be left out, and what comes after them

pub receipt_said : (receipt : Option (List ℕ)) (later : Members) → receipt_part receipt ++ members_text true later ≡ members_text true (with_receipt receipt later)
unfolding escape_byte
receipt_said None later = refl
receipt_said (Some receipt) later = simp append_assoc

unclear_reversal_escaped : (cause : Cause) (later : Members)
    → (codes ",\"reversal_unclear\":\"" ++ escape (cause_name cause) ++ 34 ∷ []) ++ members_text true later ≡ members_text true (with_unclear_reversal (Unclear cause) later)
unfolding escape_byte
unclear_reversal_escaped cause later = simp append_assoc

unclear_reversal_said : (doubt : Doubt) (later : Members) → unclear_reversal_part doubt ++ members_text true later ≡ members_text true (with_unclear_reversal doubt later)
unclear_reversal_said No later = refl
unclear_reversal_said (Unclear cause) later =
    ap (λ (l : List ℕ). (codes ",\"reversal_unclear\":\"" ++ l ++ 34 ∷ []) ++ members_text true later) (sym (cause_plain cause)) ∙ unclear_reversal_escaped cause later
unclear_reversal_said TakenBack later = refl

reversed_said : (reversed : Bool) (later : Members) → reversed_part reversed ++ members_text true later ≡ members_text true (with_reversed reversed later)
unfolding escape_byte
reversed_said false later = refl
reversed_said true later = refl

taken_back_said : (doubt : Doubt) (later : Members) → taken_back_part doubt ++ members_text true later ≡ members_text true (with_taken_back doubt later)
unfolding escape_byte
taken_back_said No later = refl
taken_back_said (Unclear cause) later = refl
taken_back_said TakenBack later = refl

reversals_said : (reversed : Bool) (doubt : Doubt) (later : Members) → reversals_part reversed doubt ++ members_text true later ≡ members_text true (with_reversals reversed doubt later)
reversals_said reversed doubt later =
    append_assoc (unclear_reversal_part doubt ++ reversed_part reversed) (taken_back_part doubt) (members_text true later)
    ∙ append_assoc (unclear_reversal_part doubt) (reversed_part reversed) (taken_back_part doubt ++ members_text true later)
    ∙ ap (λ (l : List ℕ). unclear_reversal_part doubt ++ l) (ap (λ (l : List ℕ). reversed_part reversed ++ l) (taken_back_said doubt later) ∙ reversed_said reversed (with_taken_back doubt later))
    ∙ unclear_reversal_said doubt (with_reversed reversed (with_taken_back doubt later))

pub trace_said : (trace : Option ℕ) (later : Members) → trace_part trace ++ members_text true later ≡ members_text true (with_trace trace later)
unfolding escape_byte
trace_said None later = refl
trace_said (Some trace) later = simp append_assoc

moment_said : (moment : Option (List ℕ)) (later : Members) → moment_part moment ++ members_text true later ≡ members_text true (with_moment moment later)
unfolding escape_byte
moment_said None later = refl
moment_said (Some moment) later = simp append_assoc

time_said : (note : Option (List ℕ)) (later : Members) → time_part note ++ members_text true later ≡ members_text true (with_time note later)
time_said None later = refl
time_said (Some note) later = moment_said (at_in note) later

word_said : (word : Option (List ℕ)) (later : Members) → word_part word ++ members_text true later ≡ members_text true (with_word word later)
unfolding escape_byte
word_said None later = refl
word_said (Some word) later = simp append_assoc

reference_said : (note : Option (List ℕ)) (later : Members) → reference_part note ++ members_text true later ≡ members_text true (with_reference note later)
reference_said None later = refl
reference_said (Some note) later = word_said (reference_in note) later

heard_said : (heard : Option Numbers) (note : Option (List ℕ)) (later : Members) → heard_part heard note ++ members_text true later ≡ members_text true (with_heard heard note later)
heard_said None note later = reference_said note later
heard_said (Some numbers) note later =
    append_assoc (receipt_part numbers.receipt ++ reference_part note) (trace_part numbers.trace) (members_text true later)
    ∙ append_assoc (receipt_part numbers.receipt) (reference_part note) (trace_part numbers.trace ++ members_text true later)
    ∙ ap (λ (l : List ℕ). receipt_part numbers.receipt ++ (reference_part note ++ l)) (trace_said numbers.trace later)
    ∙ ap (λ (l : List ℕ). receipt_part numbers.receipt ++ l) (reference_said note (with_trace numbers.trace later))
    ∙ receipt_said numbers.receipt (with_reference note (with_trace numbers.trace later))

abbrev quoted_currency : (digits : List ℕ) → List ℕ
quoted_currency digits = codes "\"currency\":\"" ++ escape digits ++ 34 ∷ []

currency_quoted : (currency : ℕ) → currency_part currency ≡ quoted_currency (four_digits currency)
currency_quoted currency = ap (λ (l : List ℕ). codes "\"currency\":\"" ++ l ++ 34 ∷ []) (sym (four_plain currency))

number_quoted : (digits : List ℕ) (number : ℕ) (later : Members)
    → (44 ∷ quoted_currency digits ++ codes ",\"number\":" ++ decimal number) ++ members_text true later
    ≡ members_text true (member (codes "currency") (string digits) (member (codes "number") (count_value number) later))
unfolding escape_byte
number_quoted digits number later = simp append_assoc

number_said : (currency number : ℕ) (later : Members) → number_part currency number ++ members_text true later ≡ members_text true (with_number currency number later)
number_said currency number later =
    ap (λ (l : List ℕ). (44 ∷ l ++ codes ",\"number\":" ++ decimal number) ++ members_text true later) (currency_quoted currency)
    ∙ number_quoted (four_digits currency) number later

-- four parts, and what comes after them
nest_four : (a b c d r : List ℕ) → (a ++ b ++ c ++ d ++ r) ≡ a ++ (b ++ (c ++ (d ++ r)))
nest_four a b c d r = simp append_assoc

cause_nested : (cause digits : List ℕ) (later : Members)
    → codes ",\"cause\":\"" ++ (escape cause ++ (codes "\"," ++ (quoted_currency digits ++ members_text true later)))
    ≡ members_text true (member (codes "cause") (string cause) (member (codes "currency") (string digits) later))
unfolding escape_byte
cause_nested cause digits later = simp append_assoc

cause_quoted : (cause digits : List ℕ) (later : Members)
    → (codes ",\"cause\":\"" ++ escape cause ++ codes "\"," ++ quoted_currency digits) ++ members_text true later
    ≡ members_text true (member (codes "cause") (string cause) (member (codes "currency") (string digits) later))
cause_quoted cause digits later =
    nest_four (codes ",\"cause\":\"") (escape cause) (codes "\",") (quoted_currency digits) (members_text true later) ∙ cause_nested cause digits later

cause_said : (cause : Cause) (currency : ℕ) (later : Members) → cause_part cause currency ++ members_text true later ≡ members_text true (with_cause cause currency later)
cause_said cause currency later =
    ap (λ (l : List ℕ). (codes ",\"cause\":\"" ++ cause_name cause ++ codes "\"," ++ l) ++ members_text true later) (currency_quoted currency)
    ∙ ap (λ (l : List ℕ). (codes ",\"cause\":\"" ++ l ++ codes "\"," ++ quoted_currency (four_digits currency)) ++ members_text true later) (sym (cause_plain cause))
    ∙ cause_quoted (cause_name cause) (four_digits currency) later

-- ---- whole lines

-- one part before the members, which end the line
pub before_with : (end part said : List ℕ) (later more : Members) → part ++ members_text true later ≡ members_text true more → said ≡ members_text true later ++ end
    → part ++ said ≡ members_text true more ++ end
before_with end part said later more same ends =
    ap (λ (l : List ℕ). part ++ l) ends ∙ sym (append_assoc part (members_text true later) end) ∙ ap (λ (l : List ℕ). l ++ end) same

before_end : (part said : List ℕ) (later more : Members) → part ++ members_text true later ≡ members_text true more → said ≡ members_text true later ++ codes "}\n"
    → part ++ said ≡ members_text true more ++ codes "}\n"
before_end part said later more same ends = before_with (codes "}\n") part said later more same ends

no_more : codes "}}\n" ≡ members_text true no_members ++ codes "}\n"
no_more = refl

-- seven parts, and what comes after them
nest : (a b c d e f g r : List ℕ) → (a ++ b ++ c ++ d ++ e ++ f ++ g ++ r) ≡ a ++ (b ++ (c ++ (d ++ (e ++ (f ++ (g ++ r))))))
nest a b c d e f g r = simp append_assoc

-- an entry, by its amount and the members after it
entry_around : (amount : ℕ) (later : Members)
    → amount_part (codes "{\"booked\":{\"amount\":") amount ++ (members_text true later ++ codes "}\n")
    ≡ line_text (object (member (codes "booked") (object (member (codes "amount") (count_value amount) later)) no_members))
unfolding escape_byte
entry_around amount later = simp append_assoc

pub entry_said : (currency number : ℕ) (entry : Entry) (note : Option (List ℕ)) → entry_json currency number entry note ≡ line_text (entry_value currency number entry note)
unfolding entry_json
entry_said currency number entry note =
    let first = amount_part (codes "{\"booked\":{\"amount\":") entry.amount in
    let time = time_part note in
    let numbered = number_part currency number in
    let receipt = receipt_part entry.receipt in
    let reference = reference_part note in
    let reversals = reversals_part entry.reversed entry.doubt in
    let trace = trace_part (Some entry.trace) in
    let end = codes "}}\n" in
    let traced = with_trace (Some entry.trace) no_members in
    let undone = with_reversals entry.reversed entry.doubt traced in
    let referred = with_reference note undone in
    let received = with_receipt entry.receipt referred in
    let counted = with_number currency number received in
    let timed = with_time note counted in
    let sixth = before_end trace end no_members traced (trace_said (Some entry.trace) no_members) no_more in
    let fifth = before_end reversals (trace ++ end) traced undone (reversals_said entry.reversed entry.doubt traced) sixth in
    let fourth = before_end reference (reversals ++ (trace ++ end)) undone referred (reference_said note undone) fifth in
    let third = before_end receipt (reference ++ (reversals ++ (trace ++ end))) referred received (receipt_said entry.receipt referred) fourth in
    let second = before_end numbered (receipt ++ (reference ++ (reversals ++ (trace ++ end)))) received counted (number_said currency number received) third in
    let whole = before_end time (numbered ++ (receipt ++ (reference ++ (reversals ++ (trace ++ end))))) counted timed (time_said note counted) second in
    nest first time numbered receipt reference reversals trace end ∙ ap (λ (l : List ℕ). first ++ l) whole ∙ entry_around entry.amount timed

-- an unclear payment, by its amount and the members after it
unclear_around : (amount : ℕ) (later : Members)
    → amount_part (codes "{\"unclear\":{\"amount\":") amount ++ (members_text true later ++ codes "}\n")
    ≡ line_text (object (member (codes "unclear") (object (member (codes "amount") (count_value amount) later)) no_members))
unfolding escape_byte
unclear_around amount later = simp append_assoc

pub unclear_said : (currency : ℕ) (row : ℕ × Cause) (heard : Option Numbers) (note : Option (List ℕ)) → unclear_json currency row heard note ≡ line_text (unclear_value currency row heard note)
unfolding unclear_json
unclear_said currency row heard note =
    let first = amount_part (codes "{\"unclear\":{\"amount\":") row.0 in
    let time = time_part note in
    let caused = cause_part row.1 currency in
    let named = heard_part heard note in
    let end = codes "}}\n" in
    let with_numbers = with_heard heard note no_members in
    let with_why = with_cause row.1 currency with_numbers in
    let timed = with_time note with_why in
    let third = before_end named end no_members with_numbers (heard_said heard note no_members) no_more in
    let second = before_end caused (named ++ end) with_numbers with_why (cause_said row.1 currency with_numbers) third in
    let whole = before_end time (caused ++ (named ++ end)) with_why timed (time_said note with_why) second in
    nest_four first time caused named end ∙ ap (λ (l : List ℕ). first ++ l) whole ∙ unclear_around row.0 timed

sum_around : (total : ℕ) (digits : List ℕ)
    → 123 ∷ quoted_currency digits ++ codes ",\"total\":" ++ decimal total ++ codes "}\n"
    ≡ line_text (object (member (codes "currency") (string digits) (member (codes "total") (count_value total) no_members)))
unfolding escape_byte
sum_around total digits = simp append_assoc

pub sum_said : (currency total : ℕ) → sum_json currency total ≡ line_text (sum_value currency total)
unfolding sum_json
sum_said currency total =
    ap (λ (l : List ℕ). 123 ∷ l ++ codes ",\"total\":" ++ decimal total ++ codes "}\n") (currency_quoted currency) ∙ sum_around total (four_digits currency)
