-- Worked logs: what they are worth, computed from the whole log and by the machine.
use Rattle.std.specs.Prelude.{◌≡◌, ℕ, Bool, Option, cond, false, true, List, [], ◌∷◌, ◌++◌, Some, None, refl}
use Rattle.zvt_till.specs.declared.happenings.Happening.{Happening}
use Rattle.zvt_till.specs.declared.happenings.Happening.TheVariants.{Connected, Sent as SentOut, Heard as HeardIn, Malformed, Lost}
use Rattle.zvt_till.specs.declared.happenings.Sent.TheVariants.{Register, Pay, Reverse, CloseDay}
use Rattle.zvt_till.specs.declared.orders.Order.TheVariants.{Pay as PayOrder}
use Rattle.zvt_till.specs.declared.messages.Heard.TheVariants.{Positive, Negative, Status, Completion, Abort}
use Rattle.zvt_till.specs.declared.messages.Original.TheVariants.{Absent, Once}
use Rattle.zvt_till.specs.declared.messages.Original.{Original}
use Rattle.zvt_till.specs.declared.messages.CurrencyFact.{CurrencyFact}
use Rattle.zvt_till.specs.declared.messages.CurrencyFact.TheVariants.{Absent as NoCurrency, Once as OneCurrency, Many as ManyCurrencies}
use Rattle.zvt_till.specs.declared.outcomes.Outcome.{Outcome}
use Rattle.zvt_till.specs.declared.outcomes.Outcome.TheVariants.{Declined, Refused, Unclear, DayClosed}
use Rattle.zvt_till.specs.declared.orders.OrderRefusal.TheVariants.{Offline}
use Rattle.zvt_till.specs.declared.entries.Doubt.TheVariants.{No, Unclear as UnclearReversal, TakenBack}
use Rattle.zvt_till.specs.declared.entries.Entry.{Entry}
use Rattle.zvt_till.specs.declared.messages.StatusFacts.{StatusFacts}
use Rattle.zvt_till.specs.declared.outcomes.Cause.{Cause}
use Rattle.zvt_till.specs.declared.settings.Rules.{Rules}
use Rattle.zvt_till.specs.ByReceipt.{sole_receipt}
use Rattle.zvt_till.specs.Segments.{segments}
use Rattle.zvt_till.specs.Statuses.{Charge, Closing, Reversal, Good, Doubtful, class_unnamed, class_undeclined, is_in_currency, is_value, names}
use Rattle.zvt_till.specs.declared.outcomes.Cause.TheVariants.{NoStatus, NoTrace, Conflict, AmountDiffers, AbortAfterApproval, TraceUsed, Line as LineCause, Malformed as MalformedCause, WrongCurrency}
use Rattle.zvt_till.specs.Books.{books}
use Rattle.zvt_till.specs.Marks.{total, entries, reversals_left, ruled}
use Rattle.zvt_till.specs.Settings.{strict}
use Rattle.zvt_till.specs.Sending.{Settings}
use Rattle.zvt_till.specs.Till.{facts_of, state_after}
use Rattle.zvt_till.specs.Refusals.{refusal}
use Rattle.zvt_till.specs.Log.{IsLog, facts_in}
use Rattle.zvt_till.specs.TillHistory.{sent_in}

euro : Settings
euro = record { password = 0 ∷ 0 ∷ 0 ∷ []; config = 190; currency = 978; rules = strict }

start : List Happening
start = Connected ∷ SentOut (Register (Some 978)) ∷ HeardIn Positive ∷ HeardIn Completion ∷ []

approval : Happening
approval = HeardIn (Status (record { result = Some 0; has_result = true; amount = Some 1234; trace = Some 17; receipt = Some (0 ∷ 5 ∷ []); original = Absent; currency = NoCurrency }))

paid_twice_over : List Happening
unfolding start approval
paid_twice_over = start ++ (SentOut (Pay 1234) ∷ HeardIn Positive ∷ approval ∷ approval ∷ HeardIn Completion ∷ HeardIn Completion ∷ [])

entry : ℕ → ℕ → Entry
entry trace receipt = record { amount = 1234; trace = trace; receipt = Some (0 ∷ receipt ∷ []); reversed = false; doubt = No }

one_entry : (facts_in strict paid_twice_over).book ≡ entry 17 5 ∷ []
unfolding start approval paid_twice_over entry
one_entry = refl

same_by_steps : facts_of (state_after euro paid_twice_over) ≡ facts_in strict paid_twice_over
unfolding euro start approval paid_twice_over entry
same_by_steps = refl

-- a till can have that log, but none of an order on a line that was never raised
allowed : IsLog euro paid_twice_over
unfolding euro start approval paid_twice_over
allowed = (tt, ((refl, refl), (refl, (refl, ((refl, refl), (refl, (refl, (refl, (refl, (refl, tt))))))))))

not_raised : IsLog euro (SentOut (Pay 1234) ∷ []) → ⊥
not_raised log = let refused : Some Offline ≡ None = log.0.1 in absurd cc

-- nor one of a registration in a currency that isn't its own
not_own : IsLog euro (Connected ∷ SentOut (Register None) ∷ []) → ⊥
unfolding euro
not_own log = let own : Register None ≡ Register (Some 978) = log.1.0.0 in absurd cc

orders : sent_in paid_twice_over ≡ Register (Some 978) ∷ Pay 1234 ∷ []
unfolding start approval paid_twice_over
orders = refl

-- an order that could not be written
unsent : (facts_in strict (start ++ (SentOut (Pay 1234) ∷ Lost ∷ []))).unclear ≡ (1234, LineCause) ∷ []
unfolding start
unsent = refl

total_stands : total (entries strict paid_twice_over) ≡ 1234
unfolding start approval paid_twice_over entry
total_stands = refl

-- an abort after an approval
aborted : (facts_in strict (start ++ (SentOut (Pay 1234) ∷ HeardIn Positive ∷ approval ∷ HeardIn (Abort 108) ∷ []))).unclear ≡ (1234, AbortAfterApproval) ∷ []
unfolding start approval
aborted = refl

-- a trace that was booked before, and then one that was not
again : List Happening
unfolding start approval paid_twice_over
again =
    paid_twice_over
    ++ (SentOut (Pay 1234) ∷ HeardIn Positive ∷ approval ∷ HeardIn Completion ∷ [])
    ++ (SentOut (Pay 1234) ∷ HeardIn Positive ∷ HeardIn (Status (record { result = Some 0; has_result = true; amount = Some 1234; trace = Some 18; receipt = Some (0 ∷ 6 ∷ []); original = Absent; currency = NoCurrency })) ∷ HeardIn Completion ∷ [])

again_books : (facts_in strict again).book ≡ entry 17 5 ∷ entry 18 6 ∷ []
unfolding start approval paid_twice_over again entry
again_books = refl

again_unclear : (facts_in strict again).unclear ≡ (1234, TraceUsed) ∷ []
unfolding start approval paid_twice_over again entry
again_unclear = refl

-- another amount; a reversal's status; no status
other_amount : (facts_in strict (start ++ (SentOut (Pay 1234) ∷ HeardIn Positive ∷ HeardIn (Status (record { result = Some 0; has_result = true; amount = Some 1235; trace = Some 17; receipt = None; original = Absent; currency = NoCurrency })) ∷ HeardIn Completion ∷ []))).unclear ≡ (1234, AmountDiffers) ∷ []
unfolding start
other_amount = refl

of_reversal : (facts_in strict (start ++ (SentOut (Pay 1234) ∷ HeardIn Positive ∷ HeardIn (Status (record { result = Some 0; has_result = true; amount = Some 1234; trace = Some 18; receipt = None; original = Once (0 ∷ 0 ∷ 23 ∷ []); currency = NoCurrency })) ∷ HeardIn Completion ∷ []))).unclear ≡ (1234, Conflict) ∷ []
unfolding start
of_reversal = refl

no_status : (facts_in strict (start ++ (SentOut (Pay 1234) ∷ HeardIn Positive ∷ HeardIn Completion ∷ []))).unclear ≡ (1234, NoStatus) ∷ []
unfolding start
no_status = refl

-- refused at once; refused after an approval; a line lost
refused : List Happening
unfolding start
refused = start ++ (SentOut (Pay 1234) ∷ HeardIn (Negative 108) ∷ [])

refused_unclear : (facts_in strict refused).unclear ≡ []
unfolding start refused
refused_unclear = refl

refused_outcome : (state_after euro refused).last_outcome ≡ Some (Refused 108)
unfolding euro start refused
refused_outcome = refl

refused_late : (facts_in strict (start ++ (SentOut (Pay 1234) ∷ approval ∷ HeardIn (Negative 108) ∷ []))).unclear ≡ (1234, AbortAfterApproval) ∷ []
unfolding start approval
refused_late = refl

cut : List Happening
unfolding start
cut = start ++ (SentOut (Pay 1234) ∷ HeardIn Positive ∷ Lost ∷ [])

cut_unclear : (facts_in strict cut).unclear ≡ (1234, LineCause) ∷ []
unfolding start cut
cut_unclear = refl

cut_offline : refusal (facts_in strict cut) (PayOrder 1) ≡ Some Offline
unfolding start cut
cut_offline = refl

-- malformed; a negative answer after a positive one
malformed : (facts_in strict (start ++ (SentOut (Pay 1234) ∷ Malformed ∷ []))).unclear ≡ (1234, MalformedCause) ∷ []
unfolding start
malformed = refl

late_negative : (facts_in strict (start ++ (SentOut (Pay 1234) ∷ HeardIn Positive ∷ approval ∷ HeardIn (Negative 131) ∷ HeardIn Completion ∷ []))).book ≡ entry 17 5 ∷ []
unfolding start approval entry
late_negative = refl

-- a reversal names the payment by the three bytes of its trace number; bytes that are no digits name none
taken_back : Original → List Happening
unfolding start approval paid_twice_over
taken_back original =
    paid_twice_over
    ++ (SentOut (Reverse 0) ∷ HeardIn Positive ∷ HeardIn (Status (record { result = Some 0; has_result = true; amount = Some 1234; trace = Some 18; receipt = None; original = original; currency = NoCurrency })) ∷ HeardIn Completion ∷ [])

marked : (facts_in strict (taken_back (Once (0 ∷ 0 ∷ 23 ∷ [])))).book ≡ record { amount = 1234; trace = 17; receipt = Some (0 ∷ 5 ∷ []); reversed = true; doubt = No } ∷ []
unfolding start approval paid_twice_over taken_back
marked = refl

nothing_stands : total (entries strict (taken_back (Once (0 ∷ 0 ∷ 23 ∷ [])))) ≡ 0
unfolding start approval paid_twice_over taken_back
nothing_stands = refl

no_digits : (state_after euro (taken_back (Once (0 ∷ 0 ∷ 17 ∷ [])))).last_outcome ≡ Some (Unclear NoTrace)
unfolding euro start approval paid_twice_over taken_back
no_digits = refl

not_marked : (facts_in strict (taken_back (Once (0 ∷ 1 ∷ 13 ∷ [])))).book ≡ record (entry 17 5) { doubt = UnclearReversal NoTrace } ∷ []
unfolding start approval paid_twice_over taken_back entry
not_marked = refl

-- an approval that names the currency in force, another one, or two
in_currency : CurrencyFact → List Happening
unfolding start
in_currency currency =
    start
    ++ (SentOut (Pay 1234) ∷ HeardIn Positive ∷ HeardIn (Status (record { result = Some 0; has_result = true; amount = Some 1234; trace = Some 17; receipt = Some (0 ∷ 5 ∷ []); original = Absent; currency = currency })) ∷ HeardIn Completion ∷ [])

own_currency : (facts_in strict (in_currency (OneCurrency 978))).book ≡ entry 17 5 ∷ []
unfolding start in_currency entry
own_currency = refl

other_currency : (facts_in strict (in_currency (OneCurrency 840))).unclear ≡ (1234, WrongCurrency) ∷ []
unfolding start in_currency
other_currency = refl

two_currencies : (facts_in strict (in_currency ManyCurrencies)).unclear ≡ (1234, WrongCurrency) ∷ []
unfolding start in_currency
two_currencies = refl

-- without a registration that names one any one currency will do
unnamed : (books (SentOut (Register None) ∷ SentOut (Pay 1234) ∷ HeardIn (Status (record { result = Some 0; has_result = true; amount = Some 1234; trace = Some 17; receipt = None; original = Absent; currency = OneCurrency 840 })) ∷ HeardIn Completion ∷ [])).unclear ≡ []
unnamed = refl

-- a reversal that ends so: what it leaves of the one entry, and whether it is unclear
reversing : List Happening → List Happening
unfolding start approval paid_twice_over
reversing ends = paid_twice_over ++ (SentOut (Reverse 0) ∷ ends)

-- its connection is lost, and a second one ends so
second_try : List Happening → List Happening
unfolding start approval paid_twice_over reversing
second_try ends = reversing (HeardIn Positive ∷ Lost ∷ start ++ (SentOut (Reverse 0) ∷ ends))

taken : Happening
taken = HeardIn (Status (record { result = Some 0; has_result = true; amount = Some 1234; trace = Some 18; receipt = None; original = Once (0 ∷ 0 ∷ 23 ∷ []); currency = NoCurrency }))

lost_reversal : entries strict (reversing (HeardIn Positive ∷ taken ∷ Lost ∷ [])) ≡ record (entry 17 5) { doubt = UnclearReversal LineCause } ∷ []
unfolding start approval paid_twice_over entry reversing taken
lost_reversal = refl

lost_reversal_is_left : reversals_left strict (reversing (HeardIn Positive ∷ Lost ∷ [])) ≡ (0, LineCause) ∷ []
unfolding start approval paid_twice_over reversing
lost_reversal_is_left = refl

running_reversal : reversals_left strict (reversing (HeardIn Positive ∷ taken ∷ [])) ≡ []
unfolding start approval paid_twice_over reversing taken
running_reversal = refl

-- a decline, a refusal and an abort without an approval leave nothing; an abort after one, and a completion without a status, do
declined_reversal : entries strict (reversing (HeardIn Positive ∷ HeardIn (Abort 108) ∷ [])) ≡ entry 17 5 ∷ []
unfolding start approval paid_twice_over entry reversing
declined_reversal = refl

refused_reversal : entries strict (reversing (HeardIn (Negative 131) ∷ [])) ≡ entry 17 5 ∷ []
unfolding start approval paid_twice_over entry reversing
refused_reversal = refl

broken_reversal : reversals_left strict (reversing (HeardIn Positive ∷ taken ∷ HeardIn (Abort 108) ∷ [])) ≡ (0, AbortAfterApproval) ∷ []
unfolding start approval paid_twice_over reversing taken
broken_reversal = refl

unsaid_reversal : reversals_left strict (reversing (HeardIn Positive ∷ HeardIn Completion ∷ [])) ≡ (0, NoStatus) ∷ []
unfolding start approval paid_twice_over reversing
unsaid_reversal = refl

-- the second one: completed, it marks; broken off by B4 the terminal took the payment back before; by another code all stays
marked_again : entries strict (second_try (HeardIn Positive ∷ taken ∷ HeardIn Completion ∷ [])) ≡ record (entry 17 5) { reversed = true } ∷ []
unfolding start approval paid_twice_over entry reversing second_try taken
marked_again = refl

aborted_again : entries strict (second_try (HeardIn Positive ∷ HeardIn (Abort 180) ∷ [])) ≡ record (entry 17 5) { doubt = TakenBack } ∷ []
unfolding start approval paid_twice_over entry reversing second_try
aborted_again = refl

refused_again : reversals_left strict (second_try (HeardIn (Negative 180) ∷ [])) ≡ []
unfolding start approval paid_twice_over reversing second_try
refused_again = refl

other_code_again : reversals_left strict (second_try (HeardIn Positive ∷ HeardIn (Abort 181) ∷ [])) ≡ (0, LineCause) ∷ []
unfolding start approval paid_twice_over reversing second_try
other_code_again = refl

malformed_again : reversals_left strict (second_try (Malformed ∷ [])) ≡ (0, MalformedCause) ∷ []
unfolding start approval paid_twice_over reversing second_try
malformed_again = refl

doubt_by_steps : (state_after euro (second_try (HeardIn Positive ∷ HeardIn (Abort 180) ∷ []))).book ≡ record (entry 17 5) { doubt = TakenBack } ∷ []
unfolding euro start approval paid_twice_over entry reversing second_try
doubt_by_steps = refl

-- an end of day under the strict rules or by its completion, with a status that names its result so
closed : Bool → Option ℕ → Bool → Option Outcome
unfolding euro start
closed by_completion result has_result =
    (state_after (record euro { rules = record { close_by_completion = by_completion; reversal_by_receipt = false } })
    (start
    ++ (SentOut CloseDay ∷ HeardIn Positive ∷ HeardIn (Status (record { result = result; has_result = has_result; amount = None; trace = None; receipt = None; original = Absent; currency = NoCurrency })) ∷ HeardIn Completion ∷ []))).last_outcome

strictly_unclear : closed false None false ≡ Some (Unclear Conflict)
unfolding euro start closed
strictly_unclear = refl

closed_by_completion : closed true None false ≡ Some DayClosed
unfolding euro start closed
closed_by_completion = refl

-- several results, and one that declines, say so under either
several_results : closed true None true ≡ Some (Unclear Conflict)
unfolding euro start closed
several_results = refl

declined_close : closed true (Some 111) true ≡ Some (Declined 111)
unfolding euro start closed
declined_close = refl

-- under the strict rules no status without a result is good
strictly_doubtful : (s : StatusFacts) → class_unnamed (Closing strict.close_by_completion) s ≡ Doubtful Conflict
strictly_doubtful s = refl

-- a reversal whose status doesn't name its payment, of a till that takes reversals by receipt number
by_receipt : Rules
by_receipt = record { close_by_completion = false; reversal_by_receipt = true }

named_so : ℕ → Original → List ℕ → Happening
named_so amount original receipt = HeardIn (Status (record { result = Some 0; has_result = true; amount = Some amount; trace = Some 18; receipt = Some receipt; original = original; currency = NoCurrency }))

answered_so : List Happening → ℕ → Original → List ℕ → List Happening
unfolding named_so
answered_so before amount original receipt = before ++ (SentOut (Reverse 0) ∷ HeardIn Positive ∷ named_so amount original receipt ∷ HeardIn Completion ∷ [])

by_new_number : entries by_receipt (answered_so paid_twice_over 1234 Absent (0 ∷ 6 ∷ [])) ≡ record (entry 17 5) { reversed = true } ∷ []
unfolding start approval paid_twice_over entry named_so answered_so by_receipt
by_new_number = refl

by_new_number_in_steps : (state_after (record euro { rules = by_receipt }) (answered_so paid_twice_over 1234 Absent (0 ∷ 6 ∷ []))).book ≡ record (entry 17 5) { reversed = true } ∷ []
unfolding euro start approval paid_twice_over entry named_so answered_so by_receipt
by_new_number_in_steps = refl

strictly_unnamed : entries strict (answered_so paid_twice_over 1234 Absent (0 ∷ 6 ∷ [])) ≡ record (entry 17 5) { doubt = UnclearReversal NoTrace } ∷ []
unfolding start approval paid_twice_over entry named_so answered_so
strictly_unnamed = refl

-- the payment's own receipt number, none in digits, another amount, and another payment that is named
by_own_number : entries by_receipt (answered_so paid_twice_over 1234 Absent (0 ∷ 5 ∷ [])) ≡ record (entry 17 5) { doubt = UnclearReversal NoTrace } ∷ []
unfolding start approval paid_twice_over entry named_so answered_so by_receipt
by_own_number = refl

by_no_number : entries by_receipt (answered_so paid_twice_over 1234 Absent (255 ∷ 255 ∷ [])) ≡ record (entry 17 5) { doubt = UnclearReversal NoTrace } ∷ []
unfolding start approval paid_twice_over entry named_so answered_so by_receipt
by_no_number = refl

by_other_amount : entries by_receipt (answered_so paid_twice_over 1235 Absent (0 ∷ 6 ∷ [])) ≡ record (entry 17 5) { doubt = UnclearReversal AmountDiffers } ∷ []
unfolding start approval paid_twice_over entry named_so answered_so by_receipt
by_other_amount = refl

by_other_name : entries by_receipt (answered_so paid_twice_over 1234 (Once (0 ∷ 0 ∷ 24 ∷ [])) (0 ∷ 6 ∷ [])) ≡ record (entry 17 5) { doubt = UnclearReversal NoTrace } ∷ []
unfolding start approval paid_twice_over entry named_so answered_so by_receipt
by_other_name = refl

-- another payment of the amount, booked or unclear
not_the_only_entry : entries by_receipt (answered_so again 1234 Absent (0 ∷ 7 ∷ [])) ≡ record (entry 17 5) { doubt = UnclearReversal NoTrace } ∷ entry 18 6 ∷ []
unfolding start approval paid_twice_over again entry named_so answered_so by_receipt
not_the_only_entry = refl

beside_unclear : entries by_receipt (answered_so (paid_twice_over ++ (SentOut (Pay 1234) ∷ HeardIn Positive ∷ HeardIn Completion ∷ [])) 1234 Absent (0 ∷ 7 ∷ []))
    ≡ record (entry 17 5) { doubt = UnclearReversal NoTrace } ∷ []
unfolding start approval paid_twice_over entry named_so answered_so by_receipt
beside_unclear = refl

-- under the strict rules the segments of a log are the same, and a status of a reversal must name its payment
strictly_ruled : (log : List Happening) → ruled strict.reversal_by_receipt (segments log) ≡ segments log
strictly_ruled log = refl

strictly_named : (charge : Charge) (trace : ℕ) (s : StatusFacts) (book : List Entry) (unclear : List (ℕ × Cause)) (row : Entry)
    → class_undeclined (Reversal charge trace (sole_receipt strict.reversal_by_receipt book unclear row)) s
    ≡ cond (is_in_currency charge.currency s.currency)
    (cond (is_value s.amount charge.amount) (cond (names s.original trace) (Good None) (Doubtful NoTrace)) (Doubtful AmountDiffers))
    (Doubtful WrongCurrency)
strictly_named charge trace s book unclear row = refl
