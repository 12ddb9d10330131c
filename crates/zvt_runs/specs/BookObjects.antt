-- A till's book as JSON. The members of an object are in the alphabetical order of their names.
use Rattle.std.specs.Prelude.{◌≡◌, ℕ, ◌+◌, Bool, true, false, List, [], ◌∷◌, ◌++◌, Option, Some, None, codes, slice_get, refl}
use Rattle.std.specs.Fmt.{decimal, digits}
use Rattle.std.specs.List.{enumerate_from, flat_map}
use Rattle.hex.specs.Hex.{encode_upper, encode_with}
use Rattle.json.specs.Print.{escape, escape_byte}
use Rattle.serde_json.specs.Data.{Data, string, boolean, object, Members, no_members, member}
use Rattle.zvt_json.specs.Strings.{count_value, hex_value, line_text}
use Rattle.zvt_text.specs.MessageTexts.{four_digits}
use Rattle.zvt_till.specs.Names.{cause_name}
use Rattle.zvt_till.specs.Numbers.{no_numbers}
use Rattle.zvt_till.specs.declared.entries.Doubt.{Doubt}
use Rattle.zvt_till.specs.declared.entries.Doubt.TheVariants.{No, Unclear, TakenBack}
use Rattle.zvt_till.specs.declared.entries.Entry.{Entry}
use Rattle.zvt_till.specs.declared.numbers.Numbers.{Numbers}
use Rattle.zvt_till.specs.declared.outcomes.Cause.{Cause}
use Rattle.zvt_till.specs.declared.outcomes.Cause.TheVariants.{NoStatus}
use Rattle.zvt_kept.specs.Notes.{at_in, reference_in}

-- the receipt number, if the payment has one, and the text after it
abbrev pub with_receipt : Option (List ℕ) → Members → Members
with_receipt None later = later
with_receipt (Some receipt) later = member (codes "receipt") (hex_value receipt) later

-- the currency in four digits, and the text after it
abbrev pub with_currency : (currency : ℕ) → Members → Members
with_currency currency later = member (codes "currency") (string (four_digits currency)) later

-- the trace number, if the terminal named one, and the text after it
abbrev pub with_trace : Option ℕ → Members → Members
with_trace None later = later
with_trace (Some trace) later = member (codes "trace") (count_value trace) later

abbrev pub with_moment : Option (List ℕ) → Members → Members
with_moment None later = later
with_moment (Some moment) later = member (codes "at") (string moment) later

-- the time of the order, if its record has one, and the text after it
abbrev pub with_time : (note : Option (List ℕ)) → Members → Members
with_time None later = later
with_time (Some note) later = with_moment (at_in note) later

abbrev pub with_word : Option (List ℕ) → Members → Members
with_word None later = later
with_word (Some word) later = member (codes "ref") (string word) later

-- the reference of the order, if its record has one, and the text after it
abbrev pub with_reference : (note : Option (List ℕ)) → Members → Members
with_reference None later = later
with_reference (Some note) later = with_word (reference_in note) later

-- the cause of the last reversal if that is unclear, and the text after it
abbrev pub with_unclear_reversal : Doubt → Members → Members
with_unclear_reversal No later = later
with_unclear_reversal (Unclear cause) later = member (codes "reversal_unclear") (string (cause_name cause)) later
with_unclear_reversal TakenBack later = later

-- that a completed reversal took the payment back, if one did, and the text after it
abbrev pub with_reversed : Bool → Members → Members
with_reversed false later = later
with_reversed true later = member (codes "reversed") (boolean true) later

-- that the terminal had taken the payment back before, if it said so, and the text after it
abbrev pub with_taken_back : Doubt → Members → Members
with_taken_back No later = later
with_taken_back (Unclear cause) later = later
with_taken_back TakenBack later = member (codes "taken_back") (boolean true) later

-- the state of an entry's reversals, and the text after it
abbrev pub with_reversals : Bool → Doubt → Members → Members
with_reversals reversed doubt later = with_unclear_reversal doubt (with_reversed reversed (with_taken_back doubt later))

-- the currency and the number of an entry, and the text after them
abbrev pub with_number : (currency number : ℕ) → Members → Members
with_number currency number later = with_currency currency (member (codes "number") (count_value number) later)

abbrev pub payment_value : (currency number : ℕ) → Entry → (note : Option (List ℕ)) → Data
payment_value currency number entry note =
    object (member (codes "amount") (count_value entry.amount) (with_time note (with_number currency number
    (with_receipt entry.receipt (with_reference note (with_reversals entry.reversed entry.doubt (with_trace (Some entry.trace) no_members)))))))

-- an entry, its number in the book, which a reversal names, and its note
abbrev pub entry_value : (currency number : ℕ) → Entry → (note : Option (List ℕ)) → Data
entry_value currency number entry note = object (member (codes "booked") (payment_value currency number entry note) no_members)

-- the numbers that the terminal named for a payment and its reference, and the text after them
abbrev pub with_heard : Option Numbers → (note : Option (List ℕ)) → Members → Members
with_heard None note later = with_reference note later
with_heard (Some numbers) note later = with_receipt numbers.receipt (with_reference note (with_trace numbers.trace later))

-- why a payment is unclear, the currency, and the text after them
abbrev pub with_cause : Cause → (currency : ℕ) → Members → Members
with_cause cause currency later = member (codes "cause") (string (cause_name cause)) (with_currency currency later)

abbrev pub doubt_value : (currency : ℕ) → ℕ × Cause → Option Numbers → (note : Option (List ℕ)) → Data
doubt_value currency row heard note =
    object (member (codes "amount") (count_value row.0) (with_time note (with_cause row.1 currency (with_heard heard note no_members))))

-- an unclear payment and its note
abbrev pub unclear_value : (currency : ℕ) → ℕ × Cause → Option Numbers → (note : Option (List ℕ)) → Data
unclear_value currency row heard note = object (member (codes "unclear") (doubt_value currency row heard note) no_members)

-- the entries, numbered from 1, each with the note at the same index
abbrev pub entries_json : (currency : ℕ) → List Entry → (notes : List (List ℕ)) → List ℕ
entries_json currency book notes = flat_map (λ it. line_text (entry_value currency (it.0 + 1) it.1 (slice_get notes it.0))) (enumerate_from 0 book)

-- the unclear payments, each with the numbers and the note at the same index
abbrev pub unclears_json : (currency : ℕ) → List (ℕ × Cause) → (heard : List Numbers) → (notes : List (List ℕ)) → List ℕ
unclears_json currency unclear heard notes =
    flat_map (λ it. line_text (unclear_value currency it.1 (slice_get heard it.0) (slice_get notes it.0))) (enumerate_from 0 unclear)

abbrev pub sum_value : (currency total : ℕ) → Data
sum_value currency total = object (with_currency currency (member (codes "total") (count_value total) no_members))

-- ---- rows worked by hand

abbrev entry_of : Option (List ℕ) → Bool → Doubt → Entry
entry_of receipt reversed doubt = record { amount = 1000; trace = 1; receipt = receipt; reversed = reversed; doubt = doubt }

no_reversal : line_text (entry_value 978 1 (entry_of (Some (0x00 ∷ 0x01 ∷ [])) false No) None) ≡ codes "{\"booked\":{\"amount\":1000,\"currency\":\"0978\",\"number\":1,\"receipt\":\"0001\",\"trace\":1}}\n"
unfolding digits escape_byte encode_with
no_reversal = refl

no_receipt : line_text (entry_value 978 1 (entry_of None false No) None) ≡ codes "{\"booked\":{\"amount\":1000,\"currency\":\"0978\",\"number\":1,\"trace\":1}}\n"
unfolding digits escape_byte
no_receipt = refl

was_reversed : line_text (entry_value 978 1 (entry_of None true No) None) ≡ codes "{\"booked\":{\"amount\":1000,\"currency\":\"0978\",\"number\":1,\"reversed\":true,\"trace\":1}}\n"
unfolding digits escape_byte
was_reversed = refl

an_unclear_reversal : line_text (entry_value 978 1 (entry_of None false (Unclear NoStatus)) None) ≡ codes "{\"booked\":{\"amount\":1000,\"currency\":\"0978\",\"number\":1,\"reversal_unclear\":\"NoStatus\",\"trace\":1}}\n"
unfolding digits escape_byte
an_unclear_reversal = refl

was_taken_back : line_text (entry_value 978 1 (entry_of None false TakenBack) None) ≡ codes "{\"booked\":{\"amount\":1000,\"currency\":\"0978\",\"number\":1,\"taken_back\":true,\"trace\":1}}\n"
unfolding digits escape_byte
was_taken_back = refl

-- a reversal was completed, and a later one is unclear
another_reversal : line_text (entry_value 978 1 (entry_of None true (Unclear NoStatus)) None) ≡ codes "{\"booked\":{\"amount\":1000,\"currency\":\"0978\",\"number\":1,\"reversal_unclear\":\"NoStatus\",\"reversed\":true,\"trace\":1}}\n"
unfolding digits escape_byte
another_reversal = refl

an_unclear_payment : line_text (unclear_value 978 (500, NoStatus) (Some no_numbers) None) ≡ codes "{\"unclear\":{\"amount\":500,\"cause\":\"NoStatus\",\"currency\":\"0978\"}}\n"
unfolding digits escape_byte
an_unclear_payment = refl

abbrev heard_of : Option ℕ → Option (List ℕ) → Numbers
heard_of trace receipt = record { trace = trace; receipt = receipt }

approval_heard : line_text (unclear_value 978 (500, NoStatus) (Some (heard_of (Some 7) (Some (0x00 ∷ 0x12 ∷ [])))) None)
    ≡ codes "{\"unclear\":{\"amount\":500,\"cause\":\"NoStatus\",\"currency\":\"0978\",\"receipt\":\"0012\",\"trace\":7}}\n"
unfolding digits escape_byte encode_with
approval_heard = refl

trace_heard : line_text (unclear_value 978 (500, NoStatus) (Some (heard_of (Some 7) None)) None)
    ≡ codes "{\"unclear\":{\"amount\":500,\"cause\":\"NoStatus\",\"currency\":\"0978\",\"trace\":7}}\n"
unfolding digits escape_byte
trace_heard = refl

nothing_booked : line_text (sum_value 756 0) ≡ codes "{\"currency\":\"0756\",\"total\":0}\n"
unfolding digits escape_byte
nothing_booked = refl

two_entries : entries_json 978 (entry_of None false No ∷ entry_of None false No ∷ []) [] ≡ codes "{\"booked\":{\"amount\":1000,\"currency\":\"0978\",\"number\":1,\"trace\":1}}\n{\"booked\":{\"amount\":1000,\"currency\":\"0978\",\"number\":2,\"trace\":1}}\n"
unfolding digits escape_byte
two_entries = refl

-- a time and a reference, with its quotation mark escaped as JSON does
noted : line_text (entry_value 978 1 (entry_of (Some (0x00 ∷ 0x01 ∷ [])) true No) (Some (codes " at 2026-11-28T09:14:03Z ref A\"9")))
    ≡ codes "{\"booked\":{\"amount\":1000,\"at\":\"2026-11-28T09:14:03Z\",\"currency\":\"0978\",\"number\":1,\"receipt\":\"0001\",\"ref\":\"A\\\"9\",\"reversed\":true,\"trace\":1}}\n"
unfolding digits escape_byte encode_with
noted = refl

noted_unclear : line_text (unclear_value 978 (500, NoStatus) (Some (heard_of (Some 7) None)) (Some (codes " ref A-9")))
    ≡ codes "{\"unclear\":{\"amount\":500,\"cause\":\"NoStatus\",\"currency\":\"0978\",\"ref\":\"A-9\",\"trace\":7}}\n"
unfolding digits escape_byte
noted_unclear = refl

-- ---- the same texts, as they are written

abbrev pub receipt_part : Option (List ℕ) → List ℕ
receipt_part None = []
receipt_part (Some receipt) = codes ",\"receipt\":\"" ++ escape (encode_upper receipt) ++ 34 ∷ []

abbrev pub unclear_reversal_part : Doubt → List ℕ
unclear_reversal_part No = []
unclear_reversal_part (Unclear cause) = codes ",\"reversal_unclear\":\"" ++ cause_name cause ++ 34 ∷ []
unclear_reversal_part TakenBack = []

abbrev pub reversed_part : Bool → List ℕ
reversed_part false = []
reversed_part true = codes ",\"reversed\":true"

abbrev pub taken_back_part : Doubt → List ℕ
taken_back_part No = []
taken_back_part (Unclear cause) = []
taken_back_part TakenBack = codes ",\"taken_back\":true"

abbrev pub reversals_part : Bool → Doubt → List ℕ
reversals_part reversed doubt = unclear_reversal_part doubt ++ reversed_part reversed ++ taken_back_part doubt

abbrev pub currency_part : (currency : ℕ) → List ℕ
currency_part currency = codes "\"currency\":\"" ++ four_digits currency ++ 34 ∷ []

abbrev pub trace_part : Option ℕ → List ℕ
trace_part None = []
trace_part (Some trace) = codes ",\"trace\":" ++ decimal trace

abbrev pub moment_part : Option (List ℕ) → List ℕ
moment_part None = []
moment_part (Some moment) = codes ",\"at\":\"" ++ escape moment ++ 34 ∷ []

abbrev pub time_part : (note : Option (List ℕ)) → List ℕ
time_part None = []
time_part (Some note) = moment_part (at_in note)

abbrev pub word_part : Option (List ℕ) → List ℕ
word_part None = []
word_part (Some word) = codes ",\"ref\":\"" ++ escape word ++ 34 ∷ []

abbrev pub reference_part : (note : Option (List ℕ)) → List ℕ
reference_part None = []
reference_part (Some note) = word_part (reference_in note)

abbrev pub heard_part : Option Numbers → (note : Option (List ℕ)) → List ℕ
heard_part None note = reference_part note
heard_part (Some numbers) note = receipt_part numbers.receipt ++ reference_part note ++ trace_part numbers.trace

-- a line up to its amount
abbrev pub amount_part : (kind : List ℕ) → (amount : ℕ) → List ℕ
amount_part kind amount = kind ++ decimal amount

abbrev pub number_part : (currency number : ℕ) → List ℕ
number_part currency number = 44 ∷ currency_part currency ++ codes ",\"number\":" ++ decimal number

unfoldable pub entry_json : (currency number : ℕ) → Entry → (note : Option (List ℕ)) → List ℕ
entry_json currency number entry note =
    amount_part (codes "{\"booked\":{\"amount\":") entry.amount ++ time_part note ++ number_part currency number ++ receipt_part entry.receipt
    ++ reference_part note ++ reversals_part entry.reversed entry.doubt ++ trace_part (Some entry.trace) ++ codes "}}\n"

abbrev pub cause_part : Cause → (currency : ℕ) → List ℕ
cause_part cause currency = codes ",\"cause\":\"" ++ cause_name cause ++ codes "\"," ++ currency_part currency

unfoldable pub unclear_json : (currency : ℕ) → ℕ × Cause → Option Numbers → (note : Option (List ℕ)) → List ℕ
unclear_json currency row heard note =
    amount_part (codes "{\"unclear\":{\"amount\":") row.0 ++ time_part note ++ cause_part row.1 currency ++ heard_part heard note ++ codes "}}\n"

unfoldable pub sum_json : (currency total : ℕ) → List ℕ
sum_json currency total = 123 ∷ currency_part currency ++ codes ",\"total\":" ++ decimal total ++ codes "}\n"
