-- The lines of a run in either form. The members of an object are in the alphabetical order of their names.
use Rattle.std.specs.Prelude.{◌≡◌, ℕ, List, [], ◌∷◌, ◌++◌, codes, Option, Some, None, Result, Ok, Err, refl}
use Rattle.std.specs.Fmt.{digits}
use Rattle.hex.specs.Hex.{encode_with}
use Rattle.json.specs.Print.{escape_byte}
use Rattle.serde_json.specs.Data.{Data, string, object, Members, no_members, member}
use Rattle.zvt_json.specs.Fields.{words_of}
use Rattle.zvt_json.specs.Strings.{byte_value, count_value, hex_value, line_text}
use Rattle.zvt_text.specs.declared.form.Form.{Form}
use Rattle.zvt_text.specs.declared.form.Form.TheVariants.{Text, Json}
use Rattle.zvt_text.specs.Meanings.{meaning_of}
use Rattle.zvt_stream.specs.declared.line.LineFault.TheVariants.{Turns}
use Rattle.zvt_till.specs.Names.{cause_name, refusal_name}
use Rattle.zvt_till.specs.declared.line.RunFault.{RunFault}
use Rattle.zvt_till.specs.declared.keeper.BookFault.TheVariants.{NoSpace, Failed}
use Rattle.zvt_till.specs.declared.line.RunFault.TheVariants.{Order, Line, Book as BookBroke}
use Rattle.zvt_till.specs.declared.orders.OrderRefusal.TheVariants.{NotRegistered}
use Rattle.zvt_till.specs.declared.outcomes.Cause.{Cause}
use Rattle.zvt_till.specs.declared.outcomes.Cause.TheVariants.{NoStatus}
use Rattle.zvt_till.specs.declared.outcomes.Outcome.{Outcome}
use Rattle.zvt_till.specs.declared.outcomes.Outcome.TheVariants.{Registered, Paid, Declined, Refused, Aborted, Unclear, Reversed, DayClosed}
use Rattle.zvt_settle.specs.declared.deciding.Settlement.{Settlement}
use Rattle.zvt_settle.specs.declared.deciding.Settlement.TheVariants.{Paid as PaidThen, NotReversed}
use Rattle.zvt_runs.specs.declared.asking.Asked.{Asked}
use Rattle.zvt_runs.specs.declared.asking.Asked.TheVariants.{Nothing, Unsettled, Settled}
use Rattle.zvt_runs.specs.declared.asking.Ended.{Ended}
use Rattle.zvt_runs.specs.declared.asking.Ended.TheVariants.{Order as EndedOrder, Ask}
use Rattle.zvt_runs.specs.Outcomes.{ending_text, no_space, step_text, total_text}
use Rattle.zvt_runs.specs.Settlements.{settled_value}

-- the word of a step, and the text after it
abbrev pub of_step : List ℕ → Members → Members
of_step word later = member (codes "step") (string word) later

-- how a step ended, its word, and the text after both
abbrev pub ended_so : (name word : List ℕ) → Members → Members
ended_so name word later = member (codes "outcome") (string name) (of_step word later)

-- a step whose outcome has no details
abbrev pub ended_value : (name word : List ℕ) → Data
ended_value name word = object (ended_so name word no_members)

abbrev pub trace_member : ℕ → Members
trace_member trace = member (codes "trace") (count_value trace) no_members

-- a booked payment, by its numbers
abbrev pub paid_value : List ℕ → ℕ → Option (List ℕ) → Data
paid_value word trace None = object (ended_so (codes "paid") word (trace_member trace))
paid_value word trace (Some receipt) = object (member (codes "outcome") (string (codes "paid")) (member (codes "receipt") (hex_value receipt) (of_step word (trace_member trace))))

-- a result of the terminal and its code, with the code's meaning if it has one
abbrev pub coded_value : (name word : List ℕ) → ℕ → Data
coded_value name word code = object (member (codes "code") (byte_value code) (ended_so name word (words_of (meaning_of code))))

-- a step whose outcome is unclear
abbrev pub unclear_value : List ℕ → Cause → Data
unclear_value word cause = object (member (codes "cause") (string (cause_name cause)) (ended_so (codes "unclear") word no_members))

-- a step whose order had this outcome
abbrev pub outcome_value : List ℕ → Outcome → Data
outcome_value word Registered = ended_value (codes "registered") word
outcome_value word (Paid trace receipt) = paid_value word trace receipt
outcome_value word (Declined code) = coded_value (codes "declined") word code
outcome_value word (Refused code) = coded_value (codes "refused") word code
outcome_value word (Aborted code) = coded_value (codes "aborted") word code
outcome_value word (Unclear cause) = unclear_value word cause
outcome_value word Reversed = ended_value (codes "reversed") word
outcome_value word DayClosed = ended_value (codes "day closed") word

-- a step whose order was not sent, for this reason
abbrev pub unsent_value : (word reason : List ℕ) → Data
unsent_value word reason = object (member (codes "outcome") (string (codes "not sent")) (member (codes "reason") (string reason) (of_step word no_members)))

-- an ask that settled an order
abbrev pub settled_step : List ℕ → Settlement → Data
settled_step word settlement = object (member (codes "outcome") (string (codes "settled")) (member (codes "settled") (settled_value settlement) (of_step word no_members)))

-- an ask
abbrev pub asked_value : List ℕ → Asked → Data
asked_value word Nothing = ended_value (codes "nothing to settle") word
asked_value word Unsettled = ended_value (codes "not settled") word
asked_value word (Settled settlement) = settled_step word settlement

-- a step that was made to its end
abbrev pub end_value : List ℕ → Ended → Data
end_value word (EndedOrder outcome) = outcome_value word outcome
end_value word (Ask asked) = asked_value word asked

-- a step during which the line broke or the book failed
abbrev pub broken_value : List ℕ → Option Ended → Data
broken_value word None = object (of_step word no_members)
broken_value word (Some ended) = end_value word ended

-- what a step came to; `last` is its end where the line broke or the book failed
abbrev pub step_value : List ℕ → Result Ended RunFault → Option Ended → Data
step_value word (Ok ended) last = end_value word ended
step_value word (Err (Order why)) last = unsent_value word (refusal_name why)
step_value word (Err (Line fault)) last = broken_value word last
step_value word (Err (BookBroke NoSpace)) last = unsent_value word no_space
step_value word (Err (BookBroke Failed)) last = broken_value word last

abbrev pub total_value : ℕ → Data
total_value total = object (member (codes "total") (count_value total) no_members)

-- ---- lines

-- the line of a step, in this form
abbrev pub step_line : Form → List ℕ → Result Ended RunFault → Option Ended → List ℕ
step_line Text word result last = step_text word (ending_text result last)
step_line Json word result last = line_text (step_value word result last)

-- the last line, in this form
abbrev pub total_line : Form → ℕ → List ℕ
total_line Text total = total_text total
total_line Json total = line_text (total_value total)

-- ---- lines worked by hand

a_payment : step_line Json (codes "pay:1000") (Ok (EndedOrder (Paid 1 (Some (0x00 ∷ 0x01 ∷ []))))) None ≡ codes "{\"outcome\":\"paid\",\"receipt\":\"0001\",\"step\":\"pay:1000\",\"trace\":1}\n"
unfolding encode_with digits escape_byte
a_payment = refl

without_receipt : step_line Json (codes "pay:1000") (Ok (EndedOrder (Paid 23 None))) None ≡ codes "{\"outcome\":\"paid\",\"step\":\"pay:1000\",\"trace\":23}\n"
unfolding digits escape_byte
without_receipt = refl

a_decline : step_line Json (codes "pay:500") (Ok (EndedOrder (Declined 0x6F))) None ≡ codes "{\"code\":\"6F\",\"outcome\":\"declined\",\"step\":\"pay:500\",\"words\":\"wrong currency\"}\n"
unfolding encode_with escape_byte meaning_of
a_decline = refl

-- a code whose meaning the text does not have, and one without a meaning
no_card : step_line Json (codes "pay:500") (Ok (EndedOrder (Aborted 0x65))) None ≡ codes "{\"code\":\"65\",\"outcome\":\"aborted\",\"step\":\"pay:500\",\"words\":\"no card data found\"}\n"
unfolding encode_with escape_byte meaning_of
no_card = refl

no_words : step_line Json (codes "reverse:1") (Ok (EndedOrder (Refused 0x99))) None ≡ codes "{\"code\":\"99\",\"outcome\":\"refused\",\"step\":\"reverse:1\"}\n"
unfolding encode_with escape_byte meaning_of
no_words = refl

an_unclear_payment : step_line Json (codes "pay:1000") (Ok (EndedOrder (Unclear NoStatus))) None ≡ codes "{\"cause\":\"NoStatus\",\"outcome\":\"unclear\",\"step\":\"pay:1000\"}\n"
unfolding escape_byte
an_unclear_payment = refl

not_sent : step_line Json (codes "pay:1") (Err (Order NotRegistered)) (Some (EndedOrder Reversed)) ≡ codes "{\"outcome\":\"not sent\",\"reason\":\"NotRegistered\",\"step\":\"pay:1\"}\n"
unfolding escape_byte
not_sent = refl

without_room : step_line Json (codes "pay:1") (Err (BookBroke NoSpace)) (Some (EndedOrder Reversed)) ≡ codes "{\"outcome\":\"not sent\",\"reason\":\"NoSpace\",\"step\":\"pay:1\"}\n"
unfolding escape_byte
without_room = refl

-- a line that broke during an order
broken_off : step_line Json (codes "close") (Err (Line Turns)) (Some (EndedOrder DayClosed)) ≡ codes "{\"outcome\":\"day closed\",\"step\":\"close\"}\n"
unfolding escape_byte
broken_off = refl

-- a line that broke before any order ended
never_begun : step_line Json (codes "register") (Err (Line Turns)) None ≡ codes "{\"step\":\"register\"}\n"
unfolding escape_byte
never_begun = refl

-- a word that JSON escapes
escaped : step_line Json (codes "\"\n") (Ok (EndedOrder Registered)) None ≡ codes "{\"outcome\":\"registered\",\"step\":\"\\\"\\n\"}\n"
unfolding escape_byte
escaped = refl

a_total : total_line Json 1000 ≡ codes "{\"total\":1000}\n"
unfolding digits escape_byte
a_total = refl

as_text : step_line Text (codes "pay:1000") (Ok (EndedOrder (Paid 1 (Some (0x00 ∷ 0x01 ∷ []))))) None ≡ codes "pay:1000 -> paid trace 000001 receipt 0001\n"
unfolding encode_with digits
as_text = refl

an_ask : step_line Text (codes "ask") (Ok (Ask (Settled (PaidThen 0 2 (Some (0x00 ∷ 0x02 ∷ [])))))) None ≡ codes "ask -> settled unclear 1 Paid trace 000002 receipt 0002\n"
unfolding encode_with digits
an_ask = refl

the_same_ask : step_line Json (codes "ask") (Ok (Ask (Settled (NotReversed 4)))) None ≡ codes "{\"outcome\":\"settled\",\"settled\":{\"booked\":5,\"name\":\"NotReversed\"},\"step\":\"ask\"}\n"
unfolding digits escape_byte
the_same_ask = refl

nothing_settled : step_line Text (codes "ask") (Ok (Ask Nothing)) None ++ step_line Json (codes "ask") (Err (Line Turns)) (Some (Ask Unsettled)) ≡ codes "ask -> nothing to settle\n{\"outcome\":\"not settled\",\"step\":\"ask\"}\n"
unfolding escape_byte
nothing_settled = refl
