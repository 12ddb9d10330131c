-- The books of a trace as JSON. The members of an object come in the order of their names.
use Rattle.std.specs.Prelude.{ℕ, List, [], ◌∷◌, ◌++◌, Option, Some, None, codes}
use Rattle.std.specs.List.{enumerate_from, flat_map, slice_get}
use Rattle.std.specs.Option.{option_and_then}
use Rattle.std.specs.Fmt.{decimal}
use Rattle.hex.specs.Hex.{encode_upper}
use Rattle.json.specs.Print.{escape}
use Rattle.serde_json.specs.Data.{Data, string, object, Members, no_members, member}
use Rattle.zvt_json.specs.Strings.{count_value, hex_value, line_text}
use Rattle.zvt_text.specs.MessageTexts.{four_digits}
use Rattle.zvt_till.specs.Books.{Booked, Books}
use Rattle.zvt_till.specs.Names.{cause_name}
use Rattle.zvt_till.specs.declared.outcomes.Cause.{Cause}
use Rattle.zvt_trace.specs.declared.fault.Tally.{Tally}
use Rattle.zvt_audit.specs.Booked.{books_text, total}
use Rattle.zvt_text.specs.Meanings.{command_name}
use Rattle.zvt_audit.specs.Ends.{Lines}
use Rattle.zvt_audit.specs.declared.unfollowed.Approval.{Approval}
use Rattle.zvt_audit.specs.declared.unfollowed.UnfollowedOrder.{UnfollowedOrder}
use Rattle.zvt_text.specs.declared.form.Form.{Form}
use Rattle.zvt_text.specs.declared.form.Form.TheVariants.{Text, Json}

-- the receipt number, where the payment has one, and what comes after it
abbrev pub with_receipt : Option (List ℕ) → Members → Members
with_receipt None later = later
with_receipt (Some receipt) later = member (codes "receipt") (hex_value receipt) later

-- the line at which the payment ended, where it has ended, and what comes after it
abbrev pub with_line : Option ℕ → Members → Members
with_line None later = later
with_line (Some line) later = member (codes "line") (count_value line) later

abbrev pub payment_value : Booked → (line : Option ℕ) → Data
payment_value row line =
    object (member (codes "amount") (count_value row.amount) (with_line line (with_receipt row.receipt (member (codes "trace") (count_value row.trace) no_members))))

abbrev pub booked_value : Booked → (line : Option ℕ) → Data
booked_value row line = object (member (codes "booked") (payment_value row line) no_members)

abbrev pub doubt_value : ℕ × Cause → (line : Option ℕ) → Data
doubt_value row line = object (member (codes "amount") (count_value row.0) (member (codes "cause") (string (cause_name row.1)) (with_line line no_members)))

abbrev pub unclear_value : ℕ × Cause → (line : Option ℕ) → Data
unclear_value row line = object (member (codes "unclear") (doubt_value row line) no_members)

-- the currency, where the trace has one, and what comes after it
abbrev pub with_currency : Option ℕ → Members → Members
with_currency None later = later
with_currency (Some currency) later = member (codes "currency") (string (four_digits currency)) later

-- what the whole trace has
abbrev pub summary_value : Tally → (currency : Option ℕ) → (total : ℕ) → Data
summary_value tally currency total = object (member (codes "bad") (count_value tally.bad) (with_currency currency (member (codes "messages") (count_value tally.messages) (member (codes "total") (count_value total) no_members))))

-- a JSON line for each row, with the line of the trace where it ended
abbrev pub rows_text : {A : Type 0} → (A → Option ℕ → List ℕ) → (ends : List ℕ) → List A → List ℕ
rows_text text ends rows = flat_map (λ entry. text entry.1 (slice_get ends entry.0)) (enumerate_from 0 rows)

abbrev pub with_name : Option (List ℕ) → Members → Members
with_name None later = later
with_name (Some name) later = member (codes "name") (string name) later

-- the amount that the terminal approved, if it did, and what comes after it
abbrev pub with_amount : Option Approval → Members → Members
with_amount None later = later
with_amount (Some approval) later = member (codes "approved") (count_value approval.amount) later

-- the trace number of the approval, if there is one, and what comes after it
abbrev pub with_trace : Option ℕ → Members → Members
with_trace None later = later
with_trace (Some trace) later = member (codes "trace") (count_value trace) later

abbrev pub trace_of : Option Approval → Option ℕ
trace_of approved = option_and_then (λ (approval : Approval). approval.trace) approved

-- an order that is not followed: what the terminal approved for it, its control bytes, its line, and its name, if the control bytes have one
abbrev pub order_value : UnfollowedOrder → Data
order_value order =
    object
    (with_amount order.approved
    (member (codes "control") (hex_value (order.high ∷ order.low ∷ [])) (member (codes "line") (count_value order.line) (with_name (command_name order.high order.low) (with_trace (trace_of order.approved) no_members)))))

abbrev pub unfollowed_value : UnfollowedOrder → Data
unfollowed_value order = object (member (codes "unfollowed") (order_value order) no_members)

-- a line for each payment that was completed, for each of which it is not known whether it happened, for each order that is
-- not followed, and for the whole trace
abbrev pub books_json : Tally → (currency : Option ℕ) → Lines → List UnfollowedOrder → Books → List ℕ
books_json tally currency ends unfollowed books =
    rows_text (λ row line. line_text (booked_value row line)) ends.booked books.booked ++ rows_text (λ row line. line_text (unclear_value row line)) ends.unclear books.unclear
    ++ flat_map (λ order. line_text (unfollowed_value order)) unfollowed ++ line_text (summary_value tally currency (total books.booked))

-- the books in that form
abbrev pub books_in : Form → Tally → (currency : Option ℕ) → Lines → List UnfollowedOrder → Books → List ℕ
books_in Text tally currency ends unfollowed books = books_text books
books_in Json tally currency ends unfollowed books = books_json tally currency ends unfollowed books

-- ---- the same texts, as they are written

abbrev pub receipt_part : Option (List ℕ) → List ℕ
receipt_part None = []
receipt_part (Some receipt) = codes ",\"receipt\":\"" ++ escape (encode_upper receipt) ++ 34 ∷ []

abbrev pub line_part : Option ℕ → List ℕ
line_part None = []
line_part (Some line) = codes ",\"line\":" ++ decimal line

unfoldable pub booked_text : Booked → Option ℕ → List ℕ
booked_text row line = codes "{\"booked\":{\"amount\":" ++ decimal row.amount ++ line_part line ++ receipt_part row.receipt ++ codes ",\"trace\":" ++ decimal row.trace ++ (codes "}}" ++ 10 ∷ [])

unfoldable pub unclear_text : ℕ × Cause → Option ℕ → List ℕ
unclear_text row line = codes "{\"unclear\":{\"amount\":" ++ decimal row.0 ++ codes ",\"cause\":\"" ++ cause_name row.1 ++ (34 ∷ []) ++ line_part line ++ (codes "}}" ++ 10 ∷ [])

abbrev pub name_part : Option (List ℕ) → List ℕ
name_part None = []
name_part (Some name) = codes ",\"name\":\"" ++ name ++ 34 ∷ []

abbrev pub amount_part : Option Approval → List ℕ
amount_part None = []
amount_part (Some approval) = codes "\"approved\":" ++ decimal approval.amount ++ 44 ∷ []

abbrev pub trace_part : Option ℕ → List ℕ
trace_part None = []
trace_part (Some trace) = codes ",\"trace\":" ++ decimal trace

unfoldable pub unfollowed_text : UnfollowedOrder → List ℕ
unfollowed_text order =
    codes "{\"unfollowed\":{" ++ amount_part order.approved ++ codes "\"control\":\"" ++ escape (encode_upper (order.high ∷ order.low ∷ [])) ++ codes "\",\"line\":" ++ decimal order.line
    ++ name_part (command_name order.high order.low) ++ trace_part (trace_of order.approved) ++ (codes "}}" ++ 10 ∷ [])

abbrev pub currency_part : Option ℕ → List ℕ
currency_part None = []
currency_part (Some currency) = codes ",\"currency\":\"" ++ four_digits currency ++ 34 ∷ []

abbrev pub summary_text : Tally → (currency : Option ℕ) → (total : ℕ) → List ℕ
summary_text tally currency total = codes "{\"bad\":" ++ decimal tally.bad ++ currency_part currency ++ codes ",\"messages\":" ++ decimal tally.messages ++ codes ",\"total\":" ++ decimal total ++ (codes "}" ++ 10 ∷ [])
