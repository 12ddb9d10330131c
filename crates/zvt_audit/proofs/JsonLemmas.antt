-- The text of a line of books is that of its value.
use Rattle.std.proofs.Common.{◌≡◌, ℕ, List, [], ◌∷◌, ◌++◌, Option, Some, None, codes, ◌+◌, length, refl, sym, ◌∙◌, ap, ap₂, append_assoc, append-nil, arith, Bor}
use Rattle.std.proofs.lemmas.Option.{slice_get_past, slice_get_read}
use Rattle.std.specs.Option.{option_copied}
use Rattle.std.specs.Slice.{IsItemAt}
use Rattle.std.proofs.lemmas.Grind.{flat_map-append}
use Rattle.std.specs.List.{enumerate_from, flat_map, slice_get}
use Rattle.std.specs.Fmt.{decimal}
use Rattle.hex.specs.Hex.{encode_upper}
use Rattle.json.specs.Print.{escape, escape_byte}
use Rattle.zvt_json.specs.Strings.{line_text}
use Rattle.zvt_json.proofs.EscapeLemmas.{IsPlain, command_plain, four_plain}
use Rattle.zvt_text.specs.MessageTexts.{four_digits}
use Rattle.zvt_till.specs.Books.{Booked, Books}
use Rattle.zvt_till.specs.Names.{cause_name}
use Rattle.zvt_till.specs.declared.outcomes.Cause.{Cause}
use Rattle.zvt_till.specs.declared.outcomes.Cause.TheVariants.{NoStatus, Conflict, AmountDiffers, NoTrace, TraceUsed, AbortAfterApproval, Line, Malformed, Unfinished, WrongCurrency}
use Rattle.zvt_trace.specs.declared.fault.Tally.{Tally}
use Rattle.zvt_audit.specs.Ends.{Lines}
use Rattle.serde_json.specs.Data.{Data, object, no_members, member}
use Rattle.zvt_json.specs.Strings.{count_value, hex_value}
use Rattle.zvt_text.specs.Meanings.{command_name}
use Rattle.zvt_audit.specs.Json.{amount_part, booked_text, booked_value, books_json, line_part, name_part, rows_text, summary_text, summary_value, trace_of, trace_part, unclear_text, unclear_value, unfollowed_text, unfollowed_value, with_amount, with_name, with_trace}
use Rattle.zvt_audit.specs.declared.unfollowed.Approval.{Approval}
use Rattle.zvt_audit.specs.declared.unfollowed.UnfollowedOrder.{UnfollowedOrder}
use Rattle.zvt_audit.specs.Sums.{sum_json, sum_value}
use Rattle.zvt_audit.specs.Booked.{total}
use Rattle.zvt_audit.specs.declared.sum.Sum.{Sum}

pub cause_plain : (c : Cause) → escape (cause_name c) ≡ cause_name c
unfolding escape_byte
cause_plain NoStatus = refl
cause_plain Conflict = refl
cause_plain AmountDiffers = refl
cause_plain NoTrace = refl
cause_plain TraceUsed = refl
cause_plain AbortAfterApproval = refl
cause_plain Line = refl
cause_plain Malformed = refl
cause_plain Unfinished = refl
cause_plain WrongCurrency = refl

grouped : (p a l r e q t d z : List ℕ) → p ++ a ++ l ++ (r ++ e ++ q) ++ t ++ d ++ z ≡ p ++ (a ++ (l ++ (r ++ (e ++ (q ++ (t ++ (d ++ z)))))))
grouped p a l r e q t d z = simp append_assoc

-- the text of a booked payment of this receipt number, from the line at which it ended on
booked_tail : (trace : ℕ) (receipt : List ℕ) → List ℕ
booked_tail trace receipt = codes ",\"receipt\":\"" ++ (escape (encode_upper receipt) ++ ((34 ∷ []) ++ (codes ",\"trace\":" ++ (decimal trace ++ (codes "}}" ++ 10 ∷ [])))))

no_receipt : (amount trace : ℕ) (line : Option ℕ) → booked_text (record { amount = amount; trace = trace; receipt = None }) line ≡ line_text (booked_value (record { amount = amount; trace = trace; receipt = None }) line)
unfolding booked_text escape_byte
no_receipt amount trace None = simp append_assoc
no_receipt amount trace (Some line) = simp append_assoc

one_nested : (amount trace : ℕ) (receipt : List ℕ) (line : Option ℕ)
    → codes "{\"booked\":{\"amount\":" ++ (decimal amount ++ (line_part line ++ booked_tail trace receipt)) ≡ line_text (booked_value (record { amount = amount; trace = trace; receipt = Some receipt }) line)
unfolding escape_byte booked_tail
one_nested amount trace receipt None = simp append_assoc
one_nested amount trace receipt (Some line) = simp append_assoc

with_one : (amount trace : ℕ) (receipt : List ℕ) (line : Option ℕ)
    → booked_text (record { amount = amount; trace = trace; receipt = Some receipt }) line ≡ line_text (booked_value (record { amount = amount; trace = trace; receipt = Some receipt }) line)
unfolding booked_text booked_tail
with_one amount trace receipt line =
    grouped (codes "{\"booked\":{\"amount\":") (decimal amount) (line_part line) (codes ",\"receipt\":\"") (escape (encode_upper receipt)) (34 ∷ []) (codes ",\"trace\":") (decimal trace) (codes "}}" ++ 10 ∷ [])
    ∙ one_nested amount trace receipt line

pub booked_said : (row : Booked) (line : Option ℕ) → booked_text row line ≡ line_text (booked_value row line)
booked_said row line = by row.amount row.trace row.receipt
  where
    by : (amount trace : ℕ) (receipt : Option (List ℕ))
        → booked_text (record { amount = amount; trace = trace; receipt = receipt }) line ≡ line_text (booked_value (record { amount = amount; trace = trace; receipt = receipt }) line)
    by amount trace None = no_receipt amount trace line
    by amount trace (Some receipt) = with_one amount trace receipt line

grouped_unclear : (p a k c q l z : List ℕ) → p ++ a ++ k ++ c ++ q ++ l ++ z ≡ p ++ (a ++ (k ++ (c ++ (q ++ (l ++ z)))))
grouped_unclear p a k c q l z = simp append_assoc

-- the text of an unclear payment from the name of its cause on
unclear_tail : (cause : List ℕ) (line : Option ℕ) → List ℕ
unclear_tail cause line = codes ",\"cause\":\"" ++ (cause ++ ((34 ∷ []) ++ (line_part line ++ (codes "}}" ++ 10 ∷ []))))

unclear_nested : (amount : ℕ) (cause : Cause) (line : Option ℕ) → codes "{\"unclear\":{\"amount\":" ++ (decimal amount ++ unclear_tail (escape (cause_name cause)) line) ≡ line_text (unclear_value (amount, cause) line)
unfolding escape_byte unclear_tail
unclear_nested amount cause None = simp append_assoc
unclear_nested amount cause (Some line) = simp append_assoc

pub unclear_said : (row : ℕ × Cause) (line : Option ℕ) → unclear_text row line ≡ line_text (unclear_value row line)
unfolding unclear_text unclear_tail
unclear_said row line =
    grouped_unclear (codes "{\"unclear\":{\"amount\":") (decimal row.0) (codes ",\"cause\":\"") (cause_name row.1) (34 ∷ []) (line_part line) (codes "}}" ++ 10 ∷ [])
    ∙ ap (λ (l : List ℕ). codes "{\"unclear\":{\"amount\":" ++ (decimal row.0 ++ unclear_tail l line)) (sym (cause_plain row.1))
    ∙ unclear_nested row.0 row.1 line

no_currency : (tally : Tally) (amount : ℕ) → summary_text tally None amount ≡ line_text (summary_value tally None amount)
unfolding escape_byte
no_currency tally amount = simp append_assoc

grouped_currency : (p a r e q t d u w z : List ℕ) → p ++ a ++ (r ++ e ++ q) ++ t ++ d ++ u ++ w ++ z ≡ p ++ (a ++ (r ++ (e ++ (q ++ (t ++ (d ++ (u ++ (w ++ z))))))))
grouped_currency p a r e q t d u w z = simp append_assoc

-- the text after a bad count, with a currency of these digits
abbrev currency_tail : (tally : Tally) (amount : ℕ) (digits : List ℕ) → List ℕ
currency_tail tally amount digits =
    codes ",\"currency\":\"" ++ (digits ++ ((34 ∷ []) ++ (codes ",\"messages\":" ++ (decimal tally.messages ++ (codes ",\"total\":" ++ (decimal amount ++ (codes "}" ++ 10 ∷ [])))))))

currency_nested : (tally : Tally) (currency amount : ℕ) → codes "{\"bad\":" ++ (decimal tally.bad ++ currency_tail tally amount (escape (four_digits currency))) ≡ line_text (summary_value tally (Some currency) amount)
unfolding escape_byte
currency_nested tally currency amount = simp append_assoc

with_currency : (tally : Tally) (currency amount : ℕ) → summary_text tally (Some currency) amount ≡ line_text (summary_value tally (Some currency) amount)
with_currency tally currency amount =
    grouped_currency (codes "{\"bad\":") (decimal tally.bad) (codes ",\"currency\":\"") (four_digits currency) (34 ∷ []) (codes ",\"messages\":") (decimal tally.messages) (codes ",\"total\":") (decimal amount) (codes "}" ++ 10 ∷ [])
    ∙ ap (λ (l : List ℕ). codes "{\"bad\":" ++ (decimal tally.bad ++ currency_tail tally amount l)) (sym (four_plain currency))
    ∙ currency_nested tally currency amount

pub summary_said : (tally : Tally) (currency : Option ℕ) (amount : ℕ) → summary_text tally currency amount ≡ line_text (summary_value tally currency amount)
summary_said tally None amount = no_currency tally amount
summary_said tally (Some currency) amount = with_currency tally currency amount

pub sum_said : (sum : Sum) → sum_json sum ≡ line_text (sum_value sum)
unfolding escape_byte
sum_said sum = simp append_assoc

-- rows of which each is said by its value
all_said : {A : Type 0} (f g : A → Option ℕ → List ℕ) (ends : List ℕ) → ((row : A) (line : Option ℕ) → f row line ≡ g row line) → (entries : List (ℕ × A))
    → flat_map (λ entry. f entry.1 (slice_get ends entry.0)) entries ≡ flat_map (λ entry. g entry.1 (slice_get ends entry.0)) entries
all_said f g ends same [] = refl
all_said f g ends same (entry ∷ entries) = ap₂ (λ (a b : List ℕ). a ++ b) (same entry.1 (slice_get ends entry.0)) (all_said f g ends same entries)

-- a text part by part, from the left and from the right
grouped_order : (p a k c l n m t z : List ℕ) → p ++ a ++ k ++ c ++ l ++ n ++ m ++ t ++ z ≡ p ++ (a ++ (k ++ (c ++ (l ++ (n ++ (m ++ (t ++ z)))))))
grouped_order p a k c l n m t z = simp append_assoc

abbrev order_object : (line : ℕ) (control : List ℕ) (name : Option (List ℕ)) → Option Approval → Data
order_object line control name approved =
    object (member (codes "unfollowed") (object (with_amount approved (member (codes "control") (hex_value control) (member (codes "line") (count_value line) (with_name name (with_trace (trace_of approved) no_members)))))) no_members)

-- the parts that may be left out, each with what comes after it
abbrev amount_then : Option Approval → List ℕ → List ℕ
amount_then None rest = rest
amount_then (Some approval) rest = codes "\"approved\":" ++ (decimal approval.amount ++ ((44 ∷ []) ++ rest))

amount_first : (approved : Option Approval) (rest : List ℕ) → amount_part approved ++ rest ≡ amount_then approved rest
amount_first None rest = refl
amount_first (Some approval) rest =
    append_assoc (codes "\"approved\":" ++ decimal approval.amount) (44 ∷ []) rest ∙ append_assoc (codes "\"approved\":") (decimal approval.amount) ((44 ∷ []) ++ rest)

abbrev name_then : Option (List ℕ) → List ℕ → List ℕ
name_then None rest = rest
name_then (Some name) rest = codes ",\"name\":\"" ++ (escape name ++ ((34 ∷ []) ++ rest))

name_next : (name : Option (List ℕ)) → IsPlain name → (rest : List ℕ) → name_part name ++ rest ≡ name_then name rest
name_next None plain rest = refl
name_next (Some name) plain rest =
    let same : escape name ≡ name = plain in
    append_assoc (codes ",\"name\":\"" ++ name) (34 ∷ []) rest ∙ append_assoc (codes ",\"name\":\"") name ((34 ∷ []) ++ rest) ∙ ap (λ (l : List ℕ). codes ",\"name\":\"" ++ (l ++ ((34 ∷ []) ++ rest))) (sym same)

abbrev trace_then : Option ℕ → List ℕ → List ℕ
trace_then None rest = rest
trace_then (Some trace) rest = codes ",\"trace\":" ++ (decimal trace ++ rest)

trace_next : (trace : Option ℕ) (rest : List ℕ) → trace_part trace ++ rest ≡ trace_then trace rest
trace_next None rest = refl
trace_next (Some trace) rest = append_assoc (codes ",\"trace\":") (decimal trace) rest

-- the text up to the name, and what comes after that
abbrev order_to : (line : ℕ) (control : List ℕ) → List ℕ → List ℕ
order_to line control rest = codes "\"control\":\"" ++ (escape (encode_upper control) ++ (codes "\",\"line\":" ++ (decimal line ++ rest)))

abbrev order_parts : (line : ℕ) (control : List ℕ) (name : Option (List ℕ)) → Option Approval → List ℕ
order_parts line control name approved = codes "{\"unfollowed\":{" ++ amount_then approved (order_to line control (name_then name (trace_then (trace_of approved) (codes "}}" ++ 10 ∷ []))))

not_approved : (line : ℕ) (control : List ℕ) (name : Option (List ℕ)) → order_parts line control name None ≡ line_text (order_object line control name None)
unfolding escape_byte
not_approved line control None = simp append_assoc
not_approved line control (Some name) = simp append_assoc

is_approved : (line : ℕ) (control : List ℕ) (name : Option (List ℕ)) (amount : ℕ) (trace : Option ℕ)
    → order_parts line control name (Some (record { amount = amount; trace = trace })) ≡ line_text (order_object line control name (Some (record { amount = amount; trace = trace })))
unfolding escape_byte
is_approved line control None amount None = simp append_assoc
is_approved line control None amount (Some trace) = simp append_assoc
is_approved line control (Some name) amount None = simp append_assoc
is_approved line control (Some name) amount (Some trace) = simp append_assoc

order_said : (line : ℕ) (control : List ℕ) (name : Option (List ℕ)) (approved : Option Approval) → order_parts line control name approved ≡ line_text (order_object line control name approved)
order_said line control name None = not_approved line control name
order_said line control name (Some approval) = is_approved line control name approval.amount approval.trace

unfollowed_said : (order : UnfollowedOrder) → unfollowed_text order ≡ line_text (unfollowed_value order)
unfolding unfollowed_text
unfollowed_said order =
    let control = order.high ∷ order.low ∷ [] in
    let name = command_name order.high order.low in
    let last = codes "}}" ++ 10 ∷ [] in
    grouped_order (codes "{\"unfollowed\":{") (amount_part order.approved) (codes "\"control\":\"") (escape (encode_upper control)) (codes "\",\"line\":") (decimal order.line) (name_part name) (trace_part (trace_of order.approved)) last
    ∙ ap (λ (l : List ℕ). codes "{\"unfollowed\":{" ++ (amount_part order.approved ++ order_to order.line control l))
    (ap (λ (l : List ℕ). name_part name ++ l) (trace_next (trace_of order.approved) last) ∙ name_next name (command_plain order.high order.low) (trace_then (trace_of order.approved) last))
    ∙ ap (λ (l : List ℕ). codes "{\"unfollowed\":{" ++ l) (amount_first order.approved (order_to order.line control (name_then name (trace_then (trace_of order.approved) last))))
    ∙ order_said order.line control name order.approved

each_said : (orders : List UnfollowedOrder) → flat_map unfollowed_text orders ≡ flat_map (λ order. line_text (unfollowed_value order)) orders
each_said [] = refl
each_said (order ∷ orders) = ap₂ (λ (a b : List ℕ). a ++ b) (unfollowed_said order) (each_said orders)

pub books_said : (tally : Tally) (currency : Option ℕ) (ends : Lines) (unfollowed : List UnfollowedOrder) (books : Books)
    → rows_text booked_text ends.booked books.booked ++ rows_text unclear_text ends.unclear books.unclear ++ flat_map unfollowed_text unfollowed ++ summary_text tally currency (total books.booked) ≡ books_json tally currency ends unfollowed books
books_said tally currency ends unfollowed books =
    ap₂ (λ (a b : List ℕ). a ++ b)
    (ap₂ (λ (a b : List ℕ). a ++ b) (ap₂ (λ (a b : List ℕ). a ++ b) (all_said booked_text (λ row line. line_text (booked_value row line)) ends.booked booked_said (enumerate_from 0 books.booked))
    (all_said unclear_text (λ row line. line_text (unclear_value row line)) ends.unclear unclear_said (enumerate_from 0 books.unclear))) (each_said unfollowed))
    (summary_said tally currency (total books.booked))

-- ---- rows, one after another

enumerate_last : {A : Type 0} (n : ℕ) (rows : List A) (row : A) → enumerate_from n (rows ++ row ∷ []) ≡ enumerate_from n rows ++ (n + length rows, row) ∷ []
enumerate_last n [] row = ap (λ (k : ℕ). (k, row) ∷ []) (omega arith)
enumerate_last {A = A} n (first ∷ rows) row =
    ap (λ (l : List (ℕ × A)). (n, first) ∷ l) (enumerate_last (n + 1) rows row ∙ ap (λ (k : ℕ). enumerate_from (n + 1) rows ++ (k, row) ∷ []) (omega arith))

none_before : (n : ℕ) → 0 + n ≡ n
none_before n = omega arith

-- one row more is written
pub rows_more : {A : Type 0} (text : A → Option ℕ → List ℕ) (ends : List ℕ) (rows : List A) (row : A) → rows_text text ends (rows ++ row ∷ []) ≡ rows_text text ends rows ++ text row (slice_get ends (length rows))
rows_more {A = A} text ends rows row =
    ap (flat_map (λ (entry : ℕ × A). text entry.1 (slice_get ends entry.0))) (enumerate_last 0 rows row ∙ ap (λ (k : ℕ). enumerate_from 0 rows ++ (k, row) ∷ []) (none_before (length rows)))
    ∙ flat_map-append (λ (entry : ℕ × A). text entry.1 (slice_get ends entry.0)) (enumerate_from 0 rows) ((length rows, row) ∷ [])
    ∙ ap (λ (l : List ℕ). rows_text text ends rows ++ l) (append-nil (text row (slice_get ends (length rows))))

-- the element that a slice lends at a place
pub item_copied : (xs : List ℕ) (at : ℕ) (item : Option (Bor ℕ)) → IsItemAt xs at item → option_copied item ≡ slice_get xs at
item_copied xs at None (is, value, there, past, default) = sym (slice_get_past xs at past)
item_copied xs at (Some item) (is, value, there, here, default) = sym (slice_get_read xs (length xs) at item.now refl here.0 value)

-- one row more is added
pub one_row : {A : Type 0} (text : A → Option ℕ → List ℕ) (ends : List ℕ) (rows longer : List A) (row : A) (line : Option ℕ) (initial before after : List ℕ)
    → longer ≡ rows ++ row ∷ [] → line ≡ slice_get ends (length rows) → before ≡ initial ++ rows_text text ends rows → after ≡ before ++ text row line → after ≡ initial ++ rows_text text ends longer
one_row text ends rows longer row line initial before after grown at so added =
    added ∙ ap₂ (λ (a b : List ℕ). a ++ b) so (ap (text row) at) ∙ append_assoc initial (rows_text text ends rows) (text row (slice_get ends (length rows)))
    ∙ ap (λ (l : List ℕ). initial ++ l) (sym (rows_more text ends rows row) ∙ ap (rows_text text ends) (sym grown))

-- ---- what is added one after another

pub more : (t0 t a b t1 : List ℕ) → t ≡ t0 ++ a → t1 ≡ t ++ b → t1 ≡ t0 ++ (a ++ b)
more t0 t a b t1 first second = second ∙ (ap (λ (l : List ℕ). l ++ b) first ∙ append_assoc t0 a b)
