-- The answers of orders: their statuses and their JSON.
use Rattle.std.specs.Prelude.{◌≡◌, refl, ℕ, Bool, true, false, Option, Some, None, List, [], ◌∷◌, ◌++◌, codes, if◌then◌else◌, ◌==◌, ◌||◌}
use Rattle.std.specs.Fmt.{decimal, digits}
use Rattle.std.specs.List.{flat_map}
use Rattle.hex.specs.Hex.{encode_upper, encode_with}
use Rattle.zvt_text.specs.Meanings.{meaning_of}
use Rattle.zvt_till.specs.declared.orders.Order.{Order}
use Rattle.zvt_till.specs.declared.orders.Order.TheVariants.{Cancel, CloseDay, Pay, Register, Reverse}
use Rattle.zvt_till.specs.declared.outcomes.Outcome.TheVariants.{Aborted, DayClosed, Declined, Paid, Refused, Registered, Reversed, Unclear}
use Rattle.zvt_till.specs.Names.{cause_name}
use Rattle.zvt_service.specs.declared.fates.Fate.{Fate}
use Rattle.zvt_service.specs.declared.fates.Fate.TheVariants.{Ended, Running, Settled}
use Rattle.zvt_service.specs.declared.fates.Verdict.TheVariants.{NotPaid, Paid as SettledPaid}

abbrev pub bool_text : Bool → List ℕ
bool_text true = codes "true"
bool_text false = codes "false"

-- Only an order that took effect succeeds. What is unclear is no success.
abbrev pub outcome_status : Fate → ℕ
outcome_status Running = 202
outcome_status (Ended Registered) = 200
outcome_status (Ended (Paid trace receipt)) = 200
outcome_status (Ended Reversed) = 200
outcome_status (Ended DayClosed) = 200
outcome_status (Ended (Declined code)) = 402
outcome_status (Ended (Refused code)) = 402
outcome_status (Ended (Aborted code)) = 402
outcome_status (Ended (Unclear cause)) = 424
outcome_status (Settled (SettledPaid trace receipt)) = 200
outcome_status (Settled NotPaid) = 402

abbrev pub order_name : Order → List ℕ
order_name Register = codes "register"
order_name (Pay amount) = codes "pay"
order_name (Reverse at) = codes "reverse"
order_name CloseDay = codes "close"
order_name Cancel = codes "cancel"

abbrev pub outcome_name : Fate → List ℕ
outcome_name Running = codes "running"
outcome_name (Ended Registered) = codes "registered"
outcome_name (Ended (Paid trace receipt)) = codes "paid"
outcome_name (Ended Reversed) = codes "reversed"
outcome_name (Ended DayClosed) = codes "day closed"
outcome_name (Ended (Declined code)) = codes "declined"
outcome_name (Ended (Refused code)) = codes "refused"
outcome_name (Ended (Aborted code)) = codes "aborted"
outcome_name (Ended (Unclear cause)) = codes "unclear"
outcome_name (Settled (SettledPaid trace receipt)) = codes "paid"
outcome_name (Settled NotPaid) = codes "not paid"

-- ---- the members, sorted by name; those before the order end in a comma, and those after its outcome begin with one

-- what to do about an unclear order
abbrev pub advice_part : Fate → List ℕ
advice_part (Ended (Unclear cause)) = codes "\"advice\":\"It is unknown whether the terminal took the order. Look at its receipts before you send another.\","
advice_part other = []

abbrev pub amount_part : Order → List ℕ
amount_part (Pay amount) = codes "\"amount\":" ++ decimal amount ++ codes ","
amount_part other = []

abbrev pub cause_part : Fate → List ℕ
cause_part (Ended (Unclear cause)) = codes "\"cause\":\"" ++ cause_name cause ++ codes "\","
cause_part other = []

abbrev pub code_text : ℕ → List ℕ
code_text code = codes "\"code\":\"" ++ encode_upper (code ∷ []) ++ codes "\","

abbrev pub code_part : Fate → List ℕ
code_part (Ended (Declined code)) = code_text code
code_part (Ended (Refused code)) = code_text code
code_part (Ended (Aborted code)) = code_text code
code_part other = []

-- A reference is printable ASCII. JSON escapes two of its characters; a key has neither.
abbrev pub key_letter : ℕ → List ℕ
key_letter letter = if (letter == 34) || (letter == 92) then 92 ∷ letter ∷ [] else letter ∷ []

abbrev pub key_part : Option (List ℕ) → List ℕ
key_part None = []
key_part (Some key) = codes "\"key\":\"" ++ flat_map key_letter key ++ codes "\","

abbrev pub receipt_part : Option (List ℕ) → List ℕ
receipt_part None = []
receipt_part (Some number) = codes ",\"receipt\":\"" ++ encode_upper number ++ codes "\""

-- an ask settled the payment
abbrev pub settled_part : (settled : Bool) → List ℕ
settled_part false = []
settled_part true = codes ",\"settled\":true"

abbrev pub numbers_part : (trace : ℕ) → (receipt : Option (List ℕ)) → (reversed settled : Bool) → List ℕ
numbers_part trace receipt reversed settled =
    receipt_part receipt ++ codes ",\"reversed\":" ++ bool_text reversed ++ settled_part settled ++ codes ",\"trace\":" ++ decimal trace

abbrev pub paid_part : Fate → (reversed : Bool) → List ℕ
paid_part (Ended (Paid trace receipt)) reversed = numbers_part trace receipt reversed false
paid_part (Settled (SettledPaid trace receipt)) reversed = numbers_part trace receipt reversed true
paid_part (Settled NotPaid) reversed = settled_part true
paid_part other reversed = []

abbrev pub meaning_part : Option (List ℕ) → List ℕ
meaning_part None = []
meaning_part (Some words) = codes ",\"words\":\"" ++ words ++ codes "\""

abbrev pub words_part : Fate → List ℕ
words_part (Ended (Declined code)) = meaning_part (meaning_of code)
words_part (Ended (Refused code)) = meaning_part (meaning_of code)
words_part (Ended (Aborted code)) = meaning_part (meaning_of code)
words_part other = []

-- the members before the order
unfoldable pub first_members : (key : Option (List ℕ)) → Order → Fate → List ℕ
first_members key order fate =
    advice_part fate ++ amount_part order ++ cause_part fate ++ code_part fate ++ key_part key

unfoldable pub names_part : Order → Fate → List ℕ
names_part order fate =
    codes "\"order\":\"" ++ order_name order ++ codes "\",\"outcome\":\"" ++ outcome_name fate ++ codes "\""

-- the JSON of an order, and a line feed
unfoldable pub answer_text : (key : Option (List ℕ)) → Order → Fate → (reversed : Bool) → List ℕ
answer_text key order fate reversed =
    codes "{" ++ first_members key order fate ++ names_part order fate ++ paid_part fate reversed ++ words_part fate ++ codes "}\n"

-- what listeners are told when an order with a key ends
unfoldable pub event_text : (key : List ℕ) → Fate → List ℕ
event_text key fate =
    codes "{" ++ key_part (Some key) ++ codes "\"outcome\":\"" ++ outcome_name fate ++ codes "\"}"

-- ---- rows worked by hand

-- an ask found that an unclear payment happened, or that it did not
a_settled_payment :
    answer_text (Some (codes "sale-2026-000017")) (Pay 1234) (Settled (SettledPaid 7 (Some (0 ∷ 9 ∷ [])))) false
    ≡ codes "{\"amount\":1234,\"key\":\"sale-2026-000017\",\"order\":\"pay\",\"outcome\":\"paid\",\"receipt\":\"0009\",\"reversed\":false,\"settled\":true,\"trace\":7}\n"
unfolding answer_text digits encode_with first_members names_part
a_settled_payment = refl

no_payment :
    answer_text (Some (codes "sale-2026-000017")) (Pay 1234) (Settled NotPaid) false
    ≡ codes "{\"amount\":1234,\"key\":\"sale-2026-000017\",\"order\":\"pay\",\"outcome\":\"not paid\",\"settled\":true}\n"
unfolding answer_text digits encode_with first_members names_part
no_payment = refl
