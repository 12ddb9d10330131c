-- The orders beyond the profile.
use Rattle.std.specs.Prelude.{◌≡◌, ℕ, ◌==◌, ◌&&◌, false, cond, nat_lt, List, [], ◌∷◌, length, take, drop, get_or, Option, Some, None, refl}
use Rattle.std.specs.List.{list_all}
use Rattle.zvt_bcd.specs.Digits.{is_digit_pair, number_of}
use Rattle.zvt_field.specs.Named.{positive}
use Rattle.zvt_apdu.specs.Message.{Message, ack, nack, registration, authorisation, reversal, end_of_day, abort_order, status, intermediate, print_line, text_block, completion, abort, other}
use Rattle.zvt_term.specs.declared.extras.Extra.{Extra}
use Rattle.zvt_term.specs.declared.extras.Extra.TheVariants.{Service, LogOff, RepeatReceipt, Refund}
use Rattle.zvt_term.specs.declared.extras.Extras.{Extras}
use Rattle.zvt_term.specs.declared.extras.Receipts.TheVariants.{Lines}

abbrev pub no_extras : Extras
no_extras = record { extended = false; card = None; receipts = Lines; intermediate = false; delay = 0 }

-- digits of an amount that is not zero
abbrev pub amount_in : List ℕ → Option ℕ
amount_in digits = cond (list_all is_digit_pair digits) (positive (number_of digits)) None

-- the amount (BMP 04), if it is the first field after the password
abbrev pub refund_amount : List ℕ → Option ℕ
refund_amount content = cond (nat_lt 9 (length content) && (get_or content 3 0 == 0x04)) (amount_in (take 6 (drop 4 content))) None

-- the control bytes of these orders (PA00P015, the chapter of each command), and the order of such a message
abbrev pub extras : List ℕ → List (ℕ × ℕ × Extra)
extras content =
    (0x05, 0x01, Service)
    ∷ (0x06, 0x02, LogOff)
    ∷ (0x06, 0x20, RepeatReceipt)
    ∷ (0x06, 0x31, Refund (refund_amount content))
    ∷ (0x06, 0x70, Service)
    ∷ (0x06, 0x91, Service)
    ∷ (0x06, 0x93, Service)
    ∷ (0x08, 0x30, Service)
    ∷ []

abbrev pub extra_in : (high low : ℕ) → List (ℕ × ℕ × Extra) → Option Extra
extra_in high low [] = None
extra_in high low (row ∷ rows) = cond ((high == row.0) && (low == row.1)) (Some row.2) (extra_in high low rows)

-- the order with these control bytes and data
unfoldable pub extra_at : (high low : ℕ) → List ℕ → Option Extra
extra_at high low content = extra_in high low (extras content)

abbrev pub extra_of : Message → Option Extra
extra_of (ack payload) = None
extra_of (nack code payload) = None
extra_of (registration password config rest) = None
extra_of (authorisation fields) = None
extra_of (reversal password fields) = None
extra_of (end_of_day password fields) = None
extra_of (abort_order fields) = None
extra_of (status fields) = None
extra_of (intermediate step payload) = None
extra_of (print_line attribute text) = None
extra_of (text_block fields) = None
extra_of (completion fields) = None
extra_of (abort code payload) = None
extra_of (other high low payload) = extra_at high low payload

-- ---- examples

-- a status enquiry with the default password
enquiry : extra_of (other 0x05 0x01 (0 ∷ 0 ∷ 0 ∷ [])) ≡ Some Service
unfolding extra_at
enquiry = refl

-- a refund of 12.34
refund : extra_of (other 0x06 0x31 (0 ∷ 0 ∷ 0 ∷ 0x04 ∷ 0 ∷ 0 ∷ 0 ∷ 0 ∷ 0x12 ∷ 0x34 ∷ 0x49 ∷ 0x09 ∷ 0x78 ∷ [])) ≡ Some (Refund (Some 1234))
unfolding extra_at
refund = refl

-- a refund of nothing, and one without an amount
refund_of_nothing : extra_of (other 0x06 0x31 (0 ∷ 0 ∷ 0 ∷ 0x04 ∷ 0 ∷ 0 ∷ 0 ∷ 0 ∷ 0 ∷ 0 ∷ [])) ≡ Some (Refund None)
unfolding extra_at
refund_of_nothing = refl

refund_without_amount : extra_of (other 0x06 0x31 (0 ∷ 0 ∷ 0 ∷ [])) ≡ Some (Refund None)
unfolding extra_at
refund_without_amount = refl

-- an order of a pre-authorisation is not among them
reservation : extra_of (other 0x06 0x22 (0 ∷ 0 ∷ 0 ∷ [])) ≡ None
unfolding extra_at
reservation = refl
