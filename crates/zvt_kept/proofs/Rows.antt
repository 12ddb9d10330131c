-- What some records are, and what some texts mean, worked out.
use Rattle.std.proofs.Common.{◌≡◌, true, false, [], ◌∷◌, Some, None, refl}
use Rattle.std.specs.Prelude.{codes}
use Rattle.std.specs.Fmt.{digits}
use Rattle.hex.proofs.OnLiterals.{hex_on_literals}
use Rattle.zvt_till.specs.declared.orders.Order.TheVariants.{Register, Pay, Reverse, CloseDay, Cancel}
use Rattle.zvt_kept.specs.Records.{ordered, asked, heard, lost, ask_lines, heard_lines, kept_in, one_or_none, opening, order_lines}

-- ---- texts

opening_text : opening 978 false ≡ codes "# zvt journal 1, currency 978\n"
unfolding digits
opening_text = refl

ruled_text : opening 978 true ≡ codes "# zvt journal 1, currency 978, reversals by receipt\n"
unfolding digits
ruled_text = refl

payment_text : order_lines (Pay 1234) [] (6 ∷ 1 ∷ 0 ∷ []) ≡ codes "# pay 1234\n> 060100\n"
unfolding hex_on_literals digits
payment_text = refl

noted_text : order_lines (Pay 1234) (codes " at 2026-11-28T09:14:03Z ref A-1009") (6 ∷ 1 ∷ 0 ∷ []) ≡ codes "# pay 1234 at 2026-11-28T09:14:03Z ref A-1009\n> 060100\n"
unfolding hex_on_literals digits
noted_text = refl

-- an entry is counted from 1
reversal_text : order_lines (Reverse 2) [] (6 ∷ 48 ∷ 0 ∷ []) ≡ codes "# reverse 3\n> 063000\n"
unfolding hex_on_literals digits
reversal_text = refl

order_alone_text : order_lines CloseDay [] [] ≡ codes "# close\n"
order_alone_text = refl

-- the password is 00 00 00
ask_text : ask_lines (codes " at 2026-11-28T09:14:03Z") ≡ codes "# ask at 2026-11-28T09:14:03Z\n> 062003000000\n"
unfolding hex_on_literals
ask_text = refl

heard_text : heard_lines (6 ∷ 15 ∷ 0 ∷ []) (one_or_none (128 ∷ 0 ∷ 0 ∷ [])) ≡ codes "< 060F00\n> 800000\n"
unfolding hex_on_literals
heard_text = refl

heard_alone_text : heard_lines (128 ∷ 0 ∷ 0 ∷ []) (one_or_none []) ≡ codes "< 800000\n"
unfolding hex_on_literals
heard_alone_text = refl

-- ---- what texts mean

empty : kept_in [] ≡ Some []
empty = refl

payment : kept_in (codes "# pay 1234\n> 060100\n< 800000\n< 060F00\n> 800000\n") ≡ Some (ordered (Pay 1234) [] ∷ heard (128 ∷ 0 ∷ 0 ∷ []) ∷ heard (6 ∷ 15 ∷ 0 ∷ []) ∷ [])
unfolding hex_on_literals
payment = refl

reversal : kept_in (codes "# reverse 3\n> 063000\n< 800000\n") ≡ Some (ordered (Reverse 2) [] ∷ heard (128 ∷ 0 ∷ 0 ∷ []) ∷ [])
unfolding hex_on_literals
reversal = refl

-- the connection is lost while an order runs, and the till registers again
restart : kept_in (codes "# zvt journal 1, currency 978\n# register\n> 060000\n!\n# register\n> 060000\n# cancel\n# close\n") ≡ Some (ordered Register [] ∷ lost ∷ ordered Register [] ∷ ordered Cancel [] ∷ ordered CloseDay [] ∷ [])
unfolding hex_on_literals
restart = refl

-- the line is lost during a payment, and the till asks what became of it
ask : kept_in (codes "# pay 1234\n> 060100\n!\n# register\n< 060F00\n> 800000\n# ask\n> 062003000000\n< 800000\n# ask ref A-1009\n") ≡ Some (ordered (Pay 1234) [] ∷ lost ∷ ordered Register [] ∷ heard (6 ∷ 15 ∷ 0 ∷ []) ∷ asked [] ∷ heard (128 ∷ 0 ∷ 0 ∷ []) ∷ asked (codes " ref A-1009") ∷ [])
unfolding hex_on_literals
ask = refl

-- one carriage return before a line feed is no part of the line
carriage_return : kept_in (codes "# pay 1234\r\n!\r\n") ≡ Some (ordered (Pay 1234) [] ∷ lost ∷ [])
carriage_return = refl

-- an order has its note
noted :
    kept_in (codes "# register at 2026-11-28T09:14:03Z\n# pay 1234 ref A-1009\n# reverse 3 at 2026-11-28T09:14:03Z ref 7\n# close\n")
    ≡ Some (ordered Register (codes " at 2026-11-28T09:14:03Z") ∷ ordered (Pay 1234) (codes " ref A-1009") ∷ ordered (Reverse 2) (codes " at 2026-11-28T09:14:03Z ref 7") ∷ ordered CloseDay [] ∷ [])
noted = refl

wrong_note : kept_in (codes "# pay 1234 ref two words\n") ≡ None
wrong_note = refl

wrong_time : kept_in (codes "# pay 1234 at 2026-11-28\n") ≡ None
wrong_time = refl

-- a person's remarks mean nothing
remarks : kept_in (codes "# cash drawer 2\n# pay 1234\n> 060100\n# payment by card\n!\n# \n") ≡ Some (ordered (Pay 1234) [] ∷ lost ∷ [])
unfolding hex_on_literals
remarks = refl

-- ---- texts that have no meaning

no_digit : kept_in (codes "!\n< 8G\n") ≡ None
unfolding hex_on_literals
no_digit = refl

half_a_byte : kept_in (codes "< 80000\n") ≡ None
unfolding hex_on_literals
half_a_byte = refl

no_space : kept_in (codes "<800000\n") ≡ None
unfolding hex_on_literals
no_space = refl

no_bytes : kept_in (codes "< \n") ≡ None
unfolding hex_on_literals
no_bytes = refl

wrong_sent : kept_in (codes "# pay 1234\n> 06010\n") ≡ None
unfolding hex_on_literals
wrong_sent = refl

no_bytes_sent : kept_in (codes "> \n") ≡ None
unfolding hex_on_literals
no_bytes_sent = refl

more_than_a_loss : kept_in (codes "!!\n") ≡ None
more_than_a_loss = refl

other : kept_in (codes "!\nregister\n") ≡ None
other = refl

empty_line : kept_in (codes "!\n\n!\n") ≡ None
empty_line = refl

-- a reserved word, and no whole order
no_order : kept_in (codes "# pay 12x\n") ≡ None
no_order = refl

no_ask : kept_in (codes "# ask the cashier\n") ≡ None
no_ask = refl

-- a longer first word is a remark
asks : kept_in (codes "# asked the cashier\n") ≡ Some []
asks = refl

glued : kept_in (codes "# pay1234\n") ≡ None
glued = refl

-- bytes that were sent behind a remark: an order's line may be damaged
misspelled : kept_in (codes "# pby 1234\n> 060100\n") ≡ None
unfolding hex_on_literals
misspelled = refl

within_a_record : kept_in (codes "# pay 1234\n# by card\n> 060100\n") ≡ None
unfolding hex_on_literals
within_a_record = refl

no_amount : kept_in (codes "# pay 0\n") ≡ None
no_amount = refl

too_great : kept_in (codes "# pay 1000000000000\n") ≡ None
too_great = refl

no_entry : kept_in (codes "# reverse 0\n") ≡ None
no_entry = refl

sign_alone : kept_in (codes "#\n") ≡ None
sign_alone = refl

other_format : kept_in (codes "# zvt journal 2\n") ≡ None
other_format = refl
