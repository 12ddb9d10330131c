-- The state of a till as JSON.
use Rattle.std.specs.Prelude.{ℕ, Bool, true, false, List, [], ◌++◌, codes, length, Option, Some, None}
use Rattle.std.specs.Fmt.{decimal}
use Rattle.std.specs.List.{flat_map}
use Rattle.zvt_till.specs.declared.orders.Order.{Order}
use Rattle.zvt_till.specs.declared.outcomes.Outcome.{Outcome}
use Rattle.zvt_till.specs.Marks.{total}
use Rattle.zvt_till.specs.Till.{TillState}
use Rattle.zvt_kept.specs.declared.past_orders.PastOrder.{PastOrder}
use Rattle.zvt_kept.specs.Notes.{reference_in}
use Rattle.zvt_serve.specs.Answers.{bool_text, key_letter, order_name}

abbrev pub book_word : (failed : Bool) → List ℕ
book_word true = codes "\"failed\""
book_word false = codes "\"open\""

abbrev pub line_word : (up : Bool) → List ℕ
line_word true = codes "\"up\""
line_word false = codes "\"down\""

abbrev pub running_key_part : Option (List ℕ) → List ℕ
running_key_part None = []
running_key_part (Some key) = codes ",\"running_key\":\"" ++ flat_map key_letter key ++ codes "\""

unfoldable pub unended_part : Order → Option (List ℕ) → List ℕ
unended_part order key = codes ",\"running\":\"" ++ order_name order ++ codes "\"" ++ running_key_part key

abbrev pub running_order_part : Option Outcome → Order → Option (List ℕ) → List ℕ
running_order_part None order key = unended_part order key
running_order_part (Some outcome) order key = []

-- the last order and its key, while it is running
abbrev pub running_part : Option PastOrder → List ℕ
running_part None = []
running_part (Some past) = running_order_part past.outcome past.order (reference_in past.note)

unfoldable pub sums_text : TillState → List ℕ
sums_text till = codes ",\"total\":" ++ decimal (total till.book) ++ codes ",\"unclear\":" ++ decimal (length till.unclear) ++ codes "}\n"

-- the state of the till and its book, and the last order
unfoldable pub status_text : (failed : Bool) → TillState → (last : Option PastOrder) → List ℕ
status_text failed till last =
    codes "{\"book\":" ++ book_word failed ++ codes ",\"booked\":" ++ decimal (length till.book) ++ codes ",\"line\":" ++ line_word till.line_up
    ++ codes ",\"registered\":" ++ bool_text till.registered ++ running_part last ++ sums_text till
