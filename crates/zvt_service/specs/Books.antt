-- The books that a service knows: its own, and those of earlier days.
use Rattle.std.specs.Prelude.{ℕ, Bool, true, false, List, find, Option, is_some, option_and_then, option_map}
use Rattle.std.specs.Option.{option_or}
use Rattle.zvt_till.specs.declared.entries.Entry.{Entry}
use Rattle.zvt_settle.specs.Inside.{both_of}
use Rattle.zvt_settle.specs.Settling.{Both}
use Rattle.zvt_kept.specs.declared.past_orders.PastOrder.{PastOrder}
use Rattle.zvt_kept.specs.declared.recovery.Recovered.{Recovered}
use Rattle.zvt_kept.specs.PastOrders.{first_noted}
use Rattle.zvt_service.specs.declared.books.Found.{Found}
use Rattle.zvt_service.specs.declared.fates.Fate.{Fate}
use Rattle.zvt_service.specs.Fates.{fate_of}

-- an order, what is known of it, and the entries of its book
pub record OrderIn : Type 0 where
  pub past : PastOrder
  pub fate : Fate
  pub entries : List Entry
  -- whether its book is the service's own
  pub is_own : Bool

abbrev pub order_found : Found → OrderIn
order_found found = record { past = found.past.now; fate = found.fate; entries = found.entries.now; is_own = found.is_own }

-- an order of a book with this till and these orders, the first with this key
abbrev pub order_in : (key : List ℕ) → (is_own : Bool) → Both → List PastOrder → PastOrder → OrderIn
order_in key is_own both past one = record { past = one; fate = fate_of key past both.settling.settled one; entries = both.till.book; is_own = is_own }

-- the order with this key in a book with this till and these orders
abbrev pub in_book : (key : List ℕ) → (is_own : Bool) → Both → List PastOrder → Option OrderIn
in_book key is_own both past = option_map (order_in key is_own both past) (first_noted key past)

abbrev pub has_key : (key : List ℕ) → Recovered → Bool
has_key key book = is_some (first_noted key book.orders)

abbrev pub in_recovered : (key : List ℕ) → Recovered → Option OrderIn
in_recovered key book = in_book key false (both_of book.till) book.orders

-- the order with this key in the first of these books that has one
abbrev pub in_earlier : (key : List ℕ) → List Recovered → Option OrderIn
in_earlier key earlier = option_and_then (in_recovered key) (find (has_key key) earlier)

-- the order with this key in a service's own book, or else in one of the earlier books
abbrev pub in_books : (key : List ℕ) → (own : Both) → List PastOrder → (earlier : List Recovered) → Option OrderIn
in_books key own past earlier = option_or (in_book key true own past) (in_earlier key earlier)
