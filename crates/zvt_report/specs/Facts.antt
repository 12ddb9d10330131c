-- What the sentences about a look say.
use Rattle.std.specs.Prelude.{◌≡◌, ℕ, ◌==◌, ◌&&◌, ◌||◌, nat_le, Bool, true, false, not, cond, List, [], ◌∷◌, Option, Some, None, option_map, slice_get, refl}
use Rattle.std.specs.List.{position}
use Rattle.std.specs.Option.{option_and_then}
use Rattle.zvt_till.specs.declared.entries.Entry.{Entry}
use Rattle.zvt_till.specs.declared.happenings.Sent.{Sent}
use Rattle.zvt_till.specs.declared.happenings.Sent.TheVariants.{Pay, Reverse, CloseDay, Foreign}
use Rattle.zvt_till.specs.declared.outcomes.Cause.TheVariants.{Line}
use Rattle.zvt_till.specs.declared.outcomes.Outcome.{Outcome}
use Rattle.zvt_till.specs.declared.outcomes.Outcome.TheVariants.{Unclear, DayClosed}
use Rattle.zvt_report.specs.Differing.{closing_at}
use Rattle.zvt_report.specs.Explaining.{open_item}
use Rattle.zvt_report.specs.Kinds.{message_at}
use Rattle.zvt_report.specs.declared.cases.Look.{Look}
use Rattle.zvt_report.specs.declared.closings.Closing.{Closing}
use Rattle.zvt_report.specs.declared.explaining.Explained.{Explained}
use Rattle.zvt_report.specs.declared.explaining.Explained.TheVariants as explained
use Rattle.zvt_report.specs.declared.explaining.OpenItem.{OpenItem}
use Rattle.zvt_report.specs.declared.facts.Facts.{Facts}
use Rattle.zvt_report.specs.declared.facts.Share.{Share}
use Rattle.zvt_report.specs.declared.facts.ShareName.{ShareName}
use Rattle.zvt_report.specs.declared.facts.ShareName.TheVariants as share
use Rattle.zvt_report.specs.declared.facts.Shares.{Shares}
use Rattle.zvt_report.specs.declared.facts.Shares.TheVariants as shares
use Rattle.zvt_report.specs.declared.rows.OrderMessage.{OrderMessage}
use Rattle.zvt_report.specs.declared.rows.OrderRow.{OrderRow}

-- the payment that a reversal takes back
abbrev pub entry_of : List Entry → Sent → Option Entry
entry_of book (Reverse e) = slice_get book e
entry_of book _ = None

-- the order at this place
abbrev pub row_at : List OrderRow → (place : ℕ) → Option OrderRow
row_at rows place = slice_get rows place

abbrev pub maybe_row : List OrderRow → (place : Option ℕ) → Option OrderRow
maybe_row rows place = option_and_then (row_at rows) place

-- ---- what makes a difference

abbrev pub share_name : Sent → (low : ℕ) → ShareName
share_name (Pay a) low = share.Payment
share_name (Reverse e) low = share.Reversal
share_name Foreign low = cond (low == 0x31) share.Refund share.Order
share_name _ low = share.Order

abbrev pub share_of : OrderMessage → OrderRow → OpenItem → Share
share_of message row item = record { name = share_name row.order message.low; amount = item.amount; line = row.first; adds = item.adds }

-- what the order at this place adds to the terminal's total, or takes from it
abbrev pub share_at : List Entry → List OrderMessage → List OrderRow → (place : ℕ) → Option Share
share_at book messages rows place =
    option_and_then (λ (row : OrderRow). option_map (share_of (message_at messages place) row) (open_item book (message_at messages place) place row [])) (slice_get rows place)

-- a share changes a total that is greater than the book, or one that is less, in that direction
abbrev pub widens : (greater : Bool) → Share → Bool
widens greater s = cond greater s.adds (not s.adds)

abbrev pub one_share : Option Share → Shares
one_share None = shares.Nothing
one_share (Some a) = shares.One a

-- the first share widens the difference
abbrev pub two_shares : (greater : Bool) → Option Share → Option Share → Shares
two_shares greater (Some a) (Some b) = cond (widens greater a) (shares.Two a b) (shares.Two b a)
two_shares greater _ _ = shares.Nothing

abbrev pub three_shares : (greater : Bool) → Option Share → Option Share → Option Share → Shares
three_shares greater (Some a) (Some b) (Some c) = cond (widens greater a) (shares.Three a b c) (cond (widens greater b) (shares.Three b a c) (shares.Three c a b))
three_shares greater _ _ _ = shares.Nothing

-- the shares of these orders
abbrev pub shares_of : List Entry → List OrderMessage → List OrderRow → (greater : Bool) → Explained → Shares
shares_of book messages rows greater explained.Nothing = shares.Nothing
shares_of book messages rows greater explained.Empty = shares.Nothing
shares_of book messages rows greater (explained.One a) = one_share (share_at book messages rows a)
shares_of book messages rows greater (explained.Two a b) = two_shares greater (share_at book messages rows a) (share_at book messages rows b)
shares_of book messages rows greater (explained.Three a b c) = three_shares greater (share_at book messages rows a) (share_at book messages rows b) (share_at book messages rows c)
shares_of book messages rows greater explained.Several = shares.Nothing

-- the total is greater than the book
abbrev pub is_greater : Closing → Bool
is_greater closing = elim closing.covered [ None ↦ false | Some covered ↦ nat_le closing.booked covered ]

abbrev pub shares_in : List Entry → List OrderMessage → List OrderRow → Option Closing → Shares
shares_in book messages rows closing = elim closing [ None ↦ shares.Nothing | Some c ↦ shares_of book messages rows (is_greater c) c.explained ]

-- ---- what an end of day counts

abbrev pub names_order : (place : ℕ) → Explained → Bool
names_order place explained.Nothing = false
names_order place explained.Empty = false
names_order place (explained.One a) = a == place
names_order place (explained.Two a b) = (a == place) || (b == place)
names_order place (explained.Three a b c) = (a == place) || ((b == place) || (c == place))
names_order place explained.Several = false

-- the order at this place explains the total of this end of day
abbrev pub counts : (place : ℕ) → Option Closing → Bool
counts place closing = elim closing [ None ↦ false | Some c ↦ names_order place c.explained ]

-- the line of the end of day whose total the order at this place explains
abbrev pub counted_at : List (Option Closing) → List OrderRow → (place : ℕ) → Option ℕ
counted_at closings rows place = option_map (λ (row : OrderRow). row.first) (maybe_row rows (position (counts place) closings))

-- ---- all of it

-- the order asks for the last receipt once more
abbrev pub repeats_receipt : OrderMessage → Bool
repeats_receipt message = (message.high == 0x06) && (message.low == 0x20)

abbrev pub asks_again : List OrderMessage → (place : Option ℕ) → Bool
asks_again messages None = false
asks_again messages (Some p) = repeats_receipt (message_at messages p)

abbrev pub facts_with : List Entry → List (Option Closing) → List OrderMessage → List OrderRow → Look → OrderRow → Facts
facts_with book closings messages rows look row =
    record {
      row = row;
      message = message_at messages look.order;
      entry = entry_of book row.order;
      again = maybe_row rows look.again;
      confirmed = maybe_row rows look.confirmed_by;
      asked_again = asks_again messages look.confirmed_by;
      undone_by = look.undone_by;
      counted = counted_at closings rows look.order;
      closing = closing_at closings look.order;
      shares = shares_in book messages rows (closing_at closings look.order);
    }

abbrev pub facts_of : List Entry → List (Option Closing) → List OrderMessage → List OrderRow → Look → Option Facts
facts_of book closings messages rows look = option_map (facts_with book closings messages rows look) (row_at rows look.order)

-- ---- rows worked by hand

abbrev a_row : Sent → (first : ℕ) → Outcome → OrderRow
a_row order first outcome = record { order = order; first = first; last = first; outcome = outcome; approval = None; time = None; card = None }

abbrev with_amount : (low amount : ℕ) → OrderMessage
with_amount low amount = record { high = 0x06; low = low; amount = Some amount; receipt = None }

abbrev a_closing : (covered : ℕ) → Explained → Closing
a_closing covered e = record { stated = Some covered; totals = None; booked = 1000; taken_back = 0; covered = Some covered; explained = e }

abbrev some_rows : List OrderRow
some_rows = a_row Foreign 2 DayClosed ∷ a_row (Pay 3499) 8 (Unclear Line) ∷ a_row CloseDay 20 DayClosed ∷ []

abbrev some_messages : List OrderMessage
some_messages = with_amount 0x31 500 ∷ with_amount 0x01 3499 ∷ with_amount 0x50 0 ∷ []

-- 34.99 were charged, and 5.00 refunded before
greater_total : shares_in [] some_messages some_rows (Some (a_closing 3999 (explained.Two 0 1)))
    ≡ shares.Two (record { name = share.Payment; amount = 3499; line = 8; adds = true }) (record { name = share.Refund; amount = 500; line = 2; adds = false })
greater_total = refl

-- the refund alone makes the total less than the book
less_total : shares_in [] some_messages some_rows (Some (a_closing 500 (explained.One 0))) ≡ shares.One (record { name = share.Refund; amount = 500; line = 2; adds = false })
less_total = refl

counted_later : counted_at (None ∷ None ∷ Some (a_closing 3999 (explained.Two 0 1)) ∷ []) some_rows 1 ≡ Some 20
counted_later = refl

not_counted : counted_at (None ∷ None ∷ Some (a_closing 500 (explained.One 0)) ∷ []) some_rows 1 ≡ None
not_counted = refl
