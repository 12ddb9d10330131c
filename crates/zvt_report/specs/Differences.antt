-- How the total of an end of day differs from the book, in words.
use Rattle.std.specs.Prelude.{◌≡◌, ℕ, ◌-◌, nat_le, Bool, true, false, not, ◌||◌, ◌&&◌, cond, List, [], ◌∷◌, ◌++◌, codes, Option, Some, None, refl}
use Rattle.std.specs.Fmt.{decimal, digits}
use Rattle.zvt_report.specs.Amounts.{amount_text}
use Rattle.zvt_report.specs.declared.closings.Closing.{Closing}
use Rattle.zvt_report.specs.declared.currencies.Decimals.{Decimals}
use Rattle.zvt_report.specs.declared.currencies.Decimals.TheVariants.{Two as Cents}
use Rattle.zvt_report.specs.declared.explaining.Explained.TheVariants.{Nothing as Unexplained}
use Rattle.zvt_report.specs.declared.facts.Share.{Share}
use Rattle.zvt_report.specs.declared.facts.ShareName.{ShareName}
use Rattle.zvt_report.specs.declared.facts.ShareName.TheVariants as share
use Rattle.zvt_report.specs.declared.facts.Shares.{Shares}
use Rattle.zvt_report.specs.declared.facts.Shares.TheVariants.{Nothing, One, Two, Three}

-- ---- sums

abbrev pub distance : (a b : ℕ) → ℕ
distance a b = cond (nat_le b a) (a - b) (b - a)

-- by how much the total differs from the book
abbrev pub close_distance : Closing → ℕ
close_distance closing = elim closing.covered [ None ↦ 0 | Some covered ↦ distance covered closing.booked ]

unfoldable pub distance_part : Decimals → Option Closing → List ℕ
distance_part decimals None = []
distance_part decimals (Some closing) = codes " by " ++ amount_text decimals (close_distance closing)

-- a sum less another one
unfoldable pub difference_text : Decimals → (more less : ℕ) → List ℕ
difference_text decimals more less = cond (nat_le less more) (amount_text decimals (more - less)) (45 ∷ amount_text decimals (less - more))

unfoldable pub stated_text : Decimals → Option ℕ → List ℕ
stated_text decimals None = codes "-"
stated_text decimals (Some stated) = amount_text decimals stated

-- the total, the book, and by how much they differ
unfoldable pub totals_text : Decimals → Closing → List ℕ
totals_text decimals closing =
    codes "The terminal's total is " ++ stated_text decimals closing.stated ++ codes ", and the book has " ++ difference_text decimals closing.booked closing.taken_back
    ++ codes ": a difference of " ++ amount_text decimals (close_distance closing) ++ codes "."

unfoldable pub totals_part : Decimals → Option Closing → List ℕ
totals_part decimals None = []
totals_part decimals (Some closing) = totals_text decimals closing

-- ---- what makes the difference

abbrev pub share_words : ShareName → List ℕ
share_words share.Payment = codes "the unclear payment of "
share_words share.Reversal = codes "the unclear reversal of "
share_words share.Refund = codes "the refund of "
share_words share.Order = codes "the order of "

unfoldable pub share_text : Decimals → Share → List ℕ
share_text decimals s = share_words s.name ++ amount_text decimals s.amount ++ codes " (line " ++ decimal s.line ++ codes ")"

abbrev pub same_sign : (a b : Bool) → Bool
same_sign a b = (a && b) || (not a && not b)

abbrev pub joining : (same : Bool) → List ℕ
joining true = codes " and "
joining false = codes " less "

-- a share after the first one
unfoldable pub next_share : Decimals → (first next : Share) → List ℕ
next_share decimals first next = joining (same_sign first.adds next.adds) ++ share_text decimals next

unfoldable pub shares_part : Decimals → Shares → List ℕ
shares_part decimals Nothing = []
shares_part decimals (One a) = codes " It is exactly " ++ share_text decimals a ++ codes "."
shares_part decimals (Two a b) = codes " It is exactly " ++ share_text decimals a ++ next_share decimals a b ++ codes "."
shares_part decimals (Three a b c) = codes " It is exactly " ++ share_text decimals a ++ next_share decimals a b ++ next_share decimals a c ++ codes "."

abbrev pub shares_advice : Shares → List ℕ
shares_advice Nothing = codes "Settle the unclear payments and reversals first. Then compare the payments with the terminal's receipts."
shares_advice (One a) = codes "If this order is unclear, settle it. Nothing else is missing."
shares_advice (Two a b) = codes "If one of these orders is unclear, settle it. Nothing else is missing."
shares_advice (Three a b c) = codes "If one of these orders is unclear, settle it. Nothing else is missing."

-- ---- rows worked by hand

abbrev a_share : ShareName → (amount line : ℕ) → (adds : Bool) → Share
a_share name amount line adds = record { name = name; amount = amount; line = line; adds = adds }

a_difference : totals_part Cents (Some (record { stated = Some 17212; totals = None; booked = 15713; taken_back = 1500; covered = Some 18712; explained = Unexplained }))
    ++ shares_part Cents (Two (a_share share.Payment 3499 128 true) (a_share share.Refund 500 184 false))
    ≡ codes "The terminal's total is 172.12, and the book has 142.13: a difference of 29.99. It is exactly the unclear payment of 34.99 (line 128) less the refund of 5.00 (line 184)."
unfolding amount_text difference_text digits next_share share_text shares_part stated_text totals_part totals_text
a_difference = refl

three : shares_part Cents (Three (a_share share.Refund 500 2 false) (a_share share.Reversal 700 4 false) (a_share share.Order 900 6 true))
    ≡ codes " It is exactly the refund of 5.00 (line 2) and the unclear reversal of 7.00 (line 4) less the order of 9.00 (line 6)."
unfolding amount_text digits next_share share_text shares_part
three = refl

a_title : distance_part Cents (Some (record { stated = Some 0; totals = None; booked = 500; taken_back = 0; covered = Some 0; explained = Unexplained })) ≡ codes " by 5.00"
unfolding amount_text digits distance_part
a_title = refl

taken_back : difference_text Cents 0 500 ≡ codes "-5.00"
unfolding amount_text difference_text digits
taken_back = refl
