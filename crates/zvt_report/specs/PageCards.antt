-- The summary of a day on a page.
use Rattle.std.specs.Prelude.{◌≡◌, ℕ, ◌==◌, ◌&&◌, cond, List, [], ◌∷◌, ◌++◌, codes, length, refl}
use Rattle.std.specs.Fmt.{digits}
use Rattle.zvt_page.specs.Html.{Html, element, class_of, leaf, all, attribute_text, end_tag, escaped, render, start_tag}
use Rattle.zvt_page.specs.declared.elements.Attribute.TheVariants.{Class}
use Rattle.zvt_page.specs.declared.elements.Element.TheVariants.{Dd, Div, Dl, Dt}
use Rattle.zvt_till.specs.Marks.{total}
use Rattle.zvt_till.specs.declared.entries.Entry.{Entry}
use Rattle.zvt_till.specs.declared.outcomes.Cause.{Cause}
use Rattle.zvt_till.specs.declared.outcomes.Cause.TheVariants.{Line}
use Rattle.zvt_report.specs.Amounts.{amount_text, count_text}
use Rattle.zvt_report.specs.Day.{DayValue}
use Rattle.zvt_report.specs.Laws.{booked_total, taken_back}
use Rattle.zvt_report.specs.Objects.{others_from}
use Rattle.zvt_report.specs.Summary.{minus}
use Rattle.zvt_report.specs.Sums.{reversed_count, unclear_reversals, unclear_total}
use Rattle.zvt_report.specs.declared.currencies.Decimals.{Decimals}
use Rattle.zvt_report.specs.declared.currencies.Decimals.TheVariants.{Two}
use Rattle.zvt_report.specs.declared.rows.OrderMessage.{OrderMessage}

-- a figure of the day: its name, its value, and what it consists of
abbrev pub card : (class name value note : List ℕ) → Html
card class name value note = element Div (class_of class) (all (leaf Dt [] name ∷ leaf Dd [] value ∷ leaf Dd [] note ∷ []))

unfoldable pub net_card : Decimals → List Entry → Html
net_card decimals book = card [] (codes "Net total") (amount_text decimals (total book)) (codes "booked, less what was taken back")

unfoldable pub booked_card : Decimals → List Entry → Html
booked_card decimals book = card [] (codes "Payments") (amount_text decimals (booked_total book)) (count_text (length book) (codes "booked payment"))

unfoldable pub taken_back_card : Decimals → List Entry → Html
taken_back_card decimals book =
    card [] (codes "Taken back") (minus (taken_back book) ++ amount_text decimals (taken_back book)) (count_text (reversed_count book) (codes "reversal"))

-- stands out if there is something unclear
abbrev pub unclear_class : (payments reversals : ℕ) → List ℕ
unclear_class payments reversals = cond ((payments == 0) && (reversals == 0)) [] (codes "act")

abbrev pub unclear_note : (payments reversals : ℕ) → List ℕ
unclear_note payments reversals = count_text payments (codes "payment") ++ codes ", " ++ count_text reversals (codes "reversal")

unfoldable pub unclear_card : Decimals → List Entry → List (ℕ × Cause) → Html
unclear_card decimals book unclear =
    card (unclear_class (length unclear) (unclear_reversals book)) (codes "Unclear") (amount_text decimals (unclear_total unclear))
    (unclear_note (length unclear) (unclear_reversals book))

unfoldable pub others_card : List OrderMessage → DayValue → Html
others_card messages books = card [] (codes "Other orders") (count_text (others_from messages 0 books.orders) (codes "order")) (codes "that move money, in no total")

unfoldable pub cards : Decimals → DayValue → List OrderMessage → Html
cards decimals books messages =
    element Dl ((Class, codes "cards") ∷ [])
    (all (net_card decimals books.book ∷ booked_card decimals books.book ∷ taken_back_card decimals books.book ∷ unclear_card decimals books.book books.unclear
    ∷ others_card messages books ∷ []))

-- ---- rows worked by hand

nothing_unclear : render (unclear_card Two [] []) ≡ codes "<div><dt>Unclear</dt><dd>0.00</dd><dd>0 payments, 0 reversals</dd></div>"
unfolding amount_text digits count_text end_tag escaped start_tag unclear_card
nothing_unclear = refl

one_unclear : render (unclear_card Two [] ((3499, Line) ∷ [])) ≡ codes "<div class=\"act\"><dt>Unclear</dt><dd>34.99</dd><dd>1 payment, 0 reversals</dd></div>"
unfolding amount_text attribute_text digits count_text end_tag escaped start_tag unclear_card
one_unclear = refl
