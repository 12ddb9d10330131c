-- The cells of the tables of a page.
use Rattle.std.specs.Prelude.{ℕ, Bool, cond, List, [], ◌∷◌, ◌++◌, codes, Option, Some, None}
use Rattle.std.specs.Fmt.{decimal}
use Rattle.hex.specs.Hex.{encode_upper}
use Rattle.zvt_page.specs.Html.{Html, nothing, attributes_of, element, text, leaf}
use Rattle.zvt_page.specs.declared.elements.Attribute.TheVariants.{Class, Scope}
use Rattle.zvt_page.specs.declared.elements.Element.TheVariants.{Span, Td, Th}
use Rattle.zvt_report.specs.Amounts.{amount_text}
use Rattle.zvt_report.specs.Tones.{tone_class}
use Rattle.zvt_report.specs.declared.currencies.Decimals.{Decimals}
use Rattle.zvt_report.specs.declared.tones.Tone.{Tone}
use Rattle.zvt_text.specs.Numbers.{zero_padded}
use Rattle.zvt_trace.specs.Marks.{clock_text}
use Rattle.zvt_trace.specs.declared.moment.Moment.{Moment}

-- the heading of a column
unfoldable pub column : (class title : List ℕ) → Html
column class title = element Th (attributes_of class (Some (Scope, codes "col"))) (text title)

-- the column of times, if the table has one
unfoldable pub time_heading : (timed : Bool) → Html
time_heading timed = cond timed (column (codes "tm") (codes "Time")) nothing

abbrev pub clock_or_nothing : Option Moment → List ℕ
clock_or_nothing None = []
clock_or_nothing (Some time) = clock_text time

unfoldable pub time_cell : (timed : Bool) → Option Moment → Html
time_cell timed time = cond timed (leaf Td (codes "tm") (clock_or_nothing time)) nothing

-- an amount; an empty cell if there is none
abbrev pub amount_or_nothing : Decimals → Option ℕ → List ℕ
amount_or_nothing decimals None = []
amount_or_nothing decimals (Some amount) = amount_text decimals amount

unfoldable pub amount_cell : Decimals → Option ℕ → Html
amount_cell decimals amount = leaf Td (codes "n am") (amount_or_nothing decimals amount)

abbrev pub trace_digits : Option ℕ → List ℕ
trace_digits None = []
trace_digits (Some trace) = zero_padded 6 trace

unfoldable pub trace_cell : Option ℕ → Html
trace_cell trace = leaf Td (codes "ids") (trace_digits trace)

abbrev pub receipt_digits : Option (List ℕ) → List ℕ
receipt_digits None = []
receipt_digits (Some receipt) = encode_upper receipt

unfoldable pub receipt_cell : Option (List ℕ) → Html
receipt_cell receipt = leaf Td (codes "rc") (receipt_digits receipt)

abbrev pub from_to : (first last : ℕ) → List ℕ
from_to first last = decimal first ++ 45 ∷ decimal last

unfoldable pub lines_cell : (first last : ℕ) → Html
lines_cell first last = leaf Td (codes "ln") (from_to first last)

-- what became of an order
unfoldable pub outcome_cell : Tone → (words : List ℕ) → Html
outcome_cell tone words = element Td ((Class, codes "oc") ∷ []) (leaf Span (tone_class tone) words)
