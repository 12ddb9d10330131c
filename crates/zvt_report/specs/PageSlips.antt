-- The slips of a page.
use Rattle.std.specs.Prelude.{◌≡◌, ℕ, cond, List, [], ◌∷◌, ◌++◌, codes, Option, refl}
use Rattle.std.specs.Fmt.{digits}
use Rattle.std.specs.List.{filter}
use Rattle.std.specs.Str.{is_utf8}
use Rattle.zvt_page.specs.Html.{Html, nothing, both, element, leaf, render, attribute_text, end_tag, escaped, start_tag}
use Rattle.zvt_page.specs.declared.elements.Attribute.TheVariants.{Class}
use Rattle.zvt_page.specs.declared.elements.Element.TheVariants.{H2, H3, Pre, Span}
use Rattle.zvt_text.specs.Codepages.{printed_text}
use Rattle.zvt_text.specs.declared.codepages.Codepage.{Codepage}
use Rattle.zvt_text.specs.declared.codepages.Codepage.TheVariants.{Cp437, Utf8}
use Rattle.zvt_report.specs.PageParts.{from_to}
use Rattle.zvt_report.specs.Slips.{Slip}
use Rattle.zvt_report.specs.Dialogue.{is_within}
use Rattle.zvt_report.specs.declared.slip_kinds.SlipKind.{SlipKind}
use Rattle.zvt_report.specs.declared.slip_kinds.SlipKind.TheVariants.{PrintLines, PrintTexts, Merchant, Customer, Report}

abbrev pub kind_title : SlipKind → List ℕ
kind_title PrintLines = codes "Print lines"
kind_title PrintTexts = codes "Print texts"
kind_title Merchant = codes "Merchant receipt"
kind_title Customer = codes "Customer receipt"
kind_title Report = codes "Terminal report"

-- UTF-8 if the text is valid in it, or else code page 437, which terminals have unless told otherwise
abbrev pub codepage_of : List ℕ → Codepage
codepage_of text = cond (is_utf8 text) Utf8 Cp437

unfoldable pub paper_line : List ℕ → Html
paper_line text = leaf Span [] (printed_text (codepage_of text) text)

-- a line for each text
abbrev pub paper : List (List ℕ) → Html
paper [] = nothing
paper (text ∷ texts) = both (paper_line text) (paper texts)

abbrev pub slip_title : SlipKind → (first last : ℕ) → List ℕ
slip_title kind first last = kind_title kind ++ codes " (lines " ++ from_to first last ++ codes ")"

unfoldable pub slip_html : Slip → Html
slip_html slip = both (leaf H3 [] (slip_title slip.kind slip.first slip.last)) (element Pre ((Class, codes "slip") ∷ []) (paper slip.texts))

abbrev pub slips_html : List Slip → Html
slips_html [] = nothing
slips_html (slip ∷ slips) = both (slip_html slip) (slips_html slips)

-- the slips that begin at these lines
abbrev pub shown_slips : Option (List (ℕ × ℕ)) → List Slip → List Slip
shown_slips ranges slips = filter (λ (slip : Slip). is_within ranges slip.first) slips

-- under their heading, if there are any
unfoldable pub slips_section : List Slip → Html
slips_section [] = nothing
slips_section (slip ∷ slips) = both (leaf H2 [] (codes "Printed by the terminal")) (slips_html (slip ∷ slips))

-- ---- a row worked by hand

a_slip : render (slips_html (record { kind = Customer; first = 32; last = 32; order = 2; texts = [] } ∷ []))
    ≡ codes "<h3>Customer receipt (lines 32-32)</h3><pre class=\"slip\"></pre>"
unfolding attribute_text digits end_tag escaped slip_html start_tag
a_slip = refl
