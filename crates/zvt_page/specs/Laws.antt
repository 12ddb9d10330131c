-- The laws of pages.
use Rattle.std.specs.Prelude.{◌≡◌, ℕ, ◌==◌, ◌||◌, not, Bool, true, List, [], ◌∷◌, ◌++◌, map}
use Rattle.std.specs.List.{list_all}
use Rattle.zvt_page.specs.Html.{Html, nothing, both, element, text, escaped, is_control, render, shown}
use Rattle.zvt_page.specs.declared.elements.Attribute.{Attribute}
use Rattle.zvt_page.specs.declared.elements.Element.{Element}

-- ---- escaped text

-- no control character, and none that begins or ends an element or the value of an attribute
abbrev pub is_harmless : ℕ → Bool
is_harmless c = not (is_control c || (c == 60 || (c == 62 || (c == 34 || c == 39))))

abbrev pub EscapedIsHarmless : Type 0
EscapedIsHarmless = (characters : List ℕ) → list_all is_harmless (escaped characters) ≡ true

-- ---- a page is read back

-- what a reader of a page meets: the begin of an element, its end, or a character
pub data Token : Type 0 where
  begins : Element → List (Attribute × List ℕ) → Token
  ends : Element → Token
  letter : ℕ → Token

abbrev pub shown_attribute : Attribute × List ℕ → Attribute × List ℕ
shown_attribute a = (a.0, map shown a.1)

abbrev pub shown_letter : ℕ → Token
shown_letter c = letter (shown c)

abbrev pub tokens : Html → List Token
tokens nothing = []
tokens (both first later) = tokens first ++ tokens later
tokens (element e attributes inner) = begins e (map shown_attribute attributes) ∷ tokens inner ++ ends e ∷ []
tokens (text characters) = map shown_letter characters

-- Two pages that are spelled alike have the same elements, attributes and characters at the same places. So there is one way to
-- read a page, and no text in it begins or ends an element.
abbrev pub PagesAreReadBack : Type 0
PagesAreReadBack = (one other : Html) → render one ≡ render other → tokens one ≡ tokens other
