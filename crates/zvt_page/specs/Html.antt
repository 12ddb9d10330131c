-- A page as a value, and how it is spelled.
use Rattle.std.specs.Prelude.{◌≡◌, ℕ, ◌==◌, ◌||◌, nat_lt, Bool, cond, List, [], ◌∷◌, ◌++◌, Option, Some, None, codes, refl}
use Rattle.std.specs.List.{flat_map}
use Rattle.zvt_page.specs.Names.{attribute_name, element_name}
use Rattle.zvt_page.specs.declared.elements.Attribute.{Attribute}
use Rattle.zvt_page.specs.declared.elements.Attribute.TheVariants.{Class, Href}
use Rattle.zvt_page.specs.declared.elements.Element.{Element}
use Rattle.zvt_page.specs.declared.elements.Element.TheVariants.{A, P, Td}

-- ---- a page

-- nothing, one part after another, an element with its attributes and what is in it, or text
pub data Html : Type 0 where
  nothing : Html
  both : Html → Html → Html
  element : Element → List (Attribute × List ℕ) → Html → Html
  text : List ℕ → Html

-- the parts, one after another
abbrev pub all : List Html → Html
all [] = nothing
all (part ∷ parts) = both part (all parts)

-- an element without a class has no attribute
abbrev pub class_of : List ℕ → List (Attribute × List ℕ)
class_of [] = []
class_of (letter ∷ class) = (Class, letter ∷ class) ∷ []

abbrev pub other_of : Option (Attribute × List ℕ) → List (Attribute × List ℕ)
other_of None = []
other_of (Some other) = other ∷ []

-- the class of an element, and another attribute if there is one
abbrev pub attributes_of : (class : List ℕ) → (other : Option (Attribute × List ℕ)) → List (Attribute × List ℕ)
attributes_of class None = class_of class
attributes_of class (Some other) = class_of class ++ other ∷ []

-- an element of this class that holds a text
abbrev pub leaf : Element → (class characters : List ℕ) → Html
leaf e class characters = element e (class_of class) (text characters)

-- ---- characters

abbrev pub is_control : ℕ → Bool
is_control c = nat_lt c 32 || c == 127

-- a page shows a blank in place of a control character
abbrev pub shown : ℕ → ℕ
shown c = cond (is_control c) 32 c

-- a character that markup uses is spelled as an entity
abbrev pub spelled : ℕ → List ℕ
spelled c =
    cond (c == 38) (codes "&amp;")
    (cond (c == 60) (codes "&lt;")
    (cond (c == 62) (codes "&gt;")
    (cond (c == 34) (codes "&quot;")
    (cond (c == 39) (codes "&#39;") (c ∷ [])))))

abbrev pub escaped_letter : ℕ → List ℕ
escaped_letter c = spelled (shown c)

unfoldable pub escaped : List ℕ → List ℕ
escaped characters = flat_map escaped_letter characters

-- ---- tags

unfoldable pub attribute_text : Attribute → List ℕ → List ℕ
attribute_text a value = 32 ∷ attribute_name a ++ codes "=\"" ++ escaped value ++ 34 ∷ []

abbrev pub attributes_text : List (Attribute × List ℕ) → List ℕ
attributes_text [] = []
attributes_text (a ∷ attributes) = attribute_text a.0 a.1 ++ attributes_text attributes

unfoldable pub start_tag : Element → List (Attribute × List ℕ) → List ℕ
start_tag e attributes = 60 ∷ element_name e ++ attributes_text attributes ++ 62 ∷ []

unfoldable pub end_tag : Element → List ℕ
end_tag e = codes "</" ++ element_name e ++ 62 ∷ []

abbrev pub render : Html → List ℕ
render nothing = []
render (both first later) = render first ++ render later
render (element e attributes inner) = start_tag e attributes ++ render inner ++ end_tag e
render (text characters) = escaped characters

-- ---- rows worked by hand

a_cell : render (leaf Td (codes "n") (codes "1.00")) ≡ codes "<td class=\"n\">1.00</td>"
unfolding attribute_text end_tag escaped start_tag
a_cell = refl

a_trap : render (all (text (codes "<b>\n") ∷ element A ((Href, codes "'\"&") ∷ []) nothing ∷ leaf P [] (codes "</p>") ∷ []))
    ≡ codes "&lt;b&gt; <a href=\"&#39;&quot;&amp;\"></a><p>&lt;/p&gt;</p>"
unfolding attribute_text end_tag escaped start_tag
a_trap = refl
