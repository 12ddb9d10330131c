-- The names of the elements and attributes of a page.
use Rattle.std.specs.Prelude.{ℕ, List, codes}
use Rattle.zvt_page.specs.declared.elements.Attribute.{Attribute}
use Rattle.zvt_page.specs.declared.elements.Attribute.TheVariants.{Class, Href, Id, Scope}
use Rattle.zvt_page.specs.declared.elements.Element.{Element}
use Rattle.zvt_page.specs.declared.elements.Element.TheVariants.{A, Dd, Div, Dl, Dt, Footer, H1, H2, H3, Header, Li, Main, Ol, P, Pre, Section, Span, Table, Tbody, Td, Th, Thead, Tr}

abbrev pub element_name : Element → List ℕ
element_name A = codes "a"
element_name Dd = codes "dd"
element_name Div = codes "div"
element_name Dl = codes "dl"
element_name Dt = codes "dt"
element_name Footer = codes "footer"
element_name H1 = codes "h1"
element_name H2 = codes "h2"
element_name H3 = codes "h3"
element_name Header = codes "header"
element_name Li = codes "li"
element_name Main = codes "main"
element_name Ol = codes "ol"
element_name P = codes "p"
element_name Pre = codes "pre"
element_name Section = codes "section"
element_name Span = codes "span"
element_name Table = codes "table"
element_name Tbody = codes "tbody"
element_name Td = codes "td"
element_name Th = codes "th"
element_name Thead = codes "thead"
element_name Tr = codes "tr"

abbrev pub attribute_name : Attribute → List ℕ
attribute_name Class = codes "class"
attribute_name Href = codes "href"
attribute_name Id = codes "id"
attribute_name Scope = codes "scope"
