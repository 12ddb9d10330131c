-- A page is read back from its spelling.
use Rattle.std.proofs.Common.{◌≡◌, ◌∙◌, ◌==◌, ◌++◌, ◌&&◌, ◌||◌, ℕ, Bool, true, false, cond, List, [], ◌∷◌, codes, Option, Some, None, ap, refl, sym, map, append_assoc, append-nil}
use Rattle.std.specs.List.{flat_map, list_all}
use Rattle.std.proofs.lemmas.Grind.{flat_map-append}
use Rattle.zvt_page.specs.Html.{Html, nothing, both, element, text, attribute_text, attributes_text, end_tag, render, shown, spelled, start_tag}
use Rattle.zvt_page.specs.Laws.{PagesAreReadBack, Token, begins, ends, letter, shown_attribute, shown_letter, tokens}
use Rattle.zvt_page.specs.Names.{attribute_name, element_name}
use Rattle.zvt_page.specs.declared.elements.Attribute.{Attribute}
use Rattle.zvt_page.specs.declared.elements.Attribute.TheVariants.{Class, Href, Id, Scope}
use Rattle.zvt_page.specs.declared.elements.Element.{Element}
use Rattle.zvt_page.specs.declared.elements.Element.TheVariants.{A, Dd, Div, Dl, Dt, Footer, H1, H2, H3, Header, Li, Main, Ol, P, Pre, Section, Span, Table, Tbody, Td, Th, Thead, Tr}
use Rattle.zvt_page.proofs.Letters.{as_shown, first_of, goes_on, is_quote, reads_first, not_empty, same_before, same_first, same_text, spelled_text, text_goes_on}

-- ---- names

abbrev same_name : List ℕ → List ℕ → Bool
same_name [] [] = true
same_name [] (d ∷ b) = false
same_name (c ∷ a) [] = false
same_name (c ∷ a) (d ∷ b) = (c == d) && same_name a b

abbrev element_in : List Element → List ℕ → Option Element
element_in [] name = None
element_in (e ∷ more) name = cond (same_name (element_name e) name) (Some e) (element_in more name)

abbrev element_named : List ℕ → Option Element
element_named name = element_in (A ∷ Dd ∷ Div ∷ Dl ∷ Dt ∷ Footer ∷ H1 ∷ H2 ∷ H3 ∷ Header ∷ Li ∷ Main ∷ Ol ∷ P ∷ Pre ∷ Section ∷ Span ∷ Table ∷ Tbody ∷ Td ∷ Th ∷ Thead ∷ Tr ∷ []) name

finds_element : (e : Element) → element_named (element_name e) ≡ Some e
finds_element A = refl
finds_element Dd = refl
finds_element Div = refl
finds_element Dl = refl
finds_element Dt = refl
finds_element Footer = refl
finds_element H1 = refl
finds_element H2 = refl
finds_element H3 = refl
finds_element Header = refl
finds_element Li = refl
finds_element Main = refl
finds_element Ol = refl
finds_element P = refl
finds_element Pre = refl
finds_element Section = refl
finds_element Span = refl
finds_element Table = refl
finds_element Tbody = refl
finds_element Td = refl
finds_element Th = refl
finds_element Thead = refl
finds_element Tr = refl

abbrev attribute_in : List Attribute → List ℕ → Option Attribute
attribute_in [] name = None
attribute_in (e ∷ more) name = cond (same_name (attribute_name e) name) (Some e) (attribute_in more name)

abbrev attribute_named : List ℕ → Option Attribute
attribute_named name = attribute_in (Class ∷ Href ∷ Id ∷ Scope ∷ []) name

finds_attribute : (e : Attribute) → attribute_named (attribute_name e) ≡ Some e
finds_attribute Class = refl
finds_attribute Href = refl
finds_attribute Id = refl
finds_attribute Scope = refl

-- a blank or the end of a tag stands after the name of an element, and an equals sign after that of an attribute
abbrev ends_name : ℕ → Bool
ends_name c = c == 32 || c == 62

abbrev is_equals : ℕ → Bool
is_equals c = c == 61

element_goes_on : (e : Element) → list_all (goes_on ends_name) (element_name e) ≡ true
element_goes_on A = refl
element_goes_on Dd = refl
element_goes_on Div = refl
element_goes_on Dl = refl
element_goes_on Dt = refl
element_goes_on Footer = refl
element_goes_on H1 = refl
element_goes_on H2 = refl
element_goes_on H3 = refl
element_goes_on Header = refl
element_goes_on Li = refl
element_goes_on Main = refl
element_goes_on Ol = refl
element_goes_on P = refl
element_goes_on Pre = refl
element_goes_on Section = refl
element_goes_on Span = refl
element_goes_on Table = refl
element_goes_on Tbody = refl
element_goes_on Td = refl
element_goes_on Th = refl
element_goes_on Thead = refl
element_goes_on Tr = refl

slash_goes_on : (e : Element) → list_all (goes_on ends_name) (47 ∷ element_name e) ≡ true
slash_goes_on e = element_goes_on e

attribute_goes_on : (a : Attribute) → list_all (goes_on is_equals) (attribute_name a) ≡ true
attribute_goes_on Class = refl
attribute_goes_on Href = refl
attribute_goes_on Id = refl
attribute_goes_on Scope = refl

abbrev some_element : Option Element → Element
some_element None = A
some_element (Some e) = e

abbrev some_attribute : Option Attribute → Attribute
some_attribute None = Class
some_attribute (Some a) = a

same_element : (e f : Element) → element_name e ≡ element_name f → e ≡ f
same_element e f same = ap some_element (sym (finds_element e) ∙ ap element_named same ∙ finds_element f)

same_attribute : (a b : Attribute) → attribute_name a ≡ attribute_name b → a ≡ b
same_attribute a b same = ap some_attribute (sym (finds_attribute a) ∙ ap attribute_named same ∙ finds_attribute b)

no_slash : (e f : Element) → element_name e ≡ 47 ∷ element_name f → ⊥
no_slash e f same =
    let found : Some e ≡ None = sym (finds_element e) ∙ ap element_named same in
    cc (found)

-- ---- tags

abbrev quoted : Attribute → List ℕ → List ℕ
quoted a value = 32 ∷ attribute_name a ++ codes "=\"" ++ spelled_text value ++ 34 ∷ []

abbrev all_quoted : List (Attribute × List ℕ) → List ℕ
all_quoted [] = []
all_quoted (a ∷ attributes) = quoted a.0 a.1 ++ all_quoted attributes

abbrev spell : Token → List ℕ
spell (begins e attributes) = 60 ∷ element_name e ++ all_quoted attributes ++ 62 ∷ []
spell (ends e) = 60 ∷ 47 ∷ element_name e ++ 62 ∷ []
spell (letter c) = spelled c

abbrev spell_all : List Token → List ℕ
spell_all ts = flat_map spell ts

abbrev rest_of : List ℕ → List ℕ
rest_of [] = []
rest_of (c ∷ later) = later

abbrev head_of : List ℕ → Option ℕ
head_of [] = None
head_of (c ∷ later) = Some c

-- an attribute, up to what comes after it
opened : (a : Attribute) (value p : List ℕ) → quoted a value ++ p ≡ 32 ∷ (attribute_name a ++ 61 ∷ (34 ∷ (spelled_text value ++ 34 ∷ p)))
opened a value p = simp (append_assoc)

same_value : (v w p q : List ℕ) → 34 ∷ (spelled_text v ++ 34 ∷ p) ≡ 34 ∷ (spelled_text w ++ 34 ∷ q) → (v ≡ w) × (p ≡ q)
same_value v w p q same =
    let found = same_before is_quote (spelled_text v) (spelled_text w) 34 34 p q (text_goes_on v) (text_goes_on w) refl refl (ap rest_of same) in
    (same_text v w found.0, ap rest_of found.1)

same_quoted : (a b : Attribute) (v w p q : List ℕ) → quoted a v ++ p ≡ quoted b w ++ q → (a ≡ b) × ((v ≡ w) × (p ≡ q))
same_quoted a b v w p q same =
    let found = same_before is_equals (attribute_name a) (attribute_name b) 61 61 (34 ∷ (spelled_text v ++ 34 ∷ p)) (34 ∷ (spelled_text w ++ 34 ∷ q))
    (attribute_goes_on a) (attribute_goes_on b) refl refl (ap rest_of (sym (opened a v p) ∙ same ∙ opened b w q)) in
    (same_attribute a b found.0, same_value v w p q (ap rest_of found.1))

no_attribute : (a : Attribute) (v p x : List ℕ) → 62 ∷ x ≡ quoted a v ++ p → ⊥
no_attribute a v p x same =
    let bad : Some 62 ≡ Some 32 = ap head_of (same ∙ opened a v p) in
    cc (bad)

one_more : (a : Attribute × List ℕ) (more : List (Attribute × List ℕ)) (x : List ℕ) → all_quoted (a ∷ more) ++ 62 ∷ x ≡ quoted a.0 a.1 ++ (all_quoted more ++ 62 ∷ x)
one_more a more x = append_assoc (quoted a.0 a.1) (all_quoted more) (62 ∷ x)

same_attributes : (some other : List (Attribute × List ℕ)) (x y : List ℕ) → all_quoted some ++ 62 ∷ x ≡ all_quoted other ++ 62 ∷ y → (some ≡ other) × (x ≡ y)
same_attributes [] [] x y same = (refl, ap rest_of same)
same_attributes [] (b ∷ other) x y same = absurd (no_attribute b.0 b.1 (all_quoted other ++ 62 ∷ y) x (same ∙ one_more b other y))
same_attributes (a ∷ some) [] x y same = absurd (no_attribute a.0 a.1 (all_quoted some ++ 62 ∷ x) y (sym same ∙ one_more a some x))
same_attributes (a ∷ some) (b ∷ other) x y same =
    let first = same_quoted a.0 b.0 a.1 b.1 (all_quoted some ++ 62 ∷ x) (all_quoted other ++ 62 ∷ y) (sym (one_more a some x) ∙ same ∙ one_more b other y) in
    let more = same_attributes some other x y first.1.1 in
    (ap (λ (n : Attribute). (n, a.1) ∷ some) first.0 ∙ ap (λ (v : List ℕ). (b.0, v) ∷ some) first.1.0 ∙ ap (λ (l : List (Attribute × List ℕ)). b ∷ l) more.0, more.1)

-- the attributes and the end of a tag begin with a character that ends the name
abbrev stop_of : List (Attribute × List ℕ) → ℕ
stop_of [] = 62
stop_of (a ∷ more) = 32

abbrev after_stop : List (Attribute × List ℕ) → List ℕ → List ℕ
after_stop attributes x = rest_of (all_quoted attributes ++ 62 ∷ x)

stopped : (attributes : List (Attribute × List ℕ)) (x : List ℕ) → all_quoted attributes ++ 62 ∷ x ≡ stop_of attributes ∷ after_stop attributes x
stopped [] x = refl
stopped (a ∷ more) x = refl

stop_ends : (attributes : List (Attribute × List ℕ)) → ends_name (stop_of attributes) ≡ true
stop_ends [] = refl
stop_ends (a ∷ more) = refl

-- what stands after the bracket of a tag
begun : (e : Element) (attributes : List (Attribute × List ℕ)) (x : List ℕ)
    → rest_of (spell (begins e attributes) ++ x) ≡ element_name e ++ stop_of attributes ∷ after_stop attributes x
begun e attributes x =
    let flat : rest_of (spell (begins e attributes) ++ x) ≡ element_name e ++ (all_quoted attributes ++ 62 ∷ x) = simp (append_assoc) in
    flat ∙ ap (λ (l : List ℕ). element_name e ++ l) (stopped attributes x)

ended : (e : Element) (x : List ℕ) → rest_of (spell (ends e) ++ x) ≡ (47 ∷ element_name e) ++ 62 ∷ x
ended e x = ap (λ (l : List ℕ). 47 ∷ l) (append_assoc (element_name e) (62 ∷ []) x)

no_bracket : (c : ℕ) (z x : List ℕ) → 60 ∷ z ≡ spelled c ++ x → ⊥
no_bracket c z x same =
    let found : Some (60, z) ≡ Some (c, x) = ap first_of same ∙ reads_first c x in
    let is : 60 ≡ c = ap (λ (o : Option (ℕ × List ℕ)). elim o [ None ↦ 0 | Some p ↦ p.0 ]) found in
    let bad : Some 60 ≡ Some 38 = ap head_of (same ∙ ap (λ (n : ℕ). spelled n ++ x) (sym is)) in
    absurd (cc (bad))

same_begins : (e f : Element) (some other : List (Attribute × List ℕ)) (x y : List ℕ) → spell (begins e some) ++ x ≡ spell (begins f other) ++ y → (begins e some ≡ begins f other) × (x ≡ y)
same_begins e f some other x y same =
    let name = same_before ends_name (element_name e) (element_name f) (stop_of some) (stop_of other) _ _ (element_goes_on e) (element_goes_on f) (stop_ends some) (stop_ends other)
    (sym (begun e some x) ∙ ap rest_of same ∙ begun f other y) in
    let rest = same_attributes some other x y (stopped some x ∙ name.1 ∙ sym (stopped other y)) in
    (ap (λ (n : Element). begins n some) (same_element e f name.0) ∙ ap (λ (l : List (Attribute × List ℕ)). begins f l) rest.0, rest.1)

same_ends : (e f : Element) (x y : List ℕ) → spell (ends e) ++ x ≡ spell (ends f) ++ y → (ends e ≡ ends f) × (x ≡ y)
same_ends e f x y same =
    let name = same_before ends_name (47 ∷ element_name e) (47 ∷ element_name f) 62 62 x y (slash_goes_on e) (slash_goes_on f) refl refl
    (sym (ended e x) ∙ ap rest_of same ∙ ended f y) in
    (ap (λ (n : Element). ends n) (same_element e f (ap rest_of name.0)), ap rest_of name.1)

no_mix : (e f : Element) (attributes : List (Attribute × List ℕ)) (x y : List ℕ) → spell (begins e attributes) ++ x ≡ spell (ends f) ++ y → ⊥
no_mix e f attributes x y same =
    let name = same_before ends_name (element_name e) (47 ∷ element_name f) (stop_of attributes) 62 _ _ (element_goes_on e) (slash_goes_on f) (stop_ends attributes) refl
    (sym (begun e attributes x) ∙ ap rest_of same ∙ ended f y) in
    no_slash e f name.0

same_token : (t u : Token) (x y : List ℕ) → spell t ++ x ≡ spell u ++ y → (t ≡ u) × (x ≡ y)
same_token (begins e some) (begins f other) x y same = same_begins e f some other x y same
same_token (begins e some) (ends f) x y same = absurd (no_mix e f some x y same)
same_token (begins e some) (letter d) x y same = absurd (no_bracket d _ y same)
same_token (ends e) (begins f other) x y same = absurd (no_mix f e other y x (sym same))
same_token (ends e) (ends f) x y same = same_ends e f x y same
same_token (ends e) (letter d) x y same = absurd (no_bracket d _ y same)
same_token (letter c) (begins f other) x y same = absurd (no_bracket c _ x (sym same))
same_token (letter c) (ends f) x y same = absurd (no_bracket c _ x (sym same))
same_token (letter c) (letter d) x y same =
    let first = same_first c d x y same in
    (ap (λ (n : ℕ). letter n) first.0, first.1)

some_token : (t : Token) (x : List ℕ) → spell t ++ x ≡ [] → ⊥
some_token (begins e attributes) x same = cc (ap head_of same)
some_token (ends e) x same = cc (ap head_of same)
some_token (letter c) x same = not_empty c x same

same_tokens : (ts us : List Token) → spell_all ts ≡ spell_all us → ts ≡ us
same_tokens [] [] same = refl
same_tokens [] (u ∷ us) same = absurd (some_token u (spell_all us) (sym same))
same_tokens (t ∷ ts) [] same = absurd (some_token t (spell_all ts) same)
same_tokens (t ∷ ts) (u ∷ us) same =
    let first = same_token t u (spell_all ts) (spell_all us) same in
    ap (λ (n : Token). n ∷ ts) first.0 ∙ ap (λ (l : List Token). u ∷ l) (same_tokens ts us first.1)

-- ---- a page

letters_spelled : (characters : List ℕ) → spell_all (map shown_letter characters) ≡ spelled_text (map shown characters)
letters_spelled [] = refl
letters_spelled (c ∷ later) = ap (λ (l : List ℕ). spelled (shown c) ++ l) (letters_spelled later)

attribute_quoted : (a : Attribute × List ℕ) → attribute_text a.0 a.1 ≡ quoted a.0 (map shown a.1)
unfolding attribute_text
attribute_quoted a = ap (λ (l : List ℕ). 32 ∷ attribute_name a.0 ++ codes "=\"" ++ l ++ 34 ∷ []) (as_shown a.1)

attributes_quoted : (attributes : List (Attribute × List ℕ)) → attributes_text attributes ≡ all_quoted (map shown_attribute attributes)
attributes_quoted [] = refl
attributes_quoted (a ∷ more) =
    ap (λ (l : List ℕ). l ++ attributes_text more) (attribute_quoted a)
    ∙ ap (λ (l : List ℕ). quoted a.0 (map shown a.1) ++ l) (attributes_quoted more)

start_spelled : (e : Element) (attributes : List (Attribute × List ℕ)) → start_tag e attributes ≡ spell (begins e (map shown_attribute attributes))
unfolding start_tag
start_spelled e attributes = ap (λ (l : List ℕ). 60 ∷ element_name e ++ l ++ 62 ∷ []) (attributes_quoted attributes)

end_spelled : (e : Element) → end_tag e ≡ spell (ends e)
unfolding end_tag
end_spelled e = refl

joined : (a b c : List ℕ) → a ++ b ++ c ≡ a ++ (b ++ (c ++ []))
joined a b c = simp (append_assoc, append-nil)

page_spelled : (page : Html) → render page ≡ spell_all (tokens page)
page_spelled nothing = refl
page_spelled (both first later) =
    ap (λ (l : List ℕ). l ++ render later) (page_spelled first)
    ∙ ap (λ (l : List ℕ). spell_all (tokens first) ++ l) (page_spelled later)
    ∙ sym (flat_map-append spell (tokens first) (tokens later))
page_spelled (element e attributes inner) =
    let start = spell (begins e (map shown_attribute attributes)) in
    ap (λ (l : List ℕ). l ++ render inner ++ end_tag e) (start_spelled e attributes)
    ∙ ap (λ (l : List ℕ). start ++ l ++ end_tag e) (page_spelled inner)
    ∙ ap (λ (l : List ℕ). start ++ spell_all (tokens inner) ++ l) (end_spelled e)
    ∙ joined start (spell_all (tokens inner)) (spell (ends e))
    ∙ ap (λ (l : List ℕ). start ++ l) (sym (flat_map-append spell (tokens inner) (ends e ∷ [])))
page_spelled (text characters) = as_shown characters ∙ sym (letters_spelled characters)

pub pages_are_read_back : PagesAreReadBack
pages_are_read_back one other same =
    same_tokens (tokens one) (tokens other) (sym (page_spelled one) ∙ same ∙ page_spelled other)
