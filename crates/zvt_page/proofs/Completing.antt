-- Texts that are written one after another.
use Rattle.std.proofs.Common.{◌≡◌, ◌∙◌, [], ◌∷◌, ◌++◌, ℕ, List, Option, Some, None, Result, Ok, Err, append_assoc, append-nil, refl}
use Rattle.std.specs.Prelude.{OnOk}
use Rattle.zvt_text.specs.Writing.{Adds}
use Rattle.zvt_page.specs.Html.{attribute_text, attributes_of, attributes_text, class_of, other_of}
use Rattle.zvt_page.specs.declared.elements.Attribute.{Attribute}
use Rattle.zvt_page.specs.declared.elements.Attribute.TheVariants.{Class}

-- the last part completes the text
pub adds_completely : {E : Type 0} (r : Result (Unit {0}) E) (old new part whole : List ℕ) → old ++ part ≡ whole → Adds r old new part → OnOk r (new ≡ whole)
adds_completely (Ok _) old new part whole same wrote = wrote ∙ same
adds_completely (Err e) old new part whole same wrote = tt

-- the same where an error may leave more of the text
pub completes : {E : Type 0} (r : Result (Unit {0}) E) (old new part whole : List ℕ) → old ++ part ≡ whole → OnOk r (new ≡ old ++ part) → OnOk r (new ≡ whole)
completes (Ok _) old new part whole same wrote = wrote ∙ same
completes (Err e) old new part whole same wrote = tt

-- the class, and then the other attribute
pub one_by_one : (class : List ℕ) (other : Option (Attribute × List ℕ)) → attributes_text (class_of class) ++ attributes_text (other_of other) ≡ attributes_text (attributes_of class other)
one_by_one [] None = refl
one_by_one [] (Some other) = refl
one_by_one (letter ∷ class) None = append-nil (attribute_text Class (letter ∷ class) ++ [])
one_by_one (letter ∷ class) (Some other) = append_assoc (attribute_text Class (letter ∷ class)) [] (attributes_text (other ∷ []))
