-- Fields of either reading have a shortest spelling.
use Rattle.std.proofs.Common.{ℕ, ◌<◌, ◌≤◌, ◌^◌, List, [], ◌∷◌, ◌++◌, length, refl, ap, arith, length-append}
use Rattle.zvt_grammar.specs.Reading.{Reading, shortest}
use Rattle.zvt_tlv.proofs.Spelling.{shortened, shorter_length}
use Rattle.zvt_field.specs.Grammar.{Field, plain, tree, FieldOf, FieldList}
use Rattle.zvt_field.specs.Bodies.{HasSpelling, HaveSpelling}

-- in no more bytes
field_shortened : (r : Reading) (f : Field) (s : List ℕ) → FieldOf r f s → (b : List ℕ) × FieldOf shortest f b × (length b ≤ length s)
field_shortened r (plain bmp c) s p = (s, p, omega arith)
field_shortened r (tree bmp o) s p =
    let within = shortened r 1 o p.sized.content p.sized.inside in
    let size = shorter_length r (length p.sized.content) (length within.0) p.sized.size p.sized.is_length within.2 in (
      bmp ∷ (size.0 ++ within.0),
      record { one = size.0 ++ within.0; whole = refl; is_tree = p.is_tree; sized = record { size = size.0; content = within.0; whole = refl; is_length = size.1; inside = within.1 } },
      omega (arith, ap length p.whole, ap length p.sized.whole, length-append p.sized.size p.sized.content, length-append size.0 within.0, within.2, size.2),
    )

pub fields_shortened : (r : Reading) (fs : List Field) (s : List ℕ) → FieldList r fs s → (b : List ℕ) × FieldList shortest fs b × (length b ≤ length s)
fields_shortened r [] s p = ([], refl, omega (arith, ap length p))
fields_shortened r (f ∷ fs) s (one, after, whole, p, more) =
    let first = field_shortened r f one p in
    let others = fields_shortened r fs after more in (
      first.0 ++ others.0,
      (first.0, others.0, refl, first.1, others.1),
      omega (arith, ap length whole, length-append one after, length-append first.0 others.0, first.2, others.2),
    )

pub field_small : (r : Reading) (f : Field) (s : List ℕ) → FieldOf r f s → length s < 2 ^ 16 → HasSpelling f
field_small r f s p small = let k = field_shortened r f s p in record { bytes = k.0; spelled = k.1; small = omega (arith, small, k.2) }

pub fields_small : (r : Reading) (fs : List Field) (s : List ℕ) → FieldList r fs s → length s < 2 ^ 16 → HaveSpelling fs
fields_small r fs s p small = let k = fields_shortened r fs s p in record { bytes = k.0; spelled = k.1; small = omega (arith, small, k.2) }
