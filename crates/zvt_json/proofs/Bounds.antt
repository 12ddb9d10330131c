-- The numbers of what a message says are small, and its objects nest little.
use Rattle.std.proofs.Common.{◌≡◌, ℕ, suc, ◌+◌, ◌^◌, ◌<◌, ◌≤◌, ◌&&◌, if◌then◌else◌, Bool, true, false, Some, None, Option, List, [], ◌∷◌, length, refl, ◌∙◌, ap, subst, arith, length-append}
use Rattle.std.proofs.lemmas.Bool.{and_from, lt-ltb}
use Rattle.std.proofs.lemmas.List.Elements.{All-head, All-tail}
use Rattle.zvt_bcd.specs.Digits.{AreDigits, IsDigitPair, number_of}
use Rattle.zvt_grammar.specs.Reading.{shortest}
use Rattle.zvt_tlv.specs.Grammar.{IsLength, Objects, none, primitive, constructed}
use Rattle.zvt_tlv.specs.Grammar as tlv
use Rattle.zvt_field.specs.Grammar.{Field, plain, tree, FieldList, Plain}
use Rattle.zvt_field.proofs.ViewLemmas.{amount_parts}
use Rattle.zvt_field.specs.Shapes.{format_of}
use Rattle.zvt_field.proofs.TableLemmas.{of_amount}
use Rattle.zvt_field.specs.declared.shapes.Format.{Format}
use Rattle.zvt_field.specs.declared.shapes.Format.TheVariants.{Amount, Bytes, Hidden, Result, Text}
use Rattle.zvt_text.specs.Meanings.{meaning_of}
use Rattle.zvt_text.specs.Secrets.{is_secret_tag}
use Rattle.zvt_json.specs.Fields.{amount_value, field_values, hidden_object, hidden_value, object_values, plain_value, primitive_value, result_value, shown_object, value_in}
use Rattle.zvt_json.specs.Reading.{fits, items_fit}

-- ---- numbers

amount_small : (digits : List ℕ) → AreDigits digits → length digits ≡ 6 → number_of digits < 2 ^ 64
amount_small [] h six = absurd (omega arith)
amount_small (a ∷ []) h six = absurd (omega arith)
amount_small (a ∷ b ∷ []) h six = absurd (omega arith)
amount_small (a ∷ b ∷ c ∷ []) h six = absurd (omega arith)
amount_small (a ∷ b ∷ c ∷ d ∷ []) h six = absurd (omega arith)
amount_small (a ∷ b ∷ c ∷ d ∷ e ∷ []) h six = absurd (omega arith)
amount_small (a ∷ b ∷ c ∷ d ∷ e ∷ f ∷ []) h six =
    let t1 = All-tail IsDigitPair a (b ∷ c ∷ d ∷ e ∷ f ∷ []) h in
    let t2 = All-tail IsDigitPair b (c ∷ d ∷ e ∷ f ∷ []) t1 in
    let t3 = All-tail IsDigitPair c (d ∷ e ∷ f ∷ []) t2 in
    let t4 = All-tail IsDigitPair d (e ∷ f ∷ []) t3 in
    let t5 = All-tail IsDigitPair e (f ∷ []) t4 in
    let pa = All-head IsDigitPair a (b ∷ c ∷ d ∷ e ∷ f ∷ []) h in
    let pb = All-head IsDigitPair b (c ∷ d ∷ e ∷ f ∷ []) t1 in
    let pc = All-head IsDigitPair c (d ∷ e ∷ f ∷ []) t2 in
    let pd = All-head IsDigitPair d (e ∷ f ∷ []) t3 in
    let pe = All-head IsDigitPair e (f ∷ []) t4 in
    let pf = All-head IsDigitPair f [] t5 in
    omega (arith, pa.0, pa.1, pb.0, pb.1, pc.0, pc.1, pd.0, pd.1, pe.0, pe.1, pf.0, pf.1)
amount_small (a ∷ b ∷ c ∷ d ∷ e ∷ f ∷ g ∷ more) h six = absurd (omega arith)

length_small : (n : ℕ) (size : List ℕ) → IsLength shortest n size → n < 2 ^ 64
length_small n [] is = absurd is
length_small n (a ∷ []) is = omega arith
length_small n (a ∷ b ∷ []) is = omega arith
length_small n (a ∷ high ∷ low ∷ []) is = omega arith
length_small n (a ∷ b ∷ c ∷ d ∷ more) is = absurd is

object_fits : (secret : Bool) (tag content : List ℕ) → length content < 2 ^ 64 → fits (if secret then hidden_object tag (length content) else shown_object tag content) ≡ true
object_fits true tag content small = ap (λ (b : Bool). b && true) (lt-ltb (length content) (2 ^ 64) small)
object_fits false tag content small = refl

objects_fit : (depth : ℕ) (f : Objects) (bytes : List ℕ) → tlv.Spells shortest depth f bytes → items_fit (object_values f) ≡ true
objects_fit depth none bytes spelled = refl
objects_fit depth (primitive tag content rest) bytes spelled =
    let size = length_small (length spelled.content) spelled.size spelled.is_length in
    let small : length content < 2 ^ 64 = omega (arith, size, ap length spelled.inside.0) in
    and_from (fits (primitive_value tag content)) (items_fit (object_values rest)) (object_fits (is_secret_tag tag) tag content small) (objects_fit depth rest spelled.after spelled.others)
objects_fit depth (constructed tag inner rest) bytes spelled =
    ap (λ (b : Bool). (b && true) && items_fit (object_values rest)) (objects_fit (suc depth) inner spelled.content spelled.inside.1) ∙ objects_fit depth rest spelled.after spelled.others

coded_fits : (bmp code : ℕ) (meaning : Option (List ℕ)) → meaning ≡ meaning_of code → fits (result_value bmp (code ∷ [])) ≡ true
coded_fits bmp code None is = rw (← is) refl
coded_fits bmp code (Some meaning) is = rw (← is) refl

result_fits : (bmp : ℕ) (content : List ℕ) → fits (result_value bmp content) ≡ true
result_fits bmp [] = refl
result_fits bmp (code ∷ []) = coded_fits bmp code (meaning_of code) refl
result_fits bmp (a ∷ b ∷ more) = refl

-- one of two values
amount_fits : (bmp : ℕ) (content : List ℕ) (one : List ℕ) → Plain bmp content one → bmp ≡ 0x04 → fits (amount_value bmp content) ≡ true
amount_fits bmp content one spelled is =
    let parts = amount_parts content (subst (λ (n : ℕ). ∥ ((one : List ℕ) × Plain n content one) ∥₁) is ∣ (one, spelled) ∣₁) in
    ap (λ (b : Bool). b && true) (lt-ltb (number_of content) (2 ^ 64) (amount_small content parts.0 parts.1))

content_short : (bmp : ℕ) (content one : List ℕ) → Plain bmp content one → length content ≤ length one
content_short bmp content one spelled = omega (arith, ap length spelled.whole, length-append spelled.size content)

hidden_fits : (bmp : ℕ) (content one : List ℕ) → Plain bmp content one → length one < 2 ^ 64 → fits (hidden_value bmp (length content)) ≡ true
hidden_fits bmp content one spelled small =
    let short = content_short bmp content one spelled in
    ap (λ (b : Bool). b && true) (lt-ltb (length content) (2 ^ 64) (omega (arith, short, small)))

shown_fits : (format : Format) (bmp : ℕ) (content one : List ℕ) → format_of bmp ≡ format → Plain bmp content one → length one < 2 ^ 64 → fits (value_in format bmp content) ≡ true
shown_fits Amount bmp content one is spelled small = amount_fits bmp content one spelled (of_amount bmp is)
shown_fits Result bmp content one is spelled small = result_fits bmp content
shown_fits Text bmp content one is spelled small = refl
shown_fits Hidden bmp content one is spelled small = hidden_fits bmp content one spelled small
shown_fits Bytes bmp content one is spelled small = refl

plain_fits : (bmp : ℕ) (content one : List ℕ) → Plain bmp content one → length one < 2 ^ 64 → fits (plain_value bmp content) ≡ true
plain_fits bmp content one spelled small = shown_fits (format_of bmp) bmp content one refl spelled small

pub fields_fit : (fields : List Field) (bytes : List ℕ) → FieldList shortest fields bytes → length bytes < 2 ^ 64 → items_fit (field_values fields) ≡ true
fields_fit [] bytes spelled small = refl
fields_fit (plain bmp content ∷ fields) bytes (one, after, whole, spelled, more) small =
    let sizes : length bytes ≡ length one + length after = ap length whole ∙ length-append one after in
    and_from (fits (plain_value bmp content)) (items_fit (field_values fields)) (plain_fits bmp content one spelled (omega (arith, sizes, small))) (fields_fit fields after more (omega (arith, sizes, small)))
fields_fit (tree bmp objects ∷ fields) bytes (one, after, whole, spelled, more) small =
    let sizes : length bytes ≡ length one + length after = ap length whole ∙ length-append one after in
    ap (λ (b : Bool). (b && true) && items_fit (field_values fields)) (objects_fit 1 objects spelled.sized.content spelled.sized.inside) ∙ fields_fit fields after more (omega (arith, sizes, small))
