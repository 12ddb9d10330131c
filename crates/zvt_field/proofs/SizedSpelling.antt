-- The shortest spelling of a length and its objects.
use Rattle.std.proofs.Common.{◌≡◌, ℕ, ◌+◌, ◌<◌, ◌^◌, List, ◌++◌, length, refl, sym, ◌∙◌, ap, subst, arith, length-append}
use Rattle.zvt_grammar.specs.Reading.{shortest}
use Rattle.zvt_tlv.specs.Grammar.{Objects, IsLength, Spells}
use Rattle.zvt_tlv.specs.Sized.{Sized}
use Rattle.zvt_tlv.specs.Sizes.{size_of, length_size, length_bytes, spelling}
use Rattle.zvt_tlv.specs.Spelled.{HasSpelling}
use Rattle.zvt_tlv.proofs.Writing.{is_length, length_sizes, length_spelled, spelling_size, spelled}

abbrev pub sized_spelling : Objects → List ℕ
sized_spelling f = length_bytes (size_of f) ++ spelling f

pub sized_size : (f : Objects) → length (sized_spelling f) ≡ length_size (size_of f) + size_of f
sized_size f = omega (arith, length-append (length_bytes (size_of f)) (spelling f), length_sizes (size_of f), spelling_size f)

-- it is one
pub sized_spelled : (f : Objects) (s : List ℕ) → Sized shortest f s → s ≡ sized_spelling f
sized_spelled f s p =
    let content : p.content ≡ spelling f = spelled 1 f p.content p.inside in
    let size : p.size ≡ length_bytes (size_of f) = length_spelled (length p.content) p.size p.is_length ∙ ap length_bytes (ap length content ∙ spelling_size f) in
    p.whole ∙ ap (λ (v : List ℕ). v ++ p.content) size ∙ ap (λ (v : List ℕ). length_bytes (size_of f) ++ v) content

-- and stands wherever the objects have a spelling
pub spelled_sized : (f : Objects) → HasSpelling f → Sized shortest f (sized_spelling f)
spelled_sized f h =
    let one = spelled 1 f h.bytes h.spelled in
    record {
      size = length_bytes (size_of f);
      content = spelling f;
      whole = refl;
      is_length = subst (λ (n : ℕ). IsLength shortest n (length_bytes (size_of f))) (sym (spelling_size f)) (is_length (size_of f) (omega (arith, h.small, ap length one, spelling_size f)));
      inside = subst (Spells shortest 1 f) one h.spelled;
    }

pub spelled_small : (f : Objects) → HasSpelling f → size_of f < 2 ^ 16
spelled_small f h = omega (arith, h.small, ap length (spelled 1 f h.bytes h.spelled), spelling_size f)
