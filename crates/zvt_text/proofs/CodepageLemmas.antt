-- The text of a receipt, by its code page.
use Rattle.std.proofs.Common.{◌≡◌, ℕ, Bool, true, false, List, [], ◌∷◌, ◌++◌, flat_map, length, refl, sym, ◌∙◌, ap, append_assoc, if◌then◌else◌}
use Rattle.std.proofs.lemmas.Str.{IsUtf8-from_is_utf8, chars-nil, chars_past_char, is_utf8-from_IsUtf8}
use Rattle.std.specs.Str.{IsUtf8, chars, is_utf8}
use lib.Utf8.{encode}
use Rattle.zvt_text.specs.Bytes.{escaped_text}
use Rattle.zvt_text.specs.Codepages.{decoded_character, decoded_utf8}
use Rattle.zvt_text.specs.declared.codepages.Quotes.{Quotes}

other_one : (b : Bool) (x y : List ℕ) → (b ≡ true → ⊥) → (if b then x else y) ≡ y
other_one true x y n = absurd (n refl)
other_one false x y n = refl

-- bytes that are not UTF-8 have escapes
pub not_utf8 : (quotes : Quotes) (bytes : List ℕ) → (IsUtf8 bytes → ⊥) → decoded_utf8 quotes bytes ≡ escaped_text bytes
not_utf8 quotes bytes n = other_one (is_utf8 bytes) _ _ (λ e. n (IsUtf8-from_is_utf8 bytes e))

-- what is written so far, and what is left
pub decoded_so_far : (quotes : Quotes) (whole before after text rest : List ℕ) (c : ℕ) → IsUtf8 text → text ≡ encode c ++ rest → before ++ flat_map (decoded_character quotes) (chars text) ≡ whole
    → after ≡ before ++ decoded_character quotes c → after ++ flat_map (decoded_character quotes) (chars rest) ≡ whole
decoded_so_far quotes whole before after text rest c u e w a =
    ap (λ (l : List ℕ). l ++ flat_map (decoded_character quotes) (chars rest)) a ∙ append_assoc before (decoded_character quotes c) (flat_map (decoded_character quotes) (chars rest))
    ∙ ap (λ (cs : List ℕ). before ++ flat_map (decoded_character quotes) cs) (sym (chars_past_char text rest c u e)) ∙ w

-- bytes that are UTF-8 have their characters
pub is_decoded : (quotes : Quotes) (bytes : List ℕ) → IsUtf8 bytes → decoded_utf8 quotes bytes ≡ flat_map (decoded_character quotes) (chars bytes)
is_decoded quotes bytes u = ap (λ (b : Bool). if b then flat_map (decoded_character quotes) (chars bytes) else escaped_text bytes) (is_utf8-from_IsUtf8 bytes u)

pub no_chars : (text : List ℕ) → length text ≡ 0 → chars text ≡ []
no_chars [] e = chars-nil
no_chars (b ∷ bs) e = absurd (cc (e))
