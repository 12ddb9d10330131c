-- The bytes of a till's message without its password.
use Rattle.std.proofs.Common.{◌≡◌, ℕ, Bool, false, cond, Some, List, [], ◌∷◌, ◌++◌, length, length-append, refl, sym, subst, ◌∙◌, ap, take, drop, arith}
use Rattle.zvt_grammar.specs.Reading.{AreBytes, shortest}
use Rattle.zvt_field.specs.Grammar.{FieldOf, IsContent, plain}
use Rattle.zvt_field.specs.Shapes.{shape_of}
use Rattle.zvt_apdu.specs.Message.{Message, registration, reversal, end_of_day}
use Rattle.zvt_apdu.specs.Grammar.{Spells}
use Rattle.zvt_apdu.specs.declared.brief.Brief.TheVariants.{Ack, Nack, Register, Pay, Reverse, CloseDay, AbortOrder}
use Rattle.zvt_apdu.proofs.OneSpelling.{spellings_are_one}
use Rattle.zvt_apdu.proofs.BriefLemmas.{registration_spelled, reversal_spelled, closing_spelled}
use Rattle.zvt_c.specs.Records.{Masks, has_password, is_with_password, masked_bytes}

-- bytes after other control bytes stay
no_password : (high low : ℕ) (rest : List ℕ) → is_with_password high low ≡ false → has_password (high ∷ low ∷ rest) ≡ false
no_password high low [] e = refl
no_password high low (size ∷ []) e = refl
no_password high low (size ∷ first ∷ []) e = refl
no_password high low (size ∷ first ∷ second ∷ []) e = refl
no_password high low (size ∷ first ∷ second ∷ third ∷ more) e = e

stays : (bytes : List ℕ) → has_password bytes ≡ false → masked_bytes bytes ≡ bytes
stays bytes e = ap (λ (b : Bool). cond b (take 3 bytes ++ (0 ∷ 0 ∷ 0 ∷ drop 6 bytes)) bytes) e

kept : (m : Message) (high low : ℕ) (sent : List ℕ) → (s : Spells shortest m sent) → s.control ≡ high ∷ low ∷ [] → is_with_password high low ≡ false → Spells shortest m (masked_bytes sent)
kept m high low sent s control e =
    let whole : sent ≡ high ∷ low ∷ (s.size ++ s.content) = s.whole ∙ ap (λ (c : List ℕ). c ++ (s.size ++ s.content)) control in
    let none : has_password sent ≡ false = subst (λ (bytes : List ℕ). has_password bytes ≡ false) (sym whole) (no_password high low (s.size ++ s.content) e) in
    subst (Spells shortest m) (sym (stays sent none)) s

zeroes : AreBytes (0 ∷ 0 ∷ 0 ∷ [])
zeroes = (omega arith, (omega arith, (omega arith, tt)))

-- one spelling is that with zeros in place of the password
by_spellings : (m n : Message) (bytes sent : List ℕ) → Spells shortest m bytes → Spells shortest n (masked_bytes bytes) → Spells shortest m sent → Spells shortest n (masked_bytes sent)
by_spellings m n bytes sent one masked s = subst (λ (b : List ℕ). Spells shortest n (masked_bytes b)) (spellings_are_one m bytes sent one s) masked

closed : (sent password : List ℕ) → length password ≡ 3 → AreBytes password → Spells shortest (end_of_day password []) sent → Spells shortest (end_of_day (0 ∷ 0 ∷ 0 ∷ []) []) (masked_bytes sent)
closed sent (a ∷ b ∷ c ∷ []) three bytes s =
    by_spellings (end_of_day (a ∷ b ∷ c ∷ []) []) (end_of_day (0 ∷ 0 ∷ 0 ∷ []) []) _ sent (closing_spelled (a ∷ b ∷ c ∷ []) three bytes) (closing_spelled (0 ∷ 0 ∷ 0 ∷ []) refl zeroes) s
closed sent [] three bytes s = absurd (omega (arith, three))
closed sent (a ∷ []) three bytes s = absurd (omega (arith, three))
closed sent (a ∷ b ∷ []) three bytes s = absurd (omega (arith, three))
closed sent (a ∷ b ∷ c ∷ d ∷ more) three bytes s = absurd (omega (arith, three))

reversed : (sent password receipt : List ℕ) → length password ≡ 3 → AreBytes password → length receipt ≡ 2 → AreBytes receipt
    → Spells shortest (reversal password (plain 0x87 receipt ∷ [])) sent → Spells shortest (reversal (0 ∷ 0 ∷ 0 ∷ []) (plain 0x87 receipt ∷ [])) (masked_bytes sent)
reversed sent (a ∷ b ∷ c ∷ []) receipt three bytes two more s =
    by_spellings (reversal (a ∷ b ∷ c ∷ []) (plain 0x87 receipt ∷ [])) (reversal (0 ∷ 0 ∷ 0 ∷ []) (plain 0x87 receipt ∷ [])) _ sent
    (reversal_spelled (a ∷ b ∷ c ∷ []) receipt three bytes two more) (reversal_spelled (0 ∷ 0 ∷ 0 ∷ []) receipt refl zeroes two more) s
reversed sent [] receipt three bytes two more s = absurd (omega (arith, three))
reversed sent (a ∷ []) receipt three bytes two more s = absurd (omega (arith, three))
reversed sent (a ∷ b ∷ []) receipt three bytes two more s = absurd (omega (arith, three))
reversed sent (a ∷ b ∷ c ∷ d ∷ rest) receipt three bytes two more s = absurd (omega (arith, three))

-- a receipt number has two bytes
receipt_bytes : (receipt bytes : List ℕ) → FieldOf shortest (plain 0x87 receipt) bytes → (length receipt ≡ 2) × AreBytes receipt
unfolding shape_of
receipt_bytes receipt bytes field = (field.is_head.1, subst (λ (digits : Bool). IsContent digits receipt) field.is_head.0 field.is_content)

registered : (sent password : List ℕ) (config currency : ℕ) → Spells shortest (registration password config (Some (currency, []))) sent → Spells shortest (registration (0 ∷ 0 ∷ 0 ∷ []) config (Some (currency, []))) (masked_bytes sent)
registered sent (a ∷ b ∷ c ∷ []) config currency s =
    let d = s.is_content in
    let bytes : AreBytes (a ∷ b ∷ c ∷ config ∷ []) = d.are_bytes in
    by_spellings (registration (a ∷ b ∷ c ∷ []) config (Some (currency, []))) (registration (0 ∷ 0 ∷ 0 ∷ []) config (Some (currency, []))) _ sent
    (registration_spelled (a ∷ b ∷ c ∷ []) d.digits config currency refl (bytes.0, (bytes.1.0, (bytes.1.1.0, tt))) bytes.1.1.1.0 d.two d.are_digits d.number)
    (registration_spelled (0 ∷ 0 ∷ 0 ∷ []) d.digits config currency refl zeroes bytes.1.1.1.0 d.two d.are_digits d.number) s
registered sent [] config currency s = absurd (omega (arith, s.is_content.count))
registered sent (a ∷ []) config currency s = absurd (omega (arith, s.is_content.count))
registered sent (a ∷ b ∷ []) config currency s = absurd (omega (arith, s.is_content.count))
registered sent (a ∷ b ∷ c ∷ d ∷ rest) config currency s = absurd (omega (arith, s.is_content.count, length-append rest (config ∷ [])))

pub masks : (sent : List ℕ) → Masks sent
masks sent Ack s = kept _ 0x80 0x00 sent s s.is_control refl
masks sent (Nack code) s = kept _ 0x84 code sent s s.is_control.0 refl
masks sent (Register password config currency) s = registered sent password config currency s
masks sent (Pay amount currency) s = kept _ 0x06 0x01 sent s s.is_control refl
masks sent (Reverse password receipt) s =
    let (listed, whole, three, bytes, (one, rest, is, field, more)) = s.is_content in
    let number = receipt_bytes receipt one field in
    reversed sent password receipt three bytes number.0 number.1 s
masks sent (CloseDay password) s = let (listed, whole, three, bytes, more) = s.is_content in closed sent password three bytes s
masks sent AbortOrder s = kept _ 0x06 0xB0 sent s s.is_control refl
