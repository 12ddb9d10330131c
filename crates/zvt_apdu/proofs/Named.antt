-- Each frame is a message's.
use Rattle.std.proofs.Common.{◌≡◌, ◌≢◌, ℕ, ◌<◌, ◌≤◌, ◌==◌, ◌&&◌, nat_le, true, false, Option, Some, None, List, [], ◌∷◌, ◌++◌, length, refl, sym, ◌∙◌, ap, subst, arith, length-append, ◌⊎◌, inl, inr}
use Rattle.std.proofs.lemmas.Bool.{cases_Bool, cases_lt, cases_eq, eqb-true, and_parts, cond-true, cond-false, ne_eqb}
use Rattle.zvt_bcd.specs.Digits.{number_of}
use Rattle.zvt_grammar.specs.Reading.{Reading, AreBytes}
use Rattle.zvt_field.specs.Grammar.{Field}
use Rattle.zvt_apdu.specs.Message.{Message, ack, nack, registration, authorisation, reversal, end_of_day, abort_order, status, intermediate, print_line, text_block, completion, abort, other}
use Rattle.zvt_apdu.specs.Grammar.{Form, BytesFrom, FieldsFrom, Registration, table, look_up, form_of, IsControl, Free, Listed, Data, Spells}
use Rattle.zvt_apdu.specs.Judging.{Layout, bytes_after, fields_after, layout}
use Rattle.zvt_apdu.proofs.Frames.{Parts, Frame, long_registration}

-- the control bytes are in a row
abbrev pub InTable : (high low : ℕ) → Form → List (ℕ × ℕ × Form) → Type 0
InTable high low form [] = ⊥
InTable high low form (row ∷ rows) = ((high ≡ row.0) × (low ≡ row.1) × (form ≡ row.2)) ⊎ InTable high low form rows

pub looked_up : (high low : ℕ) (form : Form) (rows : List (ℕ × ℕ × Form)) → look_up high low rows ≡ Some form → InTable high low form rows
looked_up high low form [] e = cc (e)
looked_up high low form (row ∷ rows) e = by_test (cases_Bool ((high == row.0) && (low == row.1))) (looked_up high low form rows)
  where
    by_test : ((((high == row.0) && (low == row.1)) ≡ true) ⊎ (((high == row.0) && (low == row.1)) ≡ false)) → (look_up high low rows ≡ Some form → InTable high low form rows) → InTable high low form (row ∷ rows)
    by_test (inl t) more =
        let both = and_parts _ _ t in
        let same : Some row.2 ≡ Some form = sym (cond-true _ _ _ t) ∙ e in
        inl (eqb-true high row.0 both.0, eqb-true low row.1 both.1, cc (same))
    by_test (inr f) more = inr (more (sym (cond-false _ _ _ f) ∙ e))

-- which messages have these control bytes
pub data Named (high low : ℕ) : Type 0 where
  is_nack : high ≡ 0x84 → Named high low
  is_row : (form : Form) → form_of high low ≡ Some form → InTable high low form table → Named high low
  is_other : form_of high low ≡ None → Named high low

pub named : (high low : ℕ) → Named high low
unfolding form_of
named high low = by_high (cases_eq high 0x84)
  where
    by_form : high ≢ 0x84 → (o : Option Form) → look_up high low table ≡ o → Named high low
    by_form ne None e = is_other (cond-false _ _ _ (ne_eqb high 0x84 ne) ∙ e)
    by_form ne (Some form) e = is_row form (cond-false _ _ _ (ne_eqb high 0x84 ne) ∙ e) (looked_up high low form table e)

    by_high : ((high ≡ 0x84) ⊎ (high ≢ 0x84)) → Named high low
    by_high (inl e) = is_nack e
    by_high (inr ne) = by_form ne (look_up high low table) refl

-- the parts of a content
no_digits : (l : List ℕ) → length l ≡ 0 → l ≡ []
no_digits [] e = refl
no_digits (x ∷ l) e = absurd (omega arith)

to_free : (r : Reading) (count : ℕ) (b : List ℕ) → Parts r (bytes_after count) b → (first : List ℕ) × (payload : List ℕ) × Free count first payload b
to_free r count b p =
    (p.free, p.tail, (p.whole ∙ ap (λ (s : List ℕ). p.free ++ (s ++ p.tail)) (no_digits p.digits p.digits_size), p.free_size, p.are_bytes, p.tailed))

to_listed : (r : Reading) (count : ℕ) (b : List ℕ) → Parts r (fields_after count) b → (first : List ℕ) × (fs : List Field) × Listed r count first fs b
to_listed r count b p =
    (p.free, p.tailed.0, (p.tail, p.whole ∙ ap (λ (s : List ℕ). p.free ++ (s ++ p.tail)) (no_digits p.digits p.digits_size), p.free_size, p.are_bytes, p.tailed.1))

-- a message that a frame spells
pub record Message' (r : Reading) (b : List ℕ) : Type 0 where
  pub message : Message
  pub spelled : Spells r message b

made : (r : Reading) (b : List ℕ) (f : Frame r b) (m : Message) (high low : ℕ) → f.high ≡ high → f.low ≡ low → IsControl m (high ∷ low ∷ []) → Data r m f.content → Message' r b
made r b f m high low h l c d = record {
  message = m;
  spelled = record {
    control = high ∷ low ∷ [];
    size = f.size;
    content = f.content;
    whole = f.whole ∙ ap (λ (x : ℕ). x ∷ f.low ∷ (f.size ++ f.content)) h ∙ ap (λ (x : ℕ). high ∷ x ∷ (f.size ++ f.content)) l;
    is_control = c;
    is_size = f.is_size;
    is_content = d;
  };
}

-- the parts by the form
formed : (r : Reading) (b : List ℕ) (f : Frame r b) (o : Option Form) → form_of f.high f.low ≡ o → Parts r (layout o (length f.content)) f.content
formed r b f o is = subst (λ (o : Option Form). Parts r (layout o (length f.content)) f.content) is f.parts

-- lists of one, and of four
single : (l : List ℕ) → length l ≡ 1 → (x : ℕ) × (l ≡ x ∷ [])
single [] e = absurd (omega arith)
single (x ∷ []) e = (x, refl)
single (x ∷ y ∷ l) e = absurd (omega arith)

four : (l : List ℕ) → length l ≡ 4 → (password : List ℕ) × (config : ℕ) × (l ≡ password ++ config ∷ [])
four [] e = absurd (omega arith)
four (a ∷ []) e = absurd (omega arith)
four (a ∷ b ∷ []) e = absurd (omega arith)
four (a ∷ b ∷ c ∷ []) e = absurd (omega arith)
four (a ∷ b ∷ c ∷ d ∷ []) e = (a ∷ b ∷ c ∷ [], d, refl)
four (a ∷ b ∷ c ∷ d ∷ x ∷ l) e = absurd (omega arith)

none_first : (first payload b : List ℕ) → Free 0 first payload b → Free 0 [] payload b
none_first first payload b c = let e = no_digits first c.1 in (c.0 ∙ ap (λ (s : List ℕ). s ++ payload) e, refl, tt, c.3)

none_listed : (r : Reading) (first : List ℕ) (fs : List Field) (b : List ℕ) → Listed r 0 first fs b → Listed r 0 [] fs b
none_listed r first fs b c = let e = no_digits first c.2 in (c.0, c.1 ∙ ap (λ (s : List ℕ). s ++ c.0) e, refl, tt, c.4)

make_registration : (r : Reading) (b : List ℕ) (f : Frame r b) → f.high ≡ 0x06 → f.low ≡ 0x00 → Parts r (layout (Some Registration) (length f.content)) f.content → Message' r b
make_registration r b f h l q = by_size (cases_lt 4 (length f.content))
  where
    by_size : ((4 < length f.content) ⊎ (length f.content ≤ 4)) → Message' r b
    by_size (inl lt) =
        let p : Parts r (record { free = 4; digits = 2; fields = true }) f.content = subst (λ (l : Layout). Parts r l f.content) (long_registration (length f.content) lt) q in
        let w = four p.free p.free_size in
        made r b f (registration w.0 w.1 (Some (number_of p.digits, p.tailed.0))) 0x06 0x00 h l refl
        (record { digits = p.digits; listed = p.tail; whole = p.whole ∙ ap (λ (s : List ℕ). s ++ (p.digits ++ p.tail)) w.2; count = ap length (sym w.2) ∙ p.free_size; are_bytes = subst AreBytes w.2 p.are_bytes; two = p.digits_size; are_digits = p.are_digits; number = refl; spelled = p.tailed.1 })
    by_size (inr le) = by_layout (cond-true _ _ _ (small (length f.content) le))
      where
        small : (n : ℕ) → n ≤ 4 → nat_le n 4 ≡ true
        small n le = grind (arith, le)

        by_layout : layout (Some Registration) (length f.content) ≡ bytes_after 4 → Message' r b
        by_layout e =
            let c = to_free r 4 f.content (subst (λ (l : Layout). Parts r l f.content) e q) in
            let w = four c.0 c.2.1 in
            let none : c.1 ≡ [] = no_digits c.1 (omega (arith, ap length c.2.0, length-append c.0 c.1, c.2.1)) in
            made r b f (registration w.0 w.1 None) 0x06 0x00 h l refl
            (c.2.0 ∙ ap (λ (s : List ℕ). s ++ c.1) w.2 ∙ ap (λ (s : List ℕ). (w.0 ++ w.1 ∷ []) ++ s) none, ap length (sym w.2) ∙ c.2.1, subst AreBytes w.2 c.2.2, tt)

-- a frame by its row
abbrev Row : (r : Reading) (b : List ℕ) → Frame r b → (high low : ℕ) → Form → Type 0
Row r b f high low form = (f.high ≡ high) × (f.low ≡ low) × (Parts r (layout (Some form) (length f.content)) f.content)

plain_list : (r : Reading) (b : List ℕ) (f : Frame r b) (m : List Field → Message) (low high : ℕ) → ((fs : List Field) → IsControl (m fs) (high ∷ low ∷ [])) → ((fs : List Field) → Listed r 0 [] fs f.content → Data r (m fs) f.content) → Row r b f high low (FieldsFrom 0) → Message' r b
plain_list r b f m low high control content q =
    let c = to_listed r 0 f.content q.2 in
    made r b f (m c.1) high low q.0 q.1 (control c.1) (content c.1 (none_listed r c.0 c.1 f.content c.2))

after_password : (r : Reading) (b : List ℕ) (f : Frame r b) (m : List ℕ → List Field → Message) (low high : ℕ) → ((w : List ℕ) (fs : List Field) → IsControl (m w fs) (high ∷ low ∷ [])) → ((w : List ℕ) (fs : List Field) → Listed r 3 w fs f.content → Data r (m w fs) f.content) → Row r b f high low (FieldsFrom 3) → Message' r b
after_password r b f m low high control content q =
    let c = to_listed r 3 f.content q.2 in
    made r b f (m c.0 c.1) high low q.0 q.1 (control c.0 c.1) (content c.0 c.1 c.2)

after_byte : (r : Reading) (b : List ℕ) (f : Frame r b) (m : ℕ → List ℕ → Message) (low high : ℕ) → ((x : ℕ) (s : List ℕ) → IsControl (m x s) (high ∷ low ∷ [])) → ((x : ℕ) (s : List ℕ) → Free 1 (x ∷ []) s f.content → Data r (m x s) f.content) → Row r b f high low (BytesFrom 1) → Message' r b
after_byte r b f m low high control content q =
    let c = to_free r 1 f.content q.2 in
    let x = single c.0 c.2.1 in
    made r b f (m x.0 c.1) high low q.0 q.1 (control x.0 c.1) (content x.0 c.1 (subst (λ (s : List ℕ). Free 1 s c.1 f.content) x.1 c.2))

pub message_of : (r : Reading) (b : List ℕ) → Frame r b → Message' r b
unfolding form_of
message_of r b f = by_name (named f.high f.low)
  where
    row : (high low : ℕ) (form form' : Form) → form_of f.high f.low ≡ Some form → (f.high ≡ high) × (f.low ≡ low) × (form ≡ form') → Row r b f high low form'
    row high low form form' is q = (q.0, q.1, formed r b f (Some form') (is ∙ ap (λ (x : Form). Some x) q.2))

    by_row : (form : Form) → form_of f.high f.low ≡ Some form → InTable f.high f.low form table → Message' r b
    by_row form is (inl q) =
        let p = row 0x80 0x00 form (BytesFrom 0) is q in
        let c = to_free r 0 f.content p.2 in made r b f (ack c.1) 0x80 0x00 q.0 q.1 refl (none_first c.0 c.1 f.content c.2)
    by_row form is (inr (inl q)) = make_registration r b f q.0 q.1 (row 0x06 0x00 form Registration is q).2
    by_row form is (inr (inr (inl q))) = plain_list r b f authorisation 0x01 0x06 (λ fs. refl) (λ fs c. c) (row 0x06 0x01 form (FieldsFrom 0) is q)
    by_row form is (inr (inr (inr (inl q)))) = after_password r b f reversal 0x30 0x06 (λ w fs. refl) (λ w fs c. c) (row 0x06 0x30 form (FieldsFrom 3) is q)
    by_row form is (inr (inr (inr (inr (inl q))))) = after_password r b f end_of_day 0x50 0x06 (λ w fs. refl) (λ w fs c. c) (row 0x06 0x50 form (FieldsFrom 3) is q)
    by_row form is (inr (inr (inr (inr (inr (inl q)))))) = plain_list r b f abort_order 0xB0 0x06 (λ fs. refl) (λ fs c. c) (row 0x06 0xB0 form (FieldsFrom 0) is q)
    by_row form is (inr (inr (inr (inr (inr (inr (inl q))))))) = plain_list r b f status 0x0F 0x04 (λ fs. refl) (λ fs c. c) (row 0x04 0x0F form (FieldsFrom 0) is q)
    by_row form is (inr (inr (inr (inr (inr (inr (inr (inl q)))))))) = after_byte r b f intermediate 0xFF 0x04 (λ x s. refl) (λ x s c. c) (row 0x04 0xFF form (BytesFrom 1) is q)
    by_row form is (inr (inr (inr (inr (inr (inr (inr (inr (inl q))))))))) = after_byte r b f print_line 0xD1 0x06 (λ x s. refl) (λ x s c. c) (row 0x06 0xD1 form (BytesFrom 1) is q)
    by_row form is (inr (inr (inr (inr (inr (inr (inr (inr (inr (inl q)))))))))) = plain_list r b f text_block 0xD3 0x06 (λ fs. refl) (λ fs c. c) (row 0x06 0xD3 form (FieldsFrom 0) is q)
    by_row form is (inr (inr (inr (inr (inr (inr (inr (inr (inr (inr (inl q))))))))))) = plain_list r b f completion 0x0F 0x06 (λ fs. refl) (λ fs c. c) (row 0x06 0x0F form (FieldsFrom 0) is q)
    by_row form is (inr (inr (inr (inr (inr (inr (inr (inr (inr (inr (inr (inl q)))))))))))) = after_byte r b f abort 0x1E 0x06 (λ x s. refl) (λ x s c. c) (row 0x06 0x1E form (BytesFrom 1) is q)
    by_row form is (inr (inr (inr (inr (inr (inr (inr (inr (inr (inr (inr (inr q)))))))))))) = absurd q

    by_name : Named f.high f.low → Message' r b
    by_name (is_nack e) =
        let is : form_of f.high f.low ≡ Some (BytesFrom 0) = rw e refl in
        let c = to_free r 0 f.content (formed r b f (Some (BytesFrom 0)) is) in
        made r b f (nack f.low c.1) 0x84 f.low e refl (refl, f.are_bytes.1) (none_first c.0 c.1 f.content c.2)
    by_name (is_row form e q) = by_row form e q
    by_name (is_other e) =
        let c = to_free r 0 f.content (formed r b f None e) in
        made r b f (other f.high f.low c.1) f.high f.low refl refl (refl, f.are_bytes.0, f.are_bytes.1, e) (none_first c.0 c.1 f.content c.2)
