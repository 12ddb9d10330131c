-- Which message the control bytes name.
use Rattle.std.proofs.Common.{◌≡◌, ◌≢◌, ℕ, ◌+◌, ◌<◌, ◌≤◌, nat_le, cond, Bool, true, false, Option, Some, None, List, [], ◌∷◌, ◌++◌, length, drop, get_or, refl, sym, ◌∙◌, ap, subst, arith, ◌⊎◌, suc, inl, inr}
use Rattle.std.proofs.lemmas.Bool.{false≢true, leb-true}
use Rattle.zvt_bcd.specs.Digits.{AreDigits, number_of}
use Rattle.zvt_grammar.specs.Reading.{Reading, AreBytes}
use Rattle.zvt_field.specs.Grammar.{Field, FieldList}
use Rattle.zvt_apdu.specs.Message.{ack, registration, reversal, end_of_day, status, intermediate, print_line, abort}
use Rattle.zvt_apdu.specs.Grammar.{Form, BytesFrom, FieldsFrom, Registration, table, form_of}
use Rattle.zvt_apdu.specs.Judging.{Layout, bytes_after, layout, layout_of, head_size}
use Rattle.zvt_apdu.specs.Messages.{IsMessage}
use Rattle.zvt_apdu.proofs.Named.{InTable, Named, is_nack, is_row, is_other, named}

-- the rows of one form
abbrev BytesRow : (high low k : ℕ) → Type 0
BytesRow high low k =
    ((high ≡ 0x84) × (k ≡ 0)) ⊎ (((high ≡ 0x80) × (low ≡ 0x00) × (k ≡ 0)) ⊎ (((high ≡ 0x04) × (low ≡ 0xFF) × (k ≡ 1)) ⊎ (((high ≡ 0x06) × (low ≡ 0xD1) × (k ≡ 1)) ⊎ ((high ≡ 0x06) × (low ≡ 0x1E) × (k ≡ 1)))))

abbrev FieldsRow : (high low k : ℕ) → Type 0
FieldsRow high low k =
    ((high ≡ 0x06) × (low ≡ 0x01) × (k ≡ 0)) ⊎ (((high ≡ 0x06) × (low ≡ 0x30) × (k ≡ 3)) ⊎ (((high ≡ 0x06) × (low ≡ 0x50) × (k ≡ 3)) ⊎ (((high ≡ 0x06) × (low ≡ 0xB0) × (k ≡ 0)) ⊎ (((high ≡ 0x04) × (low ≡ 0x0F) × (k ≡ 0))
    ⊎ (((high ≡ 0x06) × (low ≡ 0xD3) × (k ≡ 0)) ⊎ ((high ≡ 0x06) × (low ≡ 0x0F) × (k ≡ 0)))))))

count_of : (j k : ℕ) (form : Form) → form ≡ BytesFrom j → form ≡ BytesFrom k → k ≡ j
count_of j k form p q = cc

bytes_row : (high low k : ℕ) (form : Form) → form ≡ BytesFrom k → InTable high low form table → BytesRow high low k
bytes_row high low k form e (inl q) = inr (inl (q.0, q.1, cc (e, q.2)))
bytes_row high low k form e (inr (inl q)) = absurd (cc (e, q.2))
bytes_row high low k form e (inr (inr (inl q))) = absurd (cc (e, q.2))
bytes_row high low k form e (inr (inr (inr (inl q)))) = absurd (cc (e, q.2))
bytes_row high low k form e (inr (inr (inr (inr (inl q))))) = absurd (cc (e, q.2))
bytes_row high low k form e (inr (inr (inr (inr (inr (inl q)))))) = absurd (cc (e, q.2))
bytes_row high low k form e (inr (inr (inr (inr (inr (inr (inl q))))))) = absurd (cc (e, q.2))
bytes_row high low k form e (inr (inr (inr (inr (inr (inr (inr (inl q)))))))) = inr (inr (inl (q.0, q.1, cc (e, q.2))))
bytes_row high low k form e (inr (inr (inr (inr (inr (inr (inr (inr (inl q))))))))) = inr (inr (inr (inl (q.0, q.1, cc (e, q.2)))))
bytes_row high low k form e (inr (inr (inr (inr (inr (inr (inr (inr (inr (inl q)))))))))) = absurd (cc (e, q.2))
bytes_row high low k form e (inr (inr (inr (inr (inr (inr (inr (inr (inr (inr (inl q))))))))))) = absurd (cc (e, q.2))
bytes_row high low k form e (inr (inr (inr (inr (inr (inr (inr (inr (inr (inr (inr (inl q)))))))))))) = inr (inr (inr (inr (q.0, q.1, cc (e, q.2)))))
bytes_row high low k form e (inr (inr (inr (inr (inr (inr (inr (inr (inr (inr (inr (inr q)))))))))))) = absurd q

fields_row : (high low k : ℕ) (form : Form) → form ≡ FieldsFrom k → InTable high low form table → FieldsRow high low k
fields_row high low k form e (inl q) = absurd (cc (e, q.2))
fields_row high low k form e (inr (inl q)) = absurd (cc (e, q.2))
fields_row high low k form e (inr (inr (inl q))) = inl (q.0, q.1, cc (e, q.2))
fields_row high low k form e (inr (inr (inr (inl q)))) = inr (inl (q.0, q.1, cc (e, q.2)))
fields_row high low k form e (inr (inr (inr (inr (inl q))))) = inr (inr (inl (q.0, q.1, cc (e, q.2))))
fields_row high low k form e (inr (inr (inr (inr (inr (inl q)))))) = inr (inr (inr (inl (q.0, q.1, cc (e, q.2)))))
fields_row high low k form e (inr (inr (inr (inr (inr (inr (inl q))))))) = inr (inr (inr (inr (inl (q.0, q.1, cc (e, q.2))))))
fields_row high low k form e (inr (inr (inr (inr (inr (inr (inr (inl q)))))))) = absurd (cc (e, q.2))
fields_row high low k form e (inr (inr (inr (inr (inr (inr (inr (inr (inl q))))))))) = absurd (cc (e, q.2))
fields_row high low k form e (inr (inr (inr (inr (inr (inr (inr (inr (inr (inl q)))))))))) = inr (inr (inr (inr (inr (inl (q.0, q.1, cc (e, q.2)))))))
fields_row high low k form e (inr (inr (inr (inr (inr (inr (inr (inr (inr (inr (inl q))))))))))) = inr (inr (inr (inr (inr (inr (q.0, q.1, cc (e, q.2)))))))
fields_row high low k form e (inr (inr (inr (inr (inr (inr (inr (inr (inr (inr (inr (inl q)))))))))))) = absurd (cc (e, q.2))
fields_row high low k form e (inr (inr (inr (inr (inr (inr (inr (inr (inr (inr (inr (inr q)))))))))))) = absurd q

bytes_rows : (high low k : ℕ) → form_of high low ≡ Some (BytesFrom k) → BytesRow high low k
unfolding form_of
bytes_rows high low k is = by_name (named high low)
  where
    by_name : Named high low → BytesRow high low k
    by_name (is_nack e) =
        let same : Some (BytesFrom 0) ≡ Some (BytesFrom k) = (let first : form_of high low ≡ Some (BytesFrom 0) = rw e refl in sym first) ∙ is in
        inl (e, cc (same))
    by_name (is_row form e q) = let same : Some form ≡ Some (BytesFrom k) = sym e ∙ is in bytes_row high low k form (cc (same)) q
    by_name (is_other e) = let same : None ≡ Some (BytesFrom k) = sym e ∙ is in absurd (cc (same))

fields_rows : (high low k : ℕ) → form_of high low ≡ Some (FieldsFrom k) → FieldsRow high low k
unfolding form_of
fields_rows high low k is = by_name (named high low)
  where
    by_name : Named high low → FieldsRow high low k
    by_name (is_nack e) =
        let same : Some (BytesFrom 0) ≡ Some (FieldsFrom k) = (let first : form_of high low ≡ Some (BytesFrom 0) = rw e refl in sym first) ∙ is in
        absurd (cc (same))
    by_name (is_row form e q) = let same : Some form ≡ Some (FieldsFrom k) = sym e ∙ is in fields_row high low k form (cc (same)) q
    by_name (is_other e) = let same : None ≡ Some (FieldsFrom k) = sym e ∙ is in absurd (cc (same))

-- the messages that end in bytes
ack_row : (high low : ℕ) → BytesRow high low 0 → high ≢ 0x84 → (high ≡ 0x80) × (low ≡ 0x00)
ack_row high low row ne = (grind arith, grind arith)

intermediate_row : (high low k : ℕ) → BytesRow high low (suc k) → high ≡ 0x04 → (low ≡ 0xFF) × (k ≡ 0)
intermediate_row high low k row e = (grind arith, grind arith)

abort_row : (high low k : ℕ) → BytesRow high low (suc k) → low ≡ 0x1E → (high ≡ 0x06) × (k ≡ 0)
abort_row high low k row e = (grind arith, grind arith)

print_row : (high low k : ℕ) → BytesRow high low (suc k) → high ≢ 0x04 → low ≢ 0x1E → (high ≡ 0x06) × (low ≡ 0xD1) × (k ≡ 0)
print_row high low k row h l = (grind arith, grind arith, grind arith)

reversal_row : (high low : ℕ) → FieldsRow high low 3 → (low ≡ 0x30) → high ≡ 0x06
reversal_row high low row l = grind arith

end_row : (high low : ℕ) → FieldsRow high low 3 → (low ≢ 0x30) → (high ≡ 0x06) × (low ≡ 0x50)
end_row high low row l = (grind arith, grind arith)

none_row : (high low k : ℕ) → FieldsRow high low k → k ≢ 3 → k ≡ 0
none_row high low k row ne = grind arith

status_row : (high low : ℕ) → FieldsRow high low 0 → high ≡ 0x04 → low ≡ 0x0F
status_row high low row h = grind arith

six_row : (high low : ℕ) → FieldsRow high low 0 → high ≢ 0x04 → high ≡ 0x06
six_row high low row h = grind arith

text_row : (high low : ℕ) → FieldsRow high low 0 → high ≢ 0x04 → low ≢ 0x01 → low ≢ 0x0F → low ≢ 0xB0 → low ≡ 0xD3
text_row high low row h a b c = grind arith

bytes_apart : (a b : List ℕ) → AreBytes (a ++ b) → AreBytes a × AreBytes b
bytes_apart [] b h = (tt, h)
bytes_apart (x ∷ a) b h = let more = bytes_apart a b h.1 in ((h.0, more.0), more.1)

pub is_ack : (high low : ℕ) (first payload : List ℕ) → length first < 1 → form_of high low ≡ Some (BytesFrom (length first)) → high ≢ 0x84 → AreBytes (first ++ payload) → (r : Reading) → IsMessage r high low (first ++ payload) (ack payload)
is_ack high low [] payload none e ne b r =
    let row = ack_row high low (bytes_rows high low 0 e) ne in
    let h : high ≡ 0x80 = row.0 in
    let l : low ≡ 0x00 = row.1 in
    record { is_control = cc (h, l); is_content = (refl, refl, tt, b) }
is_ack high low (x ∷ first) payload none e ne b r = absurd (omega arith)

pub is_intermediate : (high low : ℕ) (first payload : List ℕ) → 1 ≤ length first → form_of high low ≡ Some (BytesFrom (length first)) → high ≡ 0x04 → AreBytes (first ++ payload) → (r : Reading) → IsMessage r high low (first ++ payload) (intermediate (get_or first 0 0) payload)
is_intermediate high low [] payload some e h b r = absurd (omega arith)
is_intermediate high low (x ∷ []) payload some e h b r =
    let row = intermediate_row high low 0 (bytes_rows high low 1 e) h in
    let l : low ≡ 0xFF = row.0 in
    record { is_control = cc (h, l); is_content = (refl, refl, (b.0, tt), b.1) }
is_intermediate high low (x ∷ y ∷ first) payload some e h b r = absurd (omega (arith, (intermediate_row high low (suc (length first)) (bytes_rows high low (suc (suc (length first))) e) h).1))

pub is_abort : (high low : ℕ) (first payload : List ℕ) → 1 ≤ length first → form_of high low ≡ Some (BytesFrom (length first)) → low ≡ 0x1E → AreBytes (first ++ payload) → (r : Reading) → IsMessage r high low (first ++ payload) (abort (get_or first 0 0) payload)
is_abort high low [] payload some e l b r = absurd (omega arith)
is_abort high low (x ∷ []) payload some e l b r =
    let row = abort_row high low 0 (bytes_rows high low 1 e) l in
    let h : high ≡ 0x06 = row.0 in
    record { is_control = cc (h, l); is_content = (refl, refl, (b.0, tt), b.1) }
is_abort high low (x ∷ y ∷ first) payload some e l b r = absurd (omega (arith, (abort_row high low (suc (length first)) (bytes_rows high low (suc (suc (length first))) e) l).1))

pub is_print_line : (high low : ℕ) (first payload : List ℕ) → 1 ≤ length first → form_of high low ≡ Some (BytesFrom (length first)) → high ≢ 0x04 → low ≢ 0x1E → AreBytes (first ++ payload) → (r : Reading) → IsMessage r high low (first ++ payload) (print_line (get_or first 0 0) payload)
is_print_line high low [] payload some e h l b r = absurd (omega arith)
is_print_line high low (x ∷ []) payload some e h l b r =
    let row = print_row high low 0 (bytes_rows high low 1 e) h l in
    let highs : high ≡ 0x06 = row.0 in
    let lows : low ≡ 0xD1 = row.1 in
    record { is_control = cc (highs, lows); is_content = (refl, refl, (b.0, tt), b.1) }
is_print_line high low (x ∷ y ∷ first) payload some e h l b r = absurd (omega (arith, (print_row high low (suc (length first)) (bytes_rows high low (suc (suc (length first))) e) h l).2))

-- a registration
registered_row : (high low : ℕ) (form : Form) → form ≡ Registration → InTable high low form table → high ∷ low ∷ [] ≡ 0x06 ∷ 0x00 ∷ []
registered_row high low form e (inl q) = absurd (cc (e, q.2))
registered_row high low form e (inr (inl q)) = let h : high ≡ 0x06 = q.0 in let l : low ≡ 0x00 = q.1 in cc (h, l)
registered_row high low form e (inr (inr (inl q))) = absurd (cc (e, q.2))
registered_row high low form e (inr (inr (inr (inl q)))) = absurd (cc (e, q.2))
registered_row high low form e (inr (inr (inr (inr (inl q))))) = absurd (cc (e, q.2))
registered_row high low form e (inr (inr (inr (inr (inr (inl q)))))) = absurd (cc (e, q.2))
registered_row high low form e (inr (inr (inr (inr (inr (inr (inl q))))))) = absurd (cc (e, q.2))
registered_row high low form e (inr (inr (inr (inr (inr (inr (inr (inl q)))))))) = absurd (cc (e, q.2))
registered_row high low form e (inr (inr (inr (inr (inr (inr (inr (inr (inl q))))))))) = absurd (cc (e, q.2))
registered_row high low form e (inr (inr (inr (inr (inr (inr (inr (inr (inr (inl q)))))))))) = absurd (cc (e, q.2))
registered_row high low form e (inr (inr (inr (inr (inr (inr (inr (inr (inr (inr (inl q))))))))))) = absurd (cc (e, q.2))
registered_row high low form e (inr (inr (inr (inr (inr (inr (inr (inr (inr (inr (inr (inl q)))))))))))) = absurd (cc (e, q.2))
registered_row high low form e (inr (inr (inr (inr (inr (inr (inr (inr (inr (inr (inr (inr q)))))))))))) = absurd q

registered_control : (high low : ℕ) → form_of high low ≡ Some Registration → high ∷ low ∷ [] ≡ 0x06 ∷ 0x00 ∷ []
unfolding form_of
registered_control high low is = by_name (named high low)
  where
    by_name : Named high low → high ∷ low ∷ [] ≡ 0x06 ∷ 0x00 ∷ []
    by_name (is_nack e) =
        let same : Some (BytesFrom 0) ≡ Some Registration = (let first : form_of high low ≡ Some (BytesFrom 0) = rw e refl in sym first) ∙ is in
        absurd (cc (same))
    by_name (is_row form e q) = let same : Some form ≡ Some Registration = sym e ∙ is in registered_row high low form (cc (same)) q
    by_name (is_other e) = let same : None ≡ Some Registration = sym e ∙ is in absurd (cc (same))

long_lies : (b : Bool) (k : ℕ) → cond b (bytes_after 4) (record { free = 4; digits = 2; fields = true }) ≡ bytes_after k → (k ≡ 4) × (b ≡ true)
long_lies true k e = (ap (λ (l : Layout). l.free) (sym e), refl)
long_lies false k e = absurd (false≢true (sym (ap (λ (l : Layout). l.fields) e)))

pub is_registration : (high low : ℕ) (first payload : List ℕ) → form_of high low ≡ Some Registration → layout_of high low (length first + length payload) ≡ bytes_after (length first) → AreBytes (first ++ payload) →
    (r : Reading) → IsMessage r high low (first ++ payload) (registration (get_or first 0 0 ∷ get_or first 1 0 ∷ get_or first 2 0 ∷ []) (get_or first 3 0) None)
is_registration high low first payload e laid b r =
    let n = length first + length payload in
    let q = long_lies (nat_le n 4) (length first) (ap (λ (o : Option Form). layout o n) (sym e) ∙ laid) in
    by_first first q.0 (omega (arith, leb-true n 4 q.1, q.0)) b
  where
    none : (s : List ℕ) → length s ≡ 0 → s ≡ []
    none [] e = refl
    none (x ∷ s) e = absurd (omega arith)

    by_first : (first : List ℕ) → length first ≡ 4 → length payload ≡ 0 → AreBytes (first ++ payload) → IsMessage r high low (first ++ payload) (registration (get_or first 0 0 ∷ get_or first 1 0 ∷ get_or first 2 0 ∷ []) (get_or first 3 0) None)
    by_first (x ∷ y ∷ z ∷ g ∷ []) four nothing b = record {
      is_control = registered_control high low e;
      is_content = (ap (λ (s : List ℕ). x ∷ y ∷ z ∷ g ∷ s) (none payload nothing), refl, (bytes_apart (x ∷ y ∷ z ∷ g ∷ []) payload b).0, tt);
    }
    by_first [] four nothing b = absurd (omega arith)
    by_first (x ∷ []) four nothing b = absurd (omega arith)
    by_first (x ∷ y ∷ []) four nothing b = absurd (omega arith)
    by_first (x ∷ y ∷ z ∷ []) four nothing b = absurd (omega arith)
    by_first (x ∷ y ∷ z ∷ g ∷ h ∷ s) four nothing b = absurd (omega arith)

-- the messages that end in fields
pub is_reversal : (high low : ℕ) (first : List ℕ) (fs : List Field) → length first ≡ 3 → form_of high low ≡ Some (FieldsFrom (length first)) → low ≡ 0x30 → AreBytes first → (r : Reading) (listed : List ℕ) → FieldList r fs listed →
    IsMessage r high low (first ++ listed) (reversal (get_or first 0 0 ∷ get_or first 1 0 ∷ get_or first 2 0 ∷ []) fs)
is_reversal high low (a ∷ b ∷ c ∷ []) fs size e l are r listed p =
    let h : high ≡ 0x06 = reversal_row high low (fields_rows high low 3 e) l in
    record { is_control = cc (h, l); is_content = (listed, refl, refl, are, p) }
is_reversal high low [] fs size e l are r listed p = absurd (omega arith)
is_reversal high low (a ∷ []) fs size e l are r listed p = absurd (omega arith)
is_reversal high low (a ∷ b ∷ []) fs size e l are r listed p = absurd (omega arith)
is_reversal high low (a ∷ b ∷ c ∷ d ∷ first) fs size e l are r listed p = absurd (omega arith)

pub is_end_of_day : (high low : ℕ) (first : List ℕ) (fs : List Field) → length first ≡ 3 → form_of high low ≡ Some (FieldsFrom (length first)) → low ≢ 0x30 → AreBytes first → (r : Reading) (listed : List ℕ) → FieldList r fs listed →
    IsMessage r high low (first ++ listed) (end_of_day (get_or first 0 0 ∷ get_or first 1 0 ∷ get_or first 2 0 ∷ []) fs)
is_end_of_day high low (a ∷ b ∷ c ∷ []) fs size e ne are r listed p =
    let row = end_row high low (fields_rows high low 3 e) ne in
    let h : high ≡ 0x06 = row.0 in
    let l : low ≡ 0x50 = row.1 in
    record { is_control = cc (h, l); is_content = (listed, refl, refl, are, p) }
is_end_of_day high low [] fs size e l are r listed p = absurd (omega arith)
is_end_of_day high low (a ∷ []) fs size e l are r listed p = absurd (omega arith)
is_end_of_day high low (a ∷ b ∷ []) fs size e l are r listed p = absurd (omega arith)
is_end_of_day high low (a ∷ b ∷ c ∷ d ∷ first) fs size e l are r listed p = absurd (omega arith)

-- fields alone
pub listed_alone : (high low : ℕ) (first : List ℕ) → length first ≢ 3 → form_of high low ≡ Some (FieldsFrom (length first)) → (first ≡ []) × FieldsRow high low 0
listed_alone high low [] ne e = (refl, fields_rows high low 0 e)
listed_alone high low (x ∷ first) ne e = absurd (omega (arith, none_row high low (suc (length first)) (fields_rows high low (suc (length first)) e) ne))

pub is_status : (high low : ℕ) (first : List ℕ) (fs : List Field) → length first ≢ 3 → form_of high low ≡ Some (FieldsFrom (length first)) → high ≡ 0x04 → (r : Reading) (listed : List ℕ) → FieldList r fs listed → IsMessage r high low (first ++ listed) (status fs)
is_status high low first fs ne e h r listed p =
    let a = listed_alone high low first ne e in
    let l : low ≡ 0x0F = status_row high low a.1 h in
    record { is_control = cc (h, l); is_content = (listed, ap (λ (s : List ℕ). s ++ listed) a.0, refl, tt, p) }

pub is_listed : (high low known : ℕ) (first : List ℕ) (fs : List Field) → length first ≢ 3 → form_of high low ≡ Some (FieldsFrom (length first)) → high ≢ 0x04 → low ≡ known → (r : Reading) (listed : List ℕ) → FieldList r fs listed →
    (high ∷ low ∷ [] ≡ 0x06 ∷ known ∷ []) × ((rest : List ℕ) × (first ++ listed ≡ [] ++ rest) × (length {A = ℕ} [] ≡ 0) × AreBytes [] × FieldList r fs rest)
is_listed high low known first fs ne e h l r listed p =
    let a = listed_alone high low first ne e in
    let six : high ≡ 0x06 = six_row high low a.1 h in
    (cc (six, l), (listed, ap (λ (s : List ℕ). s ++ listed) a.0, refl, tt, p))

pub text_low : (high low : ℕ) (first : List ℕ) → length first ≢ 3 → form_of high low ≡ Some (FieldsFrom (length first)) → high ≢ 0x04 → low ≢ 0x01 → low ≢ 0x0F → low ≢ 0xB0 → low ≡ 0xD3
text_low high low first ne e h a b d = text_row high low (listed_alone high low first ne e).1 h a b d

-- a registration with a currency
long_tail : (b : Bool) (l : Layout) → cond b (bytes_after 4) (record { free = 4; digits = 2; fields = true }) ≡ l → l.fields ≡ true → (l.free ≡ 4) × (l.digits ≡ 2)
long_tail true l e f = absurd (false≢true (ap (λ (l : Layout). l.fields) e ∙ f))
long_tail false l e f = (ap (λ (l : Layout). l.free) (sym e), ap (λ (l : Layout). l.digits) (sym e))

abbrev pub HasFields : (high low : ℕ) → List ℕ → Type 0
HasFields high low first = (n : ℕ) × ((layout_of high low n).fields ≡ true) × (head_size (layout_of high low n) ≡ length first) × AreDigits (drop (layout_of high low n).free first)

pub registered_head : (high low : ℕ) (first : List ℕ) → form_of high low ≡ Some Registration → HasFields high low first → (length first ≡ 6) × AreDigits (drop 4 first)
registered_head high low first e h =
    let q = long_tail (nat_le h.0 4) (layout_of high low h.0) (ap (λ (o : Option Form). layout o h.0) (sym e)) h.1 in
    (omega (arith, h.2, q.0, q.1), subst (λ (k : ℕ). AreDigits (drop k first)) q.0 h.3)

pub is_registered : (high low : ℕ) (first : List ℕ) (currency : ℕ) (fs : List Field) → form_of high low ≡ Some Registration → HasFields high low first → AreBytes first → currency ≡ number_of (drop 4 first) → (r : Reading) (listed : List ℕ) → FieldList r fs listed →
    IsMessage r high low (first ++ listed) (registration (get_or first 0 0 ∷ get_or first 1 0 ∷ get_or first 2 0 ∷ []) (get_or first 3 0) (Some (currency, fs)))
is_registered high low first currency fs e h are is r listed p =
    let q = registered_head high low first e h in by_first first q.0 q.1 are is
  where
    by_first : (first : List ℕ) → length first ≡ 6 → AreDigits (drop 4 first) → AreBytes first → currency ≡ number_of (drop 4 first) →
        IsMessage r high low (first ++ listed) (registration (get_or first 0 0 ∷ get_or first 1 0 ∷ get_or first 2 0 ∷ []) (get_or first 3 0) (Some (currency, fs)))
    by_first (x ∷ y ∷ z ∷ g ∷ u ∷ v ∷ []) six digits are is = record {
      is_control = registered_control high low e;
      is_content = record {
        digits = u ∷ v ∷ [];
        listed = listed;
        whole = refl;
        count = refl;
        are_bytes = (bytes_apart (x ∷ y ∷ z ∷ g ∷ []) (u ∷ v ∷ []) are).0;
        two = refl;
        are_digits = digits;
        number = sym is;
        spelled = p;
      };
    }
    by_first [] six digits are is = absurd (omega arith)
    by_first (x ∷ []) six digits are is = absurd (omega arith)
    by_first (x ∷ y ∷ []) six digits are is = absurd (omega arith)
    by_first (x ∷ y ∷ z ∷ []) six digits are is = absurd (omega arith)
    by_first (x ∷ y ∷ z ∷ g ∷ []) six digits are is = absurd (omega arith)
    by_first (x ∷ y ∷ z ∷ g ∷ u ∷ []) six digits are is = absurd (omega arith)
    by_first (x ∷ y ∷ z ∷ g ∷ u ∷ v ∷ w ∷ s) six digits are is = absurd (omega arith)
