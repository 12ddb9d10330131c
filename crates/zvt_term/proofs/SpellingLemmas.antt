-- What is written for each report is a spelling of its message.
use Rattle.std.proofs.Common.{◌≡◌, ℕ, ◌<◌, ◌≤◌, ◌^◌, Option, Some, List, [], ◌∷◌, ◌++◌, length, true, false, get_or, refl, sym, subst, arith}
use Rattle.zvt_grammar.specs.Reading.{AreBytes, shortest}
use Rattle.zvt_tlv.specs.Sizes.{Puts}
use Rattle.zvt_field.specs.Grammar.{Field, plain, FieldOf, FieldList, IsHead}
use Rattle.zvt_field.specs.Shapes.{shape_of}
use Rattle.zvt_field.specs.declared.shapes.Shape.{Shape}
use Rattle.zvt_field.specs.declared.shapes.Shape.TheVariants.{Fixed, Digits}
use Rattle.zvt_apdu.specs.Message.{Message, status, completion, print_line}
use Rattle.zvt_apdu.specs.Grammar.{IsControl, Data}
use Rattle.zvt_apdu.specs.Briefs.{digits, PutsMessage}
use Rattle.zvt_term.specs.declared.messages.Report.TheVariants.{Registered, Approved, TakenBack}
use Rattle.zvt_term.specs.Reports.{currency_field, message_of_report}
use Rattle.zvt_term.proofs.DigitLemmas.{length-digits, are-digits, three-digits, bytes_of}

-- a message with a length of one byte
pub put_spelled : (m : Message) (high low : ℕ) (bytes old new : List ℕ) (count : ℕ) → IsControl m (high ∷ low ∷ []) → length bytes ≤ 29 → Data shortest m bytes
    → Puts (high ∷ low ∷ length bytes ∷ bytes) old new count → PutsMessage m old new count
put_spelled m high low bytes old new count control few content put =
    record {
      bytes = high ∷ low ∷ length bytes ∷ bytes;
      spelled =
          record {
            control = high ∷ low ∷ [];
            size = length bytes ∷ [];
            content = bytes;
            whole = refl;
            is_control = control;
            is_size = (omega arith, refl);
            is_content = content;
          };
      puts = put;
    }

-- fields and their bytes
pub record Listing (fields : List Field) (bytes : List ℕ) : Type 0 where
  pub listed : FieldList shortest fields bytes

pub nothing_listed : Listing [] []
nothing_listed = record { listed = refl }

-- one field more at the start
one_more : (bmp : ℕ) (content rest : List ℕ) (fields : List Field) → FieldOf shortest (plain bmp content) (bmp ∷ content) → Listing fields rest → Listing (plain bmp content ∷ fields) (bmp ∷ (content ++ rest))
one_more bmp content rest fields one more = record { listed = (bmp ∷ content, rest, refl, one, more.listed) }

digits_field : (bmp k n : ℕ) → shape_of bmp ≡ Some (Digits k) → n < 100 ^ k → FieldOf shortest (plain bmp (digits k n)) (bmp ∷ digits k n)
digits_field bmp k n shape small =
    record {
      digits = true;
      size = [];
      whole = refl;
      is_head = subst (λ (o : Option Shape). IsHead o true (length (digits k n)) []) (sym shape) (refl, length-digits k n, refl);
      is_content = are-digits k n small;
    }

pub fixed_field : (bmp k : ℕ) (content : List ℕ) → shape_of bmp ≡ Some (Fixed k) → length content ≡ k → AreBytes content → FieldOf shortest (plain bmp content) (bmp ∷ content)
fixed_field bmp k content shape long are =
    record {
      digits = false;
      size = [];
      whole = refl;
      is_head = subst (λ (o : Option Shape). IsHead o false (length content) []) (sym shape) (refl, long, refl);
      is_content = are;
    }

result_shape : shape_of 0x27 ≡ Some (Fixed 1)
unfolding shape_of
result_shape = refl

amount_shape : shape_of 0x04 ≡ Some (Digits 6)
unfolding shape_of
amount_shape = refl

trace_shape : shape_of 0x0B ≡ Some (Digits 3)
unfolding shape_of
trace_shape = refl

receipt_shape : shape_of 0x87 ≡ Some (Fixed 2)
unfolding shape_of
receipt_shape = refl

original_shape : shape_of 0x37 ≡ Some (Fixed 3)
unfolding shape_of
original_shape = refl

tid_shape : shape_of 0x29 ≡ Some (Digits 4)
unfolding shape_of
tid_shape = refl

currency_shape : shape_of 0x49 ≡ Some (Digits 2)
unfolding shape_of
currency_shape = refl

-- the data of a status and of a completion
pub status_data : (fields : List Field) (bytes : List ℕ) → Listing fields bytes → Data shortest (status fields) bytes
status_data fields bytes f = (bytes, refl, refl, tt, f.listed)

pub completion_data : (fields : List Field) (bytes : List ℕ) → Listing fields bytes → Data shortest (completion fields) bytes
completion_data fields bytes f = (bytes, refl, refl, tt, f.listed)

pub result_fields : (code : ℕ) (rest : List ℕ) (fields : List Field) → code < 256 → Listing fields rest → Listing (plain 0x27 (code ∷ []) ∷ fields) (0x27 ∷ code ∷ rest)
result_fields code rest fields h more = one_more 0x27 (code ∷ []) rest fields (fixed_field 0x27 1 (code ∷ []) result_shape refl (h, tt)) more

-- two digits are bytes
digits_are_bytes : (k n : ℕ) → n < 100 ^ k → AreBytes (digits k n)
digits_are_bytes k n h = bytes_of (digits k n) (are-digits k n h)

-- an approval's number, as trace number and as receipt number
number_fields : (number : ℕ) (rest : List ℕ) (fields : List Field) → number ≤ 9999 → Listing fields rest
    → Listing (plain 0x0B (digits 3 number) ∷ fields) (0x0B ∷ 0 ∷ (digits 2 number ++ rest))
number_fields number rest fields h more =
    subst (λ (s : List ℕ). Listing (plain 0x0B (digits 3 number) ∷ fields) (0x0B ∷ (s ++ rest))) (three-digits number h)
    (one_more 0x0B (digits 3 number) rest fields (digits_field 0x0B 3 number trace_shape (omega arith)) more)

receipt_fields : (number : ℕ) (rest : List ℕ) (fields : List Field) → number ≤ 9999 → Listing fields rest → Listing (plain 0x87 (digits 2 number) ∷ fields) (0x87 ∷ (digits 2 number ++ rest))
receipt_fields number rest fields h more =
    one_more 0x87 (digits 2 number) rest fields (fixed_field 0x87 2 (digits 2 number) receipt_shape (length-digits 2 number) (digits_are_bytes 2 number (omega arith))) more

original_fields : (original : ℕ) (rest : List ℕ) (fields : List Field) → original ≤ 9999 → Listing fields rest
    → Listing (plain 0x37 (digits 3 original) ∷ fields) (0x37 ∷ 0 ∷ (digits 2 original ++ rest))
original_fields original rest fields h more =
    subst (λ (s : List ℕ). Listing (plain 0x37 (digits 3 original) ∷ fields) (0x37 ∷ (s ++ rest))) (three-digits original h)
    (one_more 0x37 (digits 3 original) rest fields (fixed_field 0x37 3 (digits 3 original) original_shape (length-digits 3 original) (digits_are_bytes 3 original (omega arith))) more)

approved_fields : (amount : ℕ) (rest : List ℕ) (fields : List Field) → amount < 100 ^ 6 → Listing fields rest
    → Listing (plain 0x27 (0 ∷ []) ∷ plain 0x04 (digits 6 amount) ∷ fields) (0x27 ∷ 0 ∷ 0x04 ∷ (digits 6 amount ++ rest))
approved_fields amount rest fields h more =
    result_fields 0 (0x04 ∷ (digits 6 amount ++ rest)) (plain 0x04 (digits 6 amount) ∷ fields) (omega arith)
    (one_more 0x04 (digits 6 amount) rest fields (digits_field 0x04 6 amount amount_shape h) more)

-- the bytes as they are in the buffer, one by one
abbrev pub six_more : List ℕ → List ℕ → List ℕ
six_more s rest = get_or s 0 0 ∷ get_or s 1 0 ∷ get_or s 2 0 ∷ get_or s 3 0 ∷ get_or s 4 0 ∷ get_or s 5 0 ∷ rest

abbrev pub two_more : List ℕ → List ℕ → List ℕ
two_more s rest = get_or s 0 0 ∷ get_or s 1 0 ∷ rest

-- a currency at the end
pub currency_listed : (currency : ℕ) (two : List ℕ) → two ≡ digits 2 currency → currency < 100 ^ 2 → Listing (currency_field (Some currency)) (0x49 ∷ two_more two [])
currency_listed currency two is small =
    subst (λ (t : List ℕ). Listing (currency_field (Some currency)) (0x49 ∷ two_more t [])) (sym is)
    (one_more 0x49 (digits 2 currency) [] [] (digits_field 0x49 2 currency currency_shape small) nothing_listed)

pub approval_listed : (amount number : ℕ) (currency : Option ℕ) (six two rest : List ℕ) → six ≡ digits 6 amount → amount < 100 ^ 6 → two ≡ digits 2 number → number ≤ 9999 → Listing (currency_field currency) rest
    → Data shortest (message_of_report (Approved amount number currency)) (0x27 ∷ 0 ∷ 0x04 ∷ six_more six (0x0B ∷ 0 ∷ two_more two (0x87 ∷ two_more two rest)))
approval_listed amount number currency six two rest is small is_two few more =
    let m : Message = message_of_report (Approved amount number currency) in
    subst (λ (s : List ℕ). Data shortest m (0x27 ∷ 0 ∷ 0x04 ∷ six_more s (0x0B ∷ 0 ∷ two_more two (0x87 ∷ two_more two rest)))) (sym is)
    (subst (λ (t : List ℕ). Data shortest m (0x27 ∷ 0 ∷ 0x04 ∷ six_more (digits 6 amount) (0x0B ∷ 0 ∷ two_more t (0x87 ∷ two_more t rest)))) (sym is_two)
    (status_data _ _ (approved_fields amount _ _ small (number_fields number _ _ few (receipt_fields number rest _ few more)))))

pub reversal_listed : (amount number original : ℕ) (currency : Option ℕ) (six two old rest : List ℕ) → six ≡ digits 6 amount → amount < 100 ^ 6 → two ≡ digits 2 number → number ≤ 9999
    → old ≡ digits 2 original → original ≤ 9999 → Listing (currency_field currency) rest
    → Data shortest (message_of_report (TakenBack amount number original currency)) (0x27 ∷ 0 ∷ 0x04 ∷ six_more six (0x0B ∷ 0 ∷ two_more two (0x37 ∷ 0 ∷ two_more old (0x87 ∷ two_more two rest))))
reversal_listed amount number original currency six two old rest is small is_two few is_old fewer more =
    let m : Message = message_of_report (TakenBack amount number original currency) in
    subst (λ (s : List ℕ). Data shortest m (0x27 ∷ 0 ∷ 0x04 ∷ six_more s (0x0B ∷ 0 ∷ two_more two (0x37 ∷ 0 ∷ two_more old (0x87 ∷ two_more two rest))))) (sym is)
    (subst (λ (t : List ℕ). Data shortest m (0x27 ∷ 0 ∷ 0x04 ∷ six_more (digits 6 amount) (0x0B ∷ 0 ∷ two_more t (0x37 ∷ 0 ∷ two_more old (0x87 ∷ two_more t rest))))) (sym is_two)
    (subst (λ (t : List ℕ). Data shortest m (0x27 ∷ 0 ∷ 0x04 ∷ six_more (digits 6 amount) (0x0B ∷ 0 ∷ two_more (digits 2 number) (0x37 ∷ 0 ∷ two_more t (0x87 ∷ two_more (digits 2 number) rest))))) (sym is_old)
    (status_data _ _ (approved_fields amount _ _ small (number_fields number _ _ few (original_fields original _ _ fewer (receipt_fields number rest _ few more)))))))

abbrev pub four_more : List ℕ → List ℕ → List ℕ
four_more s rest = get_or s 0 0 ∷ get_or s 1 0 ∷ get_or s 2 0 ∷ get_or s 3 0 ∷ rest

tid_fields : (tid : ℕ) (rest : List ℕ) (fields : List Field) → tid ≤ 99999999 → Listing fields rest
    → Listing (plain 0x29 (digits 4 tid) ∷ fields) (0x29 ∷ (digits 4 tid ++ rest))
tid_fields tid rest fields h more = one_more 0x29 (digits 4 tid) rest fields (digits_field 0x29 4 tid tid_shape (omega arith)) more

pub terminal_listed : (tid : ℕ) (four rest : List ℕ) (fields : List Field) → four ≡ digits 4 tid → tid ≤ 99999999 → FieldList shortest fields rest
    → FieldList shortest (plain 0x29 (digits 4 tid) ∷ fields) (0x29 ∷ four_more four rest)
terminal_listed tid four rest fields is few more =
    subst (λ (s : List ℕ). FieldList shortest (plain 0x29 (digits 4 tid) ∷ fields) (0x29 ∷ four_more s rest)) (sym is)
    (tid_fields tid rest fields few (record { listed = more })).listed

pub registered_listed : (tid : ℕ) (currency : Option ℕ) (four rest : List ℕ) → four ≡ digits 4 tid → tid ≤ 99999999 → Listing (currency_field currency) rest
    → Data shortest (message_of_report (Registered tid currency)) (0x29 ∷ four_more four rest)
registered_listed tid currency four rest is few more =
    subst (λ (s : List ℕ). Data shortest (message_of_report (Registered tid currency)) (0x29 ∷ four_more s rest)) (sym is)
    (completion_data _ _ (tid_fields tid rest (currency_field currency) few more))

pub text_data : (text : List ℕ) → AreBytes text → Data shortest (print_line 0 text) (0 ∷ text)
text_data text are = (refl, refl, (omega arith, tt), are)
