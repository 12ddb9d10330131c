-- What an unreadable status says: one thing, and rows worked by hand.
use Rattle.std.proofs.Common.{◌≡◌, ℕ, ◌<◌, true, false, Some, None, List, [], ◌∷◌, Option, refl, sym, ◌∙◌, ap, arith}
use Rattle.zvt_grammar.specs.Reading.{padded}
use Rattle.zvt_field.specs.Grammar.{plain, FieldOf}
use Rattle.zvt_field.specs.Shapes.{shape_of}
use Rattle.zvt_field.proofs.LawProofs.{begun_are_one}
use Rattle.zvt_field.proofs.NoneFound.{none_in, least_two}
use Rattle.zvt_report.specs.Approvals.{ApprovalsAreOne, SaidInData, SaysApproved, approved_fields, said_by, status_data}
use Rattle.zvt_report.proofs.DigitLemmas.{passing_digits}
use Rattle.zvt_report.specs.declared.approvals.UnreadableApproval.{UnreadableApproval}

said_once : (listed : Option (List ℕ)) (said other : Option UnreadableApproval) → SaidInData listed said → SaidInData listed other → said ≡ other
said_once None said other p q = p ∙ sym q
said_once (Some content) said other p q = p.2 ∙ ap said_by (begun_are_one padded content p.0 q.0 p.1 q.1) ∙ sym q.2

pub approvals_are_one : ApprovalsAreOne
approvals_are_one bytes said other p q = said_once (status_data bytes) said other p q

-- ---- rows worked by hand

amount_field : FieldOf padded (plain 0x04 (0 ∷ 0 ∷ 0 ∷ 0 ∷ 0x12 ∷ 0x50 ∷ [])) (0x04 ∷ 0 ∷ 0 ∷ 0 ∷ 0 ∷ 0x12 ∷ 0x50 ∷ [])
unfolding shape_of
amount_field = record {
  digits = true;
  size = [];
  whole = refl;
  is_head = (refl, refl, refl);
  is_content = passing_digits (0 ∷ 0 ∷ 0 ∷ 0 ∷ 0x12 ∷ 0x50 ∷ []) refl;
}

trace_field : FieldOf padded (plain 0x0B (0x00 ∷ 0x01 ∷ 0x23 ∷ [])) (0x0B ∷ 0x00 ∷ 0x01 ∷ 0x23 ∷ [])
unfolding shape_of
trace_field = record {
  digits = true;
  size = [];
  whole = refl;
  is_head = (refl, refl, refl);
  is_content = passing_digits (0x00 ∷ 0x01 ∷ 0x23 ∷ []) refl;
}

result_field : (code : ℕ) → code < 256 → FieldOf padded (plain 0x27 (code ∷ [])) (0x27 ∷ code ∷ [])
unfolding shape_of
result_field code small = record { digits = false; size = []; whole = refl; is_head = (refl, refl, refl); is_content = (small, tt) }

-- 32 bytes are announced; the amount, the trace number and result 00 are whole, and no field begins with EE
approved_before_unknown : SaysApproved
    (0x04 ∷ 0x0F ∷ 0x20 ∷ 0x04 ∷ 0 ∷ 0 ∷ 0 ∷ 0 ∷ 0x12 ∷ 0x50 ∷ 0x0B ∷ 0x00 ∷ 0x01 ∷ 0x23 ∷ 0x27 ∷ 0x00 ∷ 0xEE ∷ [])
    (Some (record { amount = Some 1250; trace = Some 123 }))
approved_before_unknown = (
  approved_fields,
  (
    0xEE ∷ [],
    record {
      spelled = (
        0x04 ∷ 0 ∷ 0 ∷ 0 ∷ 0 ∷ 0x12 ∷ 0x50 ∷ [],
        0x0B ∷ 0x00 ∷ 0x01 ∷ 0x23 ∷ 0x27 ∷ 0x00 ∷ 0xEE ∷ [],
        refl,
        amount_field,
        (
          0x0B ∷ 0x00 ∷ 0x01 ∷ 0x23 ∷ [],
          0x27 ∷ 0x00 ∷ 0xEE ∷ [],
          refl,
          trace_field,
          (0x27 ∷ 0x00 ∷ [], 0xEE ∷ [], refl, result_field 0x00 (omega arith), refl),
        ),
      );
      none_whole = none_in padded (0xEE ∷ []) 2 (least_two padded (0xEE ∷ [])) (omega arith);
    },
  ),
  refl,
)

-- result 05
declined_before_unknown : SaysApproved (0x04 ∷ 0x0F ∷ 0x20 ∷ 0x27 ∷ 0x05 ∷ 0xEE ∷ []) None
declined_before_unknown = (
  plain 0x27 (0x05 ∷ []) ∷ [],
  (
    0xEE ∷ [],
    record {
      spelled = (0x27 ∷ 0x05 ∷ [], 0xEE ∷ [], refl, result_field 0x05 (omega arith), refl);
      none_whole = none_in padded (0xEE ∷ []) 2 (least_two padded (0xEE ∷ [])) (omega arith);
    },
  ),
  refl,
)

-- the result is not whole yet
result_to_come : SaysApproved (0x04 ∷ 0x0F ∷ 0x20 ∷ 0x27 ∷ []) None
result_to_come = ([], (0x27 ∷ [], record { spelled = refl; none_whole = none_in padded (0x27 ∷ []) 2 (least_two padded (0x27 ∷ [])) (omega arith) }), refl)

-- a completion says nothing, nor does a status whose length has not come
a_completion : SaysApproved (0x06 ∷ 0x0F ∷ 0x20 ∷ 0x27 ∷ 0x00 ∷ 0xEE ∷ []) None
a_completion = refl

length_to_come : SaysApproved (0x04 ∷ 0x0F ∷ []) None
length_to_come = refl
