-- How the logic stores a message: the number of its kind, its small parts, its bytes and its fields.
use Rattle.std.specs.Prelude.{◌≡◌, ℕ, suc, zero, Some, None, List, [], refl}
use Rattle.std.specs.Coded.{Coded, code_by, coded×, coded_ℕ, coded_list}
use Rattle.zvt_field.specs.Grammar.{Field, field_code}
use Rattle.zvt_apdu.specs.Message.{Message, ack, nack, registration, authorisation, reversal, end_of_day, abort_order, status, intermediate, print_line, text_block, completion, abort, other}

abbrev Stored : Type 0
Stored = ℕ × (ℕ × (ℕ × (List ℕ × List Field)))

abbrev stored : Message → Stored
stored (ack p) = (0, (0, (0, (p, []))))
stored (nack c p) = (1, (c, (0, (p, []))))
stored (registration w g None) = (2, (g, (0, (w, []))))
stored (registration w g (Some s)) = (3, (g, (s.0, (w, s.1))))
stored (authorisation f) = (4, (0, (0, ([], f))))
stored (reversal w f) = (5, (0, (0, (w, f))))
stored (end_of_day w f) = (6, (0, (0, (w, f))))
stored (abort_order f) = (7, (0, (0, ([], f))))
stored (status f) = (8, (0, (0, ([], f))))
stored (intermediate s p) = (9, (s, (0, (p, []))))
stored (print_line s p) = (10, (s, (0, (p, []))))
stored (text_block f) = (11, (0, (0, ([], f))))
stored (completion f) = (12, (0, (0, ([], f))))
stored (abort c p) = (13, (c, (0, (p, []))))
stored (other h l p) = (14, (h, (l, (p, []))))

abbrev by_kind : ℕ → (a b : ℕ) → List ℕ → List Field → Message
by_kind zero a b p f = ack p
by_kind (suc zero) a b p f = nack a p
by_kind (suc (suc zero)) a b p f = registration p a None
by_kind (suc (suc (suc zero))) a b p f = registration p a (Some (b, f))
by_kind (suc (suc (suc (suc zero)))) a b p f = authorisation f
by_kind (suc (suc (suc (suc (suc zero))))) a b p f = reversal p f
by_kind (suc (suc (suc (suc (suc (suc zero)))))) a b p f = end_of_day p f
by_kind (suc (suc (suc (suc (suc (suc (suc zero))))))) a b p f = abort_order f
by_kind (suc (suc (suc (suc (suc (suc (suc (suc zero)))))))) a b p f = status f
by_kind (suc (suc (suc (suc (suc (suc (suc (suc (suc zero))))))))) a b p f = intermediate a p
by_kind (suc (suc (suc (suc (suc (suc (suc (suc (suc (suc zero)))))))))) a b p f = print_line a p
by_kind (suc (suc (suc (suc (suc (suc (suc (suc (suc (suc (suc zero))))))))))) a b p f = text_block f
by_kind (suc (suc (suc (suc (suc (suc (suc (suc (suc (suc (suc (suc zero)))))))))))) a b p f = completion f
by_kind (suc (suc (suc (suc (suc (suc (suc (suc (suc (suc (suc (suc (suc zero))))))))))))) a b p f = abort a p
by_kind (suc (suc (suc (suc (suc (suc (suc (suc (suc (suc (suc (suc (suc (suc n)))))))))))))) a b p f = other a b p

abbrev restored : Stored → Message
restored s = by_kind s.0 s.1.0 s.1.1.0 s.1.1.1.0 s.1.1.1.1

pub restored-stored : (m : Message) → restored (stored m) ≡ m
restored-stored (ack p) = refl
restored-stored (nack c p) = refl
restored-stored (registration w g None) = refl
restored-stored (registration w g (Some s)) = refl
restored-stored (authorisation f) = refl
restored-stored (reversal w f) = refl
restored-stored (end_of_day w f) = refl
restored-stored (abort_order f) = refl
restored-stored (status f) = refl
restored-stored (intermediate s p) = refl
restored-stored (print_line s p) = refl
restored-stored (text_block f) = refl
restored-stored (completion f) = refl
restored-stored (abort c p) = refl
restored-stored (other h l p) = refl

abbrev pub message_code : Coded Message
message_code =
    code_by Stored (coded× coded_ℕ (coded× coded_ℕ (coded× coded_ℕ (coded× (coded_list coded_ℕ) (coded_list field_code))))) stored restored restored-stored
