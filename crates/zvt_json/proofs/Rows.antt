-- Lines worked by hand.
use Rattle.std.proofs.Common.{◌≡◌, [], ◌∷◌, Some, refl, codes}
use Rattle.std.specs.Fmt.{digits}
use Rattle.hex.specs.Hex.{encode_with}
use Rattle.json.specs.Print.{escape_byte}
use Rattle.zvt_grammar.specs.declared.why.Why.TheVariants.{UnknownField}
use Rattle.zvt_tlv.specs.Grammar.{none, primitive, constructed}
use Rattle.zvt_field.specs.Grammar.{plain, tree}
use Rattle.zvt_apdu.specs.Message.{abort, intermediate, other, print_line, registration, status}
use Rattle.zvt_trace.specs.declared.direction.Direction.TheVariants.{FromTill, FromTerminal}
use Rattle.zvt_text.specs.Meanings.{command_name, meaning_of, status_words}
use Rattle.zvt_json.specs.Strings.{line_text}
use Rattle.zvt_json.specs.Messages.{message_value}
use Rattle.zvt_json.specs.Events.{lost_value, refused_value, stopped_value, truncated_value}

-- 04 0F 1C, 27 00, 04 00 00 00 00 12 34, 22 F1 F0 and ten bytes, 06 04 25 02 07 00
pub paid : line_text (message_value FromTerminal 3 31 (status (plain 0x27 (0x00 ∷ []) ∷ plain 0x04 (0x00 ∷ 0x00 ∷ 0x00 ∷ 0x00 ∷ 0x12 ∷ 0x34 ∷ [])
    ∷ plain 0x22 (1 ∷ 2 ∷ 3 ∷ 4 ∷ 5 ∷ 6 ∷ 7 ∷ 8 ∷ 9 ∷ 10 ∷ []) ∷ tree 0x06 (constructed (0x25 ∷ []) (primitive (0x07 ∷ []) [] none) none) ∷ [])))
    ≡ codes "{\"fields\":[{\"bmp\":\"27\",\"code\":\"00\",\"name\":\"result\",\"words\":\"success\"},{\"bmp\":\"04\",\"name\":\"amount\",\"value\":1234},{\"bmp\":\"22\",\"hidden\":10,\"name\":\"pan\"},{\"bmp\":\"06\",\"name\":\"container\",\"objects\":[{\"objects\":[{\"content\":\"\",\"tag\":\"07\"}],\"tag\":\"25\"}]}],\"from\":\"terminal\",\"kind\":\"Status\",\"line\":3,\"size\":31}\n"
unfolding encode_with digits escape_byte meaning_of
paid = refl

-- 06 D1 04 00 41 84 22
pub printed : line_text (message_value FromTerminal 12 7 (print_line 0x00 (0x41 ∷ 0x84 ∷ 0x22 ∷ []))) ≡ codes "{\"attribute\":\"00\",\"from\":\"terminal\",\"kind\":\"PrintLine\",\"line\":12,\"size\":7,\"text\":\"A\\\\x84\\\\x22\"}\n"
unfolding encode_with digits escape_byte
printed = refl

-- 06 00 08 01 02 03 BE 09 78 03 01
pub registered : line_text (message_value FromTill 1 11 (registration (0x01 ∷ 0x02 ∷ 0x03 ∷ []) 0xBE (Some (978, plain 0x03 (0x01 ∷ []) ∷ []))))
    ≡ codes "{\"config\":\"BE\",\"currency\":\"0978\",\"fields\":[{\"bmp\":\"03\",\"content\":\"01\",\"name\":\"service\"}],\"from\":\"till\",\"kind\":\"Registration\",\"line\":1,\"size\":11}\n"
unfolding encode_with digits escape_byte
registered = refl

-- 06 1E 01 6C, 06 1E 01 65, whose meaning the text for people does not have, and 06 1E 01 99
pub given_up : line_text (message_value FromTerminal 2 4 (abort 0x6C [])) ≡ codes "{\"code\":\"6C\",\"from\":\"terminal\",\"kind\":\"Abort\",\"line\":2,\"size\":4,\"words\":\"abort by time-out or abort key\"}\n"
unfolding encode_with digits escape_byte meaning_of
given_up = refl

pub no_card : line_text (message_value FromTerminal 2 4 (abort 0x65 [])) ≡ codes "{\"code\":\"65\",\"from\":\"terminal\",\"kind\":\"Abort\",\"line\":2,\"size\":4,\"words\":\"no card data found\"}\n"
unfolding encode_with digits escape_byte meaning_of
no_card = refl

pub unnamed : line_text (message_value FromTerminal 2 4 (abort 0x99 [])) ≡ codes "{\"code\":\"99\",\"from\":\"terminal\",\"kind\":\"Abort\",\"line\":2,\"size\":4}\n"
unfolding encode_with digits escape_byte meaning_of
unnamed = refl

-- 04 FF 01 BB
pub silent : line_text (message_value FromTerminal 5 4 (intermediate 0xBB [])) ≡ codes "{\"from\":\"terminal\",\"kind\":\"Intermediate\",\"line\":5,\"size\":4,\"status\":\"BB\"}\n"
unfolding encode_with digits escape_byte status_words
silent = refl

-- 04 FF 02 0A 01
pub waiting : line_text (message_value FromTerminal 5 5 (intermediate 0x0A (0x01 ∷ []))) ≡ codes "{\"data\":\"01\",\"from\":\"terminal\",\"kind\":\"Intermediate\",\"line\":5,\"size\":5,\"status\":\"0A\",\"words\":\"insert the card\"}\n"
unfolding encode_with digits escape_byte status_words
waiting = refl

pub refused : line_text (refused_value FromTerminal 4 0xD0 3 UnknownField) ≡ codes "{\"from\":\"terminal\",\"line\":4,\"refused\":{\"byte\":\"D0\",\"place\":3,\"reason\":\"UnknownField\"}}\n"
unfolding encode_with digits escape_byte
refused = refl

pub stopped : line_text (stopped_value FromTerminal 5) ≡ codes "{\"from\":\"terminal\",\"line\":5,\"stopped\":true}\n"
unfolding digits escape_byte
stopped = refl

pub truncated : line_text (truncated_value FromTill 6 10) ≡ codes "{\"from\":\"till\",\"line\":6,\"truncated\":{\"after\":10}}\n"
unfolding digits escape_byte
truncated = refl

pub lost : line_text (lost_value 7) ≡ codes "{\"line\":7,\"lost\":true}\n"
unfolding digits escape_byte
lost = refl

-- 06 93 03 12 34 56
pub unknown : line_text (message_value FromTill 1 6 (other 0x06 0x93 (0x12 ∷ 0x34 ∷ 0x56 ∷ []))) ≡ codes "{\"control\":\"0693\",\"data_size\":3,\"from\":\"till\",\"kind\":\"Other\",\"line\":1,\"name\":\"initialisation\",\"size\":6}\n"
unfolding encode_with digits escape_byte command_name
unknown = refl

-- 05 02 00, a command that the table does not have
pub nameless : line_text (message_value FromTill 1 3 (other 0x05 0x02 [])) ≡ codes "{\"control\":\"0502\",\"data_size\":0,\"from\":\"till\",\"kind\":\"Other\",\"line\":1,\"size\":3}\n"
unfolding encode_with digits escape_byte command_name
nameless = refl

-- 04 0F 05 06 03 5A 01 CD
pub card : line_text (message_value FromTerminal 1 8 (status (tree 0x06 (primitive (0x5A ∷ []) (0xCD ∷ []) none) ∷ [])))
    ≡ codes "{\"fields\":[{\"bmp\":\"06\",\"name\":\"container\",\"objects\":[{\"hidden\":1,\"tag\":\"5A\"}]}],\"from\":\"terminal\",\"kind\":\"Status\",\"line\":1,\"size\":8}\n"
unfolding encode_with digits escape_byte
card = refl
