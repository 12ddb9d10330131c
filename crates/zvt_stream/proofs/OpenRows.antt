-- Rows of the open reading, worked by hand.
use Rattle.std.proofs.Common.{◌≡◌, ℕ, false, List, [], ◌∷◌, ◌++◌, refl, arith}
use Rattle.zvt_grammar.specs.Reading.{shortest}
use Rattle.zvt_grammar.specs.declared.why.Why.TheVariants.{UnknownField}
use Rattle.zvt_field.specs.Shapes.{shape_of}
use Rattle.zvt_field.specs.Grammar.{plain}
use Rattle.zvt_field.specs.Judging.{name}
use Rattle.zvt_apdu.specs.Grammar.{form_of, Spells}
use Rattle.zvt_apdu.specs.Judging.{Position, in_fields}
use Rattle.zvt_apdu.specs.Kinds.{kind_at}
use Rattle.zvt_apdu.specs.Message.{abort, ack, completion, other, status}
use Rattle.zvt_stream.specs.LineReading.{Reads, openly, stand_in}
use Rattle.zvt_stream.specs.OpenReading.{IsFrame, OpenSpells, read, unread}
use Rattle.zvt_stream.proofs.FeedLemmas.{refused_more}
use Rattle.zvt_stream.proofs.JudgeLemmas.{refuses_at}
use Rattle.zvt_stream.proofs.OpenLemmas.{longer_unfinished}

-- 80 00 00 is read
an_ack : OpenSpells shortest (read (ack [])) (0x80 ∷ 0x00 ∷ 0x00 ∷ [])
an_ack = record { control = 0x80 ∷ 0x00 ∷ []; size = 0x00 ∷ []; content = []; whole = refl; is_control = refl; is_size = (omega arith, refl); is_content = (refl, refl, tt, tt) }

-- 06 0F 04 22 F0 F1 55
abbrev a_card : List ℕ
a_card = 0x22 ∷ 0xF0 ∷ 0xF1 ∷ 0x55 ∷ []

a_completion : Spells shortest (completion (plain 0x22 (0x55 ∷ []) ∷ [])) ((0x06 ∷ 0x0F ∷ 0x04 ∷ []) ++ a_card)
unfolding shape_of
a_completion = record {
  control = 0x06 ∷ 0x0F ∷ [];
  size = 0x04 ∷ [];
  content = a_card;
  whole = refl;
  is_control = refl;
  is_size = (omega arith, refl);
  is_content = (
    a_card,
    refl,
    refl,
    tt,
    (a_card, [], refl, record { digits = false; size = 0xF0 ∷ 0xF1 ∷ []; whole = refl; is_head = (refl, (refl, (omega arith, omega arith, (omega arith, omega arith, tt)), refl)); is_content = (omega arith, tt) }, refl),
  );
}

at_a_name : Position shortest [] (0x06 ∷ 0x0F ∷ 0x04 ∷ []) (in_fields name 3)
unfolding form_of shape_of
at_a_name = record {
  data_begun = record { high = 0x06; low = 0x0F; size = 0x04 ∷ []; n = 4; inside = []; whole = refl; are_bytes = (omega arith, omega arith); is_size = (omega arith, refl); fills = refl; short = omega arith };
  has_fields = refl;
  head = [];
  part = [];
  whole = refl;
  sized = refl;
  room = 4;
  filled = refl;
  stands = (refl, record { fields = []; done = []; beginning = []; whole = refl; spelled = refl; begins = refl; filled = refl });
}

-- 06 0F 04 F0 F0 F0 00, the completion of a status enquiry: a frame of 7 bytes, and no field has the BMP F0
an_enquiry : OpenSpells shortest (unread 0x06 0x0F 7 (0x06 ∷ 0x0F ∷ 0x04 ∷ []) 0xF0 UnknownField) ((0x06 ∷ 0x0F ∷ 0x04 ∷ 0xF0 ∷ []) ++ 0xF0 ∷ 0xF0 ∷ 0x00 ∷ [])
unfolding form_of shape_of
an_enquiry = (
  record { size = 0x04 ∷ []; content = 0xF0 ∷ 0xF0 ∷ 0xF0 ∷ 0x00 ∷ []; whole = refl; are_bytes = (omega arith, omega arith); is_size = (omega arith, refl) },
  refl,
  refused_more shortest (0x06 ∷ 0x0F ∷ 0x04 ∷ 0xF0 ∷ []) (0xF0 ∷ 0xF0 ∷ 0x00 ∷ []) 3 UnknownField
      (refuses_at shortest [] (in_fields name 3) (0x06 ∷ 0x0F ∷ 0x04 ∷ []) 0xF0 UnknownField (omega arith)
      (longer_unfinished shortest (completion (plain 0x22 (0x55 ∷ []) ∷ [])) (0x06 ∷ 0x0F ∷ 0x04 ∷ []) (0xF0 ∷ 0xF1 ∷ 0x55 ∷ []) 0x22 a_completion) at_a_name refl),
  (0xF0 ∷ 0xF0 ∷ 0x00 ∷ [], refl),
)

-- an open line reads it as a completion without fields
an_unread_completion : Reads (openly shortest) (completion []) ((0x06 ∷ 0x0F ∷ 0x04 ∷ 0xF0 ∷ []) ++ 0xF0 ∷ 0xF0 ∷ 0x00 ∷ [])
unfolding kind_at
an_unread_completion = (unread 0x06 0x0F 7 (0x06 ∷ 0x0F ∷ 0x04 ∷ []) 0xF0 UnknownField, an_enquiry, refl)

-- and a message as itself
a_read_ack : Reads (openly shortest) (ack []) (0x80 ∷ 0x00 ∷ 0x00 ∷ [])
a_read_ack = (read (ack []), an_ack, refl)

-- 04 0F, 06 1E, 06 D1 and 06 01: a status without fields, an abort with the code FF, and twice what nobody expects
an_unread_status : stand_in (kind_at 0x04 0x0F) ≡ status []
unfolding kind_at
an_unread_status = refl

an_unread_abort : stand_in (kind_at 0x06 0x1E) ≡ abort 0xFF []
unfolding kind_at
an_unread_abort = refl

an_unread_line : stand_in (kind_at 0x06 0xD1) ≡ other 0xFF 0xFF []
unfolding kind_at
an_unread_line = refl

an_unread_order : stand_in (kind_at 0x06 0x01) ≡ other 0xFF 0xFF []
unfolding kind_at
an_unread_order = refl

-- 80 00 FF 00 00: a padded length ends a frame, too
a_padded_frame : IsFrame 0x80 0x00 (0x80 ∷ 0x00 ∷ 0xFF ∷ 0x00 ∷ 0x00 ∷ [])
a_padded_frame = record { size = 0xFF ∷ 0x00 ∷ 0x00 ∷ []; content = []; whole = refl; are_bytes = (omega arith, omega arith); is_size = (refl, omega arith, omega arith, omega arith, refl) }
