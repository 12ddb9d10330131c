-- The messages that are heard for unread frames.
use Rattle.std.proofs.Common.{[], ◌∷◌, ◌≢◌, refl, arith}
use Rattle.zvt_grammar.specs.Reading.{Reading, shortest}
use Rattle.zvt_apdu.specs.Grammar.{Spells, form_of}
use Rattle.zvt_apdu.specs.Message.{abort, completion, other, status}
use Rattle.zvt_apdu.specs.Messages.{HasSpelling}
use Rattle.zvt_apdu.specs.declared.kinds.Kind.{Kind}
use Rattle.zvt_apdu.specs.declared.kinds.Kind.TheVariants as kind
use Rattle.zvt_stream.specs.LineReading.{stand_in}

pub a_status : (r : Reading) → Spells r (status []) (0x04 ∷ 0x0F ∷ 0x00 ∷ [])
a_status r = record { control = 0x04 ∷ 0x0F ∷ []; size = 0x00 ∷ []; content = []; whole = refl; is_control = refl; is_size = (omega arith, refl); is_content = ([], refl, refl, tt, refl) }

pub a_completion : (r : Reading) → Spells r (completion []) (0x06 ∷ 0x0F ∷ 0x00 ∷ [])
a_completion r = record { control = 0x06 ∷ 0x0F ∷ []; size = 0x00 ∷ []; content = []; whole = refl; is_control = refl; is_size = (omega arith, refl); is_content = ([], refl, refl, tt, refl) }

pub an_abort : (r : Reading) → Spells r (abort 0xFF []) (0x06 ∷ 0x1E ∷ 0x01 ∷ 0xFF ∷ [])
an_abort r = record { control = 0x06 ∷ 0x1E ∷ []; size = 0x01 ∷ []; content = 0xFF ∷ []; whole = refl; is_control = refl; is_size = (omega arith, refl); is_content = (refl, refl, (omega arith, tt), tt) }

pub a_stranger : (r : Reading) → Spells r (other 0xFF 0xFF []) (0xFF ∷ 0xFF ∷ 0x00 ∷ [])
unfolding form_of
a_stranger r = record { control = 0xFF ∷ 0xFF ∷ []; size = 0x00 ∷ []; content = []; whole = refl; is_control = (refl, omega arith, omega arith, refl); is_size = (omega arith, refl); is_content = (refl, refl, tt, tt) }

strange : HasSpelling (other 0xFF 0xFF [])
strange = record { bytes = 0xFF ∷ 0xFF ∷ 0x00 ∷ []; spelled = a_stranger shortest }

pub has_spelling : (k : Kind) → HasSpelling (stand_in k)
has_spelling kind.Status = record { bytes = 0x04 ∷ 0x0F ∷ 0x00 ∷ []; spelled = a_status shortest }
has_spelling kind.Completion = record { bytes = 0x06 ∷ 0x0F ∷ 0x00 ∷ []; spelled = a_completion shortest }
has_spelling kind.Abort = record { bytes = 0x06 ∷ 0x1E ∷ 0x01 ∷ 0xFF ∷ []; spelled = an_abort shortest }
has_spelling kind.Ack = strange
has_spelling kind.Nack = strange
has_spelling kind.Registration = strange
has_spelling kind.Authorisation = strange
has_spelling kind.Reversal = strange
has_spelling kind.EndOfDay = strange
has_spelling kind.AbortOrder = strange
has_spelling kind.Intermediate = strange
has_spelling kind.PrintLine = strange
has_spelling kind.TextBlock = strange
has_spelling kind.Other = strange

-- every other kind
pub a_strange_kind : (k : Kind) → k ≢ kind.Status → k ≢ kind.Completion → k ≢ kind.Abort → (r : Reading) → Spells r (stand_in k) (0xFF ∷ 0xFF ∷ 0x00 ∷ [])
a_strange_kind kind.Status no_status no_completion no_abort r = absurd (no_status refl)
a_strange_kind kind.Completion no_status no_completion no_abort r = absurd (no_completion refl)
a_strange_kind kind.Abort no_status no_completion no_abort r = absurd (no_abort refl)
a_strange_kind kind.Ack no_status no_completion no_abort r = a_stranger r
a_strange_kind kind.Nack no_status no_completion no_abort r = a_stranger r
a_strange_kind kind.Registration no_status no_completion no_abort r = a_stranger r
a_strange_kind kind.Authorisation no_status no_completion no_abort r = a_stranger r
a_strange_kind kind.Reversal no_status no_completion no_abort r = a_stranger r
a_strange_kind kind.EndOfDay no_status no_completion no_abort r = a_stranger r
a_strange_kind kind.AbortOrder no_status no_completion no_abort r = a_stranger r
a_strange_kind kind.Intermediate no_status no_completion no_abort r = a_stranger r
a_strange_kind kind.PrintLine no_status no_completion no_abort r = a_stranger r
a_strange_kind kind.TextBlock no_status no_completion no_abort r = a_stranger r
a_strange_kind kind.Other no_status no_completion no_abort r = a_stranger r
