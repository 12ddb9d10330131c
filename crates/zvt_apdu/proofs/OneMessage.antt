-- A spelling is one message's.
use Rattle.zvt_apdu.specs.Laws.{MessagesEndThemselves}
use Rattle.zvt_apdu.proofs.Within.{frames_end}
pub use Rattle.zvt_apdu.specs.UniqueDecoding.{one_message}

pub messages_end_themselves : MessagesEndThemselves
messages_end_themselves r m n a b x y p q e =
    let same = frames_end r m n a b x y p q e in
    (one_message r m n a b same p q, same)
