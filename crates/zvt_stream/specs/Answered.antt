-- The answers of one hearing.
use Rattle.std.specs.Prelude.{ℕ, Bool, List, nat_lt}
use Rattle.std.specs.List.{list_any, flat_map}

-- The bytes of all messages, one after another, and the number of messages.
pub record Answered : Type 0 where
  pub bytes : List ℕ
  pub count : ℕ

abbrev pub bytes_of : List Answered → List ℕ
bytes_of answers = flat_map (λ a. a.bytes) answers

-- Whether some hearing was answered by a message.
abbrev pub any_sent : List Answered → Bool
any_sent answers = list_any (λ a. nat_lt 0 a.count) answers
