-- A stream as its callers see it.
use Rattle.std.specs.Prelude.{◌≡◌, ℕ, ◌≤◌, Bool, true, false, Option, None, List, []}
use Rattle.std.proofs.Common.{refl, ap}
use Rattle.std.specs.Coded.{Coded, code_by, coded×, coded_ℕ, coded_bool, coded_list, coded_option}
use Rattle.zvt_grammar.specs.Reading.{Reading, shortest, padded, reading}
use Rattle.zvt_apdu.specs.Message.{Message}
use Rattle.zvt_apdu.specs.MessageCode.{message_code}
use Rattle.zvt_stream.specs.LineReading.{LineReading, UnfinishedBy, is_open, lengths_of, line_reading, openly, strictly}

-- The bytes of the unfinished message, whether bytes were refused, the lent message, the capacity of the buffer in bytes,
-- the number of bytes judged, the reading, and the bytes of the refused message up to the first after which none can follow.
pub record StreamState : Type 0 where
  pub held : List ℕ
  pub stopped : Bool
  pub lent : Option Message
  pub room : ℕ
  pub judged : ℕ
  pub reading : LineReading
  pub refused_bytes : List ℕ

-- Whether it takes each form of length.
abbrev pub is_padded : Reading → Bool
is_padded shortest = false
is_padded padded = true

pub reading-back : (l : LineReading) → line_reading (is_open l) (reading (is_padded (lengths_of l))) ≡ l
reading-back (strictly shortest) = refl
reading-back (strictly padded) = refl
reading-back (openly shortest) = refl
reading-back (openly padded) = refl

-- A state is stored as the tuple of its parts.
abbrev pub state_parts : StreamState → List ℕ × (Bool × (Option Message × (ℕ × (ℕ × (Bool × (Bool × List ℕ))))))
state_parts s = (s.held, (s.stopped, (s.lent, (s.room, (s.judged, (is_open s.reading, (is_padded (lengths_of s.reading), s.refused_bytes)))))))

abbrev pub state_from : List ℕ × (Bool × (Option Message × (ℕ × (ℕ × (Bool × (Bool × List ℕ)))))) → StreamState
state_from p = record { held = p.0; stopped = p.1.0; lent = p.1.1.0; room = p.1.1.1.0; judged = p.1.1.1.1.0; reading = line_reading p.1.1.1.1.1.0 (reading p.1.1.1.1.1.1.0); refused_bytes = p.1.1.1.1.1.1.1 }

pub state-back : (s : StreamState) → state_from (state_parts s) ≡ s
state-back s = ap (λ (r : LineReading). record { held = s.held; stopped = s.stopped; lent = s.lent; room = s.room; judged = s.judged; reading = r; refused_bytes = s.refused_bytes }) (reading-back s.reading)

abbrev pub state_code : Coded StreamState
state_code =
    code_by (List ℕ × (Bool × (Option Message × (ℕ × (ℕ × (Bool × (Bool × List ℕ)))))))
    (coded× (coded_list coded_ℕ) (coded× coded_bool (coded× (coded_option message_code) (coded× coded_ℕ (coded× coded_ℕ (coded× coded_bool (coded× coded_bool (coded_list coded_ℕ))))))))
    state_parts state_from state-back

-- A stream of this reading at the start of a line, without capacity.
abbrev pub start_by : LineReading → StreamState
start_by l = record { held = []; stopped = false; lent = None; room = 0; judged = 0; reading = l; refused_bytes = [] }

-- The same of a strict one.
abbrev pub start_in : Reading → StreamState
start_in r = start_by (strictly r)

-- The same with the shortest lengths.
abbrev pub at_start : StreamState
at_start = start_in shortest

-- The stream holds these bytes, and takes more.
abbrev pub Holds : List ℕ → StreamState → Type 0
Holds bytes s = (s.held ≡ bytes) × (s.stopped ≡ false)

-- The stream has refused bytes: it holds none, and accepts no more.
abbrev pub HasRefused : StreamState → Type 0
HasRefused s = (s.held ≡ []) × (s.stopped ≡ true)

-- The held bytes and the refusal stay, and no message is lent.
abbrev pub Keeps : StreamState → StreamState → Type 0
Keeps old new = (new.held ≡ old.held) × (new.stopped ≡ old.stopped) × (new.lent ≡ None) × (new.reading ≡ old.reading)

-- There is room for the longest message.
abbrev pub IsReserved : StreamState → Type 0
IsReserved s = 65540 ≤ s.room

-- The held bytes are the start of a message, and a stream that has refused bytes holds none.
pub record IsSound (l : LineReading) (held : List ℕ) (stopped : Bool) : Type 0 where
  pub unfinished : UnfinishedBy l held
  pub none_held : stopped ≡ true → held ≡ []
