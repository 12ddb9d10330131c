-- The result of a feed.
use Rattle.std.specs.Prelude.{◌≡◌, ℕ, suc, ◌-◌, ◌<◌, ◌≤◌, Some, None, List, [], ◌++◌, length, take}
use Rattle.zvt_apdu.specs.Message as message
use Rattle.zvt_stream.specs.LineReading.{IsRefusedBy, Reads, UnfinishedBy}
use Rattle.zvt_stream.specs.StreamState.{StreamState, Holds, HasRefused}
use Rattle.zvt_stream.specs.declared.stream.Fed.{Fed}
use Rattle.zvt_stream.specs.declared.stream.Fed.TheVariants.{Message, More, Refused}
use Rattle.zvt_stream.specs.declared.stream.FedView.{FedView}
use Rattle.zvt_stream.specs.declared.stream.FedView.TheVariants as view

-- From old, the piece gives this answer and leads to new.
abbrev pub Feeds : StreamState → List ℕ → Fed → StreamState → Type 0
Feeds old piece (Message apdu taken) new = (0 < taken) × (taken ≤ length piece) × Reads old.reading apdu (old.held ++ take taken piece) × Holds [] new × (new.reading ≡ old.reading)
Feeds old piece More new = UnfinishedBy old.reading (old.held ++ piece) × Holds (old.held ++ piece) new × (new.reading ≡ old.reading)
Feeds old piece (Refused place why) new = IsRefusedBy old.reading (old.held ++ piece) place why × (length old.held ≤ place) × HasRefused new × (new.reading ≡ old.reading) × (new.refused_bytes ≡ take (suc place) (old.held ++ piece))

-- The same when the message is lent.
abbrev pub Lends : StreamState → List ℕ → FedView → StreamState → Type 0
Lends old piece (view.Message taken) new = (apdu : message.Message) × Feeds old piece (Message apdu taken) new × (new.lent ≡ Some apdu)
Lends old piece view.More new = Feeds old piece More new × (new.lent ≡ None)
Lends old piece (view.Refused place why) new = Feeds old piece (Refused place why) new × (new.lent ≡ None)

-- The number of bytes taken from the piece. A refused piece is taken up to and including the fatal byte.
abbrev pub taken_by : StreamState → List ℕ → Fed → ℕ
taken_by old piece (Message apdu taken) = taken
taken_by old piece More = length piece
taken_by old piece (Refused place why) = suc place - length old.held

-- The number of bytes taken from the piece when the message is lent.
abbrev pub taken_in_view : StreamState → List ℕ → FedView → ℕ
taken_in_view old piece (view.Message taken) = taken
taken_in_view old piece view.More = length piece
taken_in_view old piece (view.Refused place why) = suc place - length old.held
