-- A stream is fed pieces, each to its end.
use Rattle.std.specs.Prelude.{◌≡◌, ℕ, List, [], ◌∷◌, ◌++◌, drop}
use Rattle.std.specs.List.{concat}
use Rattle.zvt_apdu.specs.Message.{Message}
use Rattle.zvt_stream.specs.LineReading.{CutBy, IsRefusedBy}
use Rattle.zvt_grammar.specs.declared.why.Why.{Why}
use Rattle.zvt_stream.specs.StreamState.{StreamState, Holds}
use Rattle.zvt_stream.specs.Feeds.{Feeds}
use Rattle.zvt_stream.specs.declared.stream.Fed.TheVariants as fed

-- A piece is fed, and after each message the rest of it, until all of it is taken.
abbrev pub FedWhole : StreamState → List ℕ → List Message → StreamState → Type 0
FedWhole old piece [] new = Feeds old piece fed.More new
FedWhole old piece (message ∷ messages) new = (taken : ℕ) × (middle : StreamState) × Feeds old piece (fed.Message message taken) middle × FedWhole middle (drop taken piece) messages new

-- Pieces are fed, one after another.
abbrev pub FedPieces : StreamState → List (List ℕ) → List Message → StreamState → Type 0
FedPieces old [] messages new = (messages ≡ []) × (new ≡ old)
FedPieces old (piece ∷ pieces) messages new = (here : List Message) × (later : List Message) × (middle : StreamState) × (messages ≡ here ++ later) × FedWhole old piece here middle × FedPieces middle pieces later new

-- However a line is cut into pieces, its bytes decide its messages.
abbrev pub AnyCutting : Type 0
AnyCutting = (start : StreamState) (pieces : List (List ℕ)) (messages : List Message) (new : StreamState) → Holds [] start → FedPieces start pieces messages new → CutBy start.reading (concat pieces) messages new.held

-- A piece is fed, and after each message the rest of it, until bytes are refused.
abbrev pub FedRefused : StreamState → List ℕ → List Message → ℕ → Why → Type 0
FedRefused old piece [] place why = (new : StreamState) × Feeds old piece (fed.Refused place why) new
FedRefused old piece (message ∷ messages) place why = (taken : ℕ) × (middle : StreamState) × Feeds old piece (fed.Message message taken) middle × FedRefused middle (drop taken piece) messages place why

-- However a line is cut into pieces, the bytes after its last message are refused.
abbrev pub AnyRefusal : Type 0
AnyRefusal = (start : StreamState) (pieces : List (List ℕ)) (piece : List ℕ) (messages more : List Message) (new : StreamState) (place : ℕ) (why : Why) → Holds [] start → FedPieces start pieces messages new → FedRefused new piece more place why → (rest : List ℕ) × CutBy start.reading (concat pieces ++ piece) (messages ++ more) rest × IsRefusedBy start.reading rest place why
