-- A new stream.
use Rattle.std.proofs.Common.{◌≡◌, [], refl}
use Rattle.zvt_grammar.specs.Reading.{Reading}
use Rattle.zvt_stream.proofs.Beginnings.{nothing_in}
use Rattle.zvt_stream.specs.StreamState.{StreamState, start_in}
use Rattle.zvt_trace.specs.Trace.{running}
use Rattle.zvt_trace.specs.Written.{StreamFollows}

-- nothing is held by a new stream
pub new_follows : {r : Reading} (state : StreamState) → state ≡ start_in r → StreamFollows r state (running [])
new_follows {r = r} state is = rw is (refl, [], record { spelled = refl; none_whole = (nothing_in r).none_whole })
