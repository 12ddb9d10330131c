use Rattle.std.proofs.Common.{◌≡◌, ◌∙◌, ◌++◌, ap, List, [], ℕ, append-nil, subst}
use Rattle.zvt_trace.proofs.SpelledLemmas.{no_bytes_of, no_text}
use Rattle.zvt_trace.specs.Decoding.{line_reading, line_scope}
use Rattle.zvt_trace.specs.Listening.{EmitsLine}
use Rattle.zvt_trace.specs.Meanings.{bytes_of, piece}
use Rattle.zvt_trace.proofs.decoder.Line.take.Goals as goal

pub feed_piece-requires-clause-spelled : goal.feed_piece-requires-clause-spelled
feed_piece-requires-clause-spelled g c = no_text

-- nothing is left to be decoded
pub returns-clause-emits : goal.returns-clause-emits
returns-clause-emits g c = λ sides stands.
    let whole : c.args.bytes.now ++ bytes_of [] ≡ c.args.bytes.now = ap (λ (l : List ℕ). c.args.bytes.now ++ l) no_bytes_of ∙ append-nil c.args.bytes.now in
    subst (λ (bytes : List ℕ). EmitsLine (line_reading c.args.self.now) g.L.Listener.hears g.L.Listener.fails (line_scope c.args.self.now) c.args.number (piece c.args.from bytes) sides c.feed_piece.new.self c.args.listener.now c.feed_piece.new.listener c.feed_piece.result) whole (c.feed_piece.ensures.emits sides stands)
