use Rattle.std.proofs.Common.{◌<◌, length, subst, sym}
use Rattle.zvt_stream.specs.Judge.{HasLevelsBy}
use Rattle.zvt_stream.specs.StreamState.{StreamState}
use Rattle.zvt_stream.proofs.LentLemmas.{levels_by}
use Rattle.zvt_stream.proofs.stream.Stream.levels.Goals as goal

pub returns-else-held-eq0-clause-some : goal.returns-else-held-eq0-clause-some
returns-else-held-eq0-clause-some c some =
    let held = subst (λ (s : StreamState). 0 < length s.held) (sym c.self.view_is) some in
    subst (λ (s : StreamState). HasLevelsBy s.reading s.held c.levels.result) c.self.view_is
    (levels_by c.self.inside.passes c.self.inside.refused c.self.inside.has_message c.self.inside.judge c.self.inside.held.bytes c.levels.result c.self.invariant c.levels.ensures.levels c.levels.ensures.one held)
