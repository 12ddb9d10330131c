use Rattle.std.proofs.lemmas.Bool.{not-true, not-false}
use Rattle.zvt_stream.proofs.FrameMoves.{data_payload, data_fields, data_head}
use Rattle.zvt_stream.proofs.transitions.begin_data.Goals as goal

pub returns-then-not-layout-clause-begins : goal.returns-then-not-layout-clause-begins
returns-then-not-layout-clause-begins c r =
    let told = c.in_ok-layout.ensures in
    data_payload r c.args.levels.now.high c.args.levels.now.low c.args.size c.in_ok-layout.layout told.0 told.1 c.if-size-eq0.false (not-true _ c.if-not-layout.true)

pub returns-then-layout-eq0-clause-begins : goal.returns-then-layout-eq0-clause-begins
returns-then-layout-eq0-clause-begins c r =
    let told = c.in_ok-layout.ensures in
    data_fields r c.args.levels.now.high c.args.levels.now.low c.args.size c.in_ok-layout.layout told.0 told.1 (not-false _ c.if-not-layout.false) c.if-layout-eq0.true

pub returns-clause-begins : goal.returns-clause-begins
returns-clause-begins c r =
    let told = c.in_ok-layout.ensures in
    data_head r c.args.levels.now.high c.args.levels.now.low c.args.size c.in_ok-layout.layout told.0 told.1 (not-false _ c.if-not-layout.false) c.if-layout-eq0.false
