use Rattle.std.proofs.Common.{List, ℕ, option_map, slice_get, ap, ◌∙◌}
use Rattle.zvt_till.specs.declared.numbers.Numbers.{Numbers}
use Rattle.zvt_till.specs.declared.outcomes.Cause.{Cause}
use Rattle.zvt_c.specs.Numbers.{numbers_of, unclear_row_of}
use Rattle.zvt_c.proofs.till.unclear_at.Goals as goal

pub returns : goal.returns
returns c =
    c.row_at.ensures
    ∙ ap (λ (rows : List (ℕ × Cause)). option_map (λ row. unclear_row_of row (numbers_of (slice_get c.heard.result.now c.args.place))) (slice_get rows c.args.place)) c.unclear.ensures.rows
    ∙ ap (λ (heard : List Numbers). option_map (λ row. unclear_row_of row (numbers_of (slice_get heard c.args.place))) (slice_get c.args.till.now.state.unclear c.args.place)) c.heard.ensures.numbers
