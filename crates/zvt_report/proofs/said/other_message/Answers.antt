use Rattle.std.proofs.Common.{◌<◌, length, sym, subst, ap, ◌∙◌, ℕ, List, slice_index_or}
use Rattle.std.specs.Option.{option_copied}
use Rattle.zvt_report.proofs.SaidLemmas.{listed_fits}
use Rattle.zvt_report.proofs.said.other_message.Goals as goal

pub listed_message-requires : goal.listed_message-requires
listed_message-requires c =
    subst (λ (l : List ℕ). length l < 65536) (sym c.listed_in.ensures)
    (listed_fits c.args.apdu.now c.bytes-bytes.result.now c.in-Some.payload.now (slice_index_or c.control.result 1 0) c.bytes-bytes.ensures c.requires (sym c.payload.ensures ∙ ap option_copied c.in-Some.is))
