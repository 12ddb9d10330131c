-- A page whose dialogue was spelled before.
use Rattle.std.proofs.Common.{◌≡◌, ◌++◌, append_assoc, append-nil}
use Rattle.zvt_report.specs.Page.{ReportsAreDocuments, page_of, page_with}

pub page_is_document : ReportsAreDocuments
unfolding page_of page_with
page_is_document shown name tally currency terminal times books messages closings looks findings dialogue = simp (append_assoc)
