use Rattle.zvt_report.proofs.PageLemmas.{page_is_document}
use Rattle.zvt_report.proofs.laws.reports_are_documents.Goals as goal

pub returns : goal.returns
returns c = page_is_document
