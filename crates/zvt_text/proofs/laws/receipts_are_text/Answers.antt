use Rattle.zvt_text.proofs.ReceiptLaws.{ascii_stays, texts_are_utf8}
use Rattle.zvt_text.proofs.laws.receipts_are_text.Goals as goal

pub returns-clause-utf8 : goal.returns-clause-utf8
returns-clause-utf8 c = texts_are_utf8

pub returns-clause-ascii : goal.returns-clause-ascii
returns-clause-ascii c = ascii_stays
