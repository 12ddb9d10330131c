use Rattle.zvt_apdu.proofs.BriefLemmas as brief
use Rattle.zvt_apdu.proofs.brief.put_reversal.Goals as goal

pub returns-clause-written : goal.returns-clause-written
returns-clause-written c =
    let put = c.put_with_password.ensures in
    record { bytes = _; spelled = brief.reversal_by_two c.args.password c.args.receipt.now put.three put.bytes c.told-receipt put.more_bytes; puts = put.written }
