use Rattle.std.proofs.Common.{◌∷◌, ◌++◌}
use Rattle.zvt_tlv.proofs.Writing.{puts_after}
use Rattle.zvt_apdu.proofs.BriefLemmas as brief
use Rattle.zvt_apdu.proofs.brief.put_payment.Goals as goal

pub returns-clause-written : goal.returns-clause-written
returns-clause-written c =
    let six = c.amount_digits.result in
    let two = c.currency_digits.result in
    record {
      bytes = (0x06 ∷ 0x01 ∷ 0x0A ∷ 0x04 ∷ six) ++ (0x49 ∷ two);
      spelled = brief.payment_spelled six two c.args.amount c.args.currency c.amount_digits.ensures.six c.amount_digits.ensures.digits c.amount_digits.ensures.number c.currency_digits.ensures.two c.currency_digits.ensures.digits c.currency_digits.ensures.number;
      puts = puts_after (0x06 ∷ 0x01 ∷ 0x0A ∷ 0x04 ∷ six) (0x49 ∷ two) c.args.out.now c.put_after-at.new.out c.put_after.new.out c.put_after-at.result c.put_after.result c.put_after-at.ensures.written c.put_after.ensures.written;
    }
