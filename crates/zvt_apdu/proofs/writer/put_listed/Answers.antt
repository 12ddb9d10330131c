use Rattle.zvt_tlv.proofs.Writing.{puts_after}
use Rattle.zvt_apdu.proofs.writer.put_listed.Goals as goal

pub returns : goal.returns
returns c listed p =
    puts_after c.args.first.now listed c.args.out.now c.put_bytes-at.new.out c.write_into.new.out c.put_bytes-at.result c.write_into.result c.put_bytes-at.ensures (c.write_into.ensures listed p)
