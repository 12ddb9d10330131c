-- Whether a terminal has sent a text block.
use Rattle.std.specs.Prelude.{true}
use Rattle.zvt_apdu.specs.Message.{Message, text_block}
use Rattle.zvt_trace.specs.declared.direction.Direction.TheVariants.{FromTill, FromTerminal}
use Rattle.zvt_trace.specs.TraceEvent.{TraceEvent, message, refused, unread, resumed, cut_off, lost}
use Rattle.zvt.specs.declared.text_blocks.Blocks.{Blocks}

abbrev pub noted_message : Blocks → Message → Blocks
noted_message blocks (text_block fields) = record blocks { has_one = true }
noted_message blocks _ = blocks

abbrev pub noted : Blocks → TraceEvent → Blocks
noted blocks (message FromTill m) = blocks
noted blocks (message FromTerminal m) = noted_message blocks m
noted blocks (refused from before byte why) = blocks
noted blocks (unread from) = blocks
noted blocks (resumed from size) = blocks
noted blocks (cut_off from bytes) = blocks
noted blocks lost = blocks
