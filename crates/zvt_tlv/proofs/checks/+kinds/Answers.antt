use Rattle.std.proofs.Common.{subst}
use Rattle.zvt_grammar.specs.Reading.{AreBytes}
use Rattle.zvt_tlv.proofs.CheckLemmas.{parts_prim}
use Rattle.zvt_tlv.proofs.checks.+kinds.Goals as goal

pub kind_agrees-returns-in-Prim-clause-parts : goal.kind_agrees-returns-in-Prim-clause-parts
kind_agrees-returns-in-Prim-clause-parts t c = parts_prim _ c.args.object.now c.in-Prim.bytes c.in-Prim.is c.constructed.ensures.tag (subst AreBytes c.deref.ensures.value c.note_bytes.ensures)
