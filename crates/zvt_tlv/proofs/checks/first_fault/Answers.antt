use Rattle.std.proofs.Common.{rules, arith, sym}
use Rattle.zvt_tlv.specs.Trees.{objects_of}
use Rattle.zvt_tlv.proofs.CheckLemmas.{checked_spelling}
use Rattle.zvt_tlv.proofs.checks.first_fault.Goals as goal

pub returns : goal.returns
returns c =
    checked_spelling (objects_of c.args.objects.now) (sym c.if-not-kinds_agree.ensures.value) (sym c.if-not-is_shallow.ensures) c.if-not-kinds_agree.ensures.parts (omega arith)

pub returns-then-not-is_shallow : goal.returns-then-not-is_shallow
returns-then-not-is_shallow c = search rules

pub returns-then-limited_size-ge-TOO_MANY : goal.returns-then-limited_size-ge-TOO_MANY
returns-then-limited_size-ge-TOO_MANY c = search rules
