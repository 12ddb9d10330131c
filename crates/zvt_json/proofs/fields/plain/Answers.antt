use Rattle.std.proofs.Common.{ℕ, length, subst}
use Rattle.zvt_field.specs.Views.{PlainBytes}
use Rattle.zvt_json.proofs.TextLemmas.{amount_said, content_said, hidden_said, quoted_said, result_said}
use Rattle.zvt_json.proofs.fields.plain.Goals as goal

pub units-requires : goal.units-requires
units-requires c = subst (λ (bmp : ℕ). PlainBytes bmp c.args.content.now) (c.format.ensures.amount c.in-Amount.is) c.requires.plain

pub returns-in-Amount : goal.returns-in-Amount
returns-in-Amount c = let same = amount_said c.args.bmp c.args.content.now in rw (← c.format.ensures.value, c.in-Amount.is, ← same, ← c.units.ensures) c.amount.ensures

pub returns-in-Result : goal.returns-in-Result
returns-in-Result c = let same = result_said c.args.bmp c.args.content.now in rw (← c.format.ensures.value, c.in-Result.is, ← same) c.outcome.ensures

pub returns-in-Text : goal.returns-in-Text
returns-in-Text c = let same = quoted_said c.args.bmp c.args.content.now in rw (← c.format.ensures.value, c.in-Text.is, ← same) c.quoted.ensures

pub returns-in-Hidden : goal.returns-in-Hidden
returns-in-Hidden c = let same = hidden_said c.args.bmp (length c.args.content.now) in rw (← c.format.ensures.value, c.in-Hidden.is, ← same) c.hidden.ensures

pub returns-in-Bytes : goal.returns-in-Bytes
returns-in-Bytes c = let same = content_said c.args.bmp c.args.content.now in rw (← c.format.ensures.value, c.in-Bytes.is, ← same) c.in_hexadecimal.ensures
