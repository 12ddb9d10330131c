use Rattle.std.proofs.Common.{◌≡◌, ℕ, Bool, false, List, MatchBool, refl, sym, subst}
use Rattle.std.proofs.lemmas.Bool.{le-leb}
use Rattle.zvt_kept.specs.Reading.{Extends}
use Rattle.zvt_kept.specs.Records.{opening}
use Rattle.zvt_c.specs.Records.{Records}
use Rattle.zvt_c.specs.Saving.{bare}
use Rattle.zvt_c.proofs.Handed.{handed}
use Rattle.zvt_c.proofs.records.zvt_record_opening.Goals as goal

pub returns : goal.returns
returns c =
    let written = c.put_opening-written in
    let named = subst (λ (n : ℕ). Extends written.result c.new-text.result written.new.text (opening n false)) c.in-Some.ensures.value written.ensures.written in
    let begun = subst (λ (old : List ℕ). Extends written.result old written.new.text (opening c.args.currency false)) c.new-text.ensures named in
    subst (λ (fits : Bool). MatchBool fits (Records (opening c.args.currency false) c.args.buffer.now c.hand_out.new.buffer c.hand_out.result) ((c.hand_out.new.buffer ≡ c.args.buffer.now) × (c.hand_out.result ≡ bare 5)))
    (sym (le-leb c.args.currency 9999 (c.in-Some.ensures.given.0 refl))) (handed written.result _ _ _ _ _ begun c.hand_out.ensures)
