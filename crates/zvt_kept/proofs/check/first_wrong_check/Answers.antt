use Rattle.std.specs.Str.{bytes_eq}
use Rattle.std.proofs.Common.{rules, true, ◌≡◌, ap, sym, subst, ◌∙◌}
use Rattle.sha2.specs.Hashers.{Holds256}
use Rattle.zvt_journal.specs.Text.{text_of}
use Rattle.zvt_kept.specs.Checks.{check_of, last_record}
use Rattle.zvt_kept.proofs.CheckLemmas.{begun_anew, confirmed, one_checked, unchecked, with_line}
use Rattle.zvt_kept.proofs.check.first_wrong_check.Goals as goal

pub loop-rest-preserved-in-None : goal.loop-rest-preserved-in-None
loop-rest-preserved-in-None c =
    let h = c.loop-rest.invariant in
    let line = c.next_line.result.0.now in
    let before = last_record h.before in
    let none = sym c.in-None.ensures in
    one_checked c.args.text.now c.loop-rest.rest.now line c.next_line.result.1.now c.loop-rest.number c.loop-rest.hasher c.with_line-hasher.result h c.next_line.ensures.lines c.next_line.ensures.some
    (unchecked line before none) (subst (λ r. Holds256 c.with_line-hasher.result (text_of r)) (sym (with_line line before none)) (c.with_line-hasher.ensures before h.holds))

pub loop-rest-preserved : goal.loop-rest-preserved
loop-rest-preserved c =
    let h = c.loop-rest.invariant in
    let line = c.next_line.result.0.now in
    let before = last_record h.before in
    let digits = c.in-Some.digits.now in
    let some = sym c.in-Some.ensures in
    let own : c.as_slice.result.now ≡ check_of (text_of before) = c.as_slice.ensures ∙ c.check_of.ensures (text_of before) h.holds in
    let same : bytes_eq digits c.as_slice.result.now ≡ true = search rules in
    one_checked c.args.text.now c.loop-rest.rest.now line c.next_line.result.1.now c.loop-rest.number c.loop-rest.hasher c.new-hasher-in-Some.result h c.next_line.ensures.lines c.next_line.ensures.some
    (confirmed digits line before some ∙ ap (bytes_eq digits) (sym own) ∙ same) (subst (λ r. Holds256 c.new-hasher-in-Some.result (text_of r)) (sym (begun_anew digits line before some)) c.new-hasher-in-Some.ensures)
