use Rattle.std.proofs.Common.{◌≡◌, ℕ, ◌-◌, ◌≤◌, ◌++◌, List, length, take, drop, refl, sym, ◌∙◌, ap, subst, arith, append-nil, append_assoc, length-drop}
use Rattle.std.proofs.lemmas.List.{length-take-le}
use Rattle.std.proofs.Math.Seq.{take-add}
use Rattle.zvt_grammar.specs.Reading.{AreBytes}
use Rattle.zvt_stream.specs.Passing.{missing}
use Rattle.zvt_stream.proofs.PassingLemmas.{AtMost, framed_now, more_at_most, none_at_most}
use Rattle.zvt_stream.proofs.buffer.Held.pass.Goals as goal

pub frame-init : goal.frame-init
frame-init c = record { within = omega arith; bytes = sym (append-nil c.args.self.now.bytes); room = refl; at_most = none_at_most c.args.self.now.bytes c.requires.begun }

pub returns-then-lacking-eq0-clause-passes : goal.returns-then-lacking-eq0-clause-passes
returns-then-lacking-eq0-clause-passes c =
    let so_far = c.frame.invariant in
    let same = c.arrived-bytes.ensures in
    (so_far.within, so_far.bytes, framed_now c.frame.self.bytes so_far.at_most (subst AreBytes same c.note_bytes.ensures) (ap missing (sym same) ∙ sym c.missing-lacking.ensures ∙ c.if-lacking-eq0.true))

pub frame-preserved : goal.frame-preserved
frame-preserved c =
    let so_far = c.frame.invariant in
    let piece = c.args.piece.now in
    let t = c.frame.taken in
    let n = c.min-count.result in
    let few : n ≤ length piece - t = omega (arith, c.min-count.ensures) in
    let lacks : n ≤ missing c.frame.self.bytes = omega (arith, c.min-count.ensures, c.missing-lacking.ensures, ap missing c.arrived-bytes.ensures) in
    let next = take n (drop t piece) in
    let added : c.put.new.self.bytes ≡ c.frame.self.bytes ++ next = c.put.ensures.bytes ∙ ap (λ (k : ℕ). c.frame.self.bytes ++ take k (drop t piece)) (omega arith) in
    let size : length next ≡ n = length-take-le n (drop t piece) (omega (arith, few, length-drop t piece)) in
    let most = more_at_most c.frame.self.bytes next so_far.at_most (omega (arith, size, lacks)) (omega (arith, size, c.if-count-eq0.false)) in
    record {
      within = omega (arith, few, so_far.within);
      bytes = added ∙ ap (λ (b : List ℕ). b ++ next) so_far.bytes ∙ append_assoc c.args.self.now.bytes (take t piece) next ∙ ap (λ (b : List ℕ). c.args.self.now.bytes ++ b) (sym (take-add t n piece));
      room = c.put.ensures.room ∙ so_far.room;
      at_most = subst AtMost (sym added) most;
    }
