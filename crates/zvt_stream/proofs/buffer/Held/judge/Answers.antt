use Rattle.std.proofs.Common.{◌∙◌, ◌+◌, ◌≤◌, ◌++◌, List, ℕ, length, take, ap, arith, length-append, length-drop}
use Rattle.std.proofs.lemmas.List.{length-take-le}
use Rattle.zvt_stream.proofs.Beginnings.{bounds_in, few_in}
use Rattle.zvt_stream.proofs.RunLemmas.{held_after}
use Rattle.zvt_stream.proofs.buffer.Held.judge.Goals as goal

pub returns-in-Open-clause-bytes : goal.returns-in-Open-clause-bytes
returns-in-Open-clause-bytes c =
    let size = c.self.inside.size in
    let piece = c.args.piece.now in
    let held = ap (λ h. h.bytes) c.self.view_is in
    let long = length-take-le size c.self.inside.room.items c.self.invariant.0 in
    let count = ap length held in
    let all = ap (λ h. h.room) c.self.view_is in
    let told = c.in-Open.ensures.judged c.args.self.now.bytes c.requires.stands in
    let few = few_in _ _ told.0.unfinished in
    let fits : size + (length piece) ≤ length c.self.inside.room.items = omega (arith, few, long, count, all, c.requires.room, length-append c.args.self.now.bytes piece) in
    rw c.in-Open.is (held_after size (length piece) _ c.deref_mut.result.now c.self.inside.room.items c.run-ran.new.room _ _ piece c.deref_mut.ensures.value (omega (arith, ap length c.deref_mut.ensures.value, c.self.invariant.0)) (omega (arith, fits, c.deref_mut.ensures.len, ap length c.deref_mut.ensures.value)) (omega (arith, fits, c.in-Open.ensures.size, ap length c.deref_mut.ensures.value, length-drop size c.deref_mut.result.now)) c.in-Open.ensures.written ∙ ap (λ (b : List ℕ). b ++ take (length piece) piece) held)

pub returns-in-Ended-clause-bytes : goal.returns-in-Ended-clause-bytes
returns-in-Ended-clause-bytes c =
    let size = c.self.inside.size in
    let piece = c.args.piece.now in
    let held = ap (λ h. h.bytes) c.self.view_is in
    let long = length-take-le size c.self.inside.room.items c.self.invariant.0 in
    let count = ap length held in
    let all = ap (λ h. h.room) c.self.view_is in
    let told = c.in-Ended.ensures.judged c.args.self.now.bytes c.requires.stands in
    let few = (bounds_in _ told.2.0 _ told.2.1).1 in
    let fits : size + c.in-Ended.taken ≤ length c.self.inside.room.items = omega (arith, few, long, count, all, c.requires.room, length-append c.args.self.now.bytes (take c.in-Ended.taken piece), told.1, length-take-le c.in-Ended.taken piece told.1) in
    (held_after size c.in-Ended.taken _ c.deref_mut.result.now c.self.inside.room.items c.run-ran.new.room _ _ piece c.deref_mut.ensures.value (omega (arith, ap length c.deref_mut.ensures.value, c.self.invariant.0)) (omega (arith, fits, c.deref_mut.ensures.len, ap length c.deref_mut.ensures.value)) (omega (arith, fits, c.in-Ended.ensures.size, ap length c.deref_mut.ensures.value, length-drop size c.deref_mut.result.now)) c.in-Ended.ensures.written ∙ ap (λ (b : List ℕ). b ++ take c.in-Ended.taken piece) held)
