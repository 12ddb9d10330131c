use Rattle.std.proofs.Common.{take, [], ◌≡◌, ◌++◌, true, None, refl, ℕ, ◌+◌, List, arith, length, sym, ◌∙◌, ap, subst, length-append}
use Rattle.zvt_grammar.specs.Reading.{Reading}
use Rattle.std.proofs.lemmas.List.{length-take-le}
use Rattle.std.proofs.Math.Seq.{take-length}
use Rattle.zvt_stream.specs.Passing.{NoFrame, Passes, Rests}
use Rattle.zvt_stream.specs.StreamState.{StreamState}
use Rattle.zvt_stream.proofs.CountLemmas.{alive_all, counts_alive, counts_passing, counts_seen, whole_alive}
use Rattle.zvt_stream.proofs.UnreadLemmas.{dead_before, dead_now, lends_by, no_frame, view_kept}
use Rattle.zvt_stream.specs.Judge.{IsMessageIn, JudgeState, Ran, StandsFor}
use Rattle.zvt_stream.proofs.JudgedFeeds.{place_few}
use Rattle.zvt_stream.proofs.LentLemmas.{ran_in, idle, refused_all, grown, none_lent, message_bytes, feeds_more, feeds_refused, lends_message, lending, kept_all, kept_first, kept_none}
use Rattle.zvt_stream.proofs.stream.Stream.feed_view.Goals as goal

pub reserve_for-requires : goal.reserve_for-requires
reserve_for-requires c =
    let i = idle _ _ _ _ _ _ _ _ _ c.args.self.now c.give_up.new.self c.self.view_is c.give_up.ensures.keeps c.self.invariant in
    omega (arith, i.few)

pub judge-requires-clause-stands : goal.judge-requires-clause-stands
judge-requires-clause-stands c =
    let i = idle _ _ _ _ _ _ _ _ _ c.args.self.now c.give_up.new.self c.self.view_is c.give_up.ensures.keeps c.self.invariant in
    subst (StandsFor c.self.inside.judge) (sym c.reserve_for.ensures.bytes) (i.stands c.if-self.false)

pub judge-requires-clause-room : goal.judge-requires-clause-room
judge-requires-clause-room c = omega (arith, c.in_ok-reserve_for.ensures.ok, ap length c.reserve_for.ensures.bytes)

pub invariant_of-self-in-Open : goal.invariant_of-self-in-Open
invariant_of-self-in-Open c =
    let i = idle _ _ _ _ _ _ _ _ _ c.args.self.now c.give_up.new.self c.self.view_is c.give_up.ensures.keeps c.self.invariant in
    let ran = subst (λ (b : List ℕ). Ran c.self.inside.judge.reading b c.args.piece.now c.judge.result c.judge.new.judge) c.reserve_for.ensures.bytes c.judge.ensures.judged in
    let told = rw c.in-Open.is at (ran_in c.self.inside.judge.reading c.self.inside.judge c.self.inside.held.bytes c.args.piece.now c.judge.result c.judge.new.judge refl ran) in
    let after = kept_all c.self.inside.held.bytes c.args.piece.now _ _ (rw c.in-Open.is at c.judge.ensures.bytes) c.reserve_for.ensures.bytes in
    grown _ _ _ _ _ c.if-self.false i.idle (subst (StandsFor c.judge.new.judge) (sym after) told.0)

pub returns-in-Open-clause-fed : goal.returns-in-Open-clause-fed
returns-in-Open-clause-fed c =
    let i = idle _ _ _ _ _ _ _ _ _ c.args.self.now c.give_up.new.self c.self.view_is c.give_up.ensures.keeps c.self.invariant in
    let ran = subst (λ (b : List ℕ). Ran c.self.inside.judge.reading b c.args.piece.now c.judge.result c.judge.new.judge) c.reserve_for.ensures.bytes c.judge.ensures.judged in
    let told = rw c.in-Open.is at (ran_in c.self.inside.judge.reading c.self.inside.judge c.self.inside.held.bytes c.args.piece.now c.judge.result c.judge.new.judge refl ran) in
    let after = kept_all c.self.inside.held.bytes c.args.piece.now _ _ (rw c.in-Open.is at c.judge.ensures.bytes) c.reserve_for.ensures.bytes in
    (feeds_more _ _ _ _ _ _ None 0 0 [] _ _ _ i told after c.if-self.false, sym (none_lent _ _ _ _ i.idle))

pub invariant_of-self-inside-in-Ended : goal.invariant_of-self-inside-in-Ended
invariant_of-self-inside-in-Ended c =
    let i = idle _ _ _ _ _ _ _ _ _ c.args.self.now c.give_up.new.self c.self.view_is c.give_up.ensures.keeps c.self.invariant in
    let ran = subst (λ (b : List ℕ). Ran c.self.inside.judge.reading b c.args.piece.now c.judge.result c.judge.new.judge) c.reserve_for.ensures.bytes c.judge.ensures.judged in
    let told = rw c.in-Ended.is at (ran_in c.self.inside.judge.reading c.self.inside.judge c.self.inside.held.bytes c.args.piece.now c.judge.result c.judge.new.judge refl ran) in
    let whole = kept_first c.self.inside.held.bytes c.args.piece.now _ _ c.in-Ended.taken (rw c.in-Ended.is at c.judge.ensures.bytes) c.reserve_for.ensures.bytes in
    (λ has_message reads. message_bytes _ _ (subst (IsMessageIn _) (sym whole) told.2), tt)

pub invariant_of-self-in-Ended : goal.invariant_of-self-in-Ended
invariant_of-self-in-Ended c =
    let i = idle _ _ _ _ _ _ _ _ _ c.args.self.now c.give_up.new.self c.self.view_is c.give_up.ensures.keeps c.self.invariant in
    let ran = subst (λ (b : List ℕ). Ran c.self.inside.judge.reading b c.args.piece.now c.judge.result c.judge.new.judge) c.reserve_for.ensures.bytes c.judge.ensures.judged in
    let told = rw c.in-Ended.is at (ran_in c.self.inside.judge.reading c.self.inside.judge c.self.inside.held.bytes c.args.piece.now c.judge.result c.judge.new.judge refl ran) in
    let whole = kept_first c.self.inside.held.bytes c.args.piece.now _ _ c.in-Ended.taken (rw c.in-Ended.is at c.judge.ensures.bytes) c.reserve_for.ensures.bytes in
    lending _ _ _ _ _ c.if-self.false told.3 (subst (IsMessageIn _) (sym whole) told.2)

pub returns-in-Ended-clause-fed : goal.returns-in-Ended-clause-fed
returns-in-Ended-clause-fed c =
    let i = idle _ _ _ _ _ _ _ _ _ c.args.self.now c.give_up.new.self c.self.view_is c.give_up.ensures.keeps c.self.invariant in
    let ran = subst (λ (b : List ℕ). Ran c.self.inside.judge.reading b c.args.piece.now c.judge.result c.judge.new.judge) c.reserve_for.ensures.bytes c.judge.ensures.judged in
    let told = rw c.in-Ended.is at (ran_in c.self.inside.judge.reading c.self.inside.judge c.self.inside.held.bytes c.args.piece.now c.judge.result c.judge.new.judge refl ran) in
    let whole = kept_first c.self.inside.held.bytes c.args.piece.now _ _ c.in-Ended.taken (rw c.in-Ended.is at c.judge.ensures.bytes) c.reserve_for.ensures.bytes in
    lends_message _ _ _ _ _ c.self-in-Ended-1.given.0 [] 0 0 c.in-Ended.taken _ _ _ _ i told whole c.if-self.false

pub overflow_add-place : goal.overflow_add-place
overflow_add-place c =
    let i = idle _ _ _ _ _ _ _ _ _ c.args.self.now c.give_up.new.self c.self.view_is c.give_up.ensures.keeps c.self.invariant in
    let ran = subst (λ (b : List ℕ). Ran c.self.inside.judge.reading b c.args.piece.now c.judge.result c.judge.new.judge) c.reserve_for.ensures.bytes c.judge.ensures.judged in
    let told = rw c.in-Refused.is at (ran_in c.self.inside.judge.reading c.self.inside.judge c.self.inside.held.bytes c.args.piece.now c.judge.result c.judge.new.judge refl ran) in
    let few = place_few _ _ _ _ told.1 in
    omega (arith, few, c.len.ensures, ap length (kept_none c.self.inside.held.bytes c.args.piece.now _ _ (rw c.in-Refused.is at c.judge.ensures.bytes) c.reserve_for.ensures.bytes))

pub refuse-requires : goal.refuse-requires
refuse-requires c =
    let i = idle _ _ _ _ _ _ _ _ _ c.args.self.now c.give_up.new.self c.self.view_is c.give_up.ensures.keeps c.self.invariant in
    let ran = subst (λ (b : List ℕ). Ran c.self.inside.judge.reading b c.args.piece.now c.judge.result c.judge.new.judge) c.reserve_for.ensures.bytes c.judge.ensures.judged in
    let told = rw c.in-Refused.is at (ran_in c.self.inside.judge.reading c.self.inside.judge c.self.inside.held.bytes c.args.piece.now c.judge.result c.judge.new.judge refl ran) in
    let few = place_few _ _ _ _ told.1 in
    let kept = kept_none c.self.inside.held.bytes c.args.piece.now _ _ (rw c.in-Refused.is at c.judge.ensures.bytes) c.reserve_for.ensures.bytes in
    let there = told.1.1.present in
    let all = length-append c.self.inside.held.bytes c.args.piece.now in
    let size = length-take-le (c.in-Refused.at + 1) c.args.piece.now (omega (arith, there, all)) in
    omega (arith, few, there, all, size, ap length kept, c.judge.ensures.room, c.in_ok-reserve_for.ensures.ok, ap length c.reserve_for.ensures.bytes)

pub invariant_of-self-in-Refused : goal.invariant_of-self-in-Refused
invariant_of-self-in-Refused c =
    let i = idle _ _ _ _ _ _ _ _ _ c.args.self.now c.give_up.new.self c.self.view_is c.give_up.ensures.keeps c.self.invariant in
    let ran = subst (λ (b : List ℕ). Ran c.self.inside.judge.reading b c.args.piece.now c.judge.result c.judge.new.judge) c.reserve_for.ensures.bytes c.judge.ensures.judged in
    let told = rw c.in-Refused.is at (ran_in c.self.inside.judge.reading c.self.inside.judge c.self.inside.held.bytes c.args.piece.now c.judge.result c.judge.new.judge refl ran) in
    refused_all _ _ _ _ _ c.if-self-2.false i.idle told.2 c.refuse.ensures.bytes

pub returns-else-self-2-clause-fed : goal.returns-else-self-2-clause-fed
returns-else-self-2-clause-fed c =
    let i = idle _ _ _ _ _ _ _ _ _ c.args.self.now c.give_up.new.self c.self.view_is c.give_up.ensures.keeps c.self.invariant in
    let ran = subst (λ (b : List ℕ). Ran c.self.inside.judge.reading b c.args.piece.now c.judge.result c.judge.new.judge) c.reserve_for.ensures.bytes c.judge.ensures.judged in
    let told = rw c.in-Refused.is at (ran_in c.self.inside.judge.reading c.self.inside.judge c.self.inside.held.bytes c.args.piece.now c.judge.result c.judge.new.judge refl ran) in
    (feeds_refused _ _ _ _ _ _ None _ 0 0 c.in-Refused.at _ c.in-Refused.why _ _ _ i c.if-self.false c.if-self-2.false told (ap (λ n. n + c.in-Refused.at) (c.len.ensures ∙ ap length (kept_none c.self.inside.held.bytes c.args.piece.now _ _ (rw c.in-Refused.is at c.judge.ensures.bytes) c.reserve_for.ensures.bytes))) c.refuse.ensures.bytes (c.refuse.ensures.refused ∙ ap (λ (b : List ℕ). b ++ take (c.in-Refused.at + 1) c.args.piece.now) (kept_none c.self.inside.held.bytes c.args.piece.now _ _ (rw c.in-Refused.is at c.judge.ensures.bytes) c.reserve_for.ensures.bytes)), sym (none_lent _ _ _ _ i.idle))

pub go_on-requires-clause-few : goal.go_on-requires-clause-few
go_on-requires-clause-few c =
    let i = idle _ _ _ _ _ _ _ _ _ c.args.self.now c.give_up.new.self c.self.view_is c.give_up.ensures.keeps c.self.invariant in
    omega (arith, i.few)

pub invariant_of-self-then-self : goal.invariant_of-self-then-self
invariant_of-self-then-self c =
    let i = idle _ _ _ _ _ _ _ _ _ c.args.self.now c.give_up.new.self c.self.view_is c.give_up.ensures.keeps c.self.invariant in
    let r = c.self.inside.judge.reading in
    let ok = c.in_ok-passed.ensures.ok in
    let part = i.passing c.if-self.true ok.0 in
    let dead = dead_before r c.self.inside.held.bytes c.args.piece.now part.place part.why part.refused in
    view_kept _ _ r _ _ _ _ _ _ c.in_ok-passed.passed _ ok.0 c.if-self.true dead ok.1 ok.2 c.is_some-self-inside.ensures

pub returns-then-self-clause-fed : goal.returns-then-self-clause-fed
returns-then-self-clause-fed c =
    let i = idle _ _ _ _ _ _ _ _ _ c.args.self.now c.give_up.new.self c.self.view_is c.give_up.ensures.keeps c.self.invariant in
    let r = c.self.inside.judge.reading in
    let ok = c.in_ok-passed.ensures.ok in
    let part = i.passing c.if-self.true ok.0 in
    let dead = dead_before r c.self.inside.held.bytes c.args.piece.now part.place part.why part.refused in
    lends_by _ _ r _ _ _ _ _ _ c.in_ok-passed.passed _ _ _ _ _ _ c.args.self.now ok.0 c.if-self.true dead part.none_whole ok.1 ok.2 c.is_some-self-inside.ensures c.seen_frame.ensures i.is_held i.alike

pub pass_frame-passed-requires-clause-begun : goal.pass_frame-passed-requires-clause-begun
pass_frame-passed-requires-clause-begun c =
    let i = idle _ _ _ _ _ _ _ _ _ c.args.self.now c.give_up.new.self c.self.view_is c.give_up.ensures.keeps c.self.invariant in
    let r = c.self.inside.judge.reading in
    let bytes = c.self.inside.held.bytes in
    let ran = subst (λ (b : List ℕ). Ran c.self.inside.judge.reading b c.args.piece.now c.judge.result c.judge.new.judge) c.reserve_for.ensures.bytes c.judge.ensures.judged in
    let told = rw c.in-Refused.is at (ran_in r c.self.inside.judge bytes c.args.piece.now c.judge.result c.judge.new.judge refl ran) in
    let kept = kept_none bytes c.args.piece.now _ _ (rw c.in-Refused.is at c.judge.ensures.bytes) c.reserve_for.ensures.bytes in
    let none = no_frame r bytes (i.stands c.if-self.false).unfinished in
    subst NoFrame (sym kept) none

pub invariant_of-self-then-self-2 : goal.invariant_of-self-then-self-2
invariant_of-self-then-self-2 c =
    let i = idle _ _ _ _ _ _ _ _ _ c.args.self.now c.give_up.new.self c.self.view_is c.give_up.ensures.keeps c.self.invariant in
    let r = c.self.inside.judge.reading in
    let bytes = c.self.inside.held.bytes in
    let ran = subst (λ (b : List ℕ). Ran c.self.inside.judge.reading b c.args.piece.now c.judge.result c.judge.new.judge) c.reserve_for.ensures.bytes c.judge.ensures.judged in
    let told = rw c.in-Refused.is at (ran_in r c.self.inside.judge bytes c.args.piece.now c.judge.result c.judge.new.judge refl ran) in
    let kept = kept_none bytes c.args.piece.now _ _ (rw c.in-Refused.is at c.judge.ensures.bytes) c.reserve_for.ensures.bytes in
    let dead = dead_now r bytes c.args.piece.now c.in-Refused.at c.in-Refused.why told.0 told.1 in
    let none = no_frame r bytes (i.stands c.if-self.false).unfinished in
    let passes = subst (λ (b : List ℕ). Passes b c.args.piece.now c.pass_frame-passed.result c.pass_frame-passed.new.held.bytes) kept c.pass_frame-passed.ensures.passes in
    let alike : c.judge.new.judge.reading ≡ r = ap (λ (j : JudgeState). j.reading) told.2 in
    let rests = subst (λ (k : Reading). Rests k c.pass_frame-passed.new.held.bytes c.pass_frame-passed.result c.pass_frame-passed.new.judge) alike c.pass_frame-passed.ensures.rests in
    view_kept _ true r _ _ _ _ _ _ c.pass_frame-passed.result _ c.if-self-2.true refl dead passes rests c.is_some-self-inside-then-self-2.ensures

pub returns-then-self-2-clause-fed : goal.returns-then-self-2-clause-fed
returns-then-self-2-clause-fed c =
    let i = idle _ _ _ _ _ _ _ _ _ c.args.self.now c.give_up.new.self c.self.view_is c.give_up.ensures.keeps c.self.invariant in
    let r = c.self.inside.judge.reading in
    let bytes = c.self.inside.held.bytes in
    let ran = subst (λ (b : List ℕ). Ran c.self.inside.judge.reading b c.args.piece.now c.judge.result c.judge.new.judge) c.reserve_for.ensures.bytes c.judge.ensures.judged in
    let told = rw c.in-Refused.is at (ran_in r c.self.inside.judge bytes c.args.piece.now c.judge.result c.judge.new.judge refl ran) in
    let kept = kept_none bytes c.args.piece.now _ _ (rw c.in-Refused.is at c.judge.ensures.bytes) c.reserve_for.ensures.bytes in
    let dead = dead_now r bytes c.args.piece.now c.in-Refused.at c.in-Refused.why told.0 told.1 in
    let none = no_frame r bytes (i.stands c.if-self.false).unfinished in
    let passes = subst (λ (b : List ℕ). Passes b c.args.piece.now c.pass_frame-passed.result c.pass_frame-passed.new.held.bytes) kept c.pass_frame-passed.ensures.passes in
    let alike : c.judge.new.judge.reading ≡ r = ap (λ (j : JudgeState). j.reading) told.2 in
    let rests = subst (λ (k : Reading). Rests k c.pass_frame-passed.new.held.bytes c.pass_frame-passed.result c.pass_frame-passed.new.judge) alike c.pass_frame-passed.ensures.rests in
    lends_by _ true r _ _ _ _ _ _ c.pass_frame-passed.result _ _ _ _ _ _ c.args.self.now c.if-self-2.true refl dead none passes rests c.is_some-self-inside-then-self-2.ensures c.seen_frame-then-self-2.ensures i.is_held i.alike

pub returns-then-self-2-clause-count : goal.returns-then-self-2-clause-count
returns-then-self-2-clause-count c =
    let i = idle _ _ _ _ _ _ _ _ _ c.args.self.now c.give_up.new.self c.self.view_is c.give_up.ensures.keeps c.self.invariant in
    let r = c.self.inside.judge.reading in
    let bytes = c.self.inside.held.bytes in
    let ran = subst (λ (b : List ℕ). Ran c.self.inside.judge.reading b c.args.piece.now c.judge.result c.judge.new.judge) c.reserve_for.ensures.bytes c.judge.ensures.judged in
    let told = rw c.in-Refused.is at (ran_in r c.self.inside.judge bytes c.args.piece.now c.judge.result c.judge.new.judge refl ran) in
    let kept = kept_none bytes c.args.piece.now _ _ (rw c.in-Refused.is at c.judge.ensures.bytes) c.reserve_for.ensures.bytes in
    let dead = dead_now r bytes c.args.piece.now c.in-Refused.at c.in-Refused.why told.0 told.1 in
    let passes = subst (λ (b : List ℕ). Passes b c.args.piece.now c.pass_frame-passed.result c.pass_frame-passed.new.held.bytes) kept c.pass_frame-passed.ensures.passes in
    let before = ap (λ (t : StreamState). t.judged) c.self.view_is ∙ c.give_up.ensures.count in
    counts_seen _ r bytes _ _ _ _ c.pass_frame-passed.result _ c.args.self.now _ _ c.if-self-2.true dead passes i.alike i.is_held c.seen_frame-then-self-2.ensures (omega (arith, before, c.in-Refused.ensures.count))

pub returns-in-Open-clause-count : goal.returns-in-Open-clause-count
returns-in-Open-clause-count c =
    let i = idle _ _ _ _ _ _ _ _ _ c.args.self.now c.give_up.new.self c.self.view_is c.give_up.ensures.keeps c.self.invariant in
    let r = c.self.inside.judge.reading in
    let bytes = c.self.inside.held.bytes in
    let ran = subst (λ (b : List ℕ). Ran c.self.inside.judge.reading b c.args.piece.now c.judge.result c.judge.new.judge) c.reserve_for.ensures.bytes c.judge.ensures.judged in
    let told = rw c.in-Open.is at (ran_in r c.self.inside.judge bytes c.args.piece.now c.judge.result c.judge.new.judge refl ran) in
    let before = ap (λ (t : StreamState). t.judged) c.self.view_is ∙ c.give_up.ensures.count in
    let all = take-length c.args.piece.now in
    counts_alive _ r c.args.self.now bytes _ _ _ i.alike i.is_held (alive_all r _ bytes c.args.piece.now told.1 told.0.unfinished.alive) (omega (arith, before, c.in-Open.ensures.count, ap length all))

pub returns-in-Ended-clause-count : goal.returns-in-Ended-clause-count
returns-in-Ended-clause-count c =
    let i = idle _ _ _ _ _ _ _ _ _ c.args.self.now c.give_up.new.self c.self.view_is c.give_up.ensures.keeps c.self.invariant in
    let r = c.self.inside.judge.reading in
    let bytes = c.self.inside.held.bytes in
    let ran = subst (λ (b : List ℕ). Ran c.self.inside.judge.reading b c.args.piece.now c.judge.result c.judge.new.judge) c.reserve_for.ensures.bytes c.judge.ensures.judged in
    let told = rw c.in-Ended.is at (ran_in r c.self.inside.judge bytes c.args.piece.now c.judge.result c.judge.new.judge refl ran) in
    let before = ap (λ (t : StreamState). t.judged) c.self.view_is ∙ c.give_up.ensures.count in
    let size = length-take-le c.in-Ended.taken c.args.piece.now told.1 in
    counts_alive _ r c.args.self.now bytes _ _ _ i.alike i.is_held (whole_alive r _ told.2) (omega (arith, before, c.in-Ended.ensures.count, size))

pub returns-then-self-clause-count : goal.returns-then-self-clause-count
returns-then-self-clause-count c =
    let i = idle _ _ _ _ _ _ _ _ _ c.args.self.now c.give_up.new.self c.self.view_is c.give_up.ensures.keeps c.self.invariant in
    let r = c.self.inside.judge.reading in
    let bytes = c.self.inside.held.bytes in
    let ok = c.in_ok-passed.ensures.ok in
    let part = i.passing c.if-self.true ok.0 in
    let before = ap (λ (t : StreamState). t.judged) c.self.view_is ∙ c.give_up.ensures.count in
    counts_passing _ r c.args.self.now bytes _ part.place part.why _ _ ok.0 i.alike i.is_held part.refused before
