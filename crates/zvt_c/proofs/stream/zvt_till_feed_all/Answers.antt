use Rattle.std.proofs.Common.{◌≡◌, Bool, Option, Some, option_map, sym, subst, ap, ◌∙◌, MatchBool}
use Rattle.zvt_c.specs.declared.session.Session.{Session}
use Rattle.zvt_c.specs.FeedingAll.{FeedsAllHandle}
use Rattle.zvt_c.specs.Numbers.{nothing}
use Rattle.zvt_c.proofs.stream.zvt_till_feed_all.Goals as goal

pub returns : goal.returns
returns c =
    subst
    (λ (small : Bool). MatchBool small ((c.of.result.raw_handle.held ≡ c.args.till.now.raw_handle.held) × (c.feed_all-status.new.out ≡ c.args.out.now) × (c.feed_all-status.new.line ≡ c.args.line.now) × (c.feed_all-status.new.answer ≡ nothing) × (c.feed_all-status.result ≡ 4))
    (FeedsAllHandle c.args.till.now.raw_handle.held c.args.piece.now c.of.result.raw_handle.held c.args.out.now c.feed_all-status.new.out c.args.line.now c.feed_all-status.new.line c.feed_all-status.new.answer c.feed_all-status.result))
    (sym (sym c.lacks_capacity.ensures.lacks ∙ c.if-lacks_capacity.false))
    (subst
    (λ (held : Option Session). FeedsAllHandle held c.args.piece.now c.of.result.raw_handle.held c.args.out.now c.feed_all-status.new.out c.args.line.now c.feed_all-status.new.line c.feed_all-status.new.answer c.feed_all-status.result)
    (ap Some c.deref_mut.ensures.value ∙ (sym (ap (option_map (λ end. end.value)) c.in-Some.is) ∙ c.take.ensures.taken))
    (c.feed_all-status.new.end, c.of.ensures, c.feed_all-status.ensures))
