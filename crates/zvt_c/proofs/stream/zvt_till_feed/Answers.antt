use Rattle.std.proofs.Common.{◌≡◌, ℕ, Bool, List, [], Option, Some, option_map, sym, subst, ap, ◌∙◌, MatchBool}
use Rattle.zvt_c.specs.declared.session.Session.{Session}
use Rattle.std.proofs.lemmas.List.{nil_from_length}
use Rattle.zvt_c.specs.Feeding.{FeedsEnd, FeedsHandle}
use Rattle.zvt_c.specs.Numbers.{nothing}
use Rattle.zvt_c.proofs.stream.zvt_till_feed.Goals as goal

pub returns : goal.returns
returns c =
    record {
      full =
          subst
          (λ (small : Bool). MatchBool small ((c.of.result.raw_handle.held ≡ c.args.till.now.raw_handle.held) × (c.feed-status.new.out ≡ c.args.out.now) × (c.feed-status.new.answer ≡ nothing) × (c.feed-status.result ≡ 4))
          (FeedsHandle c.args.till.now.raw_handle.held c.args.piece.now c.of.result.raw_handle.held c.args.out.now c.feed-status.new.out c.feed-status.new.answer c.feed-status.result))
          (sym (sym c.lacks_capacity.ensures.lacks ∙ c.if-lacks_capacity.false))
          (subst (λ (held : Option Session). FeedsHandle held c.args.piece.now c.of.result.raw_handle.held c.args.out.now c.feed-status.new.out c.feed-status.new.answer c.feed-status.result)
          (ap Some c.deref_mut.ensures.value ∙ (sym (ap (option_map (λ end. end.value)) c.in-Some.is) ∙ c.take.ensures.taken))
          (c.feed-status.new.end, c.of.ensures, subst (λ (line : List ℕ). FeedsEnd c.deref_mut.result.now c.args.piece.now c.feed-status.new.end c.args.out.now c.feed-status.new.out [] line c.feed-status.new.answer c.feed-status.result) (nil_from_length c.feed-status.new.line c.feed-status.auto.line) c.feed-status.ensures.fed));
    }
