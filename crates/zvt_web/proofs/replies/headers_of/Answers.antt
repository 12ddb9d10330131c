use Rattle.std.proofs.Common.{ap, ◌∙◌, ◌++◌}
use Rattle.http1.specs.Head.{pairs}
use Rattle.zvt_web.specs.Replies.{header_list, kind_headers}
use Rattle.zvt_web.proofs.Lists.{grown}
use Rattle.zvt_web.proofs.replies.headers_of.Goals as goal

pub returns : goal.returns
unfolding header_list
returns c =
    grown _ _ _ _ c.in_ok-add_close.ensures
    (grown _ _ _ _ c.in_ok-add_allow.ensures
    (grown _ _ _ _ c.in_ok-add_replayed.ensures
    (grown _ _ _ _ c.in_ok-add_retry_after.ensures
    (grown _ _ _ _ c.in_ok-add_location.ensures
    (grown _ _ _ _ c.in_ok-add_policy.ensures
    (grown _ _ _ _ c.in_ok-add_no_sniffing.ensures
    (grown _ _ _ _ c.in_ok-add_no_store.ensures
    (c.in_ok-add_kind.ensures ∙ ap (λ items. pairs items ++ kind_headers c.args.reply.now.kind) c.new-headers.ensures.items))))))))
