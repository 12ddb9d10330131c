use Rattle.std.proofs.Common.{append_assoc}
use Rattle.zvt_report.specs.Differences.{shares_part}
use Rattle.zvt_report.proofs.TextLemmas.{adds_completely}
use Rattle.zvt_report.proofs.differences.shares_part.Goals as goal

pub returns-in_ok-share_text-in-One : goal.returns-in_ok-share_text-in-One
unfolding shares_part
returns-in_ok-share_text-in-One c =
    adds_completely c.push.result c.share_text.new.text c.push.new.self _ _ (simp (c.in_ok-share_text-in-One.ensures, c.in_ok-word-in-One.ensures, c.in-One.is, append_assoc)) c.push.ensures

pub returns-in_ok-next_share-in-Two : goal.returns-in_ok-next_share-in-Two
unfolding shares_part
returns-in_ok-next_share-in-Two c =
    adds_completely c.push-in-Two.result c.next_share.new.text c.push-in-Two.new.self _ _ (simp (c.in_ok-next_share-in-Two.ensures, c.in_ok-share_text-in-Two.ensures, c.in_ok-word-in-Two.ensures, c.in-Two.is, append_assoc)) c.push-in-Two.ensures

pub returns-in_ok-next_share-in-Three-2 : goal.returns-in_ok-next_share-in-Three-2
unfolding shares_part
returns-in_ok-next_share-in-Three-2 c =
    adds_completely c.push-in-Three.result c.next_share-in-Three-2.new.text c.push-in-Three.new.self _ _
    (simp (c.in_ok-next_share-in-Three-2.ensures, c.in_ok-next_share-in-Three.ensures, c.in_ok-share_text-in-Three.ensures, c.in_ok-word-in-Three.ensures, c.in-Three.is, append_assoc)) c.push-in-Three.ensures
