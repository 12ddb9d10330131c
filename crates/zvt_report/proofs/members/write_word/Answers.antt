use Rattle.std.proofs.Common.{◌≡◌, ◌++◌, ◌∙◌, ap, List, ℕ}
use Rattle.zvt_report.specs.Members.{word_text}
use Rattle.zvt_report.proofs.MemberLemmas.{quoted_said, word_plain}
use Rattle.zvt_report.proofs.members.write_word.Goals as goal

pub returns : goal.returns
returns c =
    let word = word_text c.args.word in
    let said : c.word.new.self ≡ c.push.new.self ++ word = c.in_ok-word.ensures ∙ ap (λ (l : List ℕ). c.push.new.self ++ l) (c.as_bytes.ensures.value ∙ c.text.ensures) in
    quoted_said c.push-2.result c.args.text.now c.push.new.self c.word.new.self c.push-2.new.self word c.in_ok-push.ensures said (word_plain c.args.word) c.push-2.ensures
