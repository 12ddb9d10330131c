use Rattle.std.proofs.Common.{◌≡◌, ◌++◌, ◌∙◌, ap, List, ℕ}
use Rattle.zvt_report.specs.Members.{object_text, object_name}
use Rattle.zvt_report.proofs.MemberLemmas.{object_line}
use Rattle.zvt_report.proofs.members.write_object.Goals as goal

pub returns : goal.returns
unfolding object_text
returns c =
    let name = object_name c.args.object in
    let named : c.word-2.new.self ≡ c.word.new.self ++ name = c.in_ok-word-2.ensures ∙ ap (λ (l : List ℕ). c.word.new.self ++ l) (c.as_bytes.ensures.value ∙ c.name.ensures) in
    object_line c.word-4.result c.args.text.now c.word.new.self c.word-2.new.self c.word-3.new.self c.write_members.new.text c.word-4.new.self c.args.object c.args.members.now
    c.in_ok-word.ensures named c.in_ok-word-3.ensures c.in_ok-write_members.ensures c.word-4.ensures
