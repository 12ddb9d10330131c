use Rattle.std.proofs.Common.{◌≡◌, ◌∙◌, ◌+◌, ◌-◌, ◌≤◌, ◌∷◌, ◌++◌, ℕ, List, length, drop, take, ap, arith, sym, subst, length-append, length-drop}
use Rattle.zvt_grammar.specs.Reading.{shortest}
use Rattle.zvt_tlv.proofs.Writing.{PutAll, puts_after}
use Rattle.zvt_apdu.specs.Grammar.{Data}
use Rattle.zvt_apdu.specs.Message.{status}
use Rattle.zvt_term.specs.Dressing.{fields_at}
use Rattle.zvt_term.proofs.DressingLemmas.{carded_spelled, copied, cut_after, numbered_listed, status_framed}
use Rattle.zvt_term.proofs.SpellingLemmas.{four_more}
use Rattle.zvt_term.proofs.dressing.put_carded.Goals as goal

pub returns-clause-written : goal.returns-clause-written
returns-clause-written c fields h =
    let content = take (length c.args.message.now - 3) (drop 3 c.args.message.now) in
    let more : List ℕ = 0x29 ∷ four_more c.tid_digits.result c.card_bytes-more.result.now in
    let f = status_framed fields c.args.message.now h c.requires.short in
    let is : Data shortest (status fields) content = subst (λ (s : List ℕ). Data shortest (status fields) s) (sym (cut_after 3 c.args.message.now ∙ ap (drop 3) f.whole)) f.is_content in
    let few : length content + length more ≤ 200 = omega (arith, ap length (cut_after 3 c.args.message.now), length-drop 3 c.args.message.now, c.requires.short, c.card_bytes-more.ensures.short) in
    let same : length content + length more ≡ length (content ++ more) = sym (length-append content more) in
    let listed = numbered_listed c.args.tid c.args.card c.tid_digits.result c.card_bytes-more.result.now c.tid_digits.ensures c.requires.tid c.card_bytes-more.ensures.fields in
    let size : length content + 5 + length c.card_bytes-more.result.now ≡ length (content ++ more) = omega (arith, same) in
    copied _ (0x04 ∷ 0x0F ∷ length (content ++ more) ∷ (content ++ more)) _ _ _ (carded_spelled fields (fields_at c.args.tid c.args.card) content more is listed few)
    (subst (λ (n : ℕ). PutAll (0x04 ∷ 0x0F ∷ n ∷ (content ++ more)) c.put_after-at.result c.put_after.result c.args.out.now c.put_after-at.new.out c.put_after.new.out) size
    (puts_after (0x04 ∷ 0x0F ∷ (length content + 5 + length c.card_bytes-more.result.now) ∷ content) more c.args.out.now c.put_after-at.new.out c.put_after.new.out c.put_after-at.result c.put_after.result c.put_after-at.ensures.written c.put_after.ensures.written))
