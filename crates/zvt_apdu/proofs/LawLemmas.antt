-- What follows from spellings that end themselves.
use Rattle.std.proofs.Common.{◌≡◌, ℕ, ◌++◌, length, take, drop, refl, ◌∙◌, ap, arith}
use Rattle.std.proofs.lemmas.List.{take-append-drop, length-take-le}
use Rattle.zvt_grammar.specs.declared.answer.Scan.{Scan}
use Rattle.zvt_grammar.specs.declared.answer.Scan.TheVariants.{Whole, More, Refused}
use Rattle.zvt_apdu.specs.Message.{Message}
use Rattle.zvt_apdu.specs.Judging.{Answers}
use Rattle.zvt_apdu.specs.Laws.{SpellingsAreRead}
use Rattle.zvt_apdu.proofs.OneMessage.{messages_end_themselves}

pub spellings_are_read : SpellingsAreRead
spellings_are_read r m b rest answer p h = by_answer answer h
  where
    by_answer : (answer : Scan (Message × ℕ)) → Answers r (b ++ rest) answer → answer ≡ Whole (m, length b)
    by_answer (Whole found) f =
        let one = messages_end_themselves r found.0 m (take found.1 (b ++ rest)) b (drop found.1 (b ++ rest)) rest f.spelled p (take-append-drop found.1 (b ++ rest)) in
        let messages : found.0 ≡ m = one.0 in
        let sizes : found.1 ≡ length b = omega (arith, length-take-le found.1 (b ++ rest) f.present, ap length one.1) in
        ap (λ (x : Message). Whole (x, found.1)) messages ∙ ap (λ (n : ℕ). Whole (m, n)) sizes
    by_answer More f = absurd (f.none_whole m b rest refl p)
    by_answer (Refused place why) f = absurd (f.0 m b rest refl p)
