-- Bytes have one answer.
use Rattle.std.proofs.Common.{◌≡◌, ℕ, List, length, take, drop, refl, sym, ◌∙◌, ap, subst, suc}
use Rattle.std.proofs.lemmas.List.{take-append-drop, length-take-le}
use Rattle.zvt_grammar.specs.declared.answer.Scan.{Scan}
use Rattle.zvt_grammar.specs.declared.answer.Scan.TheVariants.{Whole, More, Refused}
use Rattle.zvt_grammar.specs.Reading.{Reading}
use Rattle.zvt_grammar.specs.Beginnings.{Alive, Unfinished, Place}
use Rattle.zvt_grammar.proofs.CutLemmas.{prefixes_alive}
use Rattle.zvt_apdu.specs.Message.{Message}
use Rattle.zvt_apdu.specs.Grammar.{Spells}
use Rattle.zvt_apdu.specs.Judging.{Found, Answers}
use Rattle.zvt_apdu.specs.Laws.{AnswersAreOne}
use Rattle.zvt_apdu.proofs.LawLemmas.{spellings_are_read}
use Rattle.zvt_apdu.proofs.Positions.{refusals_are_one}

by_found : (r : Reading) (b : List ℕ) (f : Message × ℕ) (q : Scan (Message × ℕ)) → Found r b f.0 f.1 → Answers r b q → Whole f ≡ q
by_found r b f q x y =
    let e : q ≡ Whole (f.0, length (take f.1 b)) = spellings_are_read r f.0 (take f.1 b) (drop f.1 b) q x.spelled (subst (λ (s : List ℕ). Answers r s q) (sym (take-append-drop f.1 b)) y) in
    ap (λ (n : ℕ). Whole (f.0, n)) (sym (length-take-le f.1 b x.present)) ∙ sym e

not_more : (r : Reading) (b : List ℕ) (k : ℕ) → Unfinished (Spells r) b → Place (Spells r) b k → ⊥
not_more r b k x y = y.dead (prefixes_alive (Spells r) (take (suc k) b) (drop (suc k) b) (subst (Alive (Spells r)) (sym (take-append-drop (suc k) b)) x.alive))

pub answers_are_one : AnswersAreOne
answers_are_one r b (Whole f) q x y = by_found r b f q x y
answers_are_one r b p (Whole g) x y = sym (by_found r b g p y x)
answers_are_one r b More More x y = refl
answers_are_one r b More (Refused k w) x y = absurd (not_more r b k x y.1)
answers_are_one r b (Refused j v) More x y = absurd (not_more r b j y x.1)
answers_are_one r b (Refused j v) (Refused k w) x y =
    let e = refusals_are_one r j k b v w x.1 y.1 x.2 y.2 in
    ap (λ (n : ℕ). Refused n v) e.0 ∙ ap (Refused k) e.1
