-- Reading bytes that are a message.
use Rattle.std.proofs.Common.{◌≡◌, ℕ, List, [], length, sym, ap, subst}
use Rattle.std.proofs.lemmas.List.{append-nil}
use Rattle.zvt_grammar.specs.declared.why.Why.{Why}
use Rattle.zvt_grammar.specs.declared.answer.Scan.{Scan}
use Rattle.zvt_grammar.specs.declared.answer.Scan.TheVariants.{Whole, More, Refused}
use Rattle.zvt_grammar.specs.Reading.{Reading}
use Rattle.zvt_apdu.specs.Message.{Message}
use Rattle.zvt_apdu.specs.Judging.{Answers}
use Rattle.zvt_apdu.proofs.LawLemmas.{spellings_are_read}
use Rattle.zvt_apdu.specs.Grammar.{Spells}
use Rattle.zvt_stream.specs.Judge.{IsMessageIn}

read_whole : (r : Reading) (b : List ℕ) (answer : Scan (Message × ℕ)) → (m : IsMessageIn r b) → Answers r b answer → answer ≡ Whole (m.0, length b)
read_whole r b answer m h = spellings_are_read r m.0 b [] answer m.1 (subst (λ (s : List ℕ). Answers r s answer) (sym (append-nil b)) h)

pub not_more : (r : Reading) (b : List ℕ) → IsMessageIn r b → Answers r b More → ⊥
not_more r b m h = let e : More ≡ Whole (m.0, length b) = read_whole r b More m h in absurd (cc (e))

pub not_refused : (r : Reading) (b : List ℕ) (place : ℕ) (why : Why) → IsMessageIn r b → Answers r b (Refused place why) → ⊥
not_refused r b place why m h = let e : Refused place why ≡ Whole (m.0, length b) = read_whole r b (Refused place why) m h in absurd (cc (e))

pub is_whole : (r : Reading) (b : List ℕ) (n : Message) (size : ℕ) → IsMessageIn r b → Answers r b (Whole (n, size)) → Spells r n b
is_whole r b n size m h =
    let e : Whole (n, size) ≡ Whole (m.0, length b) = read_whole r b (Whole (n, size)) m h in
    let both : (n, size) ≡ (m.0, length b) = cc (e) in
    let same : n ≡ m.0 = ap (λ (p : Message × ℕ). p.0) both in
    subst (λ (k : Message). Spells r k b) (sym same) m.1
