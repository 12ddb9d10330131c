-- Beginnings of messages, and lines of them.
use Rattle.std.proofs.Common.{ℕ, ◌<◌, ◌≤◌, List, [], ◌∷◌, ◌++◌, length, refl, sym, ap, subst, arith, length-append, append-nil}
use Rattle.zvt_grammar.specs.Reading.{Reading, shortest}
use Rattle.zvt_grammar.proofs.CutLemmas as cuts
use Rattle.zvt_apdu.specs.Message.{Message, ack}
use Rattle.zvt_apdu.specs.Grammar.{IsFrameLength}
use Rattle.zvt_apdu.specs.Grammar as grammar
use Rattle.zvt_apdu.proofs.Writing.{two_control}
use Rattle.zvt_stream.specs.Apdus.{Alive, AliveIn, Unfinished, UnfinishedIn, Spelled, SpelledIn}

pub spelled_more_in : (r : Reading) (ms : List Message) (bytes rest more : List ℕ) → SpelledIn r bytes ms rest → SpelledIn r (bytes ++ more) ms (rest ++ more)
spelled_more_in r = cuts.spelled_more (grammar.Spells r)

pub spelled_append_in : (r : Reading) (ms ns : List Message) (bytes middle rest : List ℕ) → SpelledIn r bytes ms middle → SpelledIn r middle ns rest → SpelledIn r bytes (ms ++ ns) rest
spelled_append_in r = cuts.spelled_append (grammar.Spells r)

pub prefix_alive_in : (r : Reading) (prefix rest : List ℕ) → AliveIn r (prefix ++ rest) → AliveIn r prefix
prefix_alive_in r = cuts.prefixes_alive (grammar.Spells r)

pub length_bounds : (r : Reading) (n : ℕ) (size : List ℕ) → IsFrameLength r n size → (0 < length size) × (length size ≤ 3) × (n < 65536)
length_bounds r n [] s = absurd s
length_bounds r n (a ∷ []) s = (omega arith, omega arith, omega (arith, s.0))
length_bounds r n (a ∷ b ∷ []) s = absurd s
length_bounds r n (a ∷ low ∷ high ∷ []) s = (omega arith, omega arith, omega (arith, s.2, s.3, s.4))
length_bounds r n (a ∷ b ∷ c ∷ d ∷ more) s = absurd s

-- control, length and data at their shortest and their longest
pub bounds_in : (r : Reading) (m : Message) (bytes : List ℕ) → grammar.Spells r m bytes → (2 < length bytes) × (length bytes ≤ 65540)
bounds_in r m bytes p =
    let sized = length_bounds r (length p.content) p.size p.is_size in
    let two = two_control m p.control p.is_control in
    let whole = ap length p.whole in
    let outer = length-append p.control (p.size ++ p.content) in
    let inner = length-append p.size p.content in
    (omega (arith, sized.0, two, whole, outer, inner), omega (arith, sized.1, sized.2, two, whole, outer, inner))

pub nothing_in : (r : Reading) → UnfinishedIn r []
nothing_in r = record {
  alive = record { value = ack []; rest = 0x80 ∷ 0x00 ∷ 0x00 ∷ []; spelled = record { control = 0x80 ∷ 0x00 ∷ []; size = 0x00 ∷ []; content = []; whole = refl; is_control = refl; is_size = (omega arith, refl); is_content = (refl, refl, tt, tt) } };
  none_whole = λ m prefix rest e s. let n : 2 < length prefix = (bounds_in r m prefix s).0 in absurd (omega (arith, n, ap length e, length-append prefix rest));
}

-- A message that isn't whole is shorter than the longest message.
pub few_in : (r : Reading) (bytes : List ℕ) → UnfinishedIn r bytes → length bytes < 65540
few_in r bytes u = by_rest u.alive.rest u.alive.spelled
  where
    by_rest : (rest : List ℕ) → grammar.Spells r u.alive.value (bytes ++ rest) → length bytes < 65540
    by_rest [] s = let P : List ℕ → Type 0 = λ b. grammar.Spells r u.alive.value b in absurd (u.none_whole u.alive.value bytes [] (sym (append-nil bytes)) (subst P (append-nil bytes) s))
    by_rest (x ∷ rest) s = omega (arith, (bounds_in r u.alive.value (bytes ++ x ∷ rest) s).1, length-append bytes (x ∷ rest))

-- the same of the one spelling
pub spelled_more : (ms : List Message) (bytes rest more : List ℕ) → Spelled bytes ms rest → Spelled (bytes ++ more) ms (rest ++ more)
spelled_more = spelled_more_in shortest

pub spelled_append : (ms ns : List Message) (bytes middle rest : List ℕ) → Spelled bytes ms middle → Spelled middle ns rest → Spelled bytes (ms ++ ns) rest
spelled_append = spelled_append_in shortest

pub prefix_alive : (prefix rest : List ℕ) → Alive (prefix ++ rest) → Alive prefix
prefix_alive = prefix_alive_in shortest

pub nothing_begun : Unfinished []
nothing_begun = nothing_in shortest
