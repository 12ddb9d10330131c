-- No crash of an append or of a repair leaves more than a record and one byte behind the whole lines, nor a line there.
use Rattle.std.proofs.Common.{◌≡◌, ⊎_elim, ◌⊎◌, inl, inr, ℕ, zero, suc, ◌+◌, ◌≤◌, ◌<◌, ◌^◌, false, List, [], ◌∷◌, ◌++◌, length, get_or, take, drop, refl, sym, ◌∙◌, ap, arith, length-append, length-drop, take-append-drop}
use Rattle.std.proofs.lemmas.List.{take_all, drop_all, drop_at}
use Rattle.std.proofs.lemmas.Bool.{cases_eq}
use Rattle.std.proofs.lemmas.Bool.Decides.{nat_tests}
use Rattle.zvt_journal.specs.Device.{Torn, Swapped, Cut}
use Rattle.zvt_journal.specs.Text.{whole, recovered, at_rest, begins_marked, is_mark, IsRecord}
use Rattle.zvt_journal.specs.Files.{after_gate, behind_gate, HasFewAfter, HasNoLineBehind, IsRepairable}
use Rattle.zvt_journal.proofs.Lines.{length-recovered, recovered_short, whole_prefix, whole_within}
use Rattle.zvt_journal.proofs.Append.{following, staged}
use Rattle.zvt_journal.proofs.Append as append

few : (file text : List ℕ) → recovered file ≡ text → length file ≤ length text + 1 + 2 ^ 18 → HasFewAfter file
few file text is short = omega (arith, short, length-recovered file, ap length is)

-- ---- the first byte behind the gate

first_byte : (tail : List ℕ) → begins_marked tail ≡ is_mark (get_or tail 0 0)
first_byte [] = refl
first_byte (byte ∷ tail) = refl

behind : (file text end : List ℕ) → file ≡ text ++ end → recovered file ≡ text → behind_gate file ≡ after_gate end
behind file text end parted is =
    let at_end : length text ≡ whole 0 file = sym (ap length is) ∙ length-recovered file in
    ap after_gate (ap (λ (l : List ℕ). drop (whole 0 file) l) parted ∙ drop_at text end (whole 0 file) at_end)

-- a closed gate, and then bytes that begin with no mark
closed : (file text tail : List ℕ) → file ≡ text ++ 10 ∷ tail → recovered file ≡ text → begins_marked tail ≡ false → HasNoLineBehind file
closed file text tail parted is unmarked = ap begins_marked (behind file text (10 ∷ tail) parted is) ∙ unmarked

pub length-following : (entry : List ℕ) → 0 < length entry → length (following entry) ≡ length entry
length-following entry some = omega (arith, some, length-append (drop 1 entry) (10 ∷ []), length-drop 1 entry)

pub short_following : (entry bytes : List ℕ) → 0 < length entry → length entry ≤ 2 ^ 18 → bytes ≡ following entry → length bytes ≤ 2 ^ 18
short_following entry bytes some short is = omega (arith, short, ap length is, length-following entry some)

unmarked_with : (rest : List ℕ) → begins_marked rest ≡ false → begins_marked (rest ++ 10 ∷ []) ≡ false
unmarked_with [] unmarked = refl
unmarked_with (byte ∷ rest) unmarked = unmarked

pub unmarked_following : (entry bytes : List ℕ) → IsRecord entry → bytes ≡ following entry → begins_marked bytes ≡ false
unmarked_following entry bytes good is = ap begins_marked is ∙ unmarked_with (drop 1 entry) good.unmarked

-- a torn write past the end begins with a new byte, or with 0
torn_unmarked : (at : ℕ) (bytes old file : List ℕ) → length old ≤ at → begins_marked bytes ≡ false → Torn at bytes old file → begins_marked (drop at file) ≡ false
torn_unmarked at [] old file past unmarked torn =
    let none : length (drop at file) ≡ 0 = omega (arith, past, torn.no_longer, length-drop at file) in
    empty_unmarked (drop at file) none
  where
    empty_unmarked : (tail : List ℕ) → length tail ≡ 0 → begins_marked tail ≡ false
    empty_unmarked [] none = refl
    empty_unmarked (byte ∷ tail) none = absurd (omega (arith, none))
torn_unmarked at (byte ∷ bytes) old file past unmarked torn =
    let from_old : get_or (drop at old) 0 0 ≡ 0 = ap (λ (l : List ℕ). get_or l 0 0) (drop_all at old past) in
    first_byte (drop at file) ∙ ⊎_elim
    (λ new. ap is_mark new ∙ unmarked)
    (λ before. ap is_mark (before ∙ from_old))
    (torn.each 0 (omega arith))

module _ (text : List ℕ) (is : whole 0 text ≡ length text) (gate : ℕ) (at_gate : gate ≡ length text) where
  -- at rest there is the closed gate alone
  pub repairable_at_rest : (file : List ℕ) → file ≡ at_rest text → recovered file ≡ text → IsRepairable file
  repairable_at_rest file same stands = record {
    few = few file text stands (omega (arith, at_gate, ap length same, append.length-at_rest text is gate at_gate));
    no_line = closed file text [] same stands refl;
  }

  pub repairable_torn : (bytes file : List ℕ) → length bytes ≤ 2 ^ 18 → begins_marked bytes ≡ false → Torn (gate + 1) bytes (at_rest text) file → IsRepairable file
  repairable_torn bytes file short unmarked torn =
      let stands = append.torn_after text is gate at_gate bytes file torn in
      let rest = append.length-at_rest text is gate at_gate in
      let tail = torn_unmarked (gate + 1) bytes (at_rest text) file (omega (arith, rest)) unmarked torn in
      record {
        few = few file text stands (omega (arith, short, at_gate, torn.no_longer, rest));
        no_line = closed file text (drop (gate + 1) file) (append.torn_parted text is gate at_gate bytes file torn) stands tail;
      }

  module _ (entry : List ℕ) (good : IsRecord entry) (short : length entry ≤ 2 ^ 18) where
    pub repairable_swapped : (file : List ℕ) → Swapped gate (get_or entry 0 0) (staged text entry) file → IsRepairable file
    repairable_swapped file swapped = ⊎_elim
        (λ same. let stands = ap recovered same ∙ append.staged_whole text is gate at_gate entry in
        record {
          few = few file text stands (omega (arith, short, ap length same, length-append text (10 ∷ following entry), length-following entry good.some));
          no_line = closed file text (following entry) same stands (unmarked_following entry (following entry) good refl);
        })
        (λ over. let is_open = append.opened text is gate at_gate entry good file over in
        let stands = append.stands_for_more text is gate at_gate entry good file is_open in
        record {
          few = few file (text ++ entry) stands (omega (arith, ap length is_open, length-append (text ++ entry) (10 ∷ [])));
          no_line = closed file (text ++ entry) [] is_open stands refl;
        })
        swapped

-- ---- the repair

Unmarked : List ℕ → Type 0
Unmarked rest = begins_marked (after_gate rest) ≡ false

front_unmarked : (n : ℕ) (tail : List ℕ) → begins_marked tail ≡ false → begins_marked (take n tail) ≡ false
front_unmarked zero tail unmarked = refl
front_unmarked (suc n) [] unmarked = refl
front_unmarked (suc n) (byte ∷ tail) unmarked = unmarked

gate_first : (byte : ℕ) (rest : List ℕ) → byte ≡ 10 → after_gate (byte ∷ rest) ≡ rest
gate_first byte rest lf = grind (arith, nat_tests)

other_first : (byte : ℕ) (rest : List ℕ) → (byte ≡ 10 → ⊥) → after_gate (byte ∷ rest) ≡ byte ∷ rest
other_first byte rest other = grind (arith, nat_tests)

cut_unmarked : (n : ℕ) (rest : List ℕ) → begins_marked (after_gate rest) ≡ false → begins_marked (after_gate (take n rest)) ≡ false
cut_unmarked zero rest unmarked = refl
cut_unmarked (suc n) [] unmarked = refl
cut_unmarked (suc n) (byte ∷ rest) unmarked = elim (cases_eq byte 10) [
  | inl lf ↦ ap begins_marked (gate_first byte (take n rest) lf) ∙ front_unmarked n rest (sym (ap begins_marked (gate_first byte rest lf)) ∙ unmarked)
  | inr other ↦ ap begins_marked (other_first byte (take n rest) other) ∙ sym (ap begins_marked (other_first byte rest other)) ∙ unmarked
]

cut_behind : (w n : ℕ) (file : List ℕ) → begins_marked (after_gate (drop w file)) ≡ false → begins_marked (after_gate (drop w (take n file))) ≡ false
cut_behind zero n file unmarked = cut_unmarked n file unmarked
cut_behind (suc w) zero file unmarked = refl
cut_behind (suc w) (suc n) [] unmarked = refl
cut_behind (suc w) (suc n) (byte ∷ file) unmarked = cut_behind w n file unmarked

-- a cut behind the whole lines
pub repairable_cut : (file left : List ℕ) → IsRepairable file → Cut (whole 0 file) file left → IsRepairable left
repairable_cut file left good cut =
    let n = length left in
    let keeps : whole 0 file ≤ n = omega (arith, cut.no_shorter, whole_within 0 file) in
    let same : whole 0 left ≡ whole 0 file = ap (λ (l : List ℕ). whole 0 l) (sym cut.prefix) ∙ whole_prefix 0 file n (omega (arith, keeps)) in
    let no_longer : length left ≤ length file = omega (arith, ap length cut.prefix, length_taken n file) in
    record {
      few = omega (arith, same, no_longer, good.few);
      no_line = ap (λ (l : List ℕ). begins_marked (after_gate (drop (whole 0 left) l))) (sym cut.prefix)
          ∙ ap (λ (w : ℕ). begins_marked (after_gate (drop w (take n file)))) same
          ∙ cut_behind (whole 0 file) n file good.no_line;
    }
  where
    length_taken : (n : ℕ) (file : List ℕ) → length (take n file) ≤ length file
    length_taken zero file = omega arith
    length_taken (suc n) [] = omega arith
    length_taken (suc n) (byte ∷ file) = omega (arith, length_taken n file)

one_unmarked : (end : List ℕ) → length end ≤ 1 → (get_or end 0 0 ≡ 10) ⊎ (get_or end 0 0 ≡ 0) → begins_marked (after_gate end) ≡ false
one_unmarked [] short is = refl
one_unmarked (a ∷ b ∷ end) short is = absurd (omega (arith, short))
one_unmarked (byte ∷ []) short (inl lf) = ap begins_marked (gate_first byte [] lf)
one_unmarked (byte ∷ []) short (inr none) = ap (λ (b : ℕ). begins_marked (after_gate (b ∷ []))) none

-- a gate that is written at the end
pub repairable_gate : (text left : List ℕ) → whole 0 text ≡ length text → Torn (length text) (10 ∷ []) text left → IsRepairable left
repairable_gate text left is torn =
    let end = drop (length text) left in
    let short : length end ≤ 1 = omega (arith, length-drop (length text) left, torn.no_longer) in
    let prefix : take (length text) left ≡ text = torn.before ∙ take_all (length text) text (omega arith) in
    let parted : left ≡ text ++ end = sym (take-append-drop (length text) left) ∙ ap (λ (l : List ℕ). l ++ end) prefix in
    let stands : recovered left ≡ text = ap recovered parted ∙ recovered_short text end is short in
    let from_old : get_or (drop (length text) text) 0 0 ≡ 0 = ap (λ (l : List ℕ). get_or l 0 0) (drop_all (length text) text (omega arith)) in
    record {
      few = few left text stands (omega (arith, torn.no_longer));
      no_line = ap begins_marked (behind left text end parted stands)
          ∙ one_unmarked end short (⊎_elim (λ new. inl new) (λ before. inr (before ∙ from_old)) (torn.each 0 (omega arith)));
    }
