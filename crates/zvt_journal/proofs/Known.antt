-- What a crash of an append leaves is a journal's file still.
use Rattle.std.proofs.Common.{◌≡◌, ◌⊎◌, inl, inr, ⊎_elim, ℕ, zero, suc, ◌+◌, ◌≤◌, ◌<◌, Bool, true, false, ◌&&◌, ◌||◌, List, [], ◌∷◌, ◌++◌, length, get_or, take, drop, refl, sym, subst, ◌∙◌, ap, arith, length-drop, Vec}
use Rattle.std.specs.Prelude.{◌==◌, if◌then◌else◌}
use Rattle.std.proofs.lemmas.Bool.{false≢true}
use Rattle.std.proofs.lemmas.Bool.Decides.{nat_tests}
use Rattle.std.proofs.lemmas.List.{take-append-le, drop_all}
use Rattle.std.specs.declared.alloc.Global.{Global}
use Rattle.zvt_journal.specs.Device.{Cut, Torn, Swapped}
use Rattle.zvt_journal.specs.Files.{BeginWithOpening, GoesOn, GoOn, IsBegun, is_begun, IsKnown, IsNamed, IsOpening, is_opening_part, is_part, is_ruled_part, may_stand, opening_behind}
use Rattle.zvt_journal.specs.Opening.{NoneIsRefused}
use Rattle.zvt_journal.specs.declared.error.JournalFileError.TheVariants.{InUse, Displaced, Folder, NotAFile, NotAJournal, RecordsBehind, TooMuchAfter, CutNotKept, FolderNotSynced, Io, Memory}
use Rattle.zvt_journal.specs.Text.{at_rest, joined, recovered, whole, IsRecord}
use Rattle.zvt_journal.proofs.Append.{following, staged}
use Rattle.zvt_journal.proofs.Lines.{recovered_closed, recovered_whole}
use Rattle.zvt_journal.proofs.Repair.{cut_keeps, torn_end}
use Rattle.zvt_journal.proofs.Append as append

long : (n : ℕ) (l : List ℕ) → length (take n l) ≡ n → n ≤ length l
long zero l is = omega arith
long (suc n) [] is = absurd (omega (arith, is))
long (suc n) (x ∷ l) is = omega (arith, long n l (omega (arith, is)))

-- what comes behind takes no name away
pub named_then : (text rest : List ℕ) → IsNamed text → IsNamed (text ++ rest)
named_then text rest named =
    let size : length (take 15 text) ≡ 15 = ap length named in
    take-append-le 15 text rest (long 15 text size) ∙ named

both : (x y : Bool) → (x && y) ≡ true → (x ≡ true) × (y ≡ true)
both true y is = (refl, is)
both false y is = absurd (false≢true is)

equal : (n m : ℕ) → (n == m) ≡ true → n ≡ m
equal n m is = grind (arith, nat_tests)

either : (x x' y y' : Bool) → (x ≡ true → x' ≡ true) → (y ≡ true → y' ≡ true) → (x || y) ≡ true → (x' || y') ≡ true
either true x' y y' f g is = ap (λ (b : Bool). b || y') (f refl)
either false true y y' f g is = refl
either false false y y' f g is = g is

-- a byte of a torn write is the new one, or 0 where the file grew
abbrev Left : (part all : List ℕ) → Type 0
Left part all = (i : ℕ) → i < length all → (get_or part i 0 ≡ get_or all i 0) ⊎ (get_or part i 0 ≡ 0)

stands : (byte new wanted : ℕ) → (byte ≡ new) ⊎ (byte ≡ 0) → may_stand new wanted ≡ true → may_stand byte wanted ≡ true
stands byte new wanted (inl is) may = ap (λ (b : ℕ). may_stand b wanted) is ∙ may
stands byte new wanted (inr none) may = ap (λ (b : ℕ). may_stand b wanted) none

torn_part : (part all wanted : List ℕ) → length part ≤ length all → Left part all → is_part all wanted ≡ true → is_part part wanted ≡ true
torn_part [] all wanted le left is = refl
torn_part (byte ∷ part) [] wanted le left is = absurd (omega (arith, le))
torn_part (byte ∷ part) (new ∷ all) [] le left is = absurd (false≢true is)
torn_part (byte ∷ part) (new ∷ all) (first ∷ wanted) le left is =
    let parts = both (may_stand new first) (is_part all wanted) is in
    let head = stands byte new first (left 0 (omega arith)) parts.0 in
    let tail = torn_part part all wanted (omega (arith, le)) (λ i lt. left (suc i) (omega (arith, lt))) parts.1 in
    ap (λ (b : Bool). b && is_part part wanted) head ∙ tail

-- a change that keeps parts of each wanted text keeps parts of an opening
each_ruled : (by_receipt : Bool) (part all : List ℕ) → ((wanted : List ℕ) → is_part all wanted ≡ true → is_part part wanted ≡ true)
    → is_ruled_part by_receipt all ≡ true → is_ruled_part by_receipt part ≡ true
each_ruled by_receipt part all each is =
    let Part = λ (digits : ℕ). is_part part (opening_behind by_receipt digits) in
    let All = λ (digits : ℕ). is_part all (opening_behind by_receipt digits) in
    let so = λ (digits : ℕ). each (opening_behind by_receipt digits) in
    either (All 1 || All 2 || All 3) (Part 1 || Part 2 || Part 3) (All 4) (Part 4)
    (either (All 1 || All 2) (Part 1 || Part 2) (All 3) (Part 3)
    (either (All 1) (Part 1) (All 2) (Part 2) (so 1) (so 2))
    (so 3))
    (so 4) is

each_opening : (part all : List ℕ) → ((wanted : List ℕ) → is_part all wanted ≡ true → is_part part wanted ≡ true)
    → is_opening_part all ≡ true → is_opening_part part ≡ true
each_opening part all each is =
    either (is_ruled_part false all) (is_ruled_part false part) (is_ruled_part true all) (is_ruled_part true part)
    (each_ruled false part all each) (each_ruled true part all each) is

torn_opening : (part all : List ℕ) → length part ≤ length all → Left part all → is_opening_part all ≡ true → is_opening_part part ≡ true
torn_opening part all le left = each_opening part all (λ wanted. torn_part part all wanted le left)

-- ---- an append

module _ (text entry : List ℕ) (on : GoesOn text entry) (is : whole 0 text ≡ length text) where
  pub known_at_rest : (file : List ℕ) → file ≡ at_rest text → IsKnown file
  known_at_rest file same = ⊎_elim
      (λ named. inl (subst IsNamed (sym (ap recovered same ∙ recovered_closed text [] is)) named))
      (λ begins. inr (begun (same ∙ ap at_rest begins.0)))
      on
    where
      begun : file ≡ 10 ∷ [] → IsBegun file
      begun is = ap is_begun is

  module _ (gate : ℕ) (at_gate : gate ≡ length text) where
    pub known_torn : (bytes file : List ℕ) → bytes ≡ following entry → Torn (gate + 1) bytes (at_rest text) file → IsKnown file
    known_torn bytes file bytes_are torn =
        let rest = append.length-at_rest text is gate at_gate in
        let tail = drop (gate + 1) file in
        let parted : file ≡ text ++ 10 ∷ tail = append.torn_parted text is gate at_gate bytes file torn in
        let short : length tail ≤ length bytes = omega (arith, rest, torn.no_longer, length-drop (gate + 1) file) in
        let none : drop (gate + 1) (at_rest text) ≡ [] = drop_all (gate + 1) (at_rest text) (omega (arith, rest)) in
        let left : Left tail bytes = λ i lt. ⊎_elim (λ new. inl new) (λ old. inr (old ∙ ap (λ (l : List ℕ). get_or l i 0) none)) (torn.each i lt) in
        ⊎_elim
        (λ named. inl (subst IsNamed (sym (append.torn_after text is gate at_gate bytes file torn)) named))
        (λ begins. inr (ap is_begun (parted ∙ ap (λ (l : List ℕ). l ++ 10 ∷ tail) begins.0) ∙ torn_opening tail bytes short left (ap is_opening_part bytes_are ∙ begins.1.part)))
        on

    pub known_swapped : IsRecord entry → (file : List ℕ) → Swapped gate (get_or entry 0 0) (staged text entry) file → IsKnown file
    known_swapped good file swapped = ⊎_elim
        (λ same. ⊎_elim
        (λ named. inl (subst IsNamed (sym (ap recovered same ∙ append.staged_whole text is gate at_gate entry)) named))
        (λ begins. inr (ap is_begun (same ∙ ap (λ (l : List ℕ). l ++ 10 ∷ following entry) begins.0) ∙ begins.1.part))
        on)
        (λ over. let is_open = append.opened text is gate at_gate entry good file over in
        let more : recovered file ≡ text ++ entry = append.stands_for_more text is gate at_gate entry good file is_open in
        ⊎_elim
        (λ named. inl (subst IsNamed (sym more) (named_then text entry named)))
        (λ begins. inl (subst IsNamed (sym (more ∙ ap (λ (l : List ℕ). l ++ entry) begins.0)) begins.1.named))
        on)
        swapped

-- ---- records one after another

pub known_before : (text : List ℕ) (entries : List (Vec ℕ Global)) → GoOn text entries → whole 0 text ≡ length text → (file : List ℕ) → file ≡ at_rest text → IsKnown file
known_before text entries on is file same = ⊎_elim
    (λ named. inl (subst IsNamed (sym (ap recovered same ∙ recovered_closed text [] is)) named))
    (λ begins. inr (begun (same ∙ ap at_rest begins.0)))
    on
  where
    begun : file ≡ 10 ∷ [] → IsBegun file
    begun is = ap is_begun is

-- what is there when the next record comes
pub next_goes_on : (text now : List ℕ) (entries : List (Vec ℕ Global)) (i : ℕ) (item : List ℕ) (d : Vec ℕ Global) → now ≡ text ++ joined (take i entries) → i < length entries → item ≡ (get_or entries i d).items → GoOn text entries → GoesOn now item
next_goes_on text now entries i item d now_is lt item_is on = ⊎_elim
    (λ named. inl (subst IsNamed (sym now_is) (named_then text (joined (take i entries)) named)))
    (λ begins. by_place entries i lt (now_is ∙ ap (λ (l : List ℕ). l ++ joined (take i entries)) begins.0) item_is begins.1)
    on
  where
    by_place : (all : List (Vec ℕ Global)) (at : ℕ) → at < length all → now ≡ joined (take at all) → item ≡ (get_or all at d).items → BeginWithOpening all → GoesOn now item
    by_place [] at lt is entry opens = absurd (omega (arith, lt))
    by_place (first ∷ more) zero lt is entry opens = inr (is, subst IsOpening (sym entry) opens)
    by_place (first ∷ more) (suc at) lt is entry opens = inl (subst IsNamed (sym is) (named_then first.items (joined (take at more)) opens.named))

-- ---- opening

first_part : (part wanted : List ℕ) (n : ℕ) → is_part part wanted ≡ true → is_part (take n part) wanted ≡ true
first_part part wanted zero is = refl
first_part [] wanted (suc n) is = refl
first_part (byte ∷ part) [] (suc n) is = absurd (false≢true is)
first_part (byte ∷ part) (first ∷ wanted) (suc n) is =
    let parts = both (may_stand byte first) (is_part part wanted) is in
    ap (λ (b : Bool). b && is_part (take n part) wanted) parts.0 ∙ first_part part wanted n parts.1

first_opening : (all : List ℕ) (n : ℕ) → is_opening_part all ≡ true → is_opening_part (take n all) ≡ true
first_opening all n = each_opening (take n all) all (λ wanted. first_part all wanted n)

-- a file that begins with another byte than a gate is one byte 0
alone : (byte next : ℕ) (rest : List ℕ) → (byte == 0 && length (next ∷ rest) == 0) ≡ true → ⊥
alone byte next rest is = let none : length (next ∷ rest) ≡ 0 = equal (length (next ∷ rest)) 0 (both (byte == 0) (length (next ∷ rest) == 0) is).1 in absurd (omega (arith, none))

abbrev begun_by : (gate : Bool) → (byte : ℕ) → (rest : List ℕ) → Bool
begun_by gate byte rest = if gate then is_opening_part rest else byte == 0 && length rest == 0

part_first : (gate : Bool) (byte : ℕ) (rest : List ℕ) (n : ℕ) → begun_by gate byte rest ≡ true → begun_by gate byte (take n rest) ≡ true
part_first true byte rest n is = first_opening rest n is
part_first false byte [] zero is = is
part_first false byte [] (suc n) is = is
part_first false byte (next ∷ rest) n is = absurd (alone byte next rest is)

begun_first : (file : List ℕ) (n : ℕ) → is_begun file ≡ true → is_begun (take n file) ≡ true
begun_first file zero is = refl
begun_first [] (suc n) is = refl
begun_first (byte ∷ rest) (suc n) is = part_first (byte == 10) byte rest n is

whole_by : (gate : Bool) (byte : ℕ) (rest : List ℕ) → begun_by gate byte rest ≡ true → (if gate then 0 else whole 1 rest) ≡ 0
whole_by true byte rest is = refl
whole_by false byte [] is = refl
whole_by false byte (next ∷ rest) is = absurd (alone byte next rest is)

begun_text : (file : List ℕ) → is_begun file ≡ true → recovered file ≡ []
begun_text [] is = refl
begun_text (byte ∷ rest) is = ap (λ (n : ℕ). take n (byte ∷ rest)) (whole_by (byte == 10) byte rest is)

pub known_cut : (file left : List ℕ) → IsKnown file → Cut (whole 0 file) file left → IsKnown left
known_cut file left known cut = ⊎_elim
    (λ named. inl (subst IsNamed (sym (cut_keeps file left cut)) named))
    (λ begun. inr (subst (λ (l : List ℕ). is_begun l ≡ true) cut.prefix (begun_first file (length left) begun)))
    known

one_byte : (left : List ℕ) → Torn 0 (10 ∷ []) [] left → is_begun left ≡ true
one_byte [] torn = refl
one_byte (byte ∷ []) torn = ⊎_elim (λ (new : byte ≡ 10). ap (λ (b : ℕ). is_begun (b ∷ [])) new) (λ (old : byte ≡ 0). ap (λ (b : ℕ). is_begun (b ∷ [])) old) (torn.each 0 (omega arith))
one_byte (byte ∷ next ∷ left) torn = absurd (omega (arith, torn.no_longer))

pub known_gate : (file left : List ℕ) → IsKnown file → Torn (length (recovered file)) (10 ∷ []) (recovered file) left → IsKnown left
known_gate file left known torn = ⊎_elim
    (λ named. inl (subst IsNamed (sym (torn_end (recovered file) (recovered_whole file) left torn)) named))
    (λ begun. inr (one_byte left (subst (λ (l : List ℕ). Torn (length l) (10 ∷ []) l left) (begun_text file begun) torn)))
    known

-- ---- what a crash leaves is opened

pub none_is_refused : NoneIsRefused
none_is_refused file NotAJournal known repairable refused = refused known
none_is_refused file (RecordsBehind line records) known repairable refused = refused.2 repairable.no_line
none_is_refused file (TooMuchAfter count) known repairable refused = refused.1 repairable.few
none_is_refused file InUse known repairable refused = refused
none_is_refused file Displaced known repairable refused = refused
none_is_refused file Folder known repairable refused = refused
none_is_refused file NotAFile known repairable refused = refused
none_is_refused file (CutNotKept error) known repairable refused = refused
none_is_refused file (FolderNotSynced error) known repairable refused = refused
none_is_refused file (Io error) known repairable refused = refused
none_is_refused file Memory known repairable refused = refused
