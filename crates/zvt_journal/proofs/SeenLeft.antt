-- What a read returns is one of the files that a crash may leave.
use Rattle.std.proofs.Common.{◌≡◌, ℕ, ◌+◌, ◌≤◌, true, false, List, [], ◌∷◌, ◌++◌, length, get_or, take, drop, zero, suc, ◌<◌, ◌-◌, refl, ◌∙◌, ap, inl, inr, arith, rules, append_assoc, length-append, length-drop, length-take-le}
use Rattle.std.proofs.lemmas.List.{take_all, take_at, drop_at}
use Rattle.zvt_journal.specs.declared.call.Call.TheVariants.{Wrote, SetByte, CutTo, Synced, Aside}
use Rattle.zvt_journal.specs.Device.{Torn, Cut}
use Rattle.zvt_journal.specs.Calls.{seen_after, SeenMayBeLeft}

get_front : (bytes end : List ℕ) (i : ℕ) → i < length bytes → get_or (bytes ++ end) i 0 ≡ get_or bytes i 0
get_front [] end i lt = absurd (omega (arith, lt))
get_front (byte ∷ bytes) end zero lt = refl
get_front (byte ∷ bytes) end (suc i) lt = get_front bytes end i (omega (arith, lt))

pub written : (at : ℕ) (bytes old : List ℕ) → at ≤ length old → Torn at bytes old (take at old ++ bytes ++ drop (at + length bytes) old)
written at bytes old le =
    let begin = take at old in
    let end = drop (at + length bytes) old in
    let at_begin : length begin ≡ at = length-take-le at old le in
    let at_end : length (begin ++ bytes) ≡ at + length bytes = omega (arith, at_begin, length-append begin bytes) in
    let all : length (begin ++ bytes ++ end) ≡ at + length bytes + (length old - (at + length bytes)) =
    omega (arith, at_end, length-append (begin ++ bytes) end, length-drop (at + length bytes) old) in
    record {
      before = ap (λ (l : List ℕ). take at l) (append_assoc begin bytes end) ∙ take_at begin (bytes ++ end) at at_begin;
      after = drop_at (begin ++ bytes) end (at + length bytes) at_end;
      no_shorter = omega (arith, all, le);
      no_longer = omega (arith, all, le);
      each = λ i lt. inl (ap (λ (l : List ℕ). get_or l i 0) (ap (λ (l : List ℕ). drop at l) (append_assoc begin bytes end) ∙ drop_at begin (bytes ++ end) at at_begin) ∙ get_front bytes end i lt);
    }

unwritten : (at : ℕ) (bytes old : List ℕ) → Torn at bytes old old
unwritten at bytes old = record { before = refl; after = refl; no_shorter = omega arith; no_longer = omega arith; each = λ i lt. inr refl }

cut : (len : ℕ) (old : List ℕ) → len ≤ length old → Cut len old (take len old)
cut len old le = record { no_shorter = search rules; prefix = search rules }

uncut : (len : ℕ) (old : List ℕ) → Cut len old old
uncut len old = record { no_shorter = omega arith; prefix = take_all (length old) old (omega arith) }

pub seen_may_be_left : SeenMayBeLeft
seen_may_be_left start [] within = refl
seen_may_be_left start ((Wrote at, bytes, true) ∷ made) within = (seen_after start made, seen_may_be_left start made within.1, written at bytes (seen_after start made) within.0)
seen_may_be_left start ((Wrote at, bytes, false) ∷ made) within = (seen_after start made, seen_may_be_left start made within.1, unwritten at bytes (seen_after start made))
seen_may_be_left start ((SetByte at byte, bytes, true) ∷ made) within = (seen_after start made, seen_may_be_left start made within.1, inr refl)
seen_may_be_left start ((SetByte at byte, bytes, false) ∷ made) within = (seen_after start made, seen_may_be_left start made within.1, inl refl)
seen_may_be_left start ((CutTo len, bytes, true) ∷ made) within = (seen_after start made, seen_may_be_left start made within.1, cut len (seen_after start made) within.0)
seen_may_be_left start ((CutTo len, bytes, false) ∷ made) within = (seen_after start made, seen_may_be_left start made within.1, uncut len (seen_after start made))
seen_may_be_left start ((Synced, bytes, true) ∷ made) within = (refl, seen_may_be_left start made within.1)
seen_may_be_left start ((Synced, bytes, false) ∷ made) within = (seen_after start made, seen_may_be_left start made within.1, refl)
seen_may_be_left start ((Aside step, bytes, true) ∷ made) within = (seen_after start made, seen_may_be_left start made within.1, refl)
seen_may_be_left start ((Aside step, bytes, false) ∷ made) within = (seen_after start made, seen_may_be_left start made within.1, refl)
