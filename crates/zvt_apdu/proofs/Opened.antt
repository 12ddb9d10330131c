-- Beginnings whose length stands: what a message that goes with them has, and which of them are alive.
use Rattle.std.proofs.Common.{◌≡◌, ◌≢◌, ℕ, ◌+◌, ◌-◌, ◌<◌, ◌≤◌, ◌==◌, ◌&&◌, not, nat_le, cond, Bool, true, false, Option, Some, None, List, [], ◌∷◌, ◌++◌, length, refl, sym, ◌∙◌, ap, subst, append_assoc, arith, length-append, ◌⊎◌, suc, zero, inl, inr}
use Rattle.std.proofs.lemmas.List.{append-nil}
use Rattle.std.proofs.lemmas.List.Elements.{All-append, All-nil, All-cons}
use Rattle.std.proofs.lemmas.Bool.{cases_Bool, and_parts, and_from, not-true, eq-eqb, ne_eqb, leb-true, le-leb, false≢true}
use Rattle.zvt_bcd.specs.Digits.{AreDigits, IsDigitPair}
use Rattle.zvt_grammar.specs.Beginnings.{Alive}
use Rattle.zvt_grammar.specs.Reading.{Reading, AreBytes}
use Rattle.zvt_grammar.proofs.CutLemmas.{prefixes_alive}
use Rattle.zvt_tlv.proofs.Alive.{zeros, zeros_size, zeros_bytes, bytes_joined}
use Rattle.zvt_field.specs.Grammar.{Field, FieldList}
use Rattle.zvt_field.specs.Judging as field
use Rattle.zvt_field.proofs.FieldLists.{not_single, filler, filling, filling_size, filled}
use Rattle.zvt_apdu.specs.Message.{Message}
use Rattle.zvt_apdu.specs.Grammar.{Form, BytesFrom, FieldsFrom, Registration, table, look_up, form_of, IsFrameLength, Spells}
use Rattle.zvt_apdu.specs.Judging.{Layout, bytes_after, layout, layout_of, head_size, can_fill}
use Rattle.zvt_apdu.proofs.Frames.{Tail, Parts, frame_of}
use Rattle.zvt_apdu.proofs.Named.{Message', message_of}
use Rattle.zvt_apdu.proofs.Within.{frame_length_prefix}

-- control bytes, a length and what comes after it
abbrev pub begun : (high low : ℕ) (size c : List ℕ) → List ℕ
begun high low size c = high ∷ low ∷ (size ++ c)

-- a spelling that goes with a beginning whose length stands
pub record Goes (r : Reading) (high low n : ℕ) (size inside prefix rest : List ℕ) : Type 0 where
  pub content : List ℕ
  pub whole : prefix ≡ begun high low size content
  pub inside_is : content ++ rest ≡ inside
  pub sized : length content ≡ n
  pub parts : Parts r (layout_of high low n) content

pub goes : (r : Reading) (m : Message) (prefix rest : List ℕ) (high low n : ℕ) (size inside : List ℕ) → Spells r m prefix → IsFrameLength r n size → prefix ++ rest ≡ begun high low size inside → Goes r high low n size inside prefix rest
goes r m prefix rest high low n size inside p q e =
    let f = frame_of r m prefix p in
    let joined : begun f.high f.low f.size (f.content ++ rest) ≡ begun high low size inside =
    ap (λ (s : List ℕ). f.high ∷ f.low ∷ s) (sym (append_assoc f.size f.content rest)) ∙ ap (λ (s : List ℕ). s ++ rest) (sym f.whole) ∙ e in
    let highs : f.high ≡ high = cc (joined) in
    let lows : f.low ≡ low = cc (joined) in
    let one = frame_length_prefix r (length f.content) n f.size size (f.content ++ rest) inside f.is_size q (cc (joined)) in
    let sizes : f.size ≡ size = one.0 in
    record {
      content = f.content;
      whole = f.whole ∙ cc (highs, lows, sizes);
      inside_is = one.2;
      sized = one.1;
      parts = subst (λ (m : ℕ). Parts r (layout_of high low m) f.content) one.1
          (subst (λ (l : ℕ). Parts r (layout_of high l (length f.content)) f.content) lows
          (subst (λ (h : ℕ). Parts r (layout_of h f.low (length f.content)) f.content) highs f.parts));
    }

-- what goes with bytes that are alive
pub goes_alive : (r : Reading) (high low n : ℕ) (size inside : List ℕ) → IsFrameLength r n size → (a : Alive (Spells r) (begun high low size inside)) → Goes r high low n size (inside ++ a.rest) (begun high low size inside ++ a.rest) []
goes_alive r high low n size inside q a =
    goes r a.value (begun high low size inside ++ a.rest) [] high low n size (inside ++ a.rest) a.spelled q
    (append-nil (begun high low size inside ++ a.rest) ∙ ap (λ (s : List ℕ). high ∷ low ∷ s) (append_assoc size inside a.rest))

-- data that fills its length is a message's
pub made : (r : Reading) (high low : ℕ) (size content : List ℕ) → (high < 256) × (low < 256) → IsFrameLength r (length content) size → Parts r (layout_of high low (length content)) content → Message' r (begun high low size content)
made r high low size content small q p =
    message_of r (begun high low size content) (record { high = high; low = low; size = size; content = content; whole = refl; are_bytes = small; is_size = q; parts = p })

-- data of that size can have the layout
pub fills_out : (l : Layout) (n : ℕ) → can_fill l n ≡ true → (head_size l ≤ n) × (l.fields ≡ true → n ≢ head_size l + 1)
fills_out l n e =
    let both = and_parts (nat_le (head_size l) n) (not (l.fields && (n == head_size l + 1))) e in
    (leb-true (head_size l) n both.0, λ f one. false≢true (sym (not-true (l.fields && (n == head_size l + 1)) both.1) ∙ and_from l.fields (n == head_size l + 1) f (eq-eqb n (head_size l + 1) one)))

pub fills_in : (l : Layout) (n : ℕ) → head_size l ≤ n → (l.fields ≡ true → n ≢ head_size l + 1) → can_fill l n ≡ true
fills_in l n le ne = and_from (nat_le (head_size l) n) (not (l.fields && (n == head_size l + 1))) (le-leb (head_size l) n le) (by_fields l.fields ne)
  where
    by_fields : (b : Bool) → (b ≡ true → n ≢ head_size l + 1) → not (b && (n == head_size l + 1)) ≡ true
    by_fields true ne = ap not (ne_eqb n (head_size l + 1) (ne refl))
    by_fields false ne = refl

tail_apart : (r : Reading) (b : Bool) (s : List ℕ) → Tail r b s → b ≡ true → length s ≢ 1
tail_apart r true s t e = not_single r t.0 s t.1
tail_apart r false s t e = absurd (false≢true e)

pub parts_size : (r : Reading) (l : Layout) (b : List ℕ) (p : Parts r l b) → length b ≡ l.free + (l.digits + length p.tail)
parts_size r l b p = omega (arith, ap length p.whole, length-append p.free (p.digits ++ p.tail), length-append p.digits p.tail, p.free_size, p.digits_size)

pub parts_fill : (r : Reading) (l : Layout) (b : List ℕ) → Parts r l b → can_fill l (length b) ≡ true
parts_fill r l b p = fills_in l (length b) (omega (arith, parts_size r l b p)) (λ f one. tail_apart r l.fields p.tail p.tailed f (omega (arith, parts_size r l b p, one)))

-- what comes before fields or free bytes is short
abbrev IsShort : Option Form → Type 0
IsShort None = Unit {0}
IsShort (Some (BytesFrom count)) = count ≤ 4
IsShort (Some (FieldsFrom count)) = count ≤ 4
IsShort (Some Registration) = Unit {0}

abbrev AllShort : List (ℕ × ℕ × Form) → Type 0
AllShort [] = Unit {0}
AllShort (row ∷ rows) = IsShort (Some row.2) × AllShort rows

either : (b : Bool) (x y : Option Form) → IsShort x → IsShort y → IsShort (cond b x y)
either true x y p q = p
either false x y p q = q

short_rows : (high low : ℕ) (rows : List (ℕ × ℕ × Form)) → AllShort rows → IsShort (look_up high low rows)
short_rows high low [] h = tt
short_rows high low (row ∷ rows) h = either ((high == row.0) && (low == row.1)) (Some row.2) (look_up high low rows) h.0 (short_rows high low rows h.1)

is_short : (high low : ℕ) → IsShort (form_of high low)
unfolding form_of
is_short high low =
    either (high == 0x84) (Some (BytesFrom 0)) (look_up high low table) (omega arith)
    (short_rows high low table (omega arith, (tt, (omega arith, (omega arith, (omega arith, (omega arith, (omega arith, (omega arith, (omega arith, (omega arith, (omega arith, (omega arith, tt)))))))))))))

pub head_short : (high low n : ℕ) → head_size (layout_of high low n) ≤ 6
head_short high low n = by_form (form_of high low) (is_short high low)
  where
    by_test : (b : Bool) → head_size (cond b (bytes_after 4) (record { free = 4; digits = 2; fields = true })) ≤ 6
    by_test true = omega arith
    by_test false = omega arith

    by_form : (o : Option Form) → IsShort o → head_size (layout o n) ≤ 6
    by_form None s = omega arith
    by_form (Some (BytesFrom count)) s = omega (arith, s)
    by_form (Some (FieldsFrom count)) s = omega (arith, s)
    by_form (Some Registration) s = by_test (nat_le n 4)

pub fills_long : (high low n : ℕ) → 255 ≤ n → can_fill (layout_of high low n) n ≡ true
fills_long high low n le = fills_in (layout_of high low n) n (omega (arith, head_short high low n)) (λ f one. omega (arith, head_short high low n, le, one))

-- without fields there are no digits
pub no_digits : (high low n : ℕ) → (layout_of high low n).fields ≡ false → (layout_of high low n).digits ≡ 0
no_digits high low n = by_form (form_of high low)
  where
    by_test : (b : Bool) → (cond b (bytes_after 4) (record { free = 4; digits = 2; fields = true })).fields ≡ false → (cond b (bytes_after 4) (record { free = 4; digits = 2; fields = true })).digits ≡ 0
    by_test true e = refl
    by_test false e = absurd (false≢true (sym e))

    by_form : (o : Option Form) → (layout o n).fields ≡ false → (layout o n).digits ≡ 0
    by_form None e = refl
    by_form (Some (BytesFrom count)) e = refl
    by_form (Some (FieldsFrom count)) e = absurd (false≢true (sym e))
    by_form (Some Registration) e = by_test (nat_le n 4) e

zeros_digits : (n : ℕ) → AreDigits (zeros n)
zeros_digits zero = All-nil IsDigitPair
zeros_digits (suc n) = All-cons IsDigitPair 0 (zeros n) (omega arith, omega arith) (zeros_digits n)

tail_of : (r : Reading) (b : Bool) (s : List ℕ) (fs : List Field) → b ≡ true → FieldList r fs s → Tail r b s
tail_of r true s fs e p = (fs, p)
tail_of r false s fs e p = absurd (false≢true e)

bytes_of : (r : Reading) (b : Bool) (s : List ℕ) → b ≡ false → AreBytes s → Tail r b s
bytes_of r true s e p = absurd (false≢true (sym e))
bytes_of r false s e p = p

-- data of a beginning whose control bytes and length stand
module _ (r : Reading) (high low n : ℕ) (size : List ℕ) (small : (high < 256) × (low < 256)) (is_size : IsFrameLength r n size) where
  abbrev l : Layout
  l = layout_of high low n

  -- parts of which the last goes on
  alive_parts : (free digits tail rest : List ℕ) → length free ≡ l.free → AreBytes free → length digits ≡ l.digits → AreDigits digits → Tail r l.fields (tail ++ rest) → head_size l + length (tail ++ rest) ≡ n →
      Alive (Spells r) (begun high low size (free ++ (digits ++ tail)))
  alive_parts free digits tail rest fs fb ds dd t total =
      let content = free ++ (digits ++ (tail ++ rest)) in
      let sized : length content ≡ n = omega (arith, length-append free (digits ++ (tail ++ rest)), length-append digits (tail ++ rest), fs, ds, total) in
      let parts : Parts r l content = record { free = free; digits = digits; tail = tail ++ rest; whole = refl; free_size = fs; are_bytes = fb; digits_size = ds; are_digits = dd; tailed = t } in
      let m = made r high low size content small (subst (λ (k : ℕ). IsFrameLength r k size) (sym sized) is_size) (subst (λ (k : ℕ). Parts r (layout_of high low k) content) (sym sized) parts) in
      let same : begun high low size content ≡ begun high low size (free ++ (digits ++ tail)) ++ rest =
      let back : (size ++ (free ++ (digits ++ tail))) ++ rest ≡ size ++ (free ++ (digits ++ (tail ++ rest))) = simp append_assoc in ap (λ (s : List ℕ). high ∷ low ∷ s) (sym back) in
      record { value = m.message; rest = rest; spelled = subst (Spells r m.message) same m.spelled }

  pub alive_listed : (free digits tail : List ℕ) (room : ℕ) → length free ≡ l.free → AreBytes free → length digits ≡ l.digits → AreDigits digits → l.fields ≡ true → head_size l + room ≡ n → field.AliveIn r room tail →
      Alive (Spells r) (begun high low size (free ++ (digits ++ tail)))
  alive_listed free digits tail room fs fb ds dd f total a =
      alive_parts free digits tail a.rest fs fb ds dd (tail_of r l.fields (tail ++ a.rest) a.value f a.spelled.0) (omega (arith, total, a.spelled.1))

  pub alive_bytes : (free digits tail : List ℕ) → length free ≡ l.free → AreBytes free → length digits ≡ l.digits → AreDigits digits → l.fields ≡ false → head_size l + length tail ≤ n → AreBytes tail →
      Alive (Spells r) (begun high low size (free ++ (digits ++ tail)))
  alive_bytes free digits tail fs fb ds dd f le are =
      let more = zeros (n - (head_size l + length tail)) in
      alive_parts free digits tail more fs fb ds dd (bytes_of r l.fields (tail ++ more) f (bytes_joined tail more are (zeros_bytes (n - (head_size l + length tail)))))
      (omega (arith, length-append tail more, zeros_size (n - (head_size l + length tail)), le))

  -- all before the fields or the free bytes
  alive_head : (free digits : List ℕ) → length free ≡ l.free → AreBytes free → length digits ≡ l.digits → AreDigits digits → can_fill l n ≡ true → Alive (Spells r) (begun high low size (free ++ (digits ++ [])))
  alive_head free digits fs fb ds dd fills = by_fields (cases_Bool l.fields)
    where
      by_fields : (l.fields ≡ true) ⊎ (l.fields ≡ false) → Alive (Spells r) (begun high low size (free ++ (digits ++ [])))
      by_fields (inl f) =
          let o = fills_out l n fills in
          let room = n - head_size l in
          alive_listed free digits [] room fs fb ds dd f (omega (arith, o.0))
          (record { value = filler room; rest = filling room; spelled = (filled r room, filling_size room (λ one. o.1 f (omega (arith, one)))) })
      by_fields (inr f) = alive_bytes free digits [] fs fb ds dd f (omega (arith, (fills_out l n fills).0)) tt

  -- a prefix of it
  prefix : (c rest : List ℕ) → Alive (Spells r) (begun high low size (c ++ rest)) → Alive (Spells r) (begun high low size c)
  prefix c rest a = prefixes_alive (Spells r) (begun high low size c) rest (subst (Alive (Spells r)) (ap (λ (s : List ℕ). high ∷ low ∷ s) (sym (append_assoc size c rest))) a)

  pub alive_digits : (free digits : List ℕ) → length free ≡ l.free → AreBytes free → length digits ≤ l.digits → AreDigits digits → can_fill l n ≡ true → Alive (Spells r) (begun high low size (free ++ digits))
  alive_digits free digits fs fb le dd fills =
      let more = zeros (l.digits - length digits) in
      let back : (free ++ digits) ++ more ≡ free ++ ((digits ++ more) ++ []) = simp (append_assoc, append-nil) in
      prefix (free ++ digits) more (subst (λ (s : List ℕ). Alive (Spells r) (begun high low size s)) (sym back)
      (alive_head free (digits ++ more) fs fb (omega (arith, length-append digits more, zeros_size (l.digits - length digits), le)) (All-append IsDigitPair digits more dd (zeros_digits (l.digits - length digits))) fills))

  pub alive_free : (free : List ℕ) → length free ≤ l.free → AreBytes free → can_fill l n ≡ true → Alive (Spells r) (begun high low size free)
  alive_free free le fb fills =
      let more = zeros (l.free - length free) in
      let back : free ++ more ≡ (free ++ more) ++ [] = simp append-nil in
      prefix free more (subst (λ (s : List ℕ). Alive (Spells r) (begun high low size s)) (sym back)
      (alive_digits (free ++ more) [] (omega (arith, length-append free more, zeros_size (l.free - length free), le)) (bytes_joined free more fb (zeros_bytes (l.free - length free))) (omega arith) (All-nil IsDigitPair) fills))

  pub alive_open : can_fill l n ≡ true → Alive (Spells r) (begun high low size [])
  alive_open fills = alive_free [] (omega arith) tt fills
