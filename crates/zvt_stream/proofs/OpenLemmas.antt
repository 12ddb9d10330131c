-- The open reading cuts each line in one way, and leaves no dead rest.
use Rattle.std.proofs.Common.{◌≡◌, ℕ, ◌+◌, ◌*◌, ◌-◌, ◌<◌, ◌≤◌, Some, None, Option, List, [], ◌∷◌, ◌++◌, length, map, take, drop, slice_get, refl, sym, ◌∙◌, ap, subst, append_assoc, arith, length-append, ◌⊎◌, inl, inr, suc, zero}
use Rattle.std.proofs.lemmas.Bool.{cases_lt}
use Rattle.std.proofs.lemmas.List.{append-nil, length-take-le, take-append-drop}
use Rattle.zvt_grammar.specs.declared.why.Why.{Why}
use Rattle.zvt_grammar.specs.Beginnings.{Alive, NoneWhole}
use Rattle.zvt_grammar.specs.Cuts as cuts
use Rattle.zvt_grammar.specs.Laws.{EndThemselves}
use Rattle.zvt_grammar.specs.Reading.{Reading, AreBytes, padded}
use Rattle.zvt_grammar.proofs.CutLemmas.{cuts_are_one, grows, prefixes_of_cut}
use Rattle.zvt_tlv.specs.Judging.{Opener}
use Rattle.zvt_tlv.proofs.Spelling.{same_prefix}
use Rattle.zvt_field.proofs.Exists as fields
use Rattle.zvt_apdu.specs.Message.{Message}
use Rattle.zvt_apdu.specs.Grammar.{IsFrameLength, Spells}
use Rattle.zvt_apdu.specs.Judging.{Role, Position, fault}
use Rattle.zvt_apdu.specs.UniqueDecoding.{frame_length_prefix}
use Rattle.zvt_apdu.proofs.Exists as apdu
use Rattle.zvt_apdu.proofs.Fit.{fit}
use Rattle.zvt_apdu.proofs.Frames.{frame_of}
use Rattle.zvt_apdu.proofs.OneMessage.{messages_end_themselves}
use Rattle.zvt_apdu.proofs.Positions.{refusals_are_one}
use Rattle.zvt_stream.specs.Apdus.{AliveIn, UnfinishedIn, SpelledIn, IsRefusedIn}
use Rattle.zvt_stream.specs.OpenReading.{EachLineIsCut, IsFramed, OpenCutIn, OpenCutsAreOne, OpenIsStrict, OpenItem, OpenSpells, read, unread}
use Rattle.zvt_stream.proofs.Beginnings.{nothing_in, prefix_alive_in}
use Rattle.zvt_stream.proofs.FeedLemmas.{refused_more}
use Rattle.zvt_stream.proofs.JudgeLemmas.{refuses_at}

-- ---- bytes

pub bytes_apart : (a b : List ℕ) → AreBytes (a ++ b) → AreBytes a × AreBytes b
bytes_apart [] b h = (tt, h)
bytes_apart (x ∷ a) b h = let rest = bytes_apart a b h.1 in ((h.0, rest.0), rest.1)

pub bytes_joined : (a b : List ℕ) → AreBytes a → AreBytes b → AreBytes (a ++ b)
bytes_joined [] b h k = k
bytes_joined (x ∷ a) b h k = (h.0, bytes_joined a b h.1 k)

abbrev pub zeros : ℕ → List ℕ
zeros zero = []
zeros (suc n) = 0 ∷ zeros n

pub zeros_many : (n : ℕ) → length (zeros n) ≡ n
zeros_many zero = refl
zeros_many (suc n) = ap suc (zeros_many n)

pub zero_bytes : (n : ℕ) → AreBytes (zeros n)
zero_bytes zero = tt
zero_bytes (suc n) = (omega arith, zero_bytes n)

-- nothing follows what is whole
no_more : (a b : List ℕ) → a ≡ a ++ b → length b ≡ 0
no_more a b e = omega (arith, ap length e, length-append a b)

-- ---- frames

padded_length : (r : Reading) (n : ℕ) (size : List ℕ) → IsFrameLength r n size → IsFrameLength padded n size
padded_length r n [] s = s
padded_length r n (a ∷ []) s = s
padded_length r n (a ∷ b ∷ []) s = s
padded_length r n (a ∷ low ∷ high ∷ []) s = (s.0, omega arith, s.2, s.3, s.4)
padded_length r n (a ∷ b ∷ c ∷ d ∷ more) s = s

pub message_frame : (r : Reading) (m : Message) (b : List ℕ) → Spells r m b → IsFramed b
message_frame r m b p =
    let f = frame_of r m b p in
    (f.high, f.low, record { size = f.size; content = f.content; whole = f.whole; are_bytes = f.are_bytes; is_size = padded_length r (length f.content) f.size f.is_size })

pub item_frame : (r : Reading) (item : OpenItem) (b : List ℕ) → OpenSpells r item b → IsFramed b
item_frame r (read m) b p = message_frame r m b p
item_frame r (unread high low size before byte why) b p = (high, low, p.0)

pub record SameFrame (high low k l : ℕ) (a b : List ℕ) : Type 0 where
  pub highs : high ≡ k
  pub lows : low ≡ l
  pub same : a ≡ b

pub frames_end : (a b x y : List ℕ) (f : IsFramed a) (g : IsFramed b) → a ++ x ≡ b ++ y → SameFrame f.0 f.1 g.0 g.1 a b
frames_end a b x y (high, low, f) (k, l, g) e =
    let whole : high ∷ low ∷ (f.size ++ (f.content ++ x)) ≡ k ∷ l ∷ (g.size ++ (g.content ++ y)) =
    sym (ap (λ (s : List ℕ). high ∷ low ∷ s) (append_assoc f.size f.content x)) ∙ sym (ap (λ (s : List ℕ). s ++ x) f.whole) ∙ e ∙ ap (λ (s : List ℕ). s ++ y) g.whole ∙ ap (λ (s : List ℕ). k ∷ l ∷ s) (append_assoc g.size g.content y) in
    let sizes = frame_length_prefix padded (length f.content) (length g.content) f.size g.size (f.content ++ x) (g.content ++ y) f.is_size g.is_size (cc (whole)) in
    let contents = same_prefix f.content g.content x y sizes.1 sizes.2 in
    let one : high ≡ k = cc (whole) in
    let two : low ≡ l = cc (whole) in
    record { highs = one; lows = two; same = f.whole ∙ cc (one, two, sizes.0, contents.0) ∙ sym g.whole }

-- ---- what a frame holds

pub data Decided (r : Reading) (bytes : List ℕ) : Type 0 where
  goes_on : UnfinishedIn r bytes → Decided r bytes
  begins : (m : Message) → (prefix later : List ℕ) → bytes ≡ prefix ++ later → Spells r m prefix → Decided r bytes
  refused : (place : ℕ) → (why : Why) → IsRefusedIn r bytes place why → Decided r bytes

-- one more byte of what is alive leaves a whole message, or a beginning of one
pub longer_unfinished : (r : Reading) (m : Message) (b rest : List ℕ) (x : ℕ) → Spells r m (b ++ x ∷ rest) → UnfinishedIn r b
longer_unfinished r m b rest x p = record {
  alive = record { value = m; rest = x ∷ rest; spelled = p };
  none_whole = λ n prefix later e q.
      let same = (messages_end_themselves r n m prefix (b ++ x ∷ rest) (later ++ x ∷ rest) [] q p
      (sym (append_assoc prefix later (x ∷ rest)) ∙ ap (λ (s : List ℕ). s ++ x ∷ rest) (sym e) ∙ sym (append-nil (b ++ x ∷ rest)))).1 in
      absurd (omega (arith, ap length same, ap length e, length-append prefix later, length-append b (x ∷ rest)));
}

decided : (r : Reading) (more before : List ℕ) → UnfinishedIn r before → AreBytes more → Decided r (before ++ more)
decided r [] before u are = subst (Decided r) (sym (append-nil before)) (goes_on u)
decided r (x ∷ more) before u are = stands (λ v. decided r more (before ++ x ∷ []) v are.1) (apdu.each_stands (λ q room b a lt. let s = fields.alive_stands q room b a lt in (s.openers, s.role, s.left, s.position)) r before u)
  where
    step : before ++ x ∷ more ≡ (before ++ x ∷ []) ++ more
    step = sym (append_assoc before (x ∷ []) more)

    by_rest : (UnfinishedIn r (before ++ x ∷ []) → Decided r ((before ++ x ∷ []) ++ more)) → (m : Message) (rest : List ℕ) → Spells r m ((before ++ x ∷ []) ++ rest) → Decided r (before ++ x ∷ more)
    by_rest others m [] p = begins m (before ++ x ∷ []) more step (subst (Spells r m) (append-nil (before ++ x ∷ [])) p)
    by_rest others m (y ∷ rest) p = subst (Decided r) (sym step) (others (longer_unfinished r m (before ++ x ∷ []) rest y p))

    by_fault : (UnfinishedIn r (before ++ x ∷ []) → Decided r ((before ++ x ∷ []) ++ more)) → (os : List Opener) (role : Role) → Position r os before role → (o : Option Why) → fault r role x ≡ o → Decided r (before ++ x ∷ more)
    by_fault others os role p None e = let a = (fit r os before role x u.alive p are.0).0 e in by_rest others a.value a.rest a.spelled
    by_fault others os role p (Some why) e =
        refused (length before) why (subst (λ (b : List ℕ). IsRefusedIn r b (length before) why) (sym step) (refused_more r (before ++ x ∷ []) more (length before) why (refuses_at r os role before x why are.0 u p e)))

    stands : (UnfinishedIn r (before ++ x ∷ []) → Decided r ((before ++ x ∷ []) ++ more)) → ((os : List Opener) × (role : Role) × Position r os before role) → Decided r (before ++ x ∷ more)
    stands others p = by_fault others p.0 p.1 p.2 (fault r p.1 x) refl

-- a frame is a message, or is refused
-- where a byte is, the list is split
split_at : (l : List ℕ) (n x : ℕ) → slice_get l n ≡ Some x → l ≡ take n l ++ x ∷ drop (suc n) l
split_at [] n x e = absurd (cc (e))
split_at (y ∷ l) zero x e = let same : y ≡ x = cc (e) in ap (λ (z : ℕ). z ∷ l) same
split_at (y ∷ l) (suc n) x e = ap (λ (t : List ℕ). y ∷ t) (split_at l n x e)

pub refused_split : (r : Reading) (b : List ℕ) (place : ℕ) (why : Why) → (p : IsRefusedIn r b place why) → (later : List ℕ) × (b ≡ take place b ++ p.2.byte ∷ later)
refused_split r b place why p = (drop (suc place) b, split_at b place p.2.byte p.2.is_byte)

pub refused_there : (r : Reading) (b : List ℕ) (place : ℕ) (why : Why) → IsRefusedIn r b place why → IsRefusedIn r b (length (take place b)) why
refused_there r b place why p = subst (λ (n : ℕ). IsRefusedIn r b n why) (sym (length-take-le place b (omega (arith, p.1.present)))) p

pub frame_item : (r : Reading) (b : List ℕ) → IsFramed b → AreBytes b → (item : OpenItem) × OpenSpells r item b
frame_item r b f are = by_decision (decided r b [] (nothing_in r) are)
  where
    by_rest : (m : Message) (rest : List ℕ) → Spells r m (b ++ rest) → (item : OpenItem) × OpenSpells r item b
    by_rest m [] p = (read m, subst (Spells r m) (append-nil b) p)
    by_rest m (x ∷ rest) p =
        let same = (frames_end b (b ++ x ∷ rest) (x ∷ rest) [] f (message_frame r m (b ++ x ∷ rest) p) (sym (append-nil (b ++ x ∷ rest)))).same in
        absurd (omega (arith, no_more b (x ∷ rest) same))

    by_decision : Decided r b → (item : OpenItem) × OpenSpells r item b
    by_decision (goes_on u) = by_rest u.alive.value u.alive.rest u.alive.spelled
    by_decision (begins m prefix later e p) =
        let same = (frames_end prefix b later [] (message_frame r m prefix p) f (sym e ∙ sym (append-nil b))).same in
        (read m, subst (Spells r m) same p)
    by_decision (refused place why p) = (unread f.0 f.1 (length b) (take place b) p.2.byte why, (f.2, refl, refused_there r b place why p, refused_split r b place why p))

-- ---- the first frame

pub data Opens (bytes : List ℕ) : Type 0 where
  framed : (prefix later : List ℕ) → bytes ≡ prefix ++ later → IsFramed prefix → Opens bytes
  short : (more : List ℕ) → 0 < length more → AreBytes more → IsFramed (bytes ++ more) → Opens bytes

-- after a length
with_length : (h l n : ℕ) (size content : List ℕ) → (h < 256) × (l < 256) → IsFrameLength padded n size → Opens (h ∷ l ∷ (size ++ content))
with_length h l n size content small is = by_size (cases_lt (length content) n)
  where
    by_size : (length content < n) ⊎ (n ≤ length content) → Opens (h ∷ l ∷ (size ++ content))
    by_size (inl lt) =
        let more = zeros (n - length content) in
        let many : length (content ++ more) ≡ n = omega (arith, lt, length-append content more, zeros_many (n - length content)) in
        short more (omega (arith, lt, zeros_many (n - length content))) (zero_bytes (n - length content))
        (h, l, record { size = size; content = content ++ more; whole = ap (λ (s : List ℕ). h ∷ l ∷ s) (append_assoc size content more); are_bytes = small; is_size = subst (λ (k : ℕ). IsFrameLength padded k size) (sym many) is })
    by_size (inr le) =
        let first = take n content in
        let many : length first ≡ n = length-take-le n content le in
        let whole : size ++ content ≡ (size ++ first) ++ drop n content = ap (λ (s : List ℕ). size ++ s) (sym (take-append-drop n content)) ∙ sym (append_assoc size first (drop n content)) in
        framed (h ∷ l ∷ (size ++ first)) (drop n content) (ap (λ (s : List ℕ). h ∷ l ∷ s) whole)
        (h, l, record { size = size; content = first; whole = refl; are_bytes = small; is_size = subst (λ (k : ℕ). IsFrameLength padded k size) (sym many) is })

pub opens : (bytes : List ℕ) → AreBytes bytes → Opens bytes
opens [] are = short (0 ∷ 0 ∷ 0 ∷ []) (omega arith) (omega arith, (omega arith, (omega arith, tt))) (0, 0, record { size = 0 ∷ []; content = []; whole = refl; are_bytes = (omega arith, omega arith); is_size = (omega arith, refl) })
opens (h ∷ []) are = short (0 ∷ 0 ∷ []) (omega arith) (omega arith, (omega arith, tt)) (h, 0, record { size = 0 ∷ []; content = []; whole = refl; are_bytes = (are.0, omega arith); is_size = (omega arith, refl) })
opens (h ∷ l ∷ []) are = short (0 ∷ []) (omega arith) (omega arith, tt) (h, l, record { size = 0 ∷ []; content = []; whole = refl; are_bytes = (are.0, are.1.0); is_size = (omega arith, refl) })
opens (h ∷ l ∷ s ∷ more) are = by_byte (cases_lt s 255)
  where
    long : s ≡ 255 → (content : List ℕ) → more ≡ content → AreBytes content → Opens (h ∷ l ∷ s ∷ content)
    long e [] is bytes = short (0 ∷ 0 ∷ []) (omega arith) (omega arith, (omega arith, tt)) (h, l, record { size = s ∷ 0 ∷ 0 ∷ []; content = []; whole = refl; are_bytes = (are.0, are.1.0); is_size = (e, omega arith, omega arith, omega arith, omega arith) })
    long e (low ∷ []) is bytes =
        let content = zeros low in
        short (0 ∷ content) (omega arith) (omega arith, zero_bytes low)
        (h, l, record { size = s ∷ low ∷ 0 ∷ []; content = content; whole = refl; are_bytes = (are.0, are.1.0); is_size = (e, omega arith, bytes.0, omega arith, omega (arith, zeros_many low)) })
    long e (low ∷ high ∷ content) is bytes = with_length h l (256 * high + low) (s ∷ low ∷ high ∷ []) content (are.0, are.1.0) (e, omega arith, bytes.0, bytes.1.0, refl)

    by_byte : (s < 255) ⊎ (255 ≤ s) → Opens (h ∷ l ∷ s ∷ more)
    by_byte (inl lt) = with_length h l s (s ∷ []) more (are.0, are.1.0) (lt, refl)
    by_byte (inr le) = long (omega (arith, le, are.1.1.0)) more refl are.1.1.1

-- where a frame is incomplete, no item is whole
pub none_yet : (r : Reading) (bytes more : List ℕ) → 0 < length more → IsFramed (bytes ++ more) → NoneWhole (OpenSpells r) bytes
none_yet r bytes more some f item prefix rest e p =
    let same = (frames_end prefix (bytes ++ more) (rest ++ more) [] (item_frame r item prefix p) f
    (sym (append_assoc prefix rest more) ∙ ap (λ (s : List ℕ). s ++ more) (sym e) ∙ sym (append-nil (bytes ++ more)))).same in
    omega (arith, some, ap length same, ap length e, length-append prefix rest, length-append bytes more)

-- ---- laws

same_start : (a b : List ℕ) (x y : ℕ) (more others : List ℕ) → a ++ x ∷ more ≡ b ++ y ∷ others → length a ≡ length b → (a ≡ b) × (x ≡ y)
same_start [] [] x y more others e same = (refl, cc (e))
same_start [] (z ∷ b) x y more others e same = absurd (omega (arith, same))
same_start (z ∷ a) [] x y more others e same = absurd (omega (arith, same))
same_start (z ∷ a) (w ∷ b) x y more others e same =
    let heads : z ≡ w = cc (e) in
    let tails : a ++ x ∷ more ≡ b ++ y ∷ others = cc (e) in
    let rest = same_start a b x y more others tails (omega (arith, same)) in
    (cc (heads, rest.0), rest.1)

pub ends_itself : (r : Reading) → EndThemselves (OpenSpells r)
ends_itself r (read m) (read n) a b x y p q e = let one = messages_end_themselves r m n a b x y p q e in (ap read one.0, one.1)
ends_itself r (read m) (unread high low size before byte why) a b x y p q e =
    let same = (frames_end a b x y (message_frame r m a p) (high, low, q.0) e).same in
    absurd (q.2.0 m a [] (sym same ∙ sym (append-nil a)) p)
ends_itself r (unread high low size before byte why) (read m) a b x y p q e =
    let same = (frames_end a b x y (high, low, p.0) (message_frame r m b q) e).same in
    absurd (p.2.0 m b [] (same ∙ sym (append-nil b)) q)
ends_itself r (unread high low size before byte why) (unread h l s first c w) a b x y p q e =
    let one = frames_end a b x y (high, low, p.0) (h, l, q.0) e in
    let other : IsRefusedIn r a (length first) w = subst (λ (d : List ℕ). IsRefusedIn r d (length first) w) (sym one.same) q.2 in
    let refusals = refusals_are_one r (length before) (length first) a why w p.2.1 other.1 p.2.2 other.2 in
    let sizes : size ≡ s = p.1 ∙ ap length one.same ∙ sym q.1 in
    let starts = same_start before first byte c p.3.0 q.3.0 (sym p.3.1 ∙ one.same ∙ q.3.1) refusals.0 in
    (cc (one.highs, one.lows, sizes, starts.0, starts.1, refusals.1), one.same)

pub open_cuts_are_one : (r : Reading) → OpenCutsAreOne r
open_cuts_are_one r = record { one = cuts_are_one (OpenSpells r) (ends_itself r); prefixes = prefixes_of_cut (OpenSpells r) (ends_itself r); growth = grows (OpenSpells r) (ends_itself r) }

abbrev IsCut : Reading → List ℕ → Type 0
IsCut r bytes = (items : List OpenItem) × (rest : List ℕ) × OpenCutIn r bytes items rest × Alive (OpenSpells r) rest

frame_some : (b : List ℕ) → IsFramed b → 0 < length b
frame_some b (high, low, f) = omega (arith, ap length f.whole)

cut_within : (n : ℕ) (r : Reading) (bytes : List ℕ) → length bytes < n → AreBytes bytes → IsCut r bytes
cut_within zero r bytes few are = absurd (omega (arith, few))
cut_within (suc n) r bytes few are = by_frame (λ later short small. cut_within n r later short small) (opens bytes are)
  where
    by_frame : ((later : List ℕ) → length later < n → AreBytes later → IsCut r later) → Opens bytes → IsCut r bytes
    by_frame cut (short more some ready f) =
        let item = frame_item r (bytes ++ more) f (bytes_joined bytes more are ready) in
        ([], bytes, record { spelled = refl; none_whole = none_yet r bytes more some f }, record { value = item.0; rest = more; spelled = item.1 })
    by_frame cut (framed prefix later e f) =
        let apart = bytes_apart prefix later (subst AreBytes e are) in
        let item = frame_item r prefix f apart.0 in
        let rest = cut later (omega (arith, few, ap length e, length-append prefix later, frame_some prefix f)) apart.1 in
        (item.0 ∷ rest.0, rest.1, record { spelled = (prefix, later, e, item.1, rest.2.spelled); none_whole = rest.2.none_whole }, rest.3)

pub each_line_is_cut : (r : Reading) → EachLineIsCut r
each_line_is_cut r bytes are = cut_within (suc (length bytes)) r bytes (omega arith) are

pub spelled_open : (r : Reading) (bytes : List ℕ) (ms : List Message) (rest : List ℕ) → SpelledIn r bytes ms rest → cuts.Spelled (OpenSpells r) bytes (map read ms) rest
spelled_open r bytes [] rest s = s
spelled_open r bytes (m ∷ ms) rest s = (s.0, s.1, s.2, s.3, spelled_open r s.1 ms rest s.4)

-- what is alive begins with no refused frame
pub alive_none : (r : Reading) (rest : List ℕ) → NoneWhole (Spells r) rest → AliveIn r rest → NoneWhole (OpenSpells r) rest
alive_none r rest none a (read m) prefix later e p = none m prefix later e p
alive_none r rest none a (unread high low size before byte why) prefix later e p =
    let place = length before in
    let first = take (suc place) prefix in
    let others = drop (suc place) prefix ++ later in
    let whole : rest ≡ first ++ others = e ∙ ap (λ (s : List ℕ). s ++ later) (sym (take-append-drop (suc place) prefix)) ∙ append_assoc first (drop (suc place) prefix) later in
    p.2.1.dead (prefix_alive_in r first others (subst (AliveIn r) whole a))

pub open_is_strict : (r : Reading) → OpenIsStrict r
open_is_strict r bytes ms rest c a = record { spelled = spelled_open r bytes ms rest c.spelled; none_whole = alive_none r rest c.none_whole a }
