-- What a side hears that is read on after refused messages.
use Rattle.std.proofs.Common.{◌≡◌, ◌≢◌, ℕ, ◌+◌, ◌*◌, ◌-◌, ◌<◌, ◌≤◌, ◌==◌, if◌then◌else◌, ◌⊎◌, cond, Bool, true, false, Some, None, Option, List, [], ◌∷◌, ◌++◌, length, map, take, drop, slice_get, slice_index, refl, sym, ◌∙◌, ap, subst, append_assoc, append-nil, arith, length-append, inl, inr, suc, zero}
use Rattle.std.specs.List.{concat}
use Rattle.std.proofs.lemmas.Bool.{lt-ltb}
use Rattle.std.proofs.lemmas.Bool.Decides.{eqb_tells}
use Rattle.std.proofs.lemmas.List.{length-take-le, take-append-drop}
use Rattle.std.proofs.lemmas.Option.{get_or_from_slice_get}
use Rattle.zvt_grammar.specs.Cuts as cuts
use Rattle.zvt_grammar.specs.Reading.{Reading, AreBytes}
use Rattle.zvt_grammar.specs.declared.why.Why.{Why}
use Rattle.zvt_grammar.specs.declared.why.Why.TheVariants.{DoesNotFit}
use Rattle.zvt_grammar.specs.Tests.{check}
use Rattle.zvt_grammar.proofs.CutLemmas.{spelled_append, spelled_more, spelled_push}
use Rattle.zvt_grammar.proofs.CutLemmas as cut
use Rattle.zvt_tlv.specs.Judging.{Opener}
use Rattle.zvt_apdu.specs.Message.{Message}
use Rattle.zvt_apdu.specs.Grammar.{IsFrameLength, Spells}
use Rattle.zvt_apdu.specs.Judging.{InData, can_fill, layout_of, Position, Role, first_control, second_control, first_size, low_size, high_size, free, digit, in_fields, fault}
use Rattle.zvt_apdu.proofs.OneMessage.{messages_end_themselves}
use Rattle.zvt_stream.specs.Apdus.{AliveIn, CutIn, IsRefusedIn, SpelledIn}
use Rattle.zvt_stream.specs.OpenReading.{IsFramed, OpenItem, OpenSpells, read, unread}
use Rattle.zvt_stream.proofs.Beginnings.{nothing_in}
use Rattle.zvt_stream.proofs.FeedLemmas.{refused_more}
use Rattle.zvt_stream.proofs.OpenLemmas.{alive_none, bytes_apart, bytes_joined, none_yet, refused_split, refused_there, spelled_open, zero_bytes, zeros, zeros_many}
use Rattle.zvt_trace.specs.Emitting.{EndsWithin, PartEmits, PartsEmit, PieceEmits, ending_events, messages_emitted, refusal_event, side_after, told}
use Rattle.zvt_trace.specs.OpenSides.{HearsCut, Piece, OpenSidesHearCuts, PiecesEmit, begun, bytes_in, facts_of, item_facts, refused, with_fact}
use Rattle.zvt_trace.specs.Resuming.{IsWithin, announced, long_size, refused_size, resuming_events, side_refused, side_skipping, size_by, skipping_events}
use Rattle.zvt_trace.specs.Trace.{Arrives, Ending, Side, running, skipping, stopped}
use Rattle.zvt_trace.specs.Trace as ending
use Rattle.zvt_trace.specs.TraceEvent.{At, TraceEvent, on}
use Rattle.zvt_trace.specs.TraceEvent as trace_event
use Rattle.zvt_trace.specs.declared.direction.Direction.{Direction}
use Rattle.zvt_trace.specs.declared.listener.Scope.TheVariants.{OneMessage}

-- ---- the size that a message announces

nothing_some : {A : Type 0} (n : ℕ) → None ≡ Some n → A
nothing_some n e = absurd (cc (e))

some_same : (a b : ℕ) → Some a ≡ Some b → a ≡ b
some_same a b e = cc (e)

flag_more : (f : Bool) (more b : List ℕ) (k n : ℕ) → (if f then long_size more else Some k) ≡ Some n → (if f then long_size (more ++ b) else Some k) ≡ Some n
flag_more false more b k n e = e
flag_more true [] b k n e = nothing_some n e
flag_more true (low ∷ []) b k n e = nothing_some n e
flag_more true (low ∷ high ∷ content) b k n e = e

announced_more : (a b : List ℕ) (n : ℕ) → announced a ≡ Some n → announced (a ++ b) ≡ Some n
announced_more [] b n e = nothing_some n e
announced_more (c ∷ []) b n e = nothing_some n e
announced_more (c ∷ i ∷ []) b n e = nothing_some n e
announced_more (c ∷ i ∷ s ∷ more) b n e = flag_more (s == 255) more b (3 + s) n e

not_long : (s : ℕ) → s < 255 → (s == 255) ≡ false
not_long s lt = elim (eqb_tells s 255) [
  | inl same ↦ absurd (omega (arith, lt, same.1))
  | inr other ↦ other.0
]

-- bytes of the announced size are a frame
framed_sized : (b : List ℕ) → AreBytes b → announced b ≡ Some (length b) → IsFramed b
framed_sized [] are e = nothing_some 0 e
framed_sized (h ∷ []) are e = nothing_some 1 e
framed_sized (h ∷ l ∷ []) are e = nothing_some 2 e
framed_sized (h ∷ l ∷ s ∷ more) are e = by_flag (eqb_tells s 255)
  where
    long : (content : List ℕ) → s ≡ 255 → more ≡ content → AreBytes content → long_size content ≡ Some (suc (suc (suc (length content)))) → IsFramed (h ∷ l ∷ s ∷ content)
    long [] same is bytes f = nothing_some 3 f
    long (low ∷ []) same is bytes f = nothing_some 4 f
    long (low ∷ high ∷ content) same is bytes f =
        let many : 5 + low + 256 * high ≡ suc (suc (suc (length (low ∷ high ∷ content)))) = some_same _ _ f in
        (h, l, record { size = s ∷ low ∷ high ∷ []; content = content; whole = refl; are_bytes = (are.0, are.1.0); is_size = (same, omega arith, bytes.0, bytes.1.0, omega (arith, many)) })

    by_flag : ((s == 255) ≡ true × s ≡ 255) ⊎ ((s == 255) ≡ false × s ≢ 255) → IsFramed (h ∷ l ∷ s ∷ more)
    by_flag (inl same) = long more same.1 refl are.1.1.1 (subst (λ (f : Bool). (if f then long_size more else Some (3 + s)) ≡ Some (suc (suc (suc (length more))))) same.0 e)
    by_flag (inr other) =
        let many : 3 + s ≡ suc (suc (suc (length more))) = some_same _ _ (subst (λ (f : Bool). (if f then long_size more else Some (3 + s)) ≡ Some (suc (suc (suc (length more))))) other.0 e) in
        let below : s < 255 = omega (arith, other.1, are.1.1.0) in
        (h, l, record { size = s ∷ []; content = more; whole = refl; are_bytes = (are.0, are.1.0); is_size = (omega (arith, many, below), omega (arith, many)) })

-- ---- where a message is refused, its size has arrived

taken : (l : List ℕ) (n x : ℕ) → slice_get l n ≡ Some x → take (suc n) l ≡ take n l ++ x ∷ []
taken [] n x e = absurd (cc (e))
taken (y ∷ l) zero x e = let same : y ≡ x = cc (e) in cc (same)
taken (y ∷ l) (suc n) x e = ap (λ (t : List ℕ). y ∷ t) (taken l n x e)

-- these bytes and one more announce a size beyond them
abbrev Announces : (before : List ℕ) → (x : ℕ) → Type 0
Announces before x = (size : ℕ) × (announced (before ++ x ∷ []) ≡ Some size) × (length before < size)

in_data : (r : Reading) (before : List ℕ) (x : ℕ) → InData r before → Announces before x
in_data r before x d = by_size d.size d.is_size d.whole
  where
    by_size : (size : List ℕ) → IsFrameLength r d.n size → before ≡ d.high ∷ d.low ∷ (size ++ d.inside) → Announces before x
    by_size [] is e = absurd is
    by_size (a ∷ []) is e =
        let says : announced ((d.high ∷ d.low ∷ a ∷ d.inside) ++ x ∷ []) ≡ Some (3 + a) = ap (λ (f : Bool). if f then long_size (d.inside ++ x ∷ []) else Some (3 + a)) (not_long a (omega (arith, is.0, is.1))) in
        (3 + a, subst (λ (b : List ℕ). announced (b ++ x ∷ []) ≡ Some (3 + a)) (sym e) says, omega (arith, ap length e, d.short, is.1))
    by_size (a ∷ b ∷ []) is e = absurd is
    by_size (a ∷ low ∷ high ∷ []) is e =
        let long : d.high ∷ d.low ∷ a ∷ low ∷ high ∷ d.inside ≡ d.high ∷ d.low ∷ 255 ∷ low ∷ high ∷ d.inside = ap (λ (k : ℕ). d.high ∷ d.low ∷ k ∷ low ∷ high ∷ d.inside) is.0 in
        (5 + low + 256 * high, ap (λ (s : List ℕ). announced (s ++ x ∷ [])) (e ∙ long), omega (arith, ap length e, d.short, is.4))
    by_size (a ∷ b ∷ c ∷ f ∷ more) is e = absurd is

no_fault : {A : Type 0} (why : Why) → None ≡ Some why → A
no_fault why e = absurd (cc (e))

at_role : (r : Reading) (os : List Opener) (role : Role) (before : List ℕ) (x : ℕ) (why : Why) → x < 256 → Position r os before role → fault r role x ≡ Some why → Announces before x
at_role r os first_control before x why lt p e = no_fault why e
at_role r os second_control before x why lt p e = no_fault why e
at_role r os (first_size high low) before x why lt p e = by_flag (eqb_tells x 255) e
  where
    by_flag : ((x == 255) ≡ true × x ≡ 255) ⊎ ((x == 255) ≡ false × x ≢ 255) → fault r (first_size high low) x ≡ Some why → Announces before x
    by_flag (inl same) f = no_fault why (subst (λ (k : Bool). cond k None (check (can_fill (layout_of high low x) x) DoesNotFit None) ≡ Some why) same.0 f)
    by_flag (inr other) f =
        let says : announced ((high ∷ low ∷ []) ++ x ∷ []) ≡ Some (3 + x) = ap (λ (k : Bool). if k then long_size [] else Some (3 + x)) other.0 in
        (3 + x, subst (λ (b : List ℕ). announced (b ++ x ∷ []) ≡ Some (3 + x)) (sym p.1) says, omega (arith, ap length p.1))
at_role r os (low_size high low) before x why lt p e = no_fault why e
at_role r os (high_size high low size_low) before x why lt p e =
    (5 + size_low + 256 * x, ap (λ (b : List ℕ). announced (b ++ x ∷ [])) p.1, omega (arith, ap length p.1))
at_role r os free before x why lt p e = no_fault why e
at_role r os digit before x why lt p e = in_data r before x p.0
at_role r os (in_fields role left) before x why lt p e = in_data r before x p.data_begun

byte_at : (l : List ℕ) (n x : ℕ) → AreBytes l → slice_get l n ≡ Some x → x < 256
byte_at [] n x are e = absurd (cc (e))
byte_at (y ∷ l) zero x are e = let same : y ≡ x = cc (e) in omega (arith, are.0, same)
byte_at (y ∷ l) (suc n) x are e = byte_at l n x are.1 e

-- the bytes up to the fatal one announce a size that has its place
announces : (r : Reading) (rest : List ℕ) (place : ℕ) (why : Why) → AreBytes rest → IsRefusedIn r rest place why → (size : ℕ) × (announced (take (suc place) rest) ≡ Some size) × (place < size)
announces r rest place why are p =
    let w = p.2 in
    let found = at_role r w.openers w.role (take place rest) w.byte why (byte_at rest place w.byte are w.is_byte) w.stands w.fails in
    let many : length (take place rest) ≡ place = length-take-le place rest (omega (arith, p.1.present)) in
    (found.0, ap announced (taken rest place w.byte w.is_byte) ∙ found.1, omega (arith, many, found.2))

within_size : (place size : ℕ) → place < size → size_by OneMessage place (Some size) ≡ Some size
within_size place size lt = ap (λ (f : Bool). if f then Some size else None) (lt-ltb place size lt)

-- ---- facts

facts_joined : (a b : List TraceEvent) (event : TraceEvent) → with_fact event (a ++ b) ≡ with_fact event a ++ b
facts_joined a b (trace_event.message from m) = refl
facts_joined a b (trace_event.refused from before byte why) = refl
facts_joined a b (trace_event.unread from) = refl
facts_joined a b (trace_event.resumed from size) = refl
facts_joined a b (trace_event.cut_off from bytes) = refl
facts_joined a b trace_event.lost = refl

facts_both : (a b : List At) → facts_of (a ++ b) ≡ facts_of a ++ facts_of b
facts_both [] b = refl
facts_both (event ∷ a) b = ap (with_fact event.trace_event) (facts_both a b) ∙ facts_joined (facts_of a) (facts_of b) event.trace_event

abbrev heard : Direction → List Message → List TraceEvent
heard from messages = map (λ (m : Message). trace_event.message from m) messages

facts_emitted : (line : ℕ) (from : Direction) (messages : List Message) → facts_of (messages_emitted line from messages) ≡ heard from messages
facts_emitted line from [] = refl
facts_emitted line from (m ∷ messages) = ap (λ (facts : List TraceEvent). trace_event.message from m ∷ facts) (facts_emitted line from messages)

heard_both : (from : Direction) (a b : List Message) → heard from (a ++ b) ≡ heard from a ++ heard from b
heard_both from [] b = refl
heard_both from (m ∷ a) b = ap (λ (facts : List TraceEvent). trace_event.message from m ∷ facts) (heard_both from a b)

items_both : (from : Direction) (a b : List OpenItem) → item_facts from (a ++ b) ≡ item_facts from a ++ item_facts from b
items_both from [] b = refl
items_both from (read m ∷ a) b = ap (λ (facts : List TraceEvent). trace_event.message from m ∷ facts) (items_both from a b)
items_both from (unread high low size before byte why ∷ a) b =
    ap (λ (facts : List TraceEvent). trace_event.refused from before byte why ∷ trace_event.resumed from size ∷ facts) (items_both from a b)

items_read : (from : Direction) (messages : List Message) → item_facts from (map read messages) ≡ heard from messages
items_read from [] = refl
items_read from (m ∷ messages) = ap (λ (facts : List TraceEvent). trace_event.message from m ∷ facts) (items_read from messages)

told_facts : (line : ℕ) (from : Direction) (side : Side) (own : List At) → facts_of (told line from side own) ≡ facts_of own
told_facts line from (running bytes) own = refl
told_facts line from (skipping size left) [] = refl
told_facts line from (skipping size left) (event ∷ own) = refl
told_facts line from stopped [] = refl
told_facts line from stopped (event ∷ own) = refl

-- ---- where a side stands

-- It reads: some items, and then messages of the bytes since the last refused frame.
pub record Running (r : Reading) (from : Direction) (bytes : List ℕ) (facts : List TraceEvent) (before : List ℕ) : Type 0 where
  pub items : List OpenItem
  pub spelled : cuts.Spelled (OpenSpells r) bytes items before
  pub messages : List Message
  pub rest : List ℕ
  pub cut : CutIn r before messages rest
  pub alive : AliveIn r rest
  pub are_bytes : AreBytes before
  pub is_all : facts ≡ item_facts from items ++ heard from messages

-- It skips the rest of a refused frame.
pub record Skipping (r : Reading) (from : Direction) (bytes : List ℕ) (facts : List TraceEvent) (size left : ℕ) : Type 0 where
  pub items : List OpenItem
  pub part : List ℕ
  pub spelled : cuts.Spelled (OpenSpells r) bytes items part
  pub are_bytes : AreBytes part
  pub before : List ℕ
  pub byte : ℕ
  pub later : List ℕ
  pub why : Why
  pub refusal : IsRefusedIn r part (length before) why
  pub is_part : part ≡ before ++ byte ∷ later
  pub says : announced part ≡ Some size
  pub many : length part + left ≡ size
  pub some : 0 < left
  pub is_all : facts ≡ item_facts from items ++ trace_event.refused from before byte why ∷ []

abbrev pub Stands : Reading → Direction → List ℕ → List TraceEvent → Side → Type 0
Stands r from bytes facts (running before) = Running r from bytes facts before
Stands r from bytes facts (skipping size left) = Skipping r from bytes facts size left
Stands r from bytes facts stopped = ⊥

-- a refused message has come so far: all of it, or not
closes : (r : Reading) (line : ℕ) (from : Direction) (bytes : List ℕ) (facts : List TraceEvent) (items : List OpenItem) (part before : List ℕ) (byte : ℕ) (later : List ℕ) (why : Why) (size left : ℕ)
    → cuts.Spelled (OpenSpells r) bytes items part → AreBytes part → IsRefusedIn r part (length before) why → part ≡ before ++ byte ∷ later → announced part ≡ Some size → length part + left ≡ size
    → facts ≡ item_facts from items ++ trace_event.refused from before byte why ∷ []
    → Stands r from bytes (facts ++ facts_of (skipping_events line from size left)) (side_skipping size left)
closes r line from bytes facts items part before byte later why size zero spelled are p is says many all =
    let sized : size ≡ length part = omega (arith, many) in
    let f = framed_sized part are (says ∙ ap Some sized) in
    let item = unread f.0 f.1 size before byte why in
    let last : item_facts from (items ++ item ∷ []) ≡ item_facts from items ++ trace_event.refused from before byte why ∷ trace_event.resumed from size ∷ [] = items_both from items (item ∷ []) in
    let whole : facts ++ trace_event.resumed from size ∷ [] ≡ item_facts from (items ++ item ∷ []) =
    ap (λ (l : List TraceEvent). l ++ trace_event.resumed from size ∷ []) all
    ∙ append_assoc (item_facts from items) (trace_event.refused from before byte why ∷ []) (trace_event.resumed from size ∷ []) ∙ sym last in
    record {
      items = items ++ item ∷ [];
      spelled = spelled_push (OpenSpells r) items item bytes part [] part spelled (sym (append-nil part)) (f.2, sized, p, (later, is));
      messages = [];
      rest = [];
      cut = record { spelled = refl; none_whole = (nothing_in r).none_whole };
      alive = (nothing_in r).alive;
      are_bytes = tt;
      is_all = whole ∙ sym (append-nil (item_facts from (items ++ item ∷ [])));
    }
closes r line from bytes facts items part before byte later why size (suc left) spelled are p is says many all = record {
  items = items;
  part = part;
  spelled = spelled;
  are_bytes = are;
  before = before;
  byte = byte;
  later = later;
  why = why;
  refusal = p;
  is_part = is;
  says = says;
  many = many;
  some = omega arith;
  is_all = append-nil facts ∙ all;
}

-- ---- one part

same_messages : (r : Reading) (before left rest : List ℕ) (earlier messages : List Message) → CutIn r before earlier left → CutIn r before messages rest → earlier ≡ messages
same_messages r before left rest earlier messages a b = (cut.cuts_are_one (Spells r) (messages_end_themselves r) before earlier messages left rest a b).0

spelled_bytes : (r : Reading) (messages : List Message) (bytes rest : List ℕ) → SpelledIn r bytes messages rest → AreBytes bytes → AreBytes rest
spelled_bytes r [] bytes rest s are = subst AreBytes s are
spelled_bytes r (m ∷ messages) bytes rest s are = spelled_bytes r messages s.1 rest s.4 (bytes_apart s.0 s.1 (subst AreBytes s.2 are)).1

module _ (r : Reading) (line : ℕ) (from : Direction) (bytes part : List ℕ) (facts : List TraceEvent) (ready : AreBytes part) where
  -- the messages until now, and those that arrive
  all_heard : (before : List ℕ) (s : Running r from bytes facts before) (messages : List Message) (rest : List ℕ) (e : Ending) (a : Arrives r before part messages rest e)
      → facts ++ heard from messages ≡ item_facts from s.items ++ heard from (a.earlier ++ messages)
  all_heard before s messages rest e a =
      let same = same_messages r before s.rest a.left s.messages a.earlier s.cut a.was in
      ap (λ (l : List TraceEvent). l ++ heard from messages) (s.is_all ∙ ap (λ (ms : List Message). item_facts from s.items ++ heard from ms) same)
      ∙ append_assoc (item_facts from s.items) (heard from a.earlier) (heard from messages)
      ∙ ap (λ (l : List TraceEvent). item_facts from s.items ++ l) (sym (heard_both from a.earlier messages))

  runs_on : (before : List ℕ) → Running r from bytes facts before → (messages : List Message) (rest : List ℕ) (e : Ending) → Arrives r before part messages rest e → EndsWithin OneMessage rest e
      → Stands r from (bytes ++ part) (facts ++ facts_of (messages_emitted line from messages ++ ending_events OneMessage line from rest e)) (side_after OneMessage (before ++ part) rest e)
  runs_on before s messages rest ending.begun a w = record {
    items = s.items;
    spelled = spelled_more (OpenSpells r) s.items bytes before part s.spelled;
    messages = a.earlier ++ messages;
    rest = rest;
    cut = a.now;
    alive = a.ends;
    are_bytes = bytes_joined before part s.are_bytes ready;
    is_all = ap (λ (l : List TraceEvent). facts ++ l) (ap facts_of (append-nil (messages_emitted line from messages)) ∙ facts_emitted line from messages) ∙ all_heard before s messages rest ending.begun a;
  }
  runs_on before s messages rest (ending.refused place why) a w =
      let refusal : IsRefusedIn r rest place why = (a.now.none_whole, a.ends.0, a.ends.1) in
      let are = spelled_bytes r (a.earlier ++ messages) (before ++ part) rest a.now.spelled (bytes_joined before part s.are_bytes ready) in
      let found = announces r rest place why are refusal in
      let size = found.0 in
      let same : refused_size OneMessage rest place ≡ Some size = ap (size_by OneMessage place) found.1 ∙ within_size place size found.2 in
      let few : length rest ≤ size = subst (λ (o : Option ℕ). IsWithin o (length rest)) same w in
      let byte = a.ends.1.byte in
      let first = take place rest in
      let split = refused_split r rest place why refusal in
      let items = s.items ++ map read (a.earlier ++ messages) in
      let spelled = spelled_append (OpenSpells r) s.items (map read (a.earlier ++ messages)) (bytes ++ part) (before ++ part) rest
      (spelled_more (OpenSpells r) s.items bytes before part s.spelled) (spelled_open r (before ++ part) (a.earlier ++ messages) rest a.now.spelled) in
      let event = trace_event.refused from first byte why in
      let until_now : facts ++ heard from messages ≡ item_facts from items =
      all_heard before s messages rest (ending.refused place why) a ∙ ap (λ (l : List TraceEvent). item_facts from s.items ++ l) (sym (items_read from (a.earlier ++ messages))) ∙ sym (items_both from s.items (map read (a.earlier ++ messages))) in
      let told_now : (facts ++ heard from messages) ++ event ∷ [] ≡ item_facts from items ++ event ∷ [] = ap (λ (l : List TraceEvent). l ++ event ∷ []) until_now in
      let says : announced rest ≡ Some size = subst (λ (b : List ℕ). announced b ≡ Some size) (take-append-drop (suc place) rest) (announced_more (take (suc place) rest) (drop (suc place) rest) size found.1) in
      let stands = closes r line from (bytes ++ part) ((facts ++ heard from messages) ++ event ∷ []) items rest first byte split.0 why size (size - length rest) spelled are (refused_there r rest place why refusal) split.1 says (omega (arith, few)) told_now in
      let shown : slice_index rest place ≡ byte = get_or_from_slice_get rest place byte 0 a.ends.1.is_byte in
      subst (λ (o : Option ℕ). Stands r from (bytes ++ part) (facts ++ facts_of (messages_emitted line from messages ++ refusal_event line from rest place why ∷ resuming_events line from o (length rest))) (side_refused o (length rest))) (sym same)
      (subst (λ (x : ℕ). Stands r from (bytes ++ part) (facts ++ facts_of (messages_emitted line from messages ++ on line (trace_event.refused from first x why) ∷ skipping_events line from size (size - length rest))) (side_skipping size (size - length rest))) (sym shown)
      (subst (λ (l : List TraceEvent). Stands r from (bytes ++ part) l (side_skipping size (size - length rest))) (regrouped messages event (skipping_events line from size (size - length rest)) refl) stands))
    where
      regrouped : (messages : List Message) (event : TraceEvent) (later : List At) → with_fact event (facts_of later) ≡ event ∷ facts_of later
          → ((facts ++ heard from messages) ++ event ∷ []) ++ facts_of later ≡ facts ++ facts_of (messages_emitted line from messages ++ on line event ∷ later)
      regrouped messages event later is =
          append_assoc (facts ++ heard from messages) (event ∷ []) (facts_of later) ∙ append_assoc facts (heard from messages) (event ∷ facts_of later)
          ∙ ap (λ (l : List TraceEvent). facts ++ l) (sym (facts_both (messages_emitted line from messages) (on line event ∷ later) ∙ ap (λ (l : List TraceEvent). l ++ facts_of (on line event ∷ later)) (facts_emitted line from messages) ∙ ap (λ (l : List TraceEvent). heard from messages ++ l) is))

  skips_on : (size left : ℕ) → Skipping r from bytes facts size left → length part ≤ left
      → Stands r from (bytes ++ part) (facts ++ facts_of (skipping_events line from size (left - length part))) (side_skipping size (left - length part))
  skips_on size left s few =
      closes r line from (bytes ++ part) facts s.items (s.part ++ part) s.before s.byte (s.later ++ part) s.why size (left - length part) (spelled_more (OpenSpells r) s.items bytes s.part part s.spelled) (bytes_joined s.part part s.are_bytes ready)
      (refused_more r s.part part (length s.before) s.why s.refusal) (ap (λ (l : List ℕ). l ++ part) s.is_part ∙ append_assoc s.before (s.byte ∷ s.later) part) (announced_more s.part part size s.says) (omega (arith, few, s.many, length-append s.part part))
      s.is_all

  part_stands : (side : Side) (own : List At) (middle : Side) → Stands r from bytes facts side → PartEmits r OneMessage line from side part own middle → Stands r from (bytes ++ part) (facts ++ facts_of own) middle
  part_stands (running before) own middle s e =
      subst (λ (side : Side). Stands r from (bytes ++ part) (facts ++ facts_of own) side) (sym e.is_after)
      (subst (λ (events : List At). Stands r from (bytes ++ part) (facts ++ facts_of events) (side_after OneMessage (before ++ part) e.rest e.ending)) (sym e.is_all)
      (runs_on before s e.messages e.rest e.ending e.arrives e.within))
  part_stands (skipping size left) own middle s e =
      subst (λ (side : Side). Stands r from (bytes ++ part) (facts ++ facts_of own) side) (sym e.2)
      (subst (λ (events : List At). Stands r from (bytes ++ part) (facts ++ facts_of events) (side_skipping size (left - length part))) (sym e.1) (skips_on size left s e.0))
  part_stands stopped own middle s e = absurd s

-- ---- parts, pieces, and the whole side

parts_stand : (r : Reading) (line : ℕ) (from : Direction) (parts : List (List ℕ)) (bytes : List ℕ) (facts : List TraceEvent) (side : Side) (own : List At) (after : Side)
    → AreBytes (concat parts) → Stands r from bytes facts side → PartsEmit r OneMessage line from side parts own after → Stands r from (bytes ++ concat parts) (facts ++ facts_of own) after
parts_stand r line from [] bytes facts side own after ready s e =
    subst (λ (k : Side). Stands r from (bytes ++ []) (facts ++ facts_of own) k) (sym e.1)
    (subst (λ (events : List At). Stands r from (bytes ++ []) (facts ++ facts_of events) side) (sym e.0)
    (subst (λ (b : List ℕ). Stands r from b (facts ++ []) side) (sym (append-nil bytes)) (subst (λ (l : List TraceEvent). Stands r from bytes l side) (sym (append-nil facts)) s)))
parts_stand r line from (part ∷ parts) bytes facts side own after ready s e =
    let apart = bytes_apart part (concat parts) ready in
    let here = part_stands r line from bytes part facts apart.0 side e.own e.middle s e.emits in
    let later = parts_stand r line from parts (bytes ++ part) (facts ++ facts_of e.own) e.middle e.later after apart.1 here e.others in
    let said : (facts ++ facts_of e.own) ++ facts_of e.later ≡ facts ++ facts_of own = append_assoc facts (facts_of e.own) (facts_of e.later) ∙ ap (λ (l : List TraceEvent). facts ++ l) (sym (facts_both e.own e.later) ∙ ap facts_of (sym e.is_all)) in
    subst (λ (b : List ℕ). Stands r from b (facts ++ facts_of own) after) (append_assoc bytes part (concat parts)) (subst (λ (l : List TraceEvent). Stands r from ((bytes ++ part) ++ concat parts) l after) said later)

piece_stands : (r : Reading) (line : ℕ) (from : Direction) (piece bytes : List ℕ) (facts : List TraceEvent) (side : Side) (own : List At) (after : Side)
    → AreBytes piece → Stands r from bytes facts side → PieceEmits r OneMessage line from side piece own after → Stands r from (bytes ++ piece) (facts ++ facts_of own) after
piece_stands r line from piece bytes facts side own after ready s e =
    let passed = parts_stand r line from e.passes.parts bytes facts side e.own after (subst AreBytes e.passes.cut ready) s e.passes.emit in
    let said : facts_of e.own ≡ facts_of own = sym (ap facts_of e.is_all ∙ told_facts line from side e.own) in
    subst (λ (b : List ℕ). Stands r from (bytes ++ b) (facts ++ facts_of own) after) (sym e.passes.cut) (subst (λ (l : List TraceEvent). Stands r from (bytes ++ concat e.passes.parts) (facts ++ l) after) said passed)

pieces_stand : (r : Reading) (from : Direction) (pieces : List Piece) (bytes : List ℕ) (facts : List TraceEvent) (side : Side) (events : List At) (after : Side)
    → AreBytes (bytes_in pieces) → Stands r from bytes facts side → PiecesEmit r OneMessage from side pieces events after → Stands r from (bytes ++ bytes_in pieces) (facts ++ facts_of events) after
pieces_stand r from [] bytes facts side events after ready s e =
    subst (λ (k : Side). Stands r from (bytes ++ []) (facts ++ facts_of events) k) (sym e.1)
    (subst (λ (l : List At). Stands r from (bytes ++ []) (facts ++ facts_of l) side) (sym e.0)
    (subst (λ (b : List ℕ). Stands r from b (facts ++ []) side) (sym (append-nil bytes)) (subst (λ (l : List TraceEvent). Stands r from bytes l side) (sym (append-nil facts)) s)))
pieces_stand r from (piece ∷ pieces) bytes facts side events after ready s e =
    let apart = bytes_apart piece.1 (bytes_in pieces) ready in
    let here = piece_stands r piece.0 from piece.1 bytes facts side e.0 e.2 apart.0 s e.3 in
    let later = pieces_stand r from pieces (bytes ++ piece.1) (facts ++ facts_of e.0) e.2 e.1 after apart.1 here e.4 in
    let said : (facts ++ facts_of e.0) ++ facts_of e.1 ≡ facts ++ facts_of events = append_assoc facts (facts_of e.0) (facts_of e.1) ∙ ap (λ (l : List TraceEvent). facts ++ l) (sym (facts_both e.0 e.1) ∙ ap facts_of (sym e.5)) in
    subst (λ (b : List ℕ). Stands r from b (facts ++ facts_of events) after) (append_assoc bytes piece.1 (bytes_in pieces)) (subst (λ (l : List TraceEvent). Stands r from ((bytes ++ piece.1) ++ bytes_in pieces) l after) said later)

-- where a side stands, its bytes have an open cut
heard_cut : (r : Reading) (from : Direction) (bytes : List ℕ) (events : List At) (after : Side) → Stands r from bytes (facts_of events) after → HearsCut r from bytes events × (after ≡ stopped → ⊥)
heard_cut r from bytes events (running before) s = (
  record {
    items = s.items ++ map read s.messages;
    rest = s.rest;
    cut = record {
      spelled = spelled_append (OpenSpells r) s.items (map read s.messages) bytes before s.rest s.spelled (spelled_open r before s.messages s.rest s.cut.spelled);
      none_whole = alive_none r s.rest s.cut.none_whole s.alive;
    };
    last = [];
    of_rest = begun s.alive refl;
    is_all = s.is_all ∙ ap (λ (l : List TraceEvent). item_facts from s.items ++ l) (sym (items_read from s.messages)) ∙ sym (items_both from s.items (map read s.messages)) ∙ sym (append-nil (item_facts from (s.items ++ map read s.messages)));
  },
  λ e. goes_on before e,
)
  where
    goes_on : (before : List ℕ) → running before ≡ stopped → ⊥
    goes_on before e = cc (e)
heard_cut r from bytes events (skipping size left) s =
    let more = zeros left in
    let many : length (s.part ++ more) ≡ size = omega (arith, s.many, length-append s.part more, zeros_many left) in
    let f = framed_sized (s.part ++ more) (bytes_joined s.part more s.are_bytes (zero_bytes left)) (announced_more s.part more size s.says ∙ ap Some (sym many)) in (
      record {
        items = s.items;
        rest = s.part;
        cut = record { spelled = s.spelled; none_whole = none_yet r s.part more (omega (arith, s.some, zeros_many left)) f };
        last = trace_event.refused from s.before s.byte s.why ∷ [];
        of_rest = refused s.before s.later s.byte s.why s.refusal s.is_part refl;
        is_all = s.is_all;
      },
      λ e. goes_on size left e,
    )
  where
    goes_on : (size left : ℕ) → skipping size left ≡ stopped → ⊥
    goes_on size left e = cc (e)
heard_cut r from bytes events stopped s = absurd s

pub open_sides_hear_cuts : OpenSidesHearCuts
open_sides_hear_cuts r from pieces events after ready e =
    heard_cut r from (bytes_in pieces) events after
    (pieces_stand r from pieces [] [] (running []) events after ready (record { items = []; spelled = refl; messages = []; rest = []; cut = record { spelled = refl; none_whole = (nothing_in r).none_whole }; alive = (nothing_in r).alive; are_bytes = tt; is_all = refl }) e)
