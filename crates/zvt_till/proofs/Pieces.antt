-- The log of events is one, and knows nothing of where the bytes of a line were cut.
use Rattle.std.proofs.Common.{◌≡◌, ℕ, Bool, true, false, cond, List, [], ◌∷◌, ◌++◌, map, fold, refl, sym, ap, subst, ◌∙◌, append_assoc, append-nil, inl, inr, ◌⊎◌}
use Rattle.std.proofs.lemmas.Bool.{false≢true}
use Rattle.std.proofs.lemmas.List.{map-append, append_cancel_left}
use Rattle.std.proofs.lemmas.List.Sums.{fold-append}
use Rattle.zvt_grammar.specs.Reading.{shortest}
use Rattle.zvt_grammar.proofs.CutLemmas.{cuts_are_one}
use Rattle.zvt_apdu.specs.Message.{Message}
use Rattle.zvt_apdu.proofs.OneMessage.{messages_end_themselves}
use Rattle.zvt_stream.specs.Apdus.{Spells, Alive, NoneWhole, Spelled, Cut}
use Rattle.zvt_stream.proofs.Beginnings.{spelled_more, prefix_alive}
use Rattle.zvt_till.specs.declared.happenings.Happening.{Happening}
use Rattle.zvt_till.specs.declared.happenings.Happening.TheVariants.{Lost}
use Rattle.zvt_till.specs.declared.events.Event.{Event}
use Rattle.zvt_till.specs.declared.events.Event.TheVariants.{Connected as ConnectedEvent, Order as OrderEvent, Piece, Lost as LostEvent}
use Rattle.zvt_till.specs.Refusals.{refusal}
use Rattle.zvt_till.specs.Settings.{strict}
use Rattle.zvt_till.specs.Log.{line_after, line_up, facts_in}
use Rattle.zvt_till.specs.Events.{EndsLine, hears, HearsPiece, FollowsPiece, Follows, Leads}
use Rattle.zvt_till.specs.Cuttings.{LogsAreOne, Brings, CuttingsAgree}
use Rattle.zvt_till.proofs.Segments.{fold-snoc}
use Rattle.zvt_till.proofs.Lines.{down-malformed, line-ordered}

-- a line has one cut
one-cut : (bytes : List ℕ) (ms ns : List Message) (r s : List ℕ) → Cut bytes ms r → Cut bytes ns s → (ms ≡ ns) × (r ≡ s)
one-cut = cuts_are_one Spells (messages_end_themselves shortest)

one-end : (rest : List ℕ) (end other : List Happening) → EndsLine rest end → EndsLine rest other → end ≡ other
one-end rest end other (inl a) (inl b) = a.1 ∙ sym b.1
one-end rest end other (inl a) (inr b) = absurd (b.0 a.0)
one-end rest end other (inr a) (inl b) = absurd (a.0 b.0)
one-end rest end other (inr a) (inr b) = a.1 ∙ sym b.1

one-piece : (bytes piece : List ℕ) (added other : List Happening) → HearsPiece bytes piece added → HearsPiece bytes piece other → added ≡ other
one-piece bytes piece added other h k =
    let earlier : h.earlier ≡ k.earlier = (one-cut bytes h.earlier k.earlier h.left k.left h.cut_before k.cut_before).0 in
    let all = one-cut (bytes ++ piece) (h.earlier ++ h.more) (k.earlier ++ k.more) h.rest k.rest h.cut k.cut in
    let more : h.more ≡ k.more = append_cancel_left h.earlier h.more k.more (all.0 ∙ ap (λ ms. ms ++ k.more) (sym earlier)) in
    let ends : h.end ≡ k.end = one-end h.rest h.end k.end h.ends (subst (λ (r : List ℕ). EndsLine r k.end) (sym all.1) k.ends) in
    h.heard ∙ ap (λ ms. map hears ms ++ h.end) more ∙ ap (λ e. map hears k.more ++ e) ends ∙ sym k.heard

one-follows-piece : (up : Bool) (log : List Happening) (bytes piece : List ℕ) (next other : List Happening) (more others : List ℕ) → FollowsPiece up log bytes piece next more → FollowsPiece up log bytes piece other others → (next ≡ other) × (more ≡ others)
one-follows-piece false log bytes piece next other more others f g = (f.0 ∙ sym g.0, f.1 ∙ sym g.1)
one-follows-piece true log bytes piece next other more others f g = (f.2 ∙ ap (λ a. log ++ a) (one-piece bytes piece f.0 g.0 f.1 g.1) ∙ sym g.2, f.3 ∙ sym g.3)

one-follows : (log : List Happening) (bytes : List ℕ) (event : Event) (next other : List Happening) (more others : List ℕ) → Follows log bytes event next more → Follows log bytes event other others → (next ≡ other) × (more ≡ others)
one-follows log bytes ConnectedEvent next other more others f g = (f.0 ∙ sym g.0, f.1 ∙ sym g.1)
one-follows log bytes (OrderEvent order) next other more others f g = (f.0 ∙ sym g.0, f.1 ∙ sym g.1)
one-follows log bytes (Piece piece) next other more others f g = one-follows-piece (line_up log) log bytes piece.items next other more others f g
one-follows log bytes LostEvent next other more others f g = (f.0 ∙ sym g.0, f.1 ∙ sym g.1)

one-leads : (events : List Event) (log : List Happening) (bytes : List ℕ) (last other : List Happening) (x y : List ℕ) → Leads log bytes events last x → Leads log bytes events other y → last ≡ other
one-leads [] log bytes last other x y f g = sym f.0 ∙ g.0
one-leads (event ∷ events) log bytes last other x y f g =
    let same = one-follows log bytes event f.0 g.0 f.1 g.1 f.2 g.2 in
    one-leads events g.0 g.1 last other x y (subst (λ (b : List ℕ). Leads g.0 b events last x) same.1 (subst (λ (l : List Happening). Leads l f.1 events last x) same.0 f.3)) g.3

pub logs_are_one : LogsAreOne
logs_are_one events log other p q = one-leads events [] [] log other p.0 q.0 p.1 q.1

-- of two prefixes of one list one is a prefix of the other
prefixes : (a b x y : List ℕ) → a ++ x ≡ b ++ y → ((z : List ℕ) × (a ≡ b ++ z)) ⊎ ((z : List ℕ) × (b ≡ a ++ z))
prefixes [] b x y e = inr (b, refl)
prefixes (c ∷ a) [] x y e = inl (c ∷ a, refl)
prefixes (c ∷ a) (d ∷ b) x y e =
    let head : c ≡ d = cc in
    let tail : a ++ x ≡ b ++ y = cc in
    longer head (prefixes a b x y tail)
  where
    longer : c ≡ d → ((z : List ℕ) × (a ≡ b ++ z)) ⊎ ((z : List ℕ) × (b ≡ a ++ z)) → ((z : List ℕ) × (c ∷ a ≡ d ∷ (b ++ z))) ⊎ ((z : List ℕ) × (d ∷ b ≡ c ∷ (a ++ z)))
    longer head (inl p) = let same = p.1 in inl (p.0, cc)
    longer head (inr p) = let same = p.1 in inr (p.0, cc)

-- what is dead stays dead, and holds no message, whatever follows
dead-longer : (rest more : List ℕ) → NoneWhole rest → (Alive rest → ⊥) → NoneWhole (rest ++ more)
dead-longer rest more none dead message prefix later e s = by-prefix (prefixes rest prefix more later e)
  where
    by-prefix : ((z : List ℕ) × (rest ≡ prefix ++ z)) ⊎ ((z : List ℕ) × (prefix ≡ rest ++ z)) → ⊥
    by-prefix (inl p) = none message prefix p.0 p.1 s
    by-prefix (inr p) = dead (record { value = message; rest = p.0; spelled = subst (λ (b : List ℕ). Spells message b) p.1 s })

-- messages leave the line as it is
up-hears : (up : Bool) (ms : List Message) → fold line_after up (map hears ms) ≡ up
up-hears up [] = refl
up-hears up (m ∷ ms) = up-hears up ms

up-after : (log : List Happening) (ms : List Message) → line_up log ≡ true → line_up (log ++ (map hears ms ++ [])) ≡ true
up-after log ms up = ap (λ x. line_up (log ++ x)) (append-nil (map hears ms)) ∙ fold-append line_after false log (map hears ms) ∙ up-hears (line_up log) ms ∙ up

-- a piece that leaves the line up, and one more
both : (bytes prefix back : List ℕ) (added more : List Happening) (h : HearsPiece bytes prefix added) → h.end ≡ [] → HearsPiece (bytes ++ prefix) back more → HearsPiece bytes (prefix ++ back) (added ++ more)
both bytes prefix back added more h none k =
    let earlier : k.earlier ≡ h.earlier ++ h.more = (one-cut (bytes ++ prefix) k.earlier (h.earlier ++ h.more) k.left h.rest k.cut_before h.cut).0 in
    let messages : k.earlier ++ k.more ≡ h.earlier ++ (h.more ++ k.more) = ap (λ ms. ms ++ k.more) earlier ∙ append_assoc h.earlier h.more k.more in
    let cut : Cut (bytes ++ (prefix ++ back)) (h.earlier ++ (h.more ++ k.more)) k.rest =
    subst (λ (b : List ℕ). Cut b (h.earlier ++ (h.more ++ k.more)) k.rest) (append_assoc bytes prefix back) (subst (λ (ms : List Message). Cut ((bytes ++ prefix) ++ back) ms k.rest) messages k.cut) in
    let first : added ≡ map hears h.more = h.heard ∙ ap (λ e. map hears h.more ++ e) none ∙ append-nil (map hears h.more) in
    record {
      earlier = h.earlier;
      more = h.more ++ k.more;
      left = h.left;
      rest = k.rest;
      end = k.end;
      cut_before = h.cut_before;
      cut = cut;
      ends = k.ends;
      heard =
          ap (λ a. a ++ more) first ∙ ap (λ a. map hears h.more ++ a) k.heard
          ∙ sym (append_assoc (map hears h.more) (map hears k.more) k.end) ∙ ap (λ a. a ++ k.end) (sym (map-append hears h.more k.more));
    }

-- a piece that ends the line, and more
ended : (bytes prefix back : List ℕ) (added : List Happening) (h : HearsPiece bytes prefix added) → (Alive h.rest → ⊥) → HearsPiece bytes (prefix ++ back) added
ended bytes prefix back added h dead =
    let longer : Spelled (bytes ++ (prefix ++ back)) (h.earlier ++ h.more) (h.rest ++ back) =
    subst (λ (b : List ℕ). Spelled b (h.earlier ++ h.more) (h.rest ++ back)) (append_assoc bytes prefix back) (spelled_more (h.earlier ++ h.more) (bytes ++ prefix) h.rest back h.cut.spelled) in
    record {
      earlier = h.earlier;
      more = h.more;
      left = h.left;
      rest = h.rest ++ back;
      end = h.end;
      cut_before = h.cut_before;
      cut = record { spelled = longer; none_whole = dead-longer h.rest back h.cut.none_whole dead };
      ends = still-dead h.ends;
      heard = h.heard;
    }
  where
    still-dead : EndsLine h.rest h.end → EndsLine (h.rest ++ back) h.end
    still-dead (inl a) = absurd (dead a.0)
    still-dead (inr d) = inr ((λ a. dead (prefix_alive h.rest back a)), d.1)

-- where a line goes on, its bytes are these too
abbrev AgreesOn : List Happening → List ℕ → List ℕ → Type 0
AgreesOn log bytes other = line_up log ≡ true → bytes ≡ other

joined-down : (log next last : List Happening) (bytes prefix back middle later : List ℕ) (up : Bool) → line_up next ≡ up → up ≡ false → FollowsPiece up next middle back last later → (last ≡ next) × (later ≡ middle)
joined-down log next last bytes prefix back middle later false e d f = (f.0, f.1)
joined-down log next last bytes prefix back middle later true e d f = absurd (false≢true (sym d))

joined-up : (next last : List Happening) (back middle later : List ℕ) (up : Bool) → up ≡ true → FollowsPiece up next middle back last later → FollowsPiece true next middle back last later
joined-up next last back middle later true e f = f
joined-up next last back middle later false e f = absurd (false≢true e)

joined-by : (log next last : List Happening) (bytes prefix back middle later : List ℕ) (up : Bool) → line_up log ≡ up → FollowsPiece up log bytes prefix next middle → FollowsPiece (line_up next) next middle back last later
    → (whole : List ℕ) × FollowsPiece up log bytes (prefix ++ back) last whole × AgreesOn last later whole
joined-by log next last bytes prefix back middle later false e f g =
    let down : line_up next ≡ false = ap line_up f.0 ∙ e in
    let same = joined-down log next last bytes prefix back middle later (line_up next) refl down g in
    (bytes, (same.0 ∙ f.0, refl), λ still. same.1 ∙ f.1)
joined-by log next last bytes prefix back middle later true e f g = by-end f.1.ends
  where
    by-end : EndsLine f.1.rest f.1.end → (whole : List ℕ) × FollowsPiece true log bytes (prefix ++ back) last whole × AgreesOn last later whole
    by-end (inl alive) =
        let up : line_up next ≡ true = ap line_up (f.2 ∙ ap (λ a. log ++ a) (f.1.heard ∙ ap (λ x. map hears f.1.more ++ x) alive.1)) ∙ up-after log f.1.more e in
        let h = joined-up next last back middle later (line_up next) up g in
        let second : HearsPiece (bytes ++ prefix) back h.0 = subst (λ (b : List ℕ). HearsPiece b back h.0) f.3 h.1 in
        let last-is : last ≡ log ++ (f.0 ++ h.0) = h.2 ∙ ap (λ x. x ++ h.0) f.2 ∙ append_assoc log f.0 h.0 in
        (bytes ++ (prefix ++ back), (f.0 ++ h.0, both bytes prefix back f.0 h.0 f.1 alive.1 second, last-is, refl), λ still. h.3 ∙ ap (λ (b : List ℕ). b ++ back) f.3 ∙ append_assoc bytes prefix back)
    by-end (inr dead) =
        let down : line_up next ≡ false = ap line_up (f.2 ∙ ap (λ a. log ++ a) (f.1.heard ∙ ap (λ x. map hears f.1.more ++ x) dead.1)) ∙ down-malformed log (map hears f.1.more) in
        let same = joined-down log next last bytes prefix back middle later (line_up next) refl down g in
        (bytes ++ (prefix ++ back), (f.0, ended bytes prefix back f.0 f.1 dead.0, same.0 ∙ f.2, refl), λ still. absurd (false≢true (sym down ∙ sym (ap line_up same.0) ∙ still)))

-- a piece's event is its bytes
as-piece : (log : List Happening) (bytes piece : List ℕ) (event : Event) (next : List Happening) (more : List ℕ) → Brings piece event → Follows log bytes event next more → FollowsPiece (line_up log) log bytes piece next more
as-piece log bytes piece ConnectedEvent next more b f = absurd b
as-piece log bytes piece (OrderEvent order) next more b f = absurd b
as-piece log bytes piece (Piece p) next more b f = subst (λ (s : List ℕ). FollowsPiece (line_up log) log bytes s next more) b f
as-piece log bytes piece LostEvent next more b f = absurd b

of-piece : (log : List Happening) (bytes piece : List ℕ) (event : Event) (next : List Happening) (more : List ℕ) → Brings piece event → FollowsPiece (line_up log) log bytes piece next more → Follows log bytes event next more
of-piece log bytes piece ConnectedEvent next more b f = absurd b
of-piece log bytes piece (OrderEvent order) next more b f = absurd b
of-piece log bytes piece (Piece p) next more b f = subst (λ (s : List ℕ). FollowsPiece (line_up log) log bytes s next more) (sym b) f
of-piece log bytes piece LostEvent next more b f = absurd b

-- events lead to the same log from any bytes that a line that is up has
cond-agrees : (up : Bool) (bytes other : List ℕ) → (up ≡ true → bytes ≡ other) → cond up bytes [] ≡ cond up other []
cond-agrees true bytes other a = a refl
cond-agrees false bytes other a = refl

piece-other : (log next : List Happening) (bytes other piece more : List ℕ) (up : Bool) → line_up log ≡ up → AgreesOn log bytes other → FollowsPiece up log bytes piece next more → (others : List ℕ) × FollowsPiece up log other piece next others × AgreesOn next more others
piece-other log next bytes other piece more true e a f = (more, subst (λ (b : List ℕ). FollowsPiece true log b piece next more) (a e) f, λ still. refl)
piece-other log next bytes other piece more false e a f = (other, (f.0, refl), λ still. absurd (false≢true (sym e ∙ sym (ap line_up f.0) ∙ still)))

follows-other : (log next : List Happening) (bytes other more : List ℕ) (event : Event) → AgreesOn log bytes other → Follows log bytes event next more → (others : List ℕ) × Follows log other event next others × AgreesOn next more others
follows-other log next bytes other more ConnectedEvent a f = (cond (line_up log) other [], (f.0, refl), λ still. f.1 ∙ cond-agrees (line_up log) bytes other a)
follows-other log next bytes other more (OrderEvent order) a f = (other, (f.0, refl), λ still. f.1 ∙ a (sym (line-ordered log order (refusal (facts_in strict log) order)) ∙ sym (ap line_up f.0) ∙ still))
follows-other log next bytes other more (Piece piece) a f = piece-other log next bytes other piece.items more (line_up log) refl a f
follows-other log next bytes other more LostEvent a f = (other, (f.0, refl), λ still. absurd (false≢true (sym (fold-snoc line_after false log Lost) ∙ sym (ap line_up f.0) ∙ still)))

leads-other : (events : List Event) (log last : List Happening) (bytes other later : List ℕ) → AgreesOn log bytes other → Leads log bytes events last later → (others : List ℕ) × Leads log other events last others
leads-other [] log last bytes other later a f = (other, (f.0, refl))
leads-other (event ∷ events) log last bytes other later a f =
    let one = follows-other log f.0 bytes other f.1 event a f.2 in
    let more = leads-other events f.0 last f.1 one.0 later one.2 f.3 in
    (more.0, (f.0, one.0, one.1, more.1))

merged : (before after : List Event) (one other whole : Event) (prefix back : List ℕ) (log last : List Happening) (bytes later : List ℕ) → Brings prefix one → Brings back other → Brings (prefix ++ back) whole
    → Leads log bytes (before ++ one ∷ other ∷ after) last later → (others : List ℕ) × Leads log bytes (before ++ whole ∷ after) last others
merged [] after one other whole prefix back log last bytes later p q r f =
    let first = as-piece log bytes prefix one f.0 f.1 p f.2 in
    let second = as-piece f.0 f.1 back other f.3.0 f.3.1 q f.3.2 in
    let all = joined-by log f.0 f.3.0 bytes prefix back f.1 f.3.1 (line_up log) refl first second in
    let more = leads-other after f.3.0 last f.3.1 all.0 later all.2 f.3.3 in
    (more.0, (f.3.0, all.0, of-piece log bytes (prefix ++ back) whole f.3.0 all.0 r all.1, more.1))
merged (event ∷ before) after one other whole prefix back log last bytes later p q r f =
    let more = merged before after one other whole prefix back f.0 last f.1 later p q r f.3 in
    (more.0, (f.0, f.1, f.2, more.1))

pub cuttings_agree : CuttingsAgree
cuttings_agree before after one other whole prefix back log p q r f = merged before after one other whole prefix back [] log [] f.0 p q r f.1
