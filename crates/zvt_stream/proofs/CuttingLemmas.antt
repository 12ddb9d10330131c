-- What pieces spell.
use Rattle.std.proofs.Common.{ℕ, List, [], ◌∷◌, ◌++◌, take, drop, ◌≡◌, refl, sym, ◌∙◌, ap, subst, append_assoc, append-nil}
use Rattle.std.specs.List.{concat}
use Rattle.zvt_apdu.specs.Message.{Message}
use Rattle.zvt_stream.specs.LineReading.{CutBy, IsRefusedBy, LineReading, NoneWholeBy, SpelledBy}
use Rattle.zvt_grammar.specs.declared.why.Why.{Why}
use Rattle.zvt_stream.proofs.LineReadingLemmas.{nothing_by, refused_none, spelled_append_by, spelled_more_by}
use Rattle.zvt_stream.specs.StreamState.{StreamState}
use Rattle.zvt_stream.specs.Cutting.{FedWhole, FedPieces, FedRefused, AnyCutting, AnyRefusal}
use Rattle.zvt_stream.proofs.LineRunLemmas.{split}

alike_whole : (old : StreamState) (piece : List ℕ) (ms : List Message) (new : StreamState) → FedWhole old piece ms new → new.reading ≡ old.reading
alike_whole old piece [] new f = f.2
alike_whole old piece (m ∷ ms) new f = alike_whole f.1 (drop f.0 piece) ms new f.3 ∙ f.2.4

whole_cut : (old : StreamState) (piece : List ℕ) (ms : List Message) (new : StreamState) → FedWhole old piece ms new → CutBy old.reading (old.held ++ piece) ms new.held
whole_cut old piece [] new f =
    subst (CutBy old.reading (old.held ++ piece) []) (sym f.1.0) (record { spelled = refl; none_whole = f.0.none_whole })
whole_cut old piece (m ∷ ms) new f =
    let later : List ℕ = drop f.0 piece in
    let P : List ℕ → Type 0 = λ held. CutBy old.reading (held ++ later) ms new.held in
    let rest : CutBy old.reading later ms new.held = subst P f.2.3.0 (subst (λ (r : LineReading). CutBy r (f.1.held ++ later) ms new.held) f.2.4 (whole_cut f.1 later ms new f.3)) in
    record { spelled = (old.held ++ take f.0 piece, later, split old.held piece f.0, f.2.2, rest.spelled); none_whole = rest.none_whole }

pieces_cut : (pieces : List (List ℕ)) (old : StreamState) (ms : List Message) (new : StreamState) → NoneWholeBy old.reading old.held → FedPieces old pieces ms new → CutBy old.reading (old.held ++ concat pieces) ms new.held
pieces_cut [] old ms new none f =
    let P : List Message → Type 0 = λ l. CutBy old.reading (old.held ++ []) l new.held in
    let Q : StreamState → Type 0 = λ s. CutBy old.reading (old.held ++ []) [] s.held in
    subst P (sym f.0) (subst Q (sym f.1) (record { spelled = append-nil old.held; none_whole = none }))
pieces_cut (piece ∷ pieces) old ms new none f =
    let r = old.reading in
    let first : CutBy r (old.held ++ piece) f.0 (f.2).held = whole_cut old piece f.0 f.2 f.4 in
    let alike : (f.2).reading ≡ r = alike_whole old piece f.0 f.2 f.4 in
    let more : CutBy r ((f.2).held ++ concat pieces) f.1 new.held =
    subst (λ (k : LineReading). CutBy k ((f.2).held ++ concat pieces) f.1 new.held) alike (pieces_cut pieces f.2 f.1 new (subst (λ (k : LineReading). NoneWholeBy k (f.2).held) (sym alike) first.none_whole) f.5) in
    let all : SpelledBy r ((old.held ++ piece) ++ concat pieces) (f.0 ++ f.1) new.held = spelled_append_by r f.0 f.1 ((old.held ++ piece) ++ concat pieces) ((f.2).held ++ concat pieces) new.held (spelled_more_by r f.0 (old.held ++ piece) (f.2).held (concat pieces) first.spelled) more.spelled in
    let P : List ℕ → Type 0 = λ b. SpelledBy r b (f.0 ++ f.1) new.held in
    let Q : List Message → Type 0 = λ l. SpelledBy r (old.held ++ (piece ++ concat pieces)) l new.held in
    record { spelled = subst Q (sym f.3) (subst P (append_assoc old.held piece (concat pieces)) all); none_whole = more.none_whole }

alike_pieces : (pieces : List (List ℕ)) (old : StreamState) (ms : List Message) (new : StreamState) → FedPieces old pieces ms new → new.reading ≡ old.reading
alike_pieces [] old ms new f = ap (λ (s : StreamState). s.reading) f.1
alike_pieces (piece ∷ pieces) old ms new f = alike_pieces pieces f.2 f.1 new f.5 ∙ alike_whole old piece f.0 f.2 f.4

pub any_cutting : AnyCutting
any_cutting start pieces ms new starts f =
    let none : NoneWholeBy start.reading start.held = subst (NoneWholeBy start.reading) (sym starts.0) (nothing_by start.reading).none_whole in
    subst (λ (held : List ℕ). CutBy start.reading (held ++ concat pieces) ms new.held) starts.0 (pieces_cut pieces start ms new none f)

refused_cut : (old : StreamState) (piece : List ℕ) (ms : List Message) (place : ℕ) (why : Why) → FedRefused old piece ms place why → (rest : List ℕ) × CutBy old.reading (old.held ++ piece) ms rest × IsRefusedBy old.reading rest place why
refused_cut old piece [] place why f =
    let bytes : List ℕ = old.held ++ piece in
    (bytes, record { spelled = refl; none_whole = refused_none old.reading bytes place why f.1.0 }, f.1.0)
refused_cut old piece (m ∷ ms) place why f =
    let later : List ℕ = drop f.0 piece in
    let P : List ℕ → Type 0 = λ held. (rest : List ℕ) × CutBy old.reading (held ++ later) ms rest × IsRefusedBy old.reading rest place why in
    let rest : (rest : List ℕ) × CutBy old.reading later ms rest × IsRefusedBy old.reading rest place why =
    subst P f.2.3.0 (subst (λ (r : LineReading). (rest : List ℕ) × CutBy r (f.1.held ++ later) ms rest × IsRefusedBy r rest place why) f.2.4 (refused_cut f.1 later ms place why f.3)) in
    (rest.0, record { spelled = (old.held ++ take f.0 piece, later, split old.held piece f.0, f.2.2, rest.1.spelled); none_whole = rest.1.none_whole }, rest.2)

pub any_refusal : AnyRefusal
any_refusal start pieces piece ms more new place why starts f q =
    let r = start.reading in
    let first = any_cutting start pieces ms new starts f in
    let last = subst (λ (k : LineReading). (rest : List ℕ) × CutBy k (new.held ++ piece) more rest × IsRefusedBy k rest place why) (alike_pieces pieces start ms new f) (refused_cut new piece more place why q) in
    (last.0, record { spelled = spelled_append_by r ms more (concat pieces ++ piece) (new.held ++ piece) last.0 (spelled_more_by r ms (concat pieces) new.held piece first.spelled) last.1.spelled; none_whole = last.1.none_whole }, last.2)
