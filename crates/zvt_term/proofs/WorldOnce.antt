-- No trace number counts twice, with both ends of a line.
use Rattle.std.proofs.Common.{◌≡◌, nat_eq, List, [], ◌∷◌, ◌++◌, Option, Some, None, fold, slice_get, refl, ap, subst, ◌∙◌}
use Rattle.std.specs.List.{IsDistinct}
use Rattle.zvt_apdu.specs.Message.{Message}
use Rattle.zvt_till.specs.declared.happenings.Happening.TheVariants.{Connected, Sent as SentOut, Heard as HeardIn, Lost}
use Rattle.zvt_till.specs.declared.orders.Order.{Order}
use Rattle.zvt_till.specs.declared.orders.Order.TheVariants.{Register, Pay, Reverse, CloseDay, Cancel}
use Rattle.zvt_till.specs.declared.orders.OrderRefusal.{OrderRefusal}
use Rattle.zvt_till.specs.Events.{run_settings}
use Rattle.zvt_till.specs.Hearing.{heard_as}
use Rattle.zvt_till.specs.Laws.{TracesStayDistinct}
use Rattle.zvt_till.specs.Refusals.{sent_as}
use Rattle.zvt_till.specs.Till.{facts_of}
use Rattle.zvt_term.specs.declared.turns.Verdict.{Verdict}
use Rattle.zvt_term.specs.declared.world.Move.{Move}
use Rattle.zvt_term.specs.declared.world.Move.TheVariants.{Connect, Order as Ordered, ToTerminal, ToTill, TillLost, TerminalLost}
use Rattle.zvt_settle.specs.Laws.{counts}
use Rattle.zvt_settle.specs.Settling.{Note, Line, Asked, Both, take, both_after, new_both, ask_refusal}
use Rattle.zvt_term.specs.AskedWorld.{Act, Does, Asks, Ends, new_ends, both_in, orders, order_refusal, asks_for, reaches_terminal, reaches_till, move, act, WorldsCountOnce}
use Rattle.zvt_settle.proofs.Once.{counts_once}

-- the till after some moves is the till after some notes
abbrev HasNotes : Ends → Type 0
HasNotes w = (notes : List Note) × (both_after run_settings notes ≡ both_in w)

fold-push : (b : Both) (notes : List Note) (n : Note) → fold take b (notes ++ n ∷ []) ≡ take (fold take b notes) n
fold-push b [] n = refl
fold-push b (m ∷ notes) n = fold-push (take b m) notes n

more : (w v : Ends) (n : Note) → HasNotes w → take (both_in w) n ≡ both_in v → HasNotes v
more w v n h e = (h.0 ++ n ∷ [], fold-push (new_both run_settings) h.0 n ∙ ap (λ b. take b n) h.1 ∙ e)

ordered : (w : Ends) (o : Order) → HasNotes w → HasNotes (orders w o None)
ordered w Register h = more w (orders w Register None) (Line (SentOut (sent_as w.till.settings.currency Register))) h refl
ordered w (Pay a) h = more w (orders w (Pay a) None) (Line (SentOut (sent_as w.till.settings.currency (Pay a)))) h refl
ordered w (Reverse e) h = more w (orders w (Reverse e) None) (Line (SentOut (sent_as w.till.settings.currency (Reverse e)))) h refl
ordered w CloseDay h = more w (orders w CloseDay None) (Line (SentOut (sent_as w.till.settings.currency CloseDay))) h refl
ordered w Cancel h = more w (orders w Cancel None) (Line (SentOut (sent_as w.till.settings.currency Cancel))) h refl

ordered-if : (w : Ends) (o : Order) (why : Option OrderRefusal) → HasNotes w → HasNotes (orders w o why)
ordered-if w o None h = ordered w o h
ordered-if w o (Some why) h = h

to-terminal : (w : Ends) (v : Verdict) (m : Option Message) → HasNotes w → HasNotes (reaches_terminal w v m)
to-terminal w v None h = h
to-terminal w v (Some m) h = h

to-till : (w : Ends) (m : Option Message) → HasNotes w → HasNotes (reaches_till w m)
to-till w None h = h
to-till w (Some m) h = more w (reaches_till w (Some m)) (Line (HeardIn (heard_as m))) h refl

moved : (w : Ends) (m : Move) → HasNotes w → HasNotes (move w m)
moved w Connect h = more w (move w Connect) (Line Connected) h refl
moved w (Ordered o) h = ordered-if w o (order_refusal w o) h
moved w (ToTerminal k v) h = to-terminal w v (slice_get w.from_till k) h
moved w (ToTill k) h = to-till w (slice_get w.from_terminal k) h
moved w TillLost h = more w (move w TillLost) (Line Lost) h refl
moved w TerminalLost h = h

asked-if : (w : Ends) (why : Option OrderRefusal) → HasNotes w → HasNotes (asks_for w why)
asked-if w None h = more w (asks_for w None) Asked h refl
asked-if w (Some why) h = h

acted : (w : Ends) (x : Act) → HasNotes w → HasNotes (act w x)
acted w (Does m) h = moved w m h
acted w Asks h = asked-if w (ask_refusal (facts_of w.till) w.settling.asking) h

run-acts : (w : Ends) (acts : List Act) → HasNotes w → HasNotes (fold act w acts)
run-acts w [] h = h
run-acts w (x ∷ acts) h = run-acts (act w x) acts (acted w x h)

pub worlds_count_once : TracesStayDistinct → WorldsCountOnce
worlds_count_once law acts =
    let h = run-acts new_ends acts ([], refl) in subst (λ (b : Both). IsDistinct nat_eq (counts b)) h.1 (counts_once law run_settings h.0)
