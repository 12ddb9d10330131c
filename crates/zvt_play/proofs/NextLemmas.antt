-- What has come of the next message.
use Rattle.std.proofs.Common.{◌≡◌, ℕ, ◌≤◌, Bool, true, false, Bor, List, [], ◌++◌, Option, length, take, drop, sym, ◌∙◌, ap, subst, arith, append_assoc, append-nil, length-append, length-take}
use Rattle.std.specs.Io.KnownBytes.{Consumes}
use Rattle.zvt_grammar.specs.declared.why.Why.{Why}
use Rattle.zvt_stream.specs.LineReading.{IsRefusedBy, LineReading, Reads, UnfinishedBy}
use Rattle.zvt_stream.specs.Feeds.{Lends}
use Rattle.zvt_stream.specs.StreamState.{IsReserved, StreamState}
use Rattle.zvt_stream.specs.declared.stream.FedView.TheVariants as view
use Rattle.zvt_stream.proofs.HearingLemmas.{consumes_more, consumes_none}
use Rattle.zvt_stream.proofs.LineRunLemmas.{split}
use Rattle.zvt_play.specs.Playing.{Fills, IsReady, LeavesOrNot, NextOf, NoMessage, NoMore}
use Rattle.zvt_play.specs.declared.difference.Difference.{Difference}
use Rattle.zvt_play.specs.declared.difference.Difference.TheVariants.{Closed, Malformed, Other, Read, Surplus, Write}

-- of what was unheard and what was then read the stream holds the first bytes, and these are unheard
pub record Coming (unheard : List ℕ) (coming : Option (List ℕ)) (held rest : List ℕ) (left : Option (List ℕ)) : Type 0 where
  pub read : List ℕ
  pub consumed : Consumes coming left read
  pub cut : unheard ++ read ≡ held ++ rest

pub begins : (unheard held : List ℕ) (coming : Option (List ℕ)) → held ≡ [] → Coming unheard coming held unheard coming
begins unheard held coming none = record {
  read = [];
  consumed = consumes_none coming;
  cut = append-nil unheard ∙ ap (λ (h : List ℕ). h ++ unheard) (sym none);
}

pub filled : (unheard : List ℕ) (coming : Option (List ℕ)) (held rest : List ℕ) (middle : Option (List ℕ)) (more : List ℕ) (left : Option (List ℕ)) → Coming unheard coming held rest middle → Fills rest middle more left → Coming unheard coming held more left
filled unheard coming held rest middle more left c f = record {
  read = c.read ++ f.read;
  consumed = consumes_more coming middle left c.read f.read c.consumed f.consumed;
  cut = sym (append_assoc unheard c.read f.read) ∙ ap (λ (b : List ℕ). b ++ f.read) c.cut ∙ append_assoc held rest f.read ∙ ap (λ (b : List ℕ). held ++ b) f.cut;
}

pub holds_all : (unheard : List ℕ) (coming : Option (List ℕ)) (held rest : List ℕ) (left : Option (List ℕ)) (now none : List ℕ) → Coming unheard coming held rest left → now ≡ held ++ rest → none ≡ [] → Coming unheard coming now none left
holds_all unheard coming held rest left now none c all is = record {
  read = c.read;
  consumed = c.consumed;
  cut = c.cut ∙ sym all ∙ sym (append-nil now) ∙ ap (λ (b : List ℕ). now ++ b) (sym is);
}

pub comes : (r : LineReading) (demanded unheard : List ℕ) (coming : Option (List ℕ)) (rest : List ℕ) (left : Option (List ℕ)) (old new : StreamState) (taken : ℕ) (after : Option (Bor (List ℕ))) → old.reading ≡ r → Coming unheard coming old.held rest left → Lends old rest (view.Message taken) new
    → LeavesOrNot demanded (old.held ++ take taken rest) after → NextOf r demanded unheard coming (drop taken rest) left new after
comes r demanded unheard coming rest left old new taken after reading c f agreed = (
  record {
    message = f.0;
    bytes = old.held ++ take taken rest;
    read = c.read;
    some = omega (arith, f.1.0, f.1.1, length-append old.held (take taken rest), length-take taken rest);
    spells = subst (λ (s : LineReading). Reads s f.0 (old.held ++ take taken rest)) reading f.1.2;
    lent = f.2;
    consumed = c.consumed;
    cut = c.cut ∙ split old.held rest taken;
  },
  agreed,
)

-- what the stream holds after that
pub ready : (r : LineReading) (old new : StreamState) (rest : List ℕ) (taken : ℕ) → old.reading ≡ r → IsReserved old → old.room ≤ new.room → Lends old rest (view.Message taken) new → IsReady r new
ready r old new rest taken reading reserved room f = record {
  holds = f.1.3.0;
  goes_on = f.1.3.1;
  reading = f.1.4 ∙ reading;
  reserved = omega (arith, reserved, room);
}

-- nothing more came
pub nothing_more : (r : LineReading) (why : Difference) (unheard : List ℕ) (coming : Option (List ℕ)) (held rest : List ℕ) (middle left : Option (List ℕ)) (have : ℕ) (reads : LineReading) → reads ≡ r → UnfinishedBy reads held → have ≡ length held → Coming unheard coming held rest middle → NoMore why have rest middle left → NoMessage r why unheard coming left
nothing_more r (Closed bytes) unheard coming held rest middle left have reads reading unfinished is c n = record {
  bytes = held;
  rest = [];
  read = c.read ++ [];
  consumed = consumes_more coming middle left c.read [] c.consumed n.2;
  cut = ap (λ (b : List ℕ). unheard ++ b) (append-nil c.read) ∙ c.cut ∙ ap (λ (b : List ℕ). held ++ b) n.1;
  none = (subst (λ (s : LineReading). UnfinishedBy s held) reading unfinished, n.0 ∙ is, n.3);
}
nothing_more r Read unheard coming held rest middle left have reads reading unfinished is c n = record {
  bytes = held;
  rest = [];
  read = c.read ++ [];
  consumed = consumes_more coming middle left c.read [] c.consumed n.1;
  cut = ap (λ (b : List ℕ). unheard ++ b) (append-nil c.read) ∙ c.cut ∙ ap (λ (b : List ℕ). held ++ b) n.0;
  none = subst (λ (s : LineReading). UnfinishedBy s held) reading unfinished;
}
nothing_more r (Malformed place why) unheard coming held rest middle left have reads reading unfinished is c n = absurd n
nothing_more r (Other at) unheard coming held rest middle left have reads reading unfinished is c n = absurd n
nothing_more r (Surplus count) unheard coming held rest middle left have reads reading unfinished is c n = absurd n
nothing_more r Write unheard coming held rest middle left have reads reading unfinished is c n = absurd n

-- no message begins with what came
pub malformed : (r : LineReading) (place : ℕ) (why : Why) (unheard : List ℕ) (coming : Option (List ℕ)) (rest : List ℕ) (left : Option (List ℕ)) (old new : StreamState) → old.reading ≡ r → Coming unheard coming old.held rest left → Lends old rest (view.Refused place why) new → NoMessage r (Malformed place why) unheard coming left
malformed r place why unheard coming rest left old new reading c f = record {
  bytes = old.held ++ rest;
  rest = [];
  read = c.read;
  consumed = c.consumed;
  cut = c.cut ∙ sym (append-nil (old.held ++ rest));
  none = subst (λ (s : LineReading). IsRefusedBy s (old.held ++ rest) place why) reading f.0.0;
}

pub not_stopped : (b : Bool) → b ≡ false → b ≡ true → ⊥
not_stopped b e f = cc
