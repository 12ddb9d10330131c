use Rattle.std.proofs.Common.{◌≡◌, ◌⊎◌, inl, inr, ℕ, Some, Option}
use Rattle.zvt_apdu.specs.Grammar.{BytesFrom, FieldsFrom, form_of}
use Rattle.zvt_apdu.specs.Kinds.{Kind, kind_at}
use Rattle.zvt_apdu.specs.declared.kinds.Kind.TheVariants as kind
use Rattle.zvt_apdu.proofs.FormLemmas.{form_of_one}
use Rattle.zvt_apdu.proofs.frame.form_of.Goals as goal

pub returns-in-Registration : goal.returns-in-Registration
returns-in-Registration c = form_of_one c.args.high c.args.low c.kind_at.ensures c.in-Registration.is

pub returns-in-Authorisation : goal.returns-in-Authorisation
returns-in-Authorisation c = of_one c.kind_at.ensures c.in-Authorisation.is
  where
    of_one : {k : Kind} → k ≡ kind_at c.args.high c.args.low
        → (k ≡ kind.Authorisation) ⊎ ((k ≡ kind.AbortOrder) ⊎ ((k ≡ kind.Status) ⊎ ((k ≡ kind.TextBlock) ⊎ (k ≡ kind.Completion))))
        → Some (FieldsFrom 0) ≡ form_of c.args.high c.args.low
    of_one e (inl is) = form_of_one c.args.high c.args.low e is
    of_one e (inr (inl is)) = form_of_one c.args.high c.args.low e is
    of_one e (inr (inr (inl is))) = form_of_one c.args.high c.args.low e is
    of_one e (inr (inr (inr (inl is)))) = form_of_one c.args.high c.args.low e is
    of_one e (inr (inr (inr (inr is)))) = form_of_one c.args.high c.args.low e is

pub returns-in-Reversal : goal.returns-in-Reversal
returns-in-Reversal c = of_one c.kind_at.ensures c.in-Reversal.is
  where
    of_one : {k : Kind} → k ≡ kind_at c.args.high c.args.low → (k ≡ kind.Reversal) ⊎ (k ≡ kind.EndOfDay) → Some (FieldsFrom 3) ≡ form_of c.args.high c.args.low
    of_one e (inl is) = form_of_one c.args.high c.args.low e is
    of_one e (inr is) = form_of_one c.args.high c.args.low e is

pub returns-in-Ack : goal.returns-in-Ack
returns-in-Ack c = of_one c.kind_at.ensures c.in-Ack.is
  where
    of_one : {k : Kind} → k ≡ kind_at c.args.high c.args.low → (k ≡ kind.Ack) ⊎ (k ≡ kind.Nack) → Some (BytesFrom 0) ≡ form_of c.args.high c.args.low
    of_one e (inl is) = form_of_one c.args.high c.args.low e is
    of_one e (inr is) = form_of_one c.args.high c.args.low e is

pub returns-in-Intermediate : goal.returns-in-Intermediate
returns-in-Intermediate c = of_one c.kind_at.ensures c.in-Intermediate.is
  where
    of_one : {k : Kind} → k ≡ kind_at c.args.high c.args.low → (k ≡ kind.Intermediate) ⊎ ((k ≡ kind.PrintLine) ⊎ (k ≡ kind.Abort)) → Some (BytesFrom 1) ≡ form_of c.args.high c.args.low
    of_one e (inl is) = form_of_one c.args.high c.args.low e is
    of_one e (inr (inl is)) = form_of_one c.args.high c.args.low e is
    of_one e (inr (inr is)) = form_of_one c.args.high c.args.low e is

pub returns-in-Other : goal.returns-in-Other
returns-in-Other c = form_of_one c.args.high c.args.low c.kind_at.ensures c.in-Other.is
