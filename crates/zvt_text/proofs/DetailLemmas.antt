-- What a head says by the parts of a message.
use Rattle.std.proofs.Common.{◌≡◌, ℕ, Option, Some, None, List, ◌++◌, refl, ◌∙◌, ap, append_assoc}
use Rattle.zvt_apdu.specs.Message.{Message, registration, abort}
use Rattle.zvt_apdu.specs.Kinds.{kind_of}
use Rattle.zvt_apdu.specs.declared.kinds.Kind.TheVariants as kind
use Rattle.zvt_apdu.specs.Views.{code_in, config_in, currency_in, payload_in}
use Rattle.zvt_text.specs.MessageTexts.{config_text, data_text, detail_text, named_currency, part_text, words_part}
use Rattle.zvt_text.specs.declared.text_options.TextOptions.{TextOptions}

two_parts : {A B : Type 0} → (f : A → List ℕ) (g : B → List ℕ) (a c : Option A) (b d : Option B) → a ≡ c → b ≡ d → part_text f a ++ part_text g b ≡ part_text f c ++ part_text g d
two_parts f g a c b d p q = ap (λ x. part_text f x ++ part_text g b) p ∙ ap (λ x. part_text f c ++ part_text g x) q

registered : (options : TextOptions) (m : Message) → kind.Registration ≡ kind_of m → part_text config_text (config_in m) ++ part_text named_currency (currency_in m) ≡ detail_text options m
registered options (registration w g None) e = refl
registered options (registration w g (Some s)) e = refl
registered options m e = absurd (cc (e))

given_up : (options : TextOptions) (m : Message) → kind.Abort ≡ kind_of m → part_text words_part (code_in m) ++ part_text data_text (payload_in m) ≡ detail_text options m
given_up options (abort c x) e = refl
given_up options m e = absurd (cc (e))

-- what two parts are, put after a text
joined : (t0 t1 a b whole : List ℕ) → t1 ≡ t0 ++ a → a ++ b ≡ whole → t1 ++ b ≡ t0 ++ whole
joined t0 t1 a b whole one e = ap (λ (t : List ℕ). t ++ b) one ∙ append_assoc t0 a b ∙ ap (λ (l : List ℕ). t0 ++ l) e

pub registration_written : (options : TextOptions) (m : Message) (t0 t1 : List ℕ) (config currency : Option ℕ) → kind.Registration ≡ kind_of m → config ≡ config_in m → currency ≡ currency_in m →
    t1 ≡ t0 ++ part_text config_text config → t1 ++ part_text named_currency currency ≡ t0 ++ detail_text options m
registration_written options m t0 t1 config currency k p q one =
    joined t0 t1 _ _ (detail_text options m) one (two_parts config_text named_currency config (config_in m) currency (currency_in m) p q ∙ registered options m k)

pub abort_written : (options : TextOptions) (m : Message) (t0 t1 : List ℕ) (code : Option ℕ) (payload : Option (List ℕ)) → kind.Abort ≡ kind_of m → code ≡ code_in m → payload ≡ payload_in m →
    t1 ≡ t0 ++ part_text words_part code → t1 ++ part_text data_text payload ≡ t0 ++ detail_text options m
abort_written options m t0 t1 code payload k p q one =
    joined t0 t1 _ _ (detail_text options m) one (two_parts words_part data_text code (code_in m) payload (payload_in m) p q ∙ given_up options m k)
