-- Names and meanings worked by hand.
use Rattle.std.proofs.Common.{◌≡◌, [], refl, codes}
use Rattle.std.specs.Char.{encode_utf8}
use Rattle.zvt_c.specs.Names.{meaning_in, name_in, outcomes, status_in}
use Rattle.zvt_text.specs.Meanings.{meaning_of, status_words}
use Rattle.zvt_c.specs.Asking.{AskingRows}
use Rattle.zvt_c.specs.Cards.{CardRows}
use Rattle.zvt_c.specs.Lines.{LineRows}
use Rattle.zvt_c.specs.Version.{version}

pub no_error : meaning_in 0 ≡ codes "success"
unfolding meaning_of
no_error = refl

-- 6C
pub given_up : meaning_in 108 ≡ codes "abort by time-out or abort key"
unfolding meaning_of
given_up = refl

-- 01
pub unlisted : meaning_in 1 ≡ []
unfolding meaning_of
unlisted = refl

-- 65, which the text of a message has as a number alone
pub no_card_data : meaning_in 101 ≡ codes "no card data found"
unfolding meaning_of
no_card_data = refl

-- 0A as a status, and as a result code
pub card_wanted : status_in 10 ≡ codes "insert the card"
unfolding status_words
card_wanted = refl

pub no_result : meaning_in 10 ≡ []
unfolding meaning_of
no_result = refl

-- 01 0A: more than a byte
pub no_status : status_in 266 ≡ []
no_status = refl

-- 01 6C: more than a byte
pub no_byte : meaning_in 364 ≡ []
no_byte = refl

pub paid : name_in outcomes 2 ≡ codes "paid"
paid = refl

pub unnamed : name_in outcomes 9 ≡ []
unnamed = refl

pub released : version ≡ codes "0.2.0"
released = refl

pub cards : CardRows
cards = (refl, refl, refl, refl, refl, refl)

pub lines : LineRows
unfolding encode_utf8
lines = (refl, refl, refl, refl, refl, refl, refl, refl)

pub asking : AskingRows
asking = (refl, refl, refl, refl, refl, refl)
