-- What a request has shown that the guards let through.
use Rattle.std.proofs.Common.{ap, ◌∙◌, ◌≡◌, refl, ◌||◌, Bool, true, false, not, if◌then◌else◌, List, ℕ, codes, Option, Some, None, Ok}
use Rattle.std.specs.Str.{bytes_eq}
use Rattle.std.proofs.lemmas.Slice.Eq.{bytes_eq-Decides}
use Rattle.zvt_web.specs.Ask.{Ask}
use Rattle.zvt_web.specs.Guards.{Guards, bears, guard, is_open, is_our_host, is_our_origin}
use Rattle.sha2.specs.Sha256.{sha256}
use Rattle.zvt_web.specs.Laws.{TokenHoldersPass}
use Rattle.zvt_web.specs.Request.{Request}
use Rattle.zvt_web.specs.Routes.{ask_if, ask_of, routed}
use Rattle.zvt_web.specs.declared.refusals.Refusal.{Refusal}
use Rattle.zvt_web.specs.declared.refusals.Refusal.TheVariants.{Host, Origin, Preflight, Token}

-- texts that pass the test are equal
pub same_text : (one other : List ℕ) → bytes_eq one other ≡ true → one ≡ other
same_text one other same = (bytes_eq-Decides one other).0 same

-- the guard of these answers
abbrev guarded : (host origin preflight shown : Bool) → Option Refusal
guarded host origin preflight shown =
    if not host then Some Host else (if not origin then Some Origin else (if preflight then Some Preflight else (if shown then None else Some Token)))

passed : (host origin preflight shown : Bool) → guarded host origin preflight shown ≡ None → (host ≡ true) × (origin ≡ true) × (shown ≡ true)
passed true true true shown none = absurd (cc (none))
passed true true false true none = (refl, refl, refl)
passed true true false false none = absurd (cc (none))
passed true false preflight shown none = absurd (cc (none))
passed false origin preflight shown none = absurd (cc (none))

-- what was shown, and what the route asks
pub record Passes (g : Guards) (r : Request) (a : Ask) : Type 0 where
  pub host : is_our_host g r.host ≡ true
  pub origin : is_our_origin r.host r.origin ≡ true
  pub shown : (is_open r.method r.path || bears g r.authorization) ≡ true
  pub asks : routed r ≡ Ok a

from_guard : (g : Guards) (r : Request) (a : Ask) (refusal : Option Refusal) → guard g r ≡ refusal → ask_if refusal r ≡ Ok a → Passes g r a
from_guard g r a None none asks =
    let p = passed (is_our_host g r.host) (is_our_origin r.host r.origin) (bytes_eq r.method (codes "OPTIONS")) (is_open r.method r.path || bears g r.authorization) none in
    record { host = p.0; origin = p.1; shown = p.2; asks = asks }
from_guard g r a (Some refusal) some asks = absurd (cc (asks))

pub passes : (g : Guards) (r : Request) (a : Ask) → ask_of g r ≡ Ok a → Passes g r a
passes g r a asks = from_guard g r a (guard g r) refl asks

-- ---- the converse

shown_last : (file : Bool) → guarded true true false (file || true) ≡ None
shown_last true = refl
shown_last false = refl

passing : (host origin preflight file shown : Bool) → host ≡ true → origin ≡ true → preflight ≡ false → shown ≡ true
    → guarded host origin preflight (file || shown) ≡ None
passing host origin preflight file shown ours page other token =
    ap (λ b. guarded b origin preflight (file || shown)) ours ∙ ap (λ b. guarded true b preflight (file || shown)) page
    ∙ ap (λ b. guarded true true b (file || shown)) other ∙ ap (λ b. guarded true true false (file || b)) token ∙ shown_last file

pub token_holders_pass : TokenHoldersPass
token_holders_pass g r token ours page other sent same =
    let bearer : bears g r.authorization ≡ true = ap (bears g) sent ∙ (bytes_eq-Decides (sha256 token) g.digest).1 same in
    ap (λ (x : Option Refusal). ask_if x r)
    (passing (is_our_host g r.host) (is_our_origin r.host r.origin) (bytes_eq r.method (codes "OPTIONS")) (is_open r.method r.path) (bears g r.authorization)
    ours page other bearer)
