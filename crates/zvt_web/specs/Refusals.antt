-- Refusals: their statuses, names and advice.
use Rattle.std.specs.Prelude.{◌≡◌, ◌&&◌, ◌==◌, ℕ, Bool, true, not, nat_le, Option, Some, None, List, ◌++◌, codes}
use Rattle.std.specs.List.{list_all}
use Rattle.zvt_web.specs.declared.refusals.Refusal.{Refusal}
use Rattle.zvt_web.specs.declared.refusals.Refusal.TheVariants.{BadAmount, BadBody, BadKey, BadRequest, Busy, Coding, HeadTooLong, Host, Method, NotFound, Origin, Preflight, RepeatedHeader, TargetTooLong, Token, TooLong}
use Rattle.zvt_web.specs.declared.refusals.Verb.{Verb}
use Rattle.zvt_web.specs.declared.refusals.Verb.TheVariants.{Get, Post}

-- a method, as a request line writes it
abbrev pub verb_name : Verb → List ℕ
verb_name Get = codes "GET"
verb_name Post = codes "POST"

abbrev pub refusal_status : Refusal → ℕ
refusal_status Host = 421
refusal_status Origin = 403
refusal_status Preflight = 403
refusal_status Token = 401
refusal_status RepeatedHeader = 400
refusal_status NotFound = 404
refusal_status (Method verb) = 405
refusal_status BadKey = 400
refusal_status BadBody = 400
refusal_status BadAmount = 422
refusal_status TooLong = 413
refusal_status HeadTooLong = 431
refusal_status TargetTooLong = 414
refusal_status Coding = 501
refusal_status BadRequest = 400
refusal_status Busy = 503

-- the name that a program compares
abbrev pub refusal_name : Refusal → List ℕ
refusal_name Host = codes "host"
refusal_name Origin = codes "origin"
refusal_name Preflight = codes "preflight"
refusal_name Token = codes "token"
refusal_name RepeatedHeader = codes "repeated_header"
refusal_name NotFound = codes "not_found"
refusal_name (Method verb) = codes "method"
refusal_name BadKey = codes "bad_key"
refusal_name BadBody = codes "bad_body"
refusal_name BadAmount = codes "bad_amount"
refusal_name TooLong = codes "too_long"
refusal_name HeadTooLong = codes "head_too_long"
refusal_name TargetTooLong = codes "target_too_long"
refusal_name Coding = codes "coding"
refusal_name BadRequest = codes "bad_request"
refusal_name Busy = codes "busy"

-- the method for the header `Allow`
abbrev pub refusal_allow : Refusal → Option Verb
refusal_allow Host = None
refusal_allow Origin = None
refusal_allow Preflight = None
refusal_allow Token = None
refusal_allow RepeatedHeader = None
refusal_allow NotFound = None
refusal_allow (Method verb) = Some verb
refusal_allow BadKey = None
refusal_allow BadBody = None
refusal_allow BadAmount = None
refusal_allow TooLong = None
refusal_allow HeadTooLong = None
refusal_allow TargetTooLong = None
refusal_allow Coding = None
refusal_allow BadRequest = None
refusal_allow Busy = None

-- what is wrong, and what to do
abbrev pub refusal_message : Refusal → List ℕ
refusal_message Host = codes "This service does not answer to that host name. Use the address that it printed when it started, or start it with --allow-host."
refusal_message Origin = codes "Pages of other sites cannot use this service. Open the page of the service itself."
refusal_message Preflight = codes "Pages of other sites cannot use this service. Call it from a program instead."
refusal_message Token = codes "The token is missing or wrong. Send 'Authorization: Bearer TOKEN' with the token from the token file."
refusal_message RepeatedHeader = codes "Authorization, Idempotency-Key or Origin was sent more than once. Send each at most once."
refusal_message NotFound = codes "There is nothing at this path. Check its spelling."
refusal_message (Method verb) = codes "This path does not take that method. Use the one in the header Allow."
refusal_message BadKey = codes "The key is missing or malformed. Send 16 to 40 letters, digits, '-', '_' or '.', and choose a new key for each order."
refusal_message BadBody = codes "The body is not a payment. Send a JSON object with 'amount', a whole number in the smallest unit, and optionally 'currency', a string of four digits."
refusal_message BadAmount = codes "The amount is out of range. Send 1 to 999999999999, in the smallest unit of the currency."
refusal_message TooLong = codes "The body is too long. Send at most 4096 bytes."
refusal_message HeadTooLong = codes "The headers are too long. Send at most 64 of them, and at most 8192 bytes."
refusal_message TargetTooLong = codes "The path is too long. Check the program that built it."
refusal_message Coding = codes "The body has an unknown transfer coding. Send it with a length, or chunked."
refusal_message BadRequest = codes "The request is not valid HTTP. Check the program that sent it."
refusal_message Busy = codes "Too many connections are open. Try again in a moment."

-- the JSON of the answer
unfoldable pub refusal_body : Refusal → List ℕ
refusal_body r =
    codes "{\"error\":\"" ++ refusal_name r ++ codes "\",\"message\":\"" ++ refusal_message r ++ codes "\",\"sent\":false}\n"

-- ---- laws

-- a character that stands for itself in a JSON string: printable ASCII, no quotation mark and no backslash
abbrev pub is_plain : ℕ → Bool
is_plain c = nat_le 32 c && (nat_le c 126 && (not (c == 34) && not (c == 92)))

-- names and advice need no escapes, so the body of each refusal is JSON
abbrev pub RefusalsNeedNoEscapes : Type 0
RefusalsNeedNoEscapes = (r : Refusal) → (list_all is_plain (refusal_name r) ≡ true) × (list_all is_plain (refusal_message r) ≡ true)
