-- What is kept of the head of a request.
use Rattle.std.specs.Prelude.{◌≡◌, ◌==◌, ◌||◌, ℕ, Bool, true, false, if◌then◌else◌, List, [], ◌∷◌, take, codes, Option, Some, None, is_some}
use Rattle.std.specs.List.{position}
use Rattle.http1.specs.Fields.{Header}
use Rattle.zvt_web.specs.Request.{Request}
use Rattle.zvt_web.specs.Words.{same_letters}

-- the value of the first header with this name
abbrev pub first_value : (name : List ℕ) → List Header → Option (List ℕ)
first_value name [] = None
first_value name (header ∷ more) = if same_letters header.0 name then Some header.1 else first_value name more

-- two headers have this name
abbrev pub is_repeated : (name : List ℕ) → List Header → Bool
is_repeated name [] = false
is_repeated name (header ∷ more) = if same_letters header.0 name then is_some (first_value name more) else is_repeated name more

abbrev pub up_to : Option ℕ → List ℕ → List ℕ
up_to None target = target
up_to (Some end) target = take end target

-- the target up to its first question mark
abbrev pub path_of : (target : List ℕ) → List ℕ
path_of target = up_to (position (λ character. character == 63) target) target

-- the request of a head, while its body is not read
unfoldable pub started : (method target : List ℕ) → List Header → Request
started method target headers = record {
  method = method;
  path = path_of target;
  key = first_value (codes "idempotency-key") headers;
  authorization = first_value (codes "authorization") headers;
  host = first_value (codes "host") headers;
  origin = first_value (codes "origin") headers;
  prefer = first_value (codes "prefer") headers;
  last_event = first_value (codes "last-event-id") headers;
  body = [];
}

-- a header that decides something was sent twice, so that it is open which one counts
abbrev pub is_doubtful : List Header → Bool
is_doubtful headers =
    is_repeated (codes "idempotency-key") headers || (is_repeated (codes "authorization") headers || is_repeated (codes "origin") headers)

unfoldable pub head_of : (method target : List ℕ) → List Header → Option Request
head_of method target headers = if is_doubtful headers then None else Some (started method target headers)

-- ---- worked rows

abbrev pub some_headers : List Header
some_headers = (codes "Host", codes "localhost:8080") ∷ (codes "ORIGIN", codes "http://localhost:8080") ∷ (codes "host", codes "other") ∷ []

abbrev pub HeadRows : Type 0
HeadRows =
    (first_value (codes "host") some_headers ≡ Some (codes "localhost:8080")) ×
    (first_value (codes "origin") some_headers ≡ Some (codes "http://localhost:8080")) ×
    (first_value (codes "hos") some_headers ≡ None) ×
    (is_repeated (codes "host") some_headers ≡ true) ×
    (is_repeated (codes "origin") some_headers ≡ false) ×
    (is_doubtful some_headers ≡ false) ×
    (is_doubtful ((codes "origin", codes "null") ∷ some_headers) ≡ true) ×
    (path_of (codes "/book?day=1?2") ≡ codes "/book") ×
    (path_of (codes "/book") ≡ codes "/book")
