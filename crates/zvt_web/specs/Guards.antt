-- What a request has to show before a route looks at it.
use Rattle.std.specs.Prelude.{◌≡◌, ◌&&◌, ◌||◌, ◌==◌, not, ℕ, Bool, true, false, if◌then◌else◌, List, [], ◌∷◌, ◌++◌, codes, decimal, Option, Some, None}
use Rattle.std.specs.List.{list_any}
use Rattle.std.specs.Str.{bytes_eq}
use Rattle.sha2.specs.Sha256.{sha256}
use Rattle.zvt_web.specs.Request.{Request}
use Rattle.zvt_web.specs.Words.{same_letters, trailing}
use Rattle.zvt_web.specs.declared.refusals.Refusal.{Refusal}
use Rattle.zvt_web.specs.declared.refusals.Refusal.TheVariants.{Host, Origin, Preflight, Token}

-- the hosts by which a service is reached, with their ports, and the digest of its token
pub record Guards : Type 0 where
  pub hosts : List (List ℕ)
  pub digest : List ℕ

-- a name and a port, as a client writes them in `Host`
abbrev pub authority : (name : List ℕ) → (port : ℕ) → List ℕ
authority name port = if port == 80 then name else name ++ (codes ":" ++ decimal port)

abbrev pub is_ours : Guards → (host : List ℕ) → Bool
is_ours g host = list_any (λ ours. same_letters ours host) g.hosts

abbrev pub is_our_host : Guards → Option (List ℕ) → Bool
is_our_host g None = false
is_our_host g (Some host) = is_ours g host

-- the origin `http://NAME` is the host NAME
abbrev pub is_page_of : (host : Option (List ℕ)) → (name : Option (List ℕ)) → Bool
is_page_of None name = false
is_page_of (Some host) None = false
is_page_of (Some host) (Some name) = same_letters host name

-- no page sent the request, or a page of the host that it names
abbrev pub is_our_origin : (host origin : Option (List ℕ)) → Bool
is_our_origin host None = true
is_our_origin host (Some origin) = is_page_of host (trailing (codes "http://") origin)

-- the token has the digest
abbrev pub shows : Guards → Option (List ℕ) → Bool
shows g None = false
shows g (Some token) = bytes_eq (sha256 token) g.digest

-- the header is `Bearer TOKEN`
abbrev pub bears : Guards → Option (List ℕ) → Bool
bears g None = false
bears g (Some authorization) = shows g (trailing (codes "Bearer ") authorization)

-- the files of the page
abbrev pub is_open : (method path : List ℕ) → Bool
is_open method path =
    bytes_eq method (codes "GET") && (bytes_eq path (codes "/") || (bytes_eq path (codes "/till.js") || bytes_eq path (codes "/till.css")))

-- why a request may not reach its route: the host is asked first, and the token last
abbrev pub guard : Guards → Request → Option Refusal
guard g r =
    if not (is_our_host g r.host) then Some Host
    else (if not (is_our_origin r.host r.origin) then Some Origin
    else (if bytes_eq r.method (codes "OPTIONS") then Some Preflight
    else (if is_open r.method r.path || bears g r.authorization then None
    else Some Token)))

-- ---- worked rows

abbrev pub some_guards : Guards
some_guards = record { hosts = codes "127.0.0.1:8080" ∷ codes "localhost:8080" ∷ []; digest = sha256 (codes "secret") }

-- a request of some page
abbrev pub asks : (method path : List ℕ) → (host origin authorization : Option (List ℕ)) → Request
asks method path host origin authorization = record {
  method = method;
  path = path;
  key = None;
  authorization = authorization;
  host = host;
  origin = origin;
  prefer = None;
  last_event = None;
  body = [];
}

abbrev pub GuardRows : Type 0
GuardRows =
    (authority (codes "localhost") 8080 ≡ codes "localhost:8080") ×
    (authority (codes "localhost") 80 ≡ codes "localhost") ×
    (guard some_guards (asks (codes "GET") (codes "/") (Some (codes "LOCALHOST:8080")) None None) ≡ None) ×
    (guard some_guards (asks (codes "GET") (codes "/") (Some (codes "localhost")) None None) ≡ Some Host) ×
    (guard some_guards (asks (codes "GET") (codes "/") (Some (codes "localhost:8080.evil.example")) None None) ≡ Some Host) ×
    (guard some_guards (asks (codes "GET") (codes "/") None None None) ≡ Some Host) ×
    (guard some_guards (asks (codes "GET") (codes "/book") (Some (codes "evil.example")) None (Some (codes "Bearer secret"))) ≡ Some Host) ×
    (guard some_guards (asks (codes "GET") (codes "/book") (Some (codes "localhost:8080")) (Some (codes "http://evil.example")) (Some (codes "Bearer secret"))) ≡ Some Origin) ×
    (guard some_guards (asks (codes "GET") (codes "/book") (Some (codes "localhost:8080")) (Some (codes "https://localhost:8080")) (Some (codes "Bearer secret"))) ≡ Some Origin) ×
    (guard some_guards (asks (codes "GET") (codes "/book") (Some (codes "localhost:8080")) (Some (codes "null")) (Some (codes "Bearer secret"))) ≡ Some Origin) ×
    (guard some_guards (asks (codes "GET") (codes "/book") (Some (codes "localhost:8080")) (Some (codes "http://127.0.0.1:8080")) (Some (codes "Bearer secret"))) ≡ Some Origin) ×
    (guard some_guards (asks (codes "OPTIONS") (codes "/payments") (Some (codes "localhost:8080")) None None) ≡ Some Preflight) ×
    (guard some_guards (asks (codes "GET") (codes "/book") (Some (codes "localhost:8080")) (Some (codes "http://localhost:8080")) None) ≡ Some Token) ×
    (guard some_guards (asks (codes "GET") (codes "/book") (Some (codes "localhost:8080")) None (Some (codes "secret"))) ≡ Some Token) ×
    (guard some_guards (asks (codes "POST") (codes "/") (Some (codes "localhost:8080")) None None) ≡ Some Token)
