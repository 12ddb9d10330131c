-- A body is kept up to 4,096 bytes.
use Rattle.std.proofs.Common.{◌≡◌, refl, arith, ℕ, ◌+◌, ◌≤◌, Bool, true, false, List, length, length-append, nat_le, Option, Some, None, if◌then◌else◌}
use Rattle.httparse.specs.Spans.{span_bytes}
use Rattle.http1.specs.Conn.{unread_size}
use Rattle.http1.specs.Fields.{Header}
use Rattle.http1.specs.Server.{has_codings, reading}
use Rattle.http1.specs.declared.conn.Event.TheVariants.{NeedMore, Head, Informational, Data, End, Paused, Upgraded, Closed}
use Rattle.http1.specs.declared.server.Server.{Server}
use Rattle.std.proofs.lemmas.Bool.Decides.{nat_tests}
use Rattle.zvt_web.specs.Connection.{BodiesAreShort, IsShort, Step, after_end_of, after_head, after_piece, again, is_announced_long, refused, request_in, with_more}
use Rattle.zvt_web.specs.Heads.{head_of, is_doubtful, started}
use Rattle.zvt_web.specs.Request.{Request}
use Rattle.zvt_web.specs.declared.refusals.Refusal.TheVariants.{Coding, TooLong}

abbrev Short : Step × Option Request → Type 0
Short p = IsShort p.1 × IsShort (request_in p.0)

-- a head has no body yet
head_is_short : (method target : List ℕ) (headers : List Header) → IsShort (head_of method target headers)
unfolding head_of started
head_is_short method target headers =
    elim (is_doubtful headers) as (λ b. IsShort (if b then None else Some (started method target headers))) [ true ↦ tt | false ↦ omega arith ]

long_test : (long : Bool) (r : Request) → length r.body ≤ 4096 → Short (if long then (refused TooLong, None) else (again, Some r))
long_test true r short = (tt, tt)
long_test false r short = (short, tt)

coding_test : (coded long : Bool) (r : Request) → length r.body ≤ 4096
    → Short (if coded then (refused Coding, None) else (if long then (refused TooLong, None) else (again, Some r)))
coding_test true long r short = (tt, tt)
coding_test false long r short = long_test long r short

head_short : (s : Server) (request : Option Request) → IsShort request → Short (after_head s request)
head_short s None short = (tt, tt)
head_short s (Some r) short = coding_test (has_codings s) (is_announced_long (unread_size (reading s))) r short

at_most : (a b : ℕ) → nat_le a b ≡ true → a ≤ b
at_most a b test = grind (arith, nat_tests)

piece_test : (fits : Bool) (r : Request) (piece : List ℕ) → nat_le (length r.body + length piece) 4096 ≡ fits
    → Short (if fits then (again, Some (with_more r piece)) else (refused TooLong, None))
piece_test true r piece is = let within = at_most (length r.body + length piece) 4096 is in (omega (arith, within, length-append r.body piece), tt)
piece_test false r piece is = (tt, tt)

piece_short : (pending : Option Request) (piece : List ℕ) → Short (after_piece pending piece)
piece_short None piece = (tt, tt)
piece_short (Some r) piece = piece_test (nat_le (length r.body + length piece) 4096) r piece refl

end_short : (pending : Option Request) → IsShort pending → Short (after_end_of pending)
end_short None short = (tt, tt)
end_short (Some r) short = (tt, short)

pub bodies_are_short : BodiesAreShort
bodies_are_short c input spans NeedMore short = (short, tt)
bodies_are_short c input spans (Head h) short =
    head_short c.server _ (head_is_short (span_bytes input h.method) (span_bytes input h.path) _)
bodies_are_short c input spans (Informational h) short = (short, tt)
bodies_are_short c input spans (Data s) short = piece_short c.pending (span_bytes input s)
bodies_are_short c input spans (End count) short = end_short c.pending short
bodies_are_short c input spans Paused short = (short, tt)
bodies_are_short c input spans Upgraded short = (short, tt)
bodies_are_short c input spans Closed short = (short, tt)
