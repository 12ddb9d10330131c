use Rattle.std.proofs.Common.{◌≡◌, All, length, map}
use Rattle.httparse.specs.Spans.{IsHeaderWithin, header_bytes}
use Rattle.zvt_web.specs.Heads.{is_repeated}
use Rattle.zvt_web.proofs.heads.is_repeated.Given as goal

abbrev pub invariant-headers : goal.invariant-headers
invariant-headers l =
    (is_repeated l.name (map (header_bytes l.input) l.headers) ≡ is_repeated l.name (map (header_bytes l.input) l.rest))
    × All (IsHeaderWithin (length l.input)) l.rest

abbrev pub decreases-headers : goal.decreases-headers
decreases-headers l = length l.rest
