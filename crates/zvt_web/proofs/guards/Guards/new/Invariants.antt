use Rattle.std.proofs.Common.{◌≡◌, map, string_bytes, take}
use Rattle.zvt_web.specs.Guards.{authority}
use Rattle.zvt_web.proofs.guards.Guards.new.Given as goal

abbrev pub invariant-loop-name : goal.invariant-loop-name
invariant-loop-name l = map string_bytes l.hosts.items ≡ map (λ n. authority n.now l.port) (take l.name-index l.names)
