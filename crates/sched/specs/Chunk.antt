-- A chunk in the ring: a header of 8 bytes, and behind it a body.
use Rattle.std.specs.Prelude.{ℕ, ◌+◌, Bool, nat_le}

-- a body of n bytes and its header fit into a ring of length L
unfoldable pub body_fits : ℕ → ℕ → Bool
body_fits L n = nat_le (n + 8) L
