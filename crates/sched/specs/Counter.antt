-- Counters, modulo 2L, and offsets, below L.
use Rattle.std.specs.Prelude.{ℕ, ◌*◌, ◌%◌}
use Rattle.modular.specs.Modulus.{sub_mod, add_mod}
use Rattle.operations.specs.declared.counter.Counter.{Counter}
use Rattle.operations.specs.declared.counter.Offset.{Offset}

-- the offset rule: the only one that makes an offset of a counter
abbrev pub offset_of : ℕ → Counter → Offset
offset_of l c = record { 0 = c.0 % l }

-- data = (written - read) mod 2L
abbrev pub data_of : ℕ → Counter → Counter → ℕ
data_of l w r = sub_mod (2 * l) w.0 r.0

-- the counter n items on
abbrev pub later_of : ℕ → Counter → ℕ → Counter
later_of l c n = record { 0 = add_mod (2 * l) c.0 n }
