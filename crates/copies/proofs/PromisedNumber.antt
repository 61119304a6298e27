-- A number is the sum of its eight cells, each by its weight; 0 for a place outside the memory.
use Prim.Native.Nat.{◌<◌, ◌≤◌}
use mathlib.Core.Path.{◌≡◌, ◌∙◌}
use lib.ListN.{length}
use Rattle.modular.proofs.Saying.{Keeps}
use Rattle.copies.specs.Promises.{number_at}
use Rattle.copies.proofs.NumberLaws.{inside, outside, number_at_lem}
use Rattle.copies.proofs.Says.{big_endian_says}
use Rattle.copies.proofs.number.big_endian.Kinds as big_endian_kinds
use Rattle.copies.proofs.number.big_endian.Reads as big_endian

pub big_endian_promised : Keeps 1 big_endian_kinds.ps big_endian_kinds.r big_endian.Learnt
    (λ κs a z. (a.1.0 < length a.0.now → z ≡ number_at (length a.0.now) a.0.now a.1.0) × (length a.0.now ≤ a.1.0 → z ≡ 0))
big_endian_promised κs a z q =
    let p = big_endian_says κs a z q.0 q.1 in
    ((λ h. p ∙ inside a.0.now a.1.0 h ∙ number_at_lem (length a.0.now) a.0.now a.1.0), (λ h. p ∙ outside a.0.now a.1.0 h))
