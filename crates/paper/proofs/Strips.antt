-- The planner's rows: what a contract allows is its definition, and every row computes.
use Rattle.std.specs.Bool.{⊤}
use Rattle.std.proofs.Common.{Result, ℕ}
use Prim.Native.Nat.{ℕ, ◌+◌, ◌^◌}
use mathlib.Core.Path.{◌≡◌, refl, ap, ◌∙◌}
use mathlib.Core.List.{List}
use Rattle.modular.specs.Modulus.{sub_mod}
use Rattle.sched.specs.Chunk.{body_fits}
use Rattle.sched.specs.Scheduler.{counted_of, sound_of}
use Rattle.planner.specs.Check.{past_end, run_of, check_from, check_of}
use Rattle.planner.specs.Plan.{Proposal, proposal, runs_from, propose_in, propose_of}
use Rattle.planner.specs.Sizes.{in_bounds, sizes_in}
use Rattle.planner.specs.Strips.{outline_of}
use Rattle.planner.proofs.Says.{outline_says, propose_says, check_says}
use Rattle.planner.specs.declared.strips.Strips as planner
use Rattle.paper.specs.Strips.{Outlines, Proposes, Checks, Strips}
use Rattle.planner.specs.declared.refusal.Refusal.{Refusal}

outlines : (rows bytes L : ℕ) (z : Result planner.Strips Refusal) → outline_of rows bytes L ≡ z → Outlines rows bytes L z
outlines rows bytes L z e y (ws, p) = outline_says tt (rows, (bytes, (L, tt))) y ws p ∙ e

proposes : (rows bytes L : ℕ) (plan : List ℕ) (z : Result ℕ Refusal) (after : List ℕ) → propose_of rows bytes L plan ≡ proposal z after → Proposes rows bytes L plan z after
proposes rows bytes L plan z after e κs a same y ws p =
    let left = propose_says κs a y ws p in
    let is : propose_of a.0 a.1.0 a.1.1.0 a.1.1.1.0.now ≡ proposal z after = rw (same.0, same.1, same.2, same.3) e in
    (left.0 ∙ ap (λ (x : Proposal). x.answer) is, ap (λ (x : _). x.1.1.1.0) left.1 ∙ ap (λ (x : Proposal). x.plan) is)

checks : (rows bytes L : ℕ) (plan : List ℕ) (z : Result ⊤ Refusal) → check_of rows bytes L plan ≡ z → Checks rows bytes L plan z
checks rows bytes L plan z e κs a same y (ws, p) = check_says κs a y ws p ∙ rw (same.0, same.1, same.2, same.3) e

pub strips : Strips
unfolding sub_mod body_fits counted_of sound_of past_end run_of check_from runs_from propose_in in_bounds sizes_in
strips =
    record {
      four = outlines 10 4 20 _ refl;
      four_runs = proposes 10 4 20 _ _ _ refl;
      three_lent = proposes 10 4 20 _ _ _ refl;
      ten = outlines 10 4 12 _ refl;
      none = outlines 10 4 11 _ refl;
      none_proposed = proposes 10 4 11 _ _ _ refl;
      none_checked = checks 10 4 11 _ _ refl;
      one_alone = outlines 3 4 100 _ refl;
      length_first = outlines 0 4 0 _ refl;
      too_large = outlines 0 0 (2 ^ 63 + 1) _ refl;
      no_rows = outlines 0 4 5 _ refl;
      most_rows = outlines 65535 1 9 _ refl;
      rows_too_many = outlines 65536 4 20 _ refl;
      most_bytes = outlines 3 (2 ^ 20) (2 ^ 20 + 8) _ refl;
      bytes_too_many = outlines 3 (2 ^ 20 + 1) (2 ^ 63) _ refl;
      no_bytes = outlines 3 0 20 _ refl;
      too_many_proposed = proposes 65536 4 20 _ _ _ refl;
      too_many_checked = checks 65536 4 20 _ _ refl;
      own = checks 10 4 20 _ _ refl;
      empty_run = checks 10 4 20 _ _ refl;
      gap = checks 10 4 20 _ _ refl;
      overlap = checks 10 4 20 _ _ refl;
      far_past = checks 10 4 20 _ _ refl;
      count_of_33_bits = checks 10 4 20 _ _ refl;
      first_of_33_bits = checks 10 4 20 _ _ refl;
      one_past = checks 3 4 20 _ _ refl;
      long_run = checks 10 4 20 _ _ refl;
      second_long = checks 10 4 20 _ _ refl;
      one_behind = checks 3 4 20 _ _ refl;
      rows_left = checks 10 4 20 _ _ refl;
      no_runs = checks 10 4 20 _ _ refl;
    }
