-- The table: what a contract allows is what it says, and every row computes.
use mathlib.Core.Path.{refl, ap}
use Rattle.modular.specs.Modulus.{whole_at, raw_at, double_at, sub_mod, add_mod}
use Rattle.sched.specs.Scheduler.{counted_of, sound_of, fill_state_in, layout_in, some_of, schedule_in, register_in}
use Rattle.copies.specs.Copies.{ready_from}
use Rattle.states.specs.State.{fits_errno, normalize_in, towards_error_in}
use Rattle.paper.specs.Table.{Table, refused_with}

pub table : Table
unfolding whole_at raw_at double_at sub_mod add_mod counted_of sound_of fill_state_in layout_in some_of schedule_in register_in ready_from fits_errno normalize_in towards_error_in
table =
    record {
      rolled_over_data = λ z ws says. says;
      rolled_over_read = λ z ws says. says;
      too_long = λ z ws says. ap refused_with says;
      written_too_far = λ z ws says. ap refused_with says;
      read_too_far = λ z ws says. ap refused_with says;
      full = λ z ws says. says;
      full_layout = λ z ws says. says;
      overfull = λ z ws says. ap refused_with says;
      held_fill_wrong = λ z ws says. says;
      held_fill_wrong_number = refl;
      held_fill = λ z ws says. says;
      overfull_before_fill = λ z ws says. says;
      overfull_before_a_wrong_fill = λ z ws says. says;
      fill_before_memory = λ z ws says. says;
      built_fill = λ z ws says. says;
      kept_fill = λ z ws says. says;
      wrapped_data = λ z ws says. says;
      offset_at_the_length = λ z ws says. says;
      offset_at_the_top = λ z ws says. says;
      sum_above_64_bits = λ z ws says. says;
      next_of_9 = λ z ws says. says;
      list_of_9 = λ z ws says. says;
      next_of_none = λ z ws says. says;
      list_of_none = λ z ws says. says;
      next_of_most = λ z ws says. says;
      list_of_most = λ z ws says. says;
      write_of_4 = λ z ws says. says;
      write_of_4_number = refl;
      write_of_3 = λ z ws says. says;
      double_of_100 = refl;
      double_of_128 = refl;
      double_of_129 = refl;
      draining_by_blocked = λ z ws says. says;
      draining_by_the_end = λ z ws says. says;
      terminated_11_by_draining = λ z ws says. says;
    }
