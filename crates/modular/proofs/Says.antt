-- What each public call says, in the order of the paper: whatever its attached contract allows is this definition of its
-- arguments. With specs/ these lines are what a reader must believe of this crate.
use Rattle.std.proofs.Common.{◌%◌, refl}
use Rattle.modular.specs.Modulus.{whole_of, full_range, try_new_of, is_full_range_of, modulus_of, contains_of, double_at, try_new_number_of, neg_mod, sub_mod, add_mod}
use Rattle.modular.proofs.Saying.{Says, Decides, says_decides}
use Rattle.modular.proofs.Modulus.new_full_range.Kinds as new_full_range_kinds
use Rattle.modular.proofs.Modulus.new_full_range.Reads as new_full_range
use Rattle.modular.proofs.Modulus.try_new.Kinds as try_new_kinds
use Rattle.modular.proofs.Modulus.try_new.Reads as try_new
use Rattle.modular.proofs.Modulus.is_full_range.Kinds as is_full_range_kinds
use Rattle.modular.proofs.Modulus.is_full_range.Reads as is_full_range
use Rattle.modular.proofs.Modulus.modulus.Kinds as modulus_kinds
use Rattle.modular.proofs.Modulus.modulus.Reads as modulus
use Rattle.modular.proofs.Modulus.contains.Kinds as contains_kinds
use Rattle.modular.proofs.Modulus.contains.Reads as contains
use Rattle.modular.proofs.Modulus.double.Kinds as double_kinds
use Rattle.modular.proofs.Modulus.double.Reads as double
use Rattle.modular.proofs.Modulus.new_number.Kinds as new_number_kinds
use Rattle.modular.proofs.Modulus.new_number.Reads as new_number
use Rattle.modular.proofs.Modulus.try_new_number.Kinds as try_new_number_kinds
use Rattle.modular.proofs.Modulus.try_new_number.Reads as try_new_number
use Rattle.modular.proofs.Modulus.neg.Kinds as neg_kinds
use Rattle.modular.proofs.Modulus.neg.Reads as neg
use Rattle.modular.proofs.Modulus.sub.Kinds as sub_kinds
use Rattle.modular.proofs.Modulus.sub.Reads as sub
use Rattle.modular.proofs.Modulus.add.Kinds as add_kinds
use Rattle.modular.proofs.Modulus.add.Reads as add

-- ---- a modulus
pub new_full_range_says : Says 0 new_full_range_kinds.ps new_full_range_kinds.r new_full_range.Learnt (λ κs a. full_range)
new_full_range_says κs a z ws p = p

pub try_new_says : Says 0 try_new_kinds.ps try_new_kinds.r try_new.Learnt (λ κs a. try_new_of a.0)
try_new_says κs a z ws p = p

pub is_full_range_says : Says 0 is_full_range_kinds.ps is_full_range_kinds.r is_full_range.Learnt (λ κs a. is_full_range_of a.0)
is_full_range_says κs a z ws p = p

pub modulus_says : Says 0 modulus_kinds.ps modulus_kinds.r modulus.Learnt (λ κs a. modulus_of a.0)
modulus_says κs a z ws p = p

-- ---- containment and doubling
pub contains_says : Says 0 contains_kinds.ps contains_kinds.r contains.Learnt (λ κs a. contains_of a.0 a.1.0)
contains_says κs a z ws p = p

pub double_says : Says 0 double_kinds.ps double_kinds.r double.Learnt (λ κs a. double_at 64 a.0)
double_says κs a z ws p = p

-- ---- reduction, negation, subtraction, addition
pub new_number_says : Says 0 new_number_kinds.ps new_number_kinds.r new_number.Learnt (λ κs a. a.1.0 % whole_of a.0)
new_number_says κs a z ws p = p

pub try_new_number_says : Says 0 try_new_number_kinds.ps try_new_number_kinds.r try_new_number.Learnt (λ κs a. try_new_number_of a.0 a.1.0)
try_new_number_says κs a z ws p = p

pub neg_says : Says 0 neg_kinds.ps neg_kinds.r neg.Learnt (λ κs a. neg_mod (whole_of a.0) a.1.0)
neg_says κs a z ws p = p

pub sub_says : Says 0 sub_kinds.ps sub_kinds.r sub.Learnt (λ κs a. sub_mod (whole_of a.0) a.1.0 a.1.1.0)
sub_says κs a z ws p = p

pub add_says : Says 0 add_kinds.ps add_kinds.r add.Learnt (λ κs a. add_mod (whole_of a.0) a.1.0 a.1.1.0)
add_says κs a z ws p = p

-- ---- so each contract decides the outcome: any two that it allows are equal. Here for one of them
add_decided : Decides 0 add_kinds.ps add_kinds.r add.Learnt
add_decided = says_decides 0 add_kinds.ps add_kinds.r add.Learnt _ (λ κs a ws ws'. refl) add_says
