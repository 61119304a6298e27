-- An answer is one of two: two that are `Ok` and equal hold one value, and none is both `Ok` and `Err`.
use Rattle.std.proofs.Common.{◌≡◌, Result, Ok, Err, sym}

pub ok_same : {T E : Type 0} (a b : T) → ◌≡◌ {A = Result T E} (Ok a) (Ok b) → a ≡ b
ok_same a b p = cc

pub err_not_ok : {A T E : Type 0} (e : E) (a : T) → ◌≡◌ {A = Result T E} (Err e) (Ok a) → A
err_not_ok e a p = cc

pub ok_not_err : {A T E : Type 0} (a : T) (e : E) → ◌≡◌ {A = Result T E} (Ok a) (Err e) → A
ok_not_err a e p = err_not_ok e a (sym p)
