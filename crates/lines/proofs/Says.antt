-- What each public call says: whatever its attached contract allows is this definition of its arguments, the lent memory's last
-- contents with it. With specs/ these lines are what a reader must believe of this crate.
use mathlib.Core.Path.{ap}
use Rattle.modular.proofs.Saying.{Says, Leaves}
use Rattle.lines.specs.Cut.{Taken, take_of, reached}
use Rattle.lines.specs.Decimal.{decimal, number_at}
use Rattle.lines.specs.Field.{spaced_at, last_at}
use Rattle.lines.specs.Text.{Filled, filled, has_room, put_of}
use Rattle.lines.proofs.decimal.number_at.Kinds as number_at_kinds
use Rattle.lines.proofs.decimal.number_at.Reads as number_at_lem
use Rattle.lines.proofs.decimal.put_decimal.Kinds as put_decimal_kinds
use Rattle.lines.proofs.decimal.put_decimal.Reads as put_decimal
use Rattle.lines.proofs.field.spaced.Kinds as spaced_kinds
use Rattle.lines.proofs.field.spaced.Reads as spaced
use Rattle.lines.proofs.field.last.Kinds as last_kinds
use Rattle.lines.proofs.field.last.Reads as last
use Rattle.lines.proofs.text.put.Kinds as put_kinds
use Rattle.lines.proofs.text.put.Reads as put
use Rattle.lines.proofs.text.has_room.Kinds as has_room_kinds
use Rattle.lines.proofs.text.has_room.Reads as has_room_lem
use Rattle.lines.proofs.cut.take_line.Kinds as take_line_kinds
use Rattle.lines.proofs.cut.take_line.Reads as take_line

-- ---- numbers
pub number_at_says : Says 1 number_at_kinds.ps number_at_kinds.r number_at_lem.Learnt (λ κs a. number_at a.0.now a.1.0)
number_at_says κs a z ws p = p

pub spaced_says : Says 1 spaced_kinds.ps spaced_kinds.r spaced.Learnt (λ κs a. spaced_at a.0.now a.1.0)
spaced_says κs a z ws p = p

pub last_says : Says 1 last_kinds.ps last_kinds.r last.Learnt (λ κs a. last_at a.0.now a.1.0)
last_says κs a z ws p = p

pub put_decimal_says :
    Leaves 1 put_decimal_kinds.ps put_decimal_kinds.r put_decimal.Learnt
    (λ κs a. (put_of (decimal a.1.1.0) (filled a.1.0 a.0.now)).at)
    (λ κs a. ((put_of (decimal a.1.1.0) (filled a.1.0 a.0.now)).bytes, (tt, (tt, tt))))
put_decimal_says κs a z ws p = (ap (λ (x : Filled). x.at) p, ap (λ (x : Filled). (x.bytes, (tt, (tt, tt)))) p)

-- ---- text
pub put_says :
    Leaves 2 put_kinds.ps put_kinds.r put.Learnt
    (λ κs a. (put_of a.1.1.0.now (filled a.1.0 a.0.now)).at)
    (λ κs a. ((put_of a.1.1.0.now (filled a.1.0 a.0.now)).bytes, (tt, (tt, tt))))
put_says κs a z ws p = (ap (λ (x : Filled). x.at) p, ap (λ (x : Filled). (x.bytes, (tt, (tt, tt)))) p)

pub has_room_says : Says 1 has_room_kinds.ps has_room_kinds.r has_room_lem.Learnt (λ κs a. has_room a.1.1.0 (filled a.1.0 a.0.now))
has_room_says κs a z ws p = p

-- ---- lines out of pieces
pub take_line_says :
    Leaves 2 take_line_kinds.ps take_line_kinds.r take_line.Learnt
    (λ κs a. reached (take_of a.1.1.0 (filled a.1.0 a.0.now) a.1.1.1.1.0 a.1.1.1.0.now))
    (λ κs a. ((take_of a.1.1.0 (filled a.1.0 a.0.now) a.1.1.1.1.0 a.1.1.1.0.now).held.bytes, (tt, (tt, (tt, (tt, tt))))))
take_line_says κs a z ws p = (ap reached p, ap (λ (t : Taken). (t.held.bytes, (tt, (tt, (tt, (tt, tt)))))) p)
