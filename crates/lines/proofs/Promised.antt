-- What is promised of the calls, in the words of `specs/Promise.antt`: every outcome that an attached contract allows keeps it.
use Prim.Native.Nat.{ℕ, ◌+◌, ◌^◌, ◌<◌, ◌≤◌}
use Rattle.std.specs.Prelude.{Option, Some}
use mathlib.Core.Path.{◌≡◌, sym, ◌∙◌}
use mathlib.Core.Bool.{true}
use mathlib.Core.List.{List}
use lib.ListN.{length, drop}
use borrow.Author.Tests.{leb-true, le-leb}
use native.Mathlib.Omega.{arith}
use contract.Lifetimes.{Lfts}
use denote.Triple.Clauses.{Lasts, at_exit}
use borrow.Fn.Kinds.{Dens, ended_of}
use Rattle.modular.proofs.Saying.{Allows, Keeps}
use Rattle.lines.specs.declared.cut.Took.{Took}
use Rattle.lines.specs.declared.decimal.Number.{Number}
use Rattle.lines.specs.Decimal.{decimal, number, number_at}
use Rattle.lines.specs.Field.{spaced_at, last_at}
use Rattle.lines.specs.Numeral.{Numeral}
use Rattle.lines.specs.Promise.{Stops, Stands, Spaced, Last, Behind, Part, Held}
use Rattle.lines.specs.Text.{filled}
use Rattle.lines.proofs.CutLaws.{cut_of, held_of}
use Rattle.lines.proofs.FieldLaws.{spaced_stands, stands_spaced, last_stands, stands_last}
use Rattle.lines.proofs.NumberLaws.{stands_number, number_stands, printed_stands}
use Rattle.lines.proofs.NumeralLaws.{decimal_numeral}
use Rattle.lines.proofs.Says.{number_at_says, spaced_says, last_says, put_decimal_says, put_says, has_room_says, take_line_says}
use Rattle.lines.proofs.TextLaws.{appended}
use Rattle.lines.proofs.decimal.number_at.Kinds as number_at_kinds
use Rattle.lines.proofs.decimal.number_at.Reads as number_at_lem
use Rattle.lines.proofs.decimal.put_decimal.Kinds as put_decimal_kinds
use Rattle.lines.proofs.decimal.put_decimal.Reads as put_decimal
use Rattle.lines.proofs.field.spaced.Kinds as spaced_kinds
use Rattle.lines.proofs.field.spaced.Reads as spaced
use Rattle.lines.proofs.field.last.Kinds as last_kinds
use Rattle.lines.proofs.field.last.Reads as last
use Rattle.lines.proofs.text.put.Kinds as put_kinds
use Rattle.lines.proofs.text.put.Reads as put
use Rattle.lines.proofs.text.has_room.Kinds as has_room_kinds
use Rattle.lines.proofs.text.has_room.Reads as has_room_lem
use Rattle.lines.proofs.cut.take_line.Kinds as take_line_kinds
use Rattle.lines.proofs.cut.take_line.Reads as take_line

-- ---- numbers
-- a number is read exactly where its numeral stands
pub number_at_promised :
    Keeps 1 number_at_kinds.ps number_at_kinds.r number_at_lem.Learnt
    (λ κs a z. (n next : ℕ) → (Stands a.0.now a.1.0 n next → z ≡ Some (number n next)) × (z ≡ Some (number n next) → Stands a.0.now a.1.0 n next))
number_at_promised κs a z q n next =
    let said : z ≡ number_at a.0.now a.1.0 = number_at_says κs a z q.0 q.1 in
    (λ s. said ∙ stands_number a.0.now a.1.0 n next s, λ e. number_stands a.0.now a.1.0 n next (sym said ∙ e))

-- with a space behind it
pub spaced_promised :
    Keeps 1 spaced_kinds.ps spaced_kinds.r spaced.Learnt
    (λ κs a z. (n next : ℕ) → (Spaced a.0.now a.1.0 n next → z ≡ Some (number n next)) × (z ≡ Some (number n next) → Spaced a.0.now a.1.0 n next))
spaced_promised κs a z q n next =
    let said : z ≡ spaced_at a.0.now a.1.0 = spaced_says κs a z q.0 q.1 in
    (λ s. said ∙ spaced_stands a.0.now a.1.0 n next s, λ e. stands_spaced a.0.now a.1.0 n next (sym said ∙ e))

-- and as all that is left of the line
pub last_promised :
    Keeps 1 last_kinds.ps last_kinds.r last.Learnt
    (λ κs a z. (n next : ℕ) → (Last a.0.now a.1.0 n next → z ≡ Some (number n next)) × (z ≡ Some (number n next) → Last a.0.now a.1.0 n next))
last_promised κs a z q n next =
    let said : z ≡ last_at a.0.now a.1.0 = last_says κs a z q.0 q.1 in
    (λ s. said ∙ last_stands a.0.now a.1.0 n next s, λ e. stands_last a.0.now a.1.0 n next (sym said ∙ e))

-- its numeral is printed where that has room
pub put_decimal_promised :
    (κs : Lfts 1) (a : Dens κs put_decimal_kinds.ps) (z : ℕ) (ws : Lasts (ended_of 1 put_decimal_kinds.ps put_decimal_kinds.r) κs a) →
    put_decimal.Learnt κs a z (at_exit (ended_of 1 put_decimal_kinds.ps put_decimal_kinds.r) κs a ws) →
    a.1.1.0 < 2 ^ 64 → (text : List ℕ) × Numeral text a.1.1.0 × Behind a.0.now a.1.0 text (length text) z ws.0
put_decimal_promised κs a z ws q f =
    let left = put_decimal_says κs a z ws q in
    let text : List ℕ = decimal a.1.1.0 in
    (text, decimal_numeral a.1.1.0 f, rw (left.0, left.1) (appended (length text) text a.0.now a.1.0 (omega arith)))

-- and reads back as itself, where no digit stands behind it
pub printed_reads_back :
    (κs : Lfts 1) (a : Dens κs put_decimal_kinds.ps) (z : ℕ) (ws : Lasts (ended_of 1 put_decimal_kinds.ps put_decimal_kinds.r) κs a) →
    put_decimal.Learnt κs a z (at_exit (ended_of 1 put_decimal_kinds.ps put_decimal_kinds.r) κs a ws) →
    a.1.1.0 < 2 ^ 64 → a.1.0 < z → Stops (drop z ws.0) →
    (ηs : Lfts 1) (b : Dens ηs number_at_kinds.ps) → (b.0.now ≡ ws.0) × (b.1.0 ≡ a.1.0) →
    (y : Option Number) → Allows 1 number_at_kinds.ps number_at_kinds.r number_at_lem.Learnt ηs b y → y ≡ Some (number a.1.1.0 z)
printed_reads_back κs a z ws q f l s ηs b e y r =
    let p = put_decimal_promised κs a z ws q f in
    (number_at_promised ηs b y r a.1.1.0 z).0 (rw (e.0, e.1) (printed_stands a.1.1.0 p.2 l p.1 f s))

-- ---- text
pub put_promised :
    (κs : Lfts 2) (a : Dens κs put_kinds.ps) (z : ℕ) (ws : Lasts (ended_of 2 put_kinds.ps put_kinds.r) κs a) →
    put.Learnt κs a z (at_exit (ended_of 2 put_kinds.ps put_kinds.r) κs a ws) →
    Behind a.0.now a.1.0 a.1.1.0.now (length a.1.1.0.now) z ws.0
put_promised κs a z ws q =
    let left = put_says κs a z ws q in
    rw (left.0, left.1) (appended (length a.1.1.0.now) a.1.1.0.now a.0.now a.1.0 (omega arith))

pub has_room_promised :
    Keeps 1 has_room_kinds.ps has_room_kinds.r has_room_lem.Learnt
    (λ κs a z. (a.1.0 + a.1.1.0 ≤ length a.0.now → z ≡ true) × (z ≡ true → a.1.0 + a.1.1.0 ≤ length a.0.now))
has_room_promised κs a z q =
    let said = has_room_says κs a z q.0 q.1 in
    (λ h. said ∙ le-leb _ _ h, λ e. leb-true _ _ (sym said ∙ e))

-- ---- lines out of pieces
pub take_line_promised :
    (κs : Lfts 2) (a : Dens κs take_line_kinds.ps) (z : Took) (ws : Lasts (ended_of 2 take_line_kinds.ps take_line_kinds.r) κs a) →
    take_line.Learnt κs a z (at_exit (ended_of 2 take_line_kinds.ps take_line_kinds.r) κs a ws) →
    (part : List ℕ) × Part (drop a.1.1.1.1.0 a.1.1.1.0.now) a.1.1.1.1.0 part z.next z.whole × Held a.1.1.0 a.0.now a.1.0 part ws.0 z.held
take_line_promised κs a z ws q =
    let left = take_line_says κs a z ws q in
    let h = filled a.1.0 a.0.now in
    let c = cut_of a.1.1.0 h a.1.1.1.1.0 a.1.1.1.0.now in
    rw (left.0, left.1) (c.part, c.is, held_of a.1.1.0 h c.part _ c.clean c.holds)
