-- The bytes where there is room for them, or nothing.
use Prim.Native.Nat.{◌+◌}
use mathlib.Core.Path.{refl, sym, ◌∙◌}
use lib.ListN.{length}
use borrow.Author.Tests.{leb-true}
use Rattle.lines.proofs.TextLaws.{append_room, append_full, sets_copied}
use Rattle.lines.proofs.text.put.Goals as goal

pub returns-then-not-has_room : goal.returns-then-not-has_room
returns-then-not-has_room c =
    let a = c.args in
    append_full (length a.bytes.now) a.bytes.now a.out.now a.at (sym c.has_room.ensures ∙ c.if-not-has_room.true)

pub returns : goal.returns
returns c =
    let a = c.args in
    let room = sym c.has_room.ensures ∙ c.if-not-has_room.false in
    append_room (length a.bytes.now) a.bytes.now a.out.now _ a.at _ room
    (record { end = refl; bytes = sets_copied a.bytes.now a.out.now _ a.at (leb-true (a.at + length a.bytes.now) (length a.out.now) room) c.copy_from_slice.ensures.after })
