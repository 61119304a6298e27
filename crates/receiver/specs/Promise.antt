-- What the receiver promises of an announcement, told again by cases and in other words than those of its rules, so that a
-- rule that is changed in its place is seen.
use Rattle.std.specs.Prelude.{ℕ, ◌+◌, ◌%◌, ◌^◌, ◌<◌, ◌≤◌, ◌≡◌}
use Rattle.receiver.specs.declared.receiver.Beside.{Beside}

-- ---- beside an outcome: no descriptors, or as many as came with the byte of a chunk
abbrev pub nothing_more : Beside
nothing_more = record { fds = 0 }

abbrev pub with_descriptors : ℕ → Beside
with_descriptors n = record { fds = n }

-- ---- an announcement: what the header's number says in a ring of L bytes that holds no data
-- a body of so many bytes, and what comes beside it; or a violation by its number, with the bytes needed and the room of an overflow
pub data Said : Type 0 where
  body : ℕ → Beside → Said
  violates : ℕ → ℕ → ℕ → Said

-- a header of 8 bytes fits into L; the top two bits must be 0, the last 48 are the length: it fits behind the header
pub data Announces (L h : ℕ) (b : Beside) : Said → Type 0 where
  no_room_for_a_header : {room : ℕ} → room ≡ L → room < 8 → Announces L h b (violates 2 8 room)
  format_unknown : 8 ≤ L → 2 ^ 62 ≤ h → Announces L h b (violates 3 0 0)
  length_0 : 8 ≤ L → h < 2 ^ 62 → h % 2 ^ 48 ≡ 0 → Announces L h b (violates 4 0 0)
  too_long : {room : ℕ} → room + 8 ≡ L → h < 2 ^ 62 → room < h % 2 ^ 48 → Announces L h b (violates 5 (h % 2 ^ 48) room)
  accepted : h < 2 ^ 62 → 1 ≤ h % 2 ^ 48 → h % 2 ^ 48 + 8 ≤ L → Announces L h b (body (h % 2 ^ 48) b)
