-- A run that demand 3 speaks of: a ring of 3 bytes whose counters start at 5, ten bytes, more than three turns. One counter is
-- taken twice, one is lost, and a write finds no space. Each event is allowed, and the promises are read off the state reached.
use Prim.Native.Nat.{ℕ}
use mathlib.Core.Path.{◌≡◌, refl, ◌∙◌}
use mathlib.Core.List.Memᴰ.{head as here}
use mathlib.Core.List.Memᴰ.{tail as next}
use mathlib.Core.List.{List, [], ◌∷◌, ◌++◌}
use native.Mathlib.Omega.{arith}
use Rattle.modular.specs.Modulus.{sub_mod, add_mod}
use Rattle.sched.specs.declared.scheduler.RingBufferScheduler.{RingBufferScheduler}
use Rattle.sched.specs.Promise.{Taken}
use Rattle.sched.specs.Scheduler.{scheduler_of, counted_of, sound_of}
use Rattle.copies.specs.Copies.{ready_from}
use Rattle.ends.specs.Ends.{writing_end, reading_end, take_read_from, take_written_from}
use Rattle.ends.specs.declared.writing_end.WritingEnd.{WritingEnd}
use Rattle.ends.specs.declared.writing_end.WrittenCounter.{WrittenCounter}
use Rattle.ends.specs.declared.reading_end.ReadingEnd.{ReadingEnd}
use Rattle.ends.specs.declared.reading_end.ReadCounter.{ReadCounter}
use Rattle.ends.specs.World.{done, Note, Ends, Event, writes, reads, sends_w, sends_r, takes_w, takes_r, writing, start, step, run, AllAllowed, Demand3}
use Rattle.ends.specs.Plain.{definitions, plain}
use Rattle.ends.proofs.Bridge.{demand3_of_calls, some_calls}

abbrev ring : ℕ → ℕ → ℕ → RingBufferScheduler
ring l w r = scheduler_of l (record { 0 = w }) (record { 0 = r })

abbrev written : ℕ → ℕ → Note WrittenCounter ℕ
written w age = record { says = record { 0 = record { 0 = w } }; age = age }

abbrev was_read : ℕ → ℕ → Note ReadCounter ℕ
was_read r age = record { says = record { 0 = record { 0 = r } }; age = age }

-- each end with its bytes, the notes that it sent and how much it heard of; and the memory
abbrev state : WritingEnd → List ℕ → List (Note WrittenCounter ℕ) → ℕ → ReadingEnd → List ℕ → List (Note ReadCounter ℕ) → ℕ → List ℕ → Ends plain
state w ws wn wh r rs rn rh m =
    record {
      writer = record { now = w; bytes = ws; sent = wn; heard = wh };
      reader = record { now = r; bytes = rs; sent = rn; heard = rh };
      ring = m;
    }

s₀ : Ends plain
s₀ = start plain (writing_end (ring 3 5 5)) (reading_end (ring 3 5 5)) (0 ∷ 0 ∷ 0 ∷ [])

s₁ : Ends plain
s₁ =
    state (writing_end (ring 3 2 1)) (1 ∷ 2 ∷ 3 ∷ []) (written 2 3 ∷ []) 2
    (reading_end (ring 3 2 1)) (1 ∷ 2 ∷ []) (was_read 1 2 ∷ []) 3 (2 ∷ 3 ∷ 1 ∷ [])

e₁ : List (Event plain)
e₁ = writes (1 ∷ 2 ∷ 3 ∷ 4 ∷ []) ∷ sends_w ∷ takes_r (written 2 3) ∷ reads (0 ∷ 0 ∷ []) ∷ sends_r ∷ takes_w (was_read 1 2) ∷ []

goes₁ : run plain s₀ e₁ ≡ s₁
unfolding s₀ s₁ e₁ counted_of sound_of sub_mod add_mod ready_from take_read_from take_written_from
goes₁ = refl

can₁ : AllAllowed plain s₀ e₁
unfolding s₀ e₁ counted_of sound_of sub_mod add_mod ready_from take_read_from take_written_from
can₁ = (tt, (tt, ((here refl, omega arith), (tt, (tt, ((here refl, omega arith), tt))))))

s₂ : Ends plain
s₂ =
    state (writing_end (ring 3 4 1)) (1 ∷ 2 ∷ 3 ∷ 4 ∷ 5 ∷ []) (written 2 3 ∷ written 4 5 ∷ []) 2
    (reading_end (ring 3 4 4)) (1 ∷ 2 ∷ 3 ∷ 4 ∷ 5 ∷ []) (was_read 1 2 ∷ was_read 4 5 ∷ []) 5 (5 ∷ 3 ∷ 4 ∷ [])

e₂ : List (Event plain)
e₂ = writes (4 ∷ 5 ∷ 6 ∷ []) ∷ sends_w ∷ takes_r (written 4 5) ∷ takes_r (written 4 5) ∷ reads (0 ∷ 0 ∷ 0 ∷ 0 ∷ 0 ∷ []) ∷ sends_r ∷ []

goes₂ : run plain s₁ e₂ ≡ s₂
unfolding s₁ s₂ e₂ counted_of sound_of sub_mod add_mod ready_from take_read_from take_written_from
goes₂ = refl

can₂ : AllAllowed plain s₁ e₂
unfolding s₁ e₂ counted_of sound_of sub_mod add_mod ready_from take_read_from take_written_from
can₂ = (tt, (tt, ((next (here refl), omega arith), ((next (here refl), omega arith), (tt, (tt, tt))))))

s₃ : Ends plain
s₃ =
    state (writing_end (ring 3 1 4)) (1 ∷ 2 ∷ 3 ∷ 4 ∷ 5 ∷ 6 ∷ 7 ∷ 8 ∷ []) (written 2 3 ∷ written 4 5 ∷ written 1 8 ∷ []) 5
    (reading_end (ring 3 1 5)) (1 ∷ 2 ∷ 3 ∷ 4 ∷ 5 ∷ 6 ∷ []) (was_read 1 2 ∷ was_read 4 5 ∷ was_read 4 5 ∷ []) 8 (8 ∷ 6 ∷ 7 ∷ [])

e₃ : List (Event plain)
e₃ = sends_r ∷ takes_w (was_read 4 5) ∷ writes (6 ∷ 7 ∷ 8 ∷ 9 ∷ []) ∷ sends_w ∷ takes_r (written 1 8) ∷ reads (0 ∷ []) ∷ []

goes₃ : run plain s₂ e₃ ≡ s₃
unfolding s₂ s₃ e₃ counted_of sound_of sub_mod add_mod ready_from take_read_from take_written_from
goes₃ = refl

can₃ : AllAllowed plain s₂ e₃
unfolding s₂ e₃ counted_of sound_of sub_mod add_mod ready_from take_read_from take_written_from
can₃ = (tt, ((next (next (here refl)), omega arith), (tt, (tt, ((next (next (here refl)), omega arith), (tt, tt))))))

s₄ : Ends plain
s₄ =
    state (writing_end (ring 3 3 1)) (1 ∷ 2 ∷ 3 ∷ 4 ∷ 5 ∷ 6 ∷ 7 ∷ 8 ∷ 9 ∷ 10 ∷ []) (written 2 3 ∷ written 4 5 ∷ written 1 8 ∷ written 3 10 ∷ []) 8
    (reading_end (ring 3 3 1)) (1 ∷ 2 ∷ 3 ∷ 4 ∷ 5 ∷ 6 ∷ 7 ∷ 8 ∷ []) (was_read 1 2 ∷ was_read 4 5 ∷ was_read 4 5 ∷ was_read 1 8 ∷ []) 10 (8 ∷ 9 ∷ 10 ∷ [])

e₄ : List (Event plain)
e₄ = writes (9 ∷ []) ∷ reads (0 ∷ 0 ∷ 0 ∷ 0 ∷ []) ∷ sends_r ∷ takes_w (was_read 1 8) ∷ writes (9 ∷ 10 ∷ []) ∷ sends_w ∷ takes_r (written 3 10) ∷ []

goes₄ : run plain s₃ e₄ ≡ s₄
unfolding s₃ s₄ e₄ counted_of sound_of sub_mod add_mod ready_from take_read_from take_written_from
goes₄ = refl

can₄ : AllAllowed plain s₃ e₄
unfolding s₃ e₄ counted_of sound_of sub_mod add_mod ready_from take_read_from take_written_from
can₄ = (tt, (tt, (tt, ((next (next (next (here refl))), omega arith), (tt, (tt, ((next (next (next (here refl))), omega arith), tt)))))))

-- ---- the whole of it
abbrev es : List (Event plain)
es = e₁ ++ (e₂ ++ (e₃ ++ e₄))

then : (s : Ends plain) (xs ys : List (Event plain)) → run plain s (xs ++ ys) ≡ run plain (run plain s xs) ys
then s [] ys = refl
then s (x ∷ xs) ys = then (step plain s x) xs ys

can_then : (s : Ends plain) (xs ys : List (Event plain)) → AllAllowed plain s xs → AllAllowed plain (run plain s xs) ys → AllAllowed plain s (xs ++ ys)
can_then s [] ys p q = q
can_then s (x ∷ xs) ys p q = (p.0, can_then (step plain s x) xs ys p.1 q)

computed : run plain s₀ es ≡ s₄
computed =
    then s₀ e₁ (e₂ ++ (e₃ ++ e₄)) ∙ rw goes₁ (then s₁ e₂ (e₃ ++ e₄) ∙ rw goes₂ (then s₂ e₃ e₄ ∙ rw goes₃ goes₄))

allowed : AllAllowed plain s₀ es
allowed =
    can_then s₀ e₁ (e₂ ++ (e₃ ++ e₄)) can₁
    (rw goes₁ (can_then s₁ e₂ (e₃ ++ e₄) can₂ (rw goes₂ (can_then s₂ e₃ e₄ can₃ (rw goes₃ can₄)))))

taken : Taken (ring 3 5 5)
unfolding sub_mod
taken =
    record {
      sized = record { some = omega arith; fits = omega arith };
      read = omega arith;
      held = record { at_most = omega arith; ahead = refl };
    }

promised : Demand3 plain s₄
unfolding s₀
promised = rw computed at (demand3_of_calls definitions some_calls (ring 3 5 5) (0 ∷ 0 ∷ 0 ∷ []) taken refl refl es allowed)

-- a write of three bytes here, where there is space for one, moves one, into the place 0, and touches no other
moves_one : ((writing plain s₄ (7 ∷ 8 ∷ 9 ∷ [])).answer ≡ done 1) × ((writing plain s₄ (7 ∷ 8 ∷ 9 ∷ [])).memory ≡ 7 ∷ 9 ∷ 10 ∷ [])
unfolding s₄ counted_of sound_of sub_mod add_mod ready_from
moves_one = (refl, refl)

-- both have heard all, so they hold the same numbers
agreed : s₄.writer.now.scheduler ≡ s₄.reader.now.scheduler
unfolding s₄
agreed = promised.agree refl refl
