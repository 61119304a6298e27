-- What a kind of end has to keep for demand 3: which records are an end at a position, which notes are of an age, and what the
-- calls do to these. Positions count all bytes since the counters stood at c; the ring has l places.
use Prim.Native.Nat.{ℕ, ◌+◌, ◌-◌, ◌≤◌, min}
use mathlib.Core.Path.{◌≡◌}
use mathlib.Core.Logic.{◌⊎◌}
use mathlib.Core.List.{List, ◌++◌}
use lib.ListN.{length, take, drop}
use Rattle.copies.specs.Ring.{put, get}
use Rattle.ends.specs.World.{done, refused, Kind, Copied, sent, unmoved}
use Rattle.ends.proofs.View.{view, Near}

-- a copy that would move n bytes is left aside and leaves all as it was, or moves them and leaves a record of which P holds and
-- this memory
abbrev pub Aside-or : {E : Type 0} → (ℕ → Type 0) → Copied E → E → List ℕ → ℕ → (E → Type 0) → List ℕ → Type 0
Aside-or {E} Aside x e old n P new =
    ((k : ℕ) × Aside k × (x ≡ unmoved k e old)) ⊎
    ((f : E) × P f × (x ≡ record { answer = done n; end = f; memory = new }) × ((k : ℕ) → Aside k → ⊥))

module _ (K : Kind) (l c : ℕ) where
  pub record Laws : Type 1 where
    -- how many bytes were moved by this age
    pub by : K.Age → ℕ
    pub by_W : (e : K.Writer) (n : ℕ) → by (K.age_w e n) ≡ n
    pub by_R : (e : K.Reader) (n : ℕ) → by (K.age_r e n) ≡ n
    pub older? : (a b : K.Age) → Dec (K.Older a b)
    pub not_older : (a b : K.Age) → (K.Older a b → ⊥) → by b ≤ by a
    -- this record is the writing end at position w, whose last note taken is of the age r; and the other way round
    pub IsW : ℕ → K.Age → K.Writer → Type 0
    pub IsR : K.Age → ℕ → K.Reader → Type 0
    -- this note is of this age
    pub TellsW : K.Age → K.NoteW → Type 0
    pub TellsR : K.Age → K.NoteR → Type 0
    pub sees_w : (w : ℕ) (r : K.Age) (e : K.Writer) → IsW w r e → K.sched_w e ≡ view l c w (by r)
    pub sees_r : (w : K.Age) (r : ℕ) (e : K.Reader) → IsR w r e → K.sched_r e ≡ view l c (by w) r
    pub alike : (w r : ℕ) (e : K.Writer) (f : K.Reader) → IsW w (K.age_r f r) e → IsR (K.age_w e w) r f → K.holds_w e ≡ K.holds_r f
    pub send_w_law : (w : ℕ) (r : K.Age) (e : K.Writer) → IsW w r e → Near l w (by r) →
        (n : K.NoteW) × TellsW (K.age_w e w) n × (K.send_w e ≡ sent n)
    pub send_r_law : (w : K.Age) (r : ℕ) (e : K.Reader) → IsR w r e → Near l (by w) r →
        (n : K.NoteR) × TellsR (K.age_r e r) n × (K.send_r e ≡ sent n)
    pub write_law : (w : ℕ) (r : K.Age) (e : K.Writer) → IsW w r e → Near l w (by r) → (ring src : List ℕ) → length ring ≡ l →
        Aside-or (K.AsideW e (min (length src) (l - (w - by r)))) (K.write e ring src) e ring (min (length src) (l - (w - by r)))
        (IsW (w + min (length src) (l - (w - by r))) r) (put l ring (c + w) (take (min (length src) (l - (w - by r))) src))
    pub read_law : (w : K.Age) (r : ℕ) (e : K.Reader) → IsR w r e → Near l (by w) r → (ring dst : List ℕ) → length ring ≡ l →
        Aside-or (K.AsideR e (min (length dst) (by w - r))) (K.read e ring dst) e dst (min (length dst) (by w - r))
        (IsR w (r + min (length dst) (by w - r))) (get l ring (c + r) (min (length dst) (by w - r)) ++ drop (min (length dst) (by w - r)) dst)
    pub take_w_law : (w : ℕ) (r p : K.Age) (e : K.Writer) (n : K.NoteR) → IsW w r e → Near l w (by r) → TellsR p n → (K.Older p r → ⊥) → by p ≤ w →
        (f : K.Writer) × IsW w p f × (K.take_w e n ≡ record { answer = done 0; end = f })
    pub take_r_law : (w : K.Age) (r : ℕ) (p : K.Age) (e : K.Reader) (n : K.NoteW) → IsR w r e → Near l (by w) r → TellsW p n → (K.Older p w → ⊥) → by p ≤ r + l →
        (f : K.Reader) × IsR p r f × (K.take_r e n ≡ record { answer = done 0; end = f })
    -- an old note, where the rule of delivery allows one
    pub old_w_law : (w : ℕ) (r p : K.Age) (e : K.Writer) (n : K.NoteR) → IsW w r e → Near l w (by r) → TellsR p n → K.Delivered r p → K.Older p r →
        K.take_w e n ≡ record { answer = refused (K.old r p); end = e }
    pub old_r_law : (w : K.Age) (r : ℕ) (p : K.Age) (e : K.Reader) (n : K.NoteW) → IsR w r e → Near l (by w) r → TellsW p n → K.Delivered w p → K.Older p w →
        K.take_r e n ≡ record { answer = refused (K.old w p); end = e }
