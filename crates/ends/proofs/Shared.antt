-- Demand 3 for every kind that keeps the laws. The invariant, the events and the promises are proved here, once.
use Prim.Native.Nat.{ℕ, ◌+◌, ◌-◌, ◌%◌, ◌^◌, ◌≤◌, ◌<◌, min}
use mathlib.Core.Path.{◌≡◌, refl, sym, ap, ◌∙◌}
use mathlib.Core.Logic.{◌⊎◌, inl, inr}
use mathlib.Core.List.Memᴰ
use mathlib.Core.List.{List, [], ◌∷◌, ◌++◌, append-nil, Memᴰ}
use native.Mathlib.Nat.{not-suc-le-zero, mod-mod}
use native.Mathlib.Omega.{arith}
use lib.ListN.{length, take, drop, length-append, length-drop, get_or-append}
use lib.Seq.{length-take-le, take_at, get_or-drop}
use Rattle.copies.specs.Ring.{put, get}
use Rattle.copies.specs.Promises.{OnlyCells, OnlyFront}
use Rattle.copies.proofs.Ring.{length_get, put_place, get_place, put_own, get_own}
use Rattle.ends.specs.World.{done, refused, moved, Kind, Copied, sent, Note, Ends, Event, writes, reads, sends_w, sends_r, takes_w, takes_r, Allowed, after_copy, writing, reading, taking_w, taking_r, present_w, present_r, step, run, AllAllowed, unread, waiting, writable, readable, Exactly, unmoved, Demand3, start, HoldsFrom}
use Rattle.ends.proofs.View.{seen, place, Near, data_view, space_view}
use Rattle.ends.proofs.Laws.{Aside-or, Laws}
use Rattle.ends.proofs.Core.{Core, core_write, core_read, core_hear_r, core_hear_w, core_order, core_unread}

module _ (K : Kind) (l c : ℕ) (A : Laws K l c) where
  record Inv (s : Ends K) : Type 0 where
    core : Core l c s.ring s.writer.bytes s.reader.bytes (A.by s.writer.heard) (A.by s.reader.heard)
    writer_is : A.IsW (length s.writer.bytes) s.writer.heard s.writer.now
    reader_is : A.IsR s.reader.heard (length s.reader.bytes) s.reader.now
    notes_w : (m : Note K.NoteW K.Age) → Memᴰ m s.writer.sent → A.TellsW m.age m.says × (A.by m.age ≤ length s.writer.bytes)
    notes_r : (m : Note K.NoteR K.Age) → Memᴰ m s.reader.sent → A.TellsR m.age m.says × (A.by m.age ≤ length s.reader.bytes)

  module _ (s : Ends K) (h : Inv s) where
    -- how far an end has heard of the other
    abbrev heard_r : ℕ
    heard_r = A.by s.writer.heard

    abbrev heard_w : ℕ
    heard_w = A.by s.reader.heard

    near_w : Near l (length s.writer.bytes) heard_r
    near_w = record { pos = h.core.pos; top = h.core.top; low = omega (arith, h.core); high = h.core.fits }

    near_r : Near l heard_w (length s.reader.bytes)
    near_r = record { pos = h.core.pos; top = h.core.top; low = h.core.not_ahead; high = omega (arith, h.core) }

    -- how many bytes a write of src moves, and a read into dst
    room : List ℕ → ℕ
    room src = min (length src) (l - (length s.writer.bytes - heard_r))

    ready : List ℕ → ℕ
    ready dst = min (length dst) (heard_w - length s.reader.bytes)

    core_after : (src : List ℕ) → Core l c (put l s.ring (c + length s.writer.bytes) (take (room src) src)) (s.writer.bytes ++ take (room src) src) s.reader.bytes heard_r heard_w
    unfolding room
    core_after src =
        let t : length (take (room src) src) ≡ room src = length-take-le (room src) src (omega arith) in
        core_write l c s.ring s.writer.bytes s.reader.bytes heard_r heard_w h.core (take (room src) src) (omega (arith, h.core))

    abbrev Writes : List ℕ → Copied K.Writer → Type 0
    Writes src x =
        Aside-or (K.AsideW s.writer.now (room src)) x s.writer.now s.ring (room src) (A.IsW (length s.writer.bytes + room src) s.writer.heard)
        (put l s.ring (c + length s.writer.bytes) (take (room src) src))

    abbrev Reads : List ℕ → Copied K.Reader → Type 0
    Reads dst x =
        Aside-or (K.AsideR s.reader.now (ready dst)) x s.reader.now dst (ready dst) (A.IsR s.reader.heard (length s.reader.bytes + ready dst))
        (get l s.ring (c + length s.reader.bytes) (ready dst) ++ drop (ready dst) dst)

    writing_is : (src : List ℕ) → Writes src (writing K s src)
    unfolding room
    writing_is src = A.write_law (length s.writer.bytes) s.writer.heard s.writer.now h.writer_is near_w s.ring src h.core.size

    reading_is : (dst : List ℕ) → Reads dst (reading K s dst)
    unfolding ready
    reading_is dst = A.read_law s.reader.heard (length s.reader.bytes) s.reader.now h.reader_is near_r s.ring dst h.core.size

    -- ---- each event keeps the invariant
    keep_write : (src : List ℕ) (x : Copied K.Writer) → Writes src x → Inv (record { writer = after_copy s.writer x src; reader = s.reader; ring = x.memory })
    unfolding room
    keep_write src x (inl (k, a, e)) = rw (e, append-nil) h
    keep_write src x (inr (f, is, e, free)) =
        let n : ℕ = room src in
        let t : length (take n src) ≡ n = length-take-le n src (omega arith) in
        let q : length (s.writer.bytes ++ take n src) ≡ length s.writer.bytes + n = length-append s.writer.bytes (take n src) ∙ ap (λ (y : ℕ). length s.writer.bytes + y) t in
        rw e
        (record {
          core = core_after src;
          writer_is = rw q is;
          reader_is = h.reader_is;
          notes_w = λ m i. ((h.notes_w m i).0, omega (arith, (h.notes_w m i).1));
          notes_r = h.notes_r;
        })

    keep_read : (dst : List ℕ) (x : Copied K.Reader) → Reads dst x → Inv (record { writer = s.writer; reader = after_copy s.reader x x.memory; ring = s.ring })
    unfolding ready
    keep_read dst x (inl (k, a, e)) = rw (e, append-nil) h
    keep_read dst x (inr (f, is, e, free)) =
        let n : ℕ = ready dst in
        let bs : List ℕ = get l s.ring (c + length s.reader.bytes) n in
        let t : take n (bs ++ drop n dst) ≡ bs = take_at bs (drop n dst) n (length_get l s.ring (c + length s.reader.bytes) n) in
        let q : length (s.reader.bytes ++ bs) ≡ length s.reader.bytes + n = length-append s.reader.bytes bs ∙ ap (λ (y : ℕ). length s.reader.bytes + y) (length_get l s.ring (c + length s.reader.bytes) n) in
        rw (e, t)
        (record {
          core = core_read l c s.ring s.writer.bytes s.reader.bytes heard_r heard_w h.core n (omega (arith, h.core));
          writer_is = h.writer_is;
          reader_is = rw q is;
          notes_w = h.notes_w;
          notes_r = λ m i. ((h.notes_r m i).0, omega (arith, (h.notes_r m i).1));
        })

    sending_w : (n : K.NoteW) × A.TellsW (present_w K s) n × (K.send_w s.writer.now ≡ sent n)
    sending_w = A.send_w_law _ _ s.writer.now h.writer_is near_w

    sending_r : (n : K.NoteR) × A.TellsR (present_r K s) n × (K.send_r s.reader.now ≡ sent n)
    sending_r = A.send_r_law _ _ s.reader.now h.reader_is near_r

    keep_send_w : Inv (step K s sends_w)
    keep_send_w =
        rw sending_w.2
        (record {
          core = h.core;
          writer_is = h.writer_is;
          reader_is = h.reader_is;
          notes_w = λ m i. told m (Memᴰ.append_cases s.writer.sent i);
          notes_r = h.notes_r;
        })
      where
        new : Note K.NoteW K.Age
        new = record { says = sending_w.0; age = present_w K s }

        told : (m : Note K.NoteW K.Age) → Memᴰ m s.writer.sent ⊎ Memᴰ m (new ∷ []) → A.TellsW m.age m.says × (A.by m.age ≤ length s.writer.bytes)
        told m (inl i) = h.notes_w m i
        told m (inr i) = rw (Memᴰ.eq_of_singleton i) (sending_w.1, omega (arith, A.by_W s.writer.now (length s.writer.bytes)))

    keep_send_r : Inv (step K s sends_r)
    keep_send_r =
        rw sending_r.2
        (record {
          core = h.core;
          writer_is = h.writer_is;
          reader_is = h.reader_is;
          notes_w = h.notes_w;
          notes_r = λ m i. told m (Memᴰ.append_cases s.reader.sent i);
        })
      where
        new : Note K.NoteR K.Age
        new = record { says = sending_r.0; age = present_r K s }

        told : (m : Note K.NoteR K.Age) → Memᴰ m s.reader.sent ⊎ Memᴰ m (new ∷ []) → A.TellsR m.age m.says × (A.by m.age ≤ length s.reader.bytes)
        told m (inl i) = h.notes_r m i
        told m (inr i) = rw (Memᴰ.eq_of_singleton i) (sending_r.1, omega (arith, A.by_R s.reader.now (length s.reader.bytes)))

    -- a note that is not old is taken, and one that is old is refused
    new_w : (m : Note K.NoteR K.Age) → Memᴰ m s.reader.sent → (K.Older m.age s.writer.heard → ⊥) →
        (f : K.Writer) × A.IsW (length s.writer.bytes) m.age f × (taking_w K s m ≡ record { answer = done 0; end = f })
    new_w m i new =
        A.take_w_law (length s.writer.bytes) s.writer.heard m.age s.writer.now m.says h.writer_is near_w (h.notes_r m i).0 new
        (omega (arith, h.core, (h.notes_r m i).1))

    new_r : (m : Note K.NoteW K.Age) → Memᴰ m s.writer.sent → (K.Older m.age s.reader.heard → ⊥) →
        (f : K.Reader) × A.IsR m.age (length s.reader.bytes) f × (taking_r K s m ≡ record { answer = done 0; end = f })
    new_r m i new =
        A.take_r_law s.reader.heard (length s.reader.bytes) m.age s.reader.now m.says h.reader_is near_r (h.notes_w m i).0 new
        (omega (arith, h.core, (h.notes_w m i).1))

    old_w : (m : Note K.NoteR K.Age) → Allowed K s (takes_w m) → K.Older m.age s.writer.heard → taking_w K s m ≡ record { answer = refused (K.old s.writer.heard m.age); end = s.writer.now }
    old_w m a lt = A.old_w_law (length s.writer.bytes) s.writer.heard m.age s.writer.now m.says h.writer_is near_w (h.notes_r m a.0).0 a.1 lt

    old_r : (m : Note K.NoteW K.Age) → Allowed K s (takes_r m) → K.Older m.age s.reader.heard → taking_r K s m ≡ record { answer = refused (K.old s.reader.heard m.age); end = s.reader.now }
    old_r m a lt = A.old_r_law s.reader.heard (length s.reader.bytes) m.age s.reader.now m.says h.reader_is near_r (h.notes_w m a.0).0 a.1 lt

    keep_take_w : (m : Note K.NoteR K.Age) → Allowed K s (takes_w m) → Dec (K.Older m.age s.writer.heard) → Inv (step K s (takes_w m))
    keep_take_w m a (yes lt) = rw (old_w m a lt) h
    keep_take_w m a (no new) =
        let n = new_w m a.0 new in
        rw n.2
        (record {
          core =
              core_hear_r l c s.ring s.writer.bytes s.reader.bytes heard_r heard_w h.core (A.by m.age) (A.not_older m.age s.writer.heard new)
              (h.notes_r m a.0).1;
          writer_is = n.1;
          reader_is = h.reader_is;
          notes_w = h.notes_w;
          notes_r = h.notes_r;
        })

    keep_take_r : (m : Note K.NoteW K.Age) → Allowed K s (takes_r m) → Dec (K.Older m.age s.reader.heard) → Inv (step K s (takes_r m))
    keep_take_r m a (yes lt) = rw (old_r m a lt) h
    keep_take_r m a (no new) =
        let n = new_r m a.0 new in
        rw n.2
        (record {
          core =
              core_hear_w l c s.ring s.writer.bytes s.reader.bytes heard_r heard_w h.core (A.by m.age) (A.not_older m.age s.reader.heard new)
              (h.notes_w m a.0).1;
          writer_is = h.writer_is;
          reader_is = n.1;
          notes_w = h.notes_w;
          notes_r = h.notes_r;
        })

    -- ---- the unread bytes, before a write and after it
    sees_waiting : (ring : List ℕ) → waiting K s ring ≡ get l ring (c + length s.reader.bytes) (length (unread K s))
    sees_waiting ring =
        rw (A.sees_r _ _ s.reader.now h.reader_is)
        (get_place l ring (seen l c (length s.reader.bytes) % l) (c + length s.reader.bytes) (length (unread K s))
        (mod-mod (seen l c (length s.reader.bytes)) l ∙ place l c (length s.reader.bytes)))

    fit : length s.reader.bytes + length (unread K s) ≤ length s.writer.bytes
    fit = rw length-drop (omega (arith, h.core))

    there : waiting K s s.ring ≡ unread K s
    there =
        sees_waiting s.ring ∙
        core_unread l c s.ring s.writer.bytes s.reader.bytes heard_r heard_w h.core (unread K s) fit
        (λ k q. get_or-drop (length s.reader.bytes) s.writer.bytes k 0)

    kept : (src : List ℕ) (x : Copied K.Writer) → Writes src x → waiting K s x.memory ≡ unread K s
    kept src x (inl (k, a, e)) = rw e there
    kept src x (inr (f, is, e, free)) =
        let n : ℕ = room src in
        rw e
        (sees_waiting (put l s.ring (c + length s.writer.bytes) (take n src)) ∙
        core_unread l c (put l s.ring (c + length s.writer.bytes) (take n src)) (s.writer.bytes ++ take n src) s.reader.bytes heard_r heard_w
        (core_after src)
        (unread K s)
        (rw length-append (omega (arith, fit)))
        (λ k q.
        get_or-drop (length s.reader.bytes) s.writer.bytes k 0 ∙
        sym (get_or-append s.writer.bytes (take n src) 0 (length s.reader.bytes + k) (omega (arith, fit)))))

    -- ---- what is moved and what is left alone, of either copy
    module _ {E : Type 0} (Aside : ℕ → Type 0) (x : Copied E) (e : E) (old : List ℕ) (n : ℕ) (P : E → Type 0) (new : List ℕ) where
      exactly : Aside-or Aside x e old n P new → Exactly Aside n x.answer
      exactly (inl (k, a, p)) = inr (k, a, ap (λ y. y.answer) p)
      exactly (inr (f, is, p, free)) = inl (free, ap (λ y. y.answer) p)

      -- what holds of the memory after n bytes, and of the old memory after none, holds of what is left
      left : (Own : ℕ → List ℕ → Type 0) → Own 0 old → Own n new → Aside-or Aside x e old n P new → Own (moved x.answer) x.memory
      left Own none all (inl (k, a, p)) = rw p none
      left Own none all (inr (f, is, p, free)) = rw p all

      aside : (j : ℕ) → x.answer ≡ refused j → Aside-or Aside x e old n P new → x ≡ unmoved j e old
      aside j q (inl (k, a, p)) =
          let i : k ≡ j = cc (ap (λ y. y.answer) p) in
          rw (← i) p
      aside j q (inr (f, is, p, free)) = let z : ◌≡◌ {A = ℕ} 0 1 = cc (ap (λ y. y.answer) p) in absurd (omega arith)

    room_is : (src : List ℕ) → writable K s src ≡ room src
    unfolding room
    room_is src = rw (A.sees_w _ _ s.writer.now h.writer_is, space_view l c (length s.writer.bytes) heard_r near_w)

    ready_is : (dst : List ℕ) → readable K s dst ≡ ready dst
    unfolding ready
    ready_is dst = rw (A.sees_r _ _ s.reader.now h.reader_is, data_view l c heard_w (length s.reader.bytes) near_r)

    -- the cells of a write, told by the counter's offset
    own_put : (src : List ℕ) → OnlyCells l (seen l c (length s.writer.bytes) % l) (room src) s.ring (put l s.ring (c + length s.writer.bytes) (take (room src) src))
    unfolding room
    own_put src =
        let at : ℕ = seen l c (length s.writer.bytes) % l in
        let t : length (take (room src) src) ≡ room src = length-take-le (room src) src (omega arith) in
        let e : (c + length s.writer.bytes) % l ≡ at % l = sym (mod-mod (seen l c (length s.writer.bytes)) l ∙ place l c (length s.writer.bytes)) in
        rw (put_place l s.ring (c + length s.writer.bytes) at (take (room src) src) e) (rw t at (put_own l s.ring at (take (room src) src)))

    own_get : (dst : List ℕ) → OnlyFront (ready dst) dst (get l s.ring (c + length s.reader.bytes) (ready dst) ++ drop (ready dst) dst)
    unfolding ready
    own_get dst = get_own l s.ring (c + length s.reader.bytes) (ready dst) dst (omega arith)

    -- ---- the promises
    promises : Demand3 K s
    promises =
        record {
          writes_exactly = λ src. rw (room_is src) (exactly _ (writing K s src) _ _ _ _ _ (writing_is src));
          reads_exactly = λ dst. rw (ready_is dst) (exactly _ (reading K s dst) _ _ _ _ _ (reading_is dst));
          writes_own = λ src.
              rw (A.sees_w _ _ s.writer.now h.writer_is)
              (left _ (writing K s src) _ _ _ _ _ (λ n m. OnlyCells l (seen l c (length s.writer.bytes) % l) n s.ring m) (refl, λ k q. refl) (own_put src) (writing_is src));
          reads_own = λ dst.
              left _ (reading K s dst) _ _ _ _ _ (λ n m. OnlyFront n dst m) (refl, refl) (own_get dst) (reading_is dst);
          write_aside = λ src k q. aside _ (writing K s src) _ _ _ _ _ k q (writing_is src);
          read_aside = λ dst k q. aside _ (reading K s dst) _ _ _ _ _ k q (reading_is dst);
          in_order = core_order l c s.ring s.writer.bytes s.reader.bytes heard_r heard_w h.core;
          unread_there = there;
          unread_kept = λ src. kept src (writing K s src) (writing_is src);
          sends_W = (sending_w.0, sending_w.2);
          sends_R = (sending_r.0, sending_r.2);
          accepts_W = λ m a. (λ new. ap (λ t. t.answer) (new_w m a.0 new).2, λ lt. ap (λ t. t.answer) (old_w m a lt));
          accepts_R = λ m a. (λ new. ap (λ t. t.answer) (new_r m a.0 new).2, λ lt. ap (λ t. t.answer) (old_r m a lt));
          agree = λ p q.
              A.alike (length s.writer.bytes) (length s.reader.bytes) s.writer.now s.reader.now (rw p at h.writer_is) (rw q at h.reader_is);
        }

  keep : (s : Ends K) (e : Event K) → Allowed K s e → Inv s → Inv (step K s e)
  keep s (writes src) a h = keep_write s h src (writing K s src) (writing_is s h src)
  keep s (reads dst) a h = keep_read s h dst (reading K s dst) (reading_is s h dst)
  keep s sends_w a h = keep_send_w s h
  keep s sends_r a h = keep_send_r s h
  keep s (takes_w m) a h = keep_take_w s h m a (A.older? m.age s.writer.heard)
  keep s (takes_r m) a h = keep_take_r s h m a (A.older? m.age s.reader.heard)

  keeps : (s : Ends K) (es : List (Event K)) → AllAllowed K s es → Inv s → Inv (run K s es)
  keeps s [] a h = h
  keeps s (e ∷ es) a h = keeps (step K s e) es a.1 (keep s e a.0 h)

  begin : (w : K.Writer) (r : K.Reader) (ring : List ℕ) → A.IsW 0 (K.age_r r 0) w → A.IsR (K.age_w w 0) 0 r → 0 < l → l ≤ 2 ^ 63 → length ring ≡ l → Inv (start K w r ring)
  begin w r ring hw hr pos top e =
      record {
        core =
            record {
              pos = pos;
              top = top;
              size = e;
              heard_r_late = omega (arith, A.by_R r 0);
              not_ahead = omega arith;
              heard_w_late = omega (arith, A.by_W w 0);
              fits = omega arith;
              order = λ i q. absurd (not-suc-le-zero q);
              there = λ i q u. absurd (not-suc-le-zero u);
            };
        writer_is = hw;
        reader_is = hr;
        notes_w = λ m i. absurd (Memᴰ.not-nil i);
        notes_r = λ m i. absurd (Memᴰ.not-nil i);
      }

  pub shared : (w : K.Writer) (r : K.Reader) (ring : List ℕ) → A.IsW 0 (K.age_r r 0) w → A.IsR (K.age_w w 0) 0 r → 0 < l → l ≤ 2 ^ 63 → length ring ≡ l → HoldsFrom K w r ring
  shared w r ring hw hr pos top e es a = promises (run K (start K w r ring) es) (keeps (start K w r ring) es a (begin w r ring hw hr pos top e))
