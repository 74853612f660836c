-- The second pass writes the text.
--     text_written    the theorem
-- Assumes nothing.
use mathlib.Core.List.{List, [], ◌∷◌, ◌++◌, append_assoc, append-nil}
use mathlib.Core.Logic.{◌⊎◌, inl, inr, ⊎_elim}
use mathlib.Core.Path.{◌≡◌, refl, sym, ap, ◌∙◌}
use Prim.Native.Nat.{ℕ, zero, suc, ◌+◌, ◌-◌, ◌≤◌, ◌<◌}
use native.Mathlib.Omega.{arith}
use lib.ListN.{length, get_or, drop, set, length-append, length-set, get_or-append}
use lib.Seq.{sets, length-sets, get_or-set_same, get_or-set_other, get_or-append-add}
use Rattle.breadth.specs.Forest.{Forest}
use Rattle.breadth.specs.Breadth.{Entry, Event, event, walk, depth, on, above, breadth}
use Rattle.breadth.specs.Sheet.{text_of, bytes_of, text}
use Rattle.breadth.specs.Counters.{size, bump, starts, write_text}
use Rattle.laws.proofs.Tests.{le_or_lt}
use Rattle.breadth.proofs.Lists.{same_or_not, written, weigh_append, weigh_size, text_append}
use Rattle.breadth.proofs.Walks.{sum, sum_nil, sum_append, sum_same, sum_other, high, Splits}
use Rattle.breadth.proofs.Places.{ahead, placed}
use Rattle.breadth.proofs.Passes.{now, now_is, after_append, after_last, locate}

-- ---- a run of stores, read

sets_before : (vs l : List ℕ) (i j : ℕ) → j < i → get_or (sets l i vs) j 0 ≡ get_or l j 0
sets_before [] l i j h = refl
sets_before (a ∷ vs) l i j h = sets_before vs (set l i a) (suc i) j (omega arith) ∙ get_or-set_other l i j a 0 (omega arith)

sets_after : (vs l : List ℕ) (i j : ℕ) → i + length vs ≤ j → get_or (sets l i vs) j 0 ≡ get_or l j 0
sets_after [] l i j h = refl
sets_after (a ∷ vs) l i j h = sets_after vs (set l i a) (suc i) j (omega arith) ∙ get_or-set_other l i j a 0 (omega arith)

sets_in : (vs l : List ℕ) (i m : ℕ) → i + length vs ≤ length l → m < length vs → get_or (sets l i vs) (i + m) 0 ≡ get_or vs m 0
sets_in [] l i m h b = absurd (nothing b)
  where
    nothing : m < 0 → ⊥
    nothing z = omega arith
sets_in (a ∷ vs) l i zero h b =
    let z : i + 0 ≡ i = omega arith in
    rw z (sets_before vs (set l i a) (suc i) i (omega arith) ∙ get_or-set_same l i a 0 (omega arith))
sets_in (a ∷ vs) l i (suc m) h b =
    let z : i + suc m ≡ suc i + m = omega arith in
    rw z (sets_in vs (set l i a) (suc i) m (omega (arith, length-set l i a)) (omega arith))

-- ---- a value's bytes in the text

module _ (f : Forest) (pre post : List Event) (k : ℕ) (e : Entry) (h : Splits f 0 pre k e post) where
  start : now size (walk 0 f) pre k ≡ length (text_of (ahead f pre post k e h))
  start = now_is size (walk 0 f) pre k ∙ sym (weigh_append size (above k (walk 0 f)) (on k pre)) ∙ weigh_size (ahead f pre post k e h)

  whole : text f ≡ text_of (ahead f pre post k e h) ++ (bytes_of e ++ text_of (placed f pre post k e h).0)
  unfolding text text_of
  whole = ap text_of (placed f pre post k e h).1 ∙ text_append (ahead f pre post k e h) (e ∷ (placed f pre post k e h).0)

  pub fits : now size (walk 0 f) pre k + size e ≤ length (text f)
  fits =
      let r = text_of (placed f pre post k e h).0 in
      omega (arith, start, ap length whole, length-append (text_of (ahead f pre post k e h)) (bytes_of e ++ r), length-append (bytes_of e) r)

  byte : (m : ℕ) → m < size e → get_or (text f) (now size (walk 0 f) pre k + m) 0 ≡ get_or (bytes_of e) m 0
  byte m b =
      let r = text_of (placed f pre post k e h).0 in
      rw (start, whole)
      (get_or-append-add (text_of (ahead f pre post k e h)) (bytes_of e ++ r) m 0 ∙ get_or-append (bytes_of e) r 0 m b)

pub text_high : (f : Forest) → length (text f) ≡ high size (depth f) (walk 0 f)
unfolding text breadth
text_high f = sym (weigh_size (breadth f))

-- ---- the pass

record Written (f : Forest) (area₀ : List ℕ) (pre : List Event) (area : List ℕ) : Type 0 where
  pub long : length area ≡ length area₀
  pub same : (k j : ℕ) → high size k (walk 0 f) ≤ j → j < high size k (walk 0 f) + sum size k pre → get_or area j 0 ≡ get_or (text f) j 0
  pub kept : (j : ℕ) → length (text f) ≤ j → get_or area j 0 ≡ get_or area₀ j 0

module _ (f : Forest) (area₀ : List ℕ) (room : length (text f) ≤ length area₀) where
  abbrev es : List Event
  es = walk 0 f

  written_one : (pre post : List Event) (k : ℕ) (e : Entry) (h : Splits f 0 pre k e post) (area : List ℕ) → Written f area₀ pre area
      → Written f area₀ (pre ++ event k e ∷ []) (sets area (now size es pre k) (bytes_of e))
  written_one pre post k e h area d =
      let s = now size es pre k in
      let bs = bytes_of e in
      let inside = fits f pre post k e h in
      let is = now_is size es pre k in
      record {
        long = length-sets area s bs ∙ d.long;
        same = λ (i j : ℕ) (p : high size i es ≤ j) (q : j < high size i es + sum size i (pre ++ event k e ∷ [])).
            let short : (j < s) ⊎ (s + length bs ≤ j) → j < high size i es + sum size i pre =
            λ c. ⊎_elim
            (λ (z : k ≡ i).
            let t : sum size i (pre ++ event k e ∷ []) ≡ sum size i pre + (size e + sum size i []) = rw z (sum_append size i pre (event i e ∷ []) ∙ ap (λ (x : ℕ). sum size i pre + x) (sum_same size i e [])) in
            let u : s ≡ high size i es + sum size i pre = is ∙ rw z in
            ⊎_elim (λ (l : j < s). omega arith) (λ (l : s + length bs ≤ j). absurd (omega (arith, sum_nil size i))) c)
            (λ (m : k ≡ i → ⊥). omega (arith, sum_append size i pre (event k e ∷ []), sum_other size i k e [] m, sum_nil size i))
            (same_or_not k i) in
            ⊎_elim
            (λ (l : s ≤ j).
            ⊎_elim
            (λ (g : s + length bs ≤ j). sets_after bs area s j g ∙ d.same i j p (short (inr g)))
            (λ (g : j < s + length bs).
            let z : j ≡ s + (j - s) = omega arith in
            rw z (sets_in bs area s (j - s) (omega (arith, d.long)) (omega arith) ∙ sym (byte f pre post k e h (j - s) (omega arith))))
            (le_or_lt (s + length bs) j))
            (λ (l : j < s). sets_before bs area s j l ∙ d.same i j p (short (inl l)))
            (le_or_lt s j);
        kept = λ (j : ℕ) (p : length (text f) ≤ j). sets_after bs area s j (omega arith) ∙ d.kept j p;
      }

  fill : (pre post : List Event) → es ≡ pre ++ post → (area : List ℕ) → Written f area₀ pre area → write_text (now size es pre) post area ≡ text f ++ drop (length (text f)) area₀
  unfolding write_text
  fill pre [] h area d =
      let p : es ≡ pre = h ∙ append-nil pre in
      written 0 (text f) area₀ area room d.long
      (λ (i : ℕ) (b : i < length (text f)). let k = locate size es (depth f) i (omega (arith, text_high f)) in d.same k.0 i k.1 (rw (← p) k.2))
      d.kept
  fill pre (x ∷ post) h area d =
      let k = x.level in
      let e = x.entry in
      let more : es ≡ (pre ++ event k e ∷ []) ++ post = h ∙ sym (append_assoc pre (event k e ∷ []) post) in
      let step = fill (pre ++ event k e ∷ []) post more (sets area (now size es pre k) (bytes_of e)) (written_one pre post k e h area d) in
      let b : now size es (pre ++ x ∷ []) ≡ bump size (now size es pre) x = after_append size pre (x ∷ []) (starts size es) ∙ after_last size (now size es pre) x in
      rw b at step

-- the text is written from the area's start, and what lies after it stays
pub text_written : (f : Forest) (area : List ℕ) → length (text f) ≤ length area
    → write_text (starts size (walk 0 f)) (walk 0 f) area ≡ text f ++ drop (length (text f)) area
unfolding Rattle.breadth.specs.Counters.after
text_written f area room =
    fill f area room [] (walk 0 f) refl area
    (record {
      long = refl;
      same = λ (k j : ℕ) (p : high size k (walk 0 f) ≤ j) (q : j < high size k (walk 0 f) + sum size k []). absurd (omega (arith, sum_nil size k));
      kept = λ j p. refl;
    })
