-- A loop goes from each character's first byte to the next.
-- Assumes nothing.
use mathlib.Core.Path.{◌≡◌, refl, sym, ap, ◌∙◌}
use mathlib.Core.Bool.{Bool, true, false, cond}
use mathlib.Core.List.{List, [], ◌∷◌}
use mathlib.Core.Logic.{⊎_elim}
use Prim.Native.Nat.{ℕ, zero, suc, ◌+◌, ◌-◌, ◌≤◌, ◌<◌}
use native.Mathlib.Omega.{arith}
use lib.Dec.{ltb, leb, lit≤}
use lib.ListN.{length, drop, get_or}
use lib.Seq.{drop-drop}
use borrow.Author.Tests.{lt-leb}
use Rattle.text.specs.declared.Range.{Range}
use Rattle.counting.specs.Counting.{lead_length, count_after, count}
use Rattle.text.specs.Part.{fits, part}
use Rattle.ascii.specs.Runs.{AsciiTo}
use Rattle.text.proofs.Ranges.{fits_le, le_fits, part_next, part_end}
use Rattle.counting.proofs.Skips.{run_counted}

-- ---- a lead byte's length is 1 to 8
pub record Length (n : ℕ) : Type 0 where
  pub some : 1 ≤ n
  pub few : n ≤ 8

either : (t : Bool) (x y : ℕ) → Length x → Length y → Length (cond t x y)
either true x y p q = p
either false x y p q = q

pub lead_within : (b : ℕ) → Length (lead_length b)
unfolding lead_length
lead_within b =
    either (ltb b 192) 1 _ (record { some = lit≤ tt; few = lit≤ tt })
    (either (ltb b 224) 2 _ (record { some = lit≤ tt; few = lit≤ tt })
    (either (ltb b 240) 3 _ (record { some = lit≤ tt; few = lit≤ tt })
    (either (ltb b 248) 4 _ (record { some = lit≤ tt; few = lit≤ tt })
    (either (ltb b 252) 5 _ (record { some = lit≤ tt; few = lit≤ tt })
    (either (ltb b 254) 6 _ (record { some = lit≤ tt; few = lit≤ tt })
    (either (ltb b 255) 7 8 (record { some = lit≤ tt; few = lit≤ tt }) (record { some = lit≤ tt; few = lit≤ tt })))))))

pub lead_size : (n b : ℕ) → n ≡ lead_length b → Length n
lead_size n b e = rw e (lead_within b)

-- bytes that are skipped might as well not be there
skipped : (n : ℕ) (bs : List ℕ) → count_after n bs ≡ count_after 0 (drop n bs)
unfolding count_after
skipped zero bs = refl
skipped (suc n) [] = refl
skipped (suc n) (b ∷ bs) = skipped n bs

-- one character more
further : (n : ℕ) (bs : List ℕ) (k : ℕ) (b : ℕ) → n ≡ lead_length b → 1 ≤ n → drop k bs ≡ b ∷ drop (k + 1) bs → count (drop k bs) ≡ 1 + count (drop (k + n) bs)
unfolding count count_after
further n bs k b e some d =
    let j : (k + 1) + (n - 1) ≡ k + n = omega arith in
    let t : count_after (lead_length b - 1) (drop (k + 1) bs) ≡ count_after 0 (drop (k + n) bs) =
    ap (λ (m : ℕ). count_after (m - 1) (drop (k + 1) bs)) (sym e)
    ∙ skipped (n - 1) (drop (k + 1) bs)
    ∙ ap (λ (l : List ℕ). count_after 0 l) (drop-drop (n - 1) (k + 1) bs ∙ ap (λ (m : ℕ). drop m bs) j) in
    ap (λ (l : List ℕ). count_after 0 l) d ∙ ap suc t ∙ omega arith

none : (bs : List ℕ) → bs ≡ [] → count bs ≡ 0
unfolding count count_after
none bs e = rw e

-- what holds where `many` characters were passed, up to a place
pub record Passed (text : List ℕ) (r : Range) (many at : ℕ) : Type 0 where
  pub room : r.start + r.length ≤ length text
  pub on : r.start ≤ at
  pub few : r.start + many ≤ at
  pub fewer : many ≤ r.length
  pub left : many + count (drop (at - r.start) (part text r)) ≡ count (part text r)

pub at_start : (text : List ℕ) (r : Range) → fits (length text) r ≡ true → Passed text r 0 r.start
at_start text r f =
    let z : r.start - r.start ≡ 0 = omega arith in
    let all = ap (λ (m : ℕ). count (drop m (part text r))) z in
    record { room = fits_le (length text) r f; on = omega arith; few = omega arith; fewer = omega arith; left = omega arith }

module _ {text : List ℕ} {r : Range} {many at : ℕ} (g : Passed text r many at) where
  recounted : {n : ℕ} → many ≡ n → Passed text r n at
  recounted e = rw e at g

  -- a run after a place that may lie past the end
  along : (to : ℕ) → AsciiTo text at (r.start + r.length) to → Passed text r (many + (to - at)) to
  along to p =
      let run : count (drop (at - r.start) (part text r)) ≡ (to - at) + count (drop (to - r.start) (part text r)) =
      ⊎_elim
      (λ (l : to ≤ r.start + r.length). run_counted text r g.room at to g.on p.on l p.ascii)
      (λ (e : to ≡ at). let same = ap (λ (m : ℕ). count (drop (m - r.start) (part text r))) e in omega arith)
      p.short in
      record {
        room = g.room;
        on = omega (arith, g.on, p.on);
        few = omega (arith, g.few, p.on);
        fewer = ⊎_elim (λ (l : to ≤ r.start + r.length). omega (arith, g.few, p.on)) (λ (e : to ≡ at). omega (arith, g.fewer)) p.short;
        left = omega (arith, g.left);
      }

  pub character : (n : ℕ) → n ≡ lead_length (get_or text at 0) → at < r.start + r.length → Passed text r (many + 1) (at + n)
  character n e h =
      let k = at - r.start in
      let w = lead_size n (get_or text at 0) e in
      let i : r.start + k ≡ at = omega (arith, g.on) in
      let next = part_next text r (le_fits _ _ g.room) k (omega (arith, g.on)) in
      let char = further n (part text r) k (get_or text at 0) e w.some (rw i at next) in
      let j : k + n ≡ (at + n) - r.start = omega (arith, g.on) in
      let same = ap (λ (m : ℕ). count (drop m (part text r))) j in
      record {
        room = g.room;
        on = omega (arith, g.on);
        few = omega (arith, g.few, w.some);
        fewer = omega (arith, g.few);
        left = omega (arith, g.left);
      }

  pub done : r.start + r.length ≤ at → many ≡ count (part text r)
  done h = omega (arith, g.left, none (drop (at - r.start) (part text r)) (part_end text r (le_fits _ _ g.room) (at - r.start) (omega arith)))

  -- whether there are k characters: not if all were passed and are fewer, and where as many were passed
  module _ (k : ℕ) where
    pub too_few : r.start + r.length ≤ at → many < k → false ≡ leb k (count (part text r))
    too_few h l = let e = done h in sym (lt-leb k (count (part text r)) (omega arith))

pub begin : (text : List ℕ) (r : Range) (at : ℕ) → fits (length text) r ≡ true → AsciiTo text r.start (r.start + r.length) at → Passed text r (at - r.start) at
begin text r at f p = recounted (along (at_start text r f) at p) (omega arith)

pub pass : {text : List ℕ} {r : Range} {many at : ℕ} (g : Passed text r many at) (n to : ℕ) → n ≡ lead_length (get_or text at 0) → at < r.start + r.length
    → AsciiTo text (at + n) (r.start + r.length) to → Passed text r (many + (1 + (to - (at + n)))) to
pass g n to e h p = recounted (along (character g n e h) to p) (omega arith)
