-- ASCII in front of what is left of a part: each of its bytes is a character.
-- Assumes nothing.
use mathlib.Core.List.{List, ◌∷◌}
use mathlib.Core.Path.{◌≡◌, ap, ◌∙◌}
use Prim.Native.Nat.{ℕ, zero, suc, ◌+◌, ◌-◌, ◌≤◌, ◌<◌}
use native.Mathlib.Omega.{arith}
use lib.ListN.{length, drop, get_or}
use lib.Seq.{drop-cons}
use Rattle.text.specs.declared.Range.{Range}
use Rattle.text.specs.Part.{part}
use Rattle.ascii.specs.Runs.{Ascii}
use Rattle.ascii.proofs.Parts.{in_part}
use Rattle.counting.specs.Counting.{count_after, count}
use Rattle.counting.proofs.Counted.{lead_1}

one_counted : (x : ℕ) (bs : List ℕ) → x < 0x80 → count (x ∷ bs) ≡ suc (count bs)
unfolding count count_after
one_counted x bs h = rw (lead_1 x (omega arith))

counted : (bs : List ℕ) (k d : ℕ) → k + d ≤ length bs → Ascii bs k (k + d) → count (drop k bs) ≡ d + count (drop (k + d) bs)
counted bs k zero h q = let e : k + 0 ≡ k = omega arith in rw e (omega arith)
counted bs k (suc d) h q =
    let e : suc k + d ≡ k + suc d = omega arith in
    let here = ap count (drop-cons bs k 0 (omega arith)) ∙ one_counted (get_or bs k 0) (drop (suc k) bs) (q k (omega arith) (omega arith)) in
    let rest = counted bs (suc k) d (omega arith) (λ (i : ℕ) (l : suc k ≤ i) (m : i < suc k + d). q i (omega arith) (omega arith)) in
    let same = ap (λ (m : ℕ). count (drop m bs)) e in
    omega arith

module _ (text : List ℕ) (r : Range) (room : r.start + r.length ≤ length text) (a b : ℕ) (low : r.start ≤ a) (on : a ≤ b) (short : b ≤ r.start + r.length) (q : Ascii text a b) where
  pub run_counted : count (drop (a - r.start) (part text r)) ≡ (b - a) + count (drop (b - r.start) (part text r))
  run_counted =
      let p = in_part text r room a b low on short q in
      rw p.there at (counted (part text r) (a - r.start) (b - a) p.room p.ascii)
