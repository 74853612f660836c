-- ASCII in front of what is left of a part: it may be passed.
-- Assumes nothing.
use mathlib.Core.List.{List, ◌∷◌}
use mathlib.Core.Path.{◌≡◌, refl, sym, ap, ◌∙◌}
use Prim.Native.Nat.{ℕ, zero, suc, ◌+◌, ◌-◌, ◌≤◌, ◌<◌}
use native.Mathlib.Nat.{add-zero}
use native.Mathlib.Omega.{arith}
use lib.ListN.{length, drop, get_or}
use lib.Seq.{drop-cons}
use Rattle.text.specs.declared.Range.{Range}
use Rattle.text.specs.Part.{part}
use Rattle.ascii.specs.Runs.{Ascii}
use Rattle.ascii.proofs.Parts.{in_part}
use Rattle.utf8.specs.declared.State.{State}
use Rattle.utf8.specs.Automaton.{waiting, ends, is_utf8}
use Rattle.utf8.proofs.Steps.{begin_ascii, step_first, ends_cons, ends_ready}

one_accepted : (x : ℕ) (bs : List ℕ) → x < 0x80 → is_utf8 (x ∷ bs) ≡ is_utf8 bs
unfolding is_utf8
one_accepted x bs h = ends_cons (waiting 0) (waiting 0) x bs (step_first (waiting 0) x refl ∙ begin_ascii x h)

accepted : (bs : List ℕ) (k d : ℕ) → k + d ≤ length bs → Ascii bs k (k + d) → is_utf8 (drop k bs) ≡ is_utf8 (drop (k + d) bs)
accepted bs k zero h q = rw add-zero
accepted bs k (suc d) h q =
    let e : suc k + d ≡ k + suc d = omega arith in
    ap is_utf8 (drop-cons bs k 0 (omega arith))
    ∙ one_accepted (get_or bs k 0) (drop (suc k) bs) (q k (omega arith) (omega arith))
    ∙ accepted bs (suc k) d (omega arith) (λ (i : ℕ) (l : suc k ≤ i) (m : i < suc k + d). q i (omega arith) (omega arith))
    ∙ ap (λ (m : ℕ). is_utf8 (drop m bs)) e

module _ (text : List ℕ) (r : Range) (room : r.start + r.length ≤ length text) (a b : ℕ) (low : r.start ≤ a) (on : a ≤ b) (short : b ≤ r.start + r.length) (q : Ascii text a b) where
  pub run_accepted : (s : State) → s.need ≡ 0 → ends s (drop (a - r.start) (part text r)) ≡ ends s (drop (b - r.start) (part text r))
  run_accepted s e =
      let p = in_part text r room a b low on short q in
      ends_ready s (drop (a - r.start) (part text r)) e
      ∙ accepted (part text r) (a - r.start) (b - a) p.room p.ascii
      ∙ ap (λ (m : ℕ). is_utf8 (drop m (part text r))) p.there
      ∙ sym (ends_ready s (drop (b - r.start) (part text r)) e)
