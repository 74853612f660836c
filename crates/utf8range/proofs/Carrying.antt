-- A loop carries the state over the bytes of a part, and passes ASCII between two characters.
-- Assumes nothing.
use mathlib.Core.Path.{◌≡◌, refl, sym, ap, subst, ◌∙◌}
use mathlib.Core.Bool.{true, false}
use mathlib.Core.List.{List}
use mathlib.Core.Logic.{⊎_elim}
use Prim.Native.Nat.{ℕ, ◌+◌, ◌-◌, ◌≤◌, ◌<◌}
use native.Mathlib.Omega.{arith}
use lib.Dec.{eqb}
use lib.ListN.{length, drop, get_or}
use borrow.Author.Tests.{eqb-true, eqb-false}
use Rattle.utf8.specs.declared.State.{State}
use Rattle.text.specs.declared.Range.{Range}
use Rattle.utf8.specs.Automaton.{waiting, step, after, ends, is_utf8}
use Rattle.text.specs.Part.{fits, part}
use Rattle.ascii.specs.Runs.{AsciiTo}
use Rattle.utf8range.specs.Places.{Onward}
use Rattle.laws.proofs.Tests.{decide}
use Rattle.text.proofs.Ranges.{fits_le, le_fits, part_next, part_end}
use Rattle.utf8.proofs.Steps.{ends_cons}
use Rattle.utf8range.proofs.Skips.{run_accepted}

-- what holds where the bytes before `at` were passed
pub record Carried (text : List ℕ) (r : Range) (s : State) (at : ℕ) : Type 0 where
  pub on : r.start ≤ at
  pub short : at ≤ r.start + r.length
  pub room : r.start + r.length ≤ length text
  pub left : ends s (drop (at - r.start) (part text r)) ≡ is_utf8 (part text r)

before_end : {text : List ℕ} {from end at : ℕ} → from ≤ end → AsciiTo text from end at → at ≤ end
before_end {text} {from} {end} {at} h p = ⊎_elim (λ (l : at ≤ end). l) (λ (e : at ≡ from). omega arith) p.short

nothing_passed : (text : List ℕ) (r : Range) → ends (waiting 0) (drop (r.start - r.start) (part text r)) ≡ is_utf8 (part text r)
unfolding is_utf8
nothing_passed text r = let e : r.start - r.start ≡ 0 = omega arith in rw e

pub begin : (text : List ℕ) (r : Range) (at : ℕ) → fits (length text) r ≡ true → AsciiTo text r.start (r.start + r.length) at → Carried text r (waiting 0) at
begin text r at f p =
    let room = fits_le (length text) r f in
    let short = before_end (omega arith) p in
    record {
      on = p.on;
      short = short;
      room = room;
      left = sym (run_accepted text r room r.start at (omega arith) p.on short p.ascii (waiting 0) refl) ∙ nothing_passed text r;
    }

module _ {text : List ℕ} {r : Range} {s : State} {at : ℕ} (g : Carried text r s at) where
  -- one byte more
  stepped : at < r.start + r.length → Carried text r (step s (get_or text at 0)) (at + 1)
  stepped h =
      let k = at - r.start in
      let e : r.start + k ≡ at = omega (arith, g.on) in
      let f : (at + 1) - r.start ≡ k + 1 = omega (arith, g.on) in
      let next = part_next text r (le_fits _ _ g.room) k (omega (arith, g.on)) in
      let cons = ends_cons s (step s (get_or text (r.start + k) 0)) (get_or text (r.start + k) 0) (drop (k + 1) (part text r)) refl in
      record {
        on = omega (arith, g.on);
        short = omega arith;
        room = g.room;
        left = rw f (rw e at (sym cons ∙ ap (λ (l : List ℕ). ends s l) (sym next) ∙ g.left));
      }

  -- and what is passed after it
  pub carry : (to : ℕ) → at < r.start + r.length → Onward text (step s (get_or text at 0)) (at + 1) (r.start + r.length) to → Carried text r (step s (get_or text at 0)) to
  carry to h o =
      let q = step s (get_or text at 0) in
      let p = stepped h in
      let short = before_end p.short o.run in
      ⊎_elim
      (λ (t : eqb q.need 0 ≡ true).
      record {
        on = omega (arith, p.on, o.run.on);
        short = short;
        room = g.room;
        left = sym (run_accepted text r g.room (at + 1) to p.on o.run.on short o.run.ascii q (eqb-true _ _ t)) ∙ p.left;
      })
      (λ (t : eqb q.need 0 ≡ false). subst (λ (m : ℕ). Carried text r q m) (sym (o.stays (eqb-false _ _ t))) p)
      (decide (eqb q.need 0))

  pub done : r.start + r.length ≤ at → eqb s.need 0 ≡ is_utf8 (part text r)
  unfolding ends after
  done h = rw (part_end text r (le_fits _ _ g.room) (at - r.start) (omega arith)) at g.left
