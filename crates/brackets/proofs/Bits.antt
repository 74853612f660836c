-- Brackets as bits.
--     none_open, some_open      the brackets where none are open, and where some are
--     pushed_is                 one more
--     stepped                   a step of the automaton by its number
-- Assumes nothing.
use mathlib.Core.Bool.{Bool, true, false, cond}
use mathlib.Core.List.{List, [], ◌∷◌}
use mathlib.Core.Option.{none, some}
use mathlib.Core.Path.{◌≡◌, refl, sym, ◌∙◌, ap}
use Prim.Native.Nat.{ℕ, zero, suc, ◌+◌, ◌-◌, ◌*◌, ◌/◌, ◌%◌, ◌^◌, ◌≤◌, ◌<◌}
use native.Mathlib.Nat.{pow-succ', pow-le-pow_right}
use native.Mathlib.Numerals.{add-one}
use native.Mathlib.Omega.{arith}
use borrow.Author.Tests.{eq-eqb, ne_eqb}
use lib.Dec.{eqb, lit<}
use Rattle.std.specs.Prelude.{Option, Some, None}
use Rattle.std.proofs.Math.Option as Math
use Rattle.std.proofs.lemmas.Option.{same_Some}
use Rattle.jsontext.specs.Automaton as Auto
use Rattle.jsontext.specs.Automaton.{square, curly, at, innermost, outer, changed, follow, moves, pick, step}
use Rattle.grammar.specs.Codes.{move_code, step_of, leads, bracket_at, place_at, change_at}
use Rattle.grammar.specs.declared.Bracket.{Bracket}
use Rattle.grammar.specs.declared.Bracket.TheVariants.{Square, Curly}
use Rattle.grammar.specs.declared.Change.TheVariants.{Push, Pop}
use Rattle.grammar.specs.declared.Move.{Move}
use Rattle.grammar.proofs.Places.{move_place, move_change}
use Rattle.brackets.specs.declared.Open.{Open}
use Rattle.brackets.specs.Brackets.{bit_of, brackets_of, brackets, Around, Changed, Fits}

-- the innermost bracket and the others
pub some_open : (bits depth : ℕ) → (depth ≡ 0 → ⊥) → brackets_of bits depth ≡ cond (eqb (bits % 2) 0) square curly ∷ brackets_of (bits / 2) (depth - 1)
unfolding brackets_of
some_open bits zero h = absurd (h refl)
some_open bits (suc n) h = let less : n ≡ suc n - 1 = omega arith in ap (λ (m : ℕ). cond (eqb (bits % 2) 0) square curly ∷ brackets_of (bits / 2) m) less

pub none_open : (bits depth : ℕ) → depth ≡ 0 → brackets_of bits depth ≡ []
unfolding brackets_of
none_open bits depth e = rw e

-- one more
pub pushed_is : (bits depth b : ℕ) → b < 2 → brackets_of (bits * 2 + b) (depth + 1) ≡ cond (eqb b 0) square curly ∷ brackets_of bits depth
pushed_is bits depth b h =
    let low : (bits * 2 + b) % 2 ≡ b = omega arith in
    let high : (bits * 2 + b) / 2 ≡ bits = omega arith in
    let less : depth + 1 - 1 ≡ depth = omega arith in
    some_open (bits * 2 + b) (depth + 1) (λ e. omega arith) ∙ rw (low, high, less)

-- a step, where r is the innermost bracket
module _ (place byte : ℕ) (r : Option Bracket) (ks : List Auto.Bracket) (a : bracket_at r ≡ innermost ks) where
  pub stepped_none : leads (moves (place_at place) (bracket_at r)) byte ≡ None → step (at (place_at place) ks) byte ≡ none
  unfolding leads step
  stepped_none e = go (pick (moves (place_at place) (innermost ks)) byte) (rw a at e)
    where
      go : (o : Math.Option Auto.Move) → move_code o ≡ None → follow ks o ≡ none
      go none q = refl
      go (some m) q = cc

  pub stepped_some : (n : Move) → leads (moves (place_at place) (bracket_at r)) byte ≡ Some n
      → step (at (place_at place) ks) byte ≡ some (at (place_at n.place) (changed (change_at n.change) ks))
  unfolding leads step
  stepped_some n e = go (pick (moves (place_at place) (innermost ks)) byte) (rw a at e)
    where
      go : (o : Math.Option Auto.Move) → move_code o ≡ Some n → follow ks o ≡ some (at (place_at n.place) (changed (change_at n.change) ks))
      go none q = cc
      go (some m) q = rw (sym (same_Some (step_of m) n q), move_place m, move_change m)

-- ---- the functions

module _ (o : Open) where
  pub around_none : o.depth ≡ 0 → Around o None
  around_none e = sym (ap innermost (none_open o.bits o.depth e))

  around_by : (b : Bool) (r : Option Bracket) → eqb (o.bits % 2) 0 ≡ b → bracket_at r ≡ some (cond b square curly) → (o.depth ≡ 0 → ⊥) → Around o r
  around_by b r e q d = q ∙ sym (ap innermost (some_open o.bits o.depth d) ∙ ap (λ (t : Bool). some (cond t square curly)) e)

  pub around_square : (o.depth ≡ 0 → ⊥) → o.bits % 2 ≡ 0 → Around o (Some Square)
  around_square d e = around_by true (Some Square) (eq-eqb (o.bits % 2) 0 e) refl d

  pub around_curly : (o.depth ≡ 0 → ⊥) → (o.bits % 2 ≡ 0 → ⊥) → Around o (Some Curly)
  around_curly d e = around_by false (Some Curly) (ne_eqb (o.bits % 2) 0 e) refl d

  pub push_is : (k : Bracket) → brackets_of (o.bits * 2 + bit_of k) (o.depth + 1) ≡ changed (change_at (Push k)) (brackets o)
  push_is Square = pushed_is o.bits o.depth 0 (lit< tt)
  push_is Curly = pushed_is o.bits o.depth 1 (lit< tt)

  pub pop_none : o.depth ≡ 0 → Changed o Pop o
  pop_none e = let none = none_open o.bits o.depth e in none ∙ sym (ap outer none)

  pub pop_some : (o.depth ≡ 0 → ⊥) → brackets_of (o.bits / 2) (o.depth - 1) ≡ changed (change_at Pop) (brackets o)
  pop_some d = sym (ap outer (some_open o.bits o.depth d))

-- ---- how many bits there are

double : (d : ℕ) → 2 ^ (d + 1) ≡ 2 ^ d * 2
double d = rw (add-one d) (pow-succ' 2 d ∙ omega arith)

pub room : (o : Open) → Fits o → o.depth < 62 → o.bits < 2 ^ 62
room o f h =
    let few : o.depth ≤ 62 = omega arith in
    let grows : 2 ^ o.depth ≤ 2 ^ 62 = pow-le-pow_right (lit< tt) few in
    omega arith

pub bit_low : (k : Bracket) → bit_of k < 2
bit_low Square = lit< tt
bit_low Curly = lit< tt

pub push_fits : (o : Open) {b : ℕ} → Fits o → b < 2 → o.bits * 2 + b < 2 ^ (o.depth + 1)
push_fits o {b} f h = omega (arith, double o.depth)

pub pop_fits : (o : Open) → Fits o → (o.depth ≡ 0 → ⊥) → o.bits / 2 < 2 ^ (o.depth - 1)
pop_fits o f d = let whole : o.depth - 1 + 1 ≡ o.depth = omega arith in omega (arith, rw whole at (double (o.depth - 1)))
