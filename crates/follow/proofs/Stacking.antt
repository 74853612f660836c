-- Brackets in a table above others.
--     around-*     the innermost one
--     kept, more-*, fewer    after a change
-- Assumes nothing.
use mathlib.Core.Bool.{Bool, true, false, ◌&&◌}
use mathlib.Core.List.{List, ◌∷◌}
use mathlib.Core.Path.{◌≡◌, refl, sym, ap}
use Prim.Native.Nat.{ℕ, zero, suc, ◌+◌, ◌-◌, ◌≤◌, ◌<◌}
use native.Mathlib.Numerals.{add-one}
use native.Mathlib.Omega.{arith}
use borrow.Author.Tests.{ne_eqb}
use lib.Dec.{eqb}
use lib.ListN.{length, get_or, set}
use lib.Seq.{get_or-set_same, get_or-set_other}
use Rattle.std.specs.Prelude.{Option, Some}
use Rattle.jsontext.specs.Automaton as Auto
use Rattle.jsontext.specs.Automaton.{innermost, outer, changed, none_open}
use Rattle.grammar.specs.Codes.{bracket_of, bracket_at, change_at}
use Rattle.grammar.specs.declared.Bracket.{Bracket}
use Rattle.grammar.specs.declared.Bracket.TheVariants.{Square}
use Rattle.grammar.specs.declared.Change.TheVariants.{Push}
use Rattle.brackets.specs.Brackets.{brackets_of}
use Rattle.follow.specs.Following.{stacked}

module _ (cells : List Bracket) (below : List Auto.Bracket) where
  top : (k : ℕ) → (k ≡ 0 → ⊥) → stacked cells k below ≡ bracket_of (get_or cells (k - 1) Square) ∷ stacked cells (k - 1) below
  unfolding stacked
  top zero h = absurd (h refl)
  top (suc k) h = let z : k ≡ suc k - 1 = omega arith in ap (λ (m : ℕ). bracket_of (get_or cells m Square) ∷ stacked cells m below) z

  pub bottom : (k : ℕ) → k ≡ 0 → stacked cells k below ≡ below
  unfolding stacked
  bottom k e = rw e

  pub around_below : (k : ℕ) (r : Option Bracket) → k ≡ 0 → bracket_at r ≡ innermost below → bracket_at r ≡ innermost (stacked cells k below)
  around_below k r e a = rw (bottom k e) a

  pub around_top : (k : ℕ) → (k ≡ 0 → ⊥) → bracket_at (Some (get_or cells (k - 1) Square)) ≡ innermost (stacked cells k below)
  around_top k h = sym (ap innermost (top k h))

  -- one less
  pub fewer : (k : ℕ) → (k ≡ 0 → ⊥) → stacked cells (k - 1) below ≡ outer (stacked cells k below)
  fewer k h = sym (ap outer (top k h))

  -- a cell above them
  kept : (k j : ℕ) (v : Bracket) → k ≤ j → stacked (set cells j v) k below ≡ stacked cells k below
  unfolding stacked
  kept zero j v h = refl
  kept (suc k) j v h =
      rw (get_or-set_other cells j k v Square (λ (e : k ≡ j). omega arith)) (ap (λ (l : List Auto.Bracket). bracket_of (get_or cells k Square) ∷ l) (kept k j v (omega arith)))

  -- one more
  pub more : (k : ℕ) (v : Bracket) → k < length cells → stacked (set cells k v) (k + 1) below ≡ changed (change_at (Push v)) (stacked cells k below)
  unfolding stacked
  more k v h = rw (add-one k, get_or-set_same cells k v Square h, kept k k v (omega arith))

-- whether none is open
pub none_below : (bits depth : ℕ) → none_open (brackets_of bits depth) ≡ eqb depth 0
unfolding brackets_of
none_below bits zero = refl
none_below bits (suc n) = sym (ne_eqb (suc n) 0 (λ e. omega arith))

pub none_stacked : (cells : List Bracket) (k : ℕ) (below : List Auto.Bracket) → none_open (stacked cells k below) ≡ none_open below && eqb k 0
unfolding stacked
none_stacked cells zero below = go (none_open below)
  where
    go : (b : Bool) → b ≡ b && true
    go true = refl
    go false = refl
none_stacked cells (suc k) below = rw (ne_eqb (suc k) 0 (λ e. omega arith)) (go (none_open below))
  where
    go : (b : Bool) → false ≡ b && false
    go true = refl
    go false = refl

-- a text may end where none is open
pub all_none : (e : Bool) (cells : List Bracket) (k bits depth : ℕ) → (e && eqb depth 0) && eqb k 0 ≡ e && none_open (stacked cells k (brackets_of bits depth))
all_none e cells k bits depth = rw (none_stacked cells k (brackets_of bits depth), none_below bits depth) (go e)
  where
    go : (e : Bool) → (e && eqb depth 0) && eqb k 0 ≡ e && (eqb depth 0 && eqb k 0)
    go true = refl
    go false = refl
