-- What the words are after a row, a container's end and the trailer, store by store as code makes them.
-- Assumes nothing.
use mathlib.Core.List.{List, [], ◌∷◌}
use mathlib.Core.Path.{◌≡◌, refl, sym, ap, ◌∙◌}
use Prim.Native.Nat.{ℕ, zero, suc, ◌+◌, ◌-◌, ◌*◌, ◌≤◌, ◌<◌}
use native.Mathlib.Numerals.{add-one}
use native.Mathlib.Omega.{arith}
use borrow.Author.Tests.{lt-ltb, le-ltb, le-leb, lt-leb, ne_eqb, eq-eqb}
use lib.ListN.{get_or, set}
use lib.Seq.{sets}
use Rattle.breadth.specs.Sheet.{first_or_none}
use Rattle.placing.specs.Desk.{row_put, row_shut, owner_at, finished}

module _ (ws : List ℕ) where
  two_put : (at a b : ℕ) → set (set ws at a) (at + 1) b ≡ sets ws at (a ∷ b ∷ [])
  two_put at a b = rw (add-one at)

  four_put : (at a b c d : ℕ) → set (set (set (set ws at a) (at + 1) b) (at + 2) c) (at + 3) d ≡ sets ws at (a ∷ b ∷ c ∷ d ∷ [])
  four_put at a b c d =
      let two : at + 2 ≡ suc (suc at) = omega arith in
      let three : at + 3 ≡ suc (suc (suc at)) = omega arith in
      rw (add-one at, two, three)

  six_put : (at a b c d e f : ℕ)
      → set (set (set (set (set (set ws at a) (at + 1) b) (at + 2) c) (at + 3) d) (at + 4) e) (at + 5) f ≡ sets ws at (a ∷ b ∷ c ∷ d ∷ e ∷ f ∷ [])
  six_put at a b c d e f =
      let four : at + 4 ≡ suc (suc (suc (suc at))) = omega arith in
      let five : at + 5 ≡ suc (suc (suc (suc (suc at)))) = omega arith in
      rw (four, five) (ap (λ (x : List ℕ). set (set x (suc (suc (suc (suc at)))) e) (suc (suc (suc (suc (suc at))))) f) (four_put at a b c d))

  module _ (n r : ℕ) where
    pub put_out : n ≤ r → (six : List ℕ) → ws ≡ row_put n ws r six
    unfolding row_put
    put_out h six = rw (le-ltb r n h)

    pub put_done : r < n → (a b c d e f : ℕ)
        → set (set (set (set (set (set ws (6 * r) a) (6 * r + 1) b) (6 * r + 2) c) (6 * r + 3) d) (6 * r + 4) e) (6 * r + 5) f
        ≡ row_put n ws r (a ∷ b ∷ c ∷ d ∷ e ∷ f ∷ [])
    unfolding row_put
    put_done h a b c d e f = rw (lt-ltb r n h) (six_put (6 * r) a b c d e f)

    pub shut_out : n ≤ r → (next : ℕ) → ws ≡ row_shut n ws r next
    unfolding row_shut
    shut_out h next = rw (le-ltb r n h)

    module _ (h : r < n) (next : ℕ) where
      pub shut_scalar : get_or ws (6 * r) 0 < 5 → ws ≡ row_shut n ws r next
      unfolding row_shut
      shut_scalar k = rw (lt-ltb r n h, lt-leb 5 (get_or ws (6 * r) 0) k)

      abbrev first : ℕ
      first = get_or ws (6 * r + 1) 0

      shut_is : 5 ≤ get_or ws (6 * r) 0 → row_shut n ws r next ≡ set (set ws (6 * r + 1) (first_or_none (next - first) first)) (6 * r + 2) (next - first)
      unfolding row_shut
      shut_is k =
          let two : 6 * r + 2 ≡ suc (6 * r + 1) = omega arith in
          rw (lt-ltb r n h, le-leb 5 (get_or ws (6 * r) 0) k, two)

      pub shut_none : 5 ≤ get_or ws (6 * r) 0 → next ≤ first → set (set ws (6 * r + 1) 0) (6 * r + 2) 0 ≡ row_shut n ws r next
      shut_none k l = let z : next - first ≡ 0 = omega arith in sym (shut_is k ∙ rw z)

      pub shut_some : 5 ≤ get_or ws (6 * r) 0 → first < next → set (set ws (6 * r + 1) first) (6 * r + 2) (next - first) ≡ row_shut n ws r next
      shut_some k l = sym (shut_is k ∙ ap (λ (x : ℕ). set (set ws (6 * r + 1) x) (6 * r + 2) (next - first)) (some (next - first) (omega arith)))
        where
          some : (m : ℕ) → 0 < m → first_or_none m first ≡ first
          some zero p = absurd (omega arith)
          some (suc m) p = refl

  pub trailer_put : (n size : ℕ) → set (set (set (set ws (6 * n) n) (6 * n + 1) (6 * n)) (6 * n + 2) size) (6 * n + 3) 1 ≡ finished n size ws
  unfolding finished
  trailer_put n size = four_put (6 * n) n (6 * n) size 1

module _ (k : ℕ) (rows : List ℕ) where
  pub owner_root : k ≡ 0 → 0 ≡ owner_at k rows
  unfolding owner_at
  owner_root e = rw (eq-eqb k 0 e)

  pub owner_above : (k ≡ 0 → ⊥) → get_or rows (k - 1) 0 - 1 ≡ owner_at k rows
  unfolding owner_at
  owner_above n = rw (ne_eqb k 0 n)
