-- Digits that are read on, one by one.
-- Assumes nothing.
use mathlib.Core.Bool.{Bool, true, false, cond}
use mathlib.Core.List.{List, [], ◌∷◌}
use mathlib.Core.Path.{◌≡◌, refl, sym, ap, ◌∙◌}
use Prim.Native.Nat.{ℕ, zero, suc, ◌+◌, ◌-◌, ◌*◌, ◌^◌, ◌≤◌, ◌<◌}
use native.Mathlib.Omega.{arith}
use borrow.Author.Tests.{le-leb, leb-true}
use lib.Dec.{eqb, leb}
use lib.ListN.{length, get_or, drop}
use Rattle.std.specs.Prelude.{Some, None}
use Rattle.std.proofs.lemmas.Option.{cond_some}
use Rattle.laws.proofs.Tests.{both, left, right}
use Rattle.jsontext.specs.Text.{Digit, digit, digits}
use Rattle.jsontext.specs.Number.{Trimmed, trim_more}
use Rattle.strings.proofs.Steps.{head_at}
use Rattle.numeral.specs.declared.Kept.{Kept}
use Rattle.numeral.specs.Numeral.{kept_more}
use Rattle.figures.specs.Figures.{is_digit, digit_in, head_of, after, DigitsAt}

abbrev trimmed : ℕ → ℕ → Trimmed
trimmed k z = record { kept = k; zeros = z }

-- a byte that is and is not a digit
pub apart : {A : Type 0} (b : Bool) → b ≡ true → b ≡ false → A
apart b p q = absurd (let z : ◌≡◌ {A = ℕ} 0 1 = cc in omega arith)

pub digit_is : (d : Digit) → is_digit (digit d) ≡ true
digit_is d = let l : d.worth < 10 = d.small in both (leb 0x30 (digit d)) (leb (digit d) 0x39) (le-leb 0x30 (digit d) (omega arith)) (le-leb (digit d) 0x39 (omega arith))

-- what a byte tells that is worth something as a digit, and one that is not
pub digit_told : (b w : ℕ) → digit_in b ≡ Some w → (is_digit b ≡ true) × (b ≡ 0x30 + w) × (w < 10)
digit_told b w e =
    let k = cond_some (is_digit b) (b - 0x30) w e in
    let l = leb-true 0x30 b (left (leb 0x30 b) (leb b 0x39) k.0) in
    let h = leb-true b 0x39 (right (leb 0x30 b) (leb b 0x39) k.0) in
    let same = k.1 in
    (k.0, omega arith, omega arith)

pub digit_none : (b : ℕ) → digit_in b ≡ None → is_digit b ≡ false
digit_none b e = go (is_digit b) e
  where
    go : (t : Bool) → cond t (Some (b - 0x30)) None ≡ None → t ≡ false
    go true q = cc
    go false q = refl

-- the first byte from place i on
pub head_is : (json : List ℕ) (i : ℕ) (l : List ℕ) → l ≡ drop i json → head_of l ≡ get_or json i 0
head_is json i l e = ap head_of e ∙ go json i
  where
    go : (l : List ℕ) (j : ℕ) → get_or (drop j l) 0 0 ≡ get_or l j 0
    go l zero = refl
    go [] (suc j) = refl
    go (x ∷ l) (suc j) = go l j

-- a digit adds one zero or none
pub kept_few : (k : Kept) (d : ℕ) → (kept_more k d).zeros ≤ k.zeros + 1
unfolding kept_more trim_more
kept_few k d = go (eqb d 0) (eqb k.kept 0)
  where
    go : (b c : Bool)
        → ◌≤◌ (cond b (trimmed k.kept (cond c 0 (k.zeros + 1))) (trimmed (k.kept * 10 ^ (k.zeros + 1) + d) 0)).zeros (k.zeros + 1)
    go true true = omega arith
    go true false = omega arith
    go false c = omega arith

module _ {S : Type 0} (f : S → ℕ → S) (json : List ℕ) where
  -- digits were read on from i to j, and r is held of them
  pub record DigitsOn (i : ℕ) (s : S) (q : DigitsAt json i) (j : ℕ) (r : S) : Type 0 where
    pub left : DigitsAt json j
    pub same_end : left.behind ≡ q.behind
    pub same_held : after f r left.list ≡ after f s q.list
    pub same_count : j + length left.list ≡ i + length q.list

  pub none_read : (i : ℕ) (s : S) (q : DigitsAt json i) → DigitsOn i s q i s
  none_read i s q = record { left = q; same_end = refl; same_held = refl; same_count = refl }

  module _ (i : ℕ) (s : S) (q : DigitsAt json i) (j : ℕ) (r : S) (o : DigitsOn i s q j r) where
    -- a digit stands there
    pub one_read : (w : ℕ) → is_digit (get_or json j 0) ≡ true → get_or json j 0 ≡ 0x30 + w → DigitsOn i s q (j + 1) (f r w)
    unfolding after digits
    one_read w d e = go o.left.list o.left.spelled o.same_held o.same_count
      where
        go : (l : List Digit) → digits l o.left.behind ≡ drop j json → after f r l ≡ after f s q.list → j + length l ≡ i + length q.list → DigitsOn i s q (j + 1) (f r w)
        go [] g h c = apart (is_digit (get_or json j 0)) d (ap is_digit (sym (head_is json j o.left.behind g)) ∙ o.left.stop)
        go (x ∷ l) g h c =
            let k = head_at json j (digit x) (digits l o.left.behind) g in
            let y : w ≡ x.worth = omega (arith, k.byte) in
            record {
              left = record { list = l; behind = o.left.behind; spelled = k.others; stop = o.left.stop };
              same_end = o.same_end;
              same_held = ap (λ (v : ℕ). after f (f r v) l) y ∙ h;
              same_count = omega arith;
            }

    -- none stands there
    pub all_read : is_digit (get_or json j 0) ≡ false → (q.behind ≡ drop j json) × (r ≡ after f s q.list) × (j ≡ i + length q.list)
    unfolding after digits
    all_read d = go o.left.list o.left.spelled o.same_held o.same_count
      where
        go : (l : List Digit) → digits l o.left.behind ≡ drop j json → after f r l ≡ after f s q.list → j + length l ≡ i + length q.list
            → (q.behind ≡ drop j json) × (r ≡ after f s q.list) × (j ≡ i + length q.list)
        go [] g h c = (sym o.same_end ∙ g, h, omega arith)
        go (x ∷ l) g h c =
            let k = head_at json j (digit x) (digits l o.left.behind) g in
            apart (is_digit (get_or json j 0)) (ap is_digit k.byte ∙ digit_is x) d
