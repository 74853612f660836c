-- The numbering is one to one: every row is some value's, and two values have two rows.
--     every_row     every row is the row of a value
--     one_value     of one value only
-- Assumes nothing.
use mathlib.Core.List.{List, [], ◌∷◌, ◌++◌}
use mathlib.Core.Logic.{⊎_elim}
use mathlib.Core.Path.{◌≡◌, refl, sym, ap, ◌∙◌}
use Prim.Native.Nat.{ℕ, zero, suc, ◌+◌, ◌-◌, ◌≤◌, ◌<◌}
use native.Mathlib.Omega.{arith}
use lib.ListN.{length}
use Rattle.breadth.specs.Forest.{Forest}
use Rattle.breadth.specs.Breadth.{Entry, Event, event, walk, depth, hit, on}
use Rattle.breadth.specs.Sheet.{weigh, rows}
use Rattle.breadth.specs.Counters.{one}
use Rattle.laws.proofs.Tests.{le_or_lt}
use Rattle.breadth.proofs.Lists.{same_or_not, weigh_append}
use Rattle.breadth.proofs.Walks.{sum, sum_nil, sum_append, sum_same, sum_other, high, high_next, Splits}
use Rattle.breadth.proofs.Places.{row}
use Rattle.breadth.proofs.Passes.{locate, rows_high}

-- value number i on level k
record Found (es : List Event) (k i : ℕ) : Type 0 where
  pub pre : List Event
  pub entry : Entry
  pub post : List Event
  pub is : es ≡ pre ++ event k entry ∷ post
  pub before : sum one k pre ≡ i

sum_hit : (x : Event) (es : List Event) (k : ℕ) → x.level ≡ k → sum one k (x ∷ es) ≡ 1 + sum one k es
sum_hit x es k z = ap (λ (j : ℕ). sum one k (event j x.entry ∷ es)) z ∙ sum_same one k x.entry es

sum_cons : (x : Event) (es : List Event) (k : ℕ) → sum one k (x ∷ es) ≡ weigh one (hit k x) + sum one k es
unfolding on
sum_cons x es k = weigh_append one (hit k x) (on k es)

past : (x : Event) (es : List Event) (k i j : ℕ) → (sum one k (x ∷ []) + i ≡ j) → Found es k i → Found (x ∷ es) k j
past x es k i j p g =
    record {
      pre = x ∷ g.pre;
      entry = g.entry;
      post = g.post;
      is = ap (λ (t : List Event). x ∷ t) g.is;
      before = sum_append one k (x ∷ []) g.pre ∙ ap (λ (n : ℕ). sum one k (x ∷ []) + n) g.before ∙ p;
    }

find : (es : List Event) (k i : ℕ) → i < sum one k es → Found es k i
find [] k i h = absurd (nothing h)
  where
    nothing : i < sum one k [] → ⊥
    nothing z = omega (arith, sum_nil one k)
find (x ∷ es) k zero h =
    ⊎_elim
    (λ (z : x.level ≡ k). record { pre = []; entry = x.entry; post = es; is = ap (λ (j : ℕ). event j x.entry ∷ es) z; before = sum_nil one k })
    (λ (n : x.level ≡ k → ⊥).
    past x es k 0 0 (omega (arith, sum_other one k x.level x.entry [] n, sum_nil one k)) (find es k 0 (omega (arith, sum_other one k x.level x.entry es n))))
    (same_or_not x.level k)
find (x ∷ es) k (suc i) h =
    ⊎_elim
    (λ (z : x.level ≡ k). past x es k i (suc i) (omega (arith, sum_hit x [] k z, sum_nil one k)) (find es k i (omega (arith, sum_hit x es k z))))
    (λ (n : x.level ≡ k → ⊥).
    past x es k (suc i) (suc i) (omega (arith, sum_other one k x.level x.entry [] n, sum_nil one k)) (find es k (suc i) (omega (arith, sum_other one k x.level x.entry es n))))
    (same_or_not x.level k)

-- the value whose row is r
pub record Numbered (f : Forest) (r : ℕ) : Type 0 where
  pub level : ℕ
  pub pre : List Event
  pub entry : Entry
  pub post : List Event
  pub splits : Splits f 0 pre level entry post
  pub row_is : row f pre post level entry splits ≡ r

pub every_row : (f : Forest) (r : ℕ) → r < length (rows f) → Numbered f r
every_row f r h =
    let l = locate one (walk 0 f) (depth f) r (omega (arith, rows_high f)) in
    let k = l.0 in
    let g = find (walk 0 f) k (r - high one k (walk 0 f)) (omega (arith, l.1, l.2)) in
    record { level = k; pre = g.pre; entry = g.entry; post = g.post; splits = g.is; row_is = omega (arith, g.before, l.1) }

-- ---- two values have two rows

pub high_climbs : (es : List Event) (a b : ℕ) → a ≤ b → high one a es ≤ high one b es
high_climbs es a zero h = let z : a ≡ 0 = omega arith in rw z (omega arith)
high_climbs es a (suc b) h =
    ⊎_elim
    (λ (l : a ≤ b). omega (arith, high_climbs es a b l, high_next one b es))
    (λ (l : b < a). let z : a ≡ suc b = omega arith in rw z (omega arith))
    (le_or_lt a b)

pub in_level : (f : Forest) (pre post : List Event) (k : ℕ) (e : Entry) (h : Splits f 0 pre k e post) → row f pre post k e h < high one (suc k) (walk 0 f)
in_level f pre post k e h =
    let t : sum one k (walk 0 f) ≡ sum one k pre + sum one k (event k e ∷ post) = ap (sum one k) h ∙ sum_append one k pre (event k e ∷ post) in
    omega (arith, sum_same one k e post, high_next one k (walk 0 f))

same_place : (k : ℕ) (p q r s : List Event) (d e : Entry) → p ++ event k d ∷ r ≡ q ++ event k e ∷ s → sum one k p ≡ sum one k q → p ≡ q
same_place k [] [] r s d e h z = refl
same_place k [] (y ∷ q) r s d e h z =
    let t : y ≡ event k d = cc in
    let u : y.level ≡ k = ap (λ (x : Event). x.level) t in
    absurd (nothing (omega (arith, sum_hit y q k u, sum_nil one k)))
  where
    nothing : ◌≡◌ {A = ℕ} 0 1 → ⊥
    nothing w = omega arith
same_place k (x ∷ p) [] r s d e h z =
    let t : x ≡ event k e = cc in
    let u : x.level ≡ k = ap (λ (y : Event). y.level) t in
    absurd (nothing (omega (arith, sum_hit x p k u, sum_nil one k)))
  where
    nothing : ◌≡◌ {A = ℕ} 0 1 → ⊥
    nothing w = omega arith
same_place k (x ∷ p) (y ∷ q) r s d e h z =
    let t : x ≡ y = cc in
    let u : weigh one (hit k x) ≡ weigh one (hit k y) = ap (λ (w : Event). weigh one (hit k w)) t in
    let i = same_place k p q r s d e (cc) (omega (arith, sum_cons x p k, sum_cons y q k)) in
    cc

pub one_value : (f : Forest) (r : ℕ) (a b : Numbered f r) → (a.level ≡ b.level) × (a.pre ≡ b.pre)
one_value f r a b =
    let la = in_level f a.pre a.post a.level a.entry a.splits in
    let lb = in_level f b.pre b.post b.level b.entry b.splits in
    let z : a.level ≡ b.level =
    ⊎_elim
    (λ (l : a.level ≤ b.level).
    ⊎_elim
    (λ (g : b.level ≤ a.level). omega arith)
    (λ (g : a.level < b.level). absurd (omega (arith, high_climbs (walk 0 f) (suc a.level) b.level g, a.row_is, b.row_is)))
    (le_or_lt b.level a.level))
    (λ (l : b.level < a.level). absurd (omega (arith, high_climbs (walk 0 f) (suc b.level) a.level l, a.row_is, b.row_is)))
    (le_or_lt a.level b.level) in
    let h : a.pre ++ event a.level a.entry ∷ a.post ≡ b.pre ++ event a.level b.entry ∷ b.post =
    sym a.splits ∙ b.splits ∙ ap (λ (k : ℕ). b.pre ++ event k b.entry ∷ b.post) (sym z) in
    let s : sum one a.level a.pre ≡ sum one a.level b.pre =
    omega (arith, a.row_is, b.row_is, ap (λ (k : ℕ). high one k (walk 0 f)) z, ap (λ (k : ℕ). sum one k b.pre) z) in
    (z, same_place a.level a.pre b.pre a.post b.post a.entry b.entry h s)
