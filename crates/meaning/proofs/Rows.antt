-- A list of n rows of m places.
--     by_rows         it is known by its places
--     rows_at         and its places by it
--     rows_length     how many they are
-- Assumes nothing.
use mathlib.Core.List.{List, [], ◌∷◌, ◌++◌, map}
use mathlib.Core.Path.{◌≡◌, refl, sym, ap, ◌∙◌}
use Prim.Native.Nat.{ℕ, zero, suc, ◌+◌, ◌*◌, ◌-◌, ◌<◌, ◌≤◌}
use native.Mathlib.Nat.{add-mul, zero-mul}
use native.Mathlib.Omega.{arith}
use lib.ListN.{length, get_or, take, drop, length-map, length-drop, take-append-drop, length-append, get_or-append}
use lib.Seq.{ext_get_or, get_or-take, get_or-drop, length-take-le, get_or-append-add}
use Rattle.meaning.specs.Lists.{range, concat_map}
use Rattle.meaning.proofs.Members.{range_length}

get_d_row : (f : ℕ → ℕ) (x n i : ℕ) → i < n → get_or (map f (range x n)) i 0 ≡ f (x + i)
unfolding range
get_d_row f x zero i h = absurd (omega arith)
get_d_row f x (suc n) zero h = let e : x + 0 ≡ x = omega arith in rw e
get_d_row f x (suc n) (suc i) h = let e : x + suc i ≡ suc x + i = omega arith in rw e (get_d_row f (suc x) n i (omega arith))

row_step : (m j s : ℕ) → m + (j * m + s) ≡ suc j * m + s
row_step m j s =
    let a : (j + 1) * m ≡ j * m + 1 * m = add-mul j 1 m in
    let b : suc j ≡ j + 1 = omega arith in
    rw b (omega arith)

-- a list of n rows of m places, by its places
pub by_rows : (g : ℕ → ℕ → ℕ) (m a n : ℕ) (l : List ℕ) → length l ≡ n * m → ((j s : ℕ) → j < n → s < m → get_or l (j * m + s) 0 ≡ g (a + j) s)
    → l ≡ concat_map (λ j. map (g j) (range 0 m)) (range a n)
unfolding concat_map range
by_rows g m a zero l e f = ext_get_or 0 l [] (e ∙ zero-mul m) (λ i h. let z : length l ≡ 0 = e ∙ zero-mul m in absurd (omega arith))
by_rows g m a (suc n) l e f =
    let w : length l ≡ m + n * m =
    e ∙ (let q : suc n ≡ n + 1 = omega arith in let r : (n + 1) * m ≡ n * m + 1 * m = add-mul n 1 m in rw q (omega arith)) in
    let t : take m l ≡ map (g a) (range 0 m) =
    ext_get_or 0 (take m l) (map (g a) (range 0 m)) (length-take-le m l (omega arith) ∙ sym (length-map (range 0 m) (g a) ∙ range_length 0 m))
    (λ i h.
    let k : i < m = (let z = length-take-le m l (omega arith) in omega arith) in
    get_or-take m l i 0 k
    ∙ (let z : 0 * m + i ≡ i = omega arith in
    let y : a + 0 ≡ a = omega arith in
    let x : 0 + i ≡ i = omega arith in
    sym (ap (λ (u : ℕ). get_or l u 0) z) ∙ f 0 i (omega arith) k ∙ ap (λ (u : ℕ). g u i) y ∙ ap (g a) (sym x))
    ∙ sym (get_d_row (g a) 0 m i k)) in
    let d : drop m l ≡ concat_map (λ j. map (g j) (range 0 m)) (range (suc a) n) =
    by_rows g m (suc a) n (drop m l) (length-drop m l ∙ (let z : length l - m ≡ n * m = omega arith in z))
    (λ j s h k.
    get_or-drop m l (j * m + s) 0
    ∙ ap (λ (u : ℕ). get_or l u 0) (row_step m j s)
    ∙ f (suc j) s (omega arith) k
    ∙ (let z : a + suc j ≡ suc a + j = omega arith in ap (λ (u : ℕ). g u s) z)) in
    sym (take-append-drop m l) ∙ rw (t, d)

pub rows_at : (g : ℕ → ℕ → ℕ) (m a n j s : ℕ) → j < n → s < m → get_or (concat_map (λ i. map (g i) (range 0 m)) (range a n)) (j * m + s) 0 ≡ g (a + j) s
unfolding concat_map range
rows_at g m a zero j s h k = absurd (none h)
  where
    none : j < zero → ⊥
    none h = omega arith
rows_at g m a (suc n) zero s h k =
    let own = map (g a) (range 0 m) in
    let rest = concat_map (λ i. map (g i) (range 0 m)) (range (suc a) n) in
    let long : length own ≡ m = length-map (range 0 m) (g a) ∙ range_length 0 m in
    let e : 0 * m + s ≡ s = omega arith in
    let z : a + 0 ≡ a = omega arith in
    let y : 0 + s ≡ s = omega arith in
    rw (e, z) (get_or-append own rest 0 s (omega (arith, long)) ∙ get_d_row (g a) 0 m s k ∙ ap (g a) y)
rows_at g m a (suc n) (suc j) s h k =
    let own = map (g a) (range 0 m) in
    let rest = concat_map (λ i. map (g i) (range 0 m)) (range (suc a) n) in
    let long : length own ≡ m = length-map (range 0 m) (g a) ∙ range_length 0 m in
    let z : a + suc j ≡ suc a + j = omega arith in
    ap (λ (i : ℕ). get_or (own ++ rest) i 0) (sym (row_step m j s) ∙ ap (λ (i : ℕ). i + (j * m + s)) (sym long))
    ∙ get_or-append-add own rest (j * m + s) 0
    ∙ rows_at g m (suc a) n j s (omega arith) k
    ∙ ap (λ (i : ℕ). g i s) (sym z)

pub rows_length : (g : ℕ → ℕ → ℕ) (m a n : ℕ) → length (concat_map (λ i. map (g i) (range 0 m)) (range a n)) ≡ n * m
unfolding concat_map range
rows_length g m a zero = sym (zero-mul m)
rows_length g m a (suc n) =
    let own = map (g a) (range 0 m) in
    let rest = concat_map (λ i. map (g i) (range 0 m)) (range (suc a) n) in
    let long : length own ≡ m = length-map (range 0 m) (g a) ∙ range_length 0 m in
    let more : length rest ≡ n * m = rows_length g m (suc a) n in
    let e : suc n ≡ n + 1 = omega arith in
    let d : (n + 1) * m ≡ n * m + 1 * m = add-mul n 1 m in
    length-append own rest ∙ rw e (omega (arith, long, more, d))
