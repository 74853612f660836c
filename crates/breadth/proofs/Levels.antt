-- Three ways to say breadth first agree: by level and place in the text; level by level, where a level is the children of the level above
-- in order; and by a queue.
--     on_level       a level
--     by_levels      all levels
--     by_queue       the queue
-- Assumes nothing.
use mathlib.Core.List.{List, [], ◌∷◌, ◌++◌, append_assoc, append-nil}
use mathlib.Core.Path.{◌≡◌, refl, sym, ap, ◌∙◌}
use Prim.Native.Nat.{ℕ, zero, suc, ◌+◌, ◌-◌, ◌≤◌, ◌<◌}
use native.Mathlib.Omega.{arith}
use lib.ListN.{length}
use Rattle.breadth.specs.Forest.{Label, Head, Forest, empty, node, trees, values}
use Rattle.breadth.specs.Breadth.{Entry, entry_of, walk, depth, on, above, breadth, join, down, roots, level, levelwise, queue}
use Rattle.breadth.specs.Counters.{one}
use Rattle.breadth.proofs.Lists.{weigh_one}
use Rattle.breadth.proofs.Walks.{hit_same, hit_other, on_append, shallow}

level_empty : (k : ℕ) → level k empty ≡ []
unfolding level
level_empty zero = refl
level_empty (suc k) = level_empty k

join_assoc : (a b c : Forest) → join (join a b) c ≡ join a (join b c)
join_assoc empty b c = refl
join_assoc (node l h d s) b c = ap (node l h d) (join_assoc s b c)

down_join : (a b : Forest) → down (join a b) ≡ join (down a) (down b)
down_join empty b = refl
down_join (node l h c s) b = ap (join c) (down_join s b) ∙ sym (join_assoc c (down s) (down b))

roots_join : (a b : Forest) → roots (join a b) ≡ roots a ++ roots b
roots_join empty b = refl
roots_join (node l h c s) b = ap (λ (x : List Entry). entry_of l h c ∷ x) (roots_join s b)

level_join : (k : ℕ) (a b : Forest) → level k (join a b) ≡ level k a ++ level k b
unfolding level
level_join zero a b = roots_join a b
level_join (suc k) a b = ap (level k) (down_join a b) ∙ level_join k (down a) (down b)

none_left : (es : List Entry) → length es ≡ 0 → es ≡ []
none_left [] h = refl
none_left (e ∷ es) h = absurd (nothing h)
  where
    nothing : suc (length es) ≡ 0 → ⊥
    nothing z = omega arith

on_shallow : (f : Forest) (k₀ k : ℕ) → k < k₀ → on k (walk k₀ f) ≡ []
on_shallow f k₀ k h = none_left (on k (walk k₀ f)) (omega (arith, weigh_one (on k (walk k₀ f)), shallow one f k₀ k h))

on_roots : (f : Forest) (k : ℕ) → on k (walk k f) ≡ roots f
unfolding walk on
on_roots empty k = refl
on_roots (node l h c s) k =
    rw (hit_same k (entry_of l h c), on_append k (walk (suc k) c) (walk k s), on_shallow c (suc k) k (omega arith), on_roots s k)

on_below : (l : Label) (h : Head) (c s : Forest) (k₀ k : ℕ) → k₀ < k → on k (walk k₀ (node l h c s)) ≡ on k (walk (suc k₀) c) ++ on k (walk k₀ s)
unfolding walk on
on_below l h c s k₀ k b = rw (hit_other k k₀ (entry_of l h c) (omega arith), on_append k (walk (suc k₀) c) (walk k₀ s))

on_empty : (k k₀ : ℕ) → on k (walk k₀ empty) ≡ []
unfolding walk on
on_empty k k₀ = refl

pub on_level : (f : Forest) (k₀ k : ℕ) → on (k₀ + k) (walk k₀ f) ≡ level k f
unfolding level
on_level empty k₀ k = on_empty (k₀ + k) k₀ ∙ sym (level_empty k)
on_level (node l h c s) k₀ zero = let z : k₀ + zero ≡ k₀ = omega arith in rw z (on_roots (node l h c s) k₀)
on_level (node l h c s) k₀ (suc k) =
    let z : k₀ + suc k ≡ suc k₀ + k = omega arith in
    let t : on (k₀ + suc k) (walk (suc k₀) c) ≡ level k c = rw z (on_level c (suc k₀) k) in
    on_below l h c s k₀ (k₀ + suc k) (omega arith) ∙ rw (t, on_level s k₀ (suc k)) (sym (level_join k c (down s)))

-- ---- all levels

levelwise_last : (k : ℕ) (f : Forest) → levelwise (suc k) f ≡ levelwise k f ++ level k f
unfolding levelwise level
levelwise_last zero f = append-nil (roots f)
levelwise_last (suc k) f = ap (λ (x : List Entry). roots f ++ x) (levelwise_last k (down f)) ∙ sym (append_assoc (roots f) (levelwise k (down f)) (level k (down f)))

above_levels : (k : ℕ) (f : Forest) → above k (walk 0 f) ≡ levelwise k f
unfolding above levelwise
above_levels zero f = refl
above_levels (suc k) f =
    let z : on k (walk 0 f) ≡ level k f = (let y : k ≡ 0 + k = omega arith in ap (λ (x : ℕ). on x (walk 0 f)) y) ∙ on_level f 0 k in
    rw (above_levels k f, z) (sym (levelwise_last k f))

pub by_levels : (f : Forest) → breadth f ≡ levelwise (depth f) f
unfolding breadth
by_levels f = above_levels (depth f) f

-- ---- the queue

join_empty : (a : Forest) → join a empty ≡ a
join_empty empty = refl
join_empty (node l h c s) = ap (node l h c) (join_empty s)

values_join : (a b : Forest) → values (join a b) ≡ values a + values b
values_join empty b = omega arith
values_join (node l h c s) b = omega (arith, values_join s b)

values_down : (f : Forest) → values (down f) + trees f ≡ values f
values_down empty = refl
values_down (node l h c s) = omega (arith, values_join c (down s), values_down s)

depth_join : (a b : Forest) (d : ℕ) → depth a ≤ d → depth b ≤ d → depth (join a b) ≤ d
depth_join empty b d p q = q
depth_join (node l h c s) b d p q = omega (arith, depth_join s b d (omega arith) q)

depth_down : (f : Forest) (d : ℕ) → depth f ≤ suc d → depth (down f) ≤ d
depth_down empty d p = omega arith
depth_down (node l h c s) d p = depth_join c (down s) d (omega arith) (depth_down s d (omega arith))

-- the rest of a level stands in front, the next level so far behind it
queue_level : (r d : Forest) (n : ℕ) → values r + values d ≤ n → queue n (join r d) ≡ roots r ++ queue (n - trees r) (join d (down r))
unfolding queue
queue_level empty d n p = let z : n ≡ n - 0 = omega arith in ap (λ (x : ℕ). queue x d) z ∙ ap (queue (n - 0)) (sym (join_empty d))
queue_level (node l h c s) d zero p = absurd (omega arith)
queue_level (node l h c s) d (suc n) p =
    let z : n - trees s ≡ suc n - suc (trees s) = omega arith in
    ap (λ (x : List Entry). entry_of l h c ∷ x)
    (ap (queue n) (join_assoc s d c)
    ∙ queue_level s (join d c) n (omega (arith, values_join d c))
    ∙ ap (λ (x : ℕ). roots s ++ queue x (join (join d c) (down s))) z
    ∙ ap (λ (x : Forest). roots s ++ queue (suc n - suc (trees s)) x) (join_assoc d c (down s)))

queue_empty : (n : ℕ) → queue n empty ≡ []
unfolding queue
queue_empty zero = refl
queue_empty (suc n) = refl

queue_levels : (d n : ℕ) (f : Forest) → depth f ≤ d → values f ≤ n → queue n f ≡ levelwise d f
unfolding levelwise
queue_levels zero n empty p q = queue_empty n
queue_levels zero n (node l h c s) p q = absurd (omega arith)
queue_levels (suc d) n f p q =
    ap (queue n) (sym (join_empty f))
    ∙ queue_level f empty n (omega arith)
    ∙ ap (λ (x : List Entry). roots f ++ x) (queue_levels d (n - trees f) (down f) (depth_down f d p) (omega (arith, values_down f)))

pub by_queue : (f : Forest) → queue (values f) f ≡ breadth f
by_queue f = queue_levels (depth f) (values f) f (omega arith) (omega arith) ∙ sym (by_levels f)
