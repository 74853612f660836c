-- Sums over entries, the text's bytes, and a list that is split in two ways.
-- Assumes nothing.
use mathlib.Core.List.{List, [], ◌∷◌, ◌++◌, append_assoc}
use mathlib.Core.Logic.{◌⊎◌, inl, inr, ⊎_elim}
use mathlib.Core.Path.{◌≡◌, refl, sym, ap, ◌∙◌}
use Prim.Native.Nat.{ℕ, ◌+◌, ◌-◌, ◌≤◌, ◌<◌}
use native.Mathlib.Nat.{eq-or-lt_of_le}
use native.Mathlib.Omega.{arith}
use lib.ListN.{length, get_or, drop, length-append, length-drop, get_or-append}
use lib.Seq.{get_or-append-add, get_or-drop, ext_get_or}
use Rattle.laws.proofs.Tests.{le_or_lt}
use Rattle.breadth.specs.Breadth.{Entry}
use Rattle.breadth.specs.Sheet.{weigh, text_of, bytes_of}
use Rattle.breadth.specs.Counters.{one, size}

pub same_or_not : (a b : ℕ) → (a ≡ b) ⊎ (a ≡ b → ⊥)
same_or_not a b =
    ⊎_elim
    (λ (l : a ≤ b). ⊎_elim (λ (e : a ≡ b). inl e) (λ (g : a < b). inr (omega arith)) (eq-or-lt_of_le l))
    (λ (l : b < a). inr (omega arith))
    (le_or_lt a b)

pub weigh_append : (w : Entry → ℕ) (a b : List Entry) → weigh w (a ++ b) ≡ weigh w a + weigh w b
unfolding weigh
weigh_append w [] b = omega arith
weigh_append w (e ∷ a) b = omega (arith, weigh_append w a b)

pub weigh_one : (es : List Entry) → weigh one es ≡ length es
unfolding weigh
weigh_one [] = refl
weigh_one (e ∷ es) = omega (arith, weigh_one es)

pub weigh_size : (es : List Entry) → weigh size es ≡ length (text_of es)
unfolding weigh text_of
weigh_size [] = refl
weigh_size (e ∷ es) = omega (arith, weigh_size es, length-append (bytes_of e) (text_of es))

pub text_append : (a b : List Entry) → text_of (a ++ b) ≡ text_of a ++ text_of b
unfolding text_of
text_append [] b = refl
text_append (e ∷ a) b = rw (text_append a b) (sym (append_assoc (bytes_of e) (text_of a) (text_of b)))

module _ {A : Type 0} where
  pub nothing_holds : (p q : List A) (x : A) → [] ≡ p ++ x ∷ q → ⊥
  nothing_holds [] q x h = let z : ◌≡◌ {A = ℕ} 0 1 = cc in omega arith
  nothing_holds (y ∷ p) q x h = let z : ◌≡◌ {A = ℕ} 0 1 = cc in omega arith

  -- where x stands, if p stands before it in two lists' join
  abbrev pub InFirst : List A → List A → A → Type 0
  InFirst a p x = (rest : List A) × (a ≡ p ++ x ∷ rest)

  abbrev pub InSecond : List A → List A → List A → List A → A → Type 0
  InSecond a b p q x = (m : List A) × (p ≡ a ++ m) × (b ≡ m ++ x ∷ q)

  pub split : (a b p q : List A) (x : A) → a ++ b ≡ p ++ x ∷ q → InFirst a p x ⊎ InSecond a b p q x
  split [] b p q x h = inr (p, refl, h)
  split (y ∷ a) b [] q x h = inl (a, cc)
  split (y ∷ a) b (z ∷ p) q x h =
      ⊎_elim
      (λ (g : InFirst a p x). inl (g.0, (let e = g.1 in let e' : y ≡ z = cc in rw (e, e'))))
      (λ (g : InSecond a b p q x). inr (g.0, (let e = g.1 in let e' : z ≡ y = cc in rw (e, e')), g.2))
      (split a b p q x (cc))

  -- an area that holds xs from its start on, and is as it was after that
  pub written : (d : A) (xs area₀ area : List A) → length xs ≤ length area₀ → length area ≡ length area₀
      → ((i : ℕ) → i < length xs → get_or area i d ≡ get_or xs i d) → ((i : ℕ) → length xs ≤ i → get_or area i d ≡ get_or area₀ i d)
      → area ≡ xs ++ drop (length xs) area₀
  written d xs area₀ area room long same kept =
      let n = length xs in
      let total : length (xs ++ drop n area₀) ≡ length area₀ = length-append xs (drop n area₀) ∙ omega (arith, length-drop n area₀) in
      ext_get_or d area (xs ++ drop n area₀) (long ∙ sym total)
      (λ (i : ℕ) (b : i < length area).
      ⊎_elim
      (λ (l : n ≤ i).
      let z : i ≡ n + (i - n) = omega arith in
      kept i l ∙ ap (λ (x : ℕ). get_or area₀ x d) z ∙ sym (get_or-drop n area₀ (i - n) d) ∙ sym (get_or-append-add xs (drop n area₀) (i - n) d)
      ∙ ap (λ (x : ℕ). get_or (xs ++ drop n area₀) x d) (sym z))
      (λ (l : i < n). same i l ∙ sym (get_or-append xs (drop n area₀) d i l))
      (le_or_lt n i))
