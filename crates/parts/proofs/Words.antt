-- Words that are read one after the other, and put in front of what stood there.
--     Put, put_none, put_more     the first i of them
--     put_all                     all
--     words_within, words_taken   there is room for them, and they are what stands in front
-- Assumes nothing.
use mathlib.Core.List.{List, [], ◌∷◌, ◌++◌, map, append_assoc}
use mathlib.Core.Path.{◌≡◌, refl, sym, ap, ◌∙◌}
use Prim.Native.Nat.{ℕ, zero, suc, ◌+◌, ◌*◌, ◌/◌, ◌≤◌, ◌<◌}
use native.Mathlib.Numerals.{add-one}
use native.Mathlib.Omega.{arith}
use lib.ListN.{length, get_or, set, take, drop, length-map, length-append}
use lib.Seq.{drop-cons, set_at, take_at}
use Rattle.meaning.specs.Lists.{range}
use Rattle.meaning.proofs.Members.{range_length}
use Rattle.parts.specs.Bundle.{word_bytes, word_at, words_of, Reads}

-- one more of a range, at its end
range_last : (f : ℕ → ℕ) (a k : ℕ) → map f (range a (suc k)) ≡ map f (range a k) ++ f (a + k) ∷ []
unfolding range
range_last f a zero = let e : a + 0 ≡ a = omega arith in rw e
range_last f a (suc k) = let e : suc a + k ≡ a + suc k = omega arith in ap (λ l. f a ∷ l) (range_last f (suc a) k ∙ rw e)

module _ (bs : List ℕ) where
  abbrev pub first : ℕ → List ℕ
  first i = map (λ j. word_at bs (j * word_bytes)) (range 0 i)

  first_length : (i : ℕ) → length (first i) ≡ i
  first_length i = length-map (range 0 i) (λ j. word_at bs (j * word_bytes)) ∙ range_length 0 i

  abbrev pub Put : (words₀ words : List ℕ) → ℕ → Type 0
  Put words₀ words i = words ≡ first i ++ drop i words₀

  pub put_none : (words₀ : List ℕ) → Put words₀ words₀ 0
  unfolding range
  put_none words₀ = refl

  pub put_more : (words₀ words : List ℕ) (i : ℕ) → i < length words₀ → Put words₀ words i → Put words₀ (set words i (word_at bs (i * word_bytes))) (i + 1)
  put_more words₀ words i h e =
      let word : ℕ → ℕ = λ j. word_at bs (j * word_bytes) in
      let last : first (i + 1) ≡ first i ++ word i ∷ [] = rw (add-one i, range_last word 0 i) (let z : 0 + i ≡ i = omega arith in rw z) in
      let rest : drop i words₀ ≡ get_or words₀ i 0 ∷ drop (i + 1) words₀ = rw add-one (drop-cons words₀ i 0 h) in
      rw (e, last, rest, set_at (first i) _ _ _ i (first_length i)) (sym (append_assoc (first i) (word i ∷ []) _))

  pub put_all : (words₀ words : List ℕ) (i : ℕ) → i ≡ length bs / word_bytes → Put words₀ words i → Reads bs words₀ (length bs / word_bytes) words
  unfolding words_of
  put_all words₀ words i e p = record { count_is = sym (first_length _); words_are = rw e at p }

module _ (bs words₀ words : List ℕ) (r : ℕ) (reads : Reads bs words₀ r words) where
  pub words_within : r ≤ length words
  words_within = omega (arith, reads.count_is, simp length-append at (ap length reads.words_are))

  pub words_taken : take r words ≡ words_of bs
  words_taken = rw reads.words_are (take_at (words_of bs) (drop r words₀) r (sym reads.count_is))
