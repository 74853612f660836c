-- What a byte adds to the counters at each of a range of places, by their numbers, branch by branch as the code asks.
-- Assumes nothing.
use mathlib.Core.Bool.{Bool, true, false, cond, ◌&&◌}
use mathlib.Core.Logic.{◌≢◌, ⊎_elim}
use mathlib.Core.Path.{◌≡◌, refl, ◌∙◌, ap}
use Prim.Native.Nat.{ℕ, ◌+◌, ◌*◌, ◌%◌, ◌≤◌, ◌<◌}
use native.Mathlib.Omega.{arith}
use borrow.Author.Tests.{eq-eqb, ne_eqb, eqb-true, le-ltb, lt-ltb}
use lib.Dec.{eqb, ltb}
use Rattle.laws.proofs.Tests.{left, right, le_or_lt}
use Rattle.jsontext.specs.Value.{is_high}
use Rattle.grammar.specs.Codes.{place_at}
use Rattle.escapes.specs.Escapes.{hex_at}
use Rattle.survey.proofs.Ranges.{ranged}
use Rattle.tally.specs.Tallying.{Tally, value_more, name_more, bytes_more, with_code, unit_size, counting}

-- with k brackets open, the byte b at the place with number n
module _ (k b : ℕ) (s : Tally) (n : ℕ) where
  abbrev Gives : Tally → Type 0
  Gives t = counting (place_at n) k b s ≡ t

  in_text : 24 ≤ n → n < 26 → Gives (cond (eqb b 0x5C) (with_code 0 s) (cond (eqb b 0x22) s (bytes_more k 1 false s)))
  in_text l h =
      ranged (λ p. counting p k b s ≡ cond (eqb b 0x5C) (with_code 0 s) (cond (eqb b 0x22) s (bytes_more k 1 false s))) 24 2 refl (refl, (refl, tt)) n l h

  pub text_slash : 24 ≤ n → n < 26 → b ≡ 0x5C → Gives (with_code 0 s)
  text_slash l h e = in_text l h ∙ rw (eq-eqb b 0x5C e)

  pub text_quote : 24 ≤ n → n < 26 → b ≢ 0x5C → b ≡ 0x22 → Gives s
  text_quote l h o e = in_text l h ∙ rw (ne_eqb b 0x5C o, eq-eqb b 0x22 e)

  pub text_byte : 24 ≤ n → n < 26 → b ≢ 0x5C → b ≢ 0x22 → Gives (bytes_more k 1 false s)
  text_byte l h o e = in_text l h ∙ rw (ne_eqb b 0x5C o, ne_eqb b 0x22 e)

  in_escape : 26 ≤ n → n < 28 → Gives (cond (eqb b 0x75) s (bytes_more k 1 false s))
  in_escape l h = ranged (λ p. counting p k b s ≡ cond (eqb b 0x75) s (bytes_more k 1 false s)) 26 2 refl (refl, (refl, tt)) n l h

  pub escape_u : 26 ≤ n → n < 28 → b ≡ 0x75 → Gives s
  escape_u l h e = in_escape l h ∙ rw (eq-eqb b 0x75 e)

  pub escape_short : 26 ≤ n → n < 28 → b ≢ 0x75 → Gives (bytes_more k 1 false s)
  escape_short l h e = in_escape l h ∙ rw (ne_eqb b 0x75 e)

  abbrev pub code : ℕ
  code = s.code % 0x1000 * 16 + hex_at b

  pub last_hex : 28 ≤ n → n < 30 → Gives (bytes_more k (unit_size s.high code) (is_high code) s)
  last_hex l h = ranged (λ p. counting p k b s ≡ bytes_more k (unit_size s.high code) (is_high code) s) 28 2 refl (refl, (refl, tt)) n l h

  pub other_hex : 30 ≤ n → n < 36 → Gives (with_code code s)
  other_hex l h = ranged (λ p. counting p k b s ≡ with_code code s) 30 6 refl (refl, (refl, (refl, (refl, (refl, (refl, tt)))))) n l h

  pub in_char : 36 ≤ n → n < 50 → Gives (bytes_more k 1 s.high s)
  in_char l h =
      ranged (λ p. counting p k b s ≡ bytes_more k 1 s.high s) 36 14 refl
      (refl, (refl, (refl, (refl, (refl, (refl, (refl, (refl, (refl, (refl, (refl, (refl, (refl, (refl, tt)))))))))))))) n l h

  pub idle : 5 ≤ n → n < 24 → Gives s
  idle l h =
      ranged (λ p. counting p k b s ≡ s) 5 19 refl
      (refl, (refl, (refl, (refl, (refl, (refl, (refl, (refl, (refl, (refl, (refl, (refl, (refl, (refl, (refl, (refl, (refl, (refl, (refl, tt))))))))))))))))))) n l h

  pub outer_blank : n < 5 → b ≤ 0x20 → Gives s
  outer_blank h l =
      let low : ltb 0x20 b ≡ false = le-ltb 0x20 b l in
      let other : eqb b 0x5D ≡ false = ne_eqb b 0x5D (λ e. omega arith) in
      ranged (λ p. counting p k b s ≡ s) 0 5 refl (rw low, (rw (other, low), (refl, (rw low, (rw low, tt))))) n (omega arith) (omega arith)

  at_place : (m : ℕ) → n ≡ m → counting (place_at n) k b s ≡ counting (place_at m) k b s
  at_place m e = ap (λ (x : ℕ). counting (place_at x) k b s) e

  pub behind_value : n ≡ 2 → Gives s
  behind_value e = at_place 2 e

  -- the place is m, and the byte is c
  abbrev pub Both : ℕ → ℕ → Bool
  Both m c = eqb n m && eqb b c

  pub shut_array : Both 1 0x5D ≡ true → Gives s
  shut_array e = at_place 1 (eqb-true n 1 (left (eqb n 1) (eqb b 0x5D) e)) ∙ rw (right (eqb n 1) (eqb b 0x5D) e)

  pub shut_object : Both 4 0x7D ≡ true → Gives s
  shut_object e =
      let q : b ≡ 0x7D = eqb-true b 0x7D (right (eqb n 4) (eqb b 0x7D) e) in
      at_place 4 (eqb-true n 4 (left (eqb n 4) (eqb b 0x7D) e)) ∙ rw (lt-ltb 0x20 b (omega arith), eq-eqb b 0x7D q)

  other : (m c : ℕ) → Both m c ≡ false → n ≡ m → eqb b c ≡ false
  other m c e q = rw (eq-eqb n m q) at e

  pub value_starts : n < 2 → 0x20 < b → Both 1 0x5D ≡ false → Gives (value_more k s)
  value_starts h l o =
      ⊎_elim
      (λ (m : 1 ≤ n). let e : n ≡ 1 = omega arith in at_place 1 e ∙ rw (other 1 0x5D o e, lt-ltb 0x20 b l))
      (λ (m : n < 1). at_place 0 (omega arith) ∙ rw (lt-ltb 0x20 b l))
      (le_or_lt 1 n)

  pub name_starts : 3 ≤ n → n < 5 → 0x20 < b → Both 4 0x7D ≡ false → Gives (name_more s)
  name_starts low h l o =
      ⊎_elim
      (λ (m : 4 ≤ n). let e : n ≡ 4 = omega arith in at_place 4 e ∙ rw (lt-ltb 0x20 b l, other 4 0x7D o e))
      (λ (m : n < 4). at_place 3 (omega arith) ∙ rw (lt-ltb 0x20 b l))
      (le_or_lt 4 n)
