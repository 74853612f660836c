-- The word of a pair: row × m + rule.
--     row_of, rule_of     the row and the rule of a word
--     word_inside         the words of n rows are below n × m
--     row_inside          and so are all the words of a row
-- Assumes nothing.
use mathlib.Core.Path.{◌≡◌, ◌∙◌}
use Prim.Native.Nat.{ℕ, ◌+◌, ◌*◌, ◌/◌, ◌%◌, ◌≤◌, ◌<◌}
use native.Mathlib.Nat.{mul-le-mul_right, add-mul, mul-add-div_right, mul-add-mod_self_right, div-eq_of_lt, mod-eq_of_lt}
use native.Mathlib.Omega.{arith}

module _ (m row rule : ℕ) (h : rule < m) where
  pub row_of : (row * m + rule) / m ≡ row
  row_of =
      let a : (row * m + rule) / m ≡ row + rule / m = mul-add-div_right (omega arith) row rule in
      let b : rule / m ≡ 0 = div-eq_of_lt h in
      omega arith

  pub rule_of : (row * m + rule) % m ≡ rule
  rule_of = mul-add-mod_self_right row m rule ∙ mod-eq_of_lt h

pub row_inside : (n m row : ℕ) → row < n → row * m + m ≤ n * m
row_inside n m row h =
    let a : (row + 1) * m ≤ n * m = mul-le-mul_right m (omega arith) in
    let b : (row + 1) * m ≡ row * m + 1 * m = add-mul row 1 m in
    omega arith

pub word_inside : (n m row rule : ℕ) → row < n → rule < m → row * m + rule < n * m
word_inside n m row rule h g = let a = row_inside n m row h in omega arith
