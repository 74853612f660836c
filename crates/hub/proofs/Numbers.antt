-- The demands, of the number that C gets.
--     number_demands     every call's number tells an answer that meets them, in whole or for the verdict only
--     never_unknown      judging never gives 12, the refusal of a sheet of no known kind
-- Assumes nothing.
use mathlib.Core.Bool.{true, not}
use mathlib.Core.List.Memᴰ
use mathlib.Core.List.Memᴰ.{head as at_head}
use mathlib.Core.List.{List, ◌∷◌, ◌++◌, Memᴰ as In}
use mathlib.Core.Path.{◌≡◌, refl, sym, ap, ◌∙◌, subst}
use Prim.Native.Nat.{ℕ, ◌+◌, ◌*◌, ◌/◌, ◌%◌, ◌≤◌, ◌<◌}
use native.Mathlib.Omega.{arith}
use lib.Dec.{eqb, ltb}
use borrow.Author.Tests.{ltb-true, eq-eqb, not-true}
use Rattle.sheet.specs.Refusals.{Line}
use Rattle.sheetcheck.specs.LastWord.{unknown_kind}
use Rattle.meaning.specs.Lists.{all}
use Rattle.meaning.specs.Rules.{Way}
use Rattle.meaning.specs.Answer.{Answer, valid, invalid, refuses, number_for_c, Left, table, judge}
use Rattle.meaning.specs.Demands.{First, Demands}
use Rattle.meaning.proofs.Members.{all_pass}
use Rattle.meaning.proofs.Words.{row_of, rule_of}
use Rattle.meaning.proofs.Demands.{demands}
use Rattle.number.specs.Called.{Called}
use Rattle.hub.specs.Entry.{Tells, tells_valid, tells_invalid, tells_refused, NumberDemands}

-- a byte, and what stands above it
pub low : {r : ℕ} (above byte : ℕ) → r ≡ above * 256 + byte → byte < 256 → r % 256 ≡ byte
low above byte e h = ap (λ (x : ℕ). x % 256) e ∙ rule_of 256 above byte h

pub high : {r : ℕ} (above byte : ℕ) → r ≡ above * 256 + byte → byte < 256 → r / 256 ≡ above
high above byte e h = ap (λ (x : ℕ). x / 256) e ∙ row_of 256 above byte h

module _ (w : Way) (ws ts rs us cs ls : List ℕ) where
  abbrev lines : List Line
  lines = table w ws ts rs us cs ls

  -- the line that is given is one of the table's
  of_table : (line : Line) → First lines line → In line lines
  of_table line f = subst (λ l. In line l) (sym f.parted) (Memᴰ.append_right f.before (at_head refl))

  -- the number of a refusal leaves room for ten more in a byte
  number_small : (line : Line) → First lines line → line.number < 246
  unfolding all
  number_small line f = ltb-true line.number 246 ((all_pass (λ l. ltb l.number 246) lines).0 refl line (of_table line f))

  not_unknown : (line : Line) → First lines line → line.number ≡ unknown_kind → ⊥
  unfolding all
  not_unknown line f e =
      let known = (all_pass (λ l. not (eqb l.number unknown_kind)) lines).0 refl line (of_table line f) in
      let z : ◌≡◌ {A = ℕ} 0 1 = cc (not-true (eqb line.number unknown_kind) known, eq-eqb line.number unknown_kind e) in
      omega arith

  pub never_unknown : (place : ℕ) → (judge w ws ts rs us cs ls).answer ≡ refuses unknown_kind place → ⊥
  never_unknown place e =
      let found = (demands w ws ts rs us cs ls (judge w ws ts rs us cs ls) refl).total.only_refused unknown_kind place e in
      not_unknown found.0 found.1 (omega (arith, found.2))

  told : (r : ℕ) (a : Answer) → ((number place : ℕ) → a ≡ refuses number place → number < 246) → r ≡ number_for_c a → Tells r a
  told r (valid count marks) small e = tells_valid (low count 0 (omega (arith, e)) (omega arith)) (high count 0 (omega (arith, e)) (omega arith))
  told r (invalid count marks) small e = tells_invalid (low count 1 e (omega arith)) (high count 1 e (omega arith))
  told r (refuses number place) small e =
      let fits : 10 + number < 256 = omega (arith, small number place refl) in
      tells_refused (low place (10 + number) e fits) (high place (10 + number) e fits)

  pub number_demands : {cells list : List ℕ} {r : ℕ} → Called w ws ts rs us cs ls cells list r → NumberDemands w ws ts rs us cs ls cells list r
  number_demands {cells} {list} {r} c =
      let a = (judge w ws ts rs us cs ls).answer in
      let all : ◌≡◌ {A = Left} (record { answer = a; cells = cells; list = list }) (judge w ws ts rs us cs ls) = λ i. record { answer = a; cells = c.cells_are i; list = c.list_is i } in
      let d = demands w ws ts rs us cs ls (record { answer = a; cells = cells; list = list }) all in
      record {
        answer = a;
        tells = told r a (λ number place f. let found = d.total.only_refused number place f in omega (arith, number_small found.0 found.1, found.2)) c.number_is;
        demands = d;
      }
