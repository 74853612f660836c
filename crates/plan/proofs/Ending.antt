-- What hits tell of n steps, misses tell.
--     none_carried     all hold
--     ends_joined      what schemas on the row itself say in the end
-- Assumes nothing.
use mathlib.Core.List.{List}
use mathlib.Core.Logic.{⊎_elim}
use mathlib.Core.Path.{◌≡◌, sym, ap, ◌∙◌}
use Prim.Native.Nat.{ℕ, ◌+◌, ◌-◌, ◌≤◌, ◌<◌}
use native.Mathlib.Omega.{arith}
use lib.Dec.{eqb, ltb}
use lib.ListN.{length}
use borrow.Author.Tests.{lt-ltb, le-ltb, eq-eqb, ne_eqb}
use Rattle.laws.proofs.Tests.{le_or_lt}
use Rattle.sheet.specs.Doc.{Doc}
use Rattle.rulesheet.specs.Ruleset.{Mode, all_of, any_of, one_of, not_of, ref, in_place}
use Rattle.meaning.specs.Rules.{Pair}
use Rattle.plan.specs.Plan.{finished_by, ends_by}

none_missed : (misses n : ℕ) → misses ≤ n → eqb misses 0 ≡ eqb (n - misses) n
none_missed misses n h =
    ⊎_elim (λ (z : misses ≤ 0). eq-eqb misses 0 (omega arith) ∙ sym (eq-eqb (n - misses) n (omega arith)))
    (λ (z : 0 < misses). ne_eqb misses 0 (λ e. omega arith) ∙ sym (ne_eqb (n - misses) n (λ e. omega arith)))
    (le_or_lt misses 0)

some_hit : (misses n : ℕ) → ltb misses n ≡ ltb 0 (n - misses)
some_hit misses n =
    ⊎_elim (λ (z : n ≤ misses). le-ltb misses n z ∙ sym (le-ltb 0 (n - misses) (omega arith)))
    (λ (z : misses < n). lt-ltb misses n z ∙ sym (lt-ltb 0 (n - misses) (omega arith)))
    (le_or_lt n misses)

all_missed : (misses n : ℕ) → misses ≤ n → eqb misses n ≡ eqb (n - misses) 0
all_missed misses n h =
    ⊎_elim (λ (z : n ≤ misses). eq-eqb misses n (omega arith) ∙ sym (eq-eqb (n - misses) 0 (omega arith)))
    (λ (z : misses < n). ne_eqb misses n (λ e. omega arith) ∙ sym (ne_eqb (n - misses) 0 (λ e. omega arith)))
    (le_or_lt n misses)

pub none_carried : (hits misses n : ℕ) → hits + misses ≡ n → eqb hits n ≡ eqb misses 0
none_carried hits misses n e = let h : hits ≡ n - misses = omega arith in ap (λ (x : ℕ). eqb x n) h ∙ sym (none_missed misses n (omega arith))

pub ends_joined : (d : Doc) (p : Pair) (mode : Mode) (ss : List ℕ) (hits misses : ℕ) → hits + misses ≡ length ss → finished_by mode hits (length ss) ≡ ends_by d p (in_place mode ss) misses
unfolding ends_by finished_by
ends_joined d p all_of ss hits misses e = none_carried hits misses (length ss) e
ends_joined d p any_of ss hits misses e = let h : hits ≡ length ss - misses = omega arith in ap (ltb 0) h ∙ sym (some_hit misses (length ss))
ends_joined d p one_of ss hits misses e = let h : hits ≡ length ss - misses = omega arith in ap (λ (x : ℕ). eqb x 1) h
ends_joined d p not_of ss hits misses e = let h : hits ≡ length ss - misses = omega arith in ap (λ (x : ℕ). eqb x 0) h ∙ sym (all_missed misses (length ss) (omega arith))
ends_joined d p ref ss hits misses e = none_carried hits misses (length ss) e
