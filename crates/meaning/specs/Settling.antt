-- The settling order, and what is left in the areas.
-- Assumes nothing.
use Rattle.std.specs.Prelude.{ℕ, zero, suc, ◌+◌, ◌*◌, ◌%◌, Bool, true, false, ◌&&◌, ◌||◌, cond, eqb, ltb, length}
use mathlib.Core.List.{List, [], ◌∷◌, ◌++◌, map, Memᴰ as In}
use Rattle.sheet.specs.Doc.{Doc, first_child, child_count}
use Rattle.rulesheet.specs.Ruleset.{Ruleset}
use Rattle.meaning.specs.Lists.{range, keep, concat_map}
use Rattle.meaning.specs.Rules.{Pair, Way, whole, depth, truth, applies}

unfoldable pub same_pair : Pair → Pair → Bool
same_pair p q = eqb p.row q.row && eqb p.rule q.rule

unfoldable pub listed : Pair → List Pair → Bool
listed p [] = false
listed p (q ∷ qs) = same_pair p q || listed p qs

-- one after the other
unfoldable pub in_turn : (Pair → List Pair → List Pair) → List Pair → List Pair → List Pair
in_turn f [] done = done
in_turn f (p ∷ ps) done = in_turn f ps (f p done)

unfoldable pub root : Pair
root = record { row = 0; rule = 0 }

-- q is applied by p, or by a pair that p applies, or is p
pub data Reached (D : Doc) (R : Ruleset) (w : Way) (q : Pair) : Pair → Type 0 where
  itself : Reached D R w q q
  further : {p o : Pair} → In o (applies D R w p) → Reached D R w q o → Reached D R w q p

module _ (D : Doc) (R : Ruleset) (w : Way) where
  -- `done`, and then the pairs settled for p: those it applies first, itself last, none twice
  unfoldable pub settle : ℕ → Pair → List Pair → List Pair
  settle zero p done = done
  settle (suc f) p done =
      let more = in_turn (λ q d. settle f q d) (applies D R w p) done ++ p ∷ [] in
      cond (listed p done) done more

  unfoldable pub settled : List Pair
  settled = settle depth root []

module _ (D : Doc) (R : Ruleset) (n m : ℕ) where
  unfoldable pub word : Pair → ℕ
  word p = p.row * m + p.rule

  unfoldable pub list : List ℕ
  list = map word (settled D R whole)

  -- 0, 1 or 2 by the verdict, and 4 if the owner's pair marks the row
  unfoldable pub cell : List Pair → Pair → ℕ
  cell done p =
      let up : Pair = record { row = D.owner p.row; rule = p.rule } in
      cond (listed p done) (cond (truth D R p).holds 1 2) 0
      + cond (ltb 0 p.row && listed up done && (truth D R up).marks p.row) 4 0

  unfoldable pub cells : Way → List ℕ
  cells w =
      let done = settled D R w in
      concat_map (λ j. map (λ s. cell done (record { row = j; rule = s })) (range 0 m)) (range 0 n)

  -- how many children of the root are marked
  unfoldable pub marked : ℕ
  marked = length (keep (truth D R root).marks (range (first_child (D.value 0)) (child_count (D.value 0))))

-- how many of the cells show a verdict
unfoldable pub shown : List ℕ → ℕ
shown [] = 0
shown (x ∷ xs) = cond (eqb (x % 4) 0) 0 1 + shown xs

-- opens this module to a computation
unfoldable pub settling_computes : Unit {0}
unfolding same_pair listed in_turn root settle settled word list cell cells marked shown
settling_computes = tt
