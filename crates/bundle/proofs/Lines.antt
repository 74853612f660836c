-- The lines that the areas show are those of the settled pairs.
--     listed_below       its word is below n × m
--     listed_word        the word of settled pair i
--     lines_shown        the lines of all of them
-- Assumes nothing.
use mathlib.Core.Bool.{Bool, true, false, cond, ◌&&◌}
use mathlib.Core.List.Memᴰ.{head as at_head}
use mathlib.Core.List.Memᴰ.{tail as in_Tail}
use mathlib.Core.List.{List, [], ◌∷◌, ◌++◌, map, append_assoc, Memᴰ as In}
use mathlib.Core.Path.{◌≡◌, refl, sym, ap, ◌∙◌}
use Prim.Native.Nat.{ℕ, zero, suc, ◌+◌, ◌*◌, ◌/◌, ◌%◌, ◌<◌}
use native.Mathlib.Nat.{add-mul}
use native.Mathlib.Omega.{arith}
use lib.Dec.{eqb, ltb}
use lib.ListN.{length, get_or, length-map, get_or-append, get_or-map}
use lib.Seq.{get_or-append-add}
use Rattle.sheet.specs.Doc.{Doc}
use Rattle.rulesheet.specs.Ruleset.{Ruleset}
use Rattle.rulesheet.proofs.Reaching.{made_at}
use Rattle.meaning.specs.Lists.{range, concat_map}
use Rattle.meaning.specs.Rules.{Pair, whole, truth}
use Rattle.meaning.specs.Settling.{listed, root, settled, word, list, cell, cells}
use Rattle.meaning.specs.Fit.{Fit, Inside}
use Rattle.meaning.proofs.Lists.{in_every}
use Rattle.meaning.proofs.Words.{row_of, rule_of}
use Rattle.meaning.proofs.Members.{range_length}
use Rattle.meaning.proofs.Settled.{in_listed, word_below, all_inside}
use Rattle.clause.proofs.Listing.{range_run}
use Rattle.areas.specs.Cells.{verd}
use Rattle.bundle.specs.Printed.{line_of, line_at}

-- ---- places of lists

in_at : {A : Type 0} (xs : List A) (i : ℕ) (d : A) → i < length xs → In (get_or xs i d) xs
in_at [] i d h = absurd (nothing h)
  where
    nothing : i < 0 → ⊥
    nothing l = omega arith
in_at (x ∷ xs) zero d h = at_head refl
in_at (x ∷ xs) (suc i) d h = in_Tail (in_at xs i d (omega arith))

-- a list by its places
by_places : {A B : Type 0} (f : A → B) (g : ℕ → B) (d : A) (xs : List A) (a : ℕ) → ((i : ℕ) → i < length xs → g (a + i) ≡ f (get_or xs i d))
    → map g (range a (length xs)) ≡ map f xs
unfolding range
by_places f g d [] a h = refl
by_places f g d (x ∷ xs) a h =
    let e : a + 0 ≡ a = omega arith in
    let r : map g (range (suc a) (length xs)) ≡ map f xs =
    by_places f g d xs (suc a) (λ i l. let z : suc a + i ≡ a + suc i = omega arith in rw z (h (suc i) (omega arith))) in
    rw (r, ← h 0 (omega arith), e)

-- what stands in row j at place s, of n rows of m places and more after them
row_at : (g : ℕ → ℕ → ℕ) (more : List ℕ) (m n a j s : ℕ) → j < n → s < m
    → get_or (concat_map (λ k. map (g k) (range 0 m)) (range a n) ++ more) (j * m + s) 0 ≡ g (a + j) s
unfolding concat_map range
row_at g more m zero a j s h l = absurd (nothing h)
  where
    nothing : j < 0 → ⊥
    nothing q = omega arith
row_at g more m (suc n) a zero s h l =
    let row = map (g a) (range 0 m) in
    let long : length row ≡ m = length-map (range 0 m) (g a) ∙ range_length 0 m in
    let e : a + 0 ≡ a = omega arith in
    let z : 0 * m + s ≡ s = omega arith in
    rw (append_assoc, z, get_or-append row _ 0 s (omega arith), range_run 0 m, made_at (g a) m 0 s 0 l, e) (ap (g a) (omega arith))
row_at g more m (suc n) a (suc j) s h l =
    let row = map (g a) (range 0 m) in
    let long : length row ≡ m = length-map (range 0 m) (g a) ∙ range_length 0 m in
    let d : (j + 1) * m ≡ j * m + 1 * m = add-mul j 1 m in
    let q : suc j ≡ j + 1 = omega arith in
    let z : suc j * m + s ≡ length row + (j * m + s) = rw q (omega arith) in
    let e : suc a + j ≡ a + suc j = omega arith in
    rw (append_assoc, z, get_or-append-add row _ (j * m + s) 0) (rw (← e) (row_at g more m n (suc a) j s (omega arith) l))

-- ---- a settled pair

held_by : (holds marked : Bool) → eqb (verd (cond holds 1 2 + cond marked 4 0)) 1 ≡ holds
unfolding verd
held_by true true = refl
held_by true false = refl
held_by false true = refl
held_by false false = refl

held_cell : (D : Doc) (R : Ruleset) (n m : ℕ) (done : List Pair) (p : Pair) → listed p done ≡ true → eqb (verd (cell D R n m done p)) 1 ≡ (truth D R p).holds
unfolding cell
held_cell D R n m done p e =
    let up : Pair = record { row = D.owner p.row; rule = p.rule } in
    rw e (held_by (truth D R p).holds (ltb 0 p.row && listed up done && (truth D R up).marks p.row))

module _ (D : Doc) (R : Ruleset) (n m : ℕ) (fit : Fit D R n m) where
  root_word : word D R n m root ≡ 0
  unfolding word root
  root_word = omega arith

  abbrev settled_at : ℕ → Pair
  settled_at i = get_or (settled D R whole) i root

  module _ (i : ℕ) (h : i < length (settled D R whole)) where
    inside : Inside n m (settled_at i)
    inside = in_every (all_inside D R whole n m fit) (in_at (settled D R whole) i root h)

    listed_word : (ls : List ℕ) → get_or (list D R n m ++ ls) i 0 ≡ word D R n m (settled_at i)
    unfolding list
    listed_word ls =
        get_or-append (list D R n m) ls 0 i (rw (length-map (settled D R whole) (word D R n m)) h)
        ∙ ap (get_or (list D R n m) i) (sym root_word)
        ∙ get_or-map (word D R n m) (settled D R whole) i root

    pub listed_below : (ls : List ℕ) → get_or (list D R n m ++ ls) i 0 < n * m
    listed_below ls = rw (listed_word ls) (word_below D R whole n m fit (settled_at i) inside)

    held_shown : (cs : List ℕ) → eqb (verd (get_or (cells D R n m whole ++ cs) (word D R n m (settled_at i)) 0)) 1 ≡ (truth D R (settled_at i)).holds
    unfolding cells word
    held_shown cs =
        let p = settled_at i in
        let at = row_at (λ j s. cell D R n m (settled D R whole) (record { row = j; rule = s })) cs m n 0 p.row p.rule inside.row_in inside.rule_in in
        let z : 0 + p.row ≡ p.row = omega arith in
        rw (at, z) (held_cell D R n m (settled D R whole) p (in_listed p (in_at (settled D R whole) i root h)))

    row_shown : word D R n m (settled_at i) / m ≡ (settled_at i).row
    unfolding word
    row_shown = row_of m (settled_at i).row (settled_at i).rule inside.rule_in

    rule_shown : word D R n m (settled_at i) % m ≡ (settled_at i).rule
    unfolding word
    rule_shown = rule_of m (settled_at i).row (settled_at i).rule inside.rule_in

    line_shown : (cs ls : List ℕ) → line_at (cells D R n m whole ++ cs) (list D R n m ++ ls) m i ≡ line_of D R (settled_at i)
    unfolding line_at line_of
    line_shown cs ls = rw (listed_word ls) (λ k. record { row = row_shown k; schema = rule_shown k; held = held_shown cs k })

  pub lines_shown : (cs ls : List ℕ) → map (line_at (cells D R n m whole ++ cs) (list D R n m ++ ls) m) (range 0 (length (settled D R whole))) ≡ map (line_of D R) (settled D R whole)
  lines_shown cs ls =
      by_places (line_of D R) (line_at (cells D R n m whole ++ cs) (list D R n m ++ ls) m) root (settled D R whole) 0
      (λ i h. let z : 0 + i ≡ i = omega arith in rw z (line_shown i h cs ls))
