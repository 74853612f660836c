-- The three demands, of the answer that the specification gives.
--     demands     what `Demands` says of every call, full or cut
-- Assumes nothing.
use mathlib.Core.Bool.{Bool, true, false, ◌&&◌, cond}
use mathlib.Core.List.Memᴰ
use mathlib.Core.List.Memᴰ.{head as at_head}
use mathlib.Core.List.Memᴰ.{tail as in_Tail}
use mathlib.Core.List.{List, [], ◌∷◌, ◌++◌, map, Memᴰ as In}
use mathlib.Core.Logic.{⊎_elim}
use mathlib.Core.Path.{◌≡◌, refl, sym, ap, ◌∙◌, subst}
use Prim.Native.Nat.{ℕ, zero, suc, ◌+◌, ◌-◌, ◌*◌, ◌≤◌, ◌<◌}
use native.Mathlib.Omega.{arith}
use lib.Dec.{ltb}
use lib.ListN.{length, get_or, take, drop, length-map, length-append, length-drop, get_or-append}
use lib.Seq.{take_at, drop_at}
use borrow.Author.Tests.{ltb-true, ltb-false, le-ltb}
use Rattle.laws.proofs.Tests.{le_or_lt}
use Rattle.sheet.specs.Refusals.{accepted, refused, Line, first_line}
use Rattle.sheet.specs.Doc.{null, string, Doc, first_child, child_count}
use Rattle.sheet.specs.Record.{rows_word, doc_of}
use Rattle.sheet.specs.Faults.{record_lines, record_outcome}
use Rattle.sheet.proofs.Shape.{well_formed}
use Rattle.rulesheet.specs.Ruleset.{Ruleset}
use Rattle.rulesheet.specs.Sheet.{schemas_word, rules_of}
use Rattle.rules.specs.Check.{rule_lines, rules_outcome}
use Rattle.meaning.specs.Lists.{range, keep, concat_map}
use Rattle.meaning.specs.Rules.{Pair, Result, Way, whole, cut, truth}
use Rattle.meaning.specs.Derivation.{Schema}
use Rattle.meaning.specs.Settling.{listed, root, settled, word, list, cell, cells, marked, shown}
use Rattle.meaning.specs.Keywords.{WellSpelled}
use Rattle.meaning.specs.Fit.{Fit}
use Rattle.meaning.specs.Once.{Distinct}
use Rattle.meaning.specs.Answer.{verdict, Left, area_lines, table, judged, judge}
use Rattle.meaning.specs.Demands.{NoneOf, Shows, unsettled, held, failed, Adds, marked as is_marked, at_root, owner_unsettled, unmarked, CellIs, marked_of, Right, Listed, Reaching, Settles, Demands}
use Rattle.meaning.proofs.Rows.{rows_at, rows_length}
use Rattle.meaning.proofs.Words.{word_inside}
use Rattle.meaning.proofs.Assertions.{assertions}
use Rattle.meaning.proofs.Reaches.{reaches}
use Rattle.meaning.proofs.Joinings.{joinings}
use Rattle.meaning.proofs.Truth.{truth_derived, truth_only}
use Rattle.meaning.proofs.Marks.{marks_children, failed_none}
use Rattle.meaning.proofs.Settled.{listed_in, not_listed, words_distinct}
use Rattle.meaning.proofs.Trees.{once, cuts}
use Rattle.meaning.proofs.Shown.{cells_shown}
use Rattle.meaning.proofs.Answers.{by_lines, fits}
use Rattle.meaning.proofs.Refused.{none_given, total}

-- ---- a cell

shows_by : (done : List Pair) (p : Pair) (r : Result) (b h : Bool) → listed p done ≡ b → r.holds ≡ h → Shows done p r (cond b (cond h 1 2) 0)
shows_by done p r true true e f = held (listed_in p done e) f
shows_by done p r true false e f = failed (listed_in p done e) f
shows_by done p r false h e f = unsettled (not_listed p done e)

adds_by : (done : List Pair) (j : ℕ) (up : Pair) (r : Result) (a b c : Bool) → ltb 0 j ≡ a → listed up done ≡ b → r.marks j ≡ c
    → Adds done j up r (cond (a && b && c) 4 0)
adds_by done j up r true true true e f g = is_marked (ltb-true 0 j e) (listed_in up done f) g
adds_by done j up r true true false e f g = unmarked g
adds_by done j up r true false c e f g = owner_unsettled (not_listed up done f)
adds_by done j up r false b c e f g = at_root (no_row (ltb-false 0 j e))
  where
    no_row : j ≤ 0 → j ≡ 0
    no_row h = omega arith

cell_by : (D : Doc) (R : Ruleset) (n m : ℕ) (done : List Pair) (t : Pair → Result) → ((p : Pair) → t p ≡ truth D R p)
    → (j s : ℕ) → CellIs done (record { row = j; rule = s }) (record { row = D.owner j; rule = s }) t (cell D R n m done (record { row = j; rule = s }))
unfolding cell
cell_by D R n m done t same j s =
    let own : Pair = record { row = j; rule = s } in
    let up : Pair = record { row = D.owner j; rule = s } in
    record {
      verdict_part = cond (listed own done) (cond (truth D R own).holds 1 2) 0;
      mark_part = cond (ltb 0 j && listed up done && (truth D R up).marks j) 4 0;
      shows = shows_by done own (t own) (listed own done) (truth D R own).holds refl (ap (λ (r : Result). r.holds) (same own));
      adds = adds_by done j up (t up) (ltb 0 j) (listed up done) ((truth D R up).marks j) refl refl (ap (λ (r : Result). r.marks j) (same up));
      together = refl;
    }

-- past the rows there are nulls
past_rows : (ws ts : List ℕ) (j : ℕ) → rows_word ws ≤ j → WellSpelled ((doc_of ws ts).value j)
unfolding doc_of
past_rows ws ts j h = λ bytes e. absurd (never bytes (rw (le-ltb j (rows_word ws) h) at e))
  where
    never : (bytes : List ℕ) → null ≡ string bytes → ⊥
    never bytes f = let z : ◌≡◌ {A = ℕ} 0 1 = cc in omega arith

-- ---- a call that is not refused

module _ (w : Way) (ws ts rs us cs ls : List ℕ) where
  abbrev lines : List Line
  lines = table w ws ts rs us cs ls

  abbrev D : Doc
  D = doc_of ws ts

  abbrev R : Ruleset
  R = rules_of rs us

  abbrev n : ℕ
  n = rows_word ws

  abbrev m : ℕ
  m = schemas_word rs

  module _ (none : NoneOf lines) where
    good : record_outcome ws ts ≡ accepted n
    unfolding record_outcome first_line
    good = none_given (record_lines ws ts) [] n (λ l i. none l (Memᴰ.append_left (rule_lines rs us ++ area_lines w (n * m) (length cs) (length ls)) i))

    fine : rules_outcome rs us ≡ accepted m
    unfolding rules_outcome first_line
    fine =
        none_given (rule_lines rs us) [] m
        (λ l i. none l (Memᴰ.append_right (record_lines ws ts) (Memᴰ.append_left (area_lines w (n * m) (length cs) (length ls)) i)))

    fit : Fit D R n m
    fit = fits w ws ts rs us cs ls n good m fine

    roomy : n * m ≤ length cs
    roomy = ltb-false (length cs) (n * m) (none _ (Memᴰ.append_right (record_lines ws ts) (Memᴰ.append_right (rule_lines rs us) (at_head refl))))

    goes_on : judge w ws ts rs us cs ls ≡ judged w D R n m cs ls
    unfolding first_line
    goes_on = by_lines w ws ts rs us cs ls (accepted 0) (none_given lines [] 0 none)

    abbrev all : List Pair
    all = settled D R w

    cells_size : length (cells D R n m w) ≡ n * m
    unfolding cells
    cells_size = rows_length (λ j s. cell D R n m all (record { row = j; rule = s })) m 0 n

    module _ (left : Left) (e : left ≡ judged w D R n m cs ls) where
      cells_are : left.cells ≡ cells D R n m w ++ drop (n * m) cs
      unfolding judged
      cells_are = ap (λ (x : Left). x.cells) e

      cell_at : (j s : ℕ) → j < n → s < m → get_or left.cells (j * m + s) 0 ≡ cell D R n m all (record { row = j; rule = s })
      unfolding cells
      cell_at j s h g =
          let z : 0 + j ≡ j = omega arith in
          ap (λ l. get_or l (j * m + s) 0) cells_are
          ∙ get_or-append (cells D R n m w) (drop (n * m) cs) 0 (j * m + s) (rw cells_size (word_inside n m j s h g))
          ∙ rows_at (λ i k. cell D R n m all (record { row = i; rule = k })) m 0 n j s h g
          ∙ ap (λ (i : ℕ). cell D R n m all (record { row = i; rule = s })) z

      right : (t : Pair → Result) → ((p : Pair) → Schema D R p (t p)) → Right w ws ts rs us cs ls left t all
      unfolding judged marked
      right t d =
          let same : (p : Pair) → t p ≡ truth D R p = λ p. truth_only D R n m fit p (t p) (d p) in
          record {
            verdict_is = ap (λ (x : Left). x.answer) e ∙ ap (λ (r : Result). verdict r.holds (length all) (marked_of D 0 r.marks)) (sym (same root));
            cell_is = λ j s h g.
                subst (CellIs all (record { row = j; rule = s }) (record { row = D.owner j; rule = s }) t) (sym (cell_at j s h g)) (cell_by D R n m all t same j s);
            cells_after = ap (drop (n * m)) cells_are ∙ drop_at (cells D R n m w) (drop (n * m) cs) (n * m) cells_size;
            cells_long = ap length cells_are ∙ length-append (cells D R n m w) (drop (n * m) cs) ∙ omega (arith, cells_size, length-drop (n * m) cs, roomy);
          }

      counted : shown (take (n * m) left.cells) ≡ length all
      counted = ap shown (ap (take (n * m)) cells_are ∙ take_at (cells D R n m w) (drop (n * m) cs) (n * m) cells_size) ∙ cells_shown D R n m fit w

  demands_by : (left : Left) → left ≡ judge w ws ts rs us cs ls
      → ((none : NoneOf lines) → Settles w ws ts rs us cs ls w left (settled D R w)) → Demands w ws ts rs us cs ls left
  demands_by left e settles =
      record {
        total = total w ws ts rs us cs ls left e;
        assertions = assertions D;
        readable = λ none j. ⊎_elim (λ (h : n ≤ j). past_rows ws ts j h) (λ (h : j < n). (well_formed ws ts n (good none)).readable j h) (le_or_lt n j);
        reaches = reaches D;
        joinings = joinings;
        derived = λ none p.
            record {
              result = truth D R p;
              tree = truth_derived D R n m (fit none) p;
              one_result = truth_only D R n m (fit none) p;
              of_children = marks_children D R p;
              none_failed = failed_none D R p;
            };
        judged = λ none. (settled D R w, settles none, right none left (e ∙ goes_on none));
      }

-- ---- the pairs settled

module _ (ws ts rs us cs ls : List ℕ) where
  abbrev D₀ : Doc
  D₀ = doc_of ws ts

  abbrev R₀ : Ruleset
  R₀ = rules_of rs us

  abbrev n₀ : ℕ
  n₀ = rows_word ws

  abbrev m₀ : ℕ
  m₀ = schemas_word rs

  -- of a full call, its list
  listing : (left : Left) → left ≡ judge whole ws ts rs us cs ls → NoneOf (table whole ws ts rs us cs ls) → Listed whole ws ts rs us cs ls left (settled D₀ R₀ whole)
  unfolding word judged list
  listing left e none =
      let all = settled D₀ R₀ whole in
      let fit₀ = fit whole ws ts rs us cs ls none in
      let list_is : left.list ≡ map (word D₀ R₀ n₀ m₀) all ++ drop (length all) ls = ap (λ (x : Left). x.list) (e ∙ goes_on whole ws ts rs us cs ls none) in
      let long : length (map (word D₀ R₀ n₀ m₀) all) ≡ length all = length-map all (word D₀ R₀ n₀ m₀) in
      let first = ap (take (length all)) list_is ∙ take_at (map (word D₀ R₀ n₀ m₀) all) (drop (length all) ls) (length all) long in
      record {
        words = first;
        words_after = ap (drop (length all)) list_is ∙ drop_at (map (word D₀ R₀ n₀ m₀) all) (drop (length all) ls) (length all) long;
        words_distinct = subst Distinct (sym first) (words_distinct D₀ R₀ whole n₀ m₀ fit₀);
        pairs = once D₀ R₀ n₀ m₀ fit₀;
      }

  -- of a call that is cut, its cells
  reaching : (left : Left) → left ≡ judge cut ws ts rs us cs ls → NoneOf (table cut ws ts rs us cs ls) → Reaching cut ws ts rs us cs ls left (settled D₀ R₀ cut)
  unfolding judged
  reaching left e none =
      let f = e ∙ goes_on cut ws ts rs us cs ls none in
      record {
        cells_counted = counted cut ws ts rs us cs ls none left f;
        no_list = ap (λ (x : Left). x.list) f;
        pairs = cuts D₀ R₀ n₀ m₀ (fit cut ws ts rs us cs ls none);
      }

pub demands : (w : Way) (ws ts rs us cs ls : List ℕ) (left : Left) → left ≡ judge w ws ts rs us cs ls → Demands w ws ts rs us cs ls left
demands whole ws ts rs us cs ls left e = demands_by whole ws ts rs us cs ls left e (listing ws ts rs us cs ls left e)
demands cut ws ts rs us cs ls left e = demands_by cut ws ts rs us cs ls left e (reaching ws ts rs us cs ls left e)
