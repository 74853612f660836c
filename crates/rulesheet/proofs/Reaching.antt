-- The unguarded steps of a clause, by its code's shape and its words; the text does not matter for them.
--     targets_are        a clause's steps, by the row and the shape that were read
--     steps_over         they are the same over any text
--     item_is            item i of a clause's list is made of its i-th entry
-- Assumes nothing.
use mathlib.Core.Bool.{Bool, true, false, cond}
use mathlib.Core.List.{List, [], ◌∷◌, map}
use mathlib.Core.Logic.{⊎_elim}
use mathlib.Core.Path.{◌≡◌, refl, sym, ap, ◌∙◌}
use Prim.Native.Nat.{ℕ, zero, suc, ◌+◌, ◌<◌}
use native.Mathlib.Nat.{add-zero}
use native.Mathlib.Omega.{arith}
use lib.Dec.{eqb}
use lib.ListN.{length, get_or, length-map}
use Rattle.laws.proofs.Tests.{decide}
use Rattle.rulesheet.specs.declared.code.Fields.{Fields}
use Rattle.rulesheet.specs.declared.code.Fields.TheVariants.{Unknown, Bare, Types, Number, Positive, Limit, Schema, Values, Names, Schemas, Members, Branches, Counted}
use Rattle.rulesheet.specs.declared.code.Shape.{Shape}
use Rattle.rulesheet.specs.declared.form.ClauseRow.{ClauseRow}
use Rattle.rulesheet.specs.declared.form.EntryRow.{EntryRow}
use Rattle.rulesheet.specs.Ruleset.{unguarded}
use Rattle.rulesheet.specs.Codes.{Parts, CodeLine, codes, unknown, pick_line, line_in, no_entry, entry_name, shape_of, means_of}
use Rattle.rulesheet.specs.Sheet.{clause_at, entry_at, run, clause_of, targets_of}

-- ---- runs of numbers

pub run_long : (many from : ℕ) → length (run many from) ≡ many
unfolding run
run_long zero from = refl
run_long (suc many) from = ap suc (run_long many (from + 1))

pub run_at : (many from i : ℕ) → i < many → get_or (run many from) i 0 ≡ from + i
unfolding run
run_at zero from i h = absurd (nothing h)
  where
    nothing : i < 0 → ⊥
    nothing l = omega arith
run_at (suc many) from zero h = sym (add-zero from)
run_at (suc many) from (suc i) h = run_at many (from + 1) i (omega arith) ∙ omega arith

-- what stands at a place of a list that was mapped
map_at : {A B : Type 0} (f : A → B) (xs : List A) (i : ℕ) (d : A) (e : B) → i < length xs → get_or (map f xs) i e ≡ f (get_or xs i d)
map_at f [] i d e h = absurd (nothing h)
  where
    nothing : i < 0 → ⊥
    nothing l = omega arith
map_at f (x ∷ xs) zero d e h = refl
map_at f (x ∷ xs) (suc i) d e h = map_at f xs i d e (omega arith)

-- item i of a list that is made of a run is made of `first + i`
pub made_at : {B : Type 0} (make : ℕ → B) (many first i : ℕ) (d : B) → i < many → get_or (map make (run many first)) i d ≡ make (first + i)
made_at make many first i d h =
    let inside : i < length (run many first) = omega (arith, run_long many first) in
    map_at make (run many first) i 0 d inside ∙ ap make (run_at many first i h)

-- item i of a list that is made of entries is made of the entry at `first + i`
pub item_is : {B : Type 0} (ws : List ℕ) (make : EntryRow → B) (many first i : ℕ) (d : B) → i < many
    → get_or (map make (map (entry_at ws) (run many first))) i d ≡ make (entry_at ws (first + i))
item_is ws make many first i d h =
    let none : EntryRow = record { first = 0; second = 0; third = 0 } in
    let inside : i < length (run many first) = omega (arith, run_long many first) in
    map_at make (map (entry_at ws) (run many first)) i none d (simp length-map inside) ∙ ap make (made_at (entry_at ws) many first i none h)

-- ---- a fact about every line of the table

pub data Every (P : CodeLine → Type 0) : List CodeLine → Type 0 where
  done : Every P []
  and : {line : CodeLine} {lines : List CodeLine} → P line → Every P lines → Every P (line ∷ lines)

pub in_table : (P : CodeLine → Type 0) (lines : List CodeLine) (code : ℕ) → P unknown → Every P lines → P (line_in lines code)
unfolding line_in
in_table P [] code u done = u
in_table P (line ∷ lines) code u (and p ps) = pick (eqb code line.code) (in_table P lines code u ps)
  where
    pick : (b : Bool) → P (line_in lines code) → P (pick_line b line (line_in lines code))
    pick true q = p
    pick false q = q

-- the schemas that a clause of these fields names, by its first and its entries
abbrev pub named_by : Fields → ℕ → List EntryRow → List ℕ
named_by Unknown first es = []
named_by Bare first es = []
named_by Types first es = []
named_by Number first es = []
named_by Positive first es = []
named_by Limit first es = []
named_by Schema first es = first ∷ []
named_by Values first es = []
named_by Names first es = []
named_by Schemas first es = map (λ (e : EntryRow). e.first) es
named_by Members first es = map (λ (e : EntryRow). e.third) es
named_by Branches first es = (get_or es 0 no_entry).first ∷ (get_or es 1 no_entry).first ∷ (get_or es 2 no_entry).first ∷ []
named_by Counted first es = (get_or es 0 no_entry).first ∷ []

-- the steps of a clause of this shape: those that it names, if it is unguarded
abbrev pub by_shape : Shape → ℕ → List EntryRow → List ℕ
by_shape shape first es = cond shape.unguarded (named_by shape.fields first es) []

-- members are mapped twice: to names with schemas, and to schemas
pub third_of : (name : EntryRow → List ℕ) (es : List EntryRow)
    → map (λ (m : List ℕ × ℕ). m.1) (map (λ (e : EntryRow). (name e, e.third)) es) ≡ map (λ (e : EntryRow). e.third) es
third_of name [] = refl
third_of name (e ∷ es) = ap (λ l. e.third ∷ l) (third_of name es)

Shaped : CodeLine → Type 0
Shaped line = (p : Parts) → unguarded (line.means p) ≡ by_shape line.shape p.first p.entries

table_shaped : Every Shaped codes
unfolding Shaped
table_shaped = and (λ p. refl) (and (λ p. refl) (and (λ p. refl) (and (λ p. refl) (and (λ p. refl) (and (λ p. refl) (and (λ p. refl) (and (λ p. refl) (and (λ p. refl) (and (λ p. refl) (and (λ p. refl) (and (λ p. refl) (and (λ p. refl) (and (λ p. refl) (and (λ p. refl) (and (λ p. refl) (and (λ p. refl) (and (λ p. refl) (and (λ p. refl) (and (λ p. refl) (and (λ p. refl) (and (λ p. third_of (entry_name p.text) p.entries) (and (λ p. refl) (and (λ p. refl) (and (λ p. refl) (and (λ p. refl) (and (λ p. refl) (and (λ p. refl) (and (λ p. refl) done))))))))))))))))))))))))))))

pub shaped : (code : ℕ) (p : Parts) → unguarded (means_of code p) ≡ by_shape (shape_of code) p.first p.entries
unfolding Shaped
shaped code = in_table Shaped codes code (λ p. refl) table_shaped

-- ---- a clause's steps

abbrev pub parts_at : List ℕ → List ℕ → ℕ → Parts
parts_at ws ts k =
    record {
      text = ts;
      first = (clause_at ws k).first;
      count = (clause_at ws k).count;
      entries = map (entry_at ws) (run (clause_at ws k).count (clause_at ws k).first);
    }

pub steps_over : (ws ts : List ℕ) (k : ℕ) → unguarded (clause_of ws ts k) ≡ targets_of ws k
unfolding clause_of targets_of
steps_over ws ts k = shaped (clause_at ws k).code (parts_at ws ts k) ∙ sym (shaped (clause_at ws k).code (parts_at ws [] k))

pub targets_are : (ws : List ℕ) (k : ℕ) → targets_of ws k ≡ by_shape (shape_of (clause_at ws k).code) (clause_at ws k).first (map (entry_at ws) (run (clause_at ws k).count (clause_at ws k).first))
unfolding clause_of targets_of
targets_are ws k = shaped (clause_at ws k).code (parts_at ws [] k)
