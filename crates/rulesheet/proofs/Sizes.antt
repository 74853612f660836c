-- How many entries a list clause has, where its fields fix that.
--     counts_of         a code's least and most say so
--     clause_sized      a clause without fault has so many
-- Assumes nothing.
use mathlib.Core.Bool.{true}
use mathlib.Core.List.{List}
use mathlib.Core.Path.{◌≡◌}
use Prim.Native.Nat.{ℕ, ◌≤◌}
use native.Mathlib.Omega.{arith}
use Rattle.rulesheet.specs.Codes.{CodeLine, codes, shape_of}
use Rattle.rulesheet.specs.Sheet.{clause_at}
use Rattle.rulesheet.specs.Faults.{is_list, fields_at, clause_fine}
use Rattle.rulesheet.specs.Clauses.{SizedBy}
use Rattle.rulesheet.proofs.Taking.{list_facts}
use Rattle.rulesheet.proofs.Reaching.{Every, done, and, in_table}

no_other : (n many : ℕ) → many ≤ n → n ≤ many → n ≡ many
no_other n many a b = omega arith

Counting : CodeLine → Type 0
Counting line = (count : ℕ) → line.shape.least ≤ count → count ≤ line.shape.most → SizedBy line.shape.fields count

table_counts : Every Counting codes
unfolding Counting
table_counts = and (λ n a b. tt) (and (λ n a b. tt) (and (λ n a b. tt) (and (λ n a b. tt) (and (λ n a b. tt) (and (λ n a b. tt) (and (λ n a b. tt) (and (λ n a b. tt) (and (λ n a b. tt) (and (λ n a b. tt) (and (λ n a b. tt) (and (λ n a b. tt) (and (λ n a b. tt) (and (λ n a b. tt) (and (λ n a b. tt) (and (λ n a b. tt) (and (λ n a b. tt) (and (λ n a b. tt) (and (λ n a b. tt) (and (λ n a b. tt) (and (λ n a b. no_other n _ a b) (and (λ n a b. tt) (and (λ n a b. tt) (and (λ n a b. tt) (and (λ n a b. tt) (and (λ n a b. tt) (and (λ n a b. no_other n _ a b) (and (λ n a b. tt) (and (λ n a b. tt) done))))))))))))))))))))))))))))

pub counts_of : (code count : ℕ) → (shape_of code).least ≤ count → count ≤ (shape_of code).most → SizedBy (shape_of code).fields count
unfolding Counting
counts_of code = in_table Counting codes code (λ n a b. tt) table_counts

pub clause_sized : (ws : List ℕ) (k : ℕ) → clause_fine ws k ≡ true → is_list (fields_at ws k) ≡ true → SizedBy (fields_at ws k) (clause_at ws k).count
clause_sized ws k fine list =
    let f = list_facts ws k fine list in
    counts_of (clause_at ws k).code (clause_at ws k).count f.list_least f.list_most
