-- Refusals 5 to 9 and 13 of a rule sheet (paper 01, "Refusal table"; request #102 for 13), in the order in which they are asked. Places count schemas, then clauses, then entries, so 6 is three lines.
-- Assumes nothing.
use Rattle.std.specs.Prelude.{not, ◌&&◌, List, [], ◌∷◌, ℕ, ◌+◌, length}
use Rattle.sheet.specs.Refusals.{Outcome, Line, lowest_line, first_line}
use Rattle.rulesheet.specs.Ruleset.{next}
use Rattle.rulesheet.specs.Sheet.{schemas_word, clauses_word, entries_word, rules_of}
use Rattle.rulesheet.specs.Faults.{words_ok, text_ok, schema_fault, clause_fault, entry_fault, repeated, not_utf8}
use Rattle.unguarded.specs.Graph.{chain_steps, chain, on_loop}

abbrev pub rule_lines : List ℕ → List ℕ → List Line
rule_lines ws ts =
    let m = schemas_word ws in
    let c = clauses_word ws in
    let e = entries_word ws in
    record { number = 5; applies = not (words_ok ws && text_ok ws (length ts)); place = 0 }
    ∷ lowest_line 6 0 m (schema_fault ws)
    ∷ lowest_line 6 m c (clause_fault ws)
    ∷ lowest_line 6 (m + c) e (entry_fault ws)
    ∷ lowest_line 7 (m + c) e (repeated ws ts)
    ∷ lowest_line 13 (m + c) e (not_utf8 ws ts)
    ∷ lowest_line 8 0 m (on_loop m (next (rules_of ws ts)))
    ∷ lowest_line 9 0 m (chain (next (rules_of ws ts)) chain_steps)
    ∷ []

-- what the rule check gives
unfoldable pub rules_outcome : List ℕ → List ℕ → Outcome
rules_outcome ws ts = first_line (rule_lines ws ts) (schemas_word ws)
