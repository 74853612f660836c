-- What is left behind a bracket.
-- Assumes nothing.
use mathlib.Core.List.{List, [], ◌∷◌}
use mathlib.Core.Path.{◌≡◌, refl}
use Prim.Native.Nat.{ℕ, ◌+◌, ◌<◌}
use native.Mathlib.Omega.{arith}
use lib.ListN.{length, get_or, drop}
use Rattle.sheet.specs.declared.kind.RowKind.TheVariants.{Array, Object}
use Rattle.jsontext.specs.Automaton.{square, curly}
use Rattle.placing.specs.Lexemes.{Lexeme, gap, comma, a_null, a_true, a_false, num, str, nam, opens, shuts, spelling}
use Rattle.placing.specs.Desk.{Desk, levels, rowed, opened, shut, acts}
use Rattle.placing.specs.Fair.{Fair}
use Rattle.writing.specs.Reading.{Reading, Going}
use Rattle.writing.proofs.Cases.{behind, first_is, nothing_left}

module _ (json : List ℕ) (i n : ℕ) (d : Desk) (s : Reading json i d.level) (inside : i < length json) where
  abbrev byte : ℕ
  byte = get_or json i 0

  pub array_going : byte ≡ 0x5B → Going n json i d s (i + 1) (opened n Array d)
  unfolding spelling acts opened rowed
  array_going here = go s.lexemes s.spelled s.fair
    where
      go : (ls : List Lexeme) (e : spelling ls ≡ drop i json) (f : Fair d.level ls) → Going n json i d (record { lexemes = ls; spelled = e; fair = f }) (i + 1) (opened n Array d)
      go [] e f = nothing_left json i e inside
      go (gap b ∷ ls) e f = absurd (omega (arith, first_is json i (gap b) (spelling ls) e))
      go (comma ∷ ls) e f = absurd (omega (arith, first_is json i comma (spelling ls) e))
      go (a_null ∷ ls) e f = absurd (omega (arith, first_is json i a_null (spelling ls) e))
      go (a_true ∷ ls) e f = absurd (omega (arith, first_is json i a_true (spelling ls) e))
      go (a_false ∷ ls) e f = absurd (omega (arith, first_is json i a_false (spelling ls) e))
      go (num x ∷ ls) e f = absurd (omega (arith, first_is json i (num x) (spelling ls) e))
      go (str x ∷ ls) e f = absurd (omega (arith, first_is json i (str x) (spelling ls) e))
      go (nam x w ∷ ls) e f = absurd (omega (arith, first_is json i (nam x w) (spelling ls) e))
      go (opens square ∷ ls) e f = record { left = record { lexemes = ls; spelled = behind json i (i + 1) 0x5B (spelling ls) e refl; fair = f.1 }; same = refl }
      go (opens curly ∷ ls) e f = absurd (omega (arith, first_is json i (opens curly) (spelling ls) e))
      go (shuts square ∷ ls) e f = absurd (omega (arith, first_is json i (shuts square) (spelling ls) e))
      go (shuts curly ∷ ls) e f = absurd (omega (arith, first_is json i (shuts curly) (spelling ls) e))

  pub object_going : byte ≡ 0x7B → Going n json i d s (i + 1) (opened n Object d)
  unfolding spelling acts opened rowed
  object_going here = go s.lexemes s.spelled s.fair
    where
      go : (ls : List Lexeme) (e : spelling ls ≡ drop i json) (f : Fair d.level ls) → Going n json i d (record { lexemes = ls; spelled = e; fair = f }) (i + 1) (opened n Object d)
      go [] e f = nothing_left json i e inside
      go (gap b ∷ ls) e f = absurd (omega (arith, first_is json i (gap b) (spelling ls) e))
      go (comma ∷ ls) e f = absurd (omega (arith, first_is json i comma (spelling ls) e))
      go (a_null ∷ ls) e f = absurd (omega (arith, first_is json i a_null (spelling ls) e))
      go (a_true ∷ ls) e f = absurd (omega (arith, first_is json i a_true (spelling ls) e))
      go (a_false ∷ ls) e f = absurd (omega (arith, first_is json i a_false (spelling ls) e))
      go (num x ∷ ls) e f = absurd (omega (arith, first_is json i (num x) (spelling ls) e))
      go (str x ∷ ls) e f = absurd (omega (arith, first_is json i (str x) (spelling ls) e))
      go (nam x w ∷ ls) e f = absurd (omega (arith, first_is json i (nam x w) (spelling ls) e))
      go (opens square ∷ ls) e f = absurd (omega (arith, first_is json i (opens square) (spelling ls) e))
      go (opens curly ∷ ls) e f = record { left = record { lexemes = ls; spelled = behind json i (i + 1) 0x7B (spelling ls) e refl; fair = f.1 }; same = refl }
      go (shuts square ∷ ls) e f = absurd (omega (arith, first_is json i (shuts square) (spelling ls) e))
      go (shuts curly ∷ ls) e f = absurd (omega (arith, first_is json i (shuts curly) (spelling ls) e))

  pub array_end_going : byte ≡ 0x5D → Going n json i d s (i + 1) (shut n d)
  unfolding spelling acts shut
  array_end_going here = go s.lexemes s.spelled s.fair
    where
      go : (ls : List Lexeme) (e : spelling ls ≡ drop i json) (f : Fair d.level ls) → Going n json i d (record { lexemes = ls; spelled = e; fair = f }) (i + 1) (shut n d)
      go [] e f = nothing_left json i e inside
      go (gap b ∷ ls) e f = absurd (omega (arith, first_is json i (gap b) (spelling ls) e))
      go (comma ∷ ls) e f = absurd (omega (arith, first_is json i comma (spelling ls) e))
      go (a_null ∷ ls) e f = absurd (omega (arith, first_is json i a_null (spelling ls) e))
      go (a_true ∷ ls) e f = absurd (omega (arith, first_is json i a_true (spelling ls) e))
      go (a_false ∷ ls) e f = absurd (omega (arith, first_is json i a_false (spelling ls) e))
      go (num x ∷ ls) e f = absurd (omega (arith, first_is json i (num x) (spelling ls) e))
      go (str x ∷ ls) e f = absurd (omega (arith, first_is json i (str x) (spelling ls) e))
      go (nam x w ∷ ls) e f = absurd (omega (arith, first_is json i (nam x w) (spelling ls) e))
      go (opens square ∷ ls) e f = absurd (omega (arith, first_is json i (opens square) (spelling ls) e))
      go (opens curly ∷ ls) e f = absurd (omega (arith, first_is json i (opens curly) (spelling ls) e))
      go (shuts square ∷ ls) e f = record { left = record { lexemes = ls; spelled = behind json i (i + 1) 0x5D (spelling ls) e refl; fair = f.1 }; same = refl }
      go (shuts curly ∷ ls) e f = absurd (omega (arith, first_is json i (shuts curly) (spelling ls) e))

  pub object_end_going : byte ≡ 0x7D → Going n json i d s (i + 1) (shut n d)
  unfolding spelling acts shut
  object_end_going here = go s.lexemes s.spelled s.fair
    where
      go : (ls : List Lexeme) (e : spelling ls ≡ drop i json) (f : Fair d.level ls) → Going n json i d (record { lexemes = ls; spelled = e; fair = f }) (i + 1) (shut n d)
      go [] e f = nothing_left json i e inside
      go (gap b ∷ ls) e f = absurd (omega (arith, first_is json i (gap b) (spelling ls) e))
      go (comma ∷ ls) e f = absurd (omega (arith, first_is json i comma (spelling ls) e))
      go (a_null ∷ ls) e f = absurd (omega (arith, first_is json i a_null (spelling ls) e))
      go (a_true ∷ ls) e f = absurd (omega (arith, first_is json i a_true (spelling ls) e))
      go (a_false ∷ ls) e f = absurd (omega (arith, first_is json i a_false (spelling ls) e))
      go (num x ∷ ls) e f = absurd (omega (arith, first_is json i (num x) (spelling ls) e))
      go (str x ∷ ls) e f = absurd (omega (arith, first_is json i (str x) (spelling ls) e))
      go (nam x w ∷ ls) e f = absurd (omega (arith, first_is json i (nam x w) (spelling ls) e))
      go (opens square ∷ ls) e f = absurd (omega (arith, first_is json i (opens square) (spelling ls) e))
      go (opens curly ∷ ls) e f = absurd (omega (arith, first_is json i (opens curly) (spelling ls) e))
      go (shuts square ∷ ls) e f = absurd (omega (arith, first_is json i (shuts square) (spelling ls) e))
      go (shuts curly ∷ ls) e f = record { left = record { lexemes = ls; spelled = behind json i (i + 1) 0x7D (spelling ls) e refl; fair = f.1 }; same = refl }

  pub array_room : byte ≡ 0x5B → d.level + 1 < levels
  unfolding spelling
  array_room here = go s.lexemes s.spelled s.fair
    where
      go : (ls : List Lexeme) (e : spelling ls ≡ drop i json) (f : Fair d.level ls) → d.level + 1 < levels
      go [] e f = nothing_left json i e inside
      go (gap b ∷ ls) e f = absurd (omega (arith, first_is json i (gap b) (spelling ls) e))
      go (comma ∷ ls) e f = absurd (omega (arith, first_is json i comma (spelling ls) e))
      go (a_null ∷ ls) e f = absurd (omega (arith, first_is json i a_null (spelling ls) e))
      go (a_true ∷ ls) e f = absurd (omega (arith, first_is json i a_true (spelling ls) e))
      go (a_false ∷ ls) e f = absurd (omega (arith, first_is json i a_false (spelling ls) e))
      go (num x ∷ ls) e f = absurd (omega (arith, first_is json i (num x) (spelling ls) e))
      go (str x ∷ ls) e f = absurd (omega (arith, first_is json i (str x) (spelling ls) e))
      go (nam x w ∷ ls) e f = absurd (omega (arith, first_is json i (nam x w) (spelling ls) e))
      go (opens square ∷ ls) e f = f.0
      go (opens curly ∷ ls) e f = absurd (omega (arith, first_is json i (opens curly) (spelling ls) e))
      go (shuts square ∷ ls) e f = absurd (omega (arith, first_is json i (shuts square) (spelling ls) e))
      go (shuts curly ∷ ls) e f = absurd (omega (arith, first_is json i (shuts curly) (spelling ls) e))

  pub object_room : byte ≡ 0x7B → d.level + 1 < levels
  unfolding spelling
  object_room here = go s.lexemes s.spelled s.fair
    where
      go : (ls : List Lexeme) (e : spelling ls ≡ drop i json) (f : Fair d.level ls) → d.level + 1 < levels
      go [] e f = nothing_left json i e inside
      go (gap b ∷ ls) e f = absurd (omega (arith, first_is json i (gap b) (spelling ls) e))
      go (comma ∷ ls) e f = absurd (omega (arith, first_is json i comma (spelling ls) e))
      go (a_null ∷ ls) e f = absurd (omega (arith, first_is json i a_null (spelling ls) e))
      go (a_true ∷ ls) e f = absurd (omega (arith, first_is json i a_true (spelling ls) e))
      go (a_false ∷ ls) e f = absurd (omega (arith, first_is json i a_false (spelling ls) e))
      go (num x ∷ ls) e f = absurd (omega (arith, first_is json i (num x) (spelling ls) e))
      go (str x ∷ ls) e f = absurd (omega (arith, first_is json i (str x) (spelling ls) e))
      go (nam x w ∷ ls) e f = absurd (omega (arith, first_is json i (nam x w) (spelling ls) e))
      go (opens square ∷ ls) e f = absurd (omega (arith, first_is json i (opens square) (spelling ls) e))
      go (opens curly ∷ ls) e f = f.0
      go (shuts square ∷ ls) e f = absurd (omega (arith, first_is json i (shuts square) (spelling ls) e))
      go (shuts curly ∷ ls) e f = absurd (omega (arith, first_is json i (shuts curly) (spelling ls) e))

  pub array_open : byte ≡ 0x5D → 0 < d.level
  unfolding spelling
  array_open here = go s.lexemes s.spelled s.fair
    where
      go : (ls : List Lexeme) (e : spelling ls ≡ drop i json) (f : Fair d.level ls) → 0 < d.level
      go [] e f = nothing_left json i e inside
      go (gap b ∷ ls) e f = absurd (omega (arith, first_is json i (gap b) (spelling ls) e))
      go (comma ∷ ls) e f = absurd (omega (arith, first_is json i comma (spelling ls) e))
      go (a_null ∷ ls) e f = absurd (omega (arith, first_is json i a_null (spelling ls) e))
      go (a_true ∷ ls) e f = absurd (omega (arith, first_is json i a_true (spelling ls) e))
      go (a_false ∷ ls) e f = absurd (omega (arith, first_is json i a_false (spelling ls) e))
      go (num x ∷ ls) e f = absurd (omega (arith, first_is json i (num x) (spelling ls) e))
      go (str x ∷ ls) e f = absurd (omega (arith, first_is json i (str x) (spelling ls) e))
      go (nam x w ∷ ls) e f = absurd (omega (arith, first_is json i (nam x w) (spelling ls) e))
      go (opens square ∷ ls) e f = absurd (omega (arith, first_is json i (opens square) (spelling ls) e))
      go (opens curly ∷ ls) e f = absurd (omega (arith, first_is json i (opens curly) (spelling ls) e))
      go (shuts square ∷ ls) e f = f.0
      go (shuts curly ∷ ls) e f = absurd (omega (arith, first_is json i (shuts curly) (spelling ls) e))

  pub object_open : byte ≡ 0x7D → 0 < d.level
  unfolding spelling
  object_open here = go s.lexemes s.spelled s.fair
    where
      go : (ls : List Lexeme) (e : spelling ls ≡ drop i json) (f : Fair d.level ls) → 0 < d.level
      go [] e f = nothing_left json i e inside
      go (gap b ∷ ls) e f = absurd (omega (arith, first_is json i (gap b) (spelling ls) e))
      go (comma ∷ ls) e f = absurd (omega (arith, first_is json i comma (spelling ls) e))
      go (a_null ∷ ls) e f = absurd (omega (arith, first_is json i a_null (spelling ls) e))
      go (a_true ∷ ls) e f = absurd (omega (arith, first_is json i a_true (spelling ls) e))
      go (a_false ∷ ls) e f = absurd (omega (arith, first_is json i a_false (spelling ls) e))
      go (num x ∷ ls) e f = absurd (omega (arith, first_is json i (num x) (spelling ls) e))
      go (str x ∷ ls) e f = absurd (omega (arith, first_is json i (str x) (spelling ls) e))
      go (nam x w ∷ ls) e f = absurd (omega (arith, first_is json i (nam x w) (spelling ls) e))
      go (opens square ∷ ls) e f = absurd (omega (arith, first_is json i (opens square) (spelling ls) e))
      go (opens curly ∷ ls) e f = absurd (omega (arith, first_is json i (opens curly) (spelling ls) e))
      go (shuts square ∷ ls) e f = absurd (omega (arith, first_is json i (shuts square) (spelling ls) e))
      go (shuts curly ∷ ls) e f = f.0
