-- The lexemes of a text are spelled as its bytes, and are fair.
--     text_spelled, text_fair    the theorems
-- Assumes nothing.
use mathlib.Core.List.{List, [], ◌∷◌, ◌++◌}
use mathlib.Core.Path.{◌≡◌, refl, sym, ap, ◌∙◌}
use Prim.Native.Nat.{ℕ, ◌+◌, ◌-◌, ◌<◌, max}
use native.Mathlib.Omega.{arith}
use Rattle.sheet.specs.Kinds.{number_max}
use Rattle.jsontext.specs.Text as T
use Rattle.jsontext.specs.Text.{Space, spaces, string, Value, null, truth, falsity, empty_array, array, empty_object, object, Elements, last, more, Members, last_m, more_m, value, elements, members, Text, bytes}
use Rattle.jsontext.specs.Value.{value_of, items_of, fields_of}
use Rattle.jsontext.specs.Automaton.{square, curly}
use Rattle.breadth.specs.Forest.{items, fields, tree}
use Rattle.breadth.specs.Breadth.{depth}
use Rattle.placing.specs.Lexemes.{Lexeme, comma, shuts, spelling, gaps, lexemes, element_lexemes, member_lexemes, text_lexemes}
use Rattle.placing.specs.Desk.{levels}
use Rattle.placing.specs.Fair.{Sayable, SayableItems, SayableFields, Ends, at_end, at_gap, at_comma, at_shut, Fair}

-- ---- bytes

gaps_spelled : (w : Space) (ls : List Lexeme) → spelling (gaps w ls) ≡ spaces w (spelling ls)
unfolding gaps spelling spaces
gaps_spelled [] ls = refl
gaps_spelled (b ∷ w) ls = ap (λ (x : List ℕ). T.blank b ∷ x) (gaps_spelled w ls)

mutual
  unfolding spelling lexemes element_lexemes member_lexemes value elements members

  value_spelled : (v : Value) (ls : List Lexeme) → spelling (lexemes v ls) ≡ value v (spelling ls)
  value_spelled null ls = refl
  value_spelled truth ls = refl
  value_spelled falsity ls = refl
  value_spelled (T.num n) ls = refl
  value_spelled (T.str s) ls = refl
  value_spelled (empty_array w) ls = ap (λ (x : List ℕ). 0x5B ∷ x) (gaps_spelled w (shuts square ∷ ls))
  value_spelled (array w vs) ls =
      ap (λ (x : List ℕ). 0x5B ∷ x) (gaps_spelled w (element_lexemes vs (shuts square ∷ ls)) ∙ ap (spaces w) (elements_spelled vs (shuts square ∷ ls)))
  value_spelled (empty_object w) ls = ap (λ (x : List ℕ). 0x7B ∷ x) (gaps_spelled w (shuts curly ∷ ls))
  value_spelled (object w ms) ls =
      ap (λ (x : List ℕ). 0x7B ∷ x) (gaps_spelled w (member_lexemes ms (shuts curly ∷ ls)) ∙ ap (spaces w) (members_spelled ms (shuts curly ∷ ls)))

  elements_spelled : (vs : Elements) (ls : List Lexeme) → spelling (element_lexemes vs ls) ≡ elements vs (spelling ls)
  elements_spelled (last v w) ls = value_spelled v (gaps w ls) ∙ ap (value v) (gaps_spelled w ls)
  elements_spelled (more v w w' vs) ls =
      value_spelled v (gaps w (comma ∷ gaps w' (element_lexemes vs ls)))
      ∙ ap (value v) (gaps_spelled w (comma ∷ gaps w' (element_lexemes vs ls)) ∙ ap (λ (x : List ℕ). spaces w (0x2C ∷ x)) (gaps_spelled w' (element_lexemes vs ls) ∙ ap (spaces w') (elements_spelled vs ls)))

  members_spelled : (ms : Members) (ls : List Lexeme) → spelling (member_lexemes ms ls) ≡ members ms (spelling ls)
  members_spelled (last_m s w w' v w'') ls =
      ap (λ (x : List ℕ). string s (spaces w (0x3A ∷ x))) (gaps_spelled w' (lexemes v (gaps w'' ls)) ∙ ap (spaces w') (value_spelled v (gaps w'' ls) ∙ ap (value v) (gaps_spelled w'' ls)))
  members_spelled (more_m s w w' v w'' w''' ms) ls =
      let end = gaps w'' (comma ∷ gaps w''' (member_lexemes ms ls)) in
      ap (λ (x : List ℕ). string s (spaces w (0x3A ∷ x)))
      (gaps_spelled w' (lexemes v end)
      ∙ ap (spaces w')
      (value_spelled v end
      ∙ ap (value v)
      (gaps_spelled w'' (comma ∷ gaps w''' (member_lexemes ms ls))
      ∙ ap (λ (x : List ℕ). spaces w'' (0x2C ∷ x)) (gaps_spelled w''' (member_lexemes ms ls) ∙ ap (spaces w''') (members_spelled ms ls)))))

pub text_spelled : (t : Text) → spelling (text_lexemes t) ≡ bytes t
unfolding text_lexemes bytes spelling
text_spelled t =
    gaps_spelled t.before (lexemes t.root (gaps t.behind []))
    ∙ ap (spaces t.before) (value_spelled t.root (gaps t.behind []) ∙ ap (value t.root) (gaps_spelled t.behind []))

-- ---- fairness

gaps_fair : (k : ℕ) (w : Space) (ls : List Lexeme) → Fair k ls → Fair k (gaps w ls)
unfolding gaps
gaps_fair k [] ls f = f
gaps_fair k (b ∷ w) ls f = gaps_fair k w ls f

gaps_end : (w : Space) (ls : List Lexeme) → Ends ls → Ends (gaps w ls)
unfolding gaps
gaps_end [] ls e = e
gaps_end (b ∷ w) ls e = at_gap (gaps_end w ls e)

shut_fair : (k : ℕ) (ls : List Lexeme) → Fair k ls → (0 < k + 1) × Fair (k + 1 - 1) ls
shut_fair k ls f = (omega arith, let z : k + 1 - 1 ≡ k = omega arith in rw z f)

mutual
  unfolding lexemes element_lexemes member_lexemes value_of items_of fields_of

  value_fair : (v : Value) (k : ℕ) (ls : List Lexeme) → Sayable v → k + depth (tree (value_of number_max v)) < levels → Ends ls → Fair k ls → Fair k (lexemes v ls)
  value_fair null k ls y h e f = f
  value_fair truth k ls y h e f = f
  value_fair falsity k ls y h e f = f
  value_fair (T.num n) k ls y h e f = (y, e, f)
  value_fair (T.str s) k ls y h e f = (y, e, f)
  value_fair (empty_array w) k ls y h e f = (omega arith, gaps_fair (k + 1) w (shuts square ∷ ls) (shut_fair k ls f))
  value_fair (array w vs) k ls y h e f =
      (omega arith, gaps_fair (k + 1) w (element_lexemes vs (shuts square ∷ ls)) (elements_fair vs (k + 1) (shuts square ∷ ls) y (omega arith) at_shut (shut_fair k ls f)))
  value_fair (empty_object w) k ls y h e f = (omega arith, gaps_fair (k + 1) w (shuts curly ∷ ls) (shut_fair k ls f))
  value_fair (object w ms) k ls y h e f =
      (omega arith, gaps_fair (k + 1) w (member_lexemes ms (shuts curly ∷ ls)) (members_fair ms (k + 1) (shuts curly ∷ ls) y (omega arith) at_shut (shut_fair k ls f)))

  elements_fair : (vs : Elements) (k : ℕ) (ls : List Lexeme) → SayableItems vs → k + depth (items (items_of number_max vs)) < levels → Ends ls → Fair k ls → Fair k (element_lexemes vs ls)
  elements_fair (last v w) k ls y h e f = value_fair v k (gaps w ls) y (omega arith) (gaps_end w ls e) (gaps_fair k w ls f)
  elements_fair (more v w w' vs) k ls y h e f =
      let others = comma ∷ gaps w' (element_lexemes vs ls) in
      value_fair v k (gaps w others) y.0 (omega arith) (gaps_end w others at_comma)
      (gaps_fair k w others (gaps_fair k w' (element_lexemes vs ls) (elements_fair vs k ls y.1 (omega arith) e f)))

  members_fair : (ms : Members) (k : ℕ) (ls : List Lexeme) → SayableFields ms → k + depth (fields (fields_of number_max ms)) < levels → Ends ls → Fair k ls → Fair k (member_lexemes ms ls)
  members_fair (last_m s w w' v w'') k ls y h e f =
      (y.0, gaps_fair k w' (lexemes v (gaps w'' ls)) (value_fair v k (gaps w'' ls) y.1 (omega arith) (gaps_end w'' ls e) (gaps_fair k w'' ls f)))
  members_fair (more_m s w w' v w'' w''' ms) k ls y h e f =
      let others = comma ∷ gaps w''' (member_lexemes ms ls) in (
        y.0,
        gaps_fair k w' (lexemes v (gaps w'' others))
            (value_fair v k (gaps w'' others) y.1 (omega arith) (gaps_end w'' others at_comma)
            (gaps_fair k w'' others (gaps_fair k w''' (member_lexemes ms ls) (members_fair ms k ls y.2 (omega arith) e f)))),
      )

pub text_fair : (t : Text) → Sayable t.root → depth (tree (value_of number_max t.root)) < levels → Fair 0 (text_lexemes t)
unfolding text_lexemes
text_fair t y h =
    gaps_fair 0 t.before (lexemes t.root (gaps t.behind []))
    (value_fair t.root 0 (gaps t.behind []) y (omega arith) (gaps_end t.behind [] at_end) (gaps_fair 0 t.behind [] tt))
