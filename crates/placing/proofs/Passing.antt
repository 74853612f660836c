-- The lexemes of a value do what the pass over its starts and ends does.
--     value_went    the theorem, by the trees
-- Assumes nothing.
use mathlib.Core.Bool.{Bool, true, false}
use mathlib.Core.List.{List, [], ◌∷◌, ◌++◌, append_assoc, append-nil}
use mathlib.Core.Logic.{⊎_elim}
use mathlib.Core.Path.{◌≡◌, refl, sym, ap, ◌∙◌}
use Prim.Native.Nat.{ℕ, zero, suc, ◌+◌, ◌-◌, ◌≤◌, ◌<◌, max}
use native.Mathlib.Omega.{arith}
use borrow.Author.Tests.{eq-eqb}
use lib.ListN.{length, get_or, set}
use lib.Seq.{sets, set_out, set-set, get_or-set_same}
use Rattle.laws.proofs.Tests.{le_or_lt}
use Rattle.sheet.specs.declared.kind.RowKind.TheVariants.{String}
use Rattle.sheet.specs.Kinds.{number_max}
use Rattle.jsontext.specs.Text as T
use Rattle.jsontext.specs.Text.{Space, Value, null, truth, falsity, empty_array, array, empty_object, object, Elements, last, more, Members, last_m, more_m}
use Rattle.jsontext.specs.Datum.{Datum, Items, Fields}
use Rattle.jsontext.specs.Value.{decoded, value_of, items_of, fields_of}
use Rattle.jsontext.specs.Automaton.{Bracket, square, curly}
use Rattle.breadth.specs.Forest.{Label, bare, named, Head, a_null, a_bool, a_number, a_string, an_array, an_object, Forest, empty, node, head_of, children, items, fields, tree}
use Rattle.breadth.specs.Breadth.{depth}
use Rattle.breadth.specs.Sheet.{KindRow, label_bytes, string_bytes, head_kind, count_word, label_range}
use Rattle.breadth.specs.Meaning.{no_row}
use Rattle.breadth.specs.Counters.{one, size, bump, owner_by}
use Rattle.breadth.specs.Tokens.{Token, begins, ends, tokens, open_first, open_row, close_row, begun, run, run_text}
use Rattle.placing.specs.Lexemes.{Lexeme, comma, opens, shuts, gaps, lexemes, element_lexemes, member_lexemes}
use Rattle.placing.specs.Desk.{Desk, levels, rowed, written, kind_of_bracket, opened, shut, acts}
use Rattle.placing.proofs.Steps.{labelling, Sim, Begun, labelled, next_byte, more_written, opened_area, row_begun, row_opened, row_shut_lem}

module _ (n : ℕ) (rest : List ℕ) where
  -- these lexemes take the desk where the pass goes over a forest
  pub record Went (k : ℕ) (g : Forest) (next bytes : ℕ → ℕ) (area : List KindRow) (text : List ℕ) (before : List Lexeme → List Lexeme) (d : Desk) : Type 0 where
    pub next' : ℕ → ℕ
    pub bytes' : ℕ → ℕ
    pub area' : List KindRow
    pub text' : List ℕ
    pub desk : Desk
    pub ran : (ts : List Token) → run k next bytes (tokens g ++ ts) area ≡ run k next' bytes' ts area'
    pub wrote : (ts : List Token) → run_text k bytes (tokens g ++ ts) text ≡ run_text k bytes' ts text'
    pub acted : (ls : List Lexeme) → acts n (before ls) d ≡ acts n ls desk
    pub sim : Sim n rest desk k next' bytes' area' text'

  pub gaps_done : (w : Space) (ls : List Lexeme) (d : Desk) → acts n (gaps w ls) d ≡ acts n ls d
  unfolding gaps acts
  gaps_done [] ls d = refl
  gaps_done (b ∷ w) ls d = gaps_done w ls d

  module _ (k : ℕ) (next bytes : ℕ → ℕ) (area : List KindRow) (text : List ℕ) (l : Label) (h : Head) where
    -- the row and the counters when it is begun
    abbrev row : KindRow
    row = open_row l h (next (suc k)) (owner_by k next) (bytes k)

    abbrev next₁ : ℕ → ℕ
    next₁ = bump one next (begun k l h)

    abbrev bytes₁ : ℕ → ℕ
    bytes₁ = bump size bytes (begun k l h)

    abbrev area₁ : List KindRow
    area₁ = set area (next k) row

    abbrev text₁ : List ℕ
    text₁ = sets text (bytes k) (label_bytes l ++ string_bytes h)

    taken : next₁ k - 1 ≡ next k
    unfolding bump
    taken = rw (eq-eqb k k refl) (omega arith)

    -- a row that closing leaves as it is
    unmoved : (m : ℕ) → close_row row m ≡ row → set area₁ (next k) (close_row (get_or area₁ (next k) no_row) m) ≡ area₁
    unmoved m e =
        ⊎_elim
        (λ (o : length area ≤ next k).
        let z : area₁ ≡ area = set_out area (next k) row o in
        rw z (set_out area (next k) (close_row (get_or area (next k) no_row) m) o))
        (λ (o : next k < length area). rw (get_or-set_same area (next k) row no_row o, e) (set-set area (next k) row row))
        (le_or_lt (length area) (next k))

    -- a value that has no children
    scalar_ran : ((m : ℕ) → close_row row m ≡ row) → (ts : List Token) → run k next bytes (tokens (node l h empty empty) ++ ts) area ≡ run k next₁ bytes₁ ts area₁
    unfolding run tokens
    scalar_ran still ts = rw taken (ap (λ (x : List KindRow). run k next₁ bytes₁ ts x) (unmoved (next₁ (suc k)) (still (next₁ (suc k)))))

    scalar_wrote : (ts : List Token) → run_text k bytes (tokens (node l h empty empty) ++ ts) text ≡ run_text k bytes₁ ts text₁
    unfolding run_text tokens
    scalar_wrote ts = refl

    scalar_went : (before : List Lexeme → List Lexeme) (d e : Desk)
        → ((m : ℕ) → close_row row m ≡ row)
        → ((ls : List Lexeme) → acts n (before ls) d ≡ acts n ls e)
        → Sim n rest e k next₁ bytes₁ area₁ text₁
        → Went k (node l h empty empty) next bytes area text before d
    scalar_went before d e still acted s =
        record { next' = next₁; bytes' = bytes₁; area' = area₁; text' = text₁; desk = e; ran = scalar_ran still; wrote = scalar_wrote; acted = acted; sim = s }

    -- a container: its children stand one level lower
    module _ (b : Bracket) (c : Forest) (inner : List Lexeme → List Lexeme) (d : Desk)
        (in_c : Went (suc k) c next₁ bytes₁ area₁ text₁ inner (opened n (kind_of_bracket b) d)) (deep : suc k < levels) where
      abbrev area₂ : List KindRow
      area₂ = set in_c.area' (in_c.next' k - 1) (close_row (get_or in_c.area' (in_c.next' k - 1) no_row) (in_c.next' (suc k)))

      container_ran : (ts : List Token) → run k next bytes (tokens (node l h c empty) ++ ts) area ≡ run k in_c.next' in_c.bytes' ts area₂
      unfolding run tokens
      container_ran ts = rw (append_assoc (tokens c) (ends ∷ []) ts) (in_c.ran (ends ∷ ts))

      container_wrote : (ts : List Token) → run_text k bytes (tokens (node l h c empty) ++ ts) text ≡ run_text k in_c.bytes' ts in_c.text'
      unfolding run_text tokens
      container_wrote ts = rw (append_assoc (tokens c) (ends ∷ []) ts) (in_c.wrote (ends ∷ ts))

      container_acted : (ls : List Lexeme) → acts n (opens b ∷ inner (shuts b ∷ ls)) d ≡ acts n ls (shut n in_c.desk)
      unfolding acts
      container_acted ls = in_c.acted (shuts b ∷ ls)

      container_went : Went k (node l h c empty) next bytes area text (λ ls. opens b ∷ inner (shuts b ∷ ls)) d
      container_went =
          record {
            next' = in_c.next';
            bytes' = in_c.bytes';
            area' = area₂;
            text' = in_c.text';
            desk = shut n in_c.desk;
            ran = container_ran;
            wrote = container_wrote;
            acted = container_acted;
            sim = row_shut_lem n rest in_c.desk (suc k) in_c.next' in_c.bytes' in_c.area' in_c.text' deep k refl in_c.sim;
          }

  -- nothing in a container but white space
  nothing_went : (w : Space) (k : ℕ) (next bytes : ℕ → ℕ) (area : List KindRow) (text : List ℕ) (d : Desk) → Sim n rest d k next bytes area text
      → Went k empty next bytes area text (gaps w) d
  unfolding tokens
  nothing_went w k next bytes area text d s =
      record { next' = next; bytes' = bytes; area' = area; text' = text; desk = d; ran = λ ts. refl; wrote = λ ts. refl; acted = λ ls. gaps_done w ls d; sim = s }

  -- white space before them
  spaced_went : (w : Space) (k : ℕ) (g : Forest) (next bytes : ℕ → ℕ) (area : List KindRow) (text : List ℕ) (before : List Lexeme → List Lexeme) (d : Desk)
      → Went k g next bytes area text before d → Went k g next bytes area text (λ ls. gaps w (before ls)) d
  spaced_went w k g next bytes area text before d x =
      record {
        next' = x.next';
        bytes' = x.bytes';
        area' = x.area';
        text' = x.text';
        desk = x.desk;
        ran = x.ran;
        wrote = x.wrote;
        acted = λ (ls : List Lexeme). gaps_done w (before ls) d ∙ x.acted ls;
        sim = x.sim;
      }

  apart : (l : Label) (h : Head) (c s : Forest) (ts : List Token) → tokens (node l h c s) ++ ts ≡ tokens (node l h c empty) ++ (tokens s ++ ts)
  unfolding tokens
  apart l h c s ts =
      ap (λ (x : List Token). begins l h ∷ x)
      (append_assoc (tokens c) (ends ∷ tokens s) ts ∙ sym (append_assoc (tokens c) (ends ∷ []) (tokens s ++ ts)))

  -- a value and those after it
  then_went : (l : Label) (h : Head) (c s : Forest) (k : ℕ) (next bytes : ℕ → ℕ) (area : List KindRow) (text : List ℕ) (first others both : List Lexeme → List Lexeme) (d d₁ : Desk)
      → (v : Went k (node l h c empty) next bytes area text first d₁)
      → Went k s v.next' v.bytes' v.area' v.text' others v.desk
      → ((ls : List Lexeme) → acts n (both ls) d ≡ acts n (others ls) v.desk)
      → Went k (node l h c s) next bytes area text both d
  then_went l h c s k next bytes area text first others both d d₁ v o e =
      record {
        next' = o.next';
        bytes' = o.bytes';
        area' = o.area';
        text' = o.text';
        desk = o.desk;
        ran = λ (ts : List Token). ap (λ (x : List Token). run k next bytes x area) (apart l h c s ts) ∙ v.ran (tokens s ++ ts) ∙ o.ran ts;
        wrote = λ (ts : List Token). ap (λ (x : List Token). run_text k bytes x text) (apart l h c s ts) ∙ v.wrote (tokens s ++ ts) ∙ o.wrote ts;
        acted = λ (ls : List Lexeme). e ls ∙ o.acted ls;
        sim = o.sim;
      }

  -- what is to come before a value's row
  module _ (l : Label) (k : ℕ) (next bytes : ℕ → ℕ) (area : List KindRow) (text : List ℕ) (d : Desk) (s : Sim n rest d k next bytes area text) (low : k < levels) where
    plain_begun : Begun n rest (labelling l d) k next bytes area text (label_bytes l ++ []) (label_range l (bytes k))
    plain_begun = rw (append-nil (label_bytes l)) (labelled n rest d k next bytes area text low l s)

    string_begun : (bs : List ℕ) → Begun n rest (written bs (labelling l d)) k next bytes area text (label_bytes l ++ bs) (label_range l (bytes k))
    string_begun bs = more_written n rest (labelling l d) k next bytes area text low (label_bytes l) bs (label_range l (bytes k)) (labelled n rest d k next bytes area text low l s)

    string_at : get_or (labelling l d).bytes (labelling l d).level 0 ≡ bytes k + length (label_bytes l)
    string_at = next_byte n rest (labelling l d) k next bytes area text low (label_bytes l) (label_range l (bytes k)) (labelled n rest d k next bytes area text low l s)

    array_opened : suc k < levels → Sim n rest (opened n (kind_of_bracket square) (labelling l d)) (suc k)
        (next₁ k next bytes area text l an_array) (bytes₁ k next bytes area text l an_array) (area₁ k next bytes area text l an_array) (text₁ k next bytes area text l an_array)
    array_opened deep = row_opened n rest (labelling l d) k next bytes area text low l an_array _ refl refl refl deep plain_begun

    object_opened : suc k < levels → Sim n rest (opened n (kind_of_bracket curly) (labelling l d)) (suc k)
        (next₁ k next bytes area text l an_object) (bytes₁ k next bytes area text l an_object) (area₁ k next bytes area text l an_object) (text₁ k next bytes area text l an_object)
    object_opened deep = row_opened n rest (labelling l d) k next bytes area text low l an_object _ refl refl refl deep plain_begun

  abbrev Val : Value → Datum
  Val v = value_of number_max v

  mutual
    unfolding lexemes element_lexemes member_lexemes value_of items_of fields_of acts close_row open_row

    pub value_went : (v : Value) (l : Label) (k : ℕ) (next bytes : ℕ → ℕ) (area : List KindRow) (text : List ℕ) (d : Desk)
        → Sim n rest d k next bytes area text → k + depth (tree (Val v)) < levels
        → Went k (node l (head_of (Val v)) (children (Val v)) empty) next bytes area text (lexemes v) (labelling l d)
    value_went null l k next bytes area text d s h =
        let low : k < levels = omega arith in
        scalar_went k next bytes area text l a_null (lexemes null) (labelling l d) _ (λ m. refl) (λ ls. refl)
        (row_begun n rest (labelling l d) k next bytes area text low l a_null (plain_begun l k next bytes area text d s low))
    value_went truth l k next bytes area text d s h =
        let low : k < levels = omega arith in
        scalar_went k next bytes area text l (a_bool true) (lexemes truth) (labelling l d) _ (λ m. refl) (λ ls. refl)
        (row_begun n rest (labelling l d) k next bytes area text low l (a_bool true) (plain_begun l k next bytes area text d s low))
    value_went falsity l k next bytes area text d s h =
        let low : k < levels = omega arith in
        scalar_went k next bytes area text l (a_bool false) (lexemes falsity) (labelling l d) _ (λ m. refl) (λ ls. refl)
        (row_begun n rest (labelling l d) k next bytes area text low l (a_bool false) (plain_begun l k next bytes area text d s low))
    value_went (T.num x) l k next bytes area text d s h =
        let low : k < levels = omega arith in
        scalar_went k next bytes area text l (head_of (Val (T.num x))) (lexemes (T.num x)) (labelling l d) _ (λ m. refl) (λ ls. refl)
        (row_begun n rest (labelling l d) k next bytes area text low l (head_of (Val (T.num x))) (plain_begun l k next bytes area text d s low))
    value_went (T.str x) l k next bytes area text d s h =
        let low : k < levels = omega arith in
        scalar_went k next bytes area text l (a_string (decoded x)) (lexemes (T.str x)) (labelling l d) _ (λ m. refl)
        (λ (ls : List Lexeme). ap (λ (b : ℕ). acts n ls (rowed n String b (length (decoded x)) (written (decoded x) (labelling l d)))) (string_at l k next bytes area text d s low))
        (row_begun n rest (written (decoded x) (labelling l d)) k next bytes area text low l (a_string (decoded x)) (string_begun l k next bytes area text d s low (decoded x)))
    value_went (empty_array w) l k next bytes area text d s h =
        let low : k < levels = omega arith in
        container_went k next bytes area text l an_array square empty (gaps w) (labelling l d)
        (nothing_went w (suc k) _ _ _ _ _ (array_opened l k next bytes area text d s low (omega arith))) (omega arith)
    value_went (empty_object w) l k next bytes area text d s h =
        let low : k < levels = omega arith in
        container_went k next bytes area text l an_object curly empty (gaps w) (labelling l d)
        (nothing_went w (suc k) _ _ _ _ _ (object_opened l k next bytes area text d s low (omega arith))) (omega arith)
    value_went (array w vs) l k next bytes area text d s h =
        let low : k < levels = omega arith in
        container_went k next bytes area text l an_array square (items (items_of number_max vs)) (λ ls. gaps w (element_lexemes vs ls)) (labelling l d)
        (spaced_went w (suc k) (items (items_of number_max vs)) _ _ _ _ (element_lexemes vs) _
        (items_went vs (suc k) _ _ _ _ _ (array_opened l k next bytes area text d s low (omega arith)) (omega arith))) (omega arith)
    value_went (object w ms) l k next bytes area text d s h =
        let low : k < levels = omega arith in
        container_went k next bytes area text l an_object curly (fields (fields_of number_max ms)) (λ ls. gaps w (member_lexemes ms ls)) (labelling l d)
        (spaced_went w (suc k) (fields (fields_of number_max ms)) _ _ _ _ (member_lexemes ms) _
        (fields_went ms (suc k) _ _ _ _ _ (object_opened l k next bytes area text d s low (omega arith)) (omega arith))) (omega arith)

    items_went : (vs : Elements) (k : ℕ) (next bytes : ℕ → ℕ) (area : List KindRow) (text : List ℕ) (d : Desk)
        → Sim n rest d k next bytes area text → k + depth (items (items_of number_max vs)) < levels
        → Went k (items (items_of number_max vs)) next bytes area text (element_lexemes vs) d
    items_went (last v w) k next bytes area text d s h =
        let x = value_went v bare k next bytes area text d s (omega arith) in
        then_went bare (head_of (Val v)) (children (Val v)) empty k next bytes area text (lexemes v) (gaps w) (element_lexemes (last v w)) d d
        x
        (nothing_went w k x.next' x.bytes' x.area' x.text' x.desk x.sim)
        (λ (ls : List Lexeme). x.acted (gaps w ls))
    items_went (more v w w' vs) k next bytes area text d s h =
        let x = value_went v bare k next bytes area text d s (omega arith) in
        then_went bare (head_of (Val v)) (children (Val v)) (items (items_of number_max vs)) k next bytes area text (lexemes v) (element_lexemes vs) (element_lexemes (more v w w' vs)) d d
        x
        (items_went vs k x.next' x.bytes' x.area' x.text' x.desk x.sim (omega arith))
        (λ (ls : List Lexeme).
        x.acted (gaps w (comma ∷ gaps w' (element_lexemes vs ls))) ∙ gaps_done w (comma ∷ gaps w' (element_lexemes vs ls)) x.desk ∙ gaps_done w' (element_lexemes vs ls) x.desk)

    fields_went : (ms : Members) (k : ℕ) (next bytes : ℕ → ℕ) (area : List KindRow) (text : List ℕ) (d : Desk)
        → Sim n rest d k next bytes area text → k + depth (fields (fields_of number_max ms)) < levels
        → Went k (fields (fields_of number_max ms)) next bytes area text (member_lexemes ms) d
    fields_went (last_m z w w' v w'') k next bytes area text d s h =
        let l = named (decoded z) in
        let x = value_went v l k next bytes area text d s (omega arith) in
        then_went l (head_of (Val v)) (children (Val v)) empty k next bytes area text (lexemes v) (gaps w'') (member_lexemes (last_m z w w' v w'')) d (labelling l d)
        x
        (nothing_went w'' k x.next' x.bytes' x.area' x.text' x.desk x.sim)
        (λ (ls : List Lexeme). gaps_done w' (lexemes v (gaps w'' ls)) (labelling l d) ∙ x.acted (gaps w'' ls))
    fields_went (more_m z w w' v w'' w''' ms) k next bytes area text d s h =
        let l = named (decoded z) in
        let x = value_went v l k next bytes area text d s (omega arith) in
        then_went l (head_of (Val v)) (children (Val v)) (fields (fields_of number_max ms)) k next bytes area text (lexemes v) (member_lexemes ms) (member_lexemes (more_m z w w' v w'' w''' ms)) d (labelling l d)
        x
        (fields_went ms k x.next' x.bytes' x.area' x.text' x.desk x.sim (omega arith))
        (λ (ls : List Lexeme).
        let end = gaps w'' (comma ∷ gaps w''' (member_lexemes ms ls)) in
        gaps_done w' (lexemes v end) (labelling l d) ∙ x.acted end ∙ gaps_done w'' (comma ∷ gaps w''' (member_lexemes ms ls)) x.desk ∙ gaps_done w''' (member_lexemes ms ls) x.desk)
