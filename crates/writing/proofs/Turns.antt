-- One turn of the second pass: what its answer is, by what was written.
-- Assumes nothing.
use mathlib.Core.List.{List, [], ◌∷◌}
use mathlib.Core.Logic.{◌≢◌}
use mathlib.Core.Path.{◌≡◌, refl, ◌∙◌}
use Prim.Native.Nat.{ℕ, ◌+◌, ◌-◌, ◌≤◌, ◌<◌}
use native.Mathlib.Omega.{arith}
use lib.ListN.{length, get_or, drop, set, get_or-eq_default}
use Rattle.sheet.specs.declared.kind.RowKind.{RowKind}
use Rattle.sheet.specs.Kinds.{kind_number}
use Rattle.jsontext.specs.Text.{blank}
use Rattle.strings.proofs.Steps.{head_at}
use Rattle.jsontext.specs.Automaton.{square, curly}
use Rattle.placing.specs.Lexemes.{Lexeme, gap, comma, a_null, a_true, a_false, num, str, nam, opens, shuts, spelling}
use Rattle.placing.specs.Desk.{Desk, levels, row_put, row_shut, owner_at, rowed, opened, shut, acts}
use Rattle.writing.specs.Reading.{Reading, Going, Ready, SameAreas, desk_of}
use Rattle.writing.specs.declared.Areas.{Areas}
use Rattle.writing.proofs.Cases.{first_is, nothing_left}
use Rattle.writing.proofs.Ready.{ready_level, ready_row, ready_shut}

module _ (n i k start size : ℕ) (json rows bytes words text : List ℕ) (ok : Ready n i k rows bytes words) where
  abbrev d : Desk
  d = desk_of k start size rows bytes words text

  abbrev Done : ℕ → ℕ → ℕ → ℕ → List ℕ → List ℕ → Type 0
  Done at level st sz rows' words' =
      ((s : Reading json i k) → Going n json i d s at (desk_of level st sz rows' bytes words' text)) × ((Ready n at level rows' bytes words') × (i < at))

  abbrev taken : List ℕ
  taken = set rows k (get_or rows k 0 + 1)

  abbrev put : ℕ → ℕ → ℕ → List ℕ
  put kind first count = row_put n words (get_or rows k 0) (kind ∷ first ∷ count ∷ owner_at k rows ∷ start ∷ size ∷ [])

  pub row_turn : (kind : RowKind) (first count j at level st sz : ℕ) (rows' words' : List ℕ) → rows' ≡ taken → words' ≡ put (kind_number kind) first count
      → (at ≡ j) × (level ≡ k) × (st ≡ 0) × (sz ≡ 0) → i < j → ((s : Reading json i k) → Going n json i d s j (rowed n kind first count d)) → Done at level st sz rows' words'
  unfolding rowed
  row_turn kind first count j at level st sz rows' words' e f m l g =
      let six : List ℕ = kind_number kind ∷ first ∷ count ∷ owner_at k rows ∷ start ∷ size ∷ [] in
      rw (m.0, m.1, m.2, m.3, e, f) (g, (ready_row n i k rows bytes words ok j (get_or rows k 0) six l, l))

  pub open_turn : (kind : RowKind) (at level st sz : ℕ) (rows' words' : List ℕ) → rows' ≡ taken → words' ≡ put (kind_number kind) (get_or rows (k + 1) 0) 0
      → (at ≡ i + 1) × (level ≡ k + 1) × (st ≡ 0) × (sz ≡ 0) → k + 1 < levels → ((s : Reading json i k) → Going n json i d s (i + 1) (opened n kind d)) → Done at level st sz rows' words'
  unfolding opened rowed
  open_turn kind at level st sz rows' words' e f m deep g =
      let six : List ℕ = kind_number kind ∷ get_or rows (k + 1) 0 ∷ 0 ∷ owner_at k rows ∷ start ∷ size ∷ [] in
      let l : i < i + 1 = omega arith in
      rw (m.0, m.1, m.2, m.3, e, f)
      (g, (ready_level n (i + 1) k taken bytes (put (kind_number kind) (get_or rows (k + 1) 0) 0) (ready_row n i k rows bytes words ok (i + 1) (get_or rows k 0) six l) (i + 1) (k + 1) deep (omega arith), l))

  pub shut_turn : (at level st sz : ℕ) (words' : List ℕ) → words' ≡ row_shut n words (get_or rows (k - 1) 0 - 1) (get_or rows k 0)
      → (at ≡ i + 1) × (level ≡ k - 1) × (st ≡ 0) × (sz ≡ 0) → ((s : Reading json i k) → Going n json i d s (i + 1) (shut n d)) → Done at level st sz rows words'
  unfolding shut
  shut_turn at level st sz words' f m g =
      let l : i < i + 1 = omega arith in
      rw (m.0, m.1, m.2, m.3, f)
      (g, (ready_shut n i k rows bytes words ok (i + 1) (k - 1) (get_or rows (k - 1) 0 - 1) (get_or rows k 0) (omega (arith, ok.low)) (omega arith), l))

  -- what stands there if nothing else does
  module _ (s : Reading json i k) (inside : i < length json) where
    abbrev byte : ℕ
    byte = get_or json i 0

    pub false_there : 0x39 < byte → byte ≢ 0x5B → byte ≢ 0x7B → byte ≢ 0x5D → byte ≢ 0x7D → byte ≢ 0x6E → byte ≢ 0x74 → byte ≡ 0x66
    unfolding spelling
    false_there high no_array no_object no_end no_close no_null no_true = go s.lexemes s.spelled
      where
        go : (ls : List Lexeme) → spelling ls ≡ drop i json → byte ≡ 0x66
        go [] e = nothing_left json i e inside
        go (gap b ∷ ls) e = absurd (omega (arith, high, first_is json i (gap b) (spelling ls) e))
        go (comma ∷ ls) e = absurd (omega (arith, high, first_is json i comma (spelling ls) e))
        go (a_null ∷ ls) e = absurd (no_null (first_is json i a_null (spelling ls) e))
        go (a_true ∷ ls) e = absurd (no_true (first_is json i a_true (spelling ls) e))
        go (a_false ∷ ls) e = first_is json i a_false (spelling ls) e
        go (num x ∷ ls) e = absurd (omega (arith, high, first_is json i (num x) (spelling ls) e))
        go (str x ∷ ls) e = absurd (omega (arith, high, first_is json i (str x) (spelling ls) e))
        go (nam x w ∷ ls) e = absurd (omega (arith, high, first_is json i (nam x w) (spelling ls) e))
        go (opens square ∷ ls) e = absurd (no_array (first_is json i (opens square) (spelling ls) e))
        go (opens curly ∷ ls) e = absurd (no_object (first_is json i (opens curly) (spelling ls) e))
        go (shuts square ∷ ls) e = absurd (no_end (first_is json i (shuts square) (spelling ls) e))
        go (shuts curly ∷ ls) e = absurd (no_close (first_is json i (shuts curly) (spelling ls) e))

-- ---- one turn after the other

module _ (n : ℕ) (json : List ℕ) (i : ℕ) (d : Desk) (s : Reading json i d.level) where
  pub going_none : Going n json i d s i d
  going_none = record { left = s; same = refl }

  pub going_then : (j : ℕ) (e : Desk) (g : Going n json i d s j e) (m : ℕ) (f : Desk) → Going n json j e g.left m f → Going n json i d s m f
  going_then j e g m f h = record { left = h.left; same = h.same ∙ g.same }

  -- nothing is left at the end of the text
  pub going_end : (j : ℕ) (e : Desk) → Going n json i d s j e → length json ≤ j → e ≡ acts n s.lexemes d
  unfolding acts spelling
  going_end j e g l = go g.left.lexemes g.left.spelled g.same
    where
      none : get_or json j 0 ≡ 0
      none = get_or-eq_default json 0 {n = j} l

      go : (ls : List Lexeme) → spelling ls ≡ drop j json → acts n ls e ≡ acts n s.lexemes d → e ≡ acts n s.lexemes d
      go [] f h = h
      go (gap b ∷ ls) f h = absurd (omega (arith, (head_at json j (blank b) (spelling ls) f).inside))
      go (comma ∷ ls) f h = absurd (omega (arith, none, first_is json j comma (spelling ls) f))
      go (a_null ∷ ls) f h = absurd (omega (arith, none, first_is json j a_null (spelling ls) f))
      go (a_true ∷ ls) f h = absurd (omega (arith, none, first_is json j a_true (spelling ls) f))
      go (a_false ∷ ls) f h = absurd (omega (arith, none, first_is json j a_false (spelling ls) f))
      go (num x ∷ ls) f h = absurd (omega (arith, none, first_is json j (num x) (spelling ls) f))
      go (str x ∷ ls) f h = absurd (omega (arith, none, first_is json j (str x) (spelling ls) f))
      go (nam x w ∷ ls) f h = absurd (omega (arith, none, first_is json j (nam x w) (spelling ls) f))
      go (opens square ∷ ls) f h = absurd (omega (arith, none, first_is json j (opens square) (spelling ls) f))
      go (opens curly ∷ ls) f h = absurd (omega (arith, none, first_is json j (opens curly) (spelling ls) f))
      go (shuts square ∷ ls) f h = absurd (omega (arith, none, first_is json j (shuts square) (spelling ls) f))
      go (shuts curly ∷ ls) f h = absurd (omega (arith, none, first_is json j (shuts curly) (spelling ls) f))

-- ---- the same areas all the time

pub same_none : (a : Areas) → SameAreas a a
same_none a = record { rows_same = (refl, refl); bytes_same = (refl, refl); words_same = (refl, refl); text_same = (refl, refl); many = refl }

pub same_then : {a b e : Areas} → SameAreas a b → SameAreas b e → SameAreas a e
same_then s t =
    record {
      rows_same = (t.rows_same.0 ∙ s.rows_same.0, t.rows_same.1 ∙ s.rows_same.1);
      bytes_same = (t.bytes_same.0 ∙ s.bytes_same.0, t.bytes_same.1 ∙ s.bytes_same.1);
      words_same = (t.words_same.0 ∙ s.words_same.0, t.words_same.1 ∙ s.words_same.1);
      text_same = (t.text_same.0 ∙ s.text_same.0, t.text_same.1 ∙ s.text_same.1);
      many = t.many ∙ s.many;
    }
