-- A string, a name and a number at a place of the text, once they are read.
-- Assumes nothing.
use mathlib.Core.List.{List, [], ◌∷◌}
use mathlib.Core.Logic.{◌≢◌}
use mathlib.Core.Path.{◌≡◌, refl, ap, ◌∙◌}
use Prim.Native.Nat.{ℕ, ◌+◌, ◌-◌, ◌≤◌, ◌<◌}
use native.Mathlib.Omega.{arith}
use lib.ListN.{length, get_or, drop, set}
use lib.Seq.{sets}
use Rattle.text.specs.declared.Range.{Range}
use Rattle.sheet.specs.declared.kind.RowKind.TheVariants.{Number, String}
use Rattle.jsontext.specs.Text.{Blank, space, tab, feed, return, blank, Str, pieces, string, spaces}
use Rattle.jsontext.specs.Value.{decoded}
use Rattle.jsontext.specs.Automaton.{square, curly}
use Rattle.jsontext.proofs.Decoding.{NoneLone}
use Rattle.strings.specs.Atoms.{Inside, Copied, read}
use Rattle.strings.proofs.Atoms.{atoms, atoms_spelled, atoms_read, atoms_paired}
use Rattle.strings.proofs.Steps.{head_at}
use Rattle.figures.specs.Figures.{Stops, head_of, NumberAt, NumberRead}
use Rattle.placing.specs.Lexemes.{Lexeme, gap, comma, a_null, a_true, a_false, num, str, nam, opens, shuts, spelling}
use Rattle.placing.specs.Desk.{Desk, rowed, written, named, acts}
use Rattle.placing.specs.Fair.{Ends, at_end, at_gap, at_comma, at_shut, Fair}
use Rattle.writing.specs.Reading.{blanks_of, Reading, Going}
use Rattle.writing.proofs.Spaces.{to_colon, no_colon}
use Rattle.writing.proofs.Cases.{first_is, nothing_left}

-- ---- where a number stops

stops_zero : Stops 0
stops_zero = record { no_digit = refl; no_point = λ z. omega arith; no_capital = λ z. omega arith; no_small = λ z. omega arith }

blank_stops : (b : Blank) → Stops (blank b)
blank_stops space = record { no_digit = refl; no_point = λ z. omega arith; no_capital = λ z. omega arith; no_small = λ z. omega arith }
blank_stops tab = record { no_digit = refl; no_point = λ z. omega arith; no_capital = λ z. omega arith; no_small = λ z. omega arith }
blank_stops feed = record { no_digit = refl; no_point = λ z. omega arith; no_capital = λ z. omega arith; no_small = λ z. omega arith }
blank_stops return = record { no_digit = refl; no_point = λ z. omega arith; no_capital = λ z. omega arith; no_small = λ z. omega arith }

ends_stop : (ls : List Lexeme) → Ends ls → Stops (head_of (spelling ls))
unfolding spelling
ends_stop [] at_end = stops_zero
ends_stop (gap b ∷ ls) (at_gap e) = blank_stops b
ends_stop (comma ∷ ls) at_comma = record { no_digit = refl; no_point = λ z. omega arith; no_capital = λ z. omega arith; no_small = λ z. omega arith }
ends_stop (shuts square ∷ ls) at_shut = record { no_digit = refl; no_point = λ z. omega arith; no_capital = λ z. omega arith; no_small = λ z. omega arith }
ends_stop (shuts curly ∷ ls) at_shut = record { no_digit = refl; no_point = λ z. omega arith; no_capital = λ z. omega arith; no_small = λ z. omega arith }
ends_stop (a_null ∷ ls) x3 = elim x3 [ ]
ends_stop (a_true ∷ ls) x4 = elim x4 [ ]
ends_stop (a_false ∷ ls) x5 = elim x5 [ ]
ends_stop (num _ ∷ ls) x7 = elim x7 [ ]
ends_stop (str _ ∷ ls) x8 = elim x8 [ ]
ends_stop (nam _ _ ∷ ls) x10 = elim x10 [ ]
ends_stop (opens _ ∷ ls) x10 = elim x10 [ ]

-- ---- the inside of a string

module _ (json : List ℕ) (i : ℕ) where
  inside_of : (x : Str) (rest : List ℕ) → NoneLone 0 x → string x rest ≡ drop i json → Inside json (i + 1) 0
  inside_of x rest n e =
      record {
        atoms = atoms x;
        behind = rest;
        spelled_so = atoms_spelled x (0x22 ∷ rest) ∙ (head_at json i 0x22 (pieces x (0x22 ∷ rest)) e).others;
        paired = atoms_paired 0 x (λ z. absurd (omega arith)) n;
        low = omega arith;
      }

module _ (n : ℕ) (json : List ℕ) (i : ℕ) (d : Desk) (s : Reading json i d.level) (inside : i < length json) where
  abbrev byte : ℕ
  byte = get_or json i 0

  abbrev b₀ : ℕ
  b₀ = get_or d.bytes d.level 0

  pub string_at : byte ≡ 0x22 → Inside json (i + 1) 0
  unfolding spelling
  string_at here = go s.lexemes s.spelled s.fair
    where
      go : (ls : List Lexeme) → spelling ls ≡ drop i json → Fair d.level ls → Inside json (i + 1) 0
      go [] e f = nothing_left json i e inside
      go (gap b ∷ ls) e f = absurd (omega (arith, first_is json i (gap b) (spelling ls) e))
      go (comma ∷ ls) e f = absurd (omega (arith, first_is json i comma (spelling ls) e))
      go (a_null ∷ ls) e f = absurd (omega (arith, first_is json i a_null (spelling ls) e))
      go (a_true ∷ ls) e f = absurd (omega (arith, first_is json i a_true (spelling ls) e))
      go (a_false ∷ ls) e f = absurd (omega (arith, first_is json i a_false (spelling ls) e))
      go (num x ∷ ls) e f = absurd (omega (arith, first_is json i (num x) (spelling ls) e))
      go (str x ∷ ls) e f = inside_of json i x (spelling ls) f.0 e
      go (nam x w ∷ ls) e f = inside_of json i x (spaces w (0x3A ∷ spelling ls)) f.0 e
      go (opens square ∷ ls) e f = absurd (omega (arith, first_is json i (opens square) (spelling ls) e))
      go (opens curly ∷ ls) e f = absurd (omega (arith, first_is json i (opens curly) (spelling ls) e))
      go (shuts square ∷ ls) e f = absurd (omega (arith, first_is json i (shuts square) (spelling ls) e))
      go (shuts curly ∷ ls) e f = absurd (omega (arith, first_is json i (shuts curly) (spelling ls) e))

  module _ (here : byte ≡ 0x22) (to at : ℕ) (room : List ℕ) (copy : (q : Inside json (i + 1) 0) → Copied json (i + 1) b₀ d.text q to at room) where
    -- its bytes are written
    record Wrote (x : Str) (rest : List ℕ) : Type 0 where
      end : rest ≡ drop to json
      room_is : room ≡ sets d.text b₀ (decoded x)
      size_is : at - b₀ ≡ length (decoded x)

    wrote : (x : Str) (rest : List ℕ) → NoneLone 0 x → string x rest ≡ drop i json → Wrote x rest
    unfolding inside_of
    wrote x rest none e =
        let c = copy (inside_of json i x rest none e) in
        let r : read 0 (atoms x) ≡ decoded x = atoms_read 0 x none in
        record {
          end = c.end;
          room_is = c.text_is ∙ ap (sets d.text b₀) r;
          size_is = omega (arith, c.size_is, ap length r);
        }

    abbrev colon : ℕ
    colon = to + blanks_of (drop to json)

    -- the desk after them, with this label
    abbrev after : Range → Desk
    after l = record { level = d.level; rows = d.rows; bytes = set d.bytes d.level (b₀ + (at - b₀)); label = l; words = d.words; text = room }

    pub name_going : get_or json colon 0 ≡ 0x3A → Going n json i d s (colon + 1) (after (record { start = b₀; length = at - b₀ }))
    unfolding spelling acts named written
    name_going c = go s.lexemes s.spelled s.fair
      where
        go : (ls : List Lexeme) (e : spelling ls ≡ drop i json) (f : Fair d.level ls)
            → Going n json i d (record { lexemes = ls; spelled = e; fair = f }) (colon + 1) (after (record { start = b₀; length = at - b₀ }))
        go [] e f = nothing_left json i e inside
        go (gap b ∷ ls) e f = absurd (omega (arith, first_is json i (gap b) (spelling ls) e))
        go (comma ∷ ls) e f = absurd (omega (arith, first_is json i comma (spelling ls) e))
        go (a_null ∷ ls) e f = absurd (omega (arith, first_is json i a_null (spelling ls) e))
        go (a_true ∷ ls) e f = absurd (omega (arith, first_is json i a_true (spelling ls) e))
        go (a_false ∷ ls) e f = absurd (omega (arith, first_is json i a_false (spelling ls) e))
        go (num x ∷ ls) e f = absurd (omega (arith, first_is json i (num x) (spelling ls) e))
        go (str x ∷ ls) e f = let w = wrote x (spelling ls) f.0 e in absurd (no_colon json to ls f.1 w.end c)
        go (nam x w ∷ ls) e f =
            let v = wrote x (spaces w (0x3A ∷ spelling ls)) f.0 e in
            record {
              left = record { lexemes = ls; spelled = (head_at json colon 0x3A (spelling ls) (to_colon json to w (spelling ls) v.end)).others; fair = f.1 };
              same = rw (v.size_is, v.room_is);
            }
        go (opens square ∷ ls) e f = absurd (omega (arith, first_is json i (opens square) (spelling ls) e))
        go (opens curly ∷ ls) e f = absurd (omega (arith, first_is json i (opens curly) (spelling ls) e))
        go (shuts square ∷ ls) e f = absurd (omega (arith, first_is json i (shuts square) (spelling ls) e))
        go (shuts curly ∷ ls) e f = absurd (omega (arith, first_is json i (shuts curly) (spelling ls) e))

    pub string_going : get_or json colon 0 ≢ 0x3A → Going n json i d s to (rowed n String b₀ (at - b₀) (after d.label))
    unfolding spelling acts rowed written
    string_going c = go s.lexemes s.spelled s.fair
      where
        go : (ls : List Lexeme) (e : spelling ls ≡ drop i json) (f : Fair d.level ls)
            → Going n json i d (record { lexemes = ls; spelled = e; fair = f }) to (rowed n String b₀ (at - b₀) (after d.label))
        go [] e f = nothing_left json i e inside
        go (gap b ∷ ls) e f = absurd (omega (arith, first_is json i (gap b) (spelling ls) e))
        go (comma ∷ ls) e f = absurd (omega (arith, first_is json i comma (spelling ls) e))
        go (a_null ∷ ls) e f = absurd (omega (arith, first_is json i a_null (spelling ls) e))
        go (a_true ∷ ls) e f = absurd (omega (arith, first_is json i a_true (spelling ls) e))
        go (a_false ∷ ls) e f = absurd (omega (arith, first_is json i a_false (spelling ls) e))
        go (num x ∷ ls) e f = absurd (omega (arith, first_is json i (num x) (spelling ls) e))
        go (str x ∷ ls) e f =
            let v = wrote x (spelling ls) f.0 e in
            record {
              left = record { lexemes = ls; spelled = v.end; fair = f.2 };
              same = rw (v.size_is, v.room_is);
            }
        go (nam x w ∷ ls) e f =
            let v = wrote x (spaces w (0x3A ∷ spelling ls)) f.0 e in
            absurd (c (head_at json colon 0x3A (spelling ls) (to_colon json to w (spelling ls) v.end)).byte)
        go (opens square ∷ ls) e f = absurd (omega (arith, first_is json i (opens square) (spelling ls) e))
        go (opens curly ∷ ls) e f = absurd (omega (arith, first_is json i (opens curly) (spelling ls) e))
        go (shuts square ∷ ls) e f = absurd (omega (arith, first_is json i (shuts square) (spelling ls) e))
        go (shuts curly ∷ ls) e f = absurd (omega (arith, first_is json i (shuts curly) (spelling ls) e))

  module _ (high : 0x2C < byte) (low : byte ≤ 0x39) (to word scale : ℕ) (figure : (q : NumberAt json i) → NumberRead json i q to word scale) where
    pub number_forward : i < to
    unfolding spelling
    number_forward = go s.lexemes s.spelled s.fair
      where
        go : (ls : List Lexeme) → spelling ls ≡ drop i json → Fair d.level ls → i < to
        go [] e f = nothing_left json i e inside
        go (gap b ∷ ls) e f = absurd (omega (arith, first_is json i (gap b) (spelling ls) e))
        go (comma ∷ ls) e f = absurd (omega (arith, first_is json i comma (spelling ls) e))
        go (a_null ∷ ls) e f = absurd (omega (arith, first_is json i a_null (spelling ls) e))
        go (a_true ∷ ls) e f = absurd (omega (arith, first_is json i a_true (spelling ls) e))
        go (a_false ∷ ls) e f = absurd (omega (arith, first_is json i a_false (spelling ls) e))
        go (num x ∷ ls) e f = (figure (record { figure = x; behind = spelling ls; spelled = e; stop = ends_stop ls f.1; narrow = f.0 })).forward
        go (str x ∷ ls) e f = absurd (omega (arith, first_is json i (str x) (spelling ls) e))
        go (nam x w ∷ ls) e f = absurd (omega (arith, first_is json i (nam x w) (spelling ls) e))
        go (opens square ∷ ls) e f = absurd (omega (arith, first_is json i (opens square) (spelling ls) e))
        go (opens curly ∷ ls) e f = absurd (omega (arith, first_is json i (opens curly) (spelling ls) e))
        go (shuts square ∷ ls) e f = absurd (omega (arith, first_is json i (shuts square) (spelling ls) e))
        go (shuts curly ∷ ls) e f = absurd (omega (arith, first_is json i (shuts curly) (spelling ls) e))

    pub number_going : Going n json i d s to (rowed n Number word scale d)
    unfolding spelling acts rowed
    number_going = go s.lexemes s.spelled s.fair
      where
        go : (ls : List Lexeme) (e : spelling ls ≡ drop i json) (f : Fair d.level ls)
            → Going n json i d (record { lexemes = ls; spelled = e; fair = f }) to (rowed n Number word scale d)
        go [] e f = nothing_left json i e inside
        go (gap b ∷ ls) e f = absurd (omega (arith, first_is json i (gap b) (spelling ls) e))
        go (comma ∷ ls) e f = absurd (omega (arith, first_is json i comma (spelling ls) e))
        go (a_null ∷ ls) e f = absurd (omega (arith, first_is json i a_null (spelling ls) e))
        go (a_true ∷ ls) e f = absurd (omega (arith, first_is json i a_true (spelling ls) e))
        go (a_false ∷ ls) e f = absurd (omega (arith, first_is json i a_false (spelling ls) e))
        go (num x ∷ ls) e f =
            let r = figure (record { figure = x; behind = spelling ls; spelled = e; stop = ends_stop ls f.1; narrow = f.0 }) in
            record { left = record { lexemes = ls; spelled = r.end; fair = f.2 }; same = rw (r.word_is, r.scale_is) }
        go (str x ∷ ls) e f = absurd (omega (arith, first_is json i (str x) (spelling ls) e))
        go (nam x w ∷ ls) e f = absurd (omega (arith, first_is json i (nam x w) (spelling ls) e))
        go (opens square ∷ ls) e f = absurd (omega (arith, first_is json i (opens square) (spelling ls) e))
        go (opens curly ∷ ls) e f = absurd (omega (arith, first_is json i (opens curly) (spelling ls) e))
        go (shuts square ∷ ls) e f = absurd (omega (arith, first_is json i (shuts square) (spelling ls) e))
        go (shuts curly ∷ ls) e f = absurd (omega (arith, first_is json i (shuts curly) (spelling ls) e))
