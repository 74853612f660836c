-- A string of a text is its atoms: they are spelled as it is, and read as it is decoded.
--     atoms_spelled, atoms_read, atoms_paired    the theorems
-- Assumes nothing.
use mathlib.Core.Bool.{Bool, true, false, cond, ◌&&◌, not, ◌||◌}
use mathlib.Core.List.{List, [], ◌∷◌}
use mathlib.Core.Logic.{⊎_elim}
use mathlib.Core.Path.{◌≡◌, refl, sym, ap, ◌∙◌}
use Prim.Native.Nat.{ℕ, ◌+◌, ◌/◌, ◌%◌, ◌≤◌, ◌<◌}
use native.Mathlib.Omega.{arith}
use borrow.Author.Tests.{leb-true}
use lib.Dec.{eqb, leb}
use Rattle.laws.proofs.Tests.{le_or_lt, left, right}
use Rattle.jsontext.specs.Utf8.{encode}
use Rattle.jsontext.specs.Text.{Plain, Short, quote, backslash, slash, backspace, form_feed, line_feed, carriage_return, tabulator, short, plain, escape, unit, Str, pieces}
use Rattle.jsontext.specs.Value.{short_code, unit_code, is_high, is_low, low_next, is_lone, joined, decoded_after}
use Rattle.jsontext.proofs.Strings.{encode_1, encode_2, encode_3, encode_4}
use Rattle.jsontext.proofs.Decoding.{NoneLone}
use Rattle.strings.specs.Atoms.{Atom, raw, esc, uni, spelled, read, Paired, waits}

-- a byte of 80 and more stands as it is
abbrev high : (b : ℕ) → 0x80 ≤ b → Atom
high b h = raw b (λ (e : b ≡ 0x22). omega arith) (λ (e : b ≡ 0x5C). omega arith)

-- a character, before other atoms: what it is spelled as, and read as
record Character (c : ℕ) : Type 0 where
  with : List Atom → List Atom
  spelled_so : (ls : List Atom) (rest : List ℕ) → spelled (with ls) rest ≡ encode c (spelled ls rest)
  read_so : (w : ℕ) (ls : List Atom) → read w (with ls) ≡ encode c (read 0 ls)
  paired_so : (w : ℕ) (ls : List Atom) → Paired 0 ls → Paired w (with ls)

character : (c : ℕ) → Plain c → Character c
unfolding spelled read
character c p =
    ⊎_elim
    (λ (l : 0x80 ≤ c).
    ⊎_elim
    (λ (m : 0x800 ≤ c).
    ⊎_elim
    (λ (n : 0x10000 ≤ c).
    record {
      with = λ ls. high (0xF0 + c / 0x40000) (omega arith) ∷ high (0x80 + c / 0x1000 % 0x40) (omega arith) ∷ high (0x80 + c / 0x40 % 0x40) (omega arith) ∷ high (0x80 + c % 0x40) (omega arith) ∷ ls;
      spelled_so = λ ls rest. sym (encode_4 c (spelled ls rest) n);
      read_so = λ w ls. sym (encode_4 c (read 0 ls) n);
      paired_so = λ w ls h. h;
    })
    (λ (n : c < 0x10000).
    record {
      with = λ ls. high (0xE0 + c / 0x1000) (omega arith) ∷ high (0x80 + c / 0x40 % 0x40) (omega arith) ∷ high (0x80 + c % 0x40) (omega arith) ∷ ls;
      spelled_so = λ ls rest. sym (encode_3 c (spelled ls rest) m n);
      read_so = λ w ls. sym (encode_3 c (read 0 ls) m n);
      paired_so = λ w ls h. h;
    })
    (le_or_lt 0x10000 c))
    (λ (m : c < 0x800).
    record {
      with = λ ls. high (0xC0 + c / 0x40) (omega arith) ∷ high (0x80 + c % 0x40) (omega arith) ∷ ls;
      spelled_so = λ ls rest. sym (encode_2 c (spelled ls rest) l m);
      read_so = λ w ls. sym (encode_2 c (read 0 ls) l m);
      paired_so = λ w ls h. h;
    })
    (le_or_lt 0x800 c))
    (λ (l : c < 0x80).
    record {
      with = λ ls. raw c p.no_quote p.no_backslash ∷ ls;
      spelled_so = λ ls rest. sym (encode_1 c (spelled ls rest) l);
      read_so = λ w ls. sym (encode_1 c (read 0 ls) l);
      paired_so = λ w ls h. h;
    })
    (le_or_lt 0x80 c)

pub atoms : Str → List Atom
atoms [] = []
atoms (plain c p ∷ ps) = (character c p).with (atoms ps)
atoms (escape m ∷ ps) = esc m ∷ atoms ps
atoms (unit h i j k ∷ ps) = uni h i j k ∷ atoms ps

pub atoms_spelled : (s : Str) (rest : List ℕ) → spelled (atoms s) rest ≡ pieces s rest
unfolding atoms spelled pieces
atoms_spelled [] rest = refl
atoms_spelled (plain c p ∷ ps) rest = (character c p).spelled_so (atoms ps) rest ∙ ap (encode c) (atoms_spelled ps rest)
atoms_spelled (escape m ∷ ps) rest = ap (λ (x : List ℕ). 0x5C ∷ short m ∷ x) (atoms_spelled ps rest)
atoms_spelled (unit h i j k ∷ ps) rest = ap (λ (x : List ℕ). spelled (uni h i j k ∷ []) x) (atoms_spelled ps rest)

-- ---- escapes, of which none is lone

-- the tests of an escape, where the next may be a low surrogate
alone : (h l n z : Bool) → ((h && not n) || (l && z)) ≡ false → (h && n) ≡ h
alone false l n z e = refl
alone true l true z e = refl
alone true l false z e = let x : true ≡ false = e in absurd (let y : ◌≡◌ {A = ℕ} 0 1 = cc in omega arith)

module _ (w : ℕ) (c : ℕ) (ps : Str) (e : is_lone w c ps ≡ false) where
  high_is : (is_high c && low_next ps) ≡ is_high c
  high_is = alone (is_high c) (is_low c) (low_next ps) (eqb w 0) e

pub atoms_read : (w : ℕ) (s : Str) → NoneLone w s → read w (atoms s) ≡ decoded_after w s
unfolding atoms read decoded_after
atoms_read w [] n = refl
atoms_read w (plain c p ∷ ps) n = (character c p).read_so w (atoms ps) ∙ ap (encode c) (atoms_read 0 ps n)
atoms_read w (escape m ∷ ps) n = short_read m (read 0 (atoms ps)) ∙ ap (encode (short_code m)) (atoms_read 0 ps n)
  where
    short_read : (m : Short) (rest : List ℕ) → short_code m ∷ rest ≡ encode (short_code m) rest
    short_read m rest = sym (encode_1 (short_code m) rest (small m))
      where
        small : (m : Short) → short_code m < 0x80
        small quote = omega arith
        small backslash = omega arith
        small slash = omega arith
        small backspace = omega arith
        small form_feed = omega arith
        small line_feed = omega arith
        small carriage_return = omega arith
        small tabulator = omega arith
atoms_read w (unit h i j k ∷ ps) n = rw (high_is w c ps n.0) (go (is_high c) refl (λ v m. atoms_read v ps m))
  where
    c : ℕ
    c = unit_code h i j k

    go : (b : Bool) → is_high c ≡ b
        → ((v : ℕ) → NoneLone v ps → read v (atoms ps) ≡ decoded_after v ps)
        → cond b (read c (atoms ps)) (encode (joined w c) (read 0 (atoms ps))) ≡ cond b (decoded_after c ps) (encode (joined w c) (decoded_after 0 ps))
    go true e rec = rec c (rw (high_is w c ps n.0, e) at n.1)
    go false e rec = ap (encode (joined w c)) (rec 0 (rw (high_is w c ps n.0, e) at n.1))

-- a high surrogate waits only before a low one
abbrev Before : ℕ → Str → Type 0
Before w s = 0 < w → (0xD800 ≤ w) × (low_next s ≡ true)

pub atoms_paired : (w : ℕ) (s : Str) → Before w s → NoneLone w s → Paired w (atoms s)
unfolding atoms
atoms_paired w [] b n = tt
atoms_paired w (plain c p ∷ ps) b n = (character c p).paired_so w (atoms ps) (atoms_paired 0 ps (λ z. absurd (omega arith)) n)
atoms_paired w (escape m ∷ ps) b n = atoms_paired 0 ps (λ z. absurd (omega arith)) n
atoms_paired w (unit h i j k ∷ ps) b n = (finds, atoms_paired (waits c) ps before (rw (high_is w c ps n.0) at n.1))
  where
    c : ℕ
    c = unit_code h i j k

    finds : 0 < w → (0xD800 ≤ w) × (0xDC00 ≤ c)
    finds z = let x = b z in (x.0, leb-true 0xDC00 c (left (leb 0xDC00 c) (leb c 0xDFFF) x.1))

    before : 0 < waits c → (0xD800 ≤ waits c) × (low_next ps ≡ true)
    before = go (is_high c) refl
      where
        go : (t : Bool) → is_high c ≡ t → 0 < cond t c 0 → (0xD800 ≤ cond t c 0) × (low_next ps ≡ true)
        go false e z = absurd (omega arith)
        go true e z =
            (leb-true 0xD800 c (left (leb 0xD800 c) (leb c 0xDBFF) e), right (is_high c) (low_next ps) (high_is w c ps n.0 ∙ e))
