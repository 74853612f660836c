-- A string read on, atom by atom.
--     at_quote       a quote ends it
--     raw-read, short-read, high-read, code-read    an atom of each kind
--     still, then    reading on is composed
-- Assumes nothing.
use mathlib.Core.List.{List, [], ◌∷◌, ◌++◌}
use mathlib.Core.Logic.{◌≢◌, ⊎_elim}
use mathlib.Core.Path.{◌≡◌, refl, sym, ap, ◌∙◌}
use Prim.Native.Nat.{ℕ, zero, suc, ◌+◌, ◌≤◌, ◌<◌}
use native.Mathlib.Numerals.{add-one}
use native.Mathlib.Omega.{arith}
use lib.ListN.{length, get_or, drop, set}
use lib.Seq.{sets}
use Rattle.laws.proofs.Tests.{le_or_lt}
use Rattle.jsontext.specs.Utf8.{encode}
use Rattle.jsontext.specs.Text.{Short, quote, backslash, slash, backspace, form_feed, line_feed, carriage_return, tabulator, short, hex}
use Rattle.jsontext.specs.Value.{short_code}
use Rattle.jsontext.proofs.Strings.{encode_1, encode_2, encode_3, encode_4}
use Rattle.putting.specs.Letters.{short_at}
use Rattle.strings.specs.Atoms.{Atom, raw, esc, uni, spelled, read, Paired, Inside, Onward, Copied}

-- ---- lists

-- a list in two parts
pub sets_append : (l a b : List ℕ) (i : ℕ) → sets l i (a ++ b) ≡ sets (sets l i a) (i + length a) b
sets_append l [] b i = ap (λ (j : ℕ). sets l j b) (omega arith)
sets_append l (x ∷ a) b i = sets_append (set l i x) a b (suc i) ∙ ap (λ (j : ℕ). sets (sets (set l i x) (suc i) a) j b) (omega arith)

-- the first byte from place i on
pub record Head (json : List ℕ) (i b : ℕ) (l : List ℕ) : Type 0 where
  pub inside : i < length json
  pub byte : get_or json i 0 ≡ b
  pub others : l ≡ drop (i + 1) json

heads : (json : List ℕ) (i b : ℕ) (l : List ℕ) → b ∷ l ≡ drop i json → (i < length json) × (get_or json i 0 ≡ b) × (l ≡ drop (suc i) json)
heads [] zero b l e = absurd (let z : ◌≡◌ {A = ℕ} 0 1 = cc in omega arith)
heads [] (suc i) b l e = absurd (let z : ◌≡◌ {A = ℕ} 0 1 = cc in omega arith)
heads (x ∷ xs) zero b l e = (omega arith, cc, cc)
heads (x ∷ xs) (suc i) b l e = let r = heads xs i b l e in (omega (arith, r.0), r.1, r.2)

pub head_at : (json : List ℕ) (i b : ℕ) (l : List ℕ) → b ∷ l ≡ drop i json → Head json i b l
head_at json i b l e = let r = heads json i b l e in record { inside = r.0; byte = r.1; others = r.2 ∙ ap (λ (j : ℕ). drop j json) (sym (add-one i)) }

-- a byte that is two at once
pub not_both : {A : Type 0} (x a b : ℕ) → x ≡ a → x ≡ b → (a ≡ b → ⊥) → A
not_both x a b p q n = absurd (n (sym p ∙ q))

-- ---- encodings

pub encode_append : (c : ℕ) (bs : List ℕ) → encode c bs ≡ encode c [] ++ bs
encode_append c bs =
    ⊎_elim
    (λ (l : 0x80 ≤ c).
    ⊎_elim
    (λ (m : 0x800 ≤ c).
    ⊎_elim
    (λ (n : 0x10000 ≤ c). encode_4 c bs n ∙ sym (ap (λ (x : List ℕ). x ++ bs) (encode_4 c [] n)))
    (λ (n : c < 0x10000). encode_3 c bs m n ∙ sym (ap (λ (x : List ℕ). x ++ bs) (encode_3 c [] m n)))
    (le_or_lt 0x10000 c))
    (λ (m : c < 0x800). encode_2 c bs l m ∙ sym (ap (λ (x : List ℕ). x ++ bs) (encode_2 c [] l m)))
    (le_or_lt 0x800 c))
    (λ (l : c < 0x80). encode_1 c bs l ∙ sym (ap (λ (x : List ℕ). x ++ bs) (encode_1 c [] l)))
    (le_or_lt 0x80 c)

-- ---- atoms

pub short_at_lem : (m : Short) → (short m ≢ 0x75) × (short_at (short m) ≡ short_code m)
unfolding short_at
short_at_lem quote = ((λ z. omega arith), refl)
short_at_lem backslash = ((λ z. omega arith), refl)
short_at_lem slash = ((λ z. omega arith), refl)
short_at_lem backspace = ((λ z. omega arith), refl)
short_at_lem form_feed = ((λ z. omega arith), refl)
short_at_lem line_feed = ((λ z. omega arith), refl)
short_at_lem carriage_return = ((λ z. omega arith), refl)
short_at_lem tabulator = ((λ z. omega arith), refl)

module _ (json : List ℕ) (i w : ℕ) (s : Inside json i w) where
  -- a string goes on at least to its quote
  pub in_text : i < length json
  unfolding spelled
  in_text = go s.atoms s.spelled_so
    where
      go : (ls : List Atom) → spelled ls (0x22 ∷ s.behind) ≡ drop i json → i < length json
      go [] e = (head_at json i 0x22 s.behind e).inside
      go (raw b p q ∷ ls) e = (head_at json i b (spelled ls (0x22 ∷ s.behind)) e).inside
      go (esc m ∷ ls) e = (head_at json i 0x5C (short m ∷ spelled ls (0x22 ∷ s.behind)) e).inside
      go (uni a b c d ∷ ls) e = (head_at json i 0x5C (0x75 ∷ hex a ∷ hex b ∷ hex c ∷ hex d ∷ spelled ls (0x22 ∷ s.behind)) e).inside

  pub at_quote : get_or json i 0 ≡ 0x22 → (read w s.atoms ≡ []) × (s.behind ≡ drop (i + 1) json)
  unfolding spelled read
  at_quote q = go s.atoms s.spelled_so
    where
      go : (ls : List Atom) → spelled ls (0x22 ∷ s.behind) ≡ drop i json → (read w ls ≡ []) × (s.behind ≡ drop (i + 1) json)
      go [] e = (refl, (head_at json i 0x22 s.behind e).others)
      go (raw b p n ∷ ls) e = absurd (p (sym (head_at json i b (spelled ls (0x22 ∷ s.behind)) e).byte ∙ q))
      go (esc m ∷ ls) e = not_both (get_or json i 0) 0x5C 0x22 (head_at json i 0x5C (short m ∷ spelled ls (0x22 ∷ s.behind)) e).byte q (λ z. omega arith)
      go (uni a b c d ∷ ls) e =
          not_both (get_or json i 0) 0x5C 0x22 (head_at json i 0x5C (0x75 ∷ hex a ∷ hex b ∷ hex c ∷ hex d ∷ spelled ls (0x22 ∷ s.behind)) e).byte q (λ z. omega arith)

  module _ (at : ℕ) (text : List ℕ) where
    pub still : Onward json i w at text s i w at text
    still = record { left = s; same_end = refl; same_text = refl; same_size = refl; forward = omega arith; no_longer = omega arith }

    pub then : (j v to : ℕ) (room : List ℕ) (o : Onward json i w at text s j v to room) (k u on : ℕ) (room' : List ℕ) → Onward json j v to room o.left k u on room'
        → Onward json i w at text s k u on room'
    then j v to room o k u on room' p =
        record {
          left = p.left;
          same_end = p.same_end ∙ o.same_end;
          same_text = p.same_text ∙ o.same_text;
          same_size = p.same_size ∙ o.same_size;
          forward = omega (arith, p.forward, o.forward);
          no_longer = omega (arith, p.no_longer, o.no_longer);
        }

    -- a byte that is no quote and no backslash
    pub raw_read : get_or json i 0 ≢ 0x22 → get_or json i 0 ≢ 0x5C → Onward json i w at text s (i + 1) 0 (at + 1) (set text at (get_or json i 0))
    unfolding spelled read
    raw_read no_quote no_slash = go s.atoms s.spelled_so s.paired
      where
        go : (ls : List Atom) (e : spelled ls (0x22 ∷ s.behind) ≡ drop i json) (p : Paired w ls)
            → Onward json i w at text (record { atoms = ls; behind = s.behind; spelled_so = e; paired = p; low = s.low }) (i + 1) 0 (at + 1) (set text at (get_or json i 0))
        go [] e p = absurd (no_quote (head_at json i 0x22 s.behind e).byte)
        go (raw b m n ∷ ls) e p =
            let h = head_at json i b (spelled ls (0x22 ∷ s.behind)) e in
            record {
              left = record { atoms = ls; behind = s.behind; spelled_so = h.others; paired = p; low = omega arith };
              same_end = refl;
              same_text = rw (h.byte, add-one at);
              same_size = omega arith;
              forward = omega arith;
              no_longer = omega arith;
            }
        go (esc m ∷ ls) e p = absurd (no_slash (head_at json i 0x5C (short m ∷ spelled ls (0x22 ∷ s.behind)) e).byte)
        go (uni a b c d ∷ ls) e p = absurd (no_slash (head_at json i 0x5C (0x75 ∷ hex a ∷ hex b ∷ hex c ∷ hex d ∷ spelled ls (0x22 ∷ s.behind)) e).byte)

    -- ---- an escape

    -- a backslash at i
    module _ (slash_here : get_or json i 0 ≡ 0x5C) where
      pub escape_inside : i + 1 < length json
      unfolding spelled
      escape_inside = go s.atoms s.spelled_so
        where
          go : (ls : List Atom) → spelled ls (0x22 ∷ s.behind) ≡ drop i json → i + 1 < length json
          go [] e = not_both (get_or json i 0) 0x22 0x5C (head_at json i 0x22 s.behind e).byte slash_here (λ z. omega arith)
          go (raw b p n ∷ ls) e = absurd (n (sym (head_at json i b (spelled ls (0x22 ∷ s.behind)) e).byte ∙ slash_here))
          go (esc m ∷ ls) e =
              (head_at json (i + 1) (short m) (spelled ls (0x22 ∷ s.behind)) (head_at json i 0x5C (short m ∷ spelled ls (0x22 ∷ s.behind)) e).others).inside
          go (uni a b c d ∷ ls) e =
              let l = hex a ∷ hex b ∷ hex c ∷ hex d ∷ spelled ls (0x22 ∷ s.behind) in
              (head_at json (i + 1) 0x75 l (head_at json i 0x5C (0x75 ∷ l) e).others).inside

      pub short_read : get_or json (i + 1) 0 ≢ 0x75 → Onward json i w at text s (i + 2) 0 (at + 1) (set text at (short_at (get_or json (i + 1) 0)))
      unfolding spelled read
      short_read no_u = go s.atoms s.spelled_so s.paired
        where
          go : (ls : List Atom) (e : spelled ls (0x22 ∷ s.behind) ≡ drop i json) (p : Paired w ls)
              → Onward json i w at text (record { atoms = ls; behind = s.behind; spelled_so = e; paired = p; low = s.low }) (i + 2) 0 (at + 1) (set text at (short_at (get_or json (i + 1) 0)))
          go [] e p = not_both (get_or json i 0) 0x22 0x5C (head_at json i 0x22 s.behind e).byte slash_here (λ z. omega arith)
          go (raw b m n ∷ ls) e p = absurd (n (sym (head_at json i b (spelled ls (0x22 ∷ s.behind)) e).byte ∙ slash_here))
          go (esc m ∷ ls) e p =
              let h = head_at json (i + 1) (short m) (spelled ls (0x22 ∷ s.behind)) (head_at json i 0x5C (short m ∷ spelled ls (0x22 ∷ s.behind)) e).others in
              let two : i + 1 + 1 ≡ i + 2 = omega arith in
              record {
                left = record { atoms = ls; behind = s.behind; spelled_so = h.others ∙ ap (λ (j : ℕ). drop j json) two; paired = p; low = omega arith };
                same_end = refl;
                same_text = rw (h.byte, (short_at_lem m).1, add-one at);
                same_size = omega arith;
                forward = omega arith;
                no_longer = omega arith;
              }
          go (uni a b c d ∷ ls) e p =
              let l = hex a ∷ hex b ∷ hex c ∷ hex d ∷ spelled ls (0x22 ∷ s.behind) in
              absurd (no_u (head_at json (i + 1) 0x75 l (head_at json i 0x5C (0x75 ∷ l) e).others).byte)

-- a string that was read on to its quote
pub copied : (json : List ℕ) (i at : ℕ) (text : List ℕ) (s : Inside json i 0) (j v to : ℕ) (room : List ℕ) → Onward json i 0 at text s j v to room → get_or json j 0 ≡ 0x22
    → Copied json i at text s (j + 1) to room
copied json i at text s j v to room o q =
    let e = at_quote json j v o.left q in
    record {
      end = sym o.same_end ∙ e.1;
      text_is = ap (λ (x : List ℕ). sets room to x) (sym e.0) ∙ o.same_text;
      size_is = omega (arith, ap length e.0, o.same_size);
      forward = omega (arith, o.forward);
      within = omega (arith, in_text json j v o.left);
      no_longer = omega (arith, o.no_longer);
    }
