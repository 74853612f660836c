-- The escape of a number in a string that is read on.
--     unit_here              what stands there
--     high_read, code_read   a high surrogate waits; another number is written
-- Assumes nothing.
use mathlib.Core.Bool.{Bool, true, false, cond}
use mathlib.Core.List.{List, [], ◌∷◌, ◌++◌}
use mathlib.Core.Path.{◌≡◌, refl, sym, ap, ◌∙◌}
use Prim.Native.Nat.{ℕ, ◌+◌, ◌-◌, ◌*◌, ◌≤◌, ◌<◌}
use native.Mathlib.Omega.{arith}
use borrow.Author.Tests.{leb-true}
use lib.Dec.{eqb, leb, ltb}
use lib.ListN.{length, get_or, drop, length-append}
use lib.Seq.{sets}
use Rattle.laws.proofs.Tests.{right}
use Rattle.jsontext.specs.Utf8.{encode}
use Rattle.jsontext.specs.Text.{short, Hex, decimal, letter, hex}
use Rattle.jsontext.specs.Value.{hex_worth, unit_code, is_high, joined}
use Rattle.escapes.specs.Escapes.{encoded_size}
use Rattle.escapes.proofs.Escaped.{hex_read, hex_byte, size_is}
use Rattle.strings.specs.Atoms.{Atom, raw, esc, uni, spelled, code_at, HexAt, read, waits, Finds, Paired, Inside, Onward}
use Rattle.strings.proofs.Steps.{sets_append, Head, head_at, not_both, encode_append, short_at_lem}

hex_small : (h : Hex) → hex_worth h < 16
hex_small (decimal d) = let l : d.worth < 10 = d.small in omega arith
hex_small (letter l k p) = omega arith

pub joined_low : (w c : ℕ) → w < 0xDC00 → c < 0x10000 → joined w c < 0x200000
joined_low w c l m = go (eqb w 0)
  where
    go : (b : Bool) → cond b c (0x10000 + (w - 0xD800) * 0x400 + (c - 0xDC00)) < 0x200000
    go true = omega arith
    go false = omega arith

module _ (json : List ℕ) (i w : ℕ) (s : Inside json i w) (slash_here : get_or json i 0 ≡ 0x5C) (u_here : get_or json (i + 1) 0 ≡ 0x75) where
  pub record UnitAt (ls : List Atom) : Type 0 where
    pub third : HexAt json (i + 2)
    pub fourth : HexAt json (i + 3)
    pub fifth : HexAt json (i + 4)
    pub sixth : HexAt json (i + 5)
    pub behind_it : List Atom
    pub finds : Finds w (code_at json i)
    pub paired : Paired (waits (code_at json i)) behind_it
    pub spelled_so : spelled behind_it (0x22 ∷ s.behind) ≡ drop (i + 6) json
    pub reads : read w ls ≡ cond (is_high (code_at json i)) (read (code_at json i) behind_it) (encode (joined w (code_at json i)) (read 0 behind_it))

  hex_here : (j : ℕ) (h : Hex) (l : List ℕ) → Head json j (hex h) l → HexAt json j
  hex_here j h l e =
      record {
        inside = e.inside;
        digit = rw e.byte (hex_byte h);
        small = rw e.byte (omega (arith, hex_read h, hex_small h));
      }

  next : (j k b : ℕ) (l : List ℕ) → b ∷ l ≡ drop j json → j + 1 ≡ k → l ≡ drop k json
  next j k b l e z = (head_at json j b l e).others ∙ ap (λ (x : ℕ). drop x json) z

  pub unit_here : UnitAt s.atoms
  unfolding spelled read
  unit_here = go s.atoms s.spelled_so s.paired
    where
      go : (ls : List Atom) → spelled ls (0x22 ∷ s.behind) ≡ drop i json → Paired w ls → UnitAt ls
      go [] e p = not_both (get_or json i 0) 0x22 0x5C (head_at json i 0x22 s.behind e).byte slash_here (λ z. omega arith)
      go (raw b m n ∷ ls) e p = absurd (n (sym (head_at json i b (spelled ls (0x22 ∷ s.behind)) e).byte ∙ slash_here))
      go (esc m ∷ ls) e p =
          let l = spelled ls (0x22 ∷ s.behind) in
          let b : get_or json (i + 1) 0 ≡ short m = (head_at json (i + 1) (short m) l (head_at json i 0x5C (short m ∷ l) e).others).byte in
          absurd ((short_at_lem m).0 (sym b ∙ u_here))
      go (uni a b c d ∷ ls) e p =
          let l : List ℕ = spelled ls (0x22 ∷ s.behind) in
          let e₁ = next i (i + 1) 0x5C (0x75 ∷ hex a ∷ hex b ∷ hex c ∷ hex d ∷ l) e (omega arith) in
          let e₂ = next (i + 1) (i + 2) 0x75 (hex a ∷ hex b ∷ hex c ∷ hex d ∷ l) e₁ (omega arith) in
          let e₃ = next (i + 2) (i + 3) (hex a) (hex b ∷ hex c ∷ hex d ∷ l) e₂ (omega arith) in
          let e₄ = next (i + 3) (i + 4) (hex b) (hex c ∷ hex d ∷ l) e₃ (omega arith) in
          let e₅ = next (i + 4) (i + 5) (hex c) (hex d ∷ l) e₄ (omega arith) in
          let h₂ = head_at json (i + 2) (hex a) (hex b ∷ hex c ∷ hex d ∷ l) e₂ in
          let h₃ = head_at json (i + 3) (hex b) (hex c ∷ hex d ∷ l) e₃ in
          let h₄ = head_at json (i + 4) (hex c) (hex d ∷ l) e₄ in
          let h₅ = head_at json (i + 5) (hex d) l e₅ in
          let code : code_at json i ≡ unit_code a b c d = rw (h₂.byte, h₃.byte, h₄.byte, h₅.byte, hex_read a, hex_read b, hex_read c, hex_read d) in
          record {
            third = hex_here (i + 2) a (hex b ∷ hex c ∷ hex d ∷ l) h₂;
            fourth = hex_here (i + 3) b (hex c ∷ hex d ∷ l) h₃;
            fifth = hex_here (i + 4) c (hex d ∷ l) h₄;
            sixth = hex_here (i + 5) d l h₅;
            behind_it = ls;
            finds = rw code p.0;
            paired = rw code p.1;
            spelled_so = next (i + 5) (i + 6) (hex d) l e₅ (omega arith);
            reads = rw code;
          }

  abbrev code : ℕ
  code = code_at json i

  pub code_low : code < 0x10000
  code_low = let u = unit_here in omega (arith, u.third.small, u.fourth.small, u.fifth.small, u.sixth.small)

  module _ (at : ℕ) (text : List ℕ) where
    pub high_read : is_high code ≡ true → Onward json i w at text s (i + 6) code at text
    high_read t =
        let u = unit_here in
        let r : read w s.atoms ≡ read code u.behind_it = rw t at u.reads in
        record {
          left = record { atoms = u.behind_it; behind = s.behind; spelled_so = u.spelled_so; paired = rw t at u.paired; low = below };
          same_end = refl;
          same_text = rw r;
          same_size = rw r;
          forward = omega arith;
          no_longer = omega arith;
        }
      where
        below : code < 0xDC00
        below = let l : code ≤ 0xDBFF = leb-true code 0xDBFF (right (leb 0xD800 code) (leb code 0xDBFF) t) in omega arith

    abbrev bytes : List ℕ
    bytes = encode (joined w code) []

    few_bytes : length bytes ≤ 4
    unfolding encoded_size
    few_bytes = omega (arith, size_is (joined w code) [], few (joined w code))
      where
        few : (c : ℕ) → encoded_size c ≤ 4
        few c = go (ltb c 0x80) (ltb c 0x800) (ltb c 0x10000)
          where
            go : (p q r : Bool) → cond p 1 (cond q 2 (cond r 3 4)) ≤ 4
            go true q r = omega arith
            go false true r = omega arith
            go false false true = omega arith
            go false false false = omega arith

    pub code_read : is_high code ≡ false → Onward json i w at text s (i + 6) 0 (at + length bytes) (sets text at bytes)
    code_read t =
        let u = unit_here in
        let r : read w s.atoms ≡ encode (joined w code) (read 0 u.behind_it) = rw t at u.reads in
        let a : read w s.atoms ≡ bytes ++ read 0 u.behind_it = r ∙ encode_append (joined w code) (read 0 u.behind_it) in
        record {
          left = record { atoms = u.behind_it; behind = s.behind; spelled_so = u.spelled_so; paired = rw t at u.paired; low = omega arith };
          same_end = refl;
          same_text = sym (ap (sets text at) a ∙ sets_append text bytes (read 0 u.behind_it) at);
          same_size = omega (arith, ap length a, length-append bytes (read 0 u.behind_it));
          forward = omega arith;
          no_longer = omega (arith, few_bytes);
        }
