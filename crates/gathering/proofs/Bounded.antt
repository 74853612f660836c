-- What is gathered stays small, whatever the bytes are.
--     sound_begins     before the first byte
--     sound_gathered   after one more
-- Assumes nothing.
use mathlib.Core.Bool.{Bool, true, false, cond, ◌&&◌, not}
use mathlib.Core.List.{List, [], ◌∷◌, ◌++◌}
use mathlib.Core.Path.{◌≡◌, refl}
use Prim.Native.Nat.{ℕ, suc, ◌+◌, ◌-◌, ◌*◌, ◌≤◌, ◌<◌}
use native.Mathlib.Omega.{arith}
use borrow.Author.Tests.{leb-true}
use lib.Dec.{eqb, leb, ltb}
use lib.ListN.{length, get_or, set, length-append}
use Rattle.laws.proofs.Tests.{left, right}
use Rattle.jsontext.specs.Utf8.{encode}
use Rattle.jsontext.specs.Value.{is_high, joined}
use Rattle.jsontext.specs.Automaton.{Bracket, Role, as_value, as_name, Left, hex1, hex2, hex3, hex4, Place, ahead, first_element, after, name, first_name, colon, word, minus, nought, whole, point, part, letter, sign, power, text, escape, unit, char}
use Rattle.escapes.proofs.Escaped.{size_is}
use Rattle.tally.specs.Bounds.{UpTo}
use Rattle.tally.proofs.Bounded.{up_more, set_up, noughts_up, size_low}
use Rattle.naming.specs.Gathering.{Gather, levels, nothing_yet, starts, says, tag_of, opens_name, shuts_name, unit_is, waits_for, short_at, digit_of, low_ahead, escaped, hex_more, text_more, char_more, escape_more, unit_more, names, gather}
use Rattle.gathering.specs.Held.{numbers, Sound}

-- after k bytes
abbrev Fine : ℕ → Gather → Type 0
Fine k g = Sound k (numbers g) g.objects

pub sound_begins : Fine 0 nothing_yet
sound_begins =
    record {
      size_few = omega arith;
      filled_few = omega arith;
      values_few = omega arith;
      objects_few = (noughts_up levels).each;
      begun_low = omega arith;
      waits_low = omega arith;
    }

module _ (k : ℕ) where
  -- by a test
  either : (t : Bool) (x y : Gather) → Fine (suc k) x → Fine (suc k) y → Fine (suc k) (cond t x y)
  either true x y p q = p
  either false x y p q = q

  -- a few more, or none
  some_more : (xs ys : List ℕ) (t : Bool) (m n : ℕ) → length xs ≤ m → length ys ≤ n → length (xs ++ cond t ys []) ≤ m + n
  some_more xs ys true m n h l = omega (arith, length-append xs ys)
  some_more xs ys false m n h l = omega (arith, length-append xs [])

  module _ (g : Gather) (h : Fine k g) where
    objects_up : UpTo k g.objects
    objects_up = record { each = h.objects_few }

    objects_same : UpTo (suc k) g.objects
    objects_same = up_more (omega arith) objects_up

    same : Fine (suc k) g
    same =
        record {
          size_few = omega (arith, h.size_few);
          filled_few = omega (arith, h.filled_few);
          values_few = omega (arith, h.values_few);
          objects_few = objects_same.each;
          begun_low = h.begun_low;
          waits_low = h.waits_low;
        }

    starts_fine : (ks : List Bracket) (b : ℕ) → Fine (suc k) (starts ks b g)
    unfolding starts
    starts_fine ks b =
        record {
          size_few = same.size_few;
          filled_few = same.filled_few;
          values_few = omega (arith, h.values_few);
          objects_few = (go (eqb b 0x7B)).each;
          begun_low = h.begun_low;
          waits_low = h.waits_low;
        }
      where
        go : (t : Bool) → UpTo (suc k) (cond t (set g.objects (length ks) g.values) g.objects)
        go true = set_up (suc k) (length ks) g.values g.objects (omega (arith, h.values_few)) objects_same
        go false = objects_same

    says_fine : (bs : List ℕ) → length bs ≤ 4 → Fine (suc k) (says bs g)
    unfolding says
    says_fine bs l =
        record {
          size_few = omega (arith, some_more g.text bs g.on (4 * k) 4 h.size_few l);
          filled_few = same.filled_few;
          values_few = same.values_few;
          objects_few = same.objects_few;
          begun_low = omega (arith, h.begun_low, length-append g.text (cond g.on bs []));
          waits_low = omega arith;
        }

    opens_fine : (on : Bool) (o left : ℕ) → Fine (suc k) (opens_name on o left g)
    unfolding opens_name
    opens_fine on o left =
        record {
          size_few = omega (arith, some_more g.text (tag_of o) on (4 * k) 2 h.size_few (omega arith));
          filled_few = same.filled_few;
          values_few = same.values_few;
          objects_few = same.objects_few;
          begun_low = omega (arith, length-append g.text (cond on (tag_of o) []));
          waits_low = omega arith;
        }

    shuts_fine : Fine (suc k) (shuts_name g)
    unfolding shuts_name
    shuts_fine =
        record {
          size_few = same.size_few;
          filled_few =
              omega (arith, some_more g.words (g.begun ∷ (length g.text - g.begun) ∷ g.left ∷ []) g.on (3 * k) 3 h.filled_few (omega arith));
          values_few = same.values_few;
          objects_few = same.objects_few;
          begun_low = h.begun_low;
          waits_low = h.waits_low;
        }

    unit_fine : (c : ℕ) → Fine (suc k) (unit_is c g)
    unfolding unit_is
    unit_fine c =
        record {
          size_few = same.size_few;
          filled_few = same.filled_few;
          values_few = same.values_few;
          objects_few = same.objects_few;
          begun_low = h.begun_low;
          waits_low = h.waits_low;
        }

    waits_fine : (c : ℕ) → c < 0xDC00 → Fine (suc k) (waits_for c g)
    unfolding waits_for
    waits_fine c l =
        record {
          size_few = same.size_few;
          filled_few = same.filled_few;
          values_few = same.values_few;
          objects_few = same.objects_few;
          begun_low = h.begun_low;
          waits_low = l;
        }

    escaped_fine : (c : ℕ) (bs : List ℕ) → Fine (suc k) (escaped c bs g)
    unfolding escaped
    escaped_fine c bs = go (is_high c && low_ahead bs) refl
      where
        go : (t : Bool) → (is_high c && low_ahead bs) ≡ t → Fine (suc k) (cond t (waits_for c g) (says (encode (joined g.waits c) []) g))
        go true e =
            let high : is_high c ≡ true = left (is_high c) (low_ahead bs) e in
            let l : c ≤ 0xDBFF = leb-true c 0xDBFF (right (leb 0xD800 c) (leb c 0xDBFF) high) in
            waits_fine c (omega arith)
        go false e = let d : ℕ = joined g.waits c in says_fine (encode d []) (omega (arith, size_is d [], size_low d))

    hex_fine : (l : Left) (b : ℕ) (bs : List ℕ) → Fine (suc k) (hex_more l b bs g)
    hex_fine hex1 b bs = escaped_fine (digit_of g.unit b) bs
    hex_fine hex2 b bs = unit_fine (digit_of g.unit b)
    hex_fine hex3 b bs = unit_fine (digit_of g.unit b)
    hex_fine hex4 b bs = unit_fine (digit_of g.unit b)

    byte_fine : (b : ℕ) → Fine (suc k) (says (b ∷ []) g)
    byte_fine b = says_fine (b ∷ []) (omega arith)

    text_fine : (r : Role) (b : ℕ) → Fine (suc k) (text_more r b g)
    text_fine as_value b = same
    text_fine as_name b =
        either (eqb b 0x22) (shuts_name g) (cond (eqb b 0x5C) g (says (b ∷ []) g)) shuts_fine (either (eqb b 0x5C) g (says (b ∷ []) g) same (byte_fine b))

    char_fine : (r : Role) (b : ℕ) → Fine (suc k) (char_more r b g)
    char_fine as_value b = same
    char_fine as_name b = byte_fine b

    escape_fine : (r : Role) (b : ℕ) → Fine (suc k) (escape_more r b g)
    escape_fine as_value b = same
    escape_fine as_name b = either (eqb b 0x75) (unit_is 0 g) (says (short_at b ∷ []) g) (unit_fine 0) (byte_fine (short_at b))

    unit_more_fine : (r : Role) (l : Left) (b : ℕ) (bs : List ℕ) → Fine (suc k) (unit_more r l b bs g)
    unit_more_fine as_value l b bs = same
    unit_more_fine as_name l b bs = hex_fine l b bs

    names_fine : (limit : ℕ) (ks : List Bracket) (b : ℕ) (bs : List ℕ) → Fine (suc k) (names limit ks b bs g)
    unfolding names
    names_fine limit ks b bs =
        let on : Bool = ltb limit (length (b ∷ bs)) in
        let o : ℕ = get_or g.objects (length ks - 1) 0 in
        either (eqb b 0x22) (opens_name on o (length (b ∷ bs)) g) g (opens_fine on o (length (b ∷ bs))) same

    pub sound_gathered : (limit : ℕ) (p : Place) (ks : List Bracket) (b : ℕ) (bs : List ℕ) → Fine (suc k) (gather limit p ks b bs g)
    sound_gathered limit ahead ks b bs = either (ltb 0x20 b) (starts ks b g) g (starts_fine ks b) same
    sound_gathered limit first_element ks b bs = either (ltb 0x20 b && not (eqb b 0x5D)) (starts ks b g) g (starts_fine ks b) same
    sound_gathered limit name ks b bs = names_fine limit ks b bs
    sound_gathered limit first_name ks b bs = names_fine limit ks b bs
    sound_gathered limit (text r) ks b bs = text_fine r b
    sound_gathered limit (char c r) ks b bs = char_fine r b
    sound_gathered limit (escape r) ks b bs = escape_fine r b
    sound_gathered limit (unit l r) ks b bs = unit_more_fine r l b bs
    sound_gathered limit after ks b bs = same
    sound_gathered limit colon ks b bs = same
    sound_gathered limit (word w) ks b bs = same
    sound_gathered limit minus ks b bs = same
    sound_gathered limit nought ks b bs = same
    sound_gathered limit whole ks b bs = same
    sound_gathered limit point ks b bs = same
    sound_gathered limit part ks b bs = same
    sound_gathered limit letter ks b bs = same
    sound_gathered limit sign ks b bs = same
    sound_gathered limit power ks b bs = same
