-- Gathered names lie as crate `names` asks, and are the tagged names.
--     names_lie, name_is    the theorems
-- Assumes nothing.
use mathlib.Core.Bool.{true}
use mathlib.Core.List.{List, [], ◌∷◌, ◌++◌, append_assoc}
use mathlib.Core.Path.{◌≡◌, refl, ap, sym, ◌∙◌}
use Prim.Native.Nat.{ℕ, zero, suc, ◌+◌, ◌*◌, ◌≤◌, ◌<◌}
use native.Mathlib.Omega.{arith}
use borrow.Author.Tests.{le-leb}
use lib.ListN.{length, get_or, take, drop, length-append}
use lib.Seq.{take-append_seam, drop-append_seam}
use Rattle.text.specs.declared.Range.{Range}
use Rattle.text.specs.Part.{fits, part}
use Rattle.names.specs.declared.Names.{Names}
use Rattle.names.specs.Names.{names_max, range_at, name_at, Lying}
use Rattle.naming.specs.Members.{Named, tagged}
use Rattle.naming.specs.Gathering.{text_from, words_from}
use Rattle.naming.proofs.Repeated.{no_name, tagged_at}

-- names of three words each, from the first word on
abbrev pub in_threes : ℕ → Names
in_threes count = record { base = 0; stride = 3; count = count }

words_long : (at : ℕ) (ms : List Named) → length (words_from at ms) ≡ 3 * length ms
unfolding words_from
words_long at [] = refl
words_long at (x ∷ xs) = omega (arith, words_long (at + length (tagged x)) xs)

-- where name i starts
unfoldable start_of : ℕ → List Named → ℕ → ℕ
start_of at [] i = at
start_of at (x ∷ xs) zero = at
start_of at (x ∷ xs) (suc i) = start_of (at + length (tagged x)) xs i

module _ (more : List ℕ) where
  start_is : (at : ℕ) (ms : List Named) (i : ℕ) → i < length ms → get_or (words_from at ms ++ more) (3 * i) 0 ≡ start_of at ms i
  unfolding words_from start_of
  start_is at [] i h = absurd (omega arith)
  start_is at (x ∷ xs) zero h = refl
  start_is at (x ∷ xs) (suc i) h = let z : 3 * suc i ≡ suc (suc (suc (3 * i))) = omega arith in rw z (start_is (at + length (tagged x)) xs i (omega arith))

  size_is : (at : ℕ) (ms : List Named) (i : ℕ) → i < length ms → get_or (words_from at ms ++ more) (3 * i + 1) 0 ≡ length (tagged_at ms i)
  unfolding words_from
  size_is at [] i h = absurd (omega arith)
  size_is at (x ∷ xs) zero h = refl
  size_is at (x ∷ xs) (suc i) h = let z : 3 * suc i + 1 ≡ suc (suc (suc (3 * i + 1))) = omega arith in rw z (size_is (at + length (tagged x)) xs i (omega arith))

  left_is : (at : ℕ) (ms : List Named) (i : ℕ) → i < length ms → get_or (words_from at ms ++ more) (3 * i + 2) 0 ≡ length (get_or ms i no_name).behind
  unfolding words_from
  left_is at [] i h = absurd (omega arith)
  left_is at (x ∷ xs) zero h = refl
  left_is at (x ∷ xs) (suc i) h = let z : 3 * suc i + 2 ≡ suc (suc (suc (3 * i + 2))) = omega arith in rw z (left_is (at + length (tagged x)) xs i (omega arith))

-- the bytes of name i, behind `front`
bytes_at : (front : List ℕ) (ms : List Named) (more : List ℕ) (i : ℕ) → i < length ms
    → take (length (tagged_at ms i)) (drop (start_of (length front) ms i) (front ++ (text_from ms ++ more))) ≡ tagged_at ms i
unfolding text_from start_of
bytes_at front [] more i h = absurd (omega arith)
bytes_at front (x ∷ xs) more zero h =
    rw (drop-append_seam front ((tagged x ++ text_from xs) ++ more), append_assoc (tagged x) (text_from xs) more) (take-append_seam (tagged x) (text_from xs ++ more))
bytes_at front (x ∷ xs) more (suc i) h =
    let e : front ++ ((tagged x ++ text_from xs) ++ more) ≡ (front ++ tagged x) ++ (text_from xs ++ more) =
    ap (λ (l : List ℕ). front ++ l) (append_assoc (tagged x) (text_from xs) more) ∙ sym (append_assoc front (tagged x) (text_from xs ++ more)) in
    let l : length front + length (tagged x) ≡ length (front ++ tagged x) = sym (length-append front (tagged x)) in
    rw (e, l) (bytes_at (front ++ tagged x) xs more i (omega arith))

ends_within : (at : ℕ) (ms : List Named) (i : ℕ) → i < length ms → start_of at ms i + length (tagged_at ms i) ≤ at + length (text_from ms)
unfolding start_of text_from
ends_within at [] i h = absurd (omega arith)
ends_within at (x ∷ xs) zero h = omega (arith, length-append (tagged x) (text_from xs))
ends_within at (x ∷ xs) (suc i) h = omega (arith, length-append (tagged x) (text_from xs), ends_within (at + length (tagged x)) xs i (omega arith))

-- of names in areas that may be longer
module _ (ms : List Named) (words text : List ℕ) where
  abbrev ws : List ℕ
  ws = words_from 0 ms ++ words

  abbrev ts : List ℕ
  ts = text_from ms ++ text

  range_is : (i : ℕ) → i < length ms → range_at ws (in_threes (length ms)) i ≡ record { start = start_of 0 ms i; length = length (tagged_at ms i) }
  range_is i h =
      let y : 0 + 3 * i ≡ 3 * i = omega arith in
      rw (y, start_is words 0 ms i h, size_is words 0 ms i h)

  pub name_is : (i : ℕ) → i < length ms → name_at ws ts (in_threes (length ms)) i ≡ tagged_at ms i
  unfolding part
  name_is i h = ap (part ts) (range_is i h) ∙ bytes_at [] ms text i h

  pub names_lie : length ms ≤ names_max → Lying ws ts (in_threes (length ms))
  unfolding fits
  names_lie few =
      record {
        inside = λ i h. omega (arith, length-append (words_from 0 ms) words, words_long 0 ms);
        fitting = λ i h. ap (fits (length ts)) (range_is i h) ∙ le-leb (start_of 0 ms i + length (tagged_at ms i)) (length ts) (omega (arith, ends_within 0 ms i h, length-append (text_from ms) text));
        few = few;
      }

  pub left_at_lem : (i : ℕ) → i < length ms → get_or ws (3 * i + 2) 0 ≡ length (get_or ms i no_name).behind
  left_at_lem i h = left_is words 0 ms i h
