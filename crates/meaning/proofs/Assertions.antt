-- The keywords that look at a value alone, in words.
--     assertions     what `Assertions` says, for every record
-- Assumes nothing.
use mathlib.Core.Bool.{Bool, true}
use mathlib.Core.List.Memᴰ
use mathlib.Core.List.{List, map, Memᴰ as In}
use mathlib.Core.Logic.{◌↔◌}
use mathlib.Core.Path.{◌≡◌, refl, sym, subst}
use Prim.Native.Nat.{ℕ, ◌≤◌}
use lib.Dec.{leb}
use lib.ListN.{length}
use lib.Signed.{le_z, lt_z}
use borrow.Author.Tests.{leb-true, le-leb}
use Rattle.decimal.specs.Value.{is_multiple}
use Rattle.utf8.specs.Encoding.{Utf8, characters}
use Rattle.counting.proofs.Counted.{count_is}
use Rattle.sheet.specs.Doc.{Value, string, Doc}
use Rattle.meaning.specs.Lists.{any, range}
use Rattle.meaning.specs.Tests.{length_of, at_least, at_most, equal}
use Rattle.meaning.specs.Rules.{called, present, passes}
use Rattle.meaning.specs.Keywords.{Scalar, WellSpelled, Within, Assertions}
use Rattle.meaning.proofs.Members.{in_range, range_length, all_pass, one_passes}
use Rattle.meaning.proofs.Found.{number_given, string_given, Rows, array_given, object_given}
use Rattle.meaning.proofs.Values.{multiple_is, typed_is, equal_is, called_is, and_then}

-- a limit, by what a size is
sized : (k a n : ℕ) → a ≡ n → (leb k a ≡ true) ↔ (k ≤ n)
sized k a n e = (λ h. subst (λ x. k ≤ x) e (leb-true k a h), λ h. le-leb k a (subst (λ x. k ≤ x) (sym e) h))

limited : (k a n : ℕ) → a ≡ n → (leb a k ≡ true) ↔ (n ≤ k)
limited k a n e = (λ h. subst (λ x. x ≤ k) e (leb-true a k h), λ h. le-leb a k (subst (λ x. x ≤ k) (sym e) h))

rows_sized : (k : ℕ) (r : Rows) → (leb k (length (range r.0 r.1)) ≡ true) ↔ (k ≤ r.1)
rows_sized k r = sized k (length (range r.0 r.1)) r.1 (range_length r.0 r.1)

rows_limited : (k : ℕ) (r : Rows) → (leb (length (range r.0 r.1)) k ≡ true) ↔ (r.1 ≤ k)
rows_limited k r = limited k (length (range r.0 r.1)) r.1 (range_length r.0 r.1)

-- what is asked of each thing may be said in other words
each_thing : {I : Type 0} {P Q R : I → Type 0} → ((i : I) → Q i ↔ R i) → ((i : I) → P i → Q i) ↔ ((i : I) → P i → R i)
each_thing f = (λ h i p. (f i).0 (h i p), λ h i p. (f i).1 (h i p))

-- of a string that can be read, what is asked of its bytes may be said of its characters
each_string : {v : Value} (P : List ℕ → Type 0) (Q : ℕ → Type 0) → ((xs : List ℕ) (u : Utf8 xs) → P xs ↔ Q (characters u)) → WellSpelled v
    → ((xs : List ℕ) → v ≡ string xs → P xs) ↔ ((xs : List ℕ) → v ≡ string xs → (u : Utf8 xs) → Q (characters u))
each_string P Q same r = (λ h xs e u. (same xs u).0 (h xs e), λ h xs e. (same xs (r xs e)).1 (h xs e (r xs e)))

each_rows : {P Q : ℕ → ℕ → Type 0} → ((r : Rows) → P r.0 r.1 → Q r.0 r.1) ↔ ((first count : ℕ) → P first count → Q first count)
each_rows = (λ h first count p. h (first, count) p, λ h r p. h r.0 r.1 p)

module _ (D : Doc) where
  enum_holds : (v : Value) (vs : List Value) → ((w : Value) → In w vs → Scalar w) → (any (map (λ w. equal v w) vs) ≡ true) ↔ In v vs
  enum_holds v vs h = (
    λ e. let w = (one_passes (λ x. equal v x) vs).0 e in Memᴰ.cast ((equal_is v w.0 (h w.0 w.1)).0 w.2) w.1,
    λ i. (one_passes (λ x. equal v x) vs).1 (v, i, (equal_is v v (h v i)).1 refl),
  )

  present_is : (names : List (List ℕ)) (first count : ℕ) → (present D names (range first count) ≡ true)
      ↔ ((name : List ℕ) → In name names → (k : ℕ) × Within first count k × (D.name k ≡ name))
  unfolding present
  present_is names first count = (
    λ e name i.
        let w = (one_passes (called D name) (range first count)).0 ((all_pass (λ n. any (map (called D n) (range first count))) names).0 e name i) in
        (w.0, (in_range first count w.0).0 w.1, (called_is D name w.0).0 w.2),
    λ h.
        (all_pass (λ n. any (map (called D n) (range first count))) names).1
        (λ name i. let w = h name i in (one_passes (called D name) (range first count)).1 (w.0, (in_range first count w.0).1 w.1, (called_is D name w.0).1 w.2)),
  )

  pub assertions : Assertions D
  unfolding passes at_least at_most
  assertions =
      record {
        never_is = λ j. refl;
        type_is = λ j mask. typed_is mask (D.value j);
        enum_is = λ j vs h. enum_holds (D.value j) vs h;
        minimum_is = λ j z. number_given (D.value j) (λ y. le_z z y);
        maximum_is = λ j z. number_given (D.value j) (λ y. le_z y z);
        exclusive_minimum_is = λ j z. number_given (D.value j) (λ y. lt_z z y);
        exclusive_maximum_is = λ j z. number_given (D.value j) (λ y. lt_z y z);
        multiple_of_is = λ j z. and_then (number_given (D.value j) (λ y. is_multiple y z)) (each_thing (λ y. multiple_is y z));
        min_length_is = λ j k r. and_then (string_given (D.value j) (λ xs. leb k (length_of xs))) (each_string (λ xs. leb k (length_of xs) ≡ true) (λ n. k ≤ n) (λ xs u. sized k (length_of xs) (characters u) (count_is u)) r);
        max_length_is = λ j k r. and_then (string_given (D.value j) (λ xs. leb (length_of xs) k)) (each_string (λ xs. leb (length_of xs) k ≡ true) (λ n. n ≤ k) (λ xs u. limited k (length_of xs) (characters u) (count_is u)) r);
        min_items_is = λ j k. and_then (array_given (D.value j) (λ xs. leb k (length xs))) (and_then (each_thing (rows_sized k)) each_rows);
        max_items_is = λ j k. and_then (array_given (D.value j) (λ xs. leb (length xs) k)) (and_then (each_thing (rows_limited k)) each_rows);
        min_properties_is = λ j k. and_then (object_given (D.value j) (λ xs. leb k (length xs))) (and_then (each_thing (rows_sized k)) each_rows);
        max_properties_is = λ j k. and_then (object_given (D.value j) (λ xs. leb (length xs) k)) (and_then (each_thing (rows_limited k)) each_rows);
        required_is = λ j names. and_then (object_given (D.value j) (present D names)) (and_then (each_thing (λ r. present_is names r.0 r.1)) each_rows);
      }
