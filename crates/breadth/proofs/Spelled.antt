-- The names and the strings of the rows of a value are well-formed UTF-8, if those of the value are.
--     encoded_is      well-formed as the texts of `jsontext` say it is well-formed as the record check asks for it
--     spelled         for each row of a record whose row 0 means the value
-- Assumes nothing.
use mathlib.Core.Bool.{Bool, true, false, not, cond}
use mathlib.Core.List.{List, [], ◌∷◌, ◌++◌}
use mathlib.Core.Logic.{◌⊎◌, inl, inr, ⊎_elim}
use mathlib.Core.Path.{◌≡◌, refl, sym, ap, subst, ◌∙◌}
use Prim.Native.Nat.{ℕ, zero, suc, ◌+◌, ◌-◌, ◌/◌, ◌%◌, ◌≤◌, ◌<◌}
use native.Mathlib.Omega.{arith}
use native.Mathlib.Nat.{add-zero}
use lib.Dec.{ltb}
use Rattle.laws.proofs.Tests.{le_or_lt}
use Rattle.utf8.specs.Encoding as U
use Rattle.utf8.specs.Automaton.{is_utf8}
use Rattle.utf8.proofs.Meaning.{complete_for}
use Rattle.jsontext.specs.Utf8.{Scalar, encode, Encoded, nothing, then}
use Rattle.jsontext.specs.Datum.{Datum, null, bool, number, string, array, object, Items, no_item, item, Fields, no_field, field}
use Rattle.sheet.specs.Doc as D
use Rattle.sheet.specs.Doc.{Doc, Child, first_child, child_count, string_bytes}
use Rattle.breadth.specs.Meaning.{Shaped, item_count, field_count, Means, MeansItems, MeansFields, Utf8, Utf8Items, Utf8Fields}

-- ---- the same bytes, said twice

scalar_is : (c : ℕ) → Scalar c → U.Scalar c
scalar_is c s =
    ⊎_elim (λ (l : c < 0xD800). record { in_range = omega arith; no_surrogate = inl l })
    (λ (h : (0xE000 ≤ c) × (c < 0x110000)). record { in_range = h.1; no_surrogate = inr h.0 }) s

module _ (c : ℕ) (rest : List ℕ) where
  by_tests : (one two three : Bool)
      → cond one (c ∷ [])
      (cond two ((0xC0 + c / 0x40) ∷ (0x80 + c % 0x40) ∷ [])
      (cond three ((0xE0 + c / 0x1000) ∷ (0x80 + c / 0x40 % 0x40) ∷ (0x80 + c % 0x40) ∷ []) ((0xF0 + c / 0x40000) ∷ (0x80 + c / 0x1000 % 0x40) ∷ (0x80 + c / 0x40 % 0x40) ∷ (0x80 + c % 0x40) ∷ [])))
      ++ rest
      ≡ cond one (c ∷ rest)
      (cond two ((0xC0 + c / 0x40) ∷ (0x80 + c % 0x40) ∷ rest)
      (cond three ((0xE0 + c / 0x1000) ∷ (0x80 + c / 0x40 % 0x40) ∷ (0x80 + c % 0x40) ∷ rest) ((0xF0 + c / 0x40000) ∷ (0x80 + c / 0x1000 % 0x40) ∷ (0x80 + c / 0x40 % 0x40) ∷ (0x80 + c % 0x40) ∷ rest)))
  by_tests true two three = refl
  by_tests false true three = refl
  by_tests false false true = refl
  by_tests false false false = refl

  before_rest : U.encode c ++ rest ≡ encode c rest
  unfolding encode U.encode
  before_rest = by_tests (ltb c 0x80) (ltb c 0x800) (ltb c 0x10000)

pub encoded_is : {bs : List ℕ} → Encoded bs → U.Utf8 bs
unfolding U.encode_all
encoded_is nothing = record { values = []; scalars = U.none; encoded = refl }
encoded_is (then c s rest) =
    let u = encoded_is rest in
    record { values = c ∷ u.values; scalars = U.one (scalar_is c s) u.scalars; encoded = ap (λ (bs : List ℕ). U.encode c ++ bs) u.encoded ∙ before_rest c _ }

encoded_tells : {bs : List ℕ} → Encoded bs → is_utf8 bs ≡ true
encoded_tells {bs} e = complete_for bs (encoded_is e)

-- ---- row by row

module _ (d : Doc) where
  -- row j means a value that is well-formed, and so is its name
  record Well (j : ℕ) : Type 0 where
    datum : Datum
    means : Means d j datum
    utf8 : Utf8 datum
    named : Encoded (d.name j)

  item_at : (o k : ℕ) (vs : Items) → MeansItems d o k vs → Utf8Items vs → (i : ℕ) → i < item_count vs → (v : Datum) × Means d (k + i) v × Utf8 v
  item_at o k no_item m u i h = absurd (omega arith)
  item_at o k (item v vs) m u zero h = (v, rw (add-zero k) m.1, u.0)
  item_at o k (item v vs) m u (suc i) h =
      let z = item_at o (suc k) vs m.2 u.1 i (omega arith) in
      let e : suc k + i ≡ k + suc i = omega arith in
      (z.0, subst (λ (x : ℕ). Means d x z.0) e z.1, z.2)

  field_at : (o k : ℕ) (ms : Fields) → MeansFields d o k ms → Utf8Fields ms → (i : ℕ) → i < field_count ms → Well (k + i)
  field_at o k no_field m u i h = absurd (omega arith)
  field_at o k (field n v ms) m u zero h = rw (add-zero k) (record { datum = v; means = m.2; utf8 = u.1; named = rw m.1 u.0 })
  field_at o k (field n v ms) m u (suc i) h =
      let e : suc k + i ≡ k + suc i = omega arith in
      subst Well e (field_at o (suc k) ms m.3 u.2 i (omega arith))

  module _ (n : ℕ) (bare : (o j first count : ℕ) → o < n → d.value o ≡ D.array first count → Child d o j → d.name j ≡ []) where
    -- no row is a child of a value that has none
    none_below : {A : Type 0} (o j : ℕ) (v : D.Value) → d.value o ≡ v → child_count v ≡ 0 → first_child v ≡ 0 → Child d o j → A
    none_below o j v e n f c =
        let w : j < first_child v + child_count v = rw e at c.within in
        absurd (empty w)
      where
        empty : j < first_child v + child_count v → ⊥
        empty w = omega (arith, n, f)

    below : (o j : ℕ) → o < n → Well o → Child d o j → Well j
    below o j l W c = go W.datum W.means W.utf8
      where
        go : (v : Datum) → Means d o v → Utf8 v → Well j
        go null m u = none_below o j D.null m refl refl c
        go (bool b) m u = none_below o j (D.bool b) m refl refl c
        go (number z) m u = none_below o j (D.number z) m refl refl c
        go (string bs) m u = none_below o j (D.string bs) m refl refl c
        go (array vs) m u =
            let first = m.0 in
            let a : first ≤ j = rw m.1 at c.after in
            let w : j < first + item_count vs = rw m.1 at c.within in
            let z = item_at o first vs m.2 u (j - first) (omega arith) in
            let e : first + (j - first) ≡ j = omega arith in
            record { datum = z.0; means = subst (λ (x : ℕ). Means d x z.0) e z.1; utf8 = z.2; named = rw (bare o j first (item_count vs) l m.1 c) nothing }
        go (object ms) m u =
            let first = m.0 in
            let a : first ≤ j = rw m.1 at c.after in
            let w : j < first + field_count ms = rw m.1 at c.within in
            let e : first + (j - first) ≡ j = omega arith in
            subst Well e (field_at o first ms m.2 u (j - first) (omega arith))

    module _ (shape : Shaped d n) (v : Datum) (root : Means d 0 v) (u : Utf8 v) (unnamed : d.name 0 ≡ []) where
      well : (bound j : ℕ) → j < bound → j < n → Well j
      well zero j l h = absurd (omega arith)
      well (suc bound) j l h =
          ⊎_elim
          (λ (p : 1 ≤ j). let o = d.owner j in let b = shape.owner_before j p h in below o j (omega arith) (well bound o (omega arith) (omega arith)) (shape.placed j p h))
          (λ (z : j < 1). let e : 0 ≡ j = omega arith in subst Well e (record { datum = v; means = root; utf8 = u; named = rw unnamed nothing }))
          (le_or_lt 1 j)

      string_tells : (j : ℕ) (w : Datum) → Means d j w → Utf8 w → is_utf8 (string_bytes (d.value j)) ≡ true
      string_tells j null m s = rw m (encoded_tells nothing)
      string_tells j (bool b) m s = rw m (encoded_tells nothing)
      string_tells j (number z) m s = rw m (encoded_tells nothing)
      string_tells j (string bs) m s = rw m (encoded_tells s)
      string_tells j (array vs) m s = rw m.1 (encoded_tells nothing)
      string_tells j (object ms) m s = rw m.1 (encoded_tells nothing)

      pub spelled : (j : ℕ) → j < n → (is_utf8 (d.name j) ≡ true) × (is_utf8 (string_bytes (d.value j)) ≡ true)
      spelled j h =
          let W = well (suc j) j (omega arith) h in
          (encoded_tells W.named, string_tells j W.datum W.means W.utf8)
