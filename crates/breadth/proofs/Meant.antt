-- A row means one value: what the rows and the text of a value mean is that value alone.
--     means_one    the theorem
-- Assumes nothing.
use mathlib.Core.Path.{◌≡◌, refl, ap}
use Prim.Native.Nat.{ℕ, suc}
use native.Mathlib.Omega.{arith}
use Rattle.jsontext.specs.Datum.{Datum, null, bool, number, string, array, object, Items, no_item, item, Fields, no_field, field}
use Rattle.sheet.specs.Doc.{Doc}
use Rattle.breadth.specs.Meaning.{item_count, field_count, Means, MeansItems, MeansFields}

pub apart : {A : Type 0} → ◌≡◌ {A = ℕ} 0 1 → A
apart z = absurd (nothing z)
  where
    nothing : ◌≡◌ {A = ℕ} 0 1 → ⊥
    nothing y = omega arith

module _ (d : Doc) where
  mutual
    pub means_one : (v v' : Datum) (j : ℕ) → Means d j v → Means d j v' → v ≡ v'
    means_one null null j m m' = refl
    means_one null (bool b') j m m' = let c = m in let c' = m' in apart (cc)
    means_one null (number z') j m m' = let c = m in let c' = m' in apart (cc)
    means_one null (string bs') j m m' = let c = m in let c' = m' in apart (cc)
    means_one null (array vs') j m m' = let c = m in let c' = m'.1 in apart (cc)
    means_one null (object ms') j m m' = let c = m in let c' = m'.1 in apart (cc)
    means_one (bool b) null j m m' = let c = m in let c' = m' in apart (cc)
    means_one (bool b) (bool b') j m m' = cc
    means_one (bool b) (number z') j m m' = let c = m in let c' = m' in apart (cc)
    means_one (bool b) (string bs') j m m' = let c = m in let c' = m' in apart (cc)
    means_one (bool b) (array vs') j m m' = let c = m in let c' = m'.1 in apart (cc)
    means_one (bool b) (object ms') j m m' = let c = m in let c' = m'.1 in apart (cc)
    means_one (number z) null j m m' = let c = m in let c' = m' in apart (cc)
    means_one (number z) (bool b') j m m' = let c = m in let c' = m' in apart (cc)
    means_one (number z) (number z') j m m' = cc
    means_one (number z) (string bs') j m m' = let c = m in let c' = m' in apart (cc)
    means_one (number z) (array vs') j m m' = let c = m in let c' = m'.1 in apart (cc)
    means_one (number z) (object ms') j m m' = let c = m in let c' = m'.1 in apart (cc)
    means_one (string bs) null j m m' = let c = m in let c' = m' in apart (cc)
    means_one (string bs) (bool b') j m m' = let c = m in let c' = m' in apart (cc)
    means_one (string bs) (number z') j m m' = let c = m in let c' = m' in apart (cc)
    means_one (string bs) (string bs') j m m' = cc
    means_one (string bs) (array vs') j m m' = let c = m in let c' = m'.1 in apart (cc)
    means_one (string bs) (object ms') j m m' = let c = m in let c' = m'.1 in apart (cc)
    means_one (array vs) null j m m' = let c = m.1 in let c' = m' in apart (cc)
    means_one (array vs) (bool b') j m m' = let c = m.1 in let c' = m' in apart (cc)
    means_one (array vs) (number z') j m m' = let c = m.1 in let c' = m' in apart (cc)
    means_one (array vs) (string bs') j m m' = let c = m.1 in let c' = m' in apart (cc)
    means_one (array vs) (array vs') j m m' =
        let c = m.1 in
        let c' = m'.1 in
        let z : m'.0 ≡ m.0 = cc in
        let n : item_count vs ≡ item_count vs' = cc in
        ap array (items_one vs vs' j m.0 n m.2 (rw z at m'.2))
    means_one (array vs) (object ms') j m m' = let c = m.1 in let c' = m'.1 in apart (cc)
    means_one (object ms) null j m m' = let c = m.1 in let c' = m' in apart (cc)
    means_one (object ms) (bool b') j m m' = let c = m.1 in let c' = m' in apart (cc)
    means_one (object ms) (number z') j m m' = let c = m.1 in let c' = m' in apart (cc)
    means_one (object ms) (string bs') j m m' = let c = m.1 in let c' = m' in apart (cc)
    means_one (object ms) (array vs') j m m' = let c = m.1 in let c' = m'.1 in apart (cc)
    means_one (object ms) (object ms') j m m' =
        let c = m.1 in
        let c' = m'.1 in
        let z : m'.0 ≡ m.0 = cc in
        let n : field_count ms ≡ field_count ms' = cc in
        ap object (fields_one ms ms' j m.0 n m.2 (rw z at m'.2))

    pub items_one : (vs vs' : Items) (j k : ℕ) → item_count vs ≡ item_count vs' → MeansItems d j k vs → MeansItems d j k vs' → vs ≡ vs'
    items_one no_item no_item j k n m m' = refl
    items_one no_item (item v' vs') j k n m m' = absurd (omega arith)
    items_one (item v vs) no_item j k n m m' = absurd (omega arith)
    items_one (item v vs) (item v' vs') j k n m m' =
        let a = means_one v v' k m.1 m'.1 in
        let b = items_one vs vs' j (suc k) (omega arith) m.2 m'.2 in
        cc

    pub fields_one : (ms ms' : Fields) (j k : ℕ) → field_count ms ≡ field_count ms' → MeansFields d j k ms → MeansFields d j k ms' → ms ≡ ms'
    fields_one no_field no_field j k n m m' = refl
    fields_one no_field (field l' v' ms') j k n m m' = absurd (omega arith)
    fields_one (field l v ms) no_field j k n m m' = absurd (omega arith)
    fields_one (field l v ms) (field l' v' ms') j k n m m' =
        let c = m.1 in
        let c' = m'.1 in
        let a = means_one v v' k m.2 m'.2 in
        let b = fields_one ms ms' j (suc k) (omega arith) m.3 m'.3 in
        cc
