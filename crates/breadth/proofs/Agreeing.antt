-- Two records that agree on their first n rows, none of whose children lie behind them.
--     Agrees          they do
--     means_same      a row means the same in both
--     level_same      and is at the same level
-- Assumes nothing.
use mathlib.Core.List.{List}
use mathlib.Core.Path.{◌≡◌, refl, sym, ap, ◌∙◌}
use Prim.Native.Nat.{ℕ, zero, suc, ◌+◌, ◌<◌}
use native.Mathlib.Omega.{arith}
use lib.ListN.{get_or}
use Rattle.jsontext.specs.Datum.{Datum, null, bool, number, string, array, object, Items, no_item, item, Fields, no_field, field}
use Rattle.sheet.specs.Doc.{Doc, first_child, child_count, Child, levels, level}
use Rattle.breadth.specs.Meaning.{item_count, field_count, Means, MeansItems, MeansFields}

pub record Agrees (d e : Doc) (n : ℕ) : Type 0 where
  pub same_value : (j : ℕ) → j < n → d.value j ≡ e.value j
  pub same_name : (j : ℕ) → j < n → d.name j ≡ e.name j
  pub same_owner : (j : ℕ) → j < n → d.owner j ≡ e.owner j

module _ (d e : Doc) (n : ℕ) (a : Agrees d e n) (inside : (j k : ℕ) → j < n → Child d j k → k < n) where
  -- the children of row j lie among the rows
  within : (j first count : ℕ) → j < n → (first_child (d.value j) ≡ first) × (child_count (d.value j) ≡ count) → (i : ℕ) → i < count → first + i < n
  within j first count h v i q = inside j (first + i) h (record { after = omega (arith, v.0); within = omega (arith, v.0, v.1) })

  mutual
    pub means_same : (v : Datum) (j : ℕ) → j < n → Means d j v → Means e j v
    means_same null j h m = sym (a.same_value j h) ∙ m
    means_same (bool b) j h m = sym (a.same_value j h) ∙ m
    means_same (number z) j h m = sym (a.same_value j h) ∙ m
    means_same (string bs) j h m = sym (a.same_value j h) ∙ m
    means_same (array vs) j h (first, v, ms) = (
      first,
      sym (a.same_value j h) ∙ v,
      items_same vs j first (within j first (item_count vs) h (ap first_child v, ap child_count v)) ms,
    )
    means_same (object fs) j h (first, v, ms) = (
      first,
      sym (a.same_value j h) ∙ v,
      fields_same fs j first (within j first (field_count fs) h (ap first_child v, ap child_count v)) ms,
    )

    items_same : (vs : Items) (j k : ℕ) → ((i : ℕ) → i < item_count vs → k + i < n) → MeansItems d j k vs → MeansItems e j k vs
    items_same no_item j k w m = tt
    items_same (item v vs) j k w (o, m, ms) =
        let h : k < n = omega (arith, w 0 (omega arith)) in (
          sym (a.same_owner k h) ∙ o,
          means_same v k h m,
          items_same vs j (suc k) (λ (i : ℕ) (q : i < item_count vs). omega (arith, w (suc i) (omega arith))) ms,
        )

    fields_same : (fs : Fields) (j k : ℕ) → ((i : ℕ) → i < field_count fs → k + i < n) → MeansFields d j k fs → MeansFields e j k fs
    fields_same no_field j k w m = tt
    fields_same (field s v fs) j k w (o, l, m, ms) =
        let h : k < n = omega (arith, w 0 (omega arith)) in (
          sym (a.same_owner k h) ∙ o,
          sym (a.same_name k h) ∙ l,
          means_same v k h m,
          fields_same fs j (suc k) (λ (i : ℕ) (q : i < field_count fs). omega (arith, w (suc i) (omega arith))) ms,
        )

levels_same : (f g : ℕ → ℕ) (n : ℕ) → ((j : ℕ) → j < n → f j ≡ g j) → levels f n ≡ levels g n
unfolding levels
levels_same f g zero s = refl
levels_same f g (suc n) s =
    let r = levels_same f g n (λ (j : ℕ) (h : j < n). s j (omega arith)) in
    rw (r, s n (omega arith))

pub level_same : (f g : ℕ → ℕ) (n j : ℕ) → ((i : ℕ) → i < n → f i ≡ g i) → j < n → level f j ≡ level g j
unfolding level
level_same f g n j s h = ap (λ (l : List ℕ). get_or l j 0) (levels_same f g (suc j) (λ (i : ℕ) (q : i < suc j). s i (omega arith)))
