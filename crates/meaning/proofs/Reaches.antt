-- The keywords that take children, in words.
--     reaches     what `Reaches` says, for every record, pair and clauses before
-- Assumes nothing.
use mathlib.Core.Bool.{Bool, true, false, not, cond, true≢false}
use mathlib.Core.List.Memᴰ.{head as at_head}
use mathlib.Core.List.Memᴰ.{tail as in_Tail}
use mathlib.Core.List.{List, [], ◌∷◌, ◌++◌, map, Memᴰ as In}
use mathlib.Core.List.Memᴰ
use mathlib.Core.List.{append-nil}
use mathlib.Core.Logic.{◌↔◌, ⊎_elim}
use mathlib.Core.Option.{Option, none, some}
use mathlib.Core.Path.{◌≡◌, refl, sym, ap, ◌∙◌, subst}
use Prim.Native.Nat.{ℕ, zero, suc, ◌+◌, ◌-◌, ◌≤◌, ◌<◌}
use native.Mathlib.Omega.{arith}
use lib.ListN.{length, get_or, drop}
use Rattle.laws.proofs.Tests.{decide}
use Rattle.sheet.specs.Doc.{Doc}
use Rattle.rulesheet.specs.Ruleset.{properties, additional_properties, prefix_items, items, unevaluated_properties, unevaluated_items, Clause, asserts, in_place, if_then_else, dependent_schemas, contains, takes}
use Rattle.meaning.specs.Lists.{any, range, keep, concat_map}
use Rattle.meaning.specs.Tests.{elements?, members?, rows}
use Rattle.meaning.specs.Rules.{Pair, Marks, none?, to, under, across, called, members_of, elements_of, names_of, prefix_of, has_member, taken, depended}
use Rattle.meaning.specs.Keywords.{Within, NoPrefix, Member, Element, Named, Reaches}
use Rattle.meaning.proofs.Members.{in_range, drop_range, in_keep, in_concat, concat_append, one_passes}
use Rattle.meaning.proofs.Found.{only_array, only_object}
use Rattle.meaning.proofs.Values.{called_is, and_then}

module _ (D : Doc) where
  member_in : (j k : ℕ) → In k (members_of D j) ↔ Member D j k
  unfolding members_of rows members?
  member_in j k = (λ i. there (members? (D.value j)) refl i, λ w. back w)
    where
      there : (o : Option (List ℕ)) → members? (D.value j) ≡ o → In k (rows o) → Member D j k
      there none e i = elim i [ ]
      there (some xs) e i =
          let w = only_object (D.value j) xs e in
          record { first = w.0.0; count = w.0.1; of_object = w.1; within = (in_range w.0.0 w.0.1 k).0 (subst (λ l. In k l) w.2 i) }

      back : Member D j k → In k (rows (members? (D.value j)))
      back w = subst (λ v. In k (rows (members? v))) (sym w.of_object) ((in_range w.first w.count k).1 w.within)

  element_in : (j k : ℕ) → In k (elements_of D j) ↔ ((i : ℕ) × Element D j i k)
  unfolding elements_of rows elements?
  element_in j k = (λ i. there (elements? (D.value j)) refl i, λ w. back w.0 w.1)
    where
      there : (o : Option (List ℕ)) → elements? (D.value j) ≡ o → In k (rows o) → (i : ℕ) × Element D j i k
      there none e i = elim i [ ]
      there (some xs) e i =
          let w = only_array (D.value j) xs e in
          let h = (in_range w.0.0 w.0.1 k).0 (subst (λ l. In k l) w.2 i) in
          (k - w.0.0, record { first = w.0.0; count = w.0.1; of_array = w.1; below = omega (arith, h.0, h.1); place = omega (arith, h.0) })

      back : (i : ℕ) → Element D j i k → In k (rows (elements? (D.value j)))
      back i w = subst (λ v. In k (rows (elements? v))) (sym w.of_array) ((in_range w.first w.count k).1 (omega (arith, w.place), omega (arith, w.place, w.below)))

  under_is : (p : Pair) (s : ℕ) (ks : List ℕ) (q : Pair) → In q (under p s ks) ↔ (In q.row ks × (q.rule ≡ s))
  unfolding under to
  under_is p s ks q = (
    λ i. let w = Memᴰ.of_map (λ k. to p k s) ks i in (Memᴰ.cast (sym (ap (λ (x : Pair). x.row) w.2)) w.1, sym (ap (λ (x : Pair). x.rule) w.2)),
    λ h. Memᴰ.cast (λ i. record { row = q.row; rule = h.1 i }) (Memᴰ.map (λ k. to p k s) h.0),
  )

  not_is_false : (b : Bool) → (not b ≡ true) ↔ (b ≡ false)
  not_is_false true = (λ e. sym e, λ e. sym e)
  not_is_false false = (λ e. refl, λ e. refl)

  -- the names that clauses give
  names_in : (c : Clause) (n : List ℕ) → In n (names_of c) → (es : List (List ℕ × ℕ)) × (e : List ℕ × ℕ) × (takes (properties es) ≡ c) × In e es × (e.0 ≡ n)
  unfolding names_of
  names_in (asserts t) n i = elim i [ ]
  names_in (in_place m ss) n i = elim i [ ]
  names_in (if_then_else a b c) n i = elim i [ ]
  names_in (dependent_schemas es) n i = elim i [ ]
  names_in (contains s least most) n i = elim i [ ]
  names_in (takes (properties es)) n i = let w = Memᴰ.of_map (λ e. e.0) es i in (es, w.0, refl, w.1, w.2)
  names_in (takes (additional_properties s)) n i = elim i [ ]
  names_in (takes (prefix_items ss)) n i = elim i [ ]
  names_in (takes (items s)) n i = elim i [ ]
  names_in (takes (unevaluated_properties s)) n i = elim i [ ]
  names_in (takes (unevaluated_items s)) n i = elim i [ ]

  named_is : (cs : List Clause) (k : ℕ) → (any (map (λ n. called D n k) (concat_map names_of cs)) ≡ true) ↔ Named D cs k
  unfolding names_of
  named_is cs k = (
    λ h.
        let w = (one_passes (λ n. called D n k) (concat_map names_of cs)).0 h in
        let v = (in_concat names_of w.0 cs).0 w.1 in
        let u = names_in v.0 w.0 v.2 in
        (u.0, u.1, Memᴰ.cast u.2 v.1, u.3, u.4 ∙ sym ((called_is D w.0 k).0 w.2)),
    λ h.
        (one_passes (λ n. called D n k) (concat_map names_of cs)).1
        (h.1.0, (in_concat names_of h.1.0 cs).1 (takes (properties h.0), h.2, Memᴰ.map (λ e. e.0) h.3), (called_is D h.1.0 k).1 (sym h.4)),
  )

  unnamed_is : (cs : List Clause) (k : ℕ) → (none? (map (λ n. called D n k) (concat_map names_of cs)) ≡ true) ↔ (Named D cs k → ⊥)
  unfolding none?
  unnamed_is cs k =
      let b = any (map (λ n. called D n k) (concat_map names_of cs)) in (
        λ h n. true≢false (sym ((named_is cs k).1 n) ∙ (not_is_false b).0 h),
        λ h. (not_is_false b).1 (⊎_elim (λ e. absurd (h ((named_is cs k).0 e))) (λ e. e) (decide b)),
      )

  -- an adjacent prefixItems
  no_prefix : (cs : List Clause) → NoPrefix cs → concat_map prefix_of cs ≡ []
  unfolding concat_map prefix_of
  no_prefix [] h = refl
  no_prefix (c ∷ cs) h = ap (λ l. l ++ concat_map prefix_of cs) (of_clause c (λ ss e. h ss (at_head e))) ∙ no_prefix cs (λ ss i. h ss (in_Tail i))
    where
      of_clause : (c : Clause) → ((ss : List ℕ) → takes (prefix_items ss) ≡ c → ⊥) → prefix_of c ≡ []
      of_clause (asserts t) g = refl
      of_clause (in_place m ss) g = refl
      of_clause (if_then_else a b c) g = refl
      of_clause (dependent_schemas es) g = refl
      of_clause (contains s least most) g = refl
      of_clause (takes (properties es)) g = refl
      of_clause (takes (additional_properties s)) g = refl
      of_clause (takes (prefix_items ss)) g = absurd (g ss refl)
      of_clause (takes (items s)) g = refl
      of_clause (takes (unevaluated_properties s)) g = refl
      of_clause (takes (unevaluated_items s)) g = refl

  one_prefix : (cs ds : List Clause) (ss : List ℕ) → NoPrefix cs → NoPrefix ds → concat_map prefix_of (cs ++ takes (prefix_items ss) ∷ ds) ≡ ss
  unfolding concat_map prefix_of
  one_prefix cs ds ss h g =
      concat_append prefix_of cs (takes (prefix_items ss) ∷ ds) ∙ rw (no_prefix cs h, no_prefix ds g) (append-nil ss)

  after_in : (d j k : ℕ) → In k (drop d (elements_of D j)) ↔ ((i : ℕ) × Element D j i k × (d ≤ i))
  unfolding elements_of rows elements?
  after_in d j k = (λ i. there (elements? (D.value j)) refl i, λ w. back w.0 w.1 w.2)
    where
      nothing_after : (d : ℕ) → In k (drop d []) → (i : ℕ) × Element D j i k × (d ≤ i)
      nothing_after zero i = elim i [ ]
      nothing_after (suc d) i = elim i [ ]

      there : (o : Option (List ℕ)) → elements? (D.value j) ≡ o → In k (drop d (rows o)) → (i : ℕ) × Element D j i k × (d ≤ i)
      there none e i = nothing_after d i
      there (some xs) e i =
          let w = only_array (D.value j) xs e in
          let a = w.0.0 in
          let n = w.0.1 in
          let h = (in_range (a + d) (n - d) k).0 (subst (λ l. In k l) (ap (drop d) w.2 ∙ drop_range d a n) i) in
          (k - a, record { first = a; count = n; of_array = w.1; below = omega (arith, h.0, h.1); place = omega (arith, h.0) }, omega (arith, h.0))

      back : (i : ℕ) → Element D j i k → d ≤ i → In k (drop d (rows (elements? (D.value j))))
      back i w h =
          subst (λ v. In k (drop d (rows (elements? v)))) (sym w.of_array)
          (subst (λ l. In k l) (sym (drop_range d w.first w.count))
          ((in_range (w.first + d) (w.count - d) k).1 (omega (arith, w.place), omega (arith, w.place, w.below))))

  -- place by place
  across_in : (p : Pair) (ss : List ℕ) (a n : ℕ) (q : Pair) → In q (across p (range a n) ss)
      → (i : ℕ) × (i < n) × (i < length ss) × (q.row ≡ a + i) × (q.rule ≡ get_or ss i 0)
  unfolding across to range
  across_in p ss a zero q i = elim i [ ]
  across_in p [] a (suc n) q i = elim i [ ]
  across_in p (s ∷ ss) a (suc n) q i =
      ⊎_elim
      (λ (e : q ≡ to p a s). (zero, omega arith, omega arith, ap (λ (x : Pair). x.row) e ∙ omega arith, ap (λ (x : Pair). x.rule) e))
      (λ j. let w = across_in p ss (suc a) n q j in (suc w.0, omega (arith, w.1), omega (arith, w.2), omega (arith, w.3), w.4))
      (Memᴰ.cases_cons i)

  in_across : (p : Pair) (ss : List ℕ) (a n i : ℕ) (q : Pair) → i < n → i < length ss → q.row ≡ a + i → q.rule ≡ get_or ss i 0 → In q (across p (range a n) ss)
  unfolding across to range
  in_across p ss a zero i q h g e f = absurd (none_below h)
    where
      none_below : i < zero → ⊥
      none_below h = omega arith
  in_across p [] a (suc n) i q h g e f = absurd (none_below g)
    where
      none_below : i < zero → ⊥
      none_below h = omega arith
  in_across p (s ∷ ss) a (suc n) zero q h g e f = let e' : q.row ≡ a = omega (arith, e) in at_head (λ i. record { row = e' i; rule = f i })
  in_across p (s ∷ ss) a (suc n) (suc i) q h g e f = in_Tail (in_across p ss (suc a) n i q (omega arith) (omega arith) (omega (arith, e)) f)

  across_is : (p : Pair) (ss : List ℕ) (q : Pair) → In q (across p (elements_of D p.row) ss)
      ↔ ((i : ℕ) × Element D p.row i q.row × (i < length ss) × (q.rule ≡ get_or ss i 0))
  unfolding elements_of rows elements? across
  across_is p ss q = (λ i. there (elements? (D.value p.row)) refl i, λ w. back w.0 w.1 w.2 w.3)
    where
      there : (o : Option (List ℕ)) → elements? (D.value p.row) ≡ o → In q (across p (rows o) ss)
          → (i : ℕ) × Element D p.row i q.row × (i < length ss) × (q.rule ≡ get_or ss i 0)
      there none e i = elim i [ ]
      there (some xs) e i =
          let w = only_array (D.value p.row) xs e in
          let u = across_in p ss w.0.0 w.0.1 q (subst (λ l. In q (across p l ss)) w.2 i) in
          (u.0, record { first = w.0.0; count = w.0.1; of_array = w.1; below = u.1; place = u.3 }, u.2, u.4)

      back : (i : ℕ) → Element D p.row i q.row → i < length ss → q.rule ≡ get_or ss i 0 → In q (across p (rows (elements? (D.value p.row))) ss)
      back i w h e =
          subst (λ v. In q (across p (rows (elements? v)) ss)) (sym w.of_array) (in_across p ss w.first w.count i q w.below h w.place e)

  -- of the members, and of the elements, those that pass a test
  module _ (p q : Pair) (s : ℕ) where
    kept_members : {P : Type 0} (t : ℕ → Bool) → (t q.row ≡ true) ↔ P
        → In q (under p s (keep t (members_of D p.row))) ↔ (Member D p.row q.row × (q.rule ≡ s) × P)
    kept_members t f = (
      λ i.
          let u = (under_is p s (keep t (members_of D p.row)) q).0 i in
          let k = (in_keep t q.row (members_of D p.row)).0 u.0 in
          ((member_in p.row q.row).0 k.0, u.1, f.0 k.1),
      λ h. (under_is p s (keep t (members_of D p.row)) q).1 ((in_keep t q.row (members_of D p.row)).1 ((member_in p.row q.row).1 h.0, f.1 h.2), h.1),
    )

    kept_elements : {P : Type 0} (t : ℕ → Bool) → (t q.row ≡ true) ↔ P
        → In q (under p s (keep t (elements_of D p.row))) ↔ ((i : ℕ) × Element D p.row i q.row × (q.rule ≡ s) × P)
    kept_elements t f = (
      λ i.
          let u = (under_is p s (keep t (elements_of D p.row)) q).0 i in
          let k = (in_keep t q.row (elements_of D p.row)).0 u.0 in
          let e = (element_in p.row q.row).0 k.0 in
          (e.0, e.1, u.1, f.0 k.1),
      λ h.
          (under_is p s (keep t (elements_of D p.row)) q).1
          ((in_keep t q.row (elements_of D p.row)).1 ((element_in p.row q.row).1 (h.0, h.1), f.1 h.3), h.2),
    )

    -- the elements from the d-th on
    later_elements : (d k : ℕ) → d ≡ k → In q (under p s (drop d (elements_of D p.row))) ↔ ((i : ℕ) × Element D p.row i q.row × (q.rule ≡ s) × (k ≤ i))
    later_elements d k same = (
      λ i.
          let u = (under_is p s (drop d (elements_of D p.row)) q).0 i in
          let e = (after_in d p.row q.row).0 u.0 in
          (e.0, e.1, u.1, omega (arith, e.2, same)),
      λ h. (under_is p s (drop d (elements_of D p.row)) q).1 ((after_in d p.row q.row).1 (h.0, h.1, omega (arith, h.3, same)), h.2),
    )

    any_elements : ((i : ℕ) × Element D p.row i q.row × (q.rule ≡ s) × (0 ≤ i)) ↔ ((i : ℕ) × Element D p.row i q.row × (q.rule ≡ s))
    any_elements = (λ h. (h.0, h.1, h.2), λ h. (h.0, h.1, h.2, omega arith))

  properties_in : (p : Pair) (es : List (List ℕ × ℕ)) (q : Pair)
      → In q (concat_map (λ e. under p e.1 (keep (called D e.0) (members_of D p.row))) es)
      ↔ (Member D p.row q.row × ((e : List ℕ × ℕ) × In e es × (e.0 ≡ D.name q.row) × (e.1 ≡ q.rule)))
  properties_in p es q = (
    λ i.
        let w = (in_concat (λ e. under p e.1 (keep (called D e.0) (members_of D p.row))) q es).0 i in
        let u = (kept_members p q w.0.1 (called D w.0.0) (called_is D w.0.0 q.row)).0 w.2 in
        (u.0, (w.0, w.1, sym u.2, sym u.1)),
    λ h.
        let e = h.1.0 in
        (in_concat (λ x. under p x.1 (keep (called D x.0) (members_of D p.row))) q es).1
        (e, h.1.1, (kept_members p q e.1 (called D e.0) (called_is D e.0 q.row)).1 (h.0, sym h.1.3, sym h.1.2)),
  )

  -- a name that a member has
  has_is : (j : ℕ) (name : List ℕ) → (has_member D j name ≡ true) ↔ ((k : ℕ) × Member D j k × (name ≡ D.name k))
  unfolding has_member
  has_is j name = (
    λ e. let w = (one_passes (λ k. called D name k) (members_of D j)).0 e in (w.0, (member_in j w.0).0 w.1, sym ((called_is D name w.0).0 w.2)),
    λ h. (one_passes (λ k. called D name k) (members_of D j)).1 (h.0, (member_in j h.0).1 h.1, (called_is D name h.0).1 (sym h.2)),
  )

  depended_is : (p : Pair) (es : List (List ℕ × ℕ)) (q : Pair) → In q (depended D p es) ↔
      ((q.row ≡ p.row) × ((e : List ℕ × ℕ) × In e es × (e.1 ≡ q.rule) × ((k : ℕ) × Member D p.row k × (e.0 ≡ D.name k))))
  unfolding depended to
  depended_is p es q = (
    λ i.
        let w = (in_concat (λ e. cond (has_member D p.row e.0) (to p p.row e.1 ∷ []) []) q es).0 i in
        let o = only (has_member D p.row w.0.0) w.0.1 w.2 in
        (o.1, (w.0, w.1, o.2, (has_is p.row w.0.0).0 o.0)),
    λ h.
        let e = h.1.0 in
        (in_concat (λ x. cond (has_member D p.row x.0) (to p p.row x.1 ∷ []) []) q es).1
        (e, h.1.1, rw ((has_is p.row e.0).1 h.1.3) (at_head (λ i. record { row = h.0 i; rule = sym h.1.2 i }))),
  )
    where
      only : (b : Bool) (s : ℕ) → In q (cond b (to p p.row s ∷ []) []) → (b ≡ true) × (q.row ≡ p.row) × (s ≡ q.rule)
      only true s i =
          let e = Memᴰ.eq_of_singleton i in
          (refl, ap (λ (x : Pair). x.row) e, sym (ap (λ (x : Pair). x.rule) e))
      only false s i = elim i [ ]

  pub reaches : (p : Pair) (before : List Clause) (κ : Marks) → Reaches D p before κ
  unfolding taken
  reaches p before κ =
      record {
        properties_is = properties_in p;
        additional_properties_is = λ s q. kept_members p q s (λ k. none? (map (λ n. called D n k) (concat_map names_of before))) (unnamed_is before q.row);
        prefix_items_is = across_is p;
        items_is = λ s q h. and_then (later_elements p q s (length (concat_map prefix_of before)) 0 (ap length (no_prefix before h))) (any_elements p q s);
        items_after = λ s ss cs ds q e h g.
            later_elements p q s (length (concat_map prefix_of before)) (length ss) (ap (λ l. length (concat_map prefix_of l)) e ∙ ap length (one_prefix cs ds ss h g));
        dependent_schemas_is = λ es q. depended_is p es q;
        contains_is = λ s q. (
          λ i. let u = (under_is p s (elements_of D p.row) q).0 i in let e = (element_in p.row q.row).0 u.0 in (e.0, e.1, u.1),
          λ h. (under_is p s (elements_of D p.row) q).1 ((element_in p.row q.row).1 (h.0, h.1), h.2),
        );
        unevaluated_properties_is = λ s q. kept_members p q s (λ k. not (κ k)) (not_is_false (κ q.row));
        unevaluated_items_is = λ s q. kept_elements p q s (λ k. not (κ k)) (not_is_false (κ q.row));
      }
