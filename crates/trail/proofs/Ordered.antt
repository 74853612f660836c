-- After some bytes of a text: a fault that was found starts before the next byte and behind the last name, and so do the places that are kept for one.
--     ordered    the theorem
-- Assumes nothing.
use mathlib.Core.Bool.{Bool, true, false}
use mathlib.Core.List.{List}
use mathlib.Core.Logic.{◌≢◌, ◌⊎◌, ⊎_elim}
use mathlib.Core.Option.{some}
use mathlib.Core.Path.{◌≡◌, refl, sym, ◌∙◌, ap, subst}
use Prim.Native.Nat.{ℕ, suc, ◌+◌, ◌-◌, ◌≤◌, ◌<◌}
use native.Mathlib.Omega.{arith}
use borrow.Author.Tests.{eqb-true}
use lib.Dec.{eqb}
use lib.ListN.{length, get_or, drop, length-drop}
use Rattle.jsontext.specs.Automaton.{Bracket, as_name, Place, text, State, at, step}
use Rattle.jsontext.proofs.Trimming.{by_zero}
use Rattle.sheet.specs.Faults.{level_refused}
use Rattle.survey.specs.declared.Watch.{Watch}
use Rattle.survey.specs.Watching.{no_escapes, with_escapes, moved, watching}
use Rattle.survey.proofs.Orders.{going, stays}
use Rattle.naming.specs.Gathering.{Gather, opens_name, names, gather}
use Rattle.trail.specs.Trail.{Kept, Trail, begins, goes}
use Rattle.trail.proofs.Places.{is_number, in_escape, in_name, is_text, bracketed}
use Rattle.trail.proofs.Moves.{name_no_value, Leads, leads}
use Rattle.trail.proofs.Finding.{After, found_after}
use Rattle.trail.proofs.Naming.{Same, View, a_start, no_start, view}

-- v, a place told by the bytes left from there on, is before byte i and behind the last name, of which `last` tells the place, or 0
abbrev pub Recent : List ℕ → ℕ → ℕ → ℕ → Type 0
Recent json i last v = (length json < i + v) × (0 < last → v < last)

pub record Ordered (json : List ℕ) (i : ℕ) (p : Place) (ks : List Bracket) (w : Watch) (g : Gather) : Type 0 where
  pub inside : i ≤ length json
  pub number : w.fault ≡ 0 → is_number p ≡ true → Recent json i g.left w.start
  pub escape : w.fault ≡ 0 → in_escape p ≡ true → Recent json i g.left w.escapes.here
  pub waits : w.fault ≡ 0 → w.escapes.waits ≢ 0 → Recent json i g.left w.escapes.waiting
  pub found : w.fault ≢ 0 → Recent json i g.left w.left
  pub far : 0 < g.left → length json < i + g.left
  pub named : g.on ≡ true → in_name p ≡ true
  pub shallow : w.fault ≡ 0 → length ks < level_refused
  pub depth : length ks ≤ level_refused

abbrev pub OrderedAt : List ℕ → ℕ → State → Kept → Type 0
OrderedAt json i (at p ks) x = Ordered json i p ks x.watch x.names

false_is : {A : Type 0} → false ≡ true → A
false_is e = absurd (let z : ◌≡◌ {A = ℕ} 0 1 = cc in omega arith)

-- one byte more
module _ (json : List ℕ) (i : ℕ) (p : Place) (ks : List Bracket) (q : Place) (ls : List Bracket) (w : Watch) (g : Gather) (o : Ordered json i p ks w g)
    (more : i < length json) (e : step (at p ks) (get_or json i 0) ≡ some (at q ls)) where
  abbrev b : ℕ
  b = get_or json i 0

  abbrev bs : List ℕ
  bs = drop (suc i) json

  abbrev lft : ℕ
  lft = suc (length bs)

  lft_is : lft ≡ length json - i
  lft_is = omega (arith, length-drop (suc i) json)

  way : Leads p ks b q ls
  way = leads p ks b q ls e

  abbrev R : ℕ → Type 0
  R v = Recent json (suc i) g.left v

  later : (v : ℕ) → Recent json i g.left v → R v
  later v r = (omega (arith, r.0), r.1)

  here : R lft
  here = (omega (arith, lft_is), λ (z : 0 < g.left). omega (arith, lft_is, o.far z))

  far_on : 0 < g.left → length json < suc i + g.left
  far_on z = omega (arith, o.far z)

  -- ---- before a fault

  module _ (calm : w.fault ≡ 0) where
    after_byte : After R p (length ks) b (moved p (length ks) b lft w)
    after_byte =
        found_after R (length ks) b lft here w calm (λ z. later w.escapes.waiting (o.waits calm z)) p (λ z. later w.start (o.number calm z))
        (λ z. later w.escapes.here (o.escape calm z))

    depth_on : (w' : Watch) → After R p (length ks) b w' → w'.fault ≡ 0 → length ls < level_refused
    depth_on w' a z =
        let k : length ks < level_refused = o.shallow calm in
        ⊎_elim
        (λ (c : bracketed p b ≡ true). let ne = a.low z c in omega (arith, way.few))
        (λ (l : length ls ≤ length ks). omega arith)
        way.deeper

    -- no name starts
    plainly : (w' : Watch) (g' : Gather) → After R p (length ks) b w' → g'.left ≡ g.left → (g'.on ≡ true → in_name q ≡ true) → Ordered json (suc i) q ls w' g'
    plainly w' g' a l n =
        record {
          inside = omega arith;
          number = λ z y. rw l (a.number z (way.number y));
          escape = λ z y. rw l (a.escape z (way.escape y));
          waits = λ z y. rw l (a.waits z y);
          found = λ z. rw l (a.found z);
          far = rw l far_on;
          named = n;
          shallow = depth_on w' a;
          depth = omega (arith, o.shallow calm, way.few);
        }

    -- one starts
    newly : (w' : Watch) (g' : Gather) → w' ≡ with_escapes no_escapes w → g'.left ≡ lft → q ≡ text as_name → ls ≡ ks → Ordered json (suc i) q ls w' g'
    newly w' g' u l in_text same =
        let quiet : w'.fault ≡ 0 = ap (λ (x : Watch). x.fault) u ∙ calm in
        let none : w'.escapes.waits ≡ 0 = ap (λ (x : Watch). x.escapes.waits) u in
        record {
          inside = omega arith;
          number = λ z y. false_is (rw in_text at y);
          escape = λ z y. false_is (rw in_text at y);
          waits = λ z y. absurd (y none);
          found = λ z. absurd (z quiet);
          far = λ z. omega (arith, lft_is);
          named = λ z. rw in_text;
          shallow = λ z. rw same (o.shallow calm);
          depth = rw same o.depth;
        }

  -- ---- the name under way

  still_named : (g' : Gather) → Same g g' → (in_name p ≡ true → is_text p ≡ true → b ≡ 0x22 → g'.on ≡ false) → g'.on ≡ true → in_name q ≡ true
  still_named g' s shuts z =
      let inside : in_name p ≡ true = o.named (s.on_is z) in
      ⊎_elim
      (λ (y : in_name q ≡ true). y)
      (λ (y : (is_text p ≡ true) × (b ≡ 0x22)). false_is (sym (shuts inside y.0 y.1) ∙ z))
      (way.name inside)

  closes : (in_name p ≡ true → is_text p ≡ true → (ks : List Bracket) (bs : List ℕ) (g : Gather) → (gather 0 p ks 0x22 bs g).on ≡ false)
      → in_name p ≡ true → is_text p ≡ true → b ≡ 0x22 → (gather 0 p ks b bs g).on ≡ false
  closes f x y z = rw z (f x y ks bs g)

  calm_on : w.fault ≡ 0 → View p → Ordered json (suc i) q ls (moved p (length ks) b lft w) (gather 0 p ks b bs g)
  unfolding names opens_name
  calm_on calm (no_start u s c) =
      plainly calm _ (gather 0 p ks b bs g) (after_byte calm) (s ks b bs g).left_is (still_named (gather 0 p ks b bs g) (s ks b bs g) (closes c))
  calm_on calm (a_start out u to fresh) = subst (Ordered json (suc i) q ls (moved p (length ks) b lft w)) (sym (u 0 ks b bs g)) (go (eqb b 0x22) refl)
    where
      go : (t : Bool) → eqb b 0x22 ≡ t → Ordered json (suc i) q ls (moved p (length ks) b lft w) (names 0 ks b bs g)
      go true z =
          let quote : b ≡ 0x22 = eqb-true b 0x22 z in
          let leads_to : some (at q ls) ≡ some (at (text as_name) ks) = sym e ∙ ap (step (at p ks)) quote ∙ to ks in
          newly calm (moved p (length ks) b lft w) (names 0 ks b bs g) (ap (λ (x : ℕ). moved p (length ks) x lft w) quote ∙ fresh (length ks) lft w) (rw z) (cc) (cc)
      go false z =
          plainly calm (moved p (length ks) b lft w) (names 0 ks b bs g) (after_byte calm) (rw z)
          (λ (y : (names 0 ks b bs g).on ≡ true). false_is (sym out ∙ o.named (rw z at y)))

  -- ---- after one

  fault_on : w.fault ≢ 0 → g.on ≡ true → View p → Ordered json (suc i) q ls w (gather 0 p ks b bs g)
  fault_on bad on (a_start out u to fresh) = false_is (sym out ∙ o.named on)
  fault_on bad on (no_start u s c) =
      let same = s ks b bs g in
      record {
        inside = omega arith;
        number = λ z. absurd (bad z);
        escape = λ z. absurd (bad z);
        waits = λ z. absurd (bad z);
        found = λ z. rw same.left_is (later w.left (o.found z));
        far = rw same.left_is far_on;
        named = still_named (gather 0 p ks b bs g) same (closes c);
        shallow = λ z. absurd (bad z);
        depth = ⊎_elim (λ (v : bracketed p b ≡ true). absurd (name_no_value p b (o.named on) v)) (λ (l : length ls ≤ length ks). omega (arith, o.depth)) way.deeper;
      }

  pub next : (w.fault ≡ 0) ⊎ (g.on ≡ true) → Ordered json (suc i) q ls (watching p ks b bs w) (gather 0 p ks b bs g)
  next on =
      ⊎_elim
      (λ (calm : w.fault ≡ 0). rw (going p ks b bs w calm) (calm_on calm (view p)))
      (λ (bad : w.fault ≢ 0). rw (stays w bad p ks b bs) (fault_on bad (⊎_elim (λ (z : w.fault ≡ 0). absurd (bad z)) (λ (z : g.on ≡ true). z) on) (view p)))
      (by_zero w.fault)

pub ordered : {json : List ℕ} {i : ℕ} {s : State} {x : Kept} → Trail json i s x → OrderedAt json i s x
ordered begins =
    record {
      inside = omega arith;
      number = λ z y. false_is y;
      escape = λ z y. false_is y;
      waits = λ z y. absurd (y refl);
      found = λ z. absurd (z refl);
      far = λ (z : 0 < 0). absurd (omega arith);
      named = λ y. false_is y;
      shallow = λ z. omega arith;
      depth = omega arith;
    }
ordered {json = json} (goes {i} {s = at p ks} {t = at q ls} {x} tr on more e) = next json i p ks q ls x.watch x.names (ordered tr) more e on
