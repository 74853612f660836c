-- What a byte does to the name under way.
--     view      a name may start at a place, or none may: then a name under way is the same until its closing quote, and a limit does not matter
-- Assumes nothing.
use mathlib.Core.Bool.{Bool, true, false, cond, ◌&&◌, not}
use mathlib.Core.List.{List, [], ◌∷◌}
use mathlib.Core.Option.{some}
use mathlib.Core.Path.{◌≡◌, refl, sym, ◌∙◌}
use Prim.Native.Nat.{ℕ, ◌-◌}
use native.Mathlib.Omega.{arith}
use lib.Dec.{eqb, ltb}
use Rattle.jsontext.specs.Value.{is_high}
use Rattle.jsontext.specs.Automaton.{Bracket, as_value, as_name, Left, hex1, hex2, hex3, hex4, Place, ahead, first_element, after, name, first_name, colon, word, minus, nought, whole, point, part, letter, sign, power, text, escape, unit, char, at, pick, step}
use Rattle.survey.specs.declared.Watch.{Watch}
use Rattle.survey.specs.Watching.{no_escapes, with_escapes, moved}
use Rattle.naming.specs.Gathering.{Gather, starts, says, shuts_name, unit_is, waits_for, escaped, low_ahead, short_at, digit_of, hex_more, names, gather}
use Rattle.trail.proofs.Places.{in_name, is_text}

-- the same name is under way, or none any more
pub record Same (g h : Gather) : Type 0 where
  pub left_is : h.left ≡ g.left
  pub on_is : h.on ≡ true → g.on ≡ true

by : (t : Bool) (g x y : Gather) → Same g x → Same g y → Same g (cond t x y)
by true g x y p q = p
by false g x y p q = q

unmoved : (g : Gather) → Same g g
unmoved g = record { left_is = refl; on_is = λ e. e }

module _ (g : Gather) where
  said : (bs : List ℕ) → Same g (says bs g)
  unfolding says
  said bs = record { left_is = refl; on_is = λ e. e }

  shut : Same g (shuts_name g)
  unfolding shuts_name
  shut = record { left_is = refl; on_is = λ (e : false ≡ true). absurd (let z : ◌≡◌ {A = ℕ} 0 1 = cc in omega arith) }

  unit_more : (c : ℕ) → Same g (unit_is c g)
  unfolding unit_is
  unit_more c = record { left_is = refl; on_is = λ e. e }

  waiting : (c : ℕ) → Same g (waits_for c g)
  unfolding waits_for
  waiting c = record { left_is = refl; on_is = λ e. e }

  started : (ks : List Bracket) (b : ℕ) → Same g (starts ks b g)
  unfolding starts
  started ks b = record { left_is = refl; on_is = λ e. e }

  escape_done : (c : ℕ) (bs : List ℕ) → Same g (escaped c bs g)
  unfolding escaped
  escape_done c bs = by (is_high c && low_ahead bs) g _ _ (waiting c) (said _)

  hex_more_lem : (h : Left) (b : ℕ) (bs : List ℕ) → Same g (hex_more h b bs g)
  hex_more_lem hex1 b bs = escape_done (digit_of g.unit b) bs
  hex_more_lem hex2 b bs = unit_more (digit_of g.unit b)
  hex_more_lem hex3 b bs = unit_more (digit_of g.unit b)
  hex_more_lem hex4 b bs = unit_more (digit_of g.unit b)

-- what a place is to names: one may start here, or none may and a limit does not matter
pub data View (p : Place) : Type 0 where
  a_start : in_name p ≡ false
      → ((limit : ℕ) (ks : List Bracket) (b : ℕ) (bs : List ℕ) (g : Gather) → gather limit p ks b bs g ≡ names limit ks b bs g)
      → ((ks : List Bracket) → step (at p ks) 0x22 ≡ some (at (text as_name) ks))
      → ((k left : ℕ) (w : Watch) → moved p k 0x22 left w ≡ with_escapes no_escapes w)
      → View p
  no_start : ((limit : ℕ) (ks : List Bracket) (b : ℕ) (bs : List ℕ) (g : Gather) → gather limit p ks b bs g ≡ gather 0 p ks b bs g)
      → ((ks : List Bracket) (b : ℕ) (bs : List ℕ) (g : Gather) → Same g (gather 0 p ks b bs g))
      → (in_name p ≡ true → is_text p ≡ true → (ks : List Bracket) (bs : List ℕ) (g : Gather) → (gather 0 p ks 0x22 bs g).on ≡ false)
      → View p

false_is : {A : Type 0} → false ≡ true → A
false_is e = absurd (let z : ◌≡◌ {A = ℕ} 0 1 = cc in omega arith)

idle : (p : Place) → in_name p ≡ false → ((limit : ℕ) (ks : List Bracket) (b : ℕ) (bs : List ℕ) (g : Gather) → gather limit p ks b bs g ≡ g) → View p
idle p out e = no_start (λ limit ks b bs g. e limit ks b bs g ∙ sym (e 0 ks b bs g)) (λ ks b bs g. rw (e 0 ks b bs g) (unmoved g)) (λ i. false_is (sym out ∙ i))

pub view : (p : Place) → View p
unfolding step pick shuts_name
view ahead = no_start (λ limit ks b bs g. refl) (λ ks b bs g. by (ltb 0x20 b) g _ _ (started g ks b) (unmoved g)) (λ i. false_is i)
view first_element = no_start (λ limit ks b bs g. refl) (λ ks b bs g. by (ltb 0x20 b && not (eqb b 0x5D)) g _ _ (started g ks b) (unmoved g)) (λ i. false_is i)
view after = idle after refl (λ limit ks b bs g. refl)
view name = a_start refl (λ limit ks b bs g. refl) (λ ks. refl) (λ k left w. refl)
view first_name = a_start refl (λ limit ks b bs g. refl) (λ ks. refl) (λ k left w. refl)
view colon = idle colon refl (λ limit ks b bs g. refl)
view (word w) = idle (word w) refl (λ limit ks b bs g. refl)
view minus = idle minus refl (λ limit ks b bs g. refl)
view nought = idle nought refl (λ limit ks b bs g. refl)
view whole = idle whole refl (λ limit ks b bs g. refl)
view point = idle point refl (λ limit ks b bs g. refl)
view part = idle part refl (λ limit ks b bs g. refl)
view letter = idle letter refl (λ limit ks b bs g. refl)
view sign = idle sign refl (λ limit ks b bs g. refl)
view power = idle power refl (λ limit ks b bs g. refl)
view (text as_value) = idle (text as_value) refl (λ limit ks b bs g. refl)
view (text as_name) = no_start (λ limit ks b bs g. refl) (λ ks b bs g. by (eqb b 0x22) g _ _ (shut g) (by (eqb b 0x5C) g _ _ (unmoved g) (said g (b ∷ [])))) (λ i t ks bs g. refl)
view (escape as_value) = idle (escape as_value) refl (λ limit ks b bs g. refl)
view (escape as_name) = no_start (λ limit ks b bs g. refl) (λ ks b bs g. by (eqb b 0x75) g _ _ (unit_more g 0) (said g (short_at b ∷ []))) (λ i t. false_is t)
view (unit h as_value) = idle (unit h as_value) refl (λ limit ks b bs g. refl)
view (unit h as_name) = no_start (λ limit ks b bs g. refl) (λ ks b bs g. hex_more_lem g h b bs) (λ i t. false_is t)
view (char c as_value) = idle (char c as_value) refl (λ limit ks b bs g. refl)
view (char c as_name) = no_start (λ limit ks b bs g. refl) (λ ks b bs g. said g (b ∷ [])) (λ i t. false_is t)
