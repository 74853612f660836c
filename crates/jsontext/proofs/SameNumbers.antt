-- Two pieces of white space, or two numbers, with the same bytes.
--     spaces_one, number_one     they are the same, if what follows tells where each ends
-- Assumes nothing.
use mathlib.Core.Bool.{Bool, true, false, cond}
use mathlib.Core.HLevel.{is_prop→PathP}
use mathlib.Core.List.{List, [], ◌∷◌}
use mathlib.Core.Logic.{◌⊎◌, inl, inr}
use mathlib.Core.Option.{none, some}
use mathlib.Core.Path.{◌≡◌, refl, sym, ◌∙◌, ap, subst}
use Prim.Native.Nat.{ℕ, ◌<◌}
use native.Mathlib.Bridge.{le_prop}
use native.Mathlib.Omega.{arith}
use lib.Dec.{eqb}
use Rattle.jsontext.specs.Text.{Blank, space, tab, feed, return, blank, Space, spaces, Digit, digit, digits, Digits, digits1, Whole, nought, from, whole, Fraction, fraction, Letter, capital, small, letter_e, Sign, unsigned, plus, minus, signed, Exponent, exponent, Number, minus_if, number}
use Rattle.jsontext.proofs.Spaces.{blank_low}
use Rattle.jsontext.proofs.Numbers.{Ending}

-- the next byte, if there is one
abbrev pub Next : (ℕ → Type 0) → List ℕ → Type 0
Next P [] = Unit {0}
Next P (b ∷ bs) = P b

pub next_map : (P Q : ℕ → Type 0) → ((b : ℕ) → P b → Q b) → (bs : List ℕ) → Next P bs → Next Q bs
next_map P Q f [] n = tt
next_map P Q f (b ∷ bs) n = f b n

-- ---- white space

abbrev pub NoBlank : ℕ → Type 0
NoBlank b = 0x20 < b

blank_of : ℕ → Blank
blank_of b = cond (eqb b 0x20) space (cond (eqb b 0x09) tab (cond (eqb b 0x0A) feed return))

blank_of_lem : (c : Blank) → blank_of (blank c) ≡ c
unfolding blank_of
blank_of_lem space = refl
blank_of_lem tab = refl
blank_of_lem feed = refl
blank_of_lem return = refl

blank_one : (c d : Blank) → blank c ≡ blank d → c ≡ d
blank_one c d e = sym (blank_of_lem c) ∙ ap blank_of e ∙ blank_of_lem d

pub spaces_one : (w w' : Space) (xs ys : List ℕ) → Next NoBlank xs → Next NoBlank ys → spaces w xs ≡ spaces w' ys → (w ≡ w') × (xs ≡ ys)
unfolding spaces
spaces_one [] [] xs ys m n e = (refl, e)
spaces_one [] (c ∷ w') xs ys m n e = let h : 0x20 < blank c = subst (Next NoBlank) e m in absurd (omega (arith, blank_low c))
spaces_one (c ∷ w) [] xs ys m n e = let h : 0x20 < blank c = subst (Next NoBlank) (sym e) n in absurd (omega (arith, blank_low c))
spaces_one (c ∷ w) (d ∷ w') xs ys m n e =
    let p : blank c ≡ blank d = cc in
    let q : spaces w xs ≡ spaces w' ys = cc in
    let r = spaces_one w w' xs ys m n q in
    let s = blank_one c d p in
    (cc (s, r.0), r.1)

-- ---- digits

pub digit_one : (d e : Digit) → digit d ≡ digit e → d ≡ e
digit_one d e p =
    let q : d.worth ≡ e.worth = omega arith in
    λ i. record { worth = q i; small = is_prop→PathP (λ j. q j < 10) (λ j. le_prop) d.small e.small i }

abbrev NoDigit : ℕ → Type 0
NoDigit b = (b < 0x30) ⊎ (0x39 < b)

no_digit : (d : Digit) → NoDigit (digit d) → ⊥
no_digit d (inl h) = omega arith
no_digit d (inr h) = let l : d.worth < 10 = d.small in omega arith

digits_one : (ds es : List Digit) (xs ys : List ℕ) → Next NoDigit xs → Next NoDigit ys → digits ds xs ≡ digits es ys → (ds ≡ es) × (xs ≡ ys)
unfolding digits
digits_one [] [] xs ys m n e = (refl, e)
digits_one [] (d ∷ es) xs ys m n e = absurd (no_digit d (subst (Next NoDigit) e m))
digits_one (d ∷ ds) [] xs ys m n e = absurd (no_digit d (subst (Next NoDigit) (sym e) n))
digits_one (d ∷ ds) (f ∷ es) xs ys m n e =
    let p : digit d ≡ digit f = cc in
    let q : digits ds xs ≡ digits es ys = cc in
    let r = digits_one ds es xs ys m n q in
    let s = digit_one d f p in
    (cc (s, r.0), r.1)

digits1_one : (ds es : Digits) (xs ys : List ℕ) → Next NoDigit xs → Next NoDigit ys → digits1 ds xs ≡ digits1 es ys → (ds ≡ es) × (xs ≡ ys)
digits1_one ds es xs ys m n e =
    let p : digit ds.first ≡ digit es.first = cc in
    let q : digits ds.others xs ≡ digits es.others ys = cc in
    let r = digits_one ds.others es.others xs ys m n q in
    let s = digit_one ds.first es.first p in
    (λ i. record { first = s i; others = r.0 i }, r.1)

-- ---- numbers

-- what may stand after a number's digits and is neither a digit nor the point
abbrev NoMore : ℕ → Type 0
NoMore b = (b < 0x2E) ⊎ (0x39 < b)

ending_no_more : (b : ℕ) → Ending b → NoMore b
ending_no_more b (inl h) = inl h
ending_no_more b (inr (inl h)) = inr (omega arith)
ending_no_more b (inr (inr h)) = inr (omega arith)

no_more_digit : (b : ℕ) → NoMore b → NoDigit b
no_more_digit b (inl h) = inl (omega arith)
no_more_digit b (inr h) = inr h

letter_one : (l k : Letter) → letter_e l ≡ letter_e k → l ≡ k
letter_one capital capital e = refl
letter_one capital small e = absurd (omega arith)
letter_one small capital e = absurd (omega arith)
letter_one small small e = refl

no_letter : (l : Letter) → Ending (letter_e l) → ⊥
no_letter capital (inl h) = omega arith
no_letter capital (inr (inl h)) = omega arith
no_letter capital (inr (inr h)) = omega arith
no_letter small (inl h) = omega arith
no_letter small (inr (inl h)) = omega arith
no_letter small (inr (inr h)) = omega arith

signed_one : (s t : Sign) (ds es : Digits) (xs ys : List ℕ) → Next NoDigit xs → Next NoDigit ys
    → signed s (digits1 ds xs) ≡ signed t (digits1 es ys)
    → (s ≡ t) × (ds ≡ es) × (xs ≡ ys)
signed_one unsigned unsigned ds es xs ys m n e = let r = digits1_one ds es xs ys m n e in (refl, r.0, r.1)
signed_one unsigned plus ds es xs ys m n e = let p : digit ds.first ≡ 0x2B = cc in absurd (omega arith)
signed_one unsigned minus ds es xs ys m n e = let p : digit ds.first ≡ 0x2D = cc in absurd (omega arith)
signed_one plus unsigned ds es xs ys m n e = let p : digit es.first ≡ 0x2B = cc in absurd (omega arith)
signed_one plus plus ds es xs ys m n e =
    let q : digits1 ds xs ≡ digits1 es ys = cc in let r = digits1_one ds es xs ys m n q in (refl, r.0, r.1)
signed_one plus minus ds es xs ys m n e = let p : ◌≡◌ {A = ℕ} 0x2B 0x2D = cc in absurd (omega arith)
signed_one minus unsigned ds es xs ys m n e = let p : digit es.first ≡ 0x2D = cc in absurd (omega arith)
signed_one minus plus ds es xs ys m n e = let p : ◌≡◌ {A = ℕ} 0x2D 0x2B = cc in absurd (omega arith)
signed_one minus minus ds es xs ys m n e =
    let q : digits1 ds xs ≡ digits1 es ys = cc in let r = digits1_one ds es xs ys m n q in (refl, r.0, r.1)

module _ (xs ys : List ℕ) (m : Next Ending xs) (n : Next Ending ys) where
  ends_digit : (zs : List ℕ) → Next Ending zs → Next NoDigit zs
  ends_digit zs k = next_map Ending NoDigit (λ b h. no_more_digit b (ending_no_more b h)) zs k

  exponent_one : (x y : Exponent) → exponent x xs ≡ exponent y ys → (x ≡ y) × (xs ≡ ys)
  exponent_one none none e = (refl, e)
  exponent_one none (some p) e = absurd (no_letter p.letter (subst (Next Ending) e m))
  exponent_one (some p) none e = absurd (no_letter p.letter (subst (Next Ending) (sym e) n))
  exponent_one (some p) (some q) e =
      let h : letter_e p.letter ≡ letter_e q.letter = cc in
      let f : signed p.sign (digits1 p.places xs) ≡ signed q.sign (digits1 q.places ys) = cc in
      let r = signed_one p.sign q.sign p.places q.places xs ys (ends_digit xs m) (ends_digit ys n) f in
      let l = letter_one p.letter q.letter h in
      let s : p ≡ q = λ i. record { letter = l i; sign = r.0 i; places = r.1 i } in
      (ap some s, r.2)

  tail_exponent : (zs : List ℕ) → Next Ending zs → (x : Exponent) → Next NoMore (exponent x zs)
  tail_exponent zs k none = next_map Ending NoMore ending_no_more zs k
  tail_exponent zs k (some p) = above p.letter
    where
      above : (l : Letter) → NoMore (letter_e l)
      above capital = inr (omega arith)
      above small = inr (omega arith)

  no_point : (b : ℕ) → NoMore b → b ≡ 0x2E → ⊥
  no_point b (inl h) e = omega arith
  no_point b (inr h) e = omega arith

  fraction_one : (f g : Fraction) (x y : Exponent) → fraction f (exponent x xs) ≡ fraction g (exponent y ys) → (f ≡ g) × (x ≡ y) × (xs ≡ ys)
  fraction_one none none x y e = let r = exponent_one x y e in (refl, r.0, r.1)
  fraction_one none (some ds) x y e = absurd (no_point 0x2E (subst (Next NoMore) e (tail_exponent xs m x)) refl)
  fraction_one (some ds) none x y e = absurd (no_point 0x2E (subst (Next NoMore) (sym e) (tail_exponent ys n y)) refl)
  fraction_one (some ds) (some es) x y e =
      let q : digits1 ds (exponent x xs) ≡ digits1 es (exponent y ys) = cc in
      let r = digits1_one ds es (exponent x xs) (exponent y ys) (next_map NoMore NoDigit no_more_digit (exponent x xs) (tail_exponent xs m x)) (next_map NoMore NoDigit no_more_digit (exponent y ys) (tail_exponent ys n y)) q in
      let s = exponent_one x y r.1 in
      (ap some r.0, s.0, s.1)

  tail_fraction : (zs : List ℕ) → Next Ending zs → (f : Fraction) (x : Exponent) → Next NoDigit (fraction f (exponent x zs))
  tail_fraction zs k none x = next_map NoMore NoDigit no_more_digit (exponent x zs) (tail_exponent zs k x)
  tail_fraction zs k (some ds) x = inl (omega arith)

  whole_one : (i j : Whole) (f g : Fraction) (x y : Exponent)
      → whole i (fraction f (exponent x xs)) ≡ whole j (fraction g (exponent y ys))
      → (i ≡ j) × (f ≡ g) × (x ≡ y) × (xs ≡ ys)
  whole_one nought nought f g x y e =
      let q : fraction f (exponent x xs) ≡ fraction g (exponent y ys) = cc in
      let r = fraction_one f g x y q in
      (refl, r.0, r.1, r.2)
  whole_one nought (from d p ds) f g x y e = let q : 0x30 ≡ digit d = cc in absurd (omega arith)
  whole_one (from d p ds) nought f g x y e = let q : digit d ≡ 0x30 = cc in absurd (omega arith)
  whole_one (from d p ds) (from c o es) f g x y e =
      let h : digit d ≡ digit c = cc in
      let q : digits ds (fraction f (exponent x xs)) ≡ digits es (fraction g (exponent y ys)) = cc in
      let r = digits_one ds es (fraction f (exponent x xs)) (fraction g (exponent y ys)) (tail_fraction xs m f x) (tail_fraction ys n g y) q in
      let s = fraction_one f g x y r.1 in
      let t = digit_one d c h in
      (λ a. from (t a) (is_prop→PathP (λ k. 0 < (t k).worth) (λ k. le_prop) p o a) (r.0 a), s.0, s.1, s.2)

  no_minus : (i : Whole) (zs us : List ℕ) → 0x2D ∷ us ≡ whole i zs → ⊥
  no_minus nought zs us e = let p : ◌≡◌ {A = ℕ} 0x2D 0x30 = cc in omega arith
  no_minus (from d p ds) zs us e = let q : 0x2D ≡ digit d = cc in omega arith

  minus_one : (a b : Bool) (i j : Whole) (f g : Fraction) (x y : Exponent)
      → minus_if a (whole i (fraction f (exponent x xs))) ≡ minus_if b (whole j (fraction g (exponent y ys)))
      → (a ≡ b) × (i ≡ j) × (f ≡ g) × (x ≡ y) × (xs ≡ ys)
  minus_one true true i j f g x y e =
      let q : whole i (fraction f (exponent x xs)) ≡ whole j (fraction g (exponent y ys)) = cc in
      let r = whole_one i j f g x y q in
      (refl, r.0, r.1, r.2, r.3)
  minus_one true false i j f g x y e = absurd (no_minus j (fraction g (exponent y ys)) (whole i (fraction f (exponent x xs))) e)
  minus_one false true i j f g x y e = absurd (no_minus i (fraction f (exponent x xs)) (whole j (fraction g (exponent y ys))) (sym e))
  minus_one false false i j f g x y e = let r = whole_one i j f g x y e in (refl, r.0, r.1, r.2, r.3)

  pub number_one : (a b : Number) → number a xs ≡ number b ys → (a ≡ b) × (xs ≡ ys)
  number_one a b e =
      let r = minus_one a.negative b.negative a.integer b.integer a.part b.part a.power b.power e in
      (λ i. record { negative = r.0 i; integer = r.1 i; part = r.2 i; power = r.3 i }, r.4)
