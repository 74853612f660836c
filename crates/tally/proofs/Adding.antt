-- What the parts of a text add to the counters of the first pass.
--     Adds            n values and m bytes more on level j
--     orderly         the act keeps to the order of a text
--     number_adds, string_adds
-- Assumes nothing.
use mathlib.Core.Bool.{Bool, true, false, cond}
use mathlib.Core.List.{List, [], ◌∷◌, append-nil}
use mathlib.Core.Option.{none, some}
use mathlib.Core.Path.{◌≡◌, refl, sym, ◌∙◌, ap}
use Prim.Native.Nat.{ℕ, ◌+◌, ◌*◌, ◌%◌, ◌<◌}
use native.Mathlib.Omega.{arith}
use borrow.Author.Tests.{ne_eqb, eqb-true, eqb-false, le-ltb, lt-ltb}
use lib.Dec.{eqb}
use lib.ListN.{length, get_or, set, length-set}
use lib.Seq.{get_or-set_same, get_or-set_other}
use Rattle.jsontext.specs.Utf8.{encode}
use Rattle.jsontext.specs.Text as T
use Rattle.jsontext.specs.Text.{Blank, blank, Digit, digit, digits, Digits, digits1, Whole, from, whole, Fraction, fraction, letter_e, Sign, unsigned, plus, signed, Exponent, exponent, Number, number, Short, quote, backslash, slash, backspace, form_feed, line_feed, carriage_return, tabulator, short, Hex, hex, Plain, plain, Str, pieces}
use Rattle.jsontext.specs.Value.{unit_code, is_high}
use Rattle.jsontext.specs.Automaton as A
use Rattle.jsontext.specs.Automaton.{Bracket, Role, one, hex1, hex2, hex3, hex4, Place, ahead, first_element, after, name, first_name, colon, minus, nought, point, part, letter, sign, power, text, escape, unit, char}
use Rattle.jsontext.proofs.Spaces.{blank_low}
use Rattle.jsontext.proofs.Strings.{spelled}
use Rattle.jsontext.proofs.Numbers.{Stops, at_nought, at_whole, at_part, at_power}
use Rattle.jsontext.proofs.Doing.{Waits, waits_ahead, waits_first, waits_after, waits_name, waits_first_name, waits_colon, Orderly, digits_do, digits1_do, whole_end, signed_does, exponent_does, tail_does, minus_does, number_does, tails_do, char_does, pieces_do}
use Rattle.escapes.specs.Escapes.{hex_at, encoded_size}
use Rattle.escapes.proofs.Escaped.{hex_read, hex_small, no_u, size_is}
use Rattle.tally.specs.Tallying.{Tally, add_at, value_more, name_more, bytes_more, with_code, unit_size, counting, tallying}
use Rattle.tally.proofs.Sizes.{str_size}

-- ---- the act

-- nothing is done where a number ends
abbrev pub rest_as : List Bracket → Tally → Tally
rest_as ks s = s

blank_calm : {p : Place} → Waits p → (k b : ℕ) (s : Tally) → b < 0x21 → counting p k b s ≡ s
blank_calm waits_ahead k b s h = rw (le-ltb 0x20 b (omega arith))
blank_calm waits_first k b s h = rw (ne_eqb b 0x5D (λ e. omega arith), le-ltb 0x20 b (omega arith))
blank_calm waits_after k b s h = refl
blank_calm waits_name k b s h = rw (le-ltb 0x20 b (omega arith))
blank_calm waits_first_name k b s h = rw (le-ltb 0x20 b (omega arith))
blank_calm waits_colon k b s h = refl

stop_calm : {p : Place} → Stops p → (k b : ℕ) (s : Tally) → counting p k b s ≡ s
stop_calm at_nought k b s = refl
stop_calm at_whole k b s = refl
stop_calm at_part k b s = refl
stop_calm at_power k b s = refl

pub orderly : Orderly tallying rest_as
unfolding tallying
orderly =
    record {
      blanks = λ h ks c bs s. blank_calm h (length ks) (blank c) s (omega (arith, blank_low c));
      commas = λ ks bs s. refl;
      colons = λ ks bs s. refl;
      words = λ w ks b bs s. refl;
      firsts = λ ks b bs s h. rw (ne_eqb b 0x5D h);
      first_names = λ ks bs s. refl;
      empty_arrays = λ ks bs s. refl;
      empty_objects = λ ks bs s. refl;
      chars = λ c r ks b bs s. refl;
      ends = λ h ks b bs s e. stop_calm h (length ks) b s;
    }

-- ---- adding

-- n on level k, as seen from level j
abbrev pub hit : ℕ → ℕ → ℕ → ℕ
hit k j n = cond (eqb k j) n 0

pub hit_sum : (k j a b : ℕ) → hit k j a + hit k j b ≡ hit k j (a + b)
hit_sum k j a b = go (eqb k j)
  where
    go : (t : Bool) → cond t a 0 + cond t b 0 ≡ cond t (a + b) 0
    go true = refl
    go false = refl

add_at_lem : (xs : List ℕ) (k j n : ℕ) → j < length xs → get_or (add_at k n xs) j 0 ≡ get_or xs j 0 + hit k j n
unfolding add_at
add_at_lem xs k j n h = go (eqb k j) refl
  where
    go : (t : Bool) → eqb k j ≡ t → get_or (set xs k (get_or xs k 0 + n)) j 0 ≡ get_or xs j 0 + cond t n 0
    go true e = let same = eqb-true k j e in rw same (get_or-set_same xs j (get_or xs j 0 + n) 0 h)
    go false e = get_or-set_other xs k j (get_or xs k 0 + n) 0 (λ x. eqb-false k j e (sym x)) ∙ omega arith

add_long : (xs : List ℕ) (k n : ℕ) → length (add_at k n xs) ≡ length xs
unfolding add_at
add_long xs k n = length-set xs k (get_or xs k 0 + n)

module _ (j : ℕ) where
  pub record Adds (n m : ℕ) (s t : Tally) : Type 0 where
    pub values_long : length t.values ≡ length s.values
    pub texts_long : length t.texts ≡ length s.texts
    pub values_more : j < length s.values → get_or t.values j 0 ≡ get_or s.values j 0 + n
    pub texts_more : j < length s.texts → get_or t.texts j 0 ≡ get_or s.texts j 0 + m

  pub nothing : (s : Tally) → Adds 0 0 s s
  nothing s = record { values_long = refl; texts_long = refl; values_more = λ h. omega arith; texts_more = λ h. omega arith }

  pub both : {a b n m : ℕ} {s t u : Tally} → Adds a b s t → Adds n m t u → Adds (a + n) (b + m) s u
  both {a} {b} {n} {m} {s} {t} {u} p q =
      record {
        values_long = q.values_long ∙ p.values_long;
        texts_long = q.texts_long ∙ p.texts_long;
        values_more = λ h. (let l : j < length t.values = rw p.values_long h in omega (arith, p.values_more h, q.values_more l));
        texts_more = λ h. (let l : j < length t.texts = rw p.texts_long h in omega (arith, p.texts_more h, q.texts_more l));
      }

  pub sums : {a b n m : ℕ} {s t : Tally} → a ≡ n → b ≡ m → Adds a b s t → Adds n m s t
  sums {a} {b} {n} {m} {s} {t} p q x =
      record { values_long = x.values_long; texts_long = x.texts_long; values_more = λ h. omega (arith, x.values_more h); texts_more = λ h. omega (arith, x.texts_more h) }

  hit_none : (k : ℕ) → ◌≡◌ {A = ℕ} 0 (hit k j 0)
  hit_none k = go (eqb k j)
    where
      go : (t : Bool) → ◌≡◌ {A = ℕ} 0 (cond t 0 0)
      go true = refl
      go false = refl

  value_more_lem : (k : ℕ) (s : Tally) → Adds (hit k j 1) 0 s (value_more k s)
  value_more_lem k s = record { values_long = add_long s.values k 1; texts_long = refl; values_more = λ h. add_at_lem s.values k j 1 h; texts_more = λ h. omega arith }

  pub name_more_lem : (s : Tally) → Adds 0 0 s (name_more s)
  name_more_lem s = record { values_long = refl; texts_long = refl; values_more = λ h. omega arith; texts_more = λ h. omega arith }

  bytes_more_lem : (k n : ℕ) (high : Bool) (s : Tally) → Adds 0 (hit k j n) s (bytes_more k n high s)
  bytes_more_lem k n high s = record { values_long = refl; texts_long = add_long s.texts k n; values_more = λ h. omega arith; texts_more = λ h. add_at_lem s.texts k j n h }

  pub opening_adds : (ks : List Bracket) (b : ℕ) (bs : List ℕ) (s : Tally) → 0x20 < b → Adds (hit (length ks) j 1) 0 s (tallying ahead ks b bs s)
  unfolding tallying
  opening_adds ks b bs s h = rw (lt-ltb 0x20 b h) (value_more_lem (length ks) s)

  -- ---- numbers

  -- nothing is counted at this place
  abbrev Calm : Place → Type 0
  Calm p = (k b : ℕ) (s : Tally) → counting p k b s ≡ s

  module _ (ks : List Bracket) where
    digits_calm : (p : Place) → Calm p → (ds : List Digit) (rest : List ℕ) (s : Tally) → digits_do tallying rest_as p ks ds rest s ≡ s
    unfolding digits_do tallying
    digits_calm p c [] rest s = refl
    digits_calm p c (d ∷ ds) rest s = ap (digits_do tallying rest_as p ks ds rest) (c (length ks) (digit d) s) ∙ digits_calm p c ds rest s

    digits1_calm : (p q : Place) → Calm p → Calm q → (ds : Digits) (rest : List ℕ) (s : Tally) → digits1_do tallying rest_as p q ks ds rest s ≡ s
    unfolding tallying
    digits1_calm p q c d ds rest s = ap (digits_do tallying rest_as q ks ds.others rest) (c (length ks) (digit ds.first) s) ∙ digits_calm q d ds.others rest s

    signed_calm : (x : Sign) (ds : Digits) (rest : List ℕ) (s : Tally) → signed_does tallying rest_as ks x ds rest s ≡ s
    unfolding tallying
    signed_calm unsigned ds rest s = digits1_calm letter power (λ k b s. refl) (λ k b s. refl) ds rest s
    signed_calm plus ds rest s = digits1_calm sign power (λ k b s. refl) (λ k b s. refl) ds rest s
    signed_calm T.minus ds rest s = digits1_calm sign power (λ k b s. refl) (λ k b s. refl) ds rest s

    exponent_calm : (p : Place) → Calm p → (x : Exponent) (rest : List ℕ) (s : Tally) → exponent_does tallying rest_as p ks x rest s ≡ s
    unfolding tallying
    exponent_calm p c none rest s = refl
    exponent_calm p c (some e) rest s =
        ap (signed_does tallying rest_as ks e.sign e.places rest) (c (length ks) (letter_e e.letter) s) ∙ signed_calm e.sign e.places rest s

    tail_calm : (p : Place) → Calm p → (g : Fraction) (x : Exponent) (rest : List ℕ) (s : Tally) → tail_does tallying rest_as p ks g x rest s ≡ s
    unfolding tallying
    tail_calm p c none x rest s = exponent_calm p c x rest s
    tail_calm p c (some ds) x rest s =
        ap (λ (t : Tally). exponent_does tallying rest_as part ks x rest (digits1_do tallying rest_as point part ks ds (exponent x rest) t)) (c (length ks) 0x2E s)
        ∙ ap (exponent_does tallying rest_as part ks x rest) (digits1_calm point part (λ k b s. refl) (λ k b s. refl) ds (exponent x rest) s)
        ∙ exponent_calm part (λ k b s. refl) x rest s

    whole_calm : (i : Whole) (g : Fraction) (x : Exponent) (rest : List ℕ) (s : Tally) → tail_does tallying rest_as (whole_end tallying rest_as i) ks g x rest s ≡ s
    whole_calm T.nought g x rest s = tail_calm nought (λ k b s. refl) g x rest s
    whole_calm (from d q ds) g x rest s = tail_calm A.whole (λ k b s. refl) g x rest s

    pub number_adds : (n : Number) (rest : List ℕ) (s : Tally) → Adds (hit (length ks) j 1) 0 s (number_does tallying rest_as ks n rest s)
    unfolding number_does tallying
    number_adds n rest s =
        let end : List ℕ = fraction n.part (exponent n.power rest) in
        rw (whole_calm n.integer n.part n.power rest (minus_does tallying rest_as n.negative ks n.integer end s)) (go n.negative n.integer end)
      where
        go : (m : Bool) (i : Whole) (end : List ℕ) → Adds (hit (length ks) j 1) 0 s (minus_does tallying rest_as m ks i end s)
        go true T.nought end = opening_adds ks 0x2D (T.whole T.nought end) s (omega arith)
        go true (from d q ds) end =
            let bs : List ℕ = T.whole (from d q ds) end in
            rw (digits_calm A.whole (λ k b s. refl) ds end (tallying ahead ks 0x2D bs s)) (opening_adds ks 0x2D bs s (omega arith))
        go false T.nought end = opening_adds ks 0x30 end s (omega arith)
        go false (from d q ds) end = rw (digits_calm A.whole (λ k b s. refl) ds end (tallying ahead ks (digit d) (digits ds end) s)) (opening_adds ks (digit d) (digits ds end) s (omega arith))

    -- ---- strings

    tails_adds : (r : Role) (bs rest : List ℕ) (s : Tally) → Adds 0 (hit (length ks) j (length bs)) s (tails_do tallying rest_as r ks bs rest s)
    unfolding tails_do tallying
    tails_adds r [] rest s = sums refl (hit_none (length ks)) (nothing s)
    tails_adds r (b ∷ bs) rest s =
        sums refl (hit_sum (length ks) j 1 (length bs) ∙ ap (hit (length ks) j) (omega arith))
        (both (bytes_more_lem (length ks) 1 s.high s) (tails_adds r bs rest (bytes_more (length ks) 1 s.high s)))

    tails_high : (r : Role) (bs rest : List ℕ) (s : Tally) → (tails_do tallying rest_as r ks bs rest s).high ≡ s.high
    unfolding tails_do tallying
    tails_high r [] rest s = refl
    tails_high r (b ∷ bs) rest s = tails_high r bs rest (bytes_more (length ks) 1 s.high s)

    -- a character that stands as it is
    record Charred (c : ℕ) (s t : Tally) : Type 0 where
      adds : Adds 0 (hit (length ks) j (encoded_size c)) s t
      calmed : t.high ≡ false

    char_adds : (r : Role) (c : ℕ) → Plain c → (rest : List ℕ) (s : Tally) → Charred c s (char_does tallying rest_as r ks (encode c []) rest s)
    unfolding tallying
    char_adds r c p rest s =
        let f = spelled r ks c p in
        let spelt : encode c [] ≡ f.first ∷ f.others = f.same [] ∙ ap (λ (x : List ℕ). f.first ∷ x) (append-nil f.others) in
        let sized : 1 + length f.others ≡ encoded_size c = omega (arith, ap length spelt, size_is c []) in
        let u : Tally = bytes_more (length ks) 1 false s in
        rw (spelt, ne_eqb f.first 0x5C f.no_backslash, ne_eqb f.first 0x22 f.no_quote)
        (record {
          adds = sums refl (hit_sum (length ks) j 1 (length f.others) ∙ ap (hit (length ks) j) sized) (both (bytes_more_lem (length ks) 1 false s) (tails_adds r f.others rest u));
          calmed = tails_high r f.others rest u;
        })

    -- after an escape
    coded_more : (n : ℕ) (high : Bool) (c : ℕ) (s : Tally) → Adds 0 (hit (length ks) j n) s (bytes_more (length ks) n high (with_code c s))
    coded_more n high c s =
        record { values_long = refl; texts_long = add_long s.texts (length ks) n; values_more = λ h. omega arith; texts_more = λ h. add_at_lem s.texts (length ks) j n h }

    -- the state after an escape of four digits
    unit_adds : (r : Role) (h i j' l : Hex) (s : Tally) → (code : ℕ) → code ≡ ((0 % 0x1000 * 16 + hex_at (hex h)) % 0x1000 * 16 + hex_at (hex i)) % 0x1000 * 16 + hex_at (hex j')
        → bytes_more (length ks) (unit_size s.high (code % 0x1000 * 16 + hex_at (hex l))) (is_high (code % 0x1000 * 16 + hex_at (hex l))) (with_code code s)
        ≡ bytes_more (length ks) (unit_size s.high (unit_code h i j' l)) (is_high (unit_code h i j' l)) (with_code code s)
    unit_adds r h i j' l s code e =
        let whole_code : code % 0x1000 * 16 + hex_at (hex l) ≡ unit_code h i j' l = omega (arith, hex_read h, hex_read i, hex_read j', hex_read l, hex_small h, hex_small i, hex_small j') in
        ap (λ (c : ℕ). bytes_more (length ks) (unit_size s.high c) (is_high c) (with_code code s)) whole_code

    pub pieces_adds : (r : Role) (x : Str) (rest : List ℕ) (s : Tally) → Adds 0 (hit (length ks) j (str_size s.high x)) s (pieces_do tallying rest_as r ks x rest s)
    unfolding pieces_do str_size tallying
    pieces_adds r [] rest s = sums refl (hit_none (length ks)) (nothing s)
    pieces_adds r (plain c p ∷ ps) rest s =
        let z : List ℕ = pieces ps rest in
        let t : Tally = char_does tallying rest_as r ks (encode c []) z s in
        let one = char_adds r c p z s in
        sums refl (hit_sum (length ks) j (encoded_size c) (str_size t.high ps) ∙ ap (λ (b : Bool). hit (length ks) j (encoded_size c + str_size b ps)) one.calmed)
        (both one.adds (pieces_adds r ps rest t))
    pieces_adds r (T.escape m ∷ ps) rest s =
        let t : Tally = bytes_more (length ks) 1 false (with_code 0 s) in
        rw (ne_eqb (short m) 0x75 (no_u m)) (sums refl (hit_sum (length ks) j 1 (str_size false ps)) (both (coded_more 1 false 0 s) (pieces_adds r ps rest t)))
    pieces_adds r (T.unit h i j' l ∷ ps) rest s =
        let code : ℕ = ((0 % 0x1000 * 16 + hex_at (hex h)) % 0x1000 * 16 + hex_at (hex i)) % 0x1000 * 16 + hex_at (hex j') in
        let c : ℕ = unit_code h i j' l in
        let t : Tally = bytes_more (length ks) (unit_size s.high c) (is_high c) (with_code code s) in
        rw (unit_adds r h i j' l s code refl)
        (sums refl (hit_sum (length ks) j (unit_size s.high c) (str_size (is_high c) ps)) (both (coded_more (unit_size s.high c) (is_high c) code s) (pieces_adds r ps rest t)))
