-- What the first pass finds in strings.
--     verdict         what is told in the end, where these starts are still to come
--     frozen          after a fault nothing else is told
--     string_told     the lone surrogates of a string are found
-- Assumes nothing.
use mathlib.Core.Bool.{Bool, true, false, cond, ◌&&◌, ◌||◌, not, and-false}
use mathlib.Core.List.{List, [], ◌∷◌, ◌++◌, append-nil}
use mathlib.Core.Logic.{◌≢◌, ◌⊎◌, inl, inr, ⊎_elim}
use mathlib.Core.Path.{◌≡◌, refl, sym, ◌∙◌, ap}
use Prim.Native.Nat.{ℕ, suc, ◌+◌, ◌*◌, ◌%◌}
use native.Mathlib.Omega.{arith}
use borrow.Author.Tests.{eq-eqb, ne_eqb, eqb-true, leb-true, lt-leb}
use lib.Dec.{eqb, leb}
use lib.ListN.{length}
use Rattle.laws.proofs.Tests.{left}
use Rattle.jsontext.specs.Utf8.{encode}
use Rattle.jsontext.specs.Text as T
use Rattle.jsontext.specs.Text.{Short, quote, backslash, slash, backspace, form_feed, line_feed, carriage_return, tabulator, short, Hex, hex, Plain, plain, Str, pieces}
use Rattle.jsontext.specs.Value.{hex_worth, unit_code, is_high, is_low, low_next}
use Rattle.jsontext.specs.Automaton.{Bracket, Role, hex1, hex2, hex3, hex4, one, text, escape, unit, char}
use Rattle.jsontext.specs.Sightings.{an_escape}
use Rattle.jsontext.specs.Starts.{Start, starting, string_starts}
use Rattle.jsontext.proofs.Strings.{spelled}
use Rattle.jsontext.proofs.Trimming.{by_zero}
use Rattle.jsontext.proofs.Doing.{tails_do, char_does, pieces_do, string_does}
use Rattle.escapes.specs.Escapes.{hex_at}
use Rattle.escapes.proofs.Escaped.{hex_read, hex_small, no_u}
use Rattle.reader.specs.Faults.{first_fault}
use Rattle.survey.specs.declared.Watch.{Watch}
use Rattle.survey.specs.Watching.{found, with_escapes, parted, wait_for, coded, slashed, watching}
use Rattle.survey.specs.Told.{Told, told, unnamed}
use Rattle.survey.proofs.Orders.{stopping, going, stays, stays_stopped, calm}
use Rattle.survey.proofs.Still.{string_still}

abbrev pub verdict : Watch → List Start → Told
verdict s later = cond (eqb s.fault 0) (told (first_fault s.values (unnamed later))) (record { number = s.fault; left = s.left })

pub frozen : (s : Watch) → s.fault ≢ 0 → (a b : List Start) → verdict s a ≡ verdict s b
frozen s e a b = rw (ne_eqb s.fault 0 e)

pub still : (s : Watch) → s.fault ≡ 0 → (a : List Start) → verdict s a ≡ told (first_fault s.values (unnamed a))
still s e a = rw (eq-eqb s.fault 0 e)

-- the bytes of a character but the first move nothing
tails_calm : (r : Role) (ks : List Bracket) (bs rest : List ℕ) (s : Watch) → tails_do watching stopping r ks bs rest s ≡ s
unfolding tails_do
tails_calm r ks [] rest s = refl
tails_calm r ks (b ∷ bs) rest s = ap (tails_do watching stopping r ks bs rest) (calm (char one r) ks b (bs ++ rest) s refl) ∙ tails_calm r ks bs rest s

-- a character that stands as it is
plain_moves : (r : Role) (ks : List Bracket) (c : ℕ) → Plain c → (rest : List ℕ) (s : Watch) → s.fault ≡ 0 → char_does watching stopping r ks (encode c []) rest s ≡ parted s
plain_moves r ks c p rest s e =
    let f = spelled r ks c p in
    let alone : encode c [] ≡ f.first ∷ f.others = f.same [] ∙ ap (λ (x : List ℕ). f.first ∷ x) (append-nil f.others) in
    rw alone
    (ap (tails_do watching stopping r ks f.others rest) (going (text r) ks f.first (f.others ++ rest) s e ∙ rw (ne_eqb f.first 0x5C f.no_backslash))
    ∙ tails_calm r ks f.others rest (parted s))

-- an escape of one letter
short_moves : (r : Role) (ks : List Bracket) (m : Short) (rest : List ℕ) (s : Watch) → s.fault ≡ 0
    → watching (escape r) ks (short m) rest (watching (text r) ks 0x5C (short m ∷ rest) s) ≡ parted (slashed (suc (suc (length rest))) s)
short_moves r ks m rest s e =
    ap (watching (escape r) ks (short m) rest) (going (text r) ks 0x5C (short m ∷ rest) s e)
    ∙ going (escape r) ks (short m) rest (slashed (suc (suc (length rest))) s) e
    ∙ rw (ne_eqb (short m) 0x75 (no_u m))

-- where an escape of four digits starts
abbrev unit_left : Hex → Hex → Hex → Hex → List ℕ → ℕ
unit_left h i j k z = suc (length (0x75 ∷ hex h ∷ hex i ∷ hex j ∷ hex k ∷ z))

-- the state before the last digit of an escape, and after it
abbrev inside : ℕ → ℕ → Watch → Watch
inside c left s = with_escapes (record { code = c; here = left; waits = s.escapes.waits; waiting = s.escapes.waiting }) s

abbrev three_code : Hex → Hex → Hex → ℕ
three_code h i j = (hex_worth h * 16 + hex_worth i) * 16 + hex_worth j

unit_moves : (r : Role) (ks : List Bracket) (h i j k : Hex) (z : List ℕ) (s : Watch) → s.fault ≡ 0
    → watching (unit hex1 r) ks (hex k) z
    (watching (unit hex2 r) ks (hex j) (hex k ∷ z)
    (watching (unit hex3 r) ks (hex i) (hex j ∷ hex k ∷ z)
    (watching (unit hex4 r) ks (hex h) (hex i ∷ hex j ∷ hex k ∷ z)
    (watching (escape r) ks 0x75 (hex h ∷ hex i ∷ hex j ∷ hex k ∷ z)
    (watching (text r) ks 0x5C (0x75 ∷ hex h ∷ hex i ∷ hex j ∷ hex k ∷ z) s)))))
    ≡ coded (unit_code h i j k) (inside (three_code h i j) (unit_left h i j k z) s)
unit_moves r ks h i j k z s e =
    ap (λ (x : Watch). w1 (w2 (w3 (w4 (watching (escape r) ks 0x75 (hex h ∷ hex i ∷ hex j ∷ hex k ∷ z) x))))) (going (text r) ks 0x5C (0x75 ∷ hex h ∷ hex i ∷ hex j ∷ hex k ∷ z) s e)
    ∙ ap (λ (x : Watch). w1 (w2 (w3 (w4 x)))) (going (escape r) ks 0x75 (hex h ∷ hex i ∷ hex j ∷ hex k ∷ z) (inside 0 left s) e)
    ∙ ap (λ (x : Watch). w1 (w2 (w3 x))) (going (unit hex4 r) ks (hex h) (hex i ∷ hex j ∷ hex k ∷ z) (inside 0 left s) e)
    ∙ ap (λ (x : Watch). w1 (w2 x)) (going (unit hex3 r) ks (hex i) (hex j ∷ hex k ∷ z) (inside c4 left s) e)
    ∙ ap w1 (going (unit hex2 r) ks (hex j) (hex k ∷ z) (inside c3 left s) e)
    ∙ going (unit hex1 r) ks (hex k) z (inside c2 left s) e
    ∙ ap (λ (n : ℕ). coded n (inside c2 left s)) all_four
    ∙ ap (λ (n : ℕ). coded (unit_code h i j k) (inside n left s)) first_three
  where
    left : ℕ
    left = unit_left h i j k z

    w1 : Watch → Watch
    w1 x = watching (unit hex1 r) ks (hex k) z x

    w2 : Watch → Watch
    w2 x = watching (unit hex2 r) ks (hex j) (hex k ∷ z) x

    w3 : Watch → Watch
    w3 x = watching (unit hex3 r) ks (hex i) (hex j ∷ hex k ∷ z) x

    w4 : Watch → Watch
    w4 x = watching (unit hex4 r) ks (hex h) (hex i ∷ hex j ∷ hex k ∷ z) x

    c4 : ℕ
    c4 = 0 % 0x1000 * 16 + hex_at (hex h)

    c3 : ℕ
    c3 = c4 % 0x1000 * 16 + hex_at (hex i)

    c2 : ℕ
    c2 = c3 % 0x1000 * 16 + hex_at (hex j)

    first_three : c2 ≡ three_code h i j
    first_three = omega (arith, hex_read h, hex_read i, hex_read j, hex_small h, hex_small i, hex_small j)

    all_four : c2 % 0x1000 * 16 + hex_at (hex k) ≡ unit_code h i j k
    all_four = omega (arith, hex_read h, hex_read i, hex_read j, hex_read k, hex_small h, hex_small i, hex_small j)

-- ---- the lone surrogates

pub low_not_high : (c : ℕ) → is_low c ≡ true → is_high c ≡ false
low_not_high c e = rw (lt-leb c 0xDBFF (omega (arith, leb-true 0xDC00 c (left (leb 0xDC00 c) (leb c 0xDFFF) e))), and-false (leb 0xD800 c))

pub high_not_none : (c : ℕ) → is_high c ≡ true → eqb c 0 ≡ false
high_not_none c e = ne_eqb c 0 (λ z. omega (arith, leb-true 0xD800 c (left (leb 0xD800 c) (leb c 0xDBFF) e)))

-- what is told where a high surrogate may wait
abbrev pend : Watch → Str → Told → Told
pend s x v = cond (eqb s.fault 0) (cond (eqb s.escapes.waits 0 || low_next x) v (record { number = 26; left = s.escapes.waiting })) v

pend_frozen : (s : Watch) (x : Str) (v : Told) → s.fault ≢ 0 → pend s x v ≡ v
pend_frozen s x v n = rw (ne_eqb s.fault 0 n)

module _ (r : Role) (ks : List Bracket) (k : ℕ) (rest : List ℕ) (later : List Start) where
  abbrev ahead_of : ℕ → Str → List Start
  ahead_of w x = string_starts w x k (0x22 ∷ rest) later

  abbrev Pends : Str → Watch → Type 0
  Pends x s = verdict (string_does watching stopping r ks x rest s) later ≡ pend s x (verdict s (ahead_of s.escapes.waits x))

  after_fault : (x : Str) (s : Watch) → s.fault ≢ 0 → Pends x s
  after_fault x s n =
      ap (λ (z : Watch). verdict z later) (string_still watching stopping s (stays s n) (stays_stopped s n) r ks x rest)
      ∙ frozen s n later (ahead_of s.escapes.waits x)
      ∙ sym (pend_frozen s x (verdict s (ahead_of s.escapes.waits x)) n)

  -- a piece that is no escape of four digits, and so parts a surrogate that waits
  parts : (x : Str) (s : Watch) → s.fault ≡ 0 → Pends x (parted s)
      → verdict (string_does watching stopping r ks x rest (parted s)) later
      ≡ cond (eqb s.escapes.waits 0) (verdict s (ahead_of 0 x)) (record { number = 26; left = s.escapes.waiting })
  unfolding parted
  parts x s e ih = ih ∙ go (eqb s.escapes.waits 0) refl
    where
      by : Bool → Watch
      by b = cond b s (found 26 s.escapes.waiting s)

      go : (b : Bool) → eqb s.escapes.waits 0 ≡ b
          → pend (by b) x (verdict (by b) (ahead_of (by b).escapes.waits x)) ≡ cond b (verdict s (ahead_of 0 x)) (record { number = 26; left = s.escapes.waiting })
      go true f = rw (eq-eqb s.fault 0 e, f, eqb-true s.escapes.waits 0 f)
      go false f = refl

  -- an escape of the code c
  module _ (c : ℕ) (bs : List ℕ) (ps : Str) (s : Watch) (e : s.fault ≡ 0) where
    abbrev coded_by : Bool → Bool → Bool → Watch → Watch
    coded_by low none_waits high t =
        cond low
        (cond none_waits (found 26 t.escapes.here t) (with_escapes (wait_for 0 0 t.escapes) t))
        (cond none_waits (cond high (with_escapes (wait_for c t.escapes.here t.escapes) t) t)
        (found 26 t.escapes.waiting t))

    abbrev before : Bool → Bool → Bool → Watch → Told
    before low none_waits high t =
        let u = coded_by low none_waits high t in
        pend u ps (verdict u (ahead_of u.escapes.waits ps))

    abbrev wanted : Bool → Bool → Bool → Bool → Told
    wanted low none_waits high next_is_low =
        cond (none_waits || low)
        (verdict s (starting an_escape k bs ((high && not next_is_low) || (low && none_waits)) ∷ ahead_of (cond (high && next_is_low) c 0) ps))
        (record { number = 26; left = s.escapes.waiting })

    abbrev at_escape : ℕ → Watch
    at_escape m = inside m (length bs) s

    unit_told : (m : ℕ) (low none_waits high next_is_low : Bool)
        → is_low c ≡ low → eqb s.escapes.waits 0 ≡ none_waits → is_high c ≡ high → low_next ps ≡ next_is_low
        → before low none_waits high (at_escape m) ≡ wanted low none_waits high next_is_low
    unfolding first_fault unnamed told
    unit_told m true true high q l z h n = rw (eq-eqb s.fault 0 e, sym h ∙ low_not_high c l)
    unit_told m true false high q l z h n = rw (eq-eqb s.fault 0 e, sym h ∙ low_not_high c l)
    unit_told m false false high q l z h n = refl
    unit_told m false true true true l z h n = rw (eq-eqb s.fault 0 e, high_not_none c h, n)
    unit_told m false true true false l z h n = rw (eq-eqb s.fault 0 e, high_not_none c h, n)
    unit_told m false true false q l z h n = rw (eq-eqb s.fault 0 e, z, eqb-true s.escapes.waits 0 z)

  none_left : (s : Watch) → s.fault ≡ 0 → Pends [] s
  unfolding pieces_do string_starts parted
  none_left s e = ap (λ (t : Watch). verdict t later) (going (text r) ks 0x22 rest s e) ∙ go (eqb s.escapes.waits 0)
    where
      go : (b : Bool)
          → verdict (cond b s (found 26 s.escapes.waiting s)) later
          ≡ cond (eqb s.fault 0) (cond (b || false) (verdict s later) (record { number = 26; left = s.escapes.waiting })) (verdict s later)
      go true = rw (eq-eqb s.fault 0 e)
      go false = rw (eq-eqb s.fault 0 e)

  plain_pends : (c : ℕ) (p : Plain c) (ps : Str) → ((t : Watch) → Pends ps t) → (s : Watch) → s.fault ≡ 0 → Pends (plain c p ∷ ps) s
  unfolding pieces_do string_starts
  plain_pends c p ps ih s e =
      ap (λ (t : Watch). verdict (string_does watching stopping r ks ps rest t) later) (plain_moves r ks c p (pieces ps (0x22 ∷ rest)) s e)
      ∙ parts ps s e (ih (parted s))
      ∙ go (eqb s.escapes.waits 0)
    where
      go : (b : Bool)
          → cond b (verdict s (ahead_of 0 ps)) (record { number = 26; left = s.escapes.waiting })
          ≡ cond (eqb s.fault 0) (cond (b || false) (verdict s (ahead_of 0 ps)) (record { number = 26; left = s.escapes.waiting })) (verdict s (ahead_of 0 ps))
      go true = rw (eq-eqb s.fault 0 e)
      go false = rw (eq-eqb s.fault 0 e)

  short_pends : (m : Short) (ps : Str) → ((t : Watch) → Pends ps t) → (s : Watch) → s.fault ≡ 0 → Pends (T.escape m ∷ ps) s
  unfolding pieces_do string_starts first_fault unnamed
  short_pends m ps ih s e =
      ap (λ (t : Watch). verdict (string_does watching stopping r ks ps rest t) later) (short_moves r ks m z s e)
      ∙ parts ps t e (ih (parted t))
      ∙ go (eqb s.escapes.waits 0)
    where
      z : List ℕ
      z = pieces ps (0x22 ∷ rest)

      t : Watch
      t = slashed (suc (suc (length z))) s

      go : (b : Bool)
          → cond b (verdict s (ahead_of 0 ps)) (record { number = 26; left = s.escapes.waiting })
          ≡ cond (eqb s.fault 0) (cond (b || false) (verdict s (ahead_of 0 ps)) (record { number = 26; left = s.escapes.waiting })) (verdict s (ahead_of 0 ps))
      go true = rw (eq-eqb s.fault 0 e)
      go false = rw (eq-eqb s.fault 0 e)

  unit_pends : (h i j l : Hex) (ps : Str) → ((t : Watch) → Pends ps t) → (s : Watch) → s.fault ≡ 0 → Pends (T.unit h i j l ∷ ps) s
  unfolding pieces_do string_starts coded
  unit_pends h i j l ps ih s e =
      let z : List ℕ = pieces ps (0x22 ∷ rest) in
      let c : ℕ = unit_code h i j l in
      let bs : List ℕ = 0x5C ∷ 0x75 ∷ hex h ∷ hex i ∷ hex j ∷ hex l ∷ z in
      ap (λ (t : Watch). verdict (string_does watching stopping r ks ps rest t) later) (unit_moves r ks h i j l z s e)
      ∙ ih (coded c (inside (three_code h i j) (unit_left h i j l z) s))
      ∙ unit_told c bs ps s e (three_code h i j) (is_low c) (eqb s.escapes.waits 0) (is_high c) (low_next ps) refl refl refl refl
      ∙ rw (eq-eqb s.fault 0 e)

  pub string_pends : (x : Str) (s : Watch) → Pends x s
  string_pends [] s = ⊎_elim (λ e. none_left s e) (λ n. after_fault [] s n) (by_zero s.fault)
  string_pends (plain c p ∷ ps) s = ⊎_elim (λ e. plain_pends c p ps (string_pends ps) s e) (λ n. after_fault (plain c p ∷ ps) s n) (by_zero s.fault)
  string_pends (T.escape m ∷ ps) s = ⊎_elim (λ e. short_pends m ps (string_pends ps) s e) (λ n. after_fault (T.escape m ∷ ps) s n) (by_zero s.fault)
  string_pends (T.unit h i j l ∷ ps) s = ⊎_elim (λ e. unit_pends h i j l ps (string_pends ps) s e) (λ n. after_fault (T.unit h i j l ∷ ps) s n) (by_zero s.fault)

  -- where no surrogate waits
  pub string_told : (x : Str) (s : Watch) → (s.fault ≢ 0) ⊎ (s.escapes.waits ≡ 0)
      → verdict (string_does watching stopping r ks x rest s) later ≡ verdict s (ahead_of 0 x)
  string_told x s (inl n) = string_pends x s ∙ pend_frozen s x (verdict s (ahead_of s.escapes.waits x)) n ∙ frozen s n (ahead_of s.escapes.waits x) (ahead_of 0 x)
  string_told x s (inr z) = string_pends x s ∙ go (eqb s.fault 0)
    where
      go : (b : Bool)
          → cond b (cond (eqb s.escapes.waits 0 || low_next x) (verdict s (ahead_of s.escapes.waits x)) (record { number = 26; left = s.escapes.waiting })) (verdict s (ahead_of s.escapes.waits x))
          ≡ verdict s (ahead_of 0 x)
      go true = rw (eq-eqb s.escapes.waits 0 z, z)
      go false = rw z
