-- What is gathered along a text are its names before the limit, one after the other.
--     text_gathers    the theorem
-- Assumes nothing.
use mathlib.Core.Bool.{Bool, true, false, cond}
use mathlib.Core.List.{List, [], ◌∷◌, ◌++◌, append_assoc, append-nil}
use mathlib.Core.Option.{none, some}
use mathlib.Core.Path.{◌≡◌, refl, ap, sym, ◌∙◌}
use Prim.Native.Nat.{ℕ, suc, ◌+◌, ◌-◌, ◌/◌, ◌%◌, ◌≤◌, ◌<◌}
use native.Mathlib.Omega.{arith}
use borrow.Author.Tests.{ltb-true, lt-ltb}
use lib.Dec.{eqb, ltb}
use lib.ListN.{length, get_or, set, length-append, length-set}
use lib.Seq.{get_or-set_same, get_or-set_other}
use Rattle.jsontext.specs.Utf8.{encode}
use Rattle.jsontext.specs.Text as T
use Rattle.jsontext.specs.Text.{Space, spaces, Digit, digit, digits, digits1, Whole, from, Fraction, fraction, letter_e, Sign, unsigned, plus, signed, Exponent, exponent, Number, plain, Str, pieces, Value, null, truth, falsity, num, str, empty_array, array, empty_object, object, Elements, last, more, Members, last_m, more_m, value, elements, members, Text, bytes}
use Rattle.jsontext.specs.Value.{decoded}
use Rattle.jsontext.specs.Automaton as A
use Rattle.jsontext.specs.Automaton.{Bracket, square, curly, as_value, as_name, Place, start, nought, whole, part, power}
use Rattle.jsontext.specs.Along.{Act, along}
use Rattle.jsontext.proofs.AlongValues.{text_along}
use Rattle.jsontext.proofs.Doing.{digits_do, exponent_does, signed_does, tail_does, whole_end, minus_does, number_does, tails_do, char_does, pieces_do, string_does, value_does, elements_do, members_do}
use Rattle.reader.proofs.Lengths.{decoded_short, spaces_long, value_short}
use Rattle.naming.specs.Members.{values_in, elements_in, members_in, Named, named_in, value_names, element_names, member_names, text_names, tagged}
use Rattle.naming.specs.Gathering.{text_from, words_from, before, Gather, nothing_yet, levels, counted, starts, tag_of, opens_name, shuts_name, names, gather}
use Rattle.naming.proofs.Saying.{no_finish, orderly, Said, says_string}

-- ---- lists of names

text_append : (xs ys : List Named) → text_from (xs ++ ys) ≡ text_from xs ++ text_from ys
unfolding text_from
text_append [] ys = refl
text_append (x ∷ xs) ys = rw (text_append xs ys) (sym (append_assoc (tagged x) (text_from xs) (text_from ys)))

words_append : (at : ℕ) (xs ys : List Named) → words_from at (xs ++ ys) ≡ words_from at xs ++ words_from (at + length (text_from xs)) ys
unfolding words_from text_from
words_append at [] ys = ap (λ (a : ℕ). words_from a ys) (let z : at ≡ at + 0 = omega arith in z)
words_append at (x ∷ xs) ys =
    ap (λ (l : List ℕ). at ∷ length (tagged x) ∷ length x.behind ∷ l)
    (words_append (at + length (tagged x)) xs ys
    ∙ ap (λ (a : ℕ). words_from (at + length (tagged x)) xs ++ words_from a ys)
    (let z : at + length (tagged x) + length (text_from xs) ≡ at + length (tagged x ++ text_from xs) = omega (arith, length-append (tagged x) (text_from xs)) in z))

pub before_append : (limit : ℕ) (xs ys : List Named) → before limit (xs ++ ys) ≡ before limit xs ++ before limit ys
unfolding before
before_append limit [] ys = refl
before_append limit (x ∷ xs) ys = go (ltb limit (length x.behind)) (before_append limit xs ys)
  where
    go : (b : Bool) → before limit (xs ++ ys) ≡ before limit xs ++ before limit ys
        → cond b (x ∷ before limit (xs ++ ys)) (before limit (xs ++ ys)) ≡ cond b (x ∷ before limit xs) (before limit xs) ++ before limit ys
    go true e = ap (λ (l : List Named). x ∷ l) e
    go false e = e

-- ---- what was gathered between two states

-- these names, and so many values; of the objects with fewer than d brackets around them nothing changed
pub record Gathered (d : ℕ) (ns : List Named) (many : ℕ) (g g' : Gather) : Type 0 where
  pub text_is : g'.text ≡ g.text ++ text_from ns
  pub words_is : g'.words ≡ g.words ++ words_from (length g.text) ns
  pub values_is : g'.values ≡ g.values + many
  pub long : length g'.objects ≡ length g.objects
  pub kept : (i : ℕ) → i < d → get_or g'.objects i 0 ≡ get_or g.objects i 0

gathered_then : (d : ℕ) (ns ms ls : List Named) (a b c : ℕ) (g h k : Gather) → ls ≡ ns ++ ms → c ≡ a + b → Gathered d ns a g h → Gathered d ms b h k → Gathered d ls c g k
gathered_then d ns ms ls a b c g h k e f p q =
    rw e
    (record {
      text_is = q.text_is ∙ (rw p.text_is (append_assoc g.text (text_from ns) (text_from ms)) ∙ ap (λ (l : List ℕ). g.text ++ l) (sym (text_append ns ms)));
      words_is =
          q.words_is
          ∙ (rw (p.words_is, p.text_is, length-append g.text (text_from ns)) (append_assoc g.words (words_from (length g.text) ns) (words_from (length g.text + length (text_from ns)) ms))
          ∙ ap (λ (l : List ℕ). g.words ++ l) (sym (words_append (length g.text) ns ms)));
      values_is = let u = p.values_is in let w = q.values_is in omega arith;
      long = q.long ∙ p.long;
      kept = λ i l. q.kept i l ∙ p.kept i l;
    })

gathered_wide : (c d : ℕ) (ns : List Named) (a : ℕ) (g h : Gather) → c ≤ d → Gathered d ns a g h → Gathered c ns a g h
gathered_wide c d ns a g h l p =
    record { text_is = p.text_is; words_is = p.words_is; values_is = p.values_is; long = p.long; kept = λ i m. p.kept i (omega arith) }

-- a name that is not gathered leaves nothing of its object
passed_alike : (o p left : ℕ) (g : Gather) → opens_name false o left g ≡ opens_name false p left g
unfolding opens_name
passed_alike o p left g = refl

-- what follows a member is shorter
member_longer : (s : Str) (w w' : Space) (x : Value) (w'' w''' : Space) (ms : Members) (rest : List ℕ) (limit : ℕ)
    → limit < length (members ms rest)
    → limit < length (members (more_m s w w' x w'' w''' ms) rest)
unfolding value
member_longer s w w' x w'' w''' ms rest limit m =
    let others = members ms rest in
    let next = spaces w'' (0x2C ∷ spaces w''' others) in
    let end = spaces w (0x3A ∷ spaces w' (value x next)) in
    omega (
      arith,
      decoded_short 0 s (0x22 ∷ end),
      spaces_long w (0x3A ∷ spaces w' (value x next)),
      spaces_long w' (value x next),
      value_short x next,
      spaces_long w'' (0x2C ∷ spaces w''' others),
      spaces_long w''' others,
    )

module _ (limit : ℕ) where
  abbrev act : Act Gather
  act = gather limit

  -- ---- a name

  -- its opening quote, its inside and its closing quote, with the bytes behind it
  abbrev name_does : List Bracket → Str → List ℕ → Gather → Gather
  name_does ks s end g = string_does act no_finish as_name ks s end (act A.name ks 0x22 (pieces s (0x22 ∷ end)) g)

  module _ (ks : List Bracket) (o : ℕ) (s : Str) (end : List ℕ) (g : Gather) where
    abbrev all : List ℕ
    all = 0x22 ∷ pieces s (0x22 ∷ end)

    abbrev this : Named
    this = named_in o (decoded s) all

    abbrev opened : Bool → Gather
    opened b = opens_name b o (length all) g

    abbrev within : Bool → Gather
    within b = pieces_do act no_finish as_name ks s (0x22 ∷ end) (opened b)

    name_kept : Gathered (length ks) (this ∷ []) 0 g (shuts_name (within true))
    unfolding opens_name shuts_name text_from words_from tagged
    name_kept =
        let r = says_string limit ks s end (opened true) in
        let whole : (within true).text ≡ g.text ++ tagged this = r.text_is ∙ append_assoc g.text (tag_of o) (decoded s) in
        record {
          text_is = whole ∙ ap (λ (l : List ℕ). g.text ++ l) (sym (append-nil (tagged this)));
          words_is = rw (r.on_is, r.begun_is, r.left_is, r.words_is, whole, length-append g.text (tagged this))
              (ap (λ (n : ℕ). g.words ++ (length g.text ∷ n ∷ length all ∷ []))
              (let z : length g.text + length (tagged this) - length g.text ≡ length (tagged this) = omega arith in z));
          values_is = r.values_is ∙ (let z : g.values ≡ g.values + 0 = omega arith in z);
          long = ap length r.objects_is;
          kept = λ i l. ap (λ (xs : List ℕ). get_or xs i 0) r.objects_is;
        }

    name_passed : Gathered (length ks) [] 0 g (shuts_name (within false))
    unfolding opens_name shuts_name text_from words_from
    name_passed =
        let r = says_string limit ks s end (opened false) in
        record {
          text_is = r.text_is ∙ append-nil (g.text ++ []);
          words_is = rw (r.on_is, r.words_is) refl;
          values_is = r.values_is ∙ (let z : g.values ≡ g.values + 0 = omega arith in z);
          long = ap length r.objects_is;
          kept = λ i l. ap (λ (xs : List ℕ). get_or xs i 0) r.objects_is;
        }

    name_gathers : (limit < length all → get_or g.objects (length ks - 1) 0 ≡ o) → Gathered (length ks) (before limit (this ∷ [])) 0 g (name_does ks s end g)
    unfolding names before
    name_gathers known = go (ltb limit (length all)) refl
      where
        go : (b : Bool) → ltb limit (length all) ≡ b
            → Gathered (length ks) (cond b (this ∷ []) []) 0 g (shuts_name (pieces_do act no_finish as_name ks s (0x22 ∷ end) (opens_name b (get_or g.objects (length ks - 1) 0) (length all) g)))
        go true e = rw (known (ltb-true limit (length all) e)) name_kept
        go false e = rw (passed_alike (get_or g.objects (length ks - 1) 0) o (length all) g) name_passed

  -- ---- values

  -- an object whose first name is before the limit has not too many brackets around it: d of them are open around the value
  abbrev mutual
    pub Held : ℕ → Value → List ℕ → Type 0
    Held d null rest = Unit {0}
    Held d truth rest = Unit {0}
    Held d falsity rest = Unit {0}
    Held d (num n) rest = Unit {0}
    Held d (str s) rest = Unit {0}
    Held d (empty_array w) rest = Unit {0}
    Held d (array w vs) rest = HeldItems (suc d) vs (0x5D ∷ rest)
    Held d (empty_object w) rest = Unit {0}
    Held d (object w ms) rest = (limit < length (members ms (0x7D ∷ rest)) → d < levels) × HeldFields (suc d) ms (0x7D ∷ rest)

    pub HeldItems : ℕ → Elements → List ℕ → Type 0
    HeldItems d (last v w) rest = Held d v (spaces w rest)
    HeldItems d (more v w w' vs) rest = Held d v (spaces w (0x2C ∷ spaces w' (elements vs rest))) × HeldItems d vs rest

    pub HeldFields : ℕ → Members → List ℕ → Type 0
    HeldFields d (last_m s w w' v w'') rest = Held d v (spaces w'' rest)
    HeldFields d (more_m s w w' v w'' w''' ms) rest = Held d v (spaces w'' (0x2C ∷ spaces w''' (members ms rest))) × HeldFields d ms rest

  -- a value starts; if it is an object, its number is held where there is room for it
  started : (ks : List Bracket) (b : ℕ) (g : Gather) → Gathered (length ks) [] 1 g (starts ks b g)
  unfolding text_from words_from starts
  started ks b g = go (eqb b 0x7B)
    where
      go : (t : Bool) → Gathered (length ks) [] 1 g (counted (cond t (set g.objects (length ks) g.values) g.objects) g)
      go true =
          record {
            text_is = sym (append-nil g.text);
            words_is = sym (append-nil g.words);
            values_is = omega arith;
            long = length-set g.objects (length ks) g.values;
            kept = λ i l. get_or-set_other g.objects (length ks) i g.values 0 (λ (e : i ≡ length ks). omega arith);
          }
      go false =
          record { text_is = sym (append-nil g.text); words_is = sym (append-nil g.words); values_is = omega arith; long = refl; kept = λ i l. refl }

  -- an object's number is held
  number_held : (ks : List Bracket) (g : Gather) → length ks < length g.objects → get_or (starts ks 0x7B g).objects (length ks) 0 ≡ g.values
  unfolding starts
  number_held ks g h = get_or-set_same g.objects (length ks) g.values 0 h

  inner_object : (ks : List Bracket) (g : Gather) (o : ℕ) → get_or g.objects (length ks) 0 ≡ o → get_or g.objects (suc (length ks) - 1) 0 ≡ o
  inner_object ks g o e = let z : suc (length ks) - 1 ≡ length ks = omega arith in rw z e

  -- ---- numbers and strings that are values: their first byte alone matters

  digits_still : (p : Place) (ks : List Bracket) → ((b : ℕ) (bs : List ℕ) (g : Gather) → act p ks b bs g ≡ g) → (ds : List Digit) (rest : List ℕ) (g : Gather)
      → digits_do act no_finish p ks ds rest g ≡ g
  unfolding digits_do
  digits_still p ks still [] rest g = refl
  digits_still p ks still (d ∷ ds) rest g = rw (still (digit d) (digits ds rest) g) (digits_still p ks still ds rest g)

  exponent_still : (p : Place) (ks : List Bracket) → ((b : ℕ) (bs : List ℕ) (g : Gather) → act p ks b bs g ≡ g) → (x : Exponent) (rest : List ℕ) (g : Gather)
      → exponent_does act no_finish p ks x rest g ≡ g
  exponent_still p ks still none rest g = refl
  exponent_still p ks still (some e) rest g = rw (still (letter_e e.letter) (signed e.sign (digits1 e.places rest)) g) (go e.sign)
    where
      go : (m : Sign) → signed_does act no_finish ks m e.places rest g ≡ g
      go unsigned = digits_still power ks (λ b bs g. refl) e.places.others rest g
      go plus = digits_still power ks (λ b bs g. refl) e.places.others rest g
      go T.minus = digits_still power ks (λ b bs g. refl) e.places.others rest g

  tail_still : (p : Place) (ks : List Bracket) → ((b : ℕ) (bs : List ℕ) (g : Gather) → act p ks b bs g ≡ g) → (f : Fraction) (x : Exponent) (rest : List ℕ) (g : Gather)
      → tail_does act no_finish p ks f x rest g ≡ g
  tail_still p ks still none x rest g = exponent_still p ks still x rest g
  tail_still p ks still (some ds) x rest g =
      rw (still 0x2E (digits1 ds (exponent x rest)) g, digits_still part ks (λ b bs g. refl) ds.others (exponent x rest) g) (exponent_still part ks (λ b bs g. refl) x rest g)

  -- the first byte of a number
  abbrev first_one_of : Bool → Whole → ℕ
  first_one_of true i = 0x2D
  first_one_of false T.nought = 0x30
  first_one_of false (from d q ds) = digit d

  number_starts : (ks : List Bracket) (n : Number) (rest : List ℕ) (g : Gather) → number_does act no_finish ks n rest g ≡ starts ks (first_one_of n.negative n.integer) g
  unfolding number_does
  number_starts ks n rest g = go n.negative n.integer
    where
      end : List ℕ
      end = fraction n.part (exponent n.power rest)

      go : (m : Bool) (i : Whole)
          → tail_does act no_finish (whole_end act no_finish i) ks n.part n.power rest (minus_does act no_finish m ks i end g)
          ≡ starts ks (first_one_of m i) g
      go true T.nought = tail_still nought ks (λ b bs g. refl) n.part n.power rest (starts ks 0x2D g)
      go true (from d q ds) =
          rw (digits_still whole ks (λ b bs g. refl) ds end (starts ks 0x2D g)) (tail_still whole ks (λ b bs g. refl) n.part n.power rest (starts ks 0x2D g))
      go false T.nought = tail_still nought ks (λ b bs g. refl) n.part n.power rest (starts ks 0x30 g)
      go false (from d q ds) =
          rw (lt-ltb 0x20 (digit d) (omega arith), digits_still whole ks (λ b bs g. refl) ds end (starts ks (digit d) g))
          (tail_still whole ks (λ b bs g. refl) n.part n.power rest (starts ks (digit d) g))

  tails_still : (ks : List Bracket) (bs z : List ℕ) (g : Gather) → tails_do act no_finish as_value ks bs z g ≡ g
  unfolding tails_do
  tails_still ks [] z g = refl
  tails_still ks (b ∷ bs) z g = tails_still ks bs z g

  char_still : (ks : List Bracket) (bs z : List ℕ) (g : Gather) → char_does act no_finish as_value ks bs z g ≡ g
  char_still ks [] z g = refl
  char_still ks (b ∷ bs) z g = tails_still ks bs z g

  pieces_still : (ks : List Bracket) (s : Str) (rest : List ℕ) (g : Gather) → pieces_do act no_finish as_value ks s rest g ≡ g
  unfolding pieces_do
  pieces_still ks [] rest g = refl
  pieces_still ks (plain c p ∷ ps) rest g = rw (char_still ks (encode c []) (pieces ps rest) g) (pieces_still ks ps rest g)
  pieces_still ks (T.escape m ∷ ps) rest g = pieces_still ks ps rest g
  pieces_still ks (T.unit h i j k ∷ ps) rest g = pieces_still ks ps rest g

  -- ---- all values

  mutual
    unfolding value value_does value_names element_names member_names values_in elements_in members_in before

    value_gathers : (x : Value) (ks : List Bracket) (rest : List ℕ) (v : ℕ) (g : Gather) → g.values ≡ v → length g.objects ≡ levels → Held (length ks) x rest
        → Gathered (length ks) (before limit (value_names v x rest)) (values_in x) g (value_does act no_finish ks x rest g)
    value_gathers null ks rest v g e l h = started ks 0x6E g
    value_gathers truth ks rest v g e l h = started ks 0x74 g
    value_gathers falsity ks rest v g e l h = started ks 0x66 g
    value_gathers (num n) ks rest v g e l h = rw (number_starts ks n rest g) (started ks (first_one_of n.negative n.integer) g)
    value_gathers (str s) ks rest v g e l h = rw (pieces_still ks s (0x22 ∷ rest) (starts ks 0x22 g)) (started ks 0x22 g)
    value_gathers (empty_array w) ks rest v g e l h = started ks 0x5B g
    value_gathers (array w vs) ks rest v g e l h =
        let s = started ks 0x5B g in
        let g₁ = starts ks 0x5B g in
        let k = elements_gather vs (square ∷ ks) (0x5D ∷ rest) (suc v) g₁ (let z = s.values_is in omega arith) (s.long ∙ l) h in
        gathered_then (length ks) [] (before limit (element_names (suc v) vs (0x5D ∷ rest))) (before limit (element_names (suc v) vs (0x5D ∷ rest))) 1 (elements_in vs) (suc (elements_in vs)) g g₁
        (elements_do act no_finish (square ∷ ks) vs (0x5D ∷ rest) g₁) refl (omega arith) s
        (gathered_wide (length ks) (suc (length ks)) (before limit (element_names (suc v) vs (0x5D ∷ rest))) (elements_in vs) g₁ (elements_do act no_finish (square ∷ ks) vs (0x5D ∷ rest) g₁) (omega arith) k)
    value_gathers (empty_object w) ks rest v g e l h = started ks 0x7B g
    value_gathers (object w ms) ks rest v g e l h =
        let s = started ks 0x7B g in
        let g₁ = starts ks 0x7B g in
        let ns = before limit (member_names v (suc v) ms (0x7D ∷ rest)) in
        let g₂ = members_do act no_finish (curly ∷ ks) ms (0x7D ∷ rest) g₁ in
        let k = members_gather ms ks (0x7D ∷ rest) v (suc v) g₁ (let z = s.values_is in omega arith) (s.long ∙ l) h.1
        (λ (m : limit < length (members ms (0x7D ∷ rest))). let d : length ks < levels = h.0 m in number_held ks g (omega arith) ∙ e) in
        gathered_then (length ks) [] ns ns 1 (members_in ms) (suc (members_in ms)) g g₁ g₂ refl (omega arith) s
        (gathered_wide (length ks) (suc (length ks)) ns (members_in ms) g₁ g₂ (omega arith) k)

    elements_gather : (vs : Elements) (ks : List Bracket) (rest : List ℕ) (v : ℕ) (g : Gather) → g.values ≡ v → length g.objects ≡ levels → HeldItems (length ks) vs rest
        → Gathered (length ks) (before limit (element_names v vs rest)) (elements_in vs) g (elements_do act no_finish ks vs rest g)
    elements_gather (last x w) ks rest v g e l h = value_gathers x ks (spaces w rest) v g e l h
    elements_gather (more x w w' xs) ks rest v g e l h =
        let end = spaces w (0x2C ∷ spaces w' (elements xs rest)) in
        let p = value_gathers x ks end v g e l h.0 in
        let g₁ = value_does act no_finish ks x end g in
        let q = elements_gather xs ks rest (v + values_in x) g₁ (let z = p.values_is in omega arith) (p.long ∙ l) h.1 in
        let ns = value_names v x end in
        let ms = element_names (v + values_in x) xs rest in
        gathered_then (length ks) (before limit ns) (before limit ms) (before limit (ns ++ ms)) (values_in x) (elements_in xs) (values_in x + elements_in xs) g g₁ (elements_do act no_finish ks xs rest g₁)
        (before_append limit ns ms) refl p q

    members_gather : (ms : Members) (ks : List Bracket) (rest : List ℕ) (o v : ℕ) (g : Gather) → g.values ≡ v → length g.objects ≡ levels
        → HeldFields (suc (length ks)) ms rest
        → (limit < length (members ms rest) → get_or g.objects (length ks) 0 ≡ o)
        → Gathered (suc (length ks)) (before limit (member_names o v ms rest)) (members_in ms) g (members_do act no_finish (curly ∷ ks) ms rest g)
    members_gather (last_m s w w' x w'') ks rest o v g e l h known =
        let next = spaces w'' rest in
        let end = spaces w (0x3A ∷ spaces w' (value x next)) in
        let x₁ = named_in o (decoded s) (0x22 ∷ pieces s (0x22 ∷ end)) in
        let g₁ = name_does (curly ∷ ks) s end g in
        let p = name_gathers (curly ∷ ks) o s end g (λ (m : limit < length (0x22 ∷ pieces s (0x22 ∷ end))). inner_object ks g o (known m)) in
        let q = value_gathers x (curly ∷ ks) next v g₁ (let z = p.values_is in omega arith) (p.long ∙ l) h in
        gathered_then (suc (length ks)) (before limit (x₁ ∷ [])) (before limit (value_names v x next)) (before limit ((x₁ ∷ []) ++ value_names v x next)) 0 (values_in x) (values_in x) g g₁
        (value_does act no_finish (curly ∷ ks) x next g₁) (before_append limit (x₁ ∷ []) (value_names v x next)) (omega arith) p q
    members_gather (more_m s w w' x w'' w''' ms) ks rest o v g e l h known =
        let others = members ms rest in
        let next = spaces w'' (0x2C ∷ spaces w''' others) in
        let end = spaces w (0x3A ∷ spaces w' (value x next)) in
        let x₁ = named_in o (decoded s) (0x22 ∷ pieces s (0x22 ∷ end)) in
        let g₁ = name_does (curly ∷ ks) s end g in
        let g₂ = value_does act no_finish (curly ∷ ks) x next g₁ in
        let g₃ = members_do act no_finish (curly ∷ ks) ms rest g₂ in
        let here = value_names v x next in
        let more = member_names o (v + values_in x) ms rest in
        let p = name_gathers (curly ∷ ks) o s end g (λ (m : limit < length (0x22 ∷ pieces s (0x22 ∷ end))). inner_object ks g o (known m)) in
        let q = value_gathers x (curly ∷ ks) next v g₁ (let z = p.values_is in omega arith) (p.long ∙ l) h.0 in
        let r = members_gather ms ks rest o (v + values_in x) g₂ (let y = p.values_is in let z = q.values_is in omega arith) (q.long ∙ (p.long ∙ l)) h.1
        (λ (m : limit < length others). q.kept (length ks) (omega arith) ∙ (p.kept (length ks) (omega arith) ∙ known (member_longer s w w' x w'' w''' ms rest limit m))) in
        gathered_then (suc (length ks)) (before limit (x₁ ∷ [])) (before limit (here ++ more)) (before limit ((x₁ ∷ []) ++ (here ++ more))) 0 (values_in x + members_in ms) (values_in x + members_in ms) g g₁ g₃
        (before_append limit (x₁ ∷ []) (here ++ more)) (omega arith) p
        (gathered_then (suc (length ks)) (before limit here) (before limit more) (before limit (here ++ more)) (values_in x) (members_in ms) (values_in x + members_in ms) g₁ g₂ g₃
        (before_append limit here more) refl q r)

  -- along a whole text
  pub text_gathers : (t : Text) → Held 0 t.root (spaces t.behind [])
      → Gathered 0 (before limit (text_names t)) (values_in t.root) nothing_yet (along act (bytes t) (some start) nothing_yet)
  text_gathers t h =
      rw (text_along act no_finish (orderly limit) t nothing_yet) (value_gathers t.root [] (spaces t.behind []) 0 nothing_yet refl refl h)
