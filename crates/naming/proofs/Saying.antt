-- A name that is gathered byte by byte is what its string is decoded to.
--     orderly       gathering keeps to the order of a text
--     says_string   what the inside of a name says
-- Assumes nothing.
use mathlib.Core.Bool.{Bool, true, false, cond, ◌&&◌, not}
use mathlib.Core.List.{List, [], ◌∷◌, ◌++◌, append_assoc, append-nil}
use mathlib.Core.Logic.{◌≢◌, ⊎_elim}
use mathlib.Core.Path.{◌≡◌, refl, ap, sym, ◌∙◌}
use Prim.Native.Nat.{ℕ, suc, ◌+◌, ◌-◌, ◌*◌, ◌/◌, ◌%◌, ◌≤◌, ◌<◌}
use native.Mathlib.Omega.{arith}
use borrow.Author.Tests.{eqb-true, ne_eqb, eq-eqb}
use lib.Dec.{eqb, ltb, leb}
use lib.ListN.{length, get_or}
use Rattle.laws.proofs.Tests.{le_or_lt}
use Rattle.jsontext.specs.Utf8.{encode}
use Rattle.jsontext.specs.Text as T
use Rattle.jsontext.specs.Text.{Blank, space, tab, feed, return, blank, Plain, Short, quote, backslash, slash, backspace, form_feed, line_feed, carriage_return, tabulator, short, Hex, hex, plain, Str, piece, pieces}
use Rattle.jsontext.specs.Value.{short_code, hex_worth, unit_code, is_high, is_low, low_next, joined, decoded_after}
use Rattle.jsontext.specs.Automaton.{Bracket, as_value, as_name, Char, Word, Place, first_element, hex1, hex2, hex3, hex4}
use Rattle.jsontext.proofs.Strings.{spelled}
use Rattle.jsontext.proofs.Numbers.{Ending, Stops, at_nought, at_whole, at_part, at_power}
use Rattle.jsontext.proofs.Doing.{Waits, waits_ahead, waits_first, waits_after, waits_name, waits_first_name, waits_colon, Orderly, tails_do, char_does, pieces_do}
use Rattle.escapes.specs.Escapes.{hex_at}
use Rattle.escapes.proofs.Escaped.{hex_read, hex_small}
use Rattle.naming.specs.Gathering.{Gather, starts, says, unit_is, waits_for, short_at, digit_of, low_ahead, escaped, names, gather}

abbrev pub no_finish : List Bracket → Gather → Gather
no_finish ks g = g

pub orderly : (limit : ℕ) → Orderly (gather limit) no_finish
unfolding names
orderly limit =
    record {
      blanks = white;
      commas = λ ks bs g. refl;
      colons = λ ks bs g. refl;
      words = λ w ks b bs g. refl;
      firsts = λ ks b bs g ne. rw (ne_eqb b 0x5D ne) (same (ltb 0x20 b) ks b g);
      first_names = λ ks bs g. refl;
      empty_arrays = λ ks bs g. refl;
      empty_objects = λ ks bs g. refl;
      chars = λ c r ks b bs g. refl;
      ends = ending;
    }
  where
    same : (t : Bool) (ks : List Bracket) (b : ℕ) (g : Gather) → cond (t && true) (starts ks b g) g ≡ cond t (starts ks b g) g
    same true ks b g = refl
    same false ks b g = refl

    white : {p : Place} → Waits p → (ks : List Bracket) (c : Blank) (bs : List ℕ) (g : Gather) → gather limit p ks (blank c) bs g ≡ g
    white waits_ahead ks space bs g = refl
    white waits_ahead ks tab bs g = refl
    white waits_ahead ks feed bs g = refl
    white waits_ahead ks return bs g = refl
    white waits_first ks space bs g = refl
    white waits_first ks tab bs g = refl
    white waits_first ks feed bs g = refl
    white waits_first ks return bs g = refl
    white waits_after ks c bs g = refl
    white waits_name ks space bs g = refl
    white waits_name ks tab bs g = refl
    white waits_name ks feed bs g = refl
    white waits_name ks return bs g = refl
    white waits_first_name ks space bs g = refl
    white waits_first_name ks tab bs g = refl
    white waits_first_name ks feed bs g = refl
    white waits_first_name ks return bs g = refl
    white waits_colon ks c bs g = refl

    ending : {p : Place} → Stops p → (ks : List Bracket) (b : ℕ) (bs : List ℕ) (g : Gather) → Ending b → gather limit p ks b bs g ≡ g
    ending at_nought ks b bs g e = refl
    ending at_whole ks b bs g e = refl
    ending at_part ks b bs g e = refl
    ending at_power ks b bs g e = refl

-- ---- bytes that are said one after the other

said_twice : (on : Bool) (t cs bs : List ℕ) → (t ++ cond on cs []) ++ cond on bs [] ≡ t ++ cond on (cs ++ bs) []
said_twice true t cs bs = append_assoc t cs bs
said_twice false t cs bs = append-nil (t ++ [])

says_more : (cs bs : List ℕ) (g : Gather) → says bs (says cs g) ≡ says (cs ++ bs) g
unfolding says
says_more cs bs g = rw (said_twice g.on g.text cs bs)

module _ (limit : ℕ) (ks : List Bracket) where
  tails_say : (cs bs z : List ℕ) (g : Gather) → tails_do (gather limit) no_finish as_name ks bs z (says cs g) ≡ says (cs ++ bs) g
  unfolding tails_do
  tails_say cs [] z g = ap (λ (l : List ℕ). says l g) (sym (append-nil cs))
  tails_say cs (b ∷ bs) z g =
      ap (tails_do (gather limit) no_finish as_name ks bs z) (says_more cs (b ∷ []) g)
      ∙ (tails_say (cs ++ b ∷ []) bs z g ∙ ap (λ (l : List ℕ). says l g) (append_assoc cs (b ∷ []) bs))

  char_says : (c : ℕ) → Plain c → (z : List ℕ) (g : Gather) → char_does (gather limit) no_finish as_name ks (encode c []) z g ≡ says (encode c []) g
  char_says c p z g =
      let f = spelled as_name ks c p in
      let alone : encode c [] ≡ f.first ∷ f.others = f.same [] ∙ ap (λ (x : List ℕ). f.first ∷ x) (append-nil f.others) in
      rw (alone, ne_eqb f.first 0x22 f.no_quote, ne_eqb f.first 0x5C f.no_backslash) (tails_say (f.first ∷ []) f.others z g)

-- ---- escapes

short_says : (m : Short) (rest : List ℕ) → encode (short_code m) rest ≡ short_at (short m) ∷ rest
unfolding encode short_at
short_says quote rest = refl
short_says backslash rest = refl
short_says slash rest = refl
short_says backspace rest = refl
short_says form_feed rest = refl
short_says line_feed rest = refl
short_says carriage_return rest = refl
short_says tabulator rest = refl

short_escapes : (m : Short) (g : Gather) → cond (eqb (short m) 0x75) (unit_is 0 g) (says (short_at (short m) ∷ []) g) ≡ says (short_at (short m) ∷ []) g
short_escapes quote g = refl
short_escapes backslash g = refl
short_escapes slash g = refl
short_escapes backspace g = refl
short_escapes form_feed g = refl
short_escapes line_feed g = refl
short_escapes carriage_return g = refl
short_escapes tabulator g = refl

four_digits : (h i j k : Hex) → digit_of (digit_of (digit_of (digit_of 0 (hex h)) (hex i)) (hex j)) (hex k) ≡ unit_code h i j k
unfolding digit_of
four_digits h i j k = rw (hex_read h, hex_read i, hex_read j, hex_read k) (omega (arith, hex_small h, hex_small i, hex_small j, hex_small k))

-- the escape that follows is of a low surrogate
low_ahead_lem : (ps : Str) (rest : List ℕ) → low_ahead (pieces ps (0x22 ∷ rest)) ≡ low_next ps
unfolding low_ahead pieces
low_ahead_lem [] rest = refl
low_ahead_lem (plain c p ∷ ps) rest =
    let f = spelled as_name [] c p in
    rw (f.same (pieces ps (0x22 ∷ rest)), ne_eqb f.first 0x5C f.no_backslash)
low_ahead_lem (T.escape quote ∷ ps) rest = refl
low_ahead_lem (T.escape backslash ∷ ps) rest = refl
low_ahead_lem (T.escape slash ∷ ps) rest = refl
low_ahead_lem (T.escape backspace ∷ ps) rest = refl
low_ahead_lem (T.escape form_feed ∷ ps) rest = refl
low_ahead_lem (T.escape line_feed ∷ ps) rest = refl
low_ahead_lem (T.escape carriage_return ∷ ps) rest = refl
low_ahead_lem (T.escape tabulator ∷ ps) rest = refl
low_ahead_lem (T.unit h i j k ∷ ps) rest = ap (λ (c : ℕ). is_low c) (four_digits h i j k)

-- ---- the inside of a name

-- what saying bytes leaves; the number of an escape and what waits are of no matter afterwards
pub record Said (bs : List ℕ) (g g' : Gather) : Type 0 where
  pub text_is : g'.text ≡ g.text ++ cond g.on bs []
  pub words_is : g'.words ≡ g.words
  pub objects_is : g'.objects ≡ g.objects
  pub values_is : g'.values ≡ g.values
  pub on_is : g'.on ≡ g.on
  pub begun_is : g'.begun ≡ g.begun
  pub left_is : g'.left ≡ g.left

said_none : (g : Gather) → Said [] g g
said_none g =
    record { text_is = nothing_said g.on g.text; words_is = refl; objects_is = refl; values_is = refl; on_is = refl; begun_is = refl; left_is = refl }
  where
    nothing_said : (on : Bool) (t : List ℕ) → t ≡ t ++ cond on [] []
    nothing_said true t = sym (append-nil t)
    nothing_said false t = sym (append-nil t)

-- after what was said, more
said_then : (cs bs : List ℕ) (g g' : Gather) → Said bs (says cs g) g' → Said (cs ++ bs) g g'
unfolding says
said_then cs bs g g' s =
    record {
      text_is = s.text_is ∙ said_twice g.on g.text cs bs;
      words_is = s.words_is;
      objects_is = s.objects_is;
      values_is = s.values_is;
      on_is = s.on_is;
      begun_is = s.begun_is;
      left_is = s.left_is;
    }

-- what waits, and the number of an escape, change nothing else
said_after_unit : (c : ℕ) (bs : List ℕ) (g g' : Gather) → Said bs (unit_is c g) g' → Said bs g g'
unfolding unit_is
said_after_unit c bs g g' s =
    record { text_is = s.text_is; words_is = s.words_is; objects_is = s.objects_is; values_is = s.values_is; on_is = s.on_is; begun_is = s.begun_is; left_is = s.left_is }

said_after_waits : (w : ℕ) (bs : List ℕ) (g g' : Gather) → Said bs (waits_for w g) g' → Said bs g g'
unfolding waits_for
said_after_waits w bs g g' s =
    record { text_is = s.text_is; words_is = s.words_is; objects_is = s.objects_is; values_is = s.values_is; on_is = s.on_is; begun_is = s.begun_is; left_is = s.left_is }

encode_before : (c : ℕ) (bs : List ℕ) → encode c [] ++ bs ≡ encode c bs
unfolding encode
encode_before c bs = go (ltb c 0x80) (ltb c 0x800) (ltb c 0x10000)
  where
    go : (a b d : Bool)
        → cond a (c ∷ []) (cond b ((0xC0 + c / 0x40) ∷ (0x80 + c % 0x40) ∷ []) (cond d ((0xE0 + c / 0x1000) ∷ (0x80 + c / 0x40 % 0x40) ∷ (0x80 + c % 0x40) ∷ []) ((0xF0 + c / 0x40000) ∷ (0x80 + c / 0x1000 % 0x40) ∷ (0x80 + c / 0x40 % 0x40) ∷ (0x80 + c % 0x40) ∷ []))) ++ bs
        ≡ cond a (c ∷ bs) (cond b ((0xC0 + c / 0x40) ∷ (0x80 + c % 0x40) ∷ bs) (cond d ((0xE0 + c / 0x1000) ∷ (0x80 + c / 0x40 % 0x40) ∷ (0x80 + c % 0x40) ∷ bs) ((0xF0 + c / 0x40000) ∷ (0x80 + c / 0x1000 % 0x40) ∷ (0x80 + c / 0x40 % 0x40) ∷ (0x80 + c % 0x40) ∷ bs)))
    go true b d = refl
    go false true d = refl
    go false false true = refl
    go false false false = refl

module _ (limit : ℕ) (ks : List Bracket) where
  abbrev inside : Str → List ℕ → Gather → Gather
  inside s rest g = pieces_do (gather limit) no_finish as_name ks s (0x22 ∷ rest) g

  pub says_string : (s : Str) (rest : List ℕ) (g : Gather) → Said (decoded_after g.waits s) g (inside s rest g)
  unfolding pieces_do decoded_after says unit_is waits_for escaped
  says_string [] rest g = said_none g
  says_string (plain c p ∷ ps) rest g =
      rw (char_says limit ks c p (pieces ps (0x22 ∷ rest)) g, sym (encode_before c (decoded_after 0 ps)))
      (said_then (encode c []) (decoded_after 0 ps) g (inside ps rest (says (encode c []) g)) (says_string ps rest (says (encode c []) g)))
  says_string (T.escape m ∷ ps) rest g =
      rw (short_escapes m g, short_says m (decoded_after 0 ps))
      (said_then (short_at (short m) ∷ []) (decoded_after 0 ps) g (inside ps rest (says (short_at (short m) ∷ []) g)) (says_string ps rest (says (short_at (short m) ∷ []) g)))
  says_string (T.unit h i j k ∷ ps) rest g =
      rw (low_ahead_lem ps rest, four_digits h i j k)
      (go (is_high (unit_code h i j k) && low_next ps) (λ g. says_string ps rest g))
    where
      code : ℕ
      code = unit_code h i j k

      g₃ : Gather
      g₃ = unit_is (digit_of (digit_of (digit_of 0 (hex h)) (hex i)) (hex j)) g

      go : (b : Bool) → ((g : Gather) → Said (decoded_after g.waits ps) g (inside ps rest g))
          → Said (cond b (decoded_after code ps) (encode (joined g.waits code) (decoded_after 0 ps))) g
          (inside ps rest (cond b (waits_for code g₃) (says (encode (joined g.waits code) []) g₃)))
      go true next =
          said_after_unit g₃.unit (decoded_after code ps) g (inside ps rest (waits_for code g₃))
          (said_after_waits code (decoded_after code ps) g₃ (inside ps rest (waits_for code g₃)) (next (waits_for code g₃)))
      go false next =
          let one = encode (joined g.waits code) [] in
          rw (sym (encode_before (joined g.waits code) (decoded_after 0 ps)))
          (said_after_unit g₃.unit (one ++ decoded_after 0 ps) g (inside ps rest (says one g₃)) (said_then one (decoded_after 0 ps) g₃ (inside ps rest (says one g₃)) (next (says one g₃))))
