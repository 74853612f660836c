-- Gathering the names of a text beside the automaton (`along`): those that start before a place are kept in one list of bytes, each as `tagged` has it, with three
-- words: where it starts in that list, how long it is there, and how many bytes of the text there are from its opening quote on. So they lie as crate `names` asks.
-- Assumes nothing.
use Rattle.std.specs.Prelude.{Bool, true, false, cond, ◌&&◌, not, List, [], ◌∷◌, ◌++◌, ℕ, suc, ◌+◌, ◌-◌, ◌*◌, ◌/◌, ◌%◌, eqb, ltb, length, get_or, set, replicate}
use Rattle.jsontext.specs.Utf8.{encode}
use Rattle.jsontext.specs.Value.{is_high, is_low, joined}
use Rattle.jsontext.specs.Automaton.{Bracket, Role, as_value, as_name, Left, hex1, hex2, hex3, hex4, Place, ahead, first_element, after, name, first_name, colon, word, minus, nought, whole, point, part, letter, sign, power, text, escape, unit, char}
use Rattle.jsontext.specs.Along.{Act}
use Rattle.escapes.specs.Escapes.{hex_at}
use Rattle.naming.specs.Members.{Named, tagged}

-- ---- of a list of names

unfoldable pub text_from : List Named → List ℕ
text_from [] = []
text_from (x ∷ xs) = tagged x ++ text_from xs

-- their words, where the first starts at `at`
unfoldable pub words_from : ℕ → List Named → List ℕ
words_from at [] = []
words_from at (x ∷ xs) = at ∷ length (tagged x) ∷ length x.behind ∷ words_from (at + length (tagged x)) xs

-- those of which the text has more than `limit` bytes from their start on
unfoldable pub before : ℕ → List Named → List Named
before limit [] = []
before limit (x ∷ xs) = let later = before limit xs in cond (ltb limit (length x.behind)) (x ∷ later) later

-- ---- byte by byte

-- objects: the number of the object that was opened last with so many brackets around it; values: how many have started; on: a name is being gathered, which
-- begins at `begun` and from which on there are `left` bytes of text; unit: the number of an escape so far; waits: the high surrogate that waits, or 0
pub record Gather : Type 0 where
  pub text : List ℕ
  pub words : List ℕ
  pub objects : List ℕ
  pub values : ℕ
  pub on : Bool
  pub begun : ℕ
  pub left : ℕ
  pub unit : ℕ
  pub waits : ℕ

-- the most brackets around an object whose number is held
abbrev pub levels : ℕ
levels = 33

abbrev pub nothing_yet : Gather
nothing_yet =
    record { text = []; words = []; objects = replicate levels 0; values = 0; on = false; begun = 0; left = 0; unit = 0; waits = 0 }

-- a value starts
abbrev pub counted : List ℕ → Gather → Gather
counted objects g =
    record { text = g.text; words = g.words; objects = objects; values = suc g.values; on = g.on; begun = g.begun; left = g.left; unit = g.unit; waits = g.waits }

unfoldable pub starts : List Bracket → ℕ → Gather → Gather
starts ks b g = counted (cond (eqb b 0x7B) (set g.objects (length ks) g.values) g.objects) g

-- the bytes are of a name; none waits then
unfoldable pub says : List ℕ → Gather → Gather
says bs g =
    record { text = g.text ++ cond g.on bs []; words = g.words; objects = g.objects; values = g.values; on = g.on; begun = g.begun; left = g.left; unit = g.unit; waits = 0 }

abbrev pub tag_of : ℕ → List ℕ
tag_of o = o / 256 ∷ o % 256 ∷ []

-- a name of the object with number o starts, `left` bytes before the end
unfoldable pub opens_name : Bool → ℕ → ℕ → Gather → Gather
opens_name on o left g =
    record { text = g.text ++ cond on (tag_of o) []; words = g.words; objects = g.objects; values = g.values; on = on; begun = length g.text; left = left; unit = 0; waits = 0 }

unfoldable pub shuts_name : Gather → Gather
shuts_name g =
    record {
      text = g.text;
      words = g.words ++ cond g.on (g.begun ∷ (length g.text - g.begun) ∷ g.left ∷ []) [];
      objects = g.objects;
      values = g.values;
      on = false;
      begun = g.begun;
      left = g.left;
      unit = g.unit;
      waits = g.waits;
    }

unfoldable pub unit_is : ℕ → Gather → Gather
unit_is c g =
    record { text = g.text; words = g.words; objects = g.objects; values = g.values; on = g.on; begun = g.begun; left = g.left; unit = c; waits = g.waits }

unfoldable pub waits_for : ℕ → Gather → Gather
waits_for w g =
    record { text = g.text; words = g.words; objects = g.objects; values = g.values; on = g.on; begun = g.begun; left = g.left; unit = g.unit; waits = w }

-- the character of the byte after a backslash
unfoldable pub short_at : ℕ → ℕ
short_at b = cond (eqb b 0x62) 0x08 (cond (eqb b 0x66) 0x0C (cond (eqb b 0x6E) 0x0A (cond (eqb b 0x72) 0x0D (cond (eqb b 0x74) 0x09 b))))

-- the number of an escape with one digit more; of the number so far no more than three digits are looked at, so that it stays small whatever the bytes are
unfoldable pub digit_of : ℕ → ℕ → ℕ
digit_of c b = c % 0x1000 * 16 + hex_at b

-- the escape of a low surrogate stands here
unfoldable pub low_ahead : List ℕ → Bool
low_ahead bs =
    eqb (get_or bs 0 0) 0x5C
    && (eqb (get_or bs 1 0) 0x75 && is_low (digit_of (digit_of (digit_of (digit_of 0 (get_or bs 2 0)) (get_or bs 3 0)) (get_or bs 4 0)) (get_or bs 5 0)))

-- the last digit of an escape was read
unfoldable pub escaped : ℕ → List ℕ → Gather → Gather
escaped c bs g = cond (is_high c && low_ahead bs) (waits_for c g) (says (encode (joined g.waits c) []) g)

abbrev pub hex_more : Left → ℕ → List ℕ → Gather → Gather
hex_more hex1 b bs g = escaped (digit_of g.unit b) bs g
hex_more hex2 b bs g = unit_is (digit_of g.unit b) g
hex_more hex3 b bs g = unit_is (digit_of g.unit b) g
hex_more hex4 b bs g = unit_is (digit_of g.unit b) g

-- in a name
abbrev pub text_more : Role → ℕ → Gather → Gather
text_more as_value b g = g
text_more as_name b g = cond (eqb b 0x22) (shuts_name g) (cond (eqb b 0x5C) g (says (b ∷ []) g))

abbrev pub char_more : Role → ℕ → Gather → Gather
char_more as_value b g = g
char_more as_name b g = says (b ∷ []) g

abbrev pub escape_more : Role → ℕ → Gather → Gather
escape_more as_value b g = g
escape_more as_name b g = cond (eqb b 0x75) (unit_is 0 g) (says (short_at b ∷ []) g)

abbrev pub unit_more : Role → Left → ℕ → List ℕ → Gather → Gather
unit_more as_value h b bs g = g
unit_more as_name h b bs g = hex_more h b bs g

-- a name starts with a quote
unfoldable pub names : ℕ → List Bracket → ℕ → List ℕ → Gather → Gather
names limit ks b bs g =
    cond (eqb b 0x22) (opens_name (ltb limit (length (b ∷ bs))) (get_or g.objects (length ks - 1) 0) (length (b ∷ bs)) g) g

abbrev pub gather : ℕ → Act Gather
gather limit ahead ks b bs g = cond (ltb 0x20 b) (starts ks b g) g
gather limit first_element ks b bs g = cond (ltb 0x20 b && not (eqb b 0x5D)) (starts ks b g) g
gather limit name ks b bs g = names limit ks b bs g
gather limit first_name ks b bs g = names limit ks b bs g
gather limit (text r) ks b bs g = text_more r b g
gather limit (char c r) ks b bs g = char_more r b g
gather limit (escape r) ks b bs g = escape_more r b g
gather limit (unit h r) ks b bs g = unit_more r h b bs g
gather limit after ks b bs g = g
gather limit colon ks b bs g = g
gather limit (word w) ks b bs g = g
gather limit minus ks b bs g = g
gather limit nought ks b bs g = g
gather limit whole ks b bs g = g
gather limit point ks b bs g = g
gather limit part ks b bs g = g
gather limit letter ks b bs g = g
gather limit sign ks b bs g = g
gather limit power ks b bs g = g
