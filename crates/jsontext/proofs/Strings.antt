-- Strings are read by the automaton.
--     encode-1 to -4     the bytes of a scalar value, by its size
--     spelled            where the bytes of a character lead
--     pieces_on          what stands in a string, and then the rest of it
-- Assumes nothing.
use mathlib.Core.List.{List, [], ◌∷◌, ◌++◌}
use mathlib.Core.Logic.{◌≢◌, inl, inr, ⊎_elim}
use mathlib.Core.Option.{some}
use mathlib.Core.Path.{◌≡◌, refl, ap}
use Prim.Native.Nat.{ℕ, suc, ◌+◌, ◌/◌, ◌%◌, ◌≤◌, ◌<◌}
use native.Mathlib.Omega.{arith}
use borrow.Author.Tests.{lt-ltb, le-ltb, ne_eqb}
use Rattle.jsontext.specs.Text as T
use Rattle.jsontext.specs.Utf8.{encode, Scalar}
use Rattle.jsontext.specs.Text.{capital, small, Plain, Short, quote, backslash, slash, backspace, form_feed, line_feed, carriage_return, tabulator, short, Hex, decimal, hex, Piece, plain, piece, pieces}
use Rattle.jsontext.specs.Automaton.{Bracket, Role, Char, one, two, three, after_e0, after_ed, after_f0, after_f4, Left, hex1, hex2, hex3, hex4, text, escape, unit, char, Place, State, at, innermost, changed, follow, after_hex, continuation, moves, pick, step, run}
use Rattle.laws.proofs.Tests.{le_or_lt}
use Rattle.jsontext.proofs.Moves.{Fits, hit, apart, clear, picked, Reading, quietly, loudly}
use Rattle.jsontext.specs.Sightings.{an_escape, Sighting, sighting, seen, piece_sightings, string_sightings}
use lib.ListN.{length}

pub encode_1 : (c : ℕ) (bs : List ℕ) → c < 0x80 → encode c bs ≡ c ∷ bs
unfolding encode
encode_1 c bs h = rw (lt-ltb c 0x80 h)

pub encode_2 : (c : ℕ) (bs : List ℕ) → 0x80 ≤ c → c < 0x800 → encode c bs ≡ (0xC0 + c / 0x40) ∷ (0x80 + c % 0x40) ∷ bs
unfolding encode
encode_2 c bs l h = rw (le-ltb c 0x80 l, lt-ltb c 0x800 h)

pub encode_3 : (c : ℕ) (bs : List ℕ) → 0x800 ≤ c → c < 0x10000
    → encode c bs ≡ (0xE0 + c / 0x1000) ∷ (0x80 + c / 0x40 % 0x40) ∷ (0x80 + c % 0x40) ∷ bs
unfolding encode
encode_3 c bs l h = rw (le-ltb c 0x80 (omega arith), le-ltb c 0x800 l, lt-ltb c 0x10000 h)

pub encode_4 : (c : ℕ) (bs : List ℕ) → 0x10000 ≤ c
    → encode c bs
    ≡ (0xF0 + c / 0x40000) ∷ (0x80 + c / 0x1000 % 0x40) ∷ (0x80 + c / 0x40 % 0x40) ∷ (0x80 + c % 0x40) ∷ bs
unfolding encode
encode_4 c bs l = rw (le-ltb c 0x80 (omega arith), le-ltb c 0x800 (omega arith), le-ltb c 0x10000 l)

-- ---- a character that stands as it is

module _ (r : Role) (ks : List Bracket) where
  -- the byte leads from this place to u
  abbrev Leads : Place → ℕ → State → Type 0
  Leads p b u = Fits (moves p (innermost ks)) b (λ m. follow ks (some m) ≡ some u)

  goes : (b : ℕ) (u : State) → Leads (text r) b u → step (at (text r) ks) b ≡ some u
  unfolding step apart clear
  goes b u f = picked (λ o. follow ks o ≡ some u) (moves (text r) (innermost ks)) b refl f

  -- the bytes lead from a place within a character to the rest of the string
  pub data Within : Place → List ℕ → Type 0 where
    whole_char : Within (text r) []
    further : {q : Place} {c : Char} {b : ℕ} {bs : List ℕ} → step (at (char c r) ks) b ≡ some (at q ks) → Within q bs → Within (char c r) (b ∷ bs)

  -- its first byte and the others, and where the first leads
  pub record Spelled (c : ℕ) : Type 0 where
    pub first : ℕ
    pub others : List ℕ
    pub same : (rest : List ℕ) → encode c rest ≡ first ∷ (others ++ rest)
    pub no_quote : first ≢ 0x22
    pub no_backslash : first ≢ 0x5C
    pub place : Place
    pub lead : step (at (text r) ks) first ≡ some (at place ks)
    pub tail : Within place others

  ascii : (c : ℕ) → Plain c → c < 0x80 → step (at (text r) ks) c ≡ some (at (text r) ks)
  ascii c p h =
      let low = p.no_control in
      let quote! = p.no_quote in
      let backslash! = p.no_backslash in
      goes
      c
      (at (text r) ks)
      (⊎_elim
      (λ l. inr (inr (inl (omega arith, l, refl))))
      (λ m. ⊎_elim (λ l. inr (inr (inr (inl (omega arith, l, refl))))) (λ n. inr (inr (inr (inr (inl (omega arith, omega arith, refl)))))) (le_or_lt c 0x5B))
      (le_or_lt c 0x21))

  -- a byte that goes on with a character
  next : (c : Char) (b : ℕ) → (continuation c r).low ≤ b → b ≤ (continuation c r).high
      → step (at (char c r) ks) b ≡ some (at (continuation c r).place (changed (continuation c r).change ks))
  unfolding step
  next c b l h = ap (follow ks) (hit (continuation c r) [] b l h)

  -- the last byte; the last two
  last_1 : (c : ℕ) → Within (char one r) ((0x80 + c % 0x40) ∷ [])
  last_1 c = further (next one (0x80 + c % 0x40) (omega arith) (omega arith)) whole_char

  last_2 : (c : ℕ) → Within (char two r) ((0x80 + c / 0x40 % 0x40) ∷ (0x80 + c % 0x40) ∷ [])
  last_2 c = further (next two (0x80 + c / 0x40 % 0x40) (omega arith) (omega arith)) (last_1 c)

  -- a character of several bytes
  leads : (c b : ℕ) (q : Place) (bs : List ℕ) → ((rest : List ℕ) → encode c rest ≡ b ∷ (bs ++ rest)) → 0x5C < b → Leads (text r) b (at q ks) → Within q bs → Spelled c
  leads c b q bs e h f w =
      record { first = b; others = bs; same = e; no_quote = λ x. omega arith; no_backslash = λ x. omega arith; place = q; lead = goes b (at q ks) f; tail = w }

  two_bytes : (c : ℕ) → 0x80 ≤ c → c < 0x800 → Spelled c
  two_bytes c l h =
      leads c (0xC0 + c / 0x40) (char one r) ((0x80 + c % 0x40) ∷ []) (λ rest. encode_2 c rest l h) (omega arith) (inr (inr (inr (inr (inr (inl (omega arith, omega arith, refl))))))) (last_1 c)

  three_bytes : (c : ℕ) → 0x800 ≤ c → c < 0x10000 → Scalar c → Spelled c
  three_bytes c l h (inr s) =
      leads c (0xE0 + c / 0x1000) (char two r) ((0x80 + c / 0x40 % 0x40) ∷ (0x80 + c % 0x40) ∷ []) (λ rest. encode_3 c rest l h) (omega arith) (inr (inr (inr (inr (inr (inr (inr (inr (inr (inl (omega arith, omega arith, refl))))))))))) (last_2 c)
  three_bytes c l h (inl s) = ⊎_elim (λ m. ⊎_elim (λ n. high n) (λ n. middle m n) (le_or_lt 0xD000 c)) (λ m. low m) (le_or_lt 0x1000 c)
    where
      low : c < 0x1000 → Spelled c
      low m =
          leads c (0xE0 + c / 0x1000) (char after_e0 r) ((0x80 + c / 0x40 % 0x40) ∷ (0x80 + c % 0x40) ∷ []) (λ rest. encode_3 c rest l h)
          (omega arith) (inr (inr (inr (inr (inr (inr (inl (omega arith, omega arith, refl))))))))
          (further (next after_e0 (0x80 + c / 0x40 % 0x40) (omega arith) (omega arith)) (last_1 c))

      middle : 0x1000 ≤ c → c < 0xD000 → Spelled c
      middle m n =
          leads c (0xE0 + c / 0x1000) (char two r) ((0x80 + c / 0x40 % 0x40) ∷ (0x80 + c % 0x40) ∷ []) (λ rest. encode_3 c rest l h)
          (omega arith) (inr (inr (inr (inr (inr (inr (inr (inl (omega arith, omega arith, refl)))))))))
          (last_2 c)

      high : 0xD000 ≤ c → Spelled c
      high m =
          leads c (0xE0 + c / 0x1000) (char after_ed r) ((0x80 + c / 0x40 % 0x40) ∷ (0x80 + c % 0x40) ∷ []) (λ rest. encode_3 c rest l h)
          (omega arith) (inr (inr (inr (inr (inr (inr (inr (inr (inl (omega arith, omega arith, refl))))))))))
          (further (next after_ed (0x80 + c / 0x40 % 0x40) (omega arith) (omega arith)) (last_1 c))

  four_bytes : (c : ℕ) → 0x10000 ≤ c → c < 0x110000 → Spelled c
  four_bytes c l h =
      ⊎_elim (λ m. ⊎_elim (λ n. high n) (λ n. middle m n) (le_or_lt 0x100000 c)) (λ m. low m) (le_or_lt 0x40000 c)
    where
      low : c < 0x40000 → Spelled c
      low m =
          leads c (0xF0 + c / 0x40000) (char after_f0 r) ((0x80 + c / 0x1000 % 0x40) ∷ (0x80 + c / 0x40 % 0x40) ∷ (0x80 + c % 0x40) ∷ []) (λ rest. encode_4 c rest l)
          (omega arith) (inr (inr (inr (inr (inr (inr (inr (inr (inr (inr (inl (omega arith, omega arith, refl))))))))))))
          (further (next after_f0 (0x80 + c / 0x1000 % 0x40) (omega arith) (omega arith)) (last_2 c))

      middle : 0x40000 ≤ c → c < 0x100000 → Spelled c
      middle m n =
          leads c (0xF0 + c / 0x40000) (char three r) ((0x80 + c / 0x1000 % 0x40) ∷ (0x80 + c / 0x40 % 0x40) ∷ (0x80 + c % 0x40) ∷ []) (λ rest. encode_4 c rest l)
          (omega arith) (inr (inr (inr (inr (inr (inr (inr (inr (inr (inr (inr (inl (omega arith, omega arith, refl)))))))))))))
          (further (next three (0x80 + c / 0x1000 % 0x40) (omega arith) (omega arith)) (last_2 c))

      high : 0x100000 ≤ c → Spelled c
      high m =
          leads c (0xF0 + c / 0x40000) (char after_f4 r) ((0x80 + c / 0x1000 % 0x40) ∷ (0x80 + c / 0x40 % 0x40) ∷ (0x80 + c % 0x40) ∷ []) (λ rest. encode_4 c rest l)
          (omega arith) (inr (inr (inr (inr (inr (inr (inr (inr (inr (inr (inr (inr (inl (omega arith, omega arith, refl))))))))))))))
          (further (next after_f4 (0x80 + c / 0x1000 % 0x40) (omega arith) (omega arith)) (last_2 c))

  below : {c : ℕ} → Scalar c → c < 0x110000
  below (inl s) = omega arith
  below (inr s) = s.1

  pub spelled : (c : ℕ) → Plain c → Spelled c
  spelled c p =
      ⊎_elim
      (λ l.
      ⊎_elim
      (λ m. ⊎_elim (λ n. four_bytes c n (below p.scalar)) (λ n. three_bytes c m n p.scalar) (le_or_lt 0x10000 c))
      (λ m. two_bytes c l m)
      (le_or_lt 0x800 c))
      (λ l.
      record {
        first = c;
        others = [];
        same = λ rest. encode_1 c rest l;
        no_quote = p.no_quote;
        no_backslash = p.no_backslash;
        place = text r;
        lead = ascii c p l;
        tail = whole_char;
      })
      (le_or_lt 0x80 c)

  -- ---- the digits of an escape

  hex_goes : (l : Left) (b : ℕ) (u : State) → Leads (unit l r) b u → step (at (unit l r) ks) b ≡ some u
  unfolding step apart clear
  hex_goes l b u f = picked (λ o. follow ks o ≡ some u) (moves (unit l r) (innermost ks)) b refl f

  pub hex_step : (l : Left) (h : Hex) → step (at (unit l r) ks) (hex h) ≡ some (at (after_hex l r) ks)
  hex_step l (decimal d) = let s : d.worth < 10 = d.small in hex_goes l (T.digit d) (at (after_hex l r) ks) (inl (omega arith, omega arith, refl))
  hex_step l (T.letter capital k p) = hex_goes l (0x41 + k) (at (after_hex l r) ks) (inr (inl (omega arith, omega arith, refl)))
  hex_step l (T.letter small k p) = hex_goes l (0x61 + k) (at (after_hex l r) ks) (inr (inr (inl (omega arith, omega arith, refl))))

-- ---- strings

module _ (L : List Sighting) (r : Role) (ks : List Bracket) where
  abbrev Inside : List ℕ → Type 0
  Inside bs = Reading L (at (text r) ks) bs

  plain_on : (c : ℕ) (bs : List ℕ) → Plain c → Inside bs → Inside (encode c bs)
  plain_on c bs p a =
      let f = spelled r ks c p in
      rw (f.same bs) (quietly L (text r) ks (at f.place ks) f.first (f.others ++ bs) (rw (ne_eqb f.first 0x5C f.no_backslash)) f.lead (within f.tail))
    where
      within : {q : Place} {xs : List ℕ} → Within r ks q xs → Reading L (at q ks) (xs ++ bs)
      within whole_char = a
      within (further {q} {c = d} {b = x} {bs = xs} e w) = quietly L (char d r) ks (at q ks) x (xs ++ bs) refl e (within w)

  -- ---- escapes

  short_on : (m : Short) (bs : List ℕ) → Inside bs → Reading L (at (escape r) ks) (short m ∷ bs)
  unfolding run step pick seen
  short_on quote bs a = a
  short_on backslash bs a = a
  short_on slash bs a = a
  short_on backspace bs a = a
  short_on form_feed bs a = a
  short_on line_feed bs a = a
  short_on carriage_return bs a = a
  short_on tabulator bs a = a

  hex_on : (l : Left) (h : Hex) (bs : List ℕ) → Reading L (at (after_hex l r) ks) bs → Reading L (at (unit l r) ks) (hex h ∷ bs)
  hex_on l h bs a = quietly L (unit l r) ks (at (after_hex l r) ks) (hex h) bs refl (hex_step r ks l h) a

  escaped : (bs : List ℕ) → Reading L (at (escape r) ks) bs → Reading (sighting an_escape (suc (length ks)) (0x5C ∷ bs) ∷ L) (at (text r) ks) (0x5C ∷ bs)
  unfolding step pick
  escaped bs a = loudly L an_escape (text r) ks (at (escape r) ks) 0x5C bs refl refl a

  unit_4 : (bs : List ℕ) → Reading L (at (unit hex4 r) ks) bs → Reading L (at (escape r) ks) (0x75 ∷ bs)
  unfolding run step pick seen
  unit_4 bs a = a

  pub piece_on : (p : Piece) (bs : List ℕ) → Inside bs → Reading (piece_sightings p (suc (length ks)) bs L) (at (text r) ks) (piece p bs)
  piece_on (plain c p) bs a = plain_on c bs p a
  piece_on (T.escape m) bs a = escaped (short m ∷ bs) (short_on m bs a)
  piece_on (T.unit h i j k) bs a =
      escaped
      (0x75 ∷ hex h ∷ hex i ∷ hex j ∷ hex k ∷ bs)
      (unit_4
      (hex h ∷ hex i ∷ hex j ∷ hex k ∷ bs)
      (hex_on hex4 h (hex i ∷ hex j ∷ hex k ∷ bs) (hex_on hex3 i (hex j ∷ hex k ∷ bs) (hex_on hex2 j (hex k ∷ bs) (hex_on hex1 k bs a)))))

pub pieces_on : (L : List Sighting) (r : Role) (ks : List Bracket) (ps : List Piece) (bs : List ℕ)
    → Reading L (at (text r) ks) bs
    → Reading (string_sightings ps (suc (length ks)) bs L) (at (text r) ks) (pieces ps bs)
unfolding pieces string_sightings
pieces_on L r ks [] bs a = a
pieces_on L r ks (p ∷ ps) bs a = piece_on (string_sightings ps (suc (length ks)) bs L) r ks p (pieces ps bs) (pieces_on L r ks ps bs a)
