-- Names gathered with a limit are those gathered without one, up to a place behind which none is gathered.
--     limited      before that place
--     none_behind  behind it
-- Assumes nothing.
use mathlib.Core.Bool.{Bool, true, false, cond, ◌&&◌, not}
use mathlib.Core.List.{List, [], ◌∷◌, append-nil}
use mathlib.Core.Option.{Option, none, some}
use mathlib.Core.Path.{◌≡◌, refl, sym, ◌∙◌, ap}
use Prim.Native.Nat.{ℕ, suc, ◌+◌, ◌-◌, ◌≤◌, ◌<◌}
use native.Mathlib.Omega.{arith}
use borrow.Author.Tests.{eqb-true, lt-ltb, le-ltb}
use lib.Dec.{eqb, ltb}
use lib.ListN.{length, get_or, drop, length-drop}
use Rattle.jsontext.specs.Value.{is_high, joined}
use Rattle.jsontext.specs.Utf8.{encode}
use Rattle.jsontext.specs.Automaton.{Bracket, as_value, as_name, Left, hex1, hex2, hex3, hex4, Place, ahead, first_element, after, name, first_name, colon, word, minus, nought, whole, point, part, letter, sign, power, text, escape, unit, char, State, at, step, start}
use Rattle.jsontext.specs.Along.{along}
use Rattle.naming.specs.Gathering.{Gather, nothing_yet, starts, says, opens_name, shuts_name, unit_is, waits_for, escaped, low_ahead, short_at, digit_of, hex_more, names, gather}
use Rattle.trail.specs.Trail.{Kept, Trail, begins, goes}
use Rattle.trail.proofs.Naming.{View, a_start, no_start, view}
use Rattle.trail.proofs.Ordered.{ordered}
use Rattle.trail.proofs.Along.{one_more}

-- ---- before

module _ (json : List ℕ) (limit : ℕ) where
  -- one byte: the last name starts before the limit, and so did the one before it
  same_act : (i : ℕ) (p : Place) (ks : List Bracket) (x : Kept) → i < length json → (0 < x.names.left → length json < i + x.names.left)
      → (0 < (gather 0 p ks (get_or json i 0) (drop (suc i) json) x.names).left → limit < (gather 0 p ks (get_or json i 0) (drop (suc i) json) x.names).left)
      → View p
      → (gather limit p ks (get_or json i 0) (drop (suc i) json) x.names ≡ gather 0 p ks (get_or json i 0) (drop (suc i) json) x.names) × (0 < x.names.left → limit < x.names.left)
  unfolding names opens_name
  same_act i p ks x more far h (no_start u s c) =
      let same = (s ks (get_or json i 0) (drop (suc i) json) x.names).left_is in
      (u limit ks (get_or json i 0) (drop (suc i) json) x.names, λ (z : 0 < x.names.left). rw same at (h (rw same z)))
  same_act i p ks x more far h (a_start out u to fresh) =
      let r = go (eqb (get_or json i 0) 0x22) refl (rw (u 0 ks (get_or json i 0) (drop (suc i) json) x.names) at h) in
      (u limit ks (get_or json i 0) (drop (suc i) json) x.names ∙ r.0 ∙ sym (u 0 ks (get_or json i 0) (drop (suc i) json) x.names), r.1)
    where
      b : ℕ
      b = get_or json i 0

      bs : List ℕ
      bs = drop (suc i) json

      g : Gather
      g = x.names

      o : ℕ
      o = get_or g.objects (length ks - 1) 0

      go : (t : Bool) → eqb b 0x22 ≡ t → (0 < (names 0 ks b bs g).left → limit < (names 0 ks b bs g).left)
          → (names limit ks b bs g ≡ names 0 ks b bs g) × (0 < g.left → limit < g.left)
      go true e k =
          let long : suc (length bs) ≡ length json - i = omega (arith, length-drop (suc i) json) in
          let under : limit < suc (length bs) = rw e at k (omega arith) in
          (rw (e, lt-ltb limit (suc (length bs)) under, lt-ltb 0 (suc (length bs)) (omega arith)), λ (z : 0 < g.left). omega (arith, far z))
      go false e k = (rw e, rw e at k)

pub limited : {json : List ℕ} {i : ℕ} {s : State} {x : Kept} → Trail json i s x → (limit : ℕ) → (0 < x.names.left → limit < x.names.left)
    → along (gather limit) json (some start) nothing_yet ≡ along (gather limit) (drop i json) (some s) x.names
limited begins limit h = refl
limited {json = json} (goes {i} {s = at p ks} {t} {x} tr on more e) limit h =
    let r = same_act json limit i p ks x more (ordered tr).far h (view p) in
    limited tr limit r.1 ∙ one_more (gather limit) json i p ks t x.names more e ∙ ap (along (gather limit) (drop (suc i) json) (some t)) r.0

-- ---- behind

-- no name is under way, and the names are the same
pub record Quiet (g h : Gather) : Type 0 where
  pub text_is : h.text ≡ g.text
  pub words_are : h.words ≡ g.words
  pub off : h.on ≡ false

by : (t : Bool) (g x y : Gather) → Quiet g x → Quiet g y → Quiet g (cond t x y)
by true g x y p q = p
by false g x y p q = q

module _ (g : Gather) (off : g.on ≡ false) where
  unmoved : Quiet g g
  unmoved = record { text_is = refl; words_are = refl; off = off }

  said : (bs : List ℕ) → Quiet g (says bs g)
  unfolding says
  said bs = record { text_is = rw off (append-nil g.text); words_are = refl; off = off }

  shut : Quiet g (shuts_name g)
  unfolding shuts_name
  shut = record { text_is = refl; words_are = rw off (append-nil g.words); off = refl }

  unit_more : (c : ℕ) → Quiet g (unit_is c g)
  unfolding unit_is
  unit_more c = record { text_is = refl; words_are = refl; off = off }

  waiting : (c : ℕ) → Quiet g (waits_for c g)
  unfolding waits_for
  waiting c = record { text_is = refl; words_are = refl; off = off }

  started : (ks : List Bracket) (b : ℕ) → Quiet g (starts ks b g)
  unfolding starts
  started ks b = record { text_is = refl; words_are = refl; off = off }

  escape_done : (c : ℕ) (bs : List ℕ) → Quiet g (escaped c bs g)
  unfolding escaped
  escape_done c bs = by (is_high c && low_ahead bs) g (waits_for c g) (says (encode (joined g.waits c) []) g) (waiting c) (said (encode (joined g.waits c) []))

  hex_more_lem : (h : Left) (b : ℕ) (bs : List ℕ) → Quiet g (hex_more h b bs g)
  hex_more_lem hex1 b bs = escape_done (digit_of g.unit b) bs
  hex_more_lem hex2 b bs = unit_more (digit_of g.unit b)
  hex_more_lem hex3 b bs = unit_more (digit_of g.unit b)
  hex_more_lem hex4 b bs = unit_more (digit_of g.unit b)

  module _ (limit : ℕ) (ks : List Bracket) (b : ℕ) (bs : List ℕ) (late : b ≡ 0x22 → suc (length bs) ≤ limit) where
    named : Quiet g (names limit ks b bs g)
    unfolding names opens_name
    named = go (eqb b 0x22) refl
      where
        go : (t : Bool) → eqb b 0x22 ≡ t → Quiet g (cond t (opens_name (ltb limit (suc (length bs))) (get_or g.objects (length ks - 1) 0) (suc (length bs)) g) g)
        go true e =
            let past : ltb limit (suc (length bs)) ≡ false = le-ltb limit (suc (length bs)) (late (eqb-true b 0x22 e)) in
            record { text_is = rw past (append-nil g.text); words_are = refl; off = past }
        go false e = unmoved

    quiet_act : (p : Place) → Quiet g (gather limit p ks b bs g)
    quiet_act ahead = by (ltb 0x20 b) g _ _ (started ks b) unmoved
    quiet_act first_element = by (ltb 0x20 b && not (eqb b 0x5D)) g _ _ (started ks b) unmoved
    quiet_act after = unmoved
    quiet_act name = named
    quiet_act first_name = named
    quiet_act colon = unmoved
    quiet_act (word w) = unmoved
    quiet_act minus = unmoved
    quiet_act nought = unmoved
    quiet_act whole = unmoved
    quiet_act point = unmoved
    quiet_act part = unmoved
    quiet_act letter = unmoved
    quiet_act sign = unmoved
    quiet_act power = unmoved
    quiet_act (text as_value) = unmoved
    quiet_act (text as_name) = by (eqb b 0x22) g _ _ shut (by (eqb b 0x5C) g _ _ unmoved (said (b ∷ [])))
    quiet_act (escape as_value) = unmoved
    quiet_act (escape as_name) = by (eqb b 0x75) g _ _ (unit_more 0) (said (short_at b ∷ []))
    quiet_act (unit h as_value) = unmoved
    quiet_act (unit h as_name) = hex_more_lem h b bs
    quiet_act (char c as_value) = unmoved
    quiet_act (char c as_name) = said (b ∷ [])

then : (g h k : Gather) → Quiet g h → Quiet h k → Quiet g k
then g h k p q = record { text_is = q.text_is ∙ p.text_is; words_are = q.words_are ∙ p.words_are; off = q.off }

pub none_behind : (limit : ℕ) (l : List ℕ) (o : Option State) (g : Gather) → g.on ≡ false → length l ≤ limit → Quiet g (along (gather limit) l o g)
unfolding along
none_behind limit [] none g off h = unmoved g off
none_behind limit [] (some (at p ks)) g off h = quiet_act g off limit ks 0x20 [] (λ (e : 0x20 ≡ 0x22). absurd (omega arith)) p
none_behind limit (b ∷ bs) none g off h = unmoved g off
none_behind limit (b ∷ bs) (some (at p ks)) g off h =
    let now = quiet_act g off limit ks b bs (λ e. omega arith) p in
    then g (gather limit p ks b bs g) (along (gather limit) bs (step (at p ks) b) (gather limit p ks b bs g)) now
    (none_behind limit bs (step (at p ks) b) (gather limit p ks b bs g) now.off (omega arith))
