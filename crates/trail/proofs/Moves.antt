-- Where a step leads from a place, by one computed test over all places and their moves.
--     into_number    to a place in a number: from one, or where a value starts with the byte
--     into_escape    to a place in an escape: from one, or by a backslash in a string
--     within_name    from a place in a name: to one, or by the closing quote
--     into_bracket   to one bracket more: where a value starts with it
-- Assumes nothing.
use mathlib.Core.Bool.{Bool, true, false, cond, ◌&&◌, ◌||◌, not}
use mathlib.Core.List.{List, [], ◌∷◌}
use mathlib.Core.Logic.{◌⊎◌, inl, inr, ⊎_elim}
use mathlib.Core.Option.{Option, none, some}
use mathlib.Core.Path.{◌≡◌, refl, sym, ◌∙◌, subst}
use Prim.Native.Nat.{ℕ, zero, suc, ◌≤◌, ◌<◌}
use native.Mathlib.Omega.{arith}
use borrow.Author.Tests.{eqb-true, eq-eqb, ltb-true, lt-ltb, leb-true}
use lib.Dec.{eqb, leb, ltb}
use lib.ListN.{length, get_or}
use Rattle.jsontext.specs.Automaton.{Bracket, square, curly, Place, after, at, Change, keep, pop, push, Move, moves, pick, innermost, changed, follow, step}
use Rattle.grammar.specs.Codes.{places, place_code}
use Rattle.grammar.proofs.Places.{place_back, place_low}
use Rattle.laws.proofs.Tests.{left, right, either}
use Rattle.trail.proofs.Places.{is_number, in_name, in_escape, is_text, starts_value, pushes, numbered, escaping, bracketed}

-- ---- the test

-- the same of all bytes of a move
abbrev implies : Bool → Bool → Bool
implies a b = not a || b

abbrev fine : Place → Move → Bool
fine p m =
    implies (is_number m.place) (is_number p || (starts_value p && (ltb 0x20 m.low && ltb m.high 0x5D)))
    && (implies (in_escape m.place) (in_escape p || (is_text p && (eqb m.low 0x5C && eqb m.high 0x5C)))
    && (implies (in_name p) (in_name m.place || (is_text p && (eqb m.low 0x22 && eqb m.high 0x22)))
    && implies (pushes m.change) (starts_value p && (eqb m.low m.high && (eqb m.low 0x5B || eqb m.low 0x7B)))))

unfoldable every : (Move → Bool) → List Move → Bool
every f [] = true
every f (m ∷ ms) = f m && every f ms

abbrev fine_at : Place → Bool
fine_at p = every (fine p) (moves p none) && (every (fine p) (moves p (some square)) && every (fine p) (moves p (some curly)))

unfoldable everywhere : (Place → Bool) → List Place → Bool
everywhere f [] = true
everywhere f (p ∷ ps) = f p && everywhere f ps

all_fine : everywhere fine_at places ≡ true
unfolding everywhere every
all_fine = refl

-- ---- what it says of a step

fine_place : (f : Place → Bool) (ps : List Place) → everywhere f ps ≡ true → (i : ℕ) → i < length ps → f (get_or ps i after) ≡ true
unfolding everywhere
fine_place f [] e i h = absurd (omega arith)
fine_place f (p ∷ ps) e zero h = left (f p) (everywhere f ps) e
fine_place f (p ∷ ps) e (suc i) h = fine_place f ps (right (f p) (everywhere f ps) e) i (omega arith)

of_each : (f : Place → Bool) → everywhere f places ≡ true → (p : Place) → f p ≡ true
of_each f e p = subst (λ (q : Place). f q ≡ true) (place_back p) (fine_place f places e (place_code p) (place_low p))

each_place : (p : Place) → fine_at p ≡ true
each_place p = of_each fine_at all_fine p

-- within a name no value starts
no_value : everywhere (λ p. not (in_name p && starts_value p)) places ≡ true
unfolding everywhere
no_value = refl

pub name_no_value : (p : Place) (b : ℕ) → in_name p ≡ true → bracketed p b ≡ true → ⊥
name_no_value p b n v =
    let s : starts_value p ≡ true = left (starts_value p) (eqb b 0x5B || eqb b 0x7B) v in
    let z : ◌≡◌ {A = Bool} true false = sym (of_each (λ q. not (in_name q && starts_value q)) no_value p) ∙ rw (n, s) in
    let y : ◌≡◌ {A = ℕ} 0 1 = cc in
    omega arith

each_bracket : (p : Place) (k : Option Bracket) → every (fine p) (moves p k) ≡ true
each_bracket p none = left (every (fine p) (moves p none)) _ (each_place p)
each_bracket p (some square) = left (every (fine p) (moves p (some square))) _ (right (every (fine p) (moves p none)) _ (each_place p))
each_bracket p (some curly) = right (every (fine p) (moves p (some square))) _ (right (every (fine p) (moves p none)) _ (each_place p))

-- a move that is picked
record Picked (p : Place) (b : ℕ) (m : Move) : Type 0 where
  is_fine : fine p m ≡ true
  low : m.low ≤ b
  high : b ≤ m.high

no_move : {A : Type 0} {m : Move} → none ≡ some m → A
no_move e = absurd (let z : ◌≡◌ {A = ℕ} 0 1 = cc in omega arith)

picked_of : (p : Place) (b : ℕ) (ms : List Move) → every (fine p) ms ≡ true → (m : Move) → pick ms b ≡ some m → Picked p b m
unfolding every pick
picked_of p b [] e m q = no_move q
picked_of p b (x ∷ xs) e m q = go (leb x.low b && leb b x.high) refl q (λ r. picked_of p b xs (right (fine p x) (every (fine p) xs) e) m r)
  where
    go : (t : Bool) → leb x.low b && leb b x.high ≡ t → cond t (some x) (pick xs b) ≡ some m → (pick xs b ≡ some m → Picked p b m) → Picked p b m
    go true h r on =
        let same : x ≡ m = cc in
        subst (Picked p b) same
        (record {
          is_fine = left (fine p x) (every (fine p) xs) e;
          low = leb-true x.low b (left (leb x.low b) (leb b x.high) h);
          high = leb-true b x.high (right (leb x.low b) (leb b x.high) h);
        })
    go false h r on = on r

-- if it is so, it is
so : (a b : Bool) → implies a b ≡ true → a ≡ true → b ≡ true
so true b e h = e
so false b e h = cc

module _ {p : Place} {b : ℕ} {m : Move} (k : Picked p b m) where
  abbrev number_ok : Bool
  number_ok = implies (is_number m.place) (is_number p || (starts_value p && (ltb 0x20 m.low && ltb m.high 0x5D)))

  abbrev escape_ok : Bool
  escape_ok = implies (in_escape m.place) (in_escape p || (is_text p && (eqb m.low 0x5C && eqb m.high 0x5C)))

  abbrev name_ok : Bool
  name_ok = implies (in_name p) (in_name m.place || (is_text p && (eqb m.low 0x22 && eqb m.high 0x22)))

  abbrev push_ok : Bool
  push_ok = implies (pushes m.change) (starts_value p && (eqb m.low m.high && (eqb m.low 0x5B || eqb m.low 0x7B)))

  number_so : number_ok ≡ true
  number_so = left number_ok (escape_ok && (name_ok && push_ok)) k.is_fine

  escape_so : escape_ok ≡ true
  escape_so = left escape_ok (name_ok && push_ok) (right number_ok (escape_ok && (name_ok && push_ok)) k.is_fine)

  name_so : name_ok ≡ true
  name_so = left name_ok push_ok (right escape_ok (name_ok && push_ok) (right number_ok (escape_ok && (name_ok && push_ok)) k.is_fine))

  push_so : push_ok ≡ true
  push_so = right name_ok push_ok (right escape_ok (name_ok && push_ok) (right number_ok (escape_ok && (name_ok && push_ok)) k.is_fine))

  -- of the byte alone
  only_byte : (n : ℕ) → eqb m.low n && eqb m.high n ≡ true → b ≡ n
  only_byte n e =
      let l : m.low ≡ n = eqb-true m.low n (left (eqb m.low n) (eqb m.high n) e) in
      let h : m.high ≡ n = eqb-true m.high n (right (eqb m.low n) (eqb m.high n) e) in
      omega (arith, k.low, k.high)

  into_number : is_number m.place ≡ true → numbered p b ≡ true
  into_number n =
      ⊎_elim
      (λ (e : is_number p ≡ true). rw e)
      (λ (e : starts_value p && (ltb 0x20 m.low && ltb m.high 0x5D) ≡ true).
      let v : starts_value p ≡ true = left (starts_value p) (ltb 0x20 m.low && ltb m.high 0x5D) e in
      let r = right (starts_value p) (ltb 0x20 m.low && ltb m.high 0x5D) e in
      let l : 0x20 < m.low = ltb-true 0x20 m.low (left (ltb 0x20 m.low) (ltb m.high 0x5D) r) in
      let h : m.high < 0x5D = ltb-true m.high 0x5D (right (ltb 0x20 m.low) (ltb m.high 0x5D) r) in
      let kl = k.low in
      let kh = k.high in
      rw (v, lt-ltb 0x20 b (omega arith), lt-ltb b 0x5D (omega arith)) (or_true (is_number p)))
      (either (is_number p) (starts_value p && (ltb 0x20 m.low && ltb m.high 0x5D)) (so (is_number m.place) _ number_so n))
    where
      or_true : (a : Bool) → a || true ≡ true
      or_true true = refl
      or_true false = refl

  into_escape : in_escape m.place ≡ true → escaping p b ≡ true
  into_escape n =
      ⊎_elim
      (λ (e : in_escape p ≡ true). rw e)
      (λ (e : is_text p && (eqb m.low 0x5C && eqb m.high 0x5C) ≡ true).
      let v : is_text p ≡ true = left (is_text p) (eqb m.low 0x5C && eqb m.high 0x5C) e in
      let at_slash : b ≡ 0x5C = only_byte 0x5C (right (is_text p) (eqb m.low 0x5C && eqb m.high 0x5C) e) in
      rw (v, eq-eqb b 0x5C at_slash) (or_true (in_escape p)))
      (either (in_escape p) (is_text p && (eqb m.low 0x5C && eqb m.high 0x5C)) (so (in_escape m.place) _ escape_so n))
    where
      or_true : (a : Bool) → a || true ≡ true
      or_true true = refl
      or_true false = refl

  within_name : in_name p ≡ true → (in_name m.place ≡ true) ⊎ ((is_text p ≡ true) × (b ≡ 0x22))
  within_name n =
      ⊎_elim
      (λ (e : in_name m.place ≡ true). inl e)
      (λ (e : is_text p && (eqb m.low 0x22 && eqb m.high 0x22) ≡ true).
      inr (left (is_text p) (eqb m.low 0x22 && eqb m.high 0x22) e, only_byte 0x22 (right (is_text p) (eqb m.low 0x22 && eqb m.high 0x22) e)))
      (either (in_name m.place) (is_text p && (eqb m.low 0x22 && eqb m.high 0x22)) (so (in_name p) _ name_so n))

  into_bracket : pushes m.change ≡ true → bracketed p b ≡ true
  into_bracket n =
      let e = so (pushes m.change) _ push_so n in
      let v : starts_value p ≡ true = left (starts_value p) (eqb m.low m.high && (eqb m.low 0x5B || eqb m.low 0x7B)) e in
      let r = right (starts_value p) (eqb m.low m.high && (eqb m.low 0x5B || eqb m.low 0x7B)) e in
      let one : m.low ≡ m.high = eqb-true m.low m.high (left (eqb m.low m.high) (eqb m.low 0x5B || eqb m.low 0x7B) r) in
      let kl = k.low in
      let kh = k.high in
      let same : m.low ≡ b = omega arith in
      rw v (subst (λ (x : ℕ). (eqb x 0x5B || eqb x 0x7B) ≡ true) same (right (eqb m.low m.high) (eqb m.low 0x5B || eqb m.low 0x7B) r))

-- ---- a step

pub record Leads (p : Place) (ks : List Bracket) (b : ℕ) (q : Place) (ls : List Bracket) : Type 0 where
  pub number : is_number q ≡ true → numbered p b ≡ true
  pub escape : in_escape q ≡ true → escaping p b ≡ true
  pub name : in_name p ≡ true → (in_name q ≡ true) ⊎ ((is_text p ≡ true) × (b ≡ 0x22))
  pub deeper : (bracketed p b ≡ true) ⊎ (length ls ≤ length ks)
  pub few : length ls ≤ suc (length ks)

pub leads : (p : Place) (ks : List Bracket) (b : ℕ) (q : Place) (ls : List Bracket) → step (at p ks) b ≡ some (at q ls) → Leads p ks b q ls
unfolding step
leads p ks b q ls e = go (pick (moves p (innermost ks)) b) refl e
  where
    grows : (m : Move) → Picked p b m → (c : Change) → m.change ≡ c → (bracketed p b ≡ true) ⊎ (length (changed c ks) ≤ length ks)
    grows m k keep h = inr (omega arith)
    grows m k pop h = inr (less ks)
      where
        less : (ks : List Bracket) → length (changed pop ks) ≤ length ks
        less [] = omega arith
        less (x ∷ xs) = omega arith
    grows m k (push x) h = inl (into_bracket k (rw h))

    at_most : (c : Change) (ks : List Bracket) → length (changed c ks) ≤ suc (length ks)
    at_most keep ks = omega arith
    at_most pop [] = omega arith
    at_most pop (x ∷ xs) = omega arith
    at_most (push x) ks = omega arith

    go : (o : Option Move) → pick (moves p (innermost ks)) b ≡ o → follow ks o ≡ some (at q ls) → Leads p ks b q ls
    go none h r = absurd (let z : ◌≡◌ {A = ℕ} 0 1 = cc in omega arith)
    go (some m) h r =
        let k : Picked p b m = picked_of p b (moves p (innermost ks)) (each_bracket p (innermost ks)) m h in
        let place_is : m.place ≡ q = cc in
        let brackets_are : changed m.change ks ≡ ls = cc in
        record {
          number = rw place_is at (into_number k);
          escape = rw place_is at (into_escape k);
          name = rw place_is at (within_name k);
          deeper = rw brackets_are at (grows m k m.change refl);
          few = rw brackets_are at (at_most m.change ks);
        }
