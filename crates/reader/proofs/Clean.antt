-- A text in which nothing is at fault: its value can be said by a record sheet, and is within the limits of rows and levels.
--     clean_text    the theorem
-- Assumes nothing.
use mathlib.Core.Bool.{Bool, true, false, cond}
use mathlib.Core.List.{List, [], ◌∷◌}
use mathlib.Core.Option.{Option, none, some}
use mathlib.Core.Path.{◌≡◌, refl}
use Prim.Native.Nat.{ℕ, suc, ◌+◌, ◌≤◌, ◌<◌}
use native.Mathlib.Omega.{arith}
use borrow.Author.Tests.{eqb-false}
use lib.Dec.{eqb}
use Rattle.sheet.specs.Kinds.{number_max}
use Rattle.sheet.specs.Record.{rows_max}
use Rattle.sheet.specs.Faults.{level_refused}
use Rattle.jsontext.specs.Datum.{Datum, Items, Fields, no_field}
use Rattle.jsontext.specs.Text.{spaces, plain, escape, unit, Str, Value, null, truth, falsity, num, str, empty_array, array, empty_object, object, Elements, last, more, Members, last_m, more_m, value, elements, members, Text}
use Rattle.jsontext.specs.Number.{Exact, exact_of, wide, billionths_of}
use Rattle.jsontext.specs.Value.{unit_code, waiting, is_lone, decoded, value_of, items_of, fields_of}
use Rattle.jsontext.specs.Sightings.{a_value}
use Rattle.jsontext.specs.Starts.{Start, starting, among, string_starts, value_starts, element_starts, member_starts, text_starts}
use Rattle.jsontext.proofs.Decoding.{NoneLone, decoded_utf8}
use Rattle.jsontext.proofs.Widths.{narrow_written}
use Rattle.breadth.specs.Number.{Narrow}
use Rattle.breadth.specs.Forest.{values, children, items, fields, tree}
use Rattle.breadth.specs.Breadth.{depth}
use Rattle.breadth.specs.Meaning.{Fitting, FittingItems, FittingFields}
use Rattle.breadth.proofs.Digits.{fewest_digits}
use Rattle.reader.specs.Faults.{value_fault, Fault, or_else, first_fault}
use Rattle.breadth.specs.Meaning.{Utf8, Utf8Items, Utf8Fields}
use Rattle.reader.proofs.Fresh.{FreshAfter, fresh_apart}

-- ---- one start

not_none : {A : Type 0} {x : Fault} → some x ≡ none → A
not_none e = absurd (let z : ◌≡◌ {A = ℕ} 0 1 = cc in omega arith)

pub fine : (b : Bool) (m : ℕ) (bs : List ℕ) (later : Option Fault) → or_else (cond b (some m) none) bs later ≡ none → (b ≡ false) × (later ≡ none)
fine true m bs later e = not_none e
fine false m bs later e = (refl, e)

-- a value that is not at fault
pub record Fine (before : ℕ) (s : Start) (later : Option Fault) : Type 0 where
  pub few : before ≡ rows_max → ⊥
  pub narrow : s.amiss ≡ false
  pub shallow : s.seen.level ≡ level_refused → ⊥
  pub on : later ≡ none

pub fine_value : (before : ℕ) (s : Start) (bs : List ℕ) (later : Option Fault) → or_else (value_fault before s) bs later ≡ none → Fine before s later
unfolding value_fault
fine_value before s bs later e = go (eqb before rows_max) s.amiss (eqb s.seen.level level_refused) refl refl refl e
  where
    go : (a b c : Bool)
        → eqb before rows_max ≡ a
        → s.amiss ≡ b
        → eqb s.seen.level level_refused ≡ c
        → or_else (cond a (some 22) (cond b (some 23) (cond c (some 24) none))) bs later ≡ none
        → Fine before s later
    go true b c p q r f = not_none f
    go false true c p q r f = not_none f
    go false false true p q r f = not_none f
    go false false false p q r f =
        record { few = eqb-false before rows_max p; narrow = q; shallow = eqb-false s.seen.level level_refused r; on = f }

-- ---- strings

-- no escape of it is lone, and nothing is at fault in what follows
pub string_clean : (w : ℕ) (s : Str) (k : ℕ) (rest : List ℕ) (later : List Start) (n : ℕ)
    → first_fault n (string_starts w s k rest later) ≡ none
    → NoneLone w s × (first_fault n later ≡ none)
unfolding string_starts first_fault
string_clean w [] k rest later n e = (tt, e)
string_clean w (plain c p ∷ ps) k rest later n e = string_clean 0 ps k rest later n e
string_clean w (escape m ∷ ps) k rest later n e = string_clean 0 ps k rest later n e
string_clean w (unit h i j l ∷ ps) k rest later n e =
    let c : ℕ = unit_code h i j l in
    let f = fine (is_lone w c ps) 26 _ (first_fault n (string_starts (waiting c ps) ps k rest later)) e in
    let r = string_clean (waiting c ps) ps k rest later n f.1 in
    ((f.0, r.0), r.1)

-- ---- numbers

narrow : (x : Exact) → wide number_max x ≡ false → Narrow (billionths_of number_max x)
narrow x e =
    let w = narrow_written number_max x e in
    omega (arith, fewest_digits (billionths_of number_max x) w.digits w.scale w.low w.same, w.few)

-- ---- values

-- nothing is at fault in what follows, after so many values
record Onward (n : ℕ) (later : List Start) : Type 0 where
  count : ℕ
  counted : count ≡ n
  clean : first_fault count later ≡ none

abbrev Val : Value → Datum
Val v = value_of number_max v

abbrev Its : Elements → Items
Its vs = items_of number_max vs

abbrev Fls : Members → Fields
Fls ms = fields_of number_max ms

record CleanValue (v : Value) (k n : ℕ) (later : List Start) : Type 0 where
  fitting : Fitting (Val v)
  utf8 : Utf8 (Val v)
  shallow : k + depth (children (Val v)) < level_refused
  few : n + suc (values (children (Val v))) ≤ rows_max
  onward : Onward (n + suc (values (children (Val v)))) later

record CleanItems (vs : Elements) (k n : ℕ) (later : List Start) : Type 0 where
  fitting : FittingItems (Its vs)
  utf8 : Utf8Items (Its vs)
  shallow : k + depth (items (Its vs)) ≤ level_refused
  few : n + values (items (Its vs)) ≤ rows_max
  onward : Onward (n + values (items (Its vs))) later

record CleanFields (names : List (List ℕ)) (ms : Members) (k n : ℕ) (later : List Start) : Type 0 where
  fresh : FreshAfter names (Fls ms)
  fitting : FittingFields (Fls ms)
  utf8 : Utf8Fields (Fls ms)
  shallow : k + depth (fields (Fls ms)) ≤ level_refused
  few : n + values (fields (Fls ms)) ≤ rows_max
  onward : Onward (n + values (fields (Fls ms))) later

-- a value without children
module _ (k n : ℕ) (a : Bool) (bs : List ℕ) (later : List Start) (low : k ≤ level_refused) (room : n ≤ rows_max) (e : first_fault n (starting a_value k bs a ∷ later) ≡ none) where
  here : Fine n (starting a_value k bs a) (first_fault (suc n) later)
  unfolding first_fault
  here = fine_value n (starting a_value k bs a) bs (first_fault (suc n) later) e

  here_level : k < level_refused
  here_level = let f = here.shallow in omega arith

  here_room : suc n ≤ rows_max
  here_room = let f = here.few in omega arith

  alone : Onward (n + 1) later
  alone = record { count = suc n; counted = omega arith; clean = here.on }

mutual
  unfolding value_starts value_of first_fault

  value_clean : (v : Value) (k n : ℕ) (rest : List ℕ) (later : List Start) → k ≤ level_refused → n ≤ rows_max
      → first_fault n (value_starts number_max v k rest later) ≡ none
      → CleanValue v k n later
  value_clean null k n rest later l r e =
      let b = value null rest in
      record { fitting = tt; utf8 = tt; shallow = omega (arith, here_level k n false b later l r e); few = omega (arith, here_room k n false b later l r e); onward = alone k n false b later l r e }
  value_clean truth k n rest later l r e =
      let b = value truth rest in
      record { fitting = tt; utf8 = tt; shallow = omega (arith, here_level k n false b later l r e); few = omega (arith, here_room k n false b later l r e); onward = alone k n false b later l r e }
  value_clean falsity k n rest later l r e =
      let b = value falsity rest in
      record { fitting = tt; utf8 = tt; shallow = omega (arith, here_level k n false b later l r e); few = omega (arith, here_room k n false b later l r e); onward = alone k n false b later l r e }
  value_clean (num x) k n rest later l r e =
      let b = value (num x) rest in
      let a = wide number_max (exact_of x) in
      record {
        fitting = narrow (exact_of x) (here k n a b later l r e).narrow;
        utf8 = tt;
        shallow = omega (arith, here_level k n a b later l r e);
        few = omega (arith, here_room k n a b later l r e);
        onward = alone k n a b later l r e;
      }
  value_clean (str s) k n rest later l r e =
      let b = value (str s) rest in
      let others = string_starts 0 s k (0x22 ∷ rest) later in
      let c = string_clean 0 s k (0x22 ∷ rest) later (suc n) (here k n false b others l r e).on in
      record {
        fitting = tt;
        utf8 = decoded_utf8 s c.0;
        shallow = omega (arith, here_level k n false b others l r e);
        few = omega (arith, here_room k n false b others l r e);
        onward = record { count = suc n; counted = omega arith; clean = c.1 };
      }
  value_clean (empty_array w) k n rest later l r e =
      let b = value (empty_array w) rest in
      record { fitting = tt; utf8 = tt; shallow = omega (arith, here_level k n false b later l r e); few = omega (arith, here_room k n false b later l r e); onward = alone k n false b later l r e }
  value_clean (array w vs) k n rest later l r e =
      let b = value (array w vs) rest in
      let others = element_starts number_max vs (suc k) (0x5D ∷ rest) later in
      let i = items_clean vs (suc k) (suc n) (0x5D ∷ rest) later (here_level k n false b others l r e) (here_room k n false b others l r e) (here k n false b others l r e).on in
      let o = i.onward in
      record {
        fitting = i.fitting;
        utf8 = i.utf8;
        shallow = omega (arith, i.shallow);
        few = omega (arith, i.few);
        onward = record { count = o.count; counted = omega (arith, o.counted); clean = o.clean };
      }
  value_clean (empty_object w) k n rest later l r e =
      let b = value (empty_object w) rest in
      record { fitting = (fresh_apart no_field tt, tt); utf8 = tt; shallow = omega (arith, here_level k n false b later l r e); few = omega (arith, here_room k n false b later l r e); onward = alone k n false b later l r e }
  value_clean (object w ms) k n rest later l r e =
      let b = value (object w ms) rest in
      let others = member_starts number_max [] ms (suc k) (0x7D ∷ rest) later in
      let i = fields_clean [] ms (suc k) (suc n) (0x7D ∷ rest) later (here_level k n false b others l r e) (here_room k n false b others l r e) (here k n false b others l r e).on in
      let o = i.onward in
      record {
        fitting = (fresh_apart (Fls ms) i.fresh, i.fitting);
        utf8 = i.utf8;
        shallow = omega (arith, i.shallow);
        few = omega (arith, i.few);
        onward = record { count = o.count; counted = omega (arith, o.counted); clean = o.clean };
      }

  items_clean : (vs : Elements) (k n : ℕ) (rest : List ℕ) (later : List Start) → k ≤ level_refused → n ≤ rows_max
      → first_fault n (element_starts number_max vs k rest later) ≡ none
      → CleanItems vs k n later
  items_clean (last v w) k n rest later l r e =
      let c = value_clean v k n (spaces w rest) later l r e in
      let o = c.onward in
      record {
        fitting = (c.fitting, tt);
        utf8 = (c.utf8, tt);
        shallow = omega (arith, c.shallow);
        few = omega (arith, c.few);
        onward = record { count = o.count; counted = omega (arith, o.counted); clean = o.clean };
      }
  items_clean (more v w w' vs) k n rest later l r e =
      let c = value_clean v k n (spaces w (0x2C ∷ spaces w' (elements vs rest))) (element_starts number_max vs k rest later) l r e in
      let o = c.onward in
      let d = items_clean vs k o.count rest later l (omega (arith, c.few, o.counted)) o.clean in
      let p = d.onward in
      record {
        fitting = (c.fitting, d.fitting);
        utf8 = (c.utf8, d.utf8);
        shallow = omega (arith, c.shallow, d.shallow);
        few = omega (arith, d.few, o.counted);
        onward = record { count = p.count; counted = omega (arith, p.counted, o.counted); clean = p.clean };
      }

  fields_clean : (names : List (List ℕ)) (ms : Members) (k n : ℕ) (rest : List ℕ) (later : List Start) → k ≤ level_refused → n ≤ rows_max
      → first_fault n (member_starts number_max names ms k rest later) ≡ none
      → CleanFields names ms k n later
  fields_clean names (last_m s w w' v w'') k n rest later l r e =
      let bs : List ℕ = 0x22 ∷ spaces w (0x3A ∷ spaces w' (value v (spaces w'' rest))) in
      let others = value_starts number_max v k (spaces w'' rest) later in
      let f = fine (among names (decoded s)) 25 _ (first_fault n (string_starts 0 s k bs others)) e in
      let g = string_clean 0 s k bs others n f.1 in
      let c = value_clean v k n (spaces w'' rest) later l r g.1 in
      let o = c.onward in
      record {
        fresh = (f.0, tt);
        fitting = (c.fitting, tt);
        utf8 = (decoded_utf8 s g.0, c.utf8, tt);
        shallow = omega (arith, c.shallow);
        few = omega (arith, c.few);
        onward = record { count = o.count; counted = omega (arith, o.counted); clean = o.clean };
      }
  fields_clean names (more_m s w w' v w'' w''' ms) k n rest later l r e =
      let end : List ℕ = spaces w'' (0x2C ∷ spaces w''' (members ms rest)) in
      let bs : List ℕ = 0x22 ∷ spaces w (0x3A ∷ spaces w' (value v end)) in
      let next = member_starts number_max (decoded s ∷ names) ms k rest later in
      let others = value_starts number_max v k end next in
      let f = fine (among names (decoded s)) 25 _ (first_fault n (string_starts 0 s k bs others)) e in
      let g = string_clean 0 s k bs others n f.1 in
      let c = value_clean v k n end next l r g.1 in
      let o = c.onward in
      let d = fields_clean (decoded s ∷ names) ms k o.count rest later l (omega (arith, c.few, o.counted)) o.clean in
      let p = d.onward in
      record {
        fresh = (f.0, d.fresh);
        fitting = (c.fitting, d.fitting);
        utf8 = (decoded_utf8 s g.0, c.utf8, d.utf8);
        shallow = omega (arith, c.shallow, d.shallow);
        few = omega (arith, d.few, o.counted);
        onward = record { count = p.count; counted = omega (arith, p.counted, o.counted); clean = p.clean };
      }

-- ---- the whole text

pub record CleanText (t : Text) : Type 0 where
  pub fitting : Fitting (Val t.root)
  pub utf8 : Utf8 (Val t.root)
  pub shallow : depth (tree (Val t.root)) < level_refused
  pub few : values (tree (Val t.root)) ≤ rows_max

pub clean_text : (t : Text) → first_fault 0 (text_starts number_max t) ≡ none → CleanText t
clean_text t e =
    let c = value_clean t.root 1 0 (spaces t.behind []) [] (omega arith) (omega arith) e in
    record { fitting = c.fitting; utf8 = c.utf8; shallow = omega (arith, c.shallow); few = omega (arith, c.few) }
