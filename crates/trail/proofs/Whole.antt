-- What the first pass has come to where it halts in a text, told of the text as a whole.
--     Stopped    it halts at a fault, once no name is under way, or at the end
--     seen       the first fault but for repeated names, and the names before it
--     counts     the counters, at the end
-- Assumes nothing.
use mathlib.Core.Bool.{Bool, true, false, cond}
use mathlib.Core.List.{List, []}
use mathlib.Core.Logic.{◌≢◌, ◌⊎◌, ⊎_elim}
use mathlib.Core.Option.{Option, none, some}
use mathlib.Core.Path.{◌≡◌, refl, sym, ◌∙◌, ap, subst}
use Prim.Native.Nat.{ℕ, suc, ◌-◌, ◌≤◌, ◌<◌}
use native.Mathlib.Omega.{arith}
use borrow.Author.Tests.{eq-eqb, ne_eqb}
use lib.Dec.{eqb}
use lib.ListN.{length, drop, length-drop}
use lib.Seq.{drop-length}
use Rattle.laws.proofs.Tests.{decide}
use Rattle.jsontext.specs.Text.{Text, bytes}
use Rattle.jsontext.specs.Automaton.{Bracket, Place, ahead, first_element, after, name, first_name, colon, word, minus, nought, whole, point, part, letter, sign, power, text, escape, unit, char, at, start, ended}
use Rattle.jsontext.specs.Along.{along}
use Rattle.jsontext.proofs.Trimming.{by_zero}
use Rattle.sheet.specs.Faults.{level_refused}
use Rattle.figure.specs.Figure.{figured}
use Rattle.reader.specs.Faults.{Fault, first_fault}
use Rattle.survey.specs.declared.Watch.{Watch}
use Rattle.survey.specs.Watching as Watching
use Rattle.survey.specs.Watching.{watch, found, moved, watching}
use Rattle.survey.specs.Told.{told, unnamed}
use Rattle.survey.proofs.Orders.{going, stays}
use Rattle.survey.proofs.Strung.{verdict}
use Rattle.survey.proofs.Watched.{watched}
use Rattle.tally.specs.Tallying.{Tally, no_tally, tallying}
use Rattle.tally.proofs.Tallied.{Tallied, tallied}
use Rattle.naming.specs.Gathering.{text_from, words_from, before, Gather, nothing_yet, gather}
use Rattle.naming.proofs.Gathered.{text_gathers}
use Rattle.naming.proofs.Earlier.{left_at, other_fault, names_before}
use Rattle.naming.proofs.Levels.{held_text}
use Rattle.trail.specs.Trail.{Kept, Trail}
use Rattle.trail.proofs.Places.{is_number, in_name}
use Rattle.trail.proofs.Ordered.{ordered}
use Rattle.trail.proofs.Along.{unmoved_on, watch_along, tally_along}
use Rattle.trail.proofs.Limits.{limited, none_behind}

-- ---- where a text may end

false_is : {A : Type 0} → false ≡ true → A
false_is e = absurd (let z : ◌≡◌ {A = ℕ} 0 1 = cc in omega arith)

-- what the end does there: a number ends
record Last (p : Place) : Type 0 where
  out : in_name p ≡ false
  no_name : (limit : ℕ) (ks : List Bracket) (g : Gather) → gather limit p ks 0x20 [] g ≡ g
  no_count : (ks : List Bracket) (t : Tally) → tallying p ks 0x20 [] t ≡ t
  number : (k : ℕ) (w : Watch) → w.fault ≡ 0 → (moved p k 0x20 1 w).fault ≢ 0 → (is_number p ≡ true) × ((moved p k 0x20 1 w).left ≡ w.start)

ends_at_start : (k : ℕ) (w : Watch) → w.fault ≡ 0 → (Watching.ended k w).fault ≢ 0 → (Watching.ended k w).left ≡ w.start
unfolding Watching.ended
ends_at_start k w calm = go (figured w.figure).wide (eqb (suc k) level_refused)
  where
    go : (a b : Bool) → (cond a (found 23 w.start w) (cond b (found 24 w.start w) w)).fault ≢ 0
        → (cond a (found 23 w.start w) (cond b (found 24 w.start w) w)).left ≡ w.start
    go true b z = refl
    go false true z = refl
    go false false z = absurd (z calm)

number_last : (p : Place) → in_name p ≡ false → is_number p ≡ true → ((limit : ℕ) (ks : List Bracket) (g : Gather) → gather limit p ks 0x20 [] g ≡ g)
    → ((ks : List Bracket) (t : Tally) → tallying p ks 0x20 [] t ≡ t) → ((k : ℕ) (w : Watch) → moved p k 0x20 1 w ≡ Watching.ended k w) → Last p
number_last p o n g t m =
    record { out = o; no_name = g; no_count = t; number = λ k w calm z. (n, ap (λ (x : Watch). x.left) (m k w) ∙ ends_at_start k w calm (rw (m k w) at z)) }

last : (p : Place) → ended p ≡ true → Last p
unfolding tallying
last ahead e = false_is e
last first_element e = false_is e
last after e = record { out = refl; no_name = λ limit ks g. refl; no_count = λ ks t. refl; number = λ k w calm z. absurd (z calm) }
last name e = false_is e
last first_name e = false_is e
last colon e = false_is e
last (word w) e = false_is e
last minus e = false_is e
last nought e = number_last nought refl refl (λ limit ks g. refl) (λ ks t. refl) (λ k w. refl)
last whole e = number_last whole refl refl (λ limit ks g. refl) (λ ks t. refl) (λ k w. refl)
last point e = false_is e
last part e = number_last part refl refl (λ limit ks g. refl) (λ ks t. refl) (λ k w. refl)
last letter e = false_is e
last sign e = false_is e
last power e = number_last power refl refl (λ limit ks g. refl) (λ ks t. refl) (λ k w. refl)
last (text r) e = false_is e
last (escape r) e = false_is e
last (unit h r) e = false_is e
last (char c r) e = false_is e

-- ---- of a text

pub data Stopped (json : List ℕ) (i : ℕ) (p : Place) (x : Kept) : Type 0 where
  at_fault : x.watch.fault ≢ 0 → x.names.on ≡ false → Stopped json i p x
  at_end : i ≡ length json → ended p ≡ true → Stopped json i p x

-- a fault that is no name's, and the names before it
pub record Seen (t : Text) (w : Watch) (g : Gather) : Type 0 where
  pub told_is : verdict w [] ≡ told (other_fault t)
  pub text_is : g.text ≡ text_from (names_before t)
  pub words_are : g.words ≡ words_from 0 (names_before t)

left_told : (o : Option Fault) → left_at o ≡ (told o).left
unfolding told
left_told none = refl
left_told (some f) = refl

module _ (t : Text) (short : length (bytes t) ≤ 65_536) (i : ℕ) (p : Place) (ks : List Bracket) (x : Kept) (tr : Trail (bytes t) i (at p ks) x) where
  -- what is kept of faults at the end
  abbrev finally : Watch
  finally = watching p ks 0x20 [] x.watch

  abbrev json : List ℕ
  json = bytes t

  nothing_left : i ≡ length json → drop i json ≡ []
  nothing_left e = ap (λ (k : ℕ). drop k json) e ∙ drop-length json

  watch_last : Stopped json i p x → along watching json (some start) watch ≡ finally
  unfolding along
  watch_last (at_fault bad off) =
      watch_along tr ∙ unmoved_on watching x.watch (λ q ls b bs. stays x.watch bad q ls b bs) (drop i json) (some (at p ks)) ∙ sym (stays x.watch bad p ks 0x20 [])
  watch_last (at_end e l) = watch_along tr ∙ ap (λ (r : List ℕ). along watching r (some (at p ks)) x.watch) (nothing_left e)

  told_last : Stopped json i p x → verdict finally [] ≡ told (other_fault t)
  told_last s = ap (λ (w : Watch). verdict w []) (sym (watch_last s)) ∙ watched t short

  limit_is : Stopped json i p x → (verdict finally []).left ≡ left_at (other_fault t)
  limit_is s = ap (λ r. r.left) (told_last s) ∙ sym (left_told (other_fault t))

  -- ---- the names

  -- those before a limit, as they were gathered
  record Gathers (limit : ℕ) : Type 0 where
    text_same : (along (gather limit) json (some start) nothing_yet).text ≡ x.names.text
    words_same : (along (gather limit) json (some start) nothing_yet).words ≡ x.names.words

  at_last : i ≡ length json → Last p → (limit : ℕ) → (0 < x.names.left → limit < x.names.left) → Gathers limit
  unfolding along
  at_last e l limit h =
      let same : along (gather limit) json (some start) nothing_yet ≡ x.names =
      limited tr limit h ∙ ap (λ (r : List ℕ). along (gather limit) r (some (at p ks)) x.names) (nothing_left e) ∙ l.no_name limit ks x.names in
      record { text_same = ap (λ (g : Gather). g.text) same; words_same = ap (λ (g : Gather). g.words) same }

  behind_fault : (bad : x.watch.fault ≢ 0) → x.names.on ≡ false → Gathers x.watch.left
  behind_fault bad off =
      let r = (ordered tr).found bad in
      let q = none_behind x.watch.left (drop i json) (some (at p ks)) x.names off (omega (arith, length-drop i json, r.0)) in
      let same = limited tr x.watch.left r.1 in
      record { text_same = ap (λ (g : Gather). g.text) same ∙ q.text_is; words_same = ap (λ (g : Gather). g.words) same ∙ q.words_are }

  off_at_end : Last p → x.names.on ≡ false
  off_at_end l = ⊎_elim (λ (e : x.names.on ≡ true). false_is (sym l.out ∙ (ordered tr).named e)) (λ (e : x.names.on ≡ false). e) (decide x.names.on)

  faulty_limit : (w : Watch) → w.fault ≢ 0 → (verdict w []).left ≡ w.left
  faulty_limit w z = rw (ne_eqb w.fault 0 z)

  calm_limit : (w : Watch) → w.fault ≡ 0 → (verdict w []).left ≡ 0
  unfolding told first_fault unnamed
  calm_limit w z = rw (eq-eqb w.fault 0 z)

  gathers_fault : (bad : x.watch.fault ≢ 0) → x.names.on ≡ false → Gathers (verdict finally []).left
  gathers_fault bad off =
      let same : (verdict finally []).left ≡ x.watch.left = ap (λ (w : Watch). (verdict w []).left) (stays x.watch bad p ks 0x20 []) ∙ faulty_limit x.watch bad in
      rw same (behind_fault bad off)

  gathers_end : (calm : x.watch.fault ≡ 0) → i ≡ length json → Last p → Gathers (verdict finally []).left
  gathers_end calm e l =
      rw (going p ks 0x20 [] x.watch calm)
      (⊎_elim
      (λ (z : last_watch.fault ≡ 0). rw (calm_limit last_watch z) (at_last e l 0 (λ h. h)))
      (λ (z : last_watch.fault ≢ 0).
      let n = l.number (length ks) x.watch calm z in
      let r = (ordered tr).number calm n.0 in
      rw (faulty_limit last_watch z, n.1) (at_last e l x.watch.start r.1))
      (by_zero last_watch.fault))
    where
      last_watch : Watch
      last_watch = moved p (length ks) 0x20 1 x.watch

  gathers : Stopped json i p x → Gathers (verdict finally []).left
  gathers (at_fault bad off) = gathers_fault bad off
  gathers (at_end e l) =
      ⊎_elim
      (λ (calm : x.watch.fault ≡ 0). gathers_end calm e (last p l))
      (λ (bad : x.watch.fault ≢ 0). gathers_fault bad (off_at_end (last p l)))
      (by_zero x.watch.fault)

  pub seen : Stopped json i p x → Seen t finally x.names
  seen s =
      let g = rw (limit_is s) at (gathers s) in
      let all = text_gathers (left_at (other_fault t)) t (held_text t) in
      record {
        told_is = told_last s;
        text_is = sym g.text_same ∙ all.text_is;
        words_are = sym g.words_same ∙ all.words_is;
      }

  pub counts : i ≡ length json → ended p ≡ true → Tallied t x.tally
  unfolding along
  counts e l =
      let same : along tallying json (some start) no_tally ≡ x.tally =
      tally_along tr ∙ ap (λ (r : List ℕ). along tallying r (some (at p ks)) x.tally) (nothing_left e) ∙ (last p l).no_count ks x.tally in
      subst (Tallied t) same (tallied t)
