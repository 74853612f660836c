-- What is read byte by byte is a trail.
--     Held      what the loop keeps
--     begins    before the first byte
--     ready     a byte may be read
--     on        after one more
-- Assumes nothing.
use mathlib.Core.Bool.{Bool, true, false, cond, ◌&&◌, not, true≢false, false≢true}
use mathlib.Core.List.{List}
use mathlib.Core.Logic.{◌≢◌, ◌⊎◌, inl, inr, ⊎_elim}
use mathlib.Core.Option.{none}
use mathlib.Core.Path.{◌≡◌, refl, sym, ◌∙◌, ap, subst}
use Prim.Native.Nat.{ℕ, zero, suc, ◌+◌, ◌-◌, ◌/◌, ◌≤◌, ◌<◌}
use native.Mathlib.Numerals.{add-one}
use native.Mathlib.Omega.{arith}
use borrow.Author.Tests.{eq-eqb, eqb-true}
use lib.Dec.{eqb}
use lib.ListN.{length, get_or, drop, length-drop}
use Rattle.std.specs.Prelude.{Option, Some, None}
use Rattle.std.proofs.lemmas.Option.{none-some, same_Some}
use Rattle.laws.proofs.Tests.{left, right}
use Rattle.jsontext.specs.Automaton.{Place, step}
use Rattle.grammar.specs.Codes.{place_at}
use Rattle.brackets.specs.declared.Open.{Open}
use Rattle.brackets.specs.Brackets.{brackets_of, brackets}
use Rattle.figure.proofs.Bounds.{kin_none}
use Rattle.survey.specs.declared.Watch.{Watch}
use Rattle.survey.specs.Watching.{watch, moved, watching}
use Rattle.survey.proofs.Bounded as Survey
use Rattle.survey.proofs.Bounded.{bounded_moved, bounded_sound}
use Rattle.tally.specs.Tallying.{Tally, no_tally, counting, tallying}
use Rattle.tally.proofs.Bounded as Tallied
use Rattle.tally.proofs.Bounded.{bounded_none, bounded_counted, bounded_low}
use Rattle.gathering.specs.declared.Gathered.{Gathered}
use Rattle.gathering.specs.Held as Names
use Rattle.gathering.proofs.Bounded.{sound_begins, sound_gathered}
use Rattle.trail.specs.Trail.{Kept, nothing_kept, keeping, GoesOn}
use Rattle.trail.specs.Trail as T
use Rattle.scan.specs.declared.Scan.{Scan}
use Rattle.scan.specs.Scanning.{Areas, Blank, at_start, state_of, tally_in, Ready, Moved, Stepped, dies, goes, Carried}

pub record Held (json : List ℕ) (a₀ : Areas) (i : ℕ) (p : Scan) (a : Areas) : Type 0 where
  pub carried : Carried json a₀ i p a
  pub bounded : Survey.Bounded i p.watch
  pub low : Tallied.Bounded i (tally_in p a)
  pub names_low : Names.Sound i (Names.numbers carried.kept.names) carried.kept.names.objects

pub how_many : (bits d : ℕ) → length (brackets_of bits d) ≡ d
unfolding brackets_of
how_many bits zero = refl
how_many bits (suc d) = ap suc (how_many (bits / 2) d)

-- what a byte does, by how many brackets are open and how many bytes are left
module _ (json : List ℕ) (i : ℕ) (more : i < length json) (p : Place) (o : Open) where
  abbrev b : ℕ
  b = get_or json i 0

  abbrev behind : List ℕ
  behind = drop (suc i) json

  left_is : suc (length behind) ≡ length json - i
  left_is = omega (arith, length-drop (suc i) json)

  pub watches : (s : Watch) → watching p (brackets o) b behind s ≡ cond (eqb s.fault 0) (moved p o.depth b (length json - i) s) s
  unfolding watching
  watches s =
      ap (λ (k : ℕ). cond (eqb s.fault 0) (moved p k b (suc (length behind)) s) s) (how_many o.bits o.depth)
      ∙ ap (λ (k : ℕ). cond (eqb s.fault 0) (moved p o.depth b k s) s) left_is

  pub counts : (s : Tally) → tallying p (brackets o) b behind s ≡ counting p o.depth b s
  unfolding tallying
  counts s = ap (λ (k : ℕ). counting p k b s) (how_many o.bits o.depth)

  watching_bounded : b < 256 → (s : Watch) → Survey.Bounded i s → Survey.Bounded (suc i) (watching p (brackets o) b behind s)
  watching_bounded byte s h = rw (watches s) (go (eqb s.fault 0))
    where
      go : (t : Bool) → Survey.Bounded (suc i) (cond t (moved p o.depth b (length json - i) s) s)
      go true = bounded_moved i b byte s h p o.depth (length json - i)
      go false = Survey.same i b byte s h

  tallying_bounded : (s : Tally) → Tallied.Bounded i s → Tallied.Bounded (suc i) (tallying p (brackets o) b behind s)
  tallying_bounded s h = rw (counts s) (bounded_counted i b o.depth s h p)

pub begins : (json : List ℕ) (a : Areas) → Blank a → Held json a 0 at_start a
unfolding brackets_of
begins json a blank =
    let none : no_tally ≡ tally_in at_start a = rw (blank.values_blank, blank.texts_blank) in
    let bounded : Survey.Bounded 0 watch = record { kin = kin_none 0; few = omega arith; small = omega arith } in
    record {
      carried =
          record {
            inside = omega arith;
            known = omega arith;
            fits = omega arith;
            kept = nothing_kept;
            trail = T.begins;
            watch_is = refl;
            tally_is = none;
            names_are = record { text_is = refl; words_are = refl; objects_are = blank.objects_blank; numbers_are = refl };
            sound = bounded_sound 0 watch (omega arith) bounded;
          };
      bounded = bounded;
      low = subst (Tallied.Bounded 0) none bounded_none;
      names_low = sound_begins;
    }

pub ready : (json : List ℕ) (a₀ : Areas) (i : ℕ) (p : Scan) (a : Areas) → length json ≤ 65_536 → Held json a₀ i p a → p.opened.depth < 62 → Ready i p a
ready json a₀ i p a short h d =
    let c = h.carried in
    let l = bounded_low i (tally_in p a) (omega (arith, c.inside)) h.low in
    record {
      known = c.known;
      fits = c.fits;
      shallow = d;
      sound = c.sound;
      values_low = l.0;
      texts_low = l.1;
      names_low = rw (c.names_are.numbers_are, c.names_are.objects_are) h.names_low;
    }

-- there is a fault, and no name is under way
pub at_rest : (fault : ℕ) (on : Bool) → (not (eqb fault 0) && not on) ≡ true → (fault ≢ 0) × (on ≡ false)
at_rest fault true e = absurd (false≢true (right (not (eqb fault 0)) false e))
at_rest fault false e = (λ z. false≢true (rw (eq-eqb fault 0 z) at (left (not (eqb fault 0)) true e)), refl)

-- there is none, or a name is under way
pub not_at_rest : (fault : ℕ) (on : Bool) → (not (eqb fault 0) && not on) ≡ false → (fault ≡ 0) ⊎ (on ≡ true)
not_at_rest fault true e = inr refl
not_at_rest fault false e = go (eqb fault 0) refl e
  where
    go : (t : Bool) → eqb fault 0 ≡ t → (not t && true) ≡ false → (fault ≡ 0) ⊎ (false ≡ true)
    go true q f = inl (eqb-true fault 0 q)
    go false q f = absurd (true≢false f)

module _ (json : List ℕ) (a₀ : Areas) (i : ℕ) (p : Scan) (a : Areas) (short : length json ≤ 65_536) (h : Held json a₀ i p a) (more : i < length json) where
  pub stops : (r : Option Scan) (z : Areas) → Stepped json i p a r z → r ≡ None → step (state_of p) (get_or json i 0) ≡ none
  stops r z (dies e n) d = n
  stops r z (goes e m) d = absurd (none-some _ (sym d ∙ e))

  carry : (r : Scan) (z : Areas) → get_or json i 0 < 256 → (p.watch.fault ≡ 0) ⊎ (p.gathered.on ≡ true) → Moved json i p a r z → Held json a₀ (i + 1) r z
  carry r z byte further m =
      let c = h.carried in
      let P : Place = place_at p.place in
      let goes_on : GoesOn c.kept =
      ⊎_elim
      (λ (e : p.watch.fault ≡ 0). inl (ap (λ (w : Watch). w.fault) c.watch_is ∙ e))
      (λ (e : p.gathered.on ≡ true). inr (sym (ap (λ (n : Gathered). n.on) c.names_are.numbers_are) ∙ e))
      further in
      let next : Kept = keeping (state_of p) (get_or json i 0) (drop (suc i) json) c.kept in
      let bounded : Survey.Bounded (suc i) r.watch = rw m.watched (watching_bounded json i more P p.opened byte p.watch h.bounded) in
      rw (add-one i)
      (record {
        carried =
            record {
              inside = omega arith;
              known = m.known;
              fits = m.fits;
              kept = next;
              trail = T.goes c.trail goes_on more m.steps;
              watch_is = ap (watching P (brackets p.opened) (get_or json i 0) (drop (suc i) json)) c.watch_is ∙ sym m.watched;
              tally_is = ap (tallying P (brackets p.opened) (get_or json i 0) (drop (suc i) json)) c.tally_is ∙ sym m.tallied;
              names_are = m.gathered a₀.names a₀.words c.kept.names c.names_are;
              sound = bounded_sound (suc i) r.watch (omega arith) bounded;
            };
        bounded = bounded;
        low = rw m.tallied (tallying_bounded json i more P p.opened (tally_in p a) h.low);
        names_low = sound_gathered i c.kept.names h.names_low 0 P (brackets p.opened) (get_or json i 0) (drop (suc i) json);
      })

  pub on : (r : Option Scan) (z : Areas) → get_or json i 0 < 256 → (p.watch.fault ≡ 0) ⊎ (p.gathered.on ≡ true) → Stepped json i p a r z → (q : Scan) → r ≡ Some q → Held json a₀ (i + 1) q z
  on r z byte further (dies e n) q d = absurd (none-some q (sym e ∙ d))
  on r z byte further (goes {q = x} e m) q d = rw (same_Some q x (sym d ∙ e)) (carry x z byte further m)
