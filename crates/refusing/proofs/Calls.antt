-- What the calls in `refusal_of` ask and give, where the text is JSON.
-- Assumes nothing.
use mathlib.Core.Bool.{Bool, true, false, not}
use mathlib.Core.List.{List}
use mathlib.Core.Logic.{◌≢◌, ◌⊎◌, ⊎_elim}
use mathlib.Core.Path.{◌≡◌, refl, sym, ap, ◌∙◌, subst}
use Prim.Native.Nat.{ℕ, ◌-◌, ◌/◌, ◌≤◌}
use lib.ListN.{length}
use Rattle.names.specs.Names.{Lying}
use Rattle.jsontext.specs.Text.{Text, bytes}
use Rattle.jsontext.specs.Automaton.{start, accepts}
use Rattle.jsontext.proofs.Sound.{accepts_json}
use Rattle.follow.specs.declared.End.{End}
use Rattle.follow.specs.Following.{Followed}
use Rattle.survey.specs.declared.Watch.{Watch}
use Rattle.naming.proofs.Lying.{in_threes}
use Rattle.scan.specs.declared.Halt.{Halt}
use Rattle.scan.specs.Scanning.{Areas, Halted}
use Rattle.refusing.specs.declared.Amiss.{Amiss}
use Rattle.refusing.specs.Refusing.{Ended, Endable, first_one_of, Lent, Told}
use Rattle.refusing.proofs.Halting.{Whole, whole}
use Rattle.refusing.proofs.Firsts.{lies}
use Rattle.refusing.proofs.Telling as Telling

-- a test the other way round
pub refuted : (b : Bool) → not b ≡ true → b ≡ false
refuted true e = sym e
refuted false e = refl

pub upheld : (b : Bool) → not b ≡ false → b ≡ true
upheld true e = refl
upheld false e = sym e

-- the first pass was called
pub record Called (json : List ℕ) (a₀ : Areas) (r : Halt) (a : Areas) : Type 0 where
  pub short : length json ≤ 65_536
  pub lent : Lent json a₀.names a₀.words
  pub halted : Halted json a₀ r a
  pub accepted : accepts json ≡ true

module _ {a₀ : Areas} {r : Halt} {a : Areas} where
  -- of a text's bytes
  of_text : (P : List ℕ → Type 0) → {json : List ℕ} → Called json a₀ r a → ((t : Text) → Called (bytes t) a₀ r a → P (bytes t)) → P json
  of_text P {json} c f =
      let j = (accepts_json json).0 c.accepted in
      subst P j.1 (f j.0 (subst (λ (x : List ℕ). Called x a₀ r a) (sym j.1) c))

  whole_of : {json : List ℕ} → Called json a₀ r a → Whole json a₀ r a
  whole_of {json} c = whole json a₀ r a c.halted c.accepted

  -- what `refusal_of` has come to where the text goes on to its end
  pub called : {json : List ℕ} {e : End} → (length json ≤ 65_536) × Lent json a₀.names a₀.words → Halted json a₀ r a → Followed json 0 start e → not e.whole ≡ false → Called json a₀ r a
  called {e = e} p h f n = record { short = p.0; lent = p.1; halted = h; accepted = sym f.whole_is ∙ upheld e.whole n }

  pub called_end : {json : List ℕ} → Called json a₀ r a → Endable r.scan.place r.scan.opened.depth r.scan.watch
  called_end {json} c = Telling.endable json a₀ r a (whole_of c)

  module _ {json : List ℕ} (c : Called json a₀ r a) (v : Watch) (e : Ended r.scan.place r.scan.opened.depth r.scan.watch v) where
    abbrev filled : ℕ
    filled = r.scan.gathered.filled

    abbrev found : Amiss
    found = first_one_of a.words a.names (filled / 3) v

    pub called_lies : (Lying a.words a.names (in_threes (filled / 3))) × (filled ≤ length a.words)
    called_lies =
        of_text (λ x. (Lying a.words a.names (in_threes (filled / 3))) × (filled ≤ length a.words)) c
        (λ t k. (lies t v a.words a.names filled (Telling.stand t a₀ r a (whole_of k) k.short v e k.lent), Telling.filled_fits t a₀ r a (whole_of k) k.short v e k.lent))

    module _ (x : Amiss) (is : x ≡ found) where
      pub called_left : x.number ≢ 0 → x.left ≤ length json
      called_left z =
          ⊎_elim
          (λ (l : found.left ≤ length json). rw is l)
          (λ (n : found.number ≡ 0). absurd (z (ap (λ (y : Amiss). y.number) is ∙ n)))
          (of_text (λ l. (found.left ≤ length l) ⊎ (found.number ≡ 0)) c (λ t k. Telling.left_low t a₀ r a (whole_of k) k.short v e k.lent))

      pub called_none : x.number ≡ 0 → Told json 0 0 a.values a.texts
      called_none z =
          of_text (λ l. Told l 0 0 a.values a.texts) c
          (λ t k. Telling.tells_none t a₀ r a (whole_of k) k.short v e k.lent (sym (ap (λ (y : Amiss). y.number) is) ∙ z))

      pub called_some : x.number ≢ 0 → Told json x.number (length json - x.left) a.values a.texts
      called_some z =
          of_text (λ l. Told l x.number (length l - x.left) a.values a.texts) c
          (λ t k. subst (λ (y : Amiss). Told (bytes t) y.number (length (bytes t) - y.left) a.values a.texts) (sym is)
          (Telling.tells_some t a₀ r a (whole_of k) k.short v e k.lent (λ n. z (ap (λ (y : Amiss). y.number) is ∙ n))))
