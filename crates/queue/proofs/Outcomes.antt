-- What a queue comes to.
--     refused_same       a refused record leaves both areas as they were
--     refused_passes     so the rest of the queue is judged as if it were not there
-- Assumes nothing.
use mathlib.Core.List.{List, ◌∷◌}
use mathlib.Core.Path.{◌≡◌, refl, ◌∙◌}
use Prim.Native.Nat.{ℕ}
use Rattle.text.specs.Part.{part}
use Rattle.meaning.specs.Rules.{whole}
use Rattle.meaning.specs.Answer as A
use Rattle.meaning.specs.Answer.{refuses, number_for_c, judge}
use Rattle.meaning.proofs.Demands.{demands}
use Rattle.listing.specs.Listing.{words_at, text_at}
use Rattle.queue.specs.Queue.{Judged, one_by_one}

refused_same : (ws ts rs us cs ls : List ℕ) (number place : ℕ) → (judge whole ws ts rs us cs ls).answer ≡ refuses number place
    → ◌≡◌ {A = A.Left} (judge whole ws ts rs us cs ls) (record { answer = refuses number place; cells = cs; list = ls })
refused_same ws ts rs us cs ls number place e =
    let total = (demands whole ws ts rs us cs ls (judge whole ws ts rs us cs ls) refl).total in
    let w = total.only_refused number place e in
    total.refused w.0 w.1 ∙ rw (w.2, w.3)

module _ (ws bs listing rs us : List ℕ) (k : ℕ) (ks cs ls : List ℕ) where
  pub refused_passes : (number place : ℕ) → (judge whole (part ws (words_at listing k)) (part bs (text_at listing k)) rs us cs ls).answer ≡ refuses number place
      → one_by_one ws bs listing rs us (k ∷ ks) cs ls
      ≡ (let rest = one_by_one ws bs listing rs us ks cs ls in
      record { numbers = number_for_c (refuses number place) ∷ rest.numbers; cells = rest.cells; list = rest.list })
  unfolding one_by_one
  refused_passes number place e = rw (refused_same (part ws (words_at listing k)) (part bs (text_at listing k)) rs us cs ls number place e)
