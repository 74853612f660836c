-- What the first pass over a JSON text has come to after some of its bytes: the automaton's state, what is kept of faults, the counters and the gathered names.
-- Assumes nothing.
use Rattle.std.specs.Prelude.{true, List, ◌⊎◌, ◌≡◌, ℕ, suc, ◌<◌, length, get_or, drop}
use Rattle.std.proofs.Math.Option.{some}
use Rattle.jsontext.specs.Automaton.{State, at, step, start}
use Rattle.survey.specs.declared.Watch.{Watch}
use Rattle.survey.specs.Watching.{watch, watching}
use Rattle.tally.specs.Tallying.{Tally, no_tally, tallying}
use Rattle.naming.specs.Gathering.{Gather, nothing_yet, gather}

pub record Kept : Type 0 where
  pub watch : Watch
  pub tally : Tally
  pub names : Gather

-- before the first byte
abbrev pub nothing_kept : Kept
nothing_kept = record { watch = watch; tally = no_tally; names = nothing_yet }

-- a byte, with those behind it; all names are gathered
abbrev pub keeping : State → ℕ → List ℕ → Kept → Kept
keeping (at p ks) b bs x =
    record { watch = watching p ks b bs x.watch; tally = tallying p ks b bs x.tally; names = gather 0 p ks b bs x.names }

-- the pass goes on: no fault was found, or a name in which one was found has not ended
abbrev pub GoesOn : Kept → Type 0
GoesOn x = (x.watch.fault ≡ 0) ⊎ (x.names.on ≡ true)

-- after the first i bytes of a text
pub data Trail (json : List ℕ) : ℕ → State → Kept → Type 0 where
  begins : Trail json 0 start nothing_kept
  goes : {i : ℕ} {s t : State} {x : Kept} → Trail json i s x → GoesOn x → i < length json → step s (get_or json i 0) ≡ some t
      → Trail json (suc i) t (keeping s (get_or json i 0) (drop (suc i) json) x)
