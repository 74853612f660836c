-- The first pass over a JSON text, byte by byte, as the code has it: the automaton's state, what is kept of faults, the counters, and the gathered names. What it has
-- come to is a `Trail` (crate `trail`).
-- Assumes nothing.
use Rattle.std.specs.Prelude.{false, List, ◌≢◌, ◌≡◌, ℕ, suc, ◌≤◌, ◌<◌, length, get_or, drop, replicate, Option, Some, None}
use Rattle.std.proofs.Math.Option.{none, some}
use Rattle.jsontext.specs.Automaton.{State, at, step}
use Rattle.grammar.specs.Codes.{place_at, dead}
use Rattle.brackets.specs.Brackets.{brackets, Fits}
use Rattle.survey.specs.Bounds.{Sound}
use Rattle.survey.specs.Watching.{watch, watching}
use Rattle.tally.specs.Tallying.{Tally, levels, tally_of, tallying}
use Rattle.tally.specs.Bounds.{UpTo, most}
use Rattle.naming.specs.Gathering as Gathering
use Rattle.gathering.specs.Held as Names
use Rattle.trail.specs.Trail.{Kept, Trail}
use Rattle.scan.specs.declared.Scan.{Scan}
use Rattle.scan.specs.declared.Halt.{Halt}

-- what the areas hold: the counters of values and of bytes; the gathered names, their words, and the numbers of objects
pub record Areas : Type 0 where
  pub values : List ℕ
  pub texts : List ℕ
  pub names : List ℕ
  pub words : List ℕ
  pub objects : List ℕ

abbrev pub areas : List ℕ → List ℕ → List ℕ → List ℕ → List ℕ → Areas
areas values texts names words objects = record { values = values; texts = texts; names = names; words = words; objects = objects }

-- before the first byte
abbrev pub at_start : Scan
at_start =
    record {
      place = 0;
      opened = record { bits = 0; depth = 0 };
      watch = watch;
      units = record { code = 0; high = false };
      gathered = Names.numbers Gathering.nothing_yet;
    }

pub record Blank (a : Areas) : Type 0 where
  pub values_blank : a.values ≡ replicate levels 0
  pub texts_blank : a.texts ≡ replicate levels 0
  pub objects_blank : a.objects ≡ replicate Gathering.levels 0

abbrev pub state_of : Scan → State
state_of p = at (place_at p.place) (brackets p.opened)

abbrev pub tally_in : Scan → Areas → Tally
tally_in p a = tally_of p.units a.values a.texts

-- what is asked before byte i
pub record Ready (i : ℕ) (p : Scan) (a : Areas) : Type 0 where
  pub known : p.place < 50
  pub fits : Fits p.opened
  pub shallow : p.opened.depth < 62
  pub sound : Sound p.watch
  pub values_low : UpTo most a.values
  pub texts_low : UpTo most a.texts
  pub names_low : Names.Sound i p.gathered a.objects

-- byte i of the text is read
module _ (json : List ℕ) (i : ℕ) (p : Scan) (a : Areas) where
  abbrev byte : ℕ
  byte = get_or json i 0

  abbrev behind : List ℕ
  behind = drop (suc i) json

  pub record Moved (r : Scan) (z : Areas) : Type 0 where
    pub known : r.place < 50
    pub fits : Fits r.opened
    pub steps : step (state_of p) byte ≡ some (state_of r)
    pub watched : r.watch ≡ watching (place_at p.place) (brackets p.opened) byte behind p.watch
    pub tallied : tally_in r z ≡ tallying (place_at p.place) (brackets p.opened) byte behind (tally_in p a)
    pub gathered : Names.Within json i p.place (brackets p.opened) a.names a.words a.objects p.gathered z.names z.words z.objects r.gathered

  pub data Stepped (r : Option Scan) (z : Areas) : Type 0 where
    dies : r ≡ None → step (state_of p) byte ≡ none → Stepped r z
    goes : {q : Scan} → r ≡ Some q → Moved q z → Stepped r z

-- after i bytes of a text, where a₀ are the areas before the first
pub record Carried (json : List ℕ) (a₀ : Areas) (i : ℕ) (p : Scan) (a : Areas) : Type 0 where
  pub inside : i ≤ length json
  pub known : p.place < 50
  pub fits : Fits p.opened
  pub kept : Kept
  pub trail : Trail json i (state_of p) kept
  pub watch_is : kept.watch ≡ p.watch
  pub tally_is : kept.tally ≡ tally_in p a
  pub names_are : Names.Held a₀.names a₀.words a.names a.words a.objects p.gathered kept.names
  pub sound : Sound p.watch

-- the pass halts at the first byte with which no text goes on so, at a fault, once no name is under way, or at the end; far beyond level 33 it would halt too
pub data Halted (json : List ℕ) (a₀ : Areas) (r : Halt) (a : Areas) : Type 0 where
  broken : {s : State} {x : Kept} → r.scan.place ≡ dead → r.at < length json → Trail json r.at s x → step s (get_or json r.at 0) ≡ none → Halted json a₀ r a
  at_end : Carried json a₀ r.at r.scan a → r.at ≡ length json → Halted json a₀ r a
  at_fault : Carried json a₀ r.at r.scan a → r.scan.watch.fault ≢ 0 → r.scan.gathered.on ≡ false → Halted json a₀ r a
  deep : Carried json a₀ r.at r.scan a → 62 ≤ r.scan.opened.depth → Halted json a₀ r a
