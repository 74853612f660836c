-- Refusals 21 to 26 of a JSON text in code (02, #101): from where the first pass halts, whether the text is JSON, and if it is, the fault that starts first.
-- Assumes nothing.
use Rattle.std.specs.Prelude.{Option, Some, None, Result, Ok, Err, ⊤, true, false, cond, List, ◌≢◌, ◌⊎◌, ◌≡◌, ℕ, ◌+◌, ◌*◌, ◌-◌, ◌≤◌, ◌<◌, eqb, ltb, length, get_or}
use Rattle.std.proofs.Math.Option.{some}
use Rattle.laws.specs.Lowest.{lowest}
use Rattle.names.specs.Names.{repeats_at}
use Rattle.sheet.specs.Kinds.{number_max}
use Rattle.jsontext.specs.Text.{Text, bytes}
use Rattle.jsontext.specs.Automaton as A
use Rattle.jsontext.specs.Automaton.{start, ended, accepts}
use Rattle.jsontext.specs.Starts.{text_starts}
use Rattle.jsontext.specs.Refusal.{reach}
use Rattle.grammar.specs.Codes.{place_at, dead}
use Rattle.brackets.specs.declared.Open.{Open}
use Rattle.brackets.specs.Brackets.{brackets, Fits}
use Rattle.follow.specs.Following.{Followed}
use Rattle.follow.proofs.Going.{Going}
use Rattle.reader.specs.Faults.{Fault, first_fault}
use Rattle.survey.specs.declared.Watch.{Watch}
use Rattle.survey.specs.Watching.{moved}
use Rattle.survey.specs.Bounds.{Sound}
use Rattle.naming.proofs.Lying.{in_threes}
use Rattle.laying.specs.declared.Refused.{Refused}
use Rattle.laying.specs.Laying.{Countable}
use Rattle.refusing.specs.declared.Amiss.{Amiss}

-- where the automaton has come to: it died at this byte, or it goes on from there
pub data Come (json : List ℕ) (i place : ℕ) (opened : Open) : Type 0 where
  breaks : place ≡ dead → Followed json 0 start (record { at = i; whole = false }) → Come json i place opened
  goes_on : place < 50 → Fits opened → Going json 0 start i (A.at (place_at place) (brackets opened)) → Come json i place opened

-- the end of the text at a place where it may end; after a fault nothing is moved
abbrev pub Ended : ℕ → ℕ → Watch → Watch → Type 0
Ended place depth w r =
    (w.fault ≢ 0) ⊎ (ended (place_at place) ≡ true) → r ≡ cond (eqb w.fault 0) (moved (place_at place) depth 0x20 1 w) w

pub record Endable (place depth : ℕ) (w : Watch) : Type 0 where
  pub known : place < 50
  pub sound : Sound w
  pub low : w.fault ≡ 0 → depth < 100

-- the first name that an earlier one repeats, or else the other fault
abbrev pub first_one_of : List ℕ → List ℕ → ℕ → Watch → Amiss
first_one_of words names count w =
    let k = lowest (repeats_at words names (in_threes count)) count in
    cond (ltb k count) (record { number = 25; left = get_or words (3 * k + 2) 0 }) (record { number = w.fault; left = w.left })

-- what is returned for it: none has the number 0
abbrev pub Finds : Option Amiss → Amiss → Type 0
Finds None a = a.number ≡ 0
Finds (Some x) a = (x ≡ a) × (x.number ≢ 0)

-- the areas for names have room: a byte more than the text has, and three words for each name
pub record Lent (json names words : List ℕ) : Type 0 where
  pub names_long : length json < length names
  pub words_long : (3_072 ≤ length words) ⊎ (3 * length json + 3 ≤ 2 * length words)

-- what is found: no JSON, a fault, or none, and then the counters are the text's; its number, or 0, and its place
pub data Told (json : List ℕ) (number place : ℕ) (values texts : List ℕ) : Type 0 where
  not_json : number ≡ 21 → accepts json ≡ false → place ≡ reach json start → Told json number place values texts
  faulty : (t : Text) (f : Fault) → bytes t ≡ json → first_fault 0 (text_starts number_max t) ≡ some f → number ≡ f.number → number ≢ 0 → place ≡ length json - length f.behind
      → Told json number place values texts
  fine : number ≡ 0 → Countable json values texts → Told json number place values texts

-- the same of what is returned
abbrev pub Answers : List ℕ → Result ⊤ Refused → List ℕ → List ℕ → Type 0
Answers json (Ok u) values texts = Told json 0 0 values texts
Answers json (Err r) values texts = Told json r.number r.place values texts × (r.number ≢ 0)
