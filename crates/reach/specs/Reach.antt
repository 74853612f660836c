-- How far characters go on from a place of a text, and a table that remembers it: what the functions that settle the ranges of a text say to each other.
-- Assumes nothing.
use Rattle.std.specs.Prelude.{Bool, true, false, List, ◌≡◌, ℕ, ◌+◌, ◌-◌, ◌/◌, ◌%◌, ◌≤◌, ◌<◌, length, get_or}
use Rattle.text.specs.declared.Range.{Range}
use Rattle.text.specs.Part.{fits, part}
use Rattle.utf8.specs.Automaton.{is_utf8}

-- the bytes from one place up to another
abbrev pub span : List ℕ → ℕ → ℕ → List ℕ
span text from to = part text (record { start = from; length = to - from })

-- no bytes from the place on are UTF-8
pub record NoneFrom (text : List ℕ) (from : ℕ) : Type 0 where
  pub none : (to : ℕ) → from < to → to ≤ length text → is_utf8 (span text from to) ≡ false

-- the r bytes from a place on, at least one, are UTF-8
pub record CharacterAt (text : List ℕ) (at r : ℕ) : Type 0 where
  pub some : 0 < r
  pub room : at + r ≤ length text
  pub whole : is_utf8 (span text at (at + r)) ≡ true

-- characters go on from one place to r, and to the end or as far as they can
pub record Walked (text : List ℕ) (from end r : ℕ) : Type 0 where
  pub on : from ≤ r
  pub room : r ≤ length text
  pub good : is_utf8 (span text from r) ≡ true
  pub stopped : r < end → NoneFrom text r

-- r is the last place to which characters go on
pub record Reach (text : List ℕ) (from r : ℕ) : Type 0 where
  pub on : from ≤ r
  pub room : r ≤ length text
  pub good : is_utf8 (span text from r) ≡ true
  pub no_further : (to : ℕ) → r < to → to ≤ length text → is_utf8 (span text from to) ≡ false

-- a word of the table has a place and the last place to which characters go on from there
abbrev pub places : ℕ
places = 65_536

-- how many words it has: one for each block of a text
abbrev pub blocks : ℕ
blocks = 512

-- every word but 0 is right of a text that is not too long
pub record Told (text memo : List ℕ) : Type 0 where
  pub short : length text < places
  pub room : length memo ≡ blocks
  pub right : (b : ℕ) → (get_or memo b 0 ≡ 0 → ⊥) → Reach text (get_or memo b 0 / places) (get_or memo b 0 % places)

-- what is known of a text before its ranges are settled
pub record Known (text memo : List ℕ) (whole : Bool) : Type 0 where
  pub told : Told text memo
  pub whole_is : whole ≡ true → is_utf8 text ≡ true

-- every range of the text is UTF-8
pub record AllUtf8 (text : List ℕ) : Type 0 where
  pub each : (r : Range) → fits (length text) r ≡ true → is_utf8 (part text r) ≡ true
