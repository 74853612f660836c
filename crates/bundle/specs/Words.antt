-- The words that the bench program prints (paper 01, "The bench program"), byte for byte; the line feed behind each text is the program's.
-- Assumes nothing.
use Rattle.std.specs.Prelude.{Bool, true, false, List, ◌++◌, ℕ, codes, decimal}
use Rattle.sheet.specs.Refusals.{refusal_number}
use Rattle.bundle.specs.declared.Judgement.{Judgement}
use Rattle.bundle.specs.declared.Line.{Line}
use Rattle.bundle.specs.declared.Unjudged.{Unjudged}
use Rattle.bundle.specs.declared.Unjudged.TheVariants.{BadBundle, Refused, TooLarge}

-- why nothing is judged: of a refusal its number and its place
abbrev pub unjudged_words : Unjudged → List ℕ
unjudged_words BadBundle = codes "bad bundle"
unjudged_words (Refused r) = codes "refused " ++ (decimal (refusal_number r.refusal) ++ (codes " " ++ decimal r.place))
unjudged_words TooLarge = codes "too large"

abbrev pub verdict_word : Bool → List ℕ
verdict_word true = codes "valid"
verdict_word false = codes "invalid"

-- the verdict on a line of its own, then how many pairs were settled and how many children of the root are marked
abbrev pub judgement_words : Judgement → List ℕ
judgement_words j = verdict_word j.valid ++ (codes "\npairs " ++ (decimal j.pairs ++ (codes " marked " ++ decimal j.marked)))

abbrev pub held_word : Bool → List ℕ
held_word true = codes "held"
held_word false = codes "failed"

-- a settled pair: its row, its schema, and whether it held
abbrev pub line_words : Line → List ℕ
line_words l = decimal l.row ++ (codes " " ++ (decimal l.schema ++ (codes " " ++ held_word l.held)))
