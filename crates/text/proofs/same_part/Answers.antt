-- `text::same_part` meets its contract: parts of different lengths differ. Assumes nothing.
use mathlib.Core.Path.{sym, ◌∙◌}
use Rattle.text.proofs.Ranges.{part_length}
use Rattle.text.proofs.Bytes.{lengths_differ}
use Rattle.text.proofs.same_part.Goals as goal

pub returns-then-p-q : goal.returns-then-p-q
returns-then-p-q c =
    sym (lengths_differ _ _ (λ e. c.if-p-q.true (sym (part_length _ _ c.requires.p_fits) ∙ e ∙ part_length _ _ c.requires.q_fits)))

pub same_bytes-requires : goal.same_bytes-requires
same_bytes-requires c =
    rw (c.bytes_of-x.ensures, c.bytes_of-y.ensures, part_length _ _ c.requires.p_fits, part_length _ _ c.requires.q_fits) c.if-p-q.false
