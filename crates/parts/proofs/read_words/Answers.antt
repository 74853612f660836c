use mathlib.Core.Path.{refl}
use native.Mathlib.Omega.{arith}
use lib.ListN.{length-set}
use Rattle.parts.proofs.Words.{put_none, put_more, put_all}
use Rattle.parts.proofs.read_words.Goals as goal

pub loop-i-init : goal.loop-i-init
loop-i-init c = (refl, put_none _ _)

pub loop-i-preserved : goal.loop-i-preserved
loop-i-preserved c = (simp length-set c.loop-i.invariant.0, rw c.word_at.ensures (put_more _ _ _ _ (omega arith) c.loop-i.invariant.1))

pub shape_of-words : goal.shape_of-words
shape_of-words c = c.loop-i.invariant.0

pub returns : goal.returns
returns c = put_all _ _ _ _ (omega arith) c.loop-i.invariant.1
