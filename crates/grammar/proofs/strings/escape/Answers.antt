-- `grammar::strings::escape` meets its contract: each letter of a short escape leads back into the string.
-- Assumes nothing.
use mathlib.Core.Logic.{◌⊎◌, inl, inr}
use mathlib.Core.Path.{◌≡◌, sym, ◌∙◌}
use Prim.Native.Nat.{ℕ, ◌+◌}
use Rattle.jsontext.specs.Automaton as Auto
use Rattle.jsontext.specs.Automaton.{pick}
use Rattle.grammar.specs.Codes.{leads, goes, role_of, role_code}
use Rattle.grammar.proofs.strings.escape.Goals as goal

back : (r : Auto.Role) (b : ℕ)
    → (b ≡ 34) ⊎ ((b ≡ 47) ⊎ ((b ≡ 92) ⊎ ((b ≡ 98) ⊎ ((b ≡ 102) ⊎ ((b ≡ 110) ⊎ ((b ≡ 114) ⊎ (b ≡ 116)))))))
    → leads (Auto.shorts r) b ≡ goes (24 + role_code r)
unfolding leads pick
back r b (inl e) = rw e
back r b (inr (inl e)) = rw e
back r b (inr (inr (inl e))) = rw e
back r b (inr (inr (inr (inl e)))) = rw e
back r b (inr (inr (inr (inr (inl e))))) = rw e
back r b (inr (inr (inr (inr (inr (inl e)))))) = rw e
back r b (inr (inr (inr (inr (inr (inr (inl e))))))) = rw e
back r b (inr (inr (inr (inr (inr (inr (inr e))))))) = rw e

pub returns-in-34 : goal.returns-in-34
returns-in-34 c = c.within.ensures ∙ sym (back (role_of c.args.role) c.args.byte c.in-34.is)
