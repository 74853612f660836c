-- Trees put together from the front: an element, a member, a name, a piece of a string before what follows it.
-- Assumes nothing.
use mathlib.Core.List.{List, ◌∷◌}
use mathlib.Core.Path.{◌≡◌, refl, ◌∙◌, ap}
use Prim.Native.Nat.{ℕ}
use Rattle.jsontext.specs.Text.{Space, spaces, Piece, plain, piece, Str, pieces, Value, Elements, last, more, Members, last_m, more_m, value, elements, members}
use Rattle.jsontext.specs.Automaton.{Bracket, square, curly, Role}
use Rattle.jsontext.proofs.Rests.{After, shut_square, more_square, shut_curly, more_curly, Name, Inside}
use Rattle.jsontext.proofs.Characters.{Of}

-- an element and what follows it in its array
pub elements_from : (ks : List Bracket) (v : Value) (tl rest : List ℕ) → tl ≡ value v rest → After (square ∷ ks) rest
    → (vs : Elements) × (r : List ℕ) × (tl ≡ elements vs (0x5D ∷ r)) × After ks r
unfolding value
elements_from ks v tl rest e (shut_square {rest = r} w f a) = (last v w, r, cc, a)
elements_from ks v tl rest e (more_square {rest = r} w w' vs f a) = (more v w w' vs, r, cc, a)

-- a name and what follows it in its object
pub members_from : (ks : List Bracket) (s : Str) (w w' : Space) (v : Value) (tl rest end : List ℕ)
    → tl ≡ pieces s (0x22 ∷ rest)
    → rest ≡ spaces w (0x3A ∷ spaces w' (value v end))
    → After (curly ∷ ks) end
    → (ms : Members) × (r : List ℕ) × (0x22 ∷ tl ≡ members ms (0x7D ∷ r)) × After ks r
unfolding value
members_from ks s w w' v tl rest end e f (shut_curly {rest = r} w'' g a) = (last_m s w w' v w'', r, cc, a)
members_from ks s w w' v tl rest end e f (more_curly {rest = r} w'' w''' ms g a) = (more_m s w w' v w'' w''' ms, r, cc, a)

pub names_from : (ks : List Bracket) (bs : List ℕ) → Name (curly ∷ ks) bs
    → (w : Space) × (ms : Members) × (r : List ℕ) × (bs ≡ spaces w (members ms (0x7D ∷ r))) × After ks r
names_from ks bs (w, s, rest, e, (w', w'', v, end, f, a)) =
    let m = members_from ks s w' w'' v (pieces s (0x22 ∷ rest)) rest end refl f a in
    (w, m.0, m.1, e ∙ ap (spaces w) m.2, m.3)

pub piece_more : (ks : List Bracket) (r : Role) (p : Piece) (bs tl : List ℕ) → bs ≡ piece p tl → Inside ks r tl → Inside ks r bs
unfolding pieces
piece_more ks r p bs tl e i = (p ∷ i.0, i.1, e ∙ ap (piece p) i.2, i.3)

pub char_more : (ks : List Bracket) (r : Role) (put : List ℕ → List ℕ) (bs tl : List ℕ) → Of put → bs ≡ put tl → Inside ks r tl → Inside ks r bs
char_more ks r put bs tl o e i = piece_more ks r (plain o.0 o.1) bs tl (e ∙ o.2 tl) i
