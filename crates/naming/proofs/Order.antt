-- Values, names and escapes of a text start one behind the other, so what starts first is told by how many bytes are left.
--     Falling          each start has fewer bytes left than the one before it
--     starts_fall      those of a text do
-- Assumes nothing.
use mathlib.Core.Bool.{Bool, false}
use mathlib.Core.List.{List, [], ◌∷◌}
use mathlib.Core.Logic.{◌≢◌}
use mathlib.Core.Path.{◌≡◌, refl}
use Prim.Native.Nat.{ℕ, suc, ◌≤◌, ◌<◌}
use native.Mathlib.Omega.{arith}
use lib.ListN.{length}
use Rattle.jsontext.specs.Text as T
use Rattle.jsontext.specs.Text.{Space, spaces, plain, Str, piece, pieces, Value, null, truth, falsity, num, str, empty_array, array, empty_object, object, Elements, last, more, Members, last_m, more_m, value, elements, members, Text, bytes}
use Rattle.jsontext.specs.Value.{unit_code, waiting, is_lone, decoded}
use Rattle.jsontext.specs.Sightings.{What, a_value, a_name, an_escape}
use Rattle.jsontext.specs.Starts.{Start, starting, among, string_starts, value_starts, element_starts, member_starts, text_starts}
use Rattle.jsontext.specs.Number.{exact_of, wide}
use Rattle.escapes.proofs.Escaped.{size_is}
use Rattle.reader.proofs.Lengths.{spaces_long, value_short}

-- each has some bytes left, the first fewer than that, and each later one fewer than the one before
pub data Falling : ℕ → List Start → Type 0 where
  f_none : {most : ℕ} → Falling most []
  f_more : {most : ℕ} {s : Start} {ss : List Start} → 0 < length s.seen.behind → length s.seen.behind < most → Falling (length s.seen.behind) ss → Falling most (s ∷ ss)

falls : (most : ℕ) (s : Start) (ss : List Start) → 0 < length s.seen.behind → length s.seen.behind < most → Falling (length s.seen.behind) ss → Falling most (s ∷ ss)
falls most s ss g h f = f_more g h f

falls_from : (a b : ℕ) (ss : List Start) → a ≤ b → Falling a ss → Falling b ss
falls_from a b [] l f_none = f_none
falls_from a b (s ∷ ss) l (f_more g h f) = falls b s ss g (omega arith) f

string_falls : (w : ℕ) (s : Str) (k : ℕ) (rest : List ℕ) (later : List Start) → Falling (suc (length rest)) later → Falling (suc (length (pieces s rest))) (string_starts w s k rest later)
unfolding string_starts pieces
string_falls w [] k rest later f = f
string_falls w (plain c p ∷ ps) k rest later f =
    falls_from (suc (length (pieces ps rest))) (suc (length (pieces (plain c p ∷ ps) rest))) (string_starts 0 ps k rest later) (omega (arith, size_is c (pieces ps rest))) (string_falls 0 ps k rest later f)
string_falls w (T.escape m ∷ ps) k rest later f =
    falls (suc (length (piece (T.escape m) (pieces ps rest)))) (starting an_escape k (piece (T.escape m) (pieces ps rest)) false) (string_starts 0 ps k rest later) (omega arith) (omega arith)
    (falls_from (suc (length (pieces ps rest))) (length (piece (T.escape m) (pieces ps rest))) (string_starts 0 ps k rest later) (omega arith) (string_falls 0 ps k rest later f))
string_falls w (T.unit h i j l ∷ ps) k rest later f =
    let c = unit_code h i j l in
    falls (suc (length (piece (T.unit h i j l) (pieces ps rest)))) (starting an_escape k (piece (T.unit h i j l) (pieces ps rest)) (is_lone w c ps)) (string_starts (waiting c ps) ps k rest later) (omega arith) (omega arith)
    (falls_from (suc (length (pieces ps rest))) (length (piece (T.unit h i j l) (pieces ps rest))) (string_starts (waiting c ps) ps k rest later) (omega arith) (string_falls (waiting c ps) ps k rest later f))

module _ (most : ℕ) where
  -- a value's start, before what follows it
  value_first : (x : Value) (k : ℕ) (a : Bool) (rest : List ℕ) (ss : List Start) → Falling (length (value x rest)) ss → Falling (suc (length (value x rest))) (starting a_value k (value x rest) a ∷ ss)
  value_first x k a rest ss f = falls (suc (length (value x rest))) (starting a_value k (value x rest) a) ss (omega (arith, value_short x rest)) (omega arith) f

  mutual
    unfolding value value_starts

    value_falls : (x : Value) (k : ℕ) (rest : List ℕ) (later : List Start) → Falling (suc (length rest)) later → Falling (suc (length (value x rest))) (value_starts most x k rest later)
    value_falls null k rest later f = value_first null k false rest later (falls_from (suc (length rest)) (length (value null rest)) later (omega arith) f)
    value_falls truth k rest later f = value_first truth k false rest later (falls_from (suc (length rest)) (length (value truth rest)) later (omega arith) f)
    value_falls falsity k rest later f = value_first falsity k false rest later (falls_from (suc (length rest)) (length (value falsity rest)) later (omega arith) f)
    value_falls (num n) k rest later f = value_first (num n) k (wide most (exact_of n)) rest later (falls_from (suc (length rest)) (length (value (num n) rest)) later (omega (arith, value_short (num n) rest)) f)
    value_falls (str s) k rest later f =
        value_first (str s) k false rest (string_starts 0 s k (0x22 ∷ rest) later)
        (falls_from (suc (length (pieces s (0x22 ∷ rest)))) (length (value (str s) rest)) (string_starts 0 s k (0x22 ∷ rest) later) (omega arith)
        (string_falls 0 s k (0x22 ∷ rest) later (falls_from (suc (length rest)) (suc (length (0x22 ∷ rest))) later (omega arith) f)))
    value_falls (empty_array w) k rest later f =
        value_first (empty_array w) k false rest later (falls_from (suc (length rest)) (length (value (empty_array w) rest)) later (omega (arith, spaces_long w (0x5D ∷ rest))) f)
    value_falls (array w vs) k rest later f =
        value_first (array w vs) k false rest (element_starts most vs (suc k) (0x5D ∷ rest) later)
        (falls_from (suc (length (elements vs (0x5D ∷ rest)))) (length (value (array w vs) rest)) (element_starts most vs (suc k) (0x5D ∷ rest) later) (omega (arith, spaces_long w (elements vs (0x5D ∷ rest))))
        (elements_fall vs (suc k) (0x5D ∷ rest) later (falls_from (suc (length rest)) (suc (length (0x5D ∷ rest))) later (omega arith) f)))
    value_falls (empty_object w) k rest later f =
        value_first (empty_object w) k false rest later (falls_from (suc (length rest)) (length (value (empty_object w) rest)) later (omega (arith, spaces_long w (0x7D ∷ rest))) f)
    value_falls (object w ms) k rest later f =
        value_first (object w ms) k false rest (member_starts most [] ms (suc k) (0x7D ∷ rest) later)
        (falls_from (suc (length (members ms (0x7D ∷ rest)))) (length (value (object w ms) rest)) (member_starts most [] ms (suc k) (0x7D ∷ rest) later) (omega (arith, spaces_long w (members ms (0x7D ∷ rest))))
        (members_fall [] ms (suc k) (0x7D ∷ rest) later (falls_from (suc (length rest)) (suc (length (0x7D ∷ rest))) later (omega arith) f)))

    elements_fall : (vs : Elements) (k : ℕ) (rest : List ℕ) (later : List Start) → Falling (suc (length rest)) later → Falling (suc (length (elements vs rest))) (element_starts most vs k rest later)
    elements_fall (last x w) k rest later f = value_falls x k (spaces w rest) later (falls_from (suc (length rest)) (suc (length (spaces w rest))) later (omega (arith, spaces_long w rest)) f)
    elements_fall (more x w w' xs) k rest later f =
        let others = elements xs rest in
        let end = spaces w (0x2C ∷ spaces w' others) in
        value_falls x k end (element_starts most xs k rest later)
        (falls_from (suc (length others)) (suc (length end)) (element_starts most xs k rest later) (omega (arith, spaces_long w (0x2C ∷ spaces w' others), spaces_long w' others)) (elements_fall xs k rest later f))

    members_fall : (names : List (List ℕ)) (ms : Members) (k : ℕ) (rest : List ℕ) (later : List Start) → Falling (suc (length rest)) later
        → Falling (suc (length (members ms rest))) (member_starts most names ms k rest later)
    members_fall names (last_m s w w' x w'') k rest later f =
        let next = spaces w'' rest in
        let end = spaces w (0x3A ∷ spaces w' (value x next)) in
        let inner = string_starts 0 s k (0x22 ∷ end) (value_starts most x k next later) in
        falls (suc (length (members (last_m s w w' x w'') rest))) (starting a_name k (members (last_m s w w' x w'') rest) (among names (decoded s))) inner (omega arith) (omega arith)
        (falls_from (suc (length (pieces s (0x22 ∷ end)))) (length (members (last_m s w w' x w'') rest)) inner (omega arith)
        (string_falls 0 s k (0x22 ∷ end) (value_starts most x k next later)
        (falls_from (suc (length (value x next))) (suc (length (0x22 ∷ end))) (value_starts most x k next later) (omega (arith, spaces_long w (0x3A ∷ spaces w' (value x next)), spaces_long w' (value x next)))
        (value_falls x k next later (falls_from (suc (length rest)) (suc (length next)) later (omega (arith, spaces_long w'' rest)) f)))))
    members_fall names (more_m s w w' x w'' w''' ms) k rest later f =
        let others = members ms rest in
        let next = spaces w'' (0x2C ∷ spaces w''' others) in
        let end = spaces w (0x3A ∷ spaces w' (value x next)) in
        let rests = member_starts most (decoded s ∷ names) ms k rest later in
        let inner = string_starts 0 s k (0x22 ∷ end) (value_starts most x k next rests) in
        falls (suc (length (members (more_m s w w' x w'' w''' ms) rest))) (starting a_name k (members (more_m s w w' x w'' w''' ms) rest) (among names (decoded s))) inner (omega arith) (omega arith)
        (falls_from (suc (length (pieces s (0x22 ∷ end)))) (length (members (more_m s w w' x w'' w''' ms) rest)) inner (omega arith)
        (string_falls 0 s k (0x22 ∷ end) (value_starts most x k next rests)
        (falls_from (suc (length (value x next))) (suc (length (0x22 ∷ end))) (value_starts most x k next rests) (omega (arith, spaces_long w (0x3A ∷ spaces w' (value x next)), spaces_long w' (value x next)))
        (value_falls x k next rests
        (falls_from (suc (length others)) (suc (length next)) rests (omega (arith, spaces_long w'' (0x2C ∷ spaces w''' others), spaces_long w''' others)) (members_fall (decoded s ∷ names) ms k rest later f))))))

  pub starts_fall : (t : Text) → Falling (suc (length (value t.root (spaces t.behind [])))) (text_starts most t)
  starts_fall t = value_falls t.root 1 (spaces t.behind []) [] f_none
