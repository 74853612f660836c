-- How many names are told apart: what the functions over the tables say to each other. Nothing that a reader must believe depends on it.
--
-- A name stands under a node: the root of its place in the table, or an earlier name. Under a root its mark is its print and its letter its
-- length; under an earlier name, of the same length, its mark is in how many bytes from the front the two agree, and its letter the byte after
-- those, in which they differ. No two names have the same node, mark and letter. So a name is sought by going from its root to the one name
-- with its mark and letter there, from that one to the one with its mark and letter under it, and so on: one that is the same as an earlier
-- name comes to that name. Which names stand under a node is had from chains, one for each place of the table: those under the root of place c
-- and those under name c are in one.
-- Assumes nothing.
use Rattle.std.specs.Prelude.{Bool, true, false, cond, List, ◌≡◌, ℕ, zero, suc, ◌+◌, ◌*◌, ◌-◌, ◌/◌, ◌%◌, ◌≤◌, ◌<◌, eqb, ltb, length, get_or, set}
use Rattle.text.specs.Words.{Alike}
use Rattle.text.specs.Fingerprint.{fingerprint_of}
use Rattle.ways.specs.declared.Spot.{Spot}
use Rattle.ways.specs.declared.Tables.{Tables}
use Rattle.ways.specs.declared.Stood.{Stood}
use Rattle.names.specs.declared.Lain.{Lain}
use Rattle.names.specs.Lain.{name_in}

-- the most places of a table
abbrev pub places_max : ℕ
places_max = 8_192

-- the place of a number of 32 bits among so many
abbrev pub scaled_to : ℕ → ℕ → ℕ
scaled_to places n = n * places / 4_294_967_296

-- a name's root, and its mark there
unfoldable pub root_of : ℕ → List ℕ → ℕ
root_of places bs = scaled_to places (fingerprint_of bs / 4_294_967_296)

unfoldable pub print_of : List ℕ → ℕ
print_of bs = fingerprint_of bs % 4_294_967_296

-- a name's letter under a node, by its mark
unfoldable pub letter_of : ℕ → ℕ → ℕ → List ℕ → ℕ
letter_of places node mark bs = cond (ltb node places) (length bs) (get_or bs mark 0)

-- the place of the names under a node: a root is a place, and name c has the place c
unfoldable pub place_of : ℕ → ℕ → ℕ
place_of places node = cond (ltb node places) node (node - places)

-- two names of one length agree in the first m bytes and not in the next
pub record Forked (x y : List ℕ) (m : ℕ) : Type 0 where
  pub long : length x ≡ length y
  pub within : m < length x
  pub alike : Alike x y 0 m
  pub parts : get_or x m 0 ≡ get_or y m 0 → ⊥

-- one more than the last of the first i names that has the place p, or 0
unfoldable pub latest : (ℕ → ℕ) → ℕ → ℕ → ℕ
latest place p zero = 0
latest place p (suc i) = cond (eqb (place i) p) (suc i) (latest place p i)

-- the chains of the first i names by their places
pub record Chains (place : ℕ → ℕ) (heads next : List ℕ) (i : ℕ) : Type 0 where
  pub heads_are : (p : ℕ) → p < length heads → get_or heads p 0 ≡ latest place p i
  pub next_are : (k : ℕ) → k < i → get_or next k 0 ≡ latest place (place k) k

-- the place of name k where it stands
abbrev pub place_at : ℕ → List ℕ → ℕ → ℕ
place_at places nodes k = place_of places (get_or nodes k 0)

module _ (places : ℕ) (name : ℕ → List ℕ) (nodes marks : List ℕ) where
  -- name c stands under the node with this mark and this letter
  pub record Leads (node mark letter c : ℕ) : Type 0 where
    pub under : get_or nodes c 0 ≡ node
    pub marked : get_or marks c 0 ≡ mark
    pub lettered : letter_of places node mark (name c) ≡ letter

  -- r tells whether it does
  pub record Told (node mark letter c : ℕ) (r : Bool) : Type 0 where
    pub hit : r ≡ true → Leads node mark letter c
    pub miss : r ≡ false → Leads node mark letter c → ⊥

  -- the way of x over the first i names, from a node with a mark to another
  pub data Way (x : List ℕ) (i : ℕ) : ℕ → ℕ → ℕ → ℕ → Type 0 where
    stay : {node mark : ℕ} → Way x i node mark node mark
    go : {node mark end last : ℕ} (c m : ℕ) → c < i → Leads node mark (letter_of places node mark x) c → Forked x (name c) m → Way x i (places + c) m end last
        → Way x i node mark end last

  -- over the first i names the way of x comes to this node with this mark
  pub record Reached (x : List ℕ) (i node mark : ℕ) : Type 0 where
    pub low : node < places + i
    pub forked : (b : ℕ) → node ≡ places + b → Forked x (name b) mark
    pub way : Way x i (root_of places x) (print_of x) node mark

  -- and no name leads on
  pub record Free (x : List ℕ) (i node mark : ℕ) : Type 0 where
    pub reached : Reached x i node mark
    pub alone : (c : ℕ) → c < i → Leads node mark (letter_of places node mark x) c → ⊥

  -- each of the first i names stands where its way ends
  pub record Stand (i : ℕ) : Type 0 where
    pub free : (k : ℕ) → k < i → Free (name k) k (get_or nodes k 0) (get_or marks k 0)

  -- name c leads on
  pub record Child (x : List ℕ) (i node mark c : ℕ) : Type 0 where
    pub within : c < i
    pub one : Leads node mark (letter_of places node mark x) c

  -- none does
  pub record Alone (x : List ℕ) (i node mark : ℕ) : Type 0 where
    pub none : (c : ℕ) → c < i → Leads node mark (letter_of places node mark x) c → ⊥

  -- no earlier name is the same as name i, and its way ends here
  pub record Spotted (i : ℕ) (spot : Spot) : Type 0 where
    pub free : Free (name i) i spot.node spot.mark
    pub fresh : (k : ℕ) → k < i → name k ≡ name i → ⊥

-- an earlier name is the same as name i
pub record Repeated (name : ℕ → List ℕ) (i : ℕ) : Type 0 where
  pub same : (k : ℕ) × (k < i) × (name k ≡ name i)

-- name i is put under the node with the mark, in front of the chain there
pub record Put (heads next nodes marks : List ℕ) (i node mark : ℕ) (heads' next' nodes' marks' : List ℕ) : Type 0 where
  pub first : heads' ≡ set heads (place_of (length heads) node) (i + 1)
  pub then : next' ≡ set next i (get_or heads (place_of (length heads) node) 0)
  pub under : nodes' ≡ set nodes i node
  pub marked : marks' ≡ set marks i mark

-- there is room for so many names
pub record Room (count : ℕ) (heads next nodes marks : List ℕ) : Type 0 where
  pub some_places : 0 < length heads
  pub few_places : length heads ≤ places_max
  pub enough_places : count ≤ length heads
  pub next_room : count ≤ length next
  pub nodes_room : count ≤ length nodes
  pub marks_room : count ≤ length marks

-- the first i of so many names stand in the tables
pub record Standing (name : ℕ → List ℕ) (count : ℕ) (heads next nodes marks : List ℕ) (i : ℕ) : Type 0 where
  pub room : Room count heads next nodes marks
  pub stand : Stand (length heads) name nodes marks i
  pub chains : Chains (place_at (length heads) nodes) heads next i

-- the same of the tables in code
abbrev pub StandingIn : Lain → Tables → ℕ → Type 0
StandingIn l t = Standing (name_in l) l.names.count t.heads.now t.next.now t.nodes.now t.marks.now

abbrev pub StoodIn : Lain → Stood → ℕ → Type 0
StoodIn l t = Standing (name_in l) l.names.count t.heads.now t.next.now t.nodes.now t.marks.now

abbrev pub PutIn : Tables → ℕ → Spot → Tables → Type 0
PutIn t i spot u =
    Put t.heads.now t.next.now t.nodes.now t.marks.now i spot.node spot.mark u.heads.now u.next.now u.nodes.now u.marks.now
