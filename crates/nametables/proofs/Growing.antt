-- One more name stands in the tables.
-- Assumes nothing.
use mathlib.Core.List.{List}
use mathlib.Core.Logic.{⊎_elim}
use mathlib.Core.Path.{◌≡◌, refl, sym, ap, ◌∙◌}
use Prim.Native.Nat.{ℕ, zero, suc, ◌+◌, ◌≤◌, ◌<◌}
use native.Mathlib.Omega.{arith}
use lib.ListN.{length, get_or, set, length-set, replicate, length-replicate}
use lib.Seq.{get_or-set_same, get_or-set_other}
use borrow.Author.Count.{below_more}
use borrow.Author.Tests.{lt-ltb, le-ltb}
use Rattle.laws.proofs.Tests.{le_or_lt}
use Rattle.ways.specs.Tree.{places_max, place_of, place_at, Leads, Way, stay, go, Free, Stand, Chains, Put, Room, Standing}
use Rattle.ways.proofs.Chains.{chains_none, chains_more}

-- what is written for name i leaves the names before it as they stand
kept : (xs : List ℕ) (i v k : ℕ) → k < i → get_or (set xs i v) k 0 ≡ get_or xs k 0
kept xs i v k h = get_or-set_other xs i k v 0 (λ z. omega arith)

module _ {places : ℕ} {name : ℕ → List ℕ} {nodes marks : List ℕ} (i v w : ℕ) where
  leads_new : {node mark letter c : ℕ} → c < i → Leads places name nodes marks node mark letter c
      → Leads places name (set nodes i v) (set marks i w) node mark letter c
  leads_new {c = c} h l = record { under = kept nodes i v c h ∙ l.under; marked = kept marks i w c h ∙ l.marked; lettered = l.lettered }

  leads_old : {node mark letter c : ℕ} → c < i → Leads places name (set nodes i v) (set marks i w) node mark letter c
      → Leads places name nodes marks node mark letter c
  leads_old {c = c} h l =
      record { under = sym (kept nodes i v c h) ∙ l.under; marked = sym (kept marks i w c h) ∙ l.marked; lettered = l.lettered }

  way_new : {x : List ℕ} {k node mark end last : ℕ} → k ≤ i → Way places name nodes marks x k node mark end last
      → Way places name (set nodes i v) (set marks i w) x k node mark end last
  way_new h stay = stay
  way_new h (go c m l t f s) = go c m l (leads_new (omega arith) t) f (way_new h s)

  free_new : {x : List ℕ} {k node mark : ℕ} → k ≤ i → Free places name nodes marks x k node mark
      → Free places name (set nodes i v) (set marks i w) x k node mark
  free_new h f =
      record {
        reached = record { low = f.reached.low; forked = f.reached.forked; way = way_new h f.reached.way };
        alone = λ c l t. f.alone c l (leads_old (omega arith) t);
      }

module _ {places : ℕ} {name : ℕ → List ℕ} {nodes marks : List ℕ} {i node mark : ℕ} (f : Free places name nodes marks (name i) i node mark)
    (h : i < length nodes) (g : i < length marks) where
  node_here : get_or (set nodes i node) i 0 ≡ node
  node_here = get_or-set_same nodes i node 0 h

  mark_here : get_or (set marks i mark) i 0 ≡ mark
  mark_here = get_or-set_same marks i mark 0 g

  stand_more : Stand places name nodes marks i → Stand places name (set nodes i node) (set marks i mark) (i + 1)
  stand_more s =
      record {
        free =
            below_more
            (λ (k : ℕ).
            Free places name (set nodes i node) (set marks i mark) (name k) k (get_or (set nodes i node) k 0) (get_or (set marks i mark) k 0))
            i
            (λ k l. rw (kept nodes i node k l, kept marks i mark k l) (free_new i node mark (omega arith) (s.free k l)))
            (rw (node_here, mark_here) (free_new i node mark (omega arith) f));
      }

  place_kept : (k : ℕ) → k < i → place_at places (set nodes i node) k ≡ place_at places nodes k
  place_kept k l = ap (place_of places) (kept nodes i node k l)

  place_here : place_at places (set nodes i node) i ≡ place_of places node
  place_here = ap (place_of places) node_here

place_low : (places node : ℕ) → node < places + places → place_of places node < places
unfolding place_of
place_low places node h =
    ⊎_elim
    (λ (l : places ≤ node). rw (le-ltb node places l) (omega arith))
    (λ (l : node < places). rw (lt-ltb node places l) l)
    (le_or_lt places node)

-- name i stands where its way ends
module _ {name : ℕ → List ℕ} {count : ℕ} {heads next nodes marks heads' next' nodes' marks' : List ℕ} {i node mark : ℕ}
    (s : Standing name count heads next nodes marks i) (h : i < count) (f : Free (length heads) name nodes marks (name i) i node mark)
    (p : Put heads next nodes marks i node mark heads' next' nodes' marks') where
  head_length : length heads' ≡ length heads
  head_length = ap length p.first ∙ length-set heads _ _

  room_more : Room count heads' next' nodes' marks'
  room_more =
      let r = s.room in
      record {
        some_places = rw head_length r.some_places;
        few_places = rw head_length r.few_places;
        enough_places = rw head_length r.enough_places;
        next_room = rw (p.then, length-set) r.next_room;
        nodes_room = rw (p.under, length-set) r.nodes_room;
        marks_room = rw (p.marked, length-set) r.marks_room;
      }

  in_nodes : i < length nodes
  in_nodes = omega (arith, s.room.nodes_room)

  in_marks : i < length marks
  in_marks = omega (arith, s.room.marks_room)

  low : place_of (length heads) node < length heads
  low = place_low (length heads) node (omega (arith, f.reached.low, s.room.enough_places))

  chained : Chains (place_at (length heads) (set nodes i node)) heads' next' (i + 1)
  chained =
      let here = place_here f in_nodes in_marks in
      rw (p.first, p.then)
      (rw here at (chains_more s.chains (place_kept f in_nodes in_marks) (omega (arith, s.room.next_room)) (rw here low)))

  pub standing_more : Standing name count heads' next' nodes' marks' (i + 1)
  standing_more =
      record {
        room = room_more;
        stand = rw (head_length, p.under, p.marked) (stand_more f in_nodes in_marks s.stand);
        chains = rw (head_length, p.under) chained;
      }

-- no names stand
pub standing_none : (name : ℕ → List ℕ) (count : ℕ) (heads next nodes marks : List ℕ) → Room count heads next nodes marks
    → ((p : ℕ) → get_or heads p 0 ≡ 0) → Standing name count heads next nodes marks 0
standing_none name count heads next nodes marks r clear =
    record { room = r; stand = record { free = λ k h. absurd (nothing k h) }; chains = chains_none _ heads next clear }
  where
    nothing : (k : ℕ) → k < 0 → ⊥
    nothing k h = omega arith

-- ---- tables that are clear

pub clear : (n p : ℕ) → ◌≡◌ {A = ℕ} (get_or (replicate n 0) p 0) 0
clear zero p = refl
clear (suc n) zero = refl
clear (suc n) (suc p) = clear n p

pub clear_room : (places n count : ℕ) → 0 < places → places ≤ places_max → n ≤ places → count ≤ n
    → Room count (replicate places 0) (replicate n 0) (replicate n 0) (replicate n 0)
clear_room places n count some few enough h =
    record {
      some_places = rw length-replicate some;
      few_places = rw length-replicate few;
      enough_places = rw length-replicate (omega arith);
      next_room = rw length-replicate h;
      nodes_room = rw length-replicate h;
      marks_room = rw length-replicate h;
    }
