-- Ways of names from their roots, and where they lead.
--     fork_one          two names part at one place
--     way_on, way-wider a way with one step more, and over more names
--     told-not, told-by what is read tells whether a name leads on
--     one_leads         one name at most leads on
--     From, together    such a name agrees with x up to where they are compared from
--     Seeking           what holds where the way of name i has come to a node with a mark
-- Assumes nothing.
use mathlib.Core.Bool.{true, false}
use mathlib.Core.List.{List}
use mathlib.Core.Logic.{⊎_elim}
use mathlib.Core.Path.{◌≡◌, refl, sym, ap, ◌∙◌}
use Prim.Native.Nat.{ℕ, ◌+◌, ◌-◌, ◌≤◌, ◌<◌}
use native.Mathlib.Nat.{eq-or-lt_of_le, add_left_cancel}
use native.Mathlib.Omega.{arith}
use lib.Dec.{eqb}
use lib.ListN.{length, get_or}
use lib.Seq.{ext_get_or}
use borrow.Author.Tests.{lt-ltb, eqb-true, eqb-false}
use Rattle.laws.proofs.Tests.{le_or_lt}
use Rattle.text.specs.Words.{Alike, Agreed}
use Rattle.text.proofs.Alike.{none, join}
use Rattle.ways.specs.declared.Spot.{Spot}
use Rattle.names.specs.Names.{repeats_by}
use Rattle.ways.specs.Tree.{letter_of, place_of, place_at, root_of, print_of, Forked, Leads, Told, Way, stay, go, Reached, Stand, Child, Spotted, Repeated}
use Rattle.names.proofs.Repeats.{repeats_here, repeats_not}

never : false ≡ true → ⊥
never e = let z : ◌≡◌ {A = ℕ} 0 1 = cc in omega arith

-- ---- two names that part

earlier : {x y : List ℕ} {m n : ℕ} → Forked x y m → Forked x y n → m < n → ⊥
earlier f g l = f.parts (g.alike.same _ (omega arith) l)

pub fork_one : {x y : List ℕ} {m n : ℕ} → Forked x y m → Forked x y n → m ≡ n
fork_one {x} {y} {m} {n} f g =
    ⊎_elim
    (λ (l : m ≤ n). ⊎_elim (λ (e : m ≡ n). e) (λ (k : m < n). absurd (earlier f g k)) (eq-or-lt_of_le l))
    (λ (l : n < m). absurd (earlier g f l))
    (le_or_lt m n)

pub no_fork : {x y : List ℕ} {m : ℕ} → Forked x y m → x ≡ y → ⊥
no_fork {x} {y} {m} f e = f.parts (ap (λ (bs : List ℕ). get_or bs m 0) e)

-- names that agree up to `from` and from there on to r, which is their length or not
module _ {x y : List ℕ} {from r : ℕ} (long : length x ≡ length y) (front : Alike x y 0 from) (g : Agreed x y from r) where
  pub parted : r < length x → Forked x y r
  parted h = record { long = long; within = h; alike = join front g.alike; parts = g.differ h }

  pub equal : length x ≤ r → x ≡ y
  equal h = ext_get_or 0 x y long (λ k l. (join front g.alike).same k (omega arith) (omega arith))

-- from where on two names are compared that have the same node, mark and letter
pub record From (places node mark from : ℕ) : Type 0 where
  pub root : node < places → from ≡ 0
  pub branch : places ≤ node → from ≡ mark

module _ {places : ℕ} {name : ℕ → List ℕ} {nodes marks : List ℕ} where
  -- ---- ways

  pub way_on : {x : List ℕ} {i node mark end last : ℕ} → Way places name nodes marks x i node mark end last
      → (c m : ℕ) → c < i → Leads places name nodes marks end last (letter_of places end last x) c → Forked x (name c) m
      → Way places name nodes marks x i node mark (places + c) m
  way_on stay c m h l f = go c m h l f stay
  way_on (go d n g k e w) c m h l f = go d n g k e (way_on w c m h l f)

  pub way_wider : {x : List ℕ} {i node mark end last : ℕ} (j : ℕ) → i ≤ j → Way places name nodes marks x i node mark end last
      → Way places name nodes marks x j node mark end last
  way_wider j h stay = stay
  way_wider j h (go d n g k e w) = go d n (omega arith) k e (way_wider j h w)

  -- ---- names that lead on

  pub told_not : {node mark letter c : ℕ} → (Leads places name nodes marks node mark letter c → ⊥)
      → Told places name nodes marks node mark letter c false
  told_not miss = record { hit = λ e. absurd (never e); miss = λ e. miss }

  pub told_by : {node mark letter c read : ℕ} → get_or nodes c 0 ≡ node → get_or marks c 0 ≡ mark → read ≡ letter_of places node mark (name c)
      → Told places name nodes marks node mark letter c (eqb read letter)
  told_by {letter = letter} {read = read} p q e =
      record {
        hit = λ t. record { under = p; marked = q; lettered = sym e ∙ eqb-true read letter t };
        miss = λ f l. eqb-false read letter f (e ∙ l.lettered);
      }

  pub leads_place : {node mark letter c : ℕ} → Leads places name nodes marks node mark letter c
      → place_at places nodes c ≡ place_of places node
  leads_place l = ap (place_of places) l.under

  pub branch_mark : {x : List ℕ} {i node mark : ℕ} → Reached places name nodes marks x i node mark → places ≤ node → mark < length x
  branch_mark {node = node} r l = let e : node ≡ places + (node - places) = omega arith in (r.forked (node - places) e).within

  module _ {i : ℕ} (s : Stand places name nodes marks i) where
    not_both : {node mark letter c d : ℕ} → c < d → d < i → Leads places name nodes marks node mark letter c
        → Leads places name nodes marks node mark letter d → ⊥
    not_both {node} {mark} {letter} {c} {d} l h p q =
        (s.free d h).alone c l
        (record {
          under = p.under ∙ sym q.under;
          marked = p.marked ∙ sym q.marked;
          lettered = rw (q.under, q.marked) (p.lettered ∙ sym q.lettered);
        })

    pub one_leads : {node mark letter c d : ℕ} → c < i → d < i → Leads places name nodes marks node mark letter c
        → Leads places name nodes marks node mark letter d → c ≡ d
    one_leads {c = c} {d = d} h g p q =
        ⊎_elim
        (λ (l : c ≤ d). ⊎_elim (λ (e : c ≡ d). e) (λ (k : c < d). absurd (not_both k g p q)) (eq-or-lt_of_le l))
        (λ (l : d < c). absurd (not_both l h q p))
        (le_or_lt c d)

    -- the name that leads name x on has its length, and agrees with it as far as they were compared
    module _ (x : List ℕ) {node mark c : ℕ} (h : c < i) (p : Leads places name nodes marks node mark (letter_of places node mark x) c) where
      pub root_long : node < places → length x ≡ length (name c)
      unfolding letter_of
      root_long l = sym (rw (lt-ltb node places l) at p.lettered)

      module _ (r : Reached places name nodes marks x i node mark) (l : places ≤ node) where
        above : node ≡ places + (node - places)
        above = omega arith

        mine : Forked x (name (node - places)) mark
        mine = r.forked (node - places) above

        its : Forked (name c) (name (node - places)) mark
        its = rw p.marked at ((s.free c h).reached.forked (node - places) (p.under ∙ above))

        pub branch_long : length x ≡ length (name c)
        branch_long = mine.long ∙ sym its.long

        pub branch_alike : Alike x (name c) 0 mark
        branch_alike = record { same = λ k low high. mine.alike.same k low high ∙ sym (its.alike.same k low high) }

        pub branch_within : mark ≤ length x
        branch_within = omega (arith, mine.within)

      -- and so they may be compared from there on
      pub together : {from : ℕ} → From places node mark from → Reached places name nodes marks x i node mark
          → (length x ≡ length (name c)) × Alike x (name c) 0 from × (from ≤ length x)
      together f r =
          ⊎_elim
          (λ (l : places ≤ node). (branch_long r l, rw (f.branch l) (branch_alike r l), rw (f.branch l) (branch_within r l)))
          (λ (l : node < places). (root_long l, rw (f.root l) (none x (name c) 0), rw (f.root l) (omega arith)))
          (le_or_lt places node)

-- what holds where the way of name i has come to a node with a mark: each earlier name that is the same stands there or further on
pub record Seeking (places : ℕ) (name : ℕ → List ℕ) (nodes marks : List ℕ) (i node mark : ℕ) : Type 0 where
  pub reached : Reached places name nodes marks (name i) i node mark
  pub ahead : (k : ℕ) → k < i → name k ≡ name i → Way places name nodes marks (name i) i node mark (get_or nodes k 0) (get_or marks k 0)

module _ {places : ℕ} {name : ℕ → List ℕ} {nodes marks : List ℕ} {i : ℕ} (s : Stand places name nodes marks i) where
  pub begin : root_of places (name i) < places → Seeking places name nodes marks i (root_of places (name i)) (print_of (name i))
  begin low =
      record {
        reached = record { low = omega arith; forked = λ b e. absurd (root b e); way = stay };
        ahead = λ k h e. way_wider i (omega arith) (rw e at (s.free k h).reached.way);
      }
    where
      root : (b : ℕ) → root_of places (name i) ≡ places + b → ⊥
      root b e = omega arith

  module _ {node mark : ℕ} (g : Seeking places name nodes marks i node mark) where
    -- no name leads on: no earlier name is the same
    ends : {k end last : ℕ} → k < i → name k ≡ name i → Way places name nodes marks (name i) i node mark end last
        → get_or nodes k 0 ≡ end → get_or marks k 0 ≡ last
        → ((c : ℕ) → c < i → Leads places name nodes marks node mark (letter_of places node mark (name i)) c → ⊥) → ⊥
    ends {k} h e stay p q alone = alone k h (record { under = p; marked = q; lettered = ap (letter_of places node mark) e })
    ends h e (go c m l t f w) p q alone = alone c l t

    pub fresh : ((c : ℕ) → c < i → Leads places name nodes marks node mark (letter_of places node mark (name i)) c → ⊥)
        → (k : ℕ) → k < i → name k ≡ name i → ⊥
    fresh alone k h e = ends h e (g.ahead k h e) refl refl alone

    -- name c leads on, and parts from name i: the way goes on from there
    module _ {c m : ℕ} (h : c < i) (t : Leads places name nodes marks node mark (letter_of places node mark (name i)) c)
        (f : Forked (name i) (name c) m) where
      turn : {k end last : ℕ} → k < i → name k ≡ name i → Way places name nodes marks (name i) i node mark end last
          → get_or nodes k 0 ≡ end → get_or marks k 0 ≡ last → Way places name nodes marks (name i) i (places + c) m end last
      turn {k} l e stay p q =
          absurd
          (no_fork f
          (sym e ∙ ap name (one_leads s l h (record { under = p; marked = q; lettered = ap (letter_of places node mark) e }) t)))
      turn l e (go d n b u v w) p q =
          let same = one_leads s b h u t in
          let mark_same : n ≡ m = fork_one (rw same at v) f in
          rw (same, mark_same) at w

      pub onward : Seeking places name nodes marks i (places + c) m
      onward =
          record {
            reached =
                record {
                  low = omega arith;
                  forked = λ b e. rw (add_left_cancel places e) at f;
                  way = way_on g.reached.way c m h t f;
                };
            ahead = λ k l e. turn l e (g.ahead k l e) refl refl;
          }

module _ {places : ℕ} {name : ℕ → List ℕ} {nodes marks : List ℕ} {i node mark : ℕ} where
  pub spotted_free : Stand places name nodes marks i → Seeking places name nodes marks i node mark
      → ((c : ℕ) → c < i → Leads places name nodes marks node mark (letter_of places node mark (name i)) c → ⊥)
      → Spotted places name nodes marks i (record { node = node; mark = mark })
  spotted_free s g alone = record { free = record { reached = g.reached; alone = alone }; fresh = fresh s g alone }

pub spot_same : {name : ℕ → List ℕ} {i : ℕ} → Repeated name i → repeats_by name i ≡ true
spot_same {name} {i} t = let found = t.same in repeats_here name i found.0 found.1 found.2

pub spot_fresh : {places : ℕ} {name : ℕ → List ℕ} {nodes marks : List ℕ} {i : ℕ} {spot : Spot} → Spotted places name nodes marks i spot → repeats_by name i ≡ false
spot_fresh {name = name} {i = i} t = repeats_not name i t.fresh

-- a name leads name i on, and the two are compared
module _ {places : ℕ} {name : ℕ → List ℕ} {nodes marks : List ℕ} {i node mark from r : ℕ} (s : Stand places name nodes marks i)
    (g : Seeking places name nodes marks i node mark) (f : From places node mark from)
    (d : Child places name nodes marks (name i) i node mark r) where
  pub met_below : r < i
  met_below = d.within

  its_lead : Leads places name nodes marks node mark (letter_of places node mark (name i)) r
  its_lead = d.one

  pub met : (length (name i) ≡ length (name r)) × Alike (name i) (name r) 0 from × (from ≤ length (name i))
  met = together s (name i) met_below its_lead f g.reached

  -- the node rises
  pub met_above : node < places + r
  met_above = omega (arith, (s.free r met_below).reached.low, its_lead.under)

  module _ {a : ℕ} (e : Agreed (name i) (name r) from a) where
    pub met_same : length (name i) ≤ a → Repeated name i
    met_same h = record { same = (r, met_below, sym (equal met.0 met.1 e h)) }

    pub met_on : a < length (name i) → Seeking places name nodes marks i (places + r) a
    met_on h = onward s g met_below its_lead (parted met.0 met.1 e h)
