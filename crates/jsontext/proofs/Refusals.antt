-- Refusal 21 has the place that its rule says.
--     found        the computed finding is right
--     one_finding   and no other is
-- Assumes nothing.
use mathlib.Core.Bool.{Bool, true, false, cond}
use mathlib.Core.List.{List, [], ◌∷◌, ◌++◌, append_assoc, append-nil}
use mathlib.Core.Logic.{◌⊎◌, inl, inr, ⊎_elim}
use mathlib.Core.Option.{Option, none, some}
use mathlib.Core.Path.{◌≡◌, refl, sym, ◌∙◌, ap, subst}
use Prim.Native.Nat.{ℕ, zero, suc, ◌≤◌, ◌<◌}
use native.Mathlib.Omega.{arith}
use lib.ListN.{length, take, drop, take-append-drop}
use Rattle.jsontext.specs.Text.{Json, Continues}
use Rattle.jsontext.specs.Automaton.{State, step, run, start, accepts}
use Rattle.jsontext.specs.Refusal.{Finding, json, refused, Found, is_json, broken, unfinished, onward, reach, finding}
use Rattle.laws.proofs.Tests.{le_or_lt}
use Rattle.jsontext.proofs.Sound.{never, lives_on, goes_on, accepts_json}

absurd_none : {A : Type 0} {t : State} → none ≡ some t → A
absurd_none e = absurd (let z : ◌≡◌ {A = ℕ} 0 1 = cc in omega arith)

-- it lives on what it takes
lived : (bs : List ℕ) (s : State) (j : ℕ) → j ≤ reach bs s → (t : State) × (run (take j bs) (some s) ≡ some t)
unfolding run reach
lived bs s zero h = (s, refl)
lived [] s (suc j) h = (s, refl)
lived (b ∷ bs) s (suc j) h = go (step s b) refl h (λ t l. lived bs t j l)
  where
    go : (o : Option State)
        → step s b ≡ o
        → suc j ≤ onward o (λ t. reach bs t)
        → ((t : State) → j ≤ reach bs t → (u : State) × (run (take j bs) (some t) ≡ some u))
        → (t : State) × (run (take j bs) (step s b) ≡ some t)
    go none e l f = absurd (omega arith)
    go (some t) e l f = let g = f t (omega arith) in (g.0, ap (run (take j bs)) e ∙ g.1)

-- and dies at the next byte, if there is one
died : (bs : List ℕ) (s : State) → reach bs s < length bs → run (take (suc (reach bs s)) bs) (some s) ≡ none
unfolding run reach
died [] s h = absurd (omega arith)
died (b ∷ bs) s h = go (step s b) refl h (λ t l. died bs t l)
  where
    gone : (cs : List ℕ) → run cs none ≡ none
    gone [] = refl
    gone (c ∷ cs) = refl

    go : (o : Option State)
        → step s b ≡ o
        → onward o (λ t. reach bs t) < suc (length bs)
        → ((t : State) → reach bs t < length bs → run (take (suc (reach bs t)) bs) (some t) ≡ none)
        → run (take (onward (step s b) (λ t. reach bs t)) bs) (step s b) ≡ none
    go none e l f = rw e (gone (take 0 bs))
    go (some t) e l f = rw e (f t (omega arith))

reach_low : (bs : List ℕ) (s : State) → reach bs s ≤ length bs
unfolding reach
reach_low [] s = omega arith
reach_low (b ∷ bs) s = go (step s b) (λ t. reach_low bs t)
  where
    go : (o : Option State) → ((t : State) → reach bs t ≤ length bs) → onward o (λ t. reach bs t) ≤ suc (length bs)
    go none f = omega arith
    go (some t) f = let h = f t in omega arith

take_all : (bs : List ℕ) → take (length bs) bs ≡ bs
take_all [] = refl
take_all (b ∷ bs) = ap (λ r. b ∷ r) (take_all bs)

pub found : (bs : List ℕ) → Found bs (finding bs)
unfolding finding
found bs = go (accepts bs) refl
  where
    refuse : accepts bs ≡ false → (reach bs start < length bs) ⊎ (length bs ≤ reach bs start) → Found bs (refused (reach bs start))
    refuse e (inl h) =
        broken
        (record {
          inside = h;
          begins = λ j l. lives_on (take (suc j) bs) (lived bs start (suc j) l);
          stops = λ c. let g = goes_on (take (suc (reach bs start)) bs) c in absurd_none (sym (died bs start h) ∙ g.1);
        })
    refuse e (inr h) =
        let low = reach_low bs start in
        let same : reach bs start ≡ length bs = omega arith in
        unfinished
        (record {
          all = same;
          begins = rw (← take_all bs) (lives_on (take (length bs) bs) (lived bs start (length bs) (omega arith)));
          short = λ j. never (sym e ∙ (accepts_json bs).1 j);
        })

    go : (r : Bool) → accepts bs ≡ r → Found bs (cond r json (refused (reach bs start)))
    go true e = is_json ((accepts_json bs).0 e)
    go false e = refuse e (⊎_elim (λ h. inr h) (λ h. inl h) (le_or_lt (length bs) (reach bs start)))

-- ---- no other

shorter : (p q : List ℕ) → Continues (p ++ q) → Continues p
shorter p q (r, j) = (q ++ r, subst Json (append_assoc p q r) j)

start_of : (n : ℕ) (bs : List ℕ) → Continues bs → Continues (take n bs)
start_of n bs c = shorter (take n bs) (drop n bs) (rw take-append-drop c)

json_continues : (bs : List ℕ) → Json bs → Continues bs
json_continues bs j = ([], rw append-nil j)

pub one_finding : (bs : List ℕ) {v w : Finding} → Found bs v → Found bs w → v ≡ w
one_finding bs (is_json j) (is_json k) = refl
one_finding bs (is_json j) (broken {n} h) = absurd (h.stops (start_of (suc n) bs (json_continues bs j)))
one_finding bs (is_json j) (unfinished h) = absurd (h.short j)
one_finding bs (broken {n} h) (is_json j) = absurd (h.stops (start_of (suc n) bs (json_continues bs j)))
one_finding bs (broken {n} h) (broken {n = m} k) =
    ⊎_elim
    (λ l. absurd (k.stops (h.begins m l)))
    (λ l. ⊎_elim (λ g. absurd (h.stops (k.begins n g))) (λ g. ap refused (omega arith)) (le_or_lt (suc n) m))
    (le_or_lt (suc m) n)
one_finding bs (broken {n} h) (unfinished k) = absurd (h.stops (start_of (suc n) bs k.begins))
one_finding bs (unfinished h) (is_json j) = absurd (h.short j)
one_finding bs (unfinished h) (broken {n} k) = absurd (k.stops (start_of (suc n) bs h.begins))
one_finding bs (unfinished h) (unfinished k) = ap refused (h.all ∙ sym k.all)
