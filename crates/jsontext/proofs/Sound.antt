-- What the automaton accepts is the bytes of a text, and it lives as long as some text can continue.
--     rests               what is accepted from a state may follow in it
--     sound               what is accepted is a JSON text
--     accepts_json        it accepts exactly the JSON texts
--     lives_continues     it lives on exactly the beginnings of JSON texts
-- Assumes nothing.
use mathlib.Core.Bool.{true, false}
use mathlib.Core.List.{List, [], ◌∷◌, ◌++◌}
use mathlib.Core.Logic.{◌↔◌}
use mathlib.Core.Option.{Option, none, some}
use mathlib.Core.Path.{◌≡◌, refl, sym, ◌∙◌, ap, subst}
use Prim.Native.Nat.{ℕ}
use native.Mathlib.Omega.{arith}
use Rattle.jsontext.specs.Text.{Space, spaces, Value, value, Text, bytes, Json, Continues}
use Rattle.jsontext.specs.Automaton.{Bracket, ahead, first_element, after, name, first_name, colon, word, minus, nought, whole, point, part, letter, sign, power, text, escape, unit, char, State, at, Move, innermost, changed, follow, moves, pick, step, run, start, none_open, accepting, accepted, accepts}
use Rattle.jsontext.proofs.Moves.{fits, Accepts, dead}
use Rattle.jsontext.proofs.Values.{complete}
use Rattle.jsontext.proofs.Finish.{finish, finishes}
use Rattle.jsontext.proofs.Rests.{After, all, Ahead, Rest}
use Rattle.jsontext.proofs.Back.{back}

closed_after : (ks : List Bracket) → none_open ks ≡ true → After ks []
unfolding spaces
closed_after [] e = all [] refl
closed_after (k ∷ ks) e = absurd (let z : ◌≡◌ {A = ℕ} 0 1 = cc in omega arith)

pub never : {A : Type 0} → false ≡ true → A
never e = absurd (let z : ◌≡◌ {A = ℕ} 0 1 = cc in omega arith)

rests_nil : (s : State) → accepting s ≡ true → Rest s []
unfolding Rattle.jsontext.specs.Text.digits
rests_nil (at after ks) e = closed_after ks e
rests_nil (at nought ks) e = (none, none, [], refl, closed_after ks e)
rests_nil (at whole ks) e = ([], none, none, [], refl, closed_after ks e)
rests_nil (at part ks) e = ([], none, [], refl, closed_after ks e)
rests_nil (at power ks) e = ([], [], refl, closed_after ks e)
rests_nil (at ahead ks) e = never e
rests_nil (at first_element ks) e = never e
rests_nil (at name ks) e = never e
rests_nil (at first_name ks) e = never e
rests_nil (at colon ks) e = never e
rests_nil (at (word w) ks) e = never e
rests_nil (at minus ks) e = never e
rests_nil (at point ks) e = never e
rests_nil (at letter ks) e = never e
rests_nil (at sign ks) e = never e
rests_nil (at (text r) ks) e = never e
rests_nil (at (escape r) ks) e = never e
rests_nil (at (unit h r) ks) e = never e
rests_nil (at (char c r) ks) e = never e

pub rests : (bs : List ℕ) (s : State) → Accepts s bs → Rest s bs
unfolding run step
rests [] s a = rests_nil s a
rests (b ∷ bs) (at p ks) a = go (pick (moves p (innermost ks)) b) refl a (λ t h. rests bs t h)
  where
    go : (o : Option Move)
        → pick (moves p (innermost ks)) b ≡ o
        → accepted (run bs (follow ks o)) ≡ true
        → ((t : State) → Accepts t bs → Rest t bs)
        → Rest (at p ks) (b ∷ bs)
    go none e h f = never (sym (dead bs) ∙ h)
    go (some m) e h f =
        back b bs p ks (fits (λ u. Rest (at u.place (changed u.change ks)) bs) (moves p (innermost ks)) b m e (f (at m.place (changed m.change ks)) h))

pub sound : (bs : List ℕ) → accepts bs ≡ true → Json bs
unfolding bytes
sound bs a = go (rests bs start a)
  where
    last : (w : Space) (v : Value) (tl rest : List ℕ) → bs ≡ spaces w tl → tl ≡ value v rest → After [] rest → Json bs
    last w v tl rest e f (all u g) = (record { before = w; root = v; behind = u }, cc)

    go : Ahead [] bs → Json bs
    go (w, tl, e, (v, rest, f, g)) = last w v tl rest e f g

pub accepts_json : (bs : List ℕ) → (accepts bs ≡ true) ↔ Json bs
accepts_json bs = (sound bs, λ j. subst (λ x. accepts x ≡ true) j.1 (complete j.0))

-- ---- beginnings

pub run_append : (p q : List ℕ) (o : Option State) → run (p ++ q) o ≡ run q (run p o)
unfolding run
run_append [] q o = refl
run_append (b ∷ p) [] none = refl
run_append (b ∷ p) (c ∷ q) none = refl
run_append (b ∷ p) q (some s) = run_append p q (step s b)

-- the automaton lives on the bytes
abbrev pub Lives : List ℕ → Type 0
Lives p = (s : State) × (run p (some start) ≡ some s)

pub lives_on : (p : List ℕ) → Lives p → Continues p
lives_on p (s, e) = (finish s, sound (p ++ finish s) (ap accepted (run_append p (finish s) (some start)) ∙ rw e (finishes s)))

pub goes_on : (p : List ℕ) → Continues p → Lives p
goes_on p (q, j) = go (run p (some start)) refl
  where
    accepted_whole : accepts (p ++ q) ≡ true
    accepted_whole = (accepts_json (p ++ q)).1 j

    go : (o : Option State) → run p (some start) ≡ o → Lives p
    go none e = never (sym (dead q) ∙ ap (λ o. accepted (run q o)) (sym e) ∙ sym (ap accepted (run_append p q (some start))) ∙ accepted_whole)
    go (some s) e = (s, e)

pub lives_continues : (p : List ℕ) → Lives p ↔ Continues p
lives_continues p = (lives_on p, goes_on p)
