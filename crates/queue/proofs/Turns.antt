-- The loop over the records: what is left to judge gives what the whole gives.
--     going_begun, going_on, going_end     the loop's start, one record, its end
-- Assumes nothing.
use mathlib.Core.List.{List, [], ◌∷◌, ◌++◌, append_assoc, append-nil}
use mathlib.Core.Path.{◌≡◌, refl, sym, ap, ◌∙◌}
use Prim.Native.Nat.{ℕ, suc, ◌+◌, ◌-◌, ◌≤◌, ◌<◌}
use native.Mathlib.Nat.{sub-zero}
use native.Mathlib.Numerals.{add-one}
use native.Mathlib.Omega.{arith}
use lib.ListN.{length, take, drop, set, length-set, take-append-drop}
use lib.Seq.{take-suc-set, drop-set-lt}
use Rattle.text.specs.Part.{part}
use Rattle.meaning.specs.Lists.{range}
use Rattle.meaning.specs.Rules.{whole}
use Rattle.meaning.specs.Answer as A
use Rattle.meaning.specs.Answer.{number_for_c, judge}
use Rattle.number.specs.Called.{Called}
use Rattle.listing.specs.Listing.{records_in, words_at, text_at}
use Rattle.queue.specs.Queue.{Judged, one_by_one}
use Rattle.queue.specs.Parts.{AllJudged}

module _ (ws bs listing rs us : List ℕ) where
  -- the records from i on, up to `many`
  abbrev rest : ℕ → ℕ → List ℕ → List ℕ → Judged
  rest many i cs ls = one_by_one ws bs listing rs us (range i (many - i)) cs ls

  -- record i, called with these areas
  abbrev one : ℕ → List ℕ → List ℕ → A.Left
  one i cs ls = judge whole (part ws (words_at listing i)) (part bs (text_at listing i)) rs us cs ls

  next : (many i : ℕ) → i < many → (cs ls : List ℕ) → Judged
  next many i h cs ls =
      let later = rest many (i + 1) (one i cs ls).cells (one i cs ls).list in
      record { numbers = number_for_c (one i cs ls).answer ∷ later.numbers; cells = later.cells; list = later.list }

  rest_next : (many i : ℕ) (h : i < many) (cs ls : List ℕ) → rest many i cs ls ≡ next many i h cs ls
  unfolding one_by_one range next
  rest_next many i h cs ls = let e : many - i ≡ suc (many - (i + 1)) = omega arith in rw (e, ← add-one i)

-- before record i: what is left to judge, from the areas as they are, gives what the whole gives from those at entry
pub record Going (ws bs listing rs us cells₀ list₀ answers₀ : List ℕ) (many : ℕ) (cells list answers : List ℕ) (i : ℕ) : Type 0 where
  pub within : i ≤ many
  pub cells_on : (rest ws bs listing rs us many i cells list).cells ≡ (one_by_one ws bs listing rs us (range 0 many) cells₀ list₀).cells
  pub list_on : (rest ws bs listing rs us many i cells list).list ≡ (one_by_one ws bs listing rs us (range 0 many) cells₀ list₀).list
  pub numbers_on : take i answers ++ (rest ws bs listing rs us many i cells list).numbers ≡ (one_by_one ws bs listing rs us (range 0 many) cells₀ list₀).numbers
  pub behind : drop many answers ≡ drop many answers₀
  pub long : length answers ≡ length answers₀

module _ (ws bs listing rs us cells₀ list₀ answers₀ : List ℕ) (many : ℕ) where
  pub going_begun : Going ws bs listing rs us cells₀ list₀ answers₀ many cells₀ list₀ answers₀ 0
  going_begun =
      record {
        within = omega arith;
        cells_on = rw sub-zero;
        list_on = rw sub-zero;
        numbers_on = rw sub-zero;
        behind = refl;
        long = refl;
      }

  module _ {cells list answers : List ℕ} {i : ℕ} (g : Going ws bs listing rs us cells₀ list₀ answers₀ many cells list answers i) where
    pub going_on : {cells' list' : List ℕ} {r : ℕ} → i < many → i < length answers
        → Called whole (part ws (words_at listing i)) (part bs (text_at listing i)) rs us cells list cells' list' r
        → Going ws bs listing rs us cells₀ list₀ answers₀ many cells' list' (set answers i r) (i + 1)
    unfolding next
    going_on {r = r} h l c =
        let e = rest_next ws bs listing rs us many i h cells list in
        let more : take (i + 1) (set answers i r) ≡ take i answers ++ (r ∷ []) = rw add-one (take-suc-set answers i r l) in
        record {
          within = omega arith;
          cells_on = rw (c.cells_are, c.list_is) (sym (ap (λ (x : Judged). x.cells) e) ∙ g.cells_on);
          list_on = rw (c.cells_are, c.list_is) (sym (ap (λ (x : Judged). x.list) e) ∙ g.list_on);
          numbers_on =
              rw (more, append_assoc, c.number_is, c.cells_are, c.list_is)
              (sym (ap (λ (x : Judged). take i answers ++ x.numbers) e) ∙ g.numbers_on);
          behind = rw (drop-set-lt many answers i r h) g.behind;
          long = rw length-set g.long;
        }

    pub going_end : many ≤ i → many ≡ records_in listing → AllJudged ws bs listing rs us cells₀ list₀ answers₀ cells list answers
    unfolding one_by_one range
    going_end h e =
        let same : i ≡ many = omega arith in
        let none : many - i ≡ 0 = omega arith in
        let all = one_by_one ws bs listing rs us (range 0 many) cells₀ list₀ in
        let numbers : take many answers ≡ all.numbers = ap (λ (k : ℕ). take k answers) (sym same) ∙ sym (append-nil (take i answers)) ∙ (rw none at g.numbers_on) in
        record {
          cells_are = rw (← e) (rw none at g.cells_on);
          list_is = rw (← e) (rw none at g.list_on);
          answers_are =
              rw (← e)
              (sym (take-append-drop many answers) ∙ ap (λ (x : List ℕ). x ++ drop many answers) numbers ∙ ap (λ (x : List ℕ). all.numbers ++ x) g.behind);
        }
