-- What is told of a JSON text from where the first pass halts.
--     endable    what is asked of the end of the text
--     stand      the areas begin with the names before the first other fault
--     tells      the refusal, or none
-- Assumes nothing.
use mathlib.Core.Bool.{Bool, true, false, cond}
use mathlib.Core.List.{List, [], ◌∷◌, ◌++◌}
use mathlib.Core.Logic.{◌≢◌, ◌⊎◌, inl, inr, ⊎_elim}
use mathlib.Core.Option.{none}
use mathlib.Core.Path.{◌≡◌, refl, sym, ◌∙◌, ap, subst}
use Prim.Native.Nat.{ℕ, ◌+◌, ◌*◌, ◌-◌, ◌/◌, ◌≤◌}
use native.Mathlib.Omega.{arith}
use borrow.Author.Tests.{ne_eqb}
use lib.Dec.{eqb, ltb}
use lib.ListN.{length, get_or, take, drop, length-append, take-append-drop}
use Rattle.laws.specs.Lowest.{lowest}
use Rattle.names.specs.Names.{repeats_at}
use Rattle.sheet.specs.Kinds.{number_max}
use Rattle.jsontext.specs.Text.{Text, bytes}
use Rattle.jsontext.specs.Automaton.{ended}
use Rattle.jsontext.specs.Starts.{text_starts}
use Rattle.grammar.specs.Codes.{place_at}
use Rattle.brackets.specs.Brackets.{brackets}
use Rattle.reader.specs.Faults.{first_fault}
use Rattle.survey.specs.declared.Watch.{Watch}
use Rattle.survey.specs.Watching.{moved, watching}
use Rattle.tally.proofs.Tallied.{Tallied}
use Rattle.naming.specs.Members.{Named, tagged}
use Rattle.naming.specs.Gathering.{text_from, words_from}
use Rattle.naming.proofs.Lying.{in_threes}
use Rattle.naming.proofs.Earlier.{names_before}
use Rattle.naming.proofs.Fewness.{few_names}
use Rattle.trail.proofs.Ordered.{ordered}
use Rattle.trail.proofs.Whole.{Stopped, at_fault, at_end, Seen, seen, counts}
use Rattle.room.proofs.Rooms.{text_fits, text_held, words_held}
use Rattle.scan.specs.declared.Halt.{Halt}
use Rattle.scan.specs.Scanning.{Areas}
use Rattle.laying.specs.Laying.{Countable}
use Rattle.refusing.specs.declared.Amiss.{Amiss}
use Rattle.refusing.specs.Refusing.{Ended, Endable, first_one_of, Lent, Told, faulty, fine}
use Rattle.refusing.proofs.Halting.{Whole, how_many}
use Rattle.refusing.proofs.Firsts.{Tells, amiss, none_amiss, Stand, first_is, words_long, within_text}

-- each name has two bytes at least
names_long : (ms : List Named) → 2 * length ms ≤ length (text_from ms)
unfolding text_from tagged
names_long [] = omega arith
names_long (x ∷ xs) = omega (arith, length-append (tagged x) (text_from xs), names_long xs)

module _ (json : List ℕ) (a₀ : Areas) (r : Halt) (a : Areas) (w : Whole json a₀ r a) where
  pub endable : Endable r.scan.place r.scan.opened.depth r.scan.watch
  endable =
      let c = w.carried in
      record {
        known = c.known;
        sound = c.sound;
        low = λ (z : r.scan.watch.fault ≡ 0).
            let l = (ordered c.trail).shallow (ap (λ x. x.fault) c.watch_is ∙ z) in
            omega (arith, how_many json a₀ r a r.scan.opened.bits r.scan.opened.depth);
      }

module _ (t : Text) (a₀ : Areas) (r : Halt) (a : Areas) (w : Whole (bytes t) a₀ r a) (short : length (bytes t) ≤ 65_536) (v : Watch)
    (e : Ended r.scan.place r.scan.opened.depth r.scan.watch v) where
  abbrev stop : Stopped (bytes t) r.at (place_at r.scan.place) w.carried.kept
  stop = w.stopped

  halts : Stopped (bytes t) r.at (place_at r.scan.place) w.carried.kept → (r.scan.watch.fault ≢ 0) ⊎ (ended (place_at r.scan.place) ≡ true)
  halts (at_fault bad off) = inl (λ (z : r.scan.watch.fault ≡ 0). bad (ap (λ (x : Watch). x.fault) w.carried.watch_is ∙ z))
  halts (at_end i l) = inr l

  -- the end of the text, as the first pass would read it
  last_is : watching (place_at r.scan.place) (brackets r.scan.opened) 0x20 [] w.carried.kept.watch ≡ v
  unfolding watching
  last_is =
      ap (λ (x : Watch). watching (place_at r.scan.place) (brackets r.scan.opened) 0x20 [] x) w.carried.watch_is
      ∙ ap (λ (k : ℕ). cond (eqb r.scan.watch.fault 0) (moved (place_at r.scan.place) k 0x20 1 r.scan.watch) r.scan.watch)
      (how_many (bytes t) a₀ r a r.scan.opened.bits r.scan.opened.depth)
      ∙ sym (e (halts stop))

  all_seen : Seen t v w.carried.kept.names
  all_seen =
      subst (λ (x : Watch). Seen t x w.carried.kept.names) last_is
      (seen t short r.at (place_at r.scan.place) (brackets r.scan.opened) w.carried.kept w.carried.trail stop)

  -- ---- the names

  abbrev ms : List Named
  ms = names_before t

  abbrev filled : ℕ
  filled = r.scan.gathered.filled

  abbrev size : ℕ
  size = r.scan.gathered.size

  filled_long : filled ≡ 3 * length ms
  filled_long = ap (λ n. n.filled) w.carried.names_are.numbers_are ∙ ap length all_seen.words_are ∙ words_long 0 ms

  size_long : length w.carried.kept.names.text ≤ length (bytes t) + 1
  size_long = omega (arith, text_fits w.carried.trail, w.carried.inside)

  module _ (lent : Lent (bytes t) a₀.names a₀.words) where
    words_room : length w.carried.kept.names.words ≤ length a₀.words
    words_room =
        let many : length w.carried.kept.names.words ≡ 3 * length ms = ap length all_seen.words_are ∙ words_long 0 ms in
        let long : length w.carried.kept.names.text ≡ length (text_from ms) = ap length all_seen.text_is in
        let two = names_long ms in
        let fit = size_long in
        let few = few_names t in
        ⊎_elim
        (λ (l : 3_072 ≤ length a₀.words). omega arith)
        (λ (l : 3 * length (bytes t) + 3 ≤ 2 * length a₀.words). omega arith)
        lent.words_long

    words_first : take filled a.words ≡ words_from 0 ms
    words_first =
        words_held a₀.names a₀.words a.names a.words a.objects r.scan.gathered w.carried.kept.names w.carried.names_are words_room ∙ all_seen.words_are

    names_first : take size a.names ≡ text_from ms
    names_first =
        text_held a₀.names a₀.words a.names a.words a.objects r.scan.gathered w.carried.kept.names w.carried.names_are (omega (arith, size_long, lent.names_long))
        ∙ all_seen.text_is

    pub stand : Stand t v a.words a.names filled
    stand =
        record {
          told_is = all_seen.told_is;
          words_more = drop filled a.words;
          names_more = drop size a.names;
          words_are = sym (take-append-drop filled a.words) ∙ ap (λ (l : List ℕ). l ++ drop filled a.words) words_first;
          names_are = sym (take-append-drop size a.names) ∙ ap (λ (l : List ℕ). l ++ drop size a.names) names_first;
          filled_is = omega (arith, filled_long);
        }

    pub filled_fits : filled ≤ length a.words
    unfolding stand
    filled_fits =
        let long : length a.words ≡ length (words_from 0 ms ++ drop filled a.words) = ap length stand.words_are in
        omega (arith, length-append (words_from 0 ms) (drop filled a.words), words_long 0 ms, filled_long)

    -- ---- the refusal

    abbrev found : Amiss
    found = first_one_of a.words a.names (filled / 3) v

    found_is : Tells t found
    found_is = first_is t v a.words a.names filled stand

    -- none is found where nothing was watched
    watched_none : found.number ≡ 0 → v.fault ≡ 0
    watched_none = go (ltb (lowest (repeats_at a.words a.names (in_threes (filled / 3))) (filled / 3)) (filled / 3))
      where
        go : (b : Bool) → (cond {A = Amiss} b (record { number = 25; left = get_or a.words (3 * lowest (repeats_at a.words a.names (in_threes (filled / 3))) (filled / 3) + 2) 0 }) (record { number = v.fault; left = v.left })).number ≡ 0
            → v.fault ≡ 0
        go true z = absurd (omega arith)
        go false z = z

    countable : first_fault 0 (text_starts number_max t) ≡ none → v.fault ≡ 0 → Stopped (bytes t) r.at (place_at r.scan.place) w.carried.kept → Countable (bytes t) a.values a.texts
    countable clean z (at_fault bad off) =
        let same : v ≡ r.scan.watch = e (halts (at_fault bad off)) ∙ still in
        absurd (bad (ap (λ (x : Watch). x.fault) w.carried.watch_is ∙ sym (ap (λ (x : Watch). x.fault) same) ∙ z))
      where
        still : cond (eqb r.scan.watch.fault 0) (moved (place_at r.scan.place) r.scan.opened.depth 0x20 1 r.scan.watch) r.scan.watch ≡ r.scan.watch
        still = rw (ne_eqb r.scan.watch.fault 0 (λ (y : r.scan.watch.fault ≡ 0). bad (ap (λ (x : Watch). x.fault) w.carried.watch_is ∙ y)))
    countable clean z (at_end i l) =
        record {
          of = t;
          spelled = refl;
          clean = clean;
          units = r.scan.units;
          counted =
              subst (Tallied t) w.carried.tally_is
              (counts t short r.at (place_at r.scan.place) (brackets r.scan.opened) w.carried.kept w.carried.trail i l);
        }

    pub left_low : found.left ≤ length (bytes t) ⊎ (found.number ≡ 0)
    left_low = go found_is
      where
        go : Tells t found → (found.left ≤ length (bytes t)) ⊎ (found.number ≡ 0)
        go (amiss f q n l) = inl (let k = (within_text t f q).1 in omega arith)
        go (none_amiss q n) = inr n

    pub tells_none : found.number ≡ 0 → Told (bytes t) 0 0 a.values a.texts
    tells_none z = go found_is
      where
        go : Tells t found → Told (bytes t) 0 0 a.values a.texts
        go (amiss f q n l) = absurd ((within_text t f q).0 (sym n ∙ z))
        go (none_amiss q n) = fine refl (countable q (watched_none z) stop)

    pub tells_some : found.number ≢ 0 → Told (bytes t) found.number (length (bytes t) - found.left) a.values a.texts
    tells_some z = go found_is
      where
        go : Tells t found → Told (bytes t) found.number (length (bytes t) - found.left) a.values a.texts
        go (amiss f q n l) = faulty t f refl q n z (ap (λ (x : ℕ). length (bytes t) - x) l)
        go (none_amiss q n) = absurd (z n)
