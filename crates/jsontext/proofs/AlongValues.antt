-- Going along values and texts: what is left after a tree is what the tree does (`Doing`), and the bytes behind it.
--     value_along      a value, where one may start and what follows it may follow
--     text_along       the theorem
-- Assumes nothing.
use mathlib.Core.List.{List, [], ◌∷◌}
use mathlib.Core.Option.{some}
use mathlib.Core.Path.{◌≡◌, refl, ◌∙◌, ap}
use Prim.Native.Nat.{ℕ}
use native.Mathlib.Omega.{arith}
use Rattle.jsontext.specs.Text.{Blank, space, spaces, Str, pieces, Value, null, truth, falsity, num, str, empty_array, array, empty_object, object, Elements, last, more, Members, last_m, more_m, value, elements, members, Text, bytes}
use Rattle.jsontext.specs.Automaton.{Bracket, square, curly, Role, as_value, as_name, Word, n1, n2, n3, t1, t2, t3, f1, f2, f3, f4, Place, ahead, first_element, after, name, first_name, colon, word, text, at, closed, pick, step, start}
use Rattle.jsontext.specs.Along.{Act, along}
use Rattle.jsontext.proofs.Values.{Namer, at_ahead, at_first, at_name, at_first_name}
use Rattle.jsontext.proofs.Doing.{waits_ahead, waits_first, waits_after, waits_name, waits_first_name, waits_colon, Orderly, number_does, pieces_do, string_does, value_does, elements_do, members_do, text_does}
use Rattle.jsontext.proofs.AlongParts.{Follows, follows_spaces, follows_comma, follows_square, follows_curly, byte, spaces_along, Opening, opening, number_along, pieces_along}

module _ {S : Type 0} (act : Act S) (finish : List Bracket → S → S) (ok : Orderly act finish) where
  abbrev going : Place → List Bracket → List ℕ → S → S
  going p ks bs s = along act bs (some (at p ks)) s

  opens_ahead : (ks : List Bracket) → Opening act finish ok ahead ks
  opens_ahead ks = record { starter = at_ahead ks; alike = λ b bs s h. refl }

  opens_first : (ks : List Bracket) → Opening act finish ok first_element ks
  opens_first ks = record { starter = at_first ks; alike = λ b bs s h. ok.firsts ks b bs s h }

  -- a letter of a word
  spells : (w : Word) (p : Place) (ks : List Bracket) (b : ℕ) (bs : List ℕ) (s : S) → step (at (word w) ks) b ≡ some (at p ks) → going (word w) ks (b ∷ bs) s ≡ going p ks bs s
  spells w p ks b bs s e = byte act finish ok (word w) ks (at p ks) b bs s e ∙ ap (going p ks bs) (ok.words w ks b bs s)

  null_along : (ks : List Bracket) (bs : List ℕ) (s : S) → going (word n1) ks (0x75 ∷ 0x6C ∷ 0x6C ∷ bs) s ≡ going after ks bs s
  unfolding step pick
  null_along ks bs s = spells n1 (word n2) ks 0x75 (0x6C ∷ 0x6C ∷ bs) s refl ∙ spells n2 (word n3) ks 0x6C (0x6C ∷ bs) s refl ∙ spells n3 after ks 0x6C bs s refl

  truth_along : (ks : List Bracket) (bs : List ℕ) (s : S) → going (word t1) ks (0x72 ∷ 0x75 ∷ 0x65 ∷ bs) s ≡ going after ks bs s
  unfolding step pick
  truth_along ks bs s = spells t1 (word t2) ks 0x72 (0x75 ∷ 0x65 ∷ bs) s refl ∙ spells t2 (word t3) ks 0x75 (0x65 ∷ bs) s refl ∙ spells t3 after ks 0x65 bs s refl

  falsity_along : (ks : List Bracket) (bs : List ℕ) (s : S) → going (word f1) ks (0x61 ∷ 0x6C ∷ 0x73 ∷ 0x65 ∷ bs) s ≡ going after ks bs s
  unfolding step pick
  falsity_along ks bs s =
      spells f1 (word f2) ks 0x61 (0x6C ∷ 0x73 ∷ 0x65 ∷ bs) s refl
      ∙ spells f2 (word f3) ks 0x6C (0x73 ∷ 0x65 ∷ bs) s refl
      ∙ spells f3 (word f4) ks 0x73 (0x65 ∷ bs) s refl
      ∙ spells f4 after ks 0x65 bs s refl

  -- behind the opening quote
  string_along : (r : Role) (ks : List Bracket) (x : Str) (bs : List ℕ) (s : S) → going (text r) ks (pieces x (0x22 ∷ bs)) s ≡ going (closed r) ks bs (string_does act finish r ks x bs s)
  unfolding step pick
  string_along r ks x bs s =
      pieces_along act finish ok r ks x (0x22 ∷ bs) s
      ∙ byte act finish ok (text r) ks (at (closed r) ks) 0x22 bs (pieces_do act finish r ks x (0x22 ∷ bs) s) refl

  -- a closing bracket
  shut_square : (ks : List Bracket) (bs : List ℕ) (s : S) → going after (square ∷ ks) (0x5D ∷ bs) s ≡ going after ks bs (act after (square ∷ ks) 0x5D bs s)
  unfolding step pick
  shut_square ks bs s = byte act finish ok after (square ∷ ks) (at after ks) 0x5D bs s refl

  shut_curly : (ks : List Bracket) (bs : List ℕ) (s : S) → going after (curly ∷ ks) (0x7D ∷ bs) s ≡ going after ks bs (act after (curly ∷ ks) 0x7D bs s)
  unfolding step pick
  shut_curly ks bs s = byte act finish ok after (curly ∷ ks) (at after ks) 0x7D bs s refl

  shut_empty : (ks : List Bracket) (bs : List ℕ) (s : S) → going first_element (square ∷ ks) (0x5D ∷ bs) s ≡ going after ks bs (act after (square ∷ ks) 0x5D bs s)
  unfolding step pick
  shut_empty ks bs s = byte act finish ok first_element (square ∷ ks) (at after ks) 0x5D bs s refl ∙ ap (going after ks bs) (ok.empty_arrays (square ∷ ks) bs s)

  shut_nameless : (ks : List Bracket) (bs : List ℕ) (s : S) → going first_name (curly ∷ ks) (0x7D ∷ bs) s ≡ going after ks bs (act after (curly ∷ ks) 0x7D bs s)
  unfolding step pick
  shut_nameless ks bs s = byte act finish ok first_name (curly ∷ ks) (at after ks) 0x7D bs s refl ∙ ap (going after ks bs) (ok.empty_objects (curly ∷ ks) bs s)

  -- a comma and the white space around it
  comma_square : (ks : List Bracket) (w w' : List Blank) (bs : List ℕ) (s : S) → going after (square ∷ ks) (spaces w (0x2C ∷ spaces w' bs)) s ≡ going ahead (square ∷ ks) bs s
  unfolding step pick
  comma_square ks w w' bs s =
      spaces_along act finish ok waits_after (square ∷ ks) w (0x2C ∷ spaces w' bs) s
      ∙ byte act finish ok after (square ∷ ks) (at ahead (square ∷ ks)) 0x2C (spaces w' bs) s refl
      ∙ ap (going ahead (square ∷ ks) (spaces w' bs)) (ok.commas (square ∷ ks) (spaces w' bs) s)
      ∙ spaces_along act finish ok waits_ahead (square ∷ ks) w' bs s

  comma_curly : (ks : List Bracket) (w w' : List Blank) (bs : List ℕ) (s : S) → going after (curly ∷ ks) (spaces w (0x2C ∷ spaces w' bs)) s ≡ going name (curly ∷ ks) bs s
  unfolding step pick
  comma_curly ks w w' bs s =
      spaces_along act finish ok waits_after (curly ∷ ks) w (0x2C ∷ spaces w' bs) s
      ∙ byte act finish ok after (curly ∷ ks) (at name (curly ∷ ks)) 0x2C (spaces w' bs) s refl
      ∙ ap (going name (curly ∷ ks) (spaces w' bs)) (ok.commas (curly ∷ ks) (spaces w' bs) s)
      ∙ spaces_along act finish ok waits_name (curly ∷ ks) w' bs s

  -- a colon and the white space around it
  colon_along : (ks : List Bracket) (w w' : List Blank) (bs : List ℕ) (s : S) → going colon ks (spaces w (0x3A ∷ spaces w' bs)) s ≡ going ahead ks bs s
  unfolding step pick
  colon_along ks w w' bs s =
      spaces_along act finish ok waits_colon ks w (0x3A ∷ spaces w' bs) s
      ∙ byte act finish ok colon ks (at ahead ks) 0x3A (spaces w' bs) s refl
      ∙ ap (going ahead ks (spaces w' bs)) (ok.colons ks (spaces w' bs) s)
      ∙ spaces_along act finish ok waits_ahead ks w' bs s

  -- a place at which a name may start is to the act as any other
  record Naming (p : Place) (ks : List Bracket) : Type 0 where
    namer : Namer p ks
    alike : (bs : List ℕ) (s : S) → act p ks 0x22 bs s ≡ act name ks 0x22 bs s

  -- a name, the colon and the white space around it
  name_along : {p : Place} {ks : List Bracket} → Naming p ks → (x : Str) (w w' : List Blank) (bs : List ℕ) (s : S)
      → going p ks (0x22 ∷ pieces x (0x22 ∷ spaces w (0x3A ∷ spaces w' bs))) s
      ≡ going ahead ks bs (string_does act finish as_name ks x (spaces w (0x3A ∷ spaces w' bs)) (act name ks 0x22 (pieces x (0x22 ∷ spaces w (0x3A ∷ spaces w' bs))) s))
  name_along {p} {ks} c x w w' bs s =
      let end : List ℕ = spaces w (0x3A ∷ spaces w' bs) in
      let rest : List ℕ = pieces x (0x22 ∷ end) in
      let s' : S = act name ks 0x22 rest s in
      byte act finish ok p ks (at (text as_name) ks) 0x22 rest s c.namer.1
      ∙ ap (going (text as_name) ks rest) (c.alike rest s)
      ∙ string_along as_name ks x end s'
      ∙ colon_along ks w w' bs (string_does act finish as_name ks x end s')

  mutual
    unfolding value value_does

    pub value_along : (v : Value) {p : Place} {ks : List Bracket} → Opening act finish ok p ks → (bs : List ℕ) (s : S) → Follows ks bs
        → going p ks (value v bs) s ≡ going after ks bs (value_does act finish ks v bs s)
    value_along null {p} {ks} o bs s f =
        let rest : List ℕ = 0x75 ∷ 0x6C ∷ 0x6C ∷ bs in
        opening act finish ok o (at (word n1) ks) 0x6E rest s (λ e. omega arith) o.starter.n.1 ∙ null_along ks bs (act ahead ks 0x6E rest s)
    value_along truth {p} {ks} o bs s f =
        let rest : List ℕ = 0x72 ∷ 0x75 ∷ 0x65 ∷ bs in
        opening act finish ok o (at (word t1) ks) 0x74 rest s (λ e. omega arith) o.starter.t.1 ∙ truth_along ks bs (act ahead ks 0x74 rest s)
    value_along falsity {p} {ks} o bs s f =
        let rest : List ℕ = 0x61 ∷ 0x6C ∷ 0x73 ∷ 0x65 ∷ bs in
        opening act finish ok o (at (word f1) ks) 0x66 rest s (λ e. omega arith) o.starter.f.1 ∙ falsity_along ks bs (act ahead ks 0x66 rest s)
    value_along (num n) o bs s f = number_along act finish ok o n bs s f
    value_along (str x) {p} {ks} o bs s f =
        let rest : List ℕ = pieces x (0x22 ∷ bs) in
        opening act finish ok o (at (text as_value) ks) 0x22 rest s (λ e. omega arith) o.starter.quote.1 ∙ string_along as_value ks x bs (act ahead ks 0x22 rest s)
    value_along (empty_array w) {p} {ks} o bs s f =
        let rest : List ℕ = spaces w (0x5D ∷ bs) in
        let s' : S = act ahead ks 0x5B rest s in
        opening act finish ok o (at first_element (square ∷ ks)) 0x5B rest s (λ e. omega arith) o.starter.left_square.1
        ∙ spaces_along act finish ok waits_first (square ∷ ks) w (0x5D ∷ bs) s'
        ∙ shut_empty ks bs s'
    value_along (array w vs) {p} {ks} o bs s f =
        let rest : List ℕ = spaces w (elements vs (0x5D ∷ bs)) in
        let s' : S = act ahead ks 0x5B rest s in
        opening act finish ok o (at first_element (square ∷ ks)) 0x5B rest s (λ e. omega arith) o.starter.left_square.1
        ∙ spaces_along act finish ok waits_first (square ∷ ks) w (elements vs (0x5D ∷ bs)) s'
        ∙ elements_along vs (opens_first (square ∷ ks)) bs s'
    value_along (empty_object w) {p} {ks} o bs s f =
        let rest : List ℕ = spaces w (0x7D ∷ bs) in
        let s' : S = act ahead ks 0x7B rest s in
        opening act finish ok o (at first_name (curly ∷ ks)) 0x7B rest s (λ e. omega arith) o.starter.left_curly.1
        ∙ spaces_along act finish ok waits_first_name (curly ∷ ks) w (0x7D ∷ bs) s'
        ∙ shut_nameless ks bs s'
    value_along (object w ms) {p} {ks} o bs s f =
        let rest : List ℕ = spaces w (members ms (0x7D ∷ bs)) in
        let s' : S = act ahead ks 0x7B rest s in
        opening act finish ok o (at first_name (curly ∷ ks)) 0x7B rest s (λ e. omega arith) o.starter.left_curly.1
        ∙ spaces_along act finish ok waits_first_name (curly ∷ ks) w (members ms (0x7D ∷ bs)) s'
        ∙ members_along ms (record { namer = at_first_name (curly ∷ ks); alike = ok.first_names (curly ∷ ks) }) bs s'

    -- the elements of an array and its closing bracket
    elements_along : (vs : Elements) {p : Place} {ks : List Bracket} → Opening act finish ok p (square ∷ ks) → (bs : List ℕ) (s : S)
        → going p (square ∷ ks) (elements vs (0x5D ∷ bs)) s ≡ going after ks bs (act after (square ∷ ks) 0x5D bs (elements_do act finish (square ∷ ks) vs (0x5D ∷ bs) s))
    elements_along (last v w) {p} {ks} o bs s =
        let s' : S = value_does act finish (square ∷ ks) v (spaces w (0x5D ∷ bs)) s in
        value_along v o (spaces w (0x5D ∷ bs)) s (follows_spaces (square ∷ ks) w (0x5D ∷ bs) (follows_square ks bs))
        ∙ spaces_along act finish ok waits_after (square ∷ ks) w (0x5D ∷ bs) s'
        ∙ shut_square ks bs s'
    elements_along (more v w w' vs) {p} {ks} o bs s =
        let rest : List ℕ = elements vs (0x5D ∷ bs) in
        let s' : S = value_does act finish (square ∷ ks) v (spaces w (0x2C ∷ spaces w' rest)) s in
        value_along v o (spaces w (0x2C ∷ spaces w' rest)) s (follows_spaces (square ∷ ks) w (0x2C ∷ spaces w' rest) (follows_comma square ks (spaces w' rest)))
        ∙ comma_square ks w w' rest s'
        ∙ elements_along vs (opens_ahead (square ∷ ks)) bs s'

    -- the members of an object and its closing bracket
    members_along : (ms : Members) {p : Place} {ks : List Bracket} → Naming p (curly ∷ ks) → (bs : List ℕ) (s : S)
        → going p (curly ∷ ks) (members ms (0x7D ∷ bs)) s ≡ going after ks bs (act after (curly ∷ ks) 0x7D bs (members_do act finish (curly ∷ ks) ms (0x7D ∷ bs) s))
    members_along (last_m x w w' v w'') {p} {ks} c bs s =
        let next : List ℕ = spaces w'' (0x7D ∷ bs) in
        let end : List ℕ = spaces w (0x3A ∷ spaces w' (value v next)) in
        let s' : S = string_does act finish as_name (curly ∷ ks) x end (act name (curly ∷ ks) 0x22 (pieces x (0x22 ∷ end)) s) in
        let s'' : S = value_does act finish (curly ∷ ks) v next s' in
        name_along c x w w' (value v next) s
        ∙ value_along v (opens_ahead (curly ∷ ks)) next s' (follows_spaces (curly ∷ ks) w'' (0x7D ∷ bs) (follows_curly ks bs))
        ∙ spaces_along act finish ok waits_after (curly ∷ ks) w'' (0x7D ∷ bs) s''
        ∙ shut_curly ks bs s''
    members_along (more_m x w w' v w'' w''' ms) {p} {ks} c bs s =
        let rest : List ℕ = members ms (0x7D ∷ bs) in
        let next : List ℕ = spaces w'' (0x2C ∷ spaces w''' rest) in
        let end : List ℕ = spaces w (0x3A ∷ spaces w' (value v next)) in
        let s' : S = string_does act finish as_name (curly ∷ ks) x end (act name (curly ∷ ks) 0x22 (pieces x (0x22 ∷ end)) s) in
        let s'' : S = value_does act finish (curly ∷ ks) v next s' in
        name_along c x w w' (value v next) s
        ∙ value_along v (opens_ahead (curly ∷ ks)) next s' (follows_spaces (curly ∷ ks) w'' (0x2C ∷ spaces w''' rest) (follows_comma curly ks (spaces w''' rest)))
        ∙ comma_curly ks w'' w''' rest s''
        ∙ members_along ms (record { namer = at_name (curly ∷ ks); alike = λ bs s. refl }) bs s''

  -- along a whole text, what is kept is what the text does
  pub text_along : (t : Text) (s : S) → along act (bytes t) (some start) s ≡ text_does act finish t s
  unfolding bytes along
  text_along t s =
      let end : List ℕ = spaces t.behind [] in
      spaces_along act finish ok waits_ahead [] t.before (value t.root end) s
      ∙ value_along t.root (opens_ahead []) end s (follows_spaces [] t.behind [] tt)
      ∙ spaces_along act finish ok waits_after [] t.behind [] (text_does act finish t s)
      ∙ ok.blanks waits_after [] space [] (text_does act finish t s)
