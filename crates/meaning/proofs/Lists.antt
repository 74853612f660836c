-- What holds of every member of a list.
--     Every, every_map                              the notion, and a weaker one
--     every_in, in_every                            the same by membership
--     every_append, every_left, every_right         two lists
--     every_image, every_keep, every_drop, every_concat     of the list functions of the rules
-- Assumes nothing.
use mathlib.Core.Bool.{Bool, true, false, cond}
use mathlib.Core.List.Memᴰ
use mathlib.Core.List.Memᴰ.{head as at_head}
use mathlib.Core.List.Memᴰ.{tail as in_Tail}
use mathlib.Core.List.{List, [], ◌∷◌, ◌++◌, map, Memᴰ as In}
use mathlib.Core.Logic.{⊎_elim}
use mathlib.Core.Path.{◌≡◌, refl, sym, subst}
use Prim.Native.Nat.{ℕ, zero, suc}
use lib.ListN.{drop}
use Rattle.meaning.specs.Lists.{keep, concat_map}

pub data Every {A : Type 0} (P : A → Type 0) : List A → Type 0 where
  every_nil : Every P []
  every_cons : {x : A} {xs : List A} → P x → Every P xs → Every P (x ∷ xs)

pub every_map : {A : Type 0} {P Q : A → Type 0} {xs : List A} → ((x : A) → P x → Q x) → Every P xs → Every Q xs
every_map f every_nil = every_nil
every_map f (every_cons {x = x} h hs) = every_cons (f x h) (every_map f hs)

pub every_in : {A : Type 0} (P : A → Type 0) (xs : List A) → ((x : A) → In x xs → P x) → Every P xs
every_in P [] h = every_nil
every_in P (x ∷ xs) h = every_cons (h x (at_head refl)) (every_in P xs (λ y i. h y (in_Tail i)))

pub in_every : {A : Type 0} {P : A → Type 0} {x : A} {xs : List A} → Every P xs → In x xs → P x
in_every {P = P} (every_cons {x = y} h hs) i = ⊎_elim (λ e. subst P (sym e) h) (λ j. in_every hs j) (Memᴰ.cases_cons i)
in_every every_nil i = elim i [ ]

pub every_append : {A : Type 0} {P : A → Type 0} {xs ys : List A} → Every P xs → Every P ys → Every P (xs ++ ys)
every_append every_nil k = k
every_append (every_cons h hs) k = every_cons h (every_append hs k)

pub every_left : {A : Type 0} {P : A → Type 0} (xs ys : List A) → Every P (xs ++ ys) → Every P xs
every_left [] ys h = every_nil
every_left (x ∷ xs) ys (every_cons h hs) = every_cons h (every_left xs ys hs)

pub every_right : {A : Type 0} {P : A → Type 0} (xs ys : List A) → Every P (xs ++ ys) → Every P ys
every_right [] ys h = h
every_right (x ∷ xs) ys (every_cons h hs) = every_right xs ys hs

pub every_image : {A B : Type 0} {P : A → Type 0} {Q : B → Type 0} {xs : List A} (f : A → B) → ((x : A) → P x → Q (f x)) → Every P xs → Every Q (map f xs)
every_image f g every_nil = every_nil
every_image f g (every_cons {x = x} h hs) = every_cons (g x h) (every_image f g hs)

pick : {A : Type 0} {P : A → Type 0} {xs : List A} (b : Bool) (x : A) → P x → Every P xs → Every P (cond b (x ∷ xs) xs)
pick true x h hs = every_cons h hs
pick false x h hs = hs

pub every_keep : {P : ℕ → Type 0} {xs : List ℕ} (t : ℕ → Bool) → Every P xs → Every P (keep t xs)
unfolding keep
every_keep t every_nil = every_nil
every_keep t (every_cons {x = x} h hs) = pick (t x) x h (every_keep t hs)

pub every_drop : {A : Type 0} {P : A → Type 0} {xs : List A} (n : ℕ) → Every P xs → Every P (drop n xs)
every_drop zero h = h
every_drop (suc n) every_nil = every_nil
every_drop (suc n) (every_cons h hs) = every_drop n hs

pub every_concat : {A B : Type 0} (P : B → Type 0) (f : A → List B) (xs : List A) → ((x : A) → In x xs → Every P (f x)) → Every P (concat_map f xs)
unfolding concat_map
every_concat P f [] g = every_nil
every_concat P f (x ∷ xs) g = every_append (g x (at_head refl)) (every_concat P f xs (λ y i. g y (in_Tail i)))

-- ---- what a test picks

pub by_test : {A : Type 0} (P : A → Type 0) (b : Bool) (x y : A) → (b ≡ true → P x) → (b ≡ false → P y) → P (cond b x y)
by_test P true x y f g = f refl
by_test P false x y f g = g refl
