-- An operation on each element of one list with each of another.
use Rattle.std.proofs.Common.{◌≡◌, refl, sym, subst, List, [], ◌∷◌, ◌++◌, map, ◌⊎◌, inl, inr}
use Rattle.comparing.specs.Order.{In, Ascending}
use Rattle.comparing.proofs.Members.{in-joined, in_left, in_right, in-mapped, mapped_in, ascending-joined, ascending-mapped}

module _ {A B C : Type 0} (op : A → B → C) where
  abbrev pub pairs : List A → List B → List C
  pairs [] ys = []
  pairs (x ∷ xs) ys = map (op x) ys ++ pairs xs ys

  -- what is in it
  pub in_pairs : (xs : List A) (ys : List B) (z : C) → In z (pairs xs ys) → (x : A) × (y : B) × In x xs × In y ys × (z ≡ op x y)
  in_pairs [] ys z i = elim i [ ]
  in_pairs (x ∷ xs) ys z i = by (in-joined z (map (op x) ys) (pairs xs ys) i) (in_pairs xs ys z)
    where
      by : In z (map (op x) ys) ⊎ In z (pairs xs ys) → (In z (pairs xs ys) → (w : A) × (y : B) × In w xs × In y ys × (z ≡ op w y))
          → (w : A) × (y : B) × In w (x ∷ xs) × In y ys × (z ≡ op w y)
      by (inl j) more = let (y, k, e) = in-mapped (op x) z ys j in (x, y, inl refl, k, e)
      by (inr j) more = let (w, y, k, l, e) = more j in (w, y, inr k, l, e)

  pub pairs-in : (xs : List A) (ys : List B) (x : A) (y : B) → In x xs → In y ys → In (op x y) (pairs xs ys)
  pairs-in [] ys x y x4 j = elim x4 [ ]
  pairs-in (w ∷ xs) ys x y (inl e) j =
      in_left (op x y) (map (op w) ys) (pairs xs ys) (subst (λ (v : A). In (op v y) (map (op w) ys)) (sym e) (mapped_in (op w) y ys j))
  pairs-in (w ∷ xs) ys x y (inr i) j = in_right (op x y) (map (op w) ys) (pairs xs ys) (pairs-in xs ys x y i j)

  -- in the order of the first list, then of the second
  pub pairs-ascending : (P : A → A → Type 0) (Q : B → B → Type 0) (S : C → C → Type 0) (ys : List B)
      → ((v w : A) (y z : B) → P v w → In y ys → In z ys → S (op v y) (op w z)) → ((v : A) (y z : B) → Q y z → S (op v y) (op v z))
      → (xs : List A) → Ascending P xs → Ascending Q ys → Ascending S (pairs xs ys)
  pairs-ascending P Q S ys far near [] up also = tt
  pairs-ascending P Q S ys far near (x ∷ xs) up also =
      ascending-joined S (map (op x) ys) (pairs xs ys)
      (ascending-mapped (op x) Q S (near x) ys also)
      (pairs-ascending P Q S ys far near xs up.1 also)
      across
    where
      across : (c d : C) → In c (map (op x) ys) → In d (pairs xs ys) → S c d
      across c d i j =
          let (y, k, e) = in-mapped (op x) c ys i in
          let (w, z, l, m, f) = in_pairs xs ys d j in
          rw (e, f) (far x w y z (up.0 w l) k m)
