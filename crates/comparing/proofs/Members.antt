-- Members and order of lists that are joined, mapped and filtered.
use Rattle.std.proofs.Common.{ℕ, zero, suc, ◌<◌, ◌≡◌, refl, sym, ◌∙◌, ap, ap₂, subst, Bool, true, false, true≢false, ◌||◌, List, [], ◌∷◌, ◌++◌, map, ◌⊎◌, inl, inr, not-suc-le-zero, le_of_suc-le-suc, length, get_or}
use Rattle.stored.specs.Choice.{pick, some}
use Rattle.comparing.specs.Order.{In, Ascending}
use Rattle.comparing.specs.Machinery.Product.{keep}

module _ {A : Type 0} where
  -- joined lists
  pub in-joined : (x : A) (l m : List A) → In x (l ++ m) → In x l ⊎ In x m
  in-joined x [] m i = inr i
  in-joined x (y ∷ l) m (inl e) = inl (inl e)
  in-joined x (y ∷ l) m (inr i) = by (in-joined x l m i)
    where
      by : In x l ⊎ In x m → ((x ≡ y) ⊎ In x l) ⊎ In x m
      by (inl j) = inl (inr j)
      by (inr j) = inr j

  pub in_left : (x : A) (l m : List A) → In x l → In x (l ++ m)
  in_left x [] m x'' = elim x'' [ ]
  in_left x (y ∷ l) m (inl e) = inl e
  in_left x (y ∷ l) m (inr i) = inr (in_left x l m i)

  pub in_right : (x : A) (l m : List A) → In x m → In x (l ++ m)
  in_right x [] m i = i
  in_right x (y ∷ l) m i = inr (in_right x l m i)

  pub ascending-joined : (P : A → A → Type 0) (l m : List A) → Ascending P l → Ascending P m
      → ((x y : A) → In x l → In y m → P x y) → Ascending P (l ++ m)
  ascending-joined P [] m a b h = b
  ascending-joined P (x ∷ l) m a b h =
      (λ y i. by y (in-joined y l m i), ascending-joined P l m a.1 b (λ y z i j. h y z (inr i) j))
    where
      by : (y : A) → In y l ⊎ In y m → P x y
      by y (inl i) = a.0 y i
      by y (inr i) = h x y (inl refl) i

  -- by index
  pub in-at : (l : List A) (i : ℕ) (d : A) → i < length l → In (get_or l i d) l
  in-at [] i d h = absurd (not-suc-le-zero h)
  in-at (x ∷ l) zero d h = inl refl
  in-at (x ∷ l) (suc i) d h = inr (in-at l i d (le_of_suc-le-suc h))

  pub ascending-at : (P : A → A → Type 0) (l : List A) (d : A) → Ascending P l
      → (i j : ℕ) → i < j → j < length l → P (get_or l i d) (get_or l j d)
  ascending-at P [] d a i j up low = absurd (not-suc-le-zero low)
  ascending-at P (x ∷ l) d a i zero up low = absurd (not-suc-le-zero up)
  ascending-at P (x ∷ l) d a zero (suc j) up low = a.0 (get_or l j d) (in-at l j d (le_of_suc-le-suc low))
  ascending-at P (x ∷ l) d a (suc i) (suc j) up low = ascending-at P l d a.1 i j (le_of_suc-le-suc up) (le_of_suc-le-suc low)

  -- filtered lists
  pub in_kept : (test : A → Bool) (x : A) (l : List A) → In x (keep test l) → In x l × (test x ≡ true)
  in_kept test x [] i = elim i [ ]
  in_kept test x (y ∷ l) i = by (test y) refl (in_kept test x l) i
    where
      by : (t : Bool) → test y ≡ t → (In x (keep test l) → In x l × (test x ≡ true))
          → In x (pick t (y ∷ keep test l) (keep test l)) → ((x ≡ y) ⊎ In x l) × (test x ≡ true)
      by true e more (inl f) = (inl f, ap test f ∙ e)
      by true e more (inr j) = (inr (more j).0, (more j).1)
      by false e more j = (inr (more j).0, (more j).1)

  pub kept_in : (test : A → Bool) (x : A) (l : List A) → In x l → test x ≡ true → In x (keep test l)
  kept_in test x [] i e = elim i [ ]
  kept_in test x (y ∷ l) i e = by (test y) refl (λ j. kept_in test x l j e) i
    where
      by : (t : Bool) → test y ≡ t → (In x l → In x (keep test l)) → (x ≡ y) ⊎ In x l
          → In x (pick t (y ∷ keep test l) (keep test l))
      by true f more (inl j) = inl j
      by true f more (inr j) = inr (more j)
      by false f more (inl j) = absurd (true≢false (sym e ∙ ap test j ∙ f))
      by false f more (inr j) = more j

  pub ascending-kept : (P : A → A → Type 0) (test : A → Bool) (l : List A) → Ascending P l → Ascending P (keep test l)
  ascending-kept P test [] a = tt
  ascending-kept P test (x ∷ l) a = by (test x) (ascending-kept P test l a.1)
    where
      by : (t : Bool) → Ascending P (keep test l) → Ascending P (pick t (x ∷ keep test l) (keep test l))
      by true b = (λ y i. a.0 y (in_kept test y l i).0, b)
      by false b = b

  pub keep-joined : (test : A → Bool) (l m : List A) → keep test (l ++ m) ≡ keep test l ++ keep test m
  keep-joined test [] m = refl
  keep-joined test (x ∷ l) m = ap (λ (k : List A). pick (test x) (x ∷ k) k) (keep-joined test l m) ∙ by (test x)
    where
      by : (t : Bool) → pick t (x ∷ (keep test l ++ keep test m)) (keep test l ++ keep test m) ≡ pick t (x ∷ keep test l) (keep test l) ++ keep test m
      by true = refl
      by false = refl

  pub keep_same : (f g : A → Bool) (l : List A) → ((x : A) → In x l → f x ≡ g x) → keep f l ≡ keep g l
  keep_same f g [] e = refl
  keep_same f g (x ∷ l) e =
      ap₂ (λ (t : Bool) (k : List A). pick t (x ∷ k) k) (e x (inl refl)) (keep_same f g l (λ y i. e y (inr i)))

  -- tests that agree on the members of a list
  pub some_same : (f g : A → Bool) (l : List A) → ((x : A) → In x l → f x ≡ g x) → some f l ≡ some g l
  some_same f g [] e = refl
  some_same f g (x ∷ l) e = ap₂ ◌||◌ (e x (inl refl)) (some_same f g l (λ y i. e y (inr i)))

module _ {A B : Type 0} (f : A → B) where
  -- mapped lists
  pub in-mapped : (y : B) (l : List A) → In y (map f l) → (x : A) × In x l × (y ≡ f x)
  in-mapped y [] x' = elim x' [ ]
  in-mapped y (x ∷ l) (inl e) = (x, inl refl, e)
  in-mapped y (x ∷ l) (inr i) = let j = in-mapped y l i in (j.0, inr j.1, j.2)

  pub mapped_in : (x : A) (l : List A) → In x l → In (f x) (map f l)
  mapped_in x [] x'' = elim x'' [ ]
  mapped_in x (y ∷ l) (inl e) = inl (ap f e)
  mapped_in x (y ∷ l) (inr i) = inr (mapped_in x l i)

  pub ascending-mapped : (P : A → A → Type 0) (Q : B → B → Type 0) → ((x y : A) → P x y → Q (f x) (f y))
      → (l : List A) → Ascending P l → Ascending Q (map f l)
  ascending-mapped P Q h [] a = tt
  ascending-mapped P Q h (x ∷ l) a = (λ y i. by y (in-mapped y l i), ascending-mapped P Q h l a.1)
    where
      by : (y : B) → (z : A) × In z l × (y ≡ f z) → Q (f x) y
      by y m = subst (λ (z : B). Q (f x) z) (sym m.2) (h x m.0 (a.0 m.0 m.1))

  pub keep-mapped : (test : B → Bool) (l : List A) → keep test (map f l) ≡ map f (keep (λ x. test (f x)) l)
  keep-mapped test [] = refl
  keep-mapped test (x ∷ l) = ap (λ (k : List B). pick (test (f x)) (f x ∷ k) k) (keep-mapped test l) ∙ by (test (f x))
    where
      by : (t : Bool) → pick t (f x ∷ map f (keep (λ x. test (f x)) l)) (map f (keep (λ x. test (f x)) l)) ≡ map f (pick t (x ∷ keep (λ x. test (f x)) l) (keep (λ x. test (f x)) l))
      by true = refl
      by false = refl

  pub mapped_at : (l : List A) (i : ℕ) (d : A) (e : B) → i < length l → get_or (map f l) i e ≡ f (get_or l i d)
  mapped_at [] i d e h = absurd (not-suc-le-zero h)
  mapped_at (x ∷ l) zero d e h = refl
  mapped_at (x ∷ l) (suc i) d e h = mapped_at l i d e (le_of_suc-le-suc h)

  -- functions that agree on a list agree on its members
  pub agree-in : (g : A → B) (l : List A) → map f l ≡ map g l → (x : A) → In x l → f x ≡ g x
  agree-in g [] e x x4 = elim x4 [ ]
  agree-in g (y ∷ l) e x (inl i) =
      let here : f y ≡ g y = cc in
      ap f i ∙ here ∙ sym (ap g i)
  agree-in g (y ∷ l) e x (inr i) = agree-in g l (cc) x i
