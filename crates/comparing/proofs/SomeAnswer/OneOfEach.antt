-- What a function tells apart: a search for an element that is like none of a list, and of the elements of a list that are alike the first.
use Rattle.std.proofs.Common.{◌≡◌, refl, sym, ap, subst, ◌∙◌, Bool, true, false, true≢false, List, [], ◌∷◌, ◌⊎◌, inl, inr}
use Rattle.std.proofs.Math.Bool.{Bool-discrete}
use mathlib.Core.List.{List-discrete}
use Rattle.comparing.specs.Order.{In, Ascending}
use Rattle.comparing.specs.Machinery.Product.{keep}
use Rattle.comparing.proofs.Members.{in_kept, kept_in, ascending-kept}

-- a decision as a test that it is no
abbrev is_no : {P : Type 0} → Dec P → Bool
is_no (yes p) = false
is_no (no n) = true

no_true : {P : Type 0} (d : Dec P) → is_no d ≡ true → P → ⊥
no_true (yes p) e q = true≢false (sym e)
no_true (no n) e q = n q

no_false : {P : Type 0} (d : Dec P) → is_no d ≡ false → P
no_false (yes p) e = p
no_false (no n) e = absurd (true≢false e)

-- where each element has P or Q, all of a list have P or one has Q
all-or-one : {A : Type 0} (P Q : A → Type 0) → ((x : A) → P x ⊎ Q x) → (l : List A) → ((x : A) → In x l → P x) ⊎ ((x : A) × In x l × Q x)
all-or-one P Q decide [] = inl (λ x i. absurd i)
all-or-one {A} P Q decide (z ∷ l) = by (decide z) (all-or-one P Q decide l)
  where
    here : P z → ((x : A) → In x l → P x) → (x : A) → In x (z ∷ l) → P x
    here p all x (inl e) = subst P (sym e) p
    here p all x (inr i) = all x i

    by : P z ⊎ Q z → ((x : A) → In x l → P x) ⊎ ((x : A) × In x l × Q x) → ((x : A) → In x (z ∷ l) → P x) ⊎ ((x : A) × In x (z ∷ l) × Q x)
    by (inr q) rest = inr (z, inl refl, q)
    by (inl p) (inr (x, i, q)) = inr (x, inr i, q)
    by (inl p) (inl all) = inl (here p all)

module _ {A : Type 0} (f : A → List Bool) where
  -- one of the list is like x; none is
  abbrev pub Like : List A → A → Type 0
  Like l x = (y : A) × In y l × (f x ≡ f y)

  abbrev pub New : List A → A → Type 0
  New l x = (y : A) → In y l → f x ≡ f y → ⊥

  -- each of xs is like one of the list, or one is new
  pub like-or-new : (l xs : List A) → ((x : A) → In x xs → Like l x) ⊎ ((x : A) × In x xs × New l x)
  like-or-new l xs = all-or-one (Like l) (New l) (λ x. turned x (all-or-one (λ y. f x ≡ f y → ⊥) (λ y. f x ≡ f y) (told x) l)) xs
    where
      told : (x y : A) → (f x ≡ f y → ⊥) ⊎ (f x ≡ f y)
      told x y = by (List-discrete Bool-discrete (f x) (f y))
        where
          by : Dec (f x ≡ f y) → (f x ≡ f y → ⊥) ⊎ (f x ≡ f y)
          by (yes e) = inr e
          by (no n) = inl n

      turned : (x : A) → New l x ⊎ Like l x → Like l x ⊎ New l x
      turned x (inl new) = inr new
      turned x (inr like) = inl like

  -- f tells x from y
  abbrev tells : A → A → Bool
  tells x y = is_no (List-discrete Bool-discrete (f x) (f y))

  -- the first of each
  abbrev pub one_of_each : List A → List A
  one_of_each [] = []
  one_of_each (x ∷ l) = x ∷ keep (tells x) (one_of_each l)

  -- they are in the list, each of the list is like one of them, and they keep its order
  pub each_in : (l : List A) (x : A) → In x (one_of_each l) → In x l
  each_in [] x x3 = elim x3 [ ]
  each_in (y ∷ l) x (inl e) = inl e
  each_in (y ∷ l) x (inr i) = inr (each_in l x (in_kept (tells y) x (one_of_each l) i).0)

  pub each_like : (l : List A) (x : A) → In x l → Like (one_of_each l) x
  each_like [] x x3 = elim x3 [ ]
  each_like (y ∷ l) x (inl e) = (y, inl refl, ap f e)
  each_like (y ∷ l) x (inr i) = let (z, j, same) = each_like l x i in by z j same (tells y z) refl
    where
      by : (z : A) → In z (one_of_each l) → f x ≡ f z → (t : Bool) → tells y z ≡ t → Like (y ∷ keep (tells y) (one_of_each l)) x
      by z j same true e = (z, inr (kept_in (tells y) z (one_of_each l) j e), same)
      by z j same false e = (y, inl refl, same ∙ sym (no_false (List-discrete Bool-discrete (f y) (f z)) e))

  module _ (P : A → A → Type 0) where
    pub each-ascending : (l : List A) → Ascending P l → Ascending P (one_of_each l)
    each-ascending [] up = tt
    each-ascending (x ∷ l) up = (
      (λ y i. up.0 y (each_in l y (in_kept (tells x) y (one_of_each l) i).0)),
      ascending-kept P (tells x) (one_of_each l) (each-ascending l up.1),
    )

    -- none in the list that is like one of them comes before it
    pub each_first : ((x y : A) → P x y → P y x → ⊥) → (l : List A) → Ascending P l
        → (x y : A) → In x (one_of_each l) → In y l → f y ≡ f x → P y x → ⊥
    each_first asym [] up x y x7 _ same less = elim x7 [ ]
    each_first asym (z ∷ l) up x y (inl e) (inl i) same less =
        let less : P x x = subst (λ (w : A). P w x) (i ∙ sym e) less in asym x x less less
    each_first asym (z ∷ l) up x y (inl e) (inr i) same less = asym z y (up.0 y i) (subst (λ (w : A). P y w) e less)
    each_first asym (z ∷ l) up x y (inr j) (inl i) same less =
        no_true (List-discrete Bool-discrete (f z) (f x)) (in_kept (tells z) x (one_of_each l) j).1 (ap f (sym i) ∙ same)
    each_first asym (z ∷ l) up x y (inr j) (inr i) same less =
        each_first asym l up.1 x y (in_kept (tells z) x (one_of_each l) j).0 i same less
