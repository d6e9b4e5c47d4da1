-- Two tables have one list of gaps: first values are unique, and an ascending list is given by its members.
use Rattle.std.proofs.Common.{ℕ, suc, ◌≡◌, refl, sym, ◌∙◌, ap, ap₂, subst, List, [], ◌∷◌, inl, inr, length, get_or}
use Rattle.stored.specs.Tables.{Statement}
use Rattle.judging.specs.Requests.{Value}
use Rattle.comparing.specs.Order.{Before, Earlier, In, Ascending}
use Rattle.comparing.specs.Requests.{Admitted, Each}
use Rattle.comparing.specs.Gaps.{Alike, AlikeFrom, FirstOf, Gaps, Counted, IsGap}
use Rattle.comparing.proofs.Order.{Compares, before-total, earlier-asym}

-- lists that ascend by one asymmetric order and have the same members are equal
module _ {A : Type 0} (P : A → A → Type 0) (asym : (x y : A) → P x y → P y x → ⊥) where
  -- nothing comes before itself
  loose : (x y : A) → P x y → x ≡ y → ⊥
  loose x y p e =
      let q : P x x = subst (λ (z : A). P x z) (sym e) p in
      asym x x q q

  -- what is in a list and behind its head is in its tail
  behind : (x y z : A) (l : List A) → x ≡ y → P x z → In z (y ∷ l) → In z l
  behind x y z l e p (inl f) = absurd (loose x z p (e ∙ sym f))
  behind x y z l e p (inr i) = i

  heads : (x y : A) (l m : List A) → Ascending P (x ∷ l) → Ascending P (y ∷ m) → In x (y ∷ m) → In y (x ∷ l) → x ≡ y
  heads x y l m a b (inl e) j = e
  heads x y l m a b (inr i) (inl e) = sym e
  heads x y l m a b (inr i) (inr j) = absurd (asym x y (a.0 y j) (b.0 x i))

  pub ascending-unique : (l m : List A) → Ascending P l → Ascending P m
      → ((x : A) → In x l → In x m) → ((x : A) → In x m → In x l) → l ≡ m
  ascending-unique [] [] a b f g = refl
  ascending-unique [] (y ∷ m) a b f g = absurd (g y (inl refl))
  ascending-unique (x ∷ l) [] a b f g = absurd (f x (inl refl))
  ascending-unique (x ∷ l) (y ∷ m) a b f g =
      let e = heads x y l m a b (f x (inl refl)) (g y (inl refl)) in
      ap₂ ◌∷◌ e
      (ascending-unique l m a.1 b.1
      (λ z i. behind x y z m e (a.0 z i) (f z (inr i)))
      (λ z i. behind y x z l (sym e) (b.0 z i) (g z (inr i))))

-- first values with one footprint are one value
pub first-unique : (first second : List Statement) (column : ℕ) (v w : Value)
    → FirstOf first second column v → FirstOf first second column w → Alike first second column v w → v ≡ w
first-unique first second column v w fv fw e = by (before-total v w)
  where
    by : Compares Before v w → v ≡ w
    by (inl p) = absurd (fw.least v fv.ok e p)
    by (inr (inl p)) = p
    by (inr (inr p)) = absurd (fv.least w fw.ok (sym e) p)

module _ (first second : List Statement) where
  -- requests of first values that are alike are one request
  pub firsts-unique : (column : ℕ) (r s : List Value)
      → Each (FirstOf first second) column r → Each (FirstOf first second) column s → AlikeFrom first second column r s → r ≡ s
  firsts-unique column [] [] fr fs e = refl
  firsts-unique column [] (w ∷ s) fr fs e = absurd e
  firsts-unique column (v ∷ r) [] fr fs e = absurd e
  firsts-unique column (v ∷ r) (w ∷ s) fr fs e =
      ap₂ ◌∷◌ (first-unique first second column v w fr.0 fs.0 e.0) (firsts-unique (suc column) r s fr.1 fs.1 e.1)

  -- a request of first values is a request
  pub firsts-admitted : (column : ℕ) (r : List Value) → Each (FirstOf first second) column r → Each Admitted column r
  firsts-admitted column [] f = f
  firsts-admitted column (v ∷ r) f = (f.0.ok, firsts-admitted (suc column) r f.1)

  -- what one list of gaps has, another has too
  members : (l m : List (List Value)) → Gaps first second l → Gaps first second m → (r : List Value) → In r l → In r m
  members l m gl gm r i =
      let f = gm.complete r (firsts-admitted 0 r (gl.firsts r i)) (gl.gap r i) in
      let e = firsts-unique 0 r f.0 (gl.firsts r i) (gm.firsts f.0 f.1) f.2 in
      subst (λ (s : List Value). In s m) (sym e) f.1

  -- two tables have one list of gaps
  pub gaps-unique : (l m : List (List Value)) → Gaps first second l → Gaps first second m → l ≡ m
  gaps-unique l m gl gm =
      ascending-unique Earlier earlier-asym l m gl.order gm.order (members l m gl gm) (members m l gm gl)

  -- one number of gaps
  pub counted-unique : (n m : ℕ) → Counted first second n → Counted first second m → n ≡ m
  counted-unique n m c d = c.size ∙ ap length (gaps-unique c.list d.list c.gaps d.gaps) ∙ sym d.size

  -- one gap k
  pub gap-unique : (k : ℕ) (r s : List Value) → IsGap first second k r → IsGap first second k s → r ≡ s
  gap-unique k r s g h =
      g.here ∙ ap (λ (l : List (List Value)). get_or l k []) (gaps-unique g.list h.list g.gaps h.gaps) ∙ sym h.here
