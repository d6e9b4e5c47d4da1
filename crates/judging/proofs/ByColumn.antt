-- A statement applies exactly when it holds in each of the eight columns: every list speaks of one column, and is no restriction in the
-- seven others.
use Rattle.std.proofs.Common.{ℕ, zero, suc, ◌+◌, ◌≡◌, refl, sym, ◌∙◌, ap, ap₂, Bool, true, false, ◌&&◌, List, [], ◌∷◌, eqb}
use mathlib.Core.Bool.{and-true}
use Rattle.stored.specs.Choice.{pick, every}
use Rattle.stored.specs.Items.{column_place, key_code}
use Rattle.stored.specs.Tables.{Statement}
use Rattle.stored.specs.declared.items.Column.{Column}
use Rattle.stored.specs.declared.items.Column.TheVariants as C
use Rattle.stored.specs.declared.items.Key.{Key}
use Rattle.stored.specs.declared.items.Key.TheVariants as K
use Rattle.judging.specs.Requests.{Value, columns, column_of}
use Rattle.judging.specs.Meaning.{element_holds, condition_holds, condition_column, applies, element_in, condition_in, holds, is_allow}
use Rattle.judging.specs.Machinery.Rows.{rows_word}
use Rattle.judging.specs.Machinery.Walk.{gathered}
use Rattle.judging.proofs.RowSets.{same}

-- a test passes in every column
abbrev pub in_all : (ℕ → Bool) → Bool
in_all f = f 0 && f 1 && f 2 && f 3 && f 4 && f 5 && f 6 && f 7

crossed : (p q a b : Bool) → ((p && q) && (a && b)) ≡ ((p && a) && (q && b))
crossed true true a b = refl
crossed true false true b = refl
crossed true false false b = refl
crossed false q a b = refl

-- the same, column by column
abbrev up_to : ℕ → (ℕ → Bool) → Bool
up_to zero f = f 0
up_to (suc n) f = up_to n f && f (suc n)

up-both : (n : ℕ) (f g : ℕ → Bool) → up_to n (λ c. f c && g c) ≡ (up_to n f && up_to n g)
up-both zero f g = refl
up-both (suc n) f g =
    ap (λ (t : Bool). t && (f (suc n) && g (suc n))) (up-both n f g) ∙ crossed (up_to n f) (up_to n g) (f (suc n)) (g (suc n))

all_both : (f g : ℕ → Bool) → in_all (λ c. f c && g c) ≡ (in_all f && in_all g)
all_both = up-both 7

module _ {ℓ} {A : Type ℓ} where
  all-every : (f : ℕ → A → Bool) (xs : List A) → in_all (λ c. every (f c) xs) ≡ every (λ x. in_all (λ c. f c x)) xs
  all-every f [] = refl
  all-every f (x ∷ xs) =
      all_both (λ c. f c x) (λ c. every (f c) xs) ∙ ap (λ (t : Bool). in_all (λ c. f c x) && t) (all-every f xs)

  every-same : (f g : A → Bool) (xs : List A) → ((x : A) → f x ≡ g x) → every f xs ≡ every g xs
  every-same f g [] e = refl
  every-same f g (x ∷ xs) e = ap₂ ◌&&◌ (e x) (every-same f g xs e)

  every_true : (f : A → Bool) (xs : List A) → ((x : A) → f x ≡ true) → every f xs ≡ true
  every_true f [] e = refl
  every_true f (x ∷ xs) e = ap₂ ◌&&◌ (e x) (every_true f xs e)

-- an element speaks of one of columns 0 to 2
of-element : (f : ℕ → Bool) (c : Column) → f (column_place c) ≡ in_all (λ column. pick (eqb (column_place c) column) (f column) true)
of-element f C.Principal = simp and-true
of-element f C.Action = simp and-true
of-element f C.Resource = simp and-true
of-element f C.NotPrincipal = simp and-true
of-element f C.NotAction = simp and-true
of-element f C.NotResource = simp and-true

-- a condition speaks of one of columns 3 to 7
of-key : (f : ℕ → Bool) (k : Key) → f (3 + key_code k) ≡ in_all (λ column. pick (eqb (3 + key_code k) column) (f column) true)
of-key f K.SourceVpc = simp and-true
of-key f K.Prefix = simp and-true
of-key f K.SourceVpce = simp and-true
of-key f K.Referer = simp and-true
of-key f K.SourceIp = refl

-- a statement applies exactly when it holds in every column
pub by-column : (request : List Value) (s : Statement) → applies request s ≡ in_all (λ column. holds column (column_of request column) s)
unfolding applies holds
by-column request s =
    ap₂ ◌&&◌
    (every-same (λ e. element_holds (column_of request (column_place e.name)) e) (λ e. in_all (λ c. element_in c (column_of request c) e)) s.elements
    (λ e. of-element (λ c. element_holds (column_of request c) e) e.name)
    ∙ sym (all-every (λ c. element_in c (column_of request c)) s.elements))
    (every-same (λ d. condition_holds (column_of request (condition_column d)) d) (λ d. in_all (λ c. condition_in c (column_of request c) d)) s.conditions
    (λ d. of-key (λ c. condition_holds (column_of request c) d) d.key)
    ∙ sym (all-every (λ c. condition_in c (column_of request c)) s.conditions))
    ∙ sym (all_both (λ c. every (element_in c (column_of request c)) s.elements) (λ c. every (condition_in c (column_of request c)) s.conditions))

-- no list speaks of the column behind the last
element-not-last : (c : Column) → eqb (column_place c) columns ≡ false
element-not-last C.Principal = refl
element-not-last C.Action = refl
element-not-last C.Resource = refl
element-not-last C.NotPrincipal = refl
element-not-last C.NotAction = refl
element-not-last C.NotResource = refl

key-not-last : (k : Key) → eqb (3 + key_code k) columns ≡ false
key-not-last K.SourceVpc = refl
key-not-last K.Prefix = refl
key-not-last K.SourceVpce = refl
key-not-last K.Referer = refl
key-not-last K.SourceIp = refl

-- so every statement holds there
pub no-column : (v : Value) (s : Statement) → holds columns v s ≡ true
unfolding holds
no-column v s =
    ap₂ ◌&&◌
    (every_true (element_in columns v) s.elements (λ e. ap (λ (t : Bool). pick t (element_holds v e) true) (element-not-last e.name)))
    (every_true (condition_in columns v) s.conditions (λ d. ap (λ (t : Bool). pick t (condition_holds v d) true) (key-not-last d.key)))

-- the allow statements, which are the rows that count, hold in the column of which no list speaks
pub allowing : (v : Value) (rows : List Statement) → rows_word (gathered true columns v) rows ≡ rows_word (λ s. is_allow s.effect) rows
allowing v rows =
    same (gathered true columns v) (λ s. is_allow s.effect) rows
    (λ s. ap (λ (t : Bool). is_allow s.effect && t) (no-column v s) ∙ and-true (is_allow s.effect))
