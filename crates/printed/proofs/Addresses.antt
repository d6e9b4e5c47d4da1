-- The networks of a table have addresses of 32 bits.
use Rattle.std.proofs.Common.{Option, Some, None, ℕ, zero, suc, ◌+◌, ◌-◌, ◌^◌, ◌<◌, Bool, true, false, List, [], ◌∷◌, inl, inr, eqb, ltb, length, get_or, take, drop, arith}
use Rattle.stored.specs.Choice.{pick, In}
use Rattle.stored.specs.Items.{key_of}
use Rattle.stored.specs.Operators.{operator_of}
use Rattle.stored.specs.Records.{Record as R, Record, kind_of, size_of, condition_of_found, decode_of, known, record_behind, record_at}
use Rattle.stored.specs.Entries.{Entry, entry_of, walk, entries_from, entries_of, after_record, Bytes, AllFit}
use Rattle.stored.specs.Tables.{Listed, Element, Condition, Statement}
use Rattle.stored.specs.Form.{listed_for, elements_for, conditions_for, statements_for}
use Rattle.stored.specs.declared.items.Effect.TheVariants as E
use Rattle.stored.specs.declared.items.Column.TheVariants as C
use Rattle.stored.specs.declared.items.Item.{Item}
use Rattle.stored.specs.declared.items.Item.TheVariants as I
use Rattle.stored.specs.declared.items.Key.{Key}
use Rattle.stored.specs.declared.items.Operator.{Operator}
use Rattle.stored.specs.declared.records.Kind.{Kind}
use Rattle.stored.specs.declared.records.Kind.TheVariants as K
use Rattle.stored.proofs.Decoding.{byte_at}
use Rattle.stored.proofs.OneRecord.{bytes_take, bytes_drop}
use Rattle.printed.proofs.ValuesSaid.{Small}

abbrev ItemFits : Item → Type 0
ItemFits (I.Start n) = Unit {0}
ItemFits (I.Statement e) = Unit {0}
ItemFits (I.Column c) = Unit {0}
ItemFits (I.Condition o k) = Unit {0}
ItemFits (I.Network a n) = a < 2 ^ 32
ItemFits I.Value = Unit {0}
ItemFits I.End = Unit {0}

abbrev DecodedFits : Option Item → Type 0
DecodedFits (Some i) = ItemFits i
DecodedFits None = Unit {0}

abbrev RecordFits : Record → Type 0
RecordFits (R.Is i begin size) = ItemFits i
RecordFits R.Cut = Unit {0}
RecordFits R.Strange = Unit {0}

statement-fits : (a b : Bool) → DecodedFits (pick a (Some (I.Statement E.Deny)) (pick b (Some (I.Statement E.Allow)) None))
statement-fits true b = tt
statement-fits false true = tt
statement-fits false false = tt

column_fits : (a b c d e f : Bool)
    → DecodedFits
    (pick a (Some (I.Column C.Principal))
    (pick b (Some (I.Column C.Action))
    (pick c (Some (I.Column C.Resource))
    (pick d (Some (I.Column C.NotPrincipal))
    (pick e (Some (I.Column C.NotAction)) (pick f (Some (I.Column C.NotResource)) None))))))
column_fits true b c d e f = tt
column_fits false true c d e f = tt
column_fits false false true d e f = tt
column_fits false false false true e f = tt
column_fits false false false false true f = tt
column_fits false false false false false true = tt
column_fits false false false false false false = tt

condition-fits : (o : Option Operator) (k : Option Key) → DecodedFits (condition_of_found o k)
condition-fits (Some o) (Some k) = tt
condition-fits (Some o) None = tt
condition-fits None k = tt

decoded-fits : (k : Kind) (body : List ℕ) → Bytes body → DecodedFits (decode_of k body)
decoded-fits K.Start body h = tt
decoded-fits K.Statement body h = statement-fits (eqb (get_or body 0 0) 0) (eqb (get_or body 0 0) 1)
decoded-fits K.Column body h =
    let b = get_or body 0 0 in
    column_fits (eqb b 0x00) (eqb b 0x01) (eqb b 0x02) (eqb b 0x10) (eqb b 0x11) (eqb b 0x12)
decoded-fits K.Condition body h = condition-fits (operator_of (get_or body 0 0)) (key_of (get_or body 1 0))
decoded-fits K.End body h = tt
decoded-fits K.Network body h = omega (arith, byte_at body h 0, byte_at body h 1, byte_at body h 2, byte_at body h 3)
decoded-fits (K.Value n) body h = tt
decoded-fits K.Unknown body h = tt

known-fits : (start size : ℕ) (d : Option Item) → DecodedFits d → RecordFits (known start size d)
known-fits start size (Some i) h = h
known-fits start size None h = tt

behind-fits : (t : List ℕ) (start : ℕ) (k : Kind) → Bytes t → RecordFits (record_behind t start k)
behind-fits t start k h = by (ltb (length t - start) (size_of k))
  where
    by : (b : Bool) → RecordFits (pick b R.Cut (known start (size_of k) (decode_of k (take (size_of k) (drop start t)))))
    by true = tt
    by false =
        known-fits start (size_of k) (decode_of k (take (size_of k) (drop start t)))
        (decoded-fits k (take (size_of k) (drop start t)) (bytes_take (size_of k) (drop start t) (bytes_drop start t h)))

record-fits : (t : List ℕ) (at : ℕ) → Bytes t → RecordFits (record_at t at)
unfolding record_at
record-fits t at h = by (ltb at (length t))
  where
    by : (b : Bool) → RecordFits (pick b (record_behind t (at + 1) (kind_of (get_or t at 0))) R.Cut)
    by true = behind-fits t (at + 1) (kind_of (get_or t at 0)) h
    by false = tt

walk-fits : (f : ℕ) (t : List ℕ) (at : ℕ) → Bytes t → AllFit (walk f t at)
walk-fits zero t at h = tt
walk-fits (suc f) t at h = by (record_at t at) (record-fits t at h) (λ p. walk-fits f t p h)
  where
    entry-fits : (i : Item) (bs : List ℕ) (es : List Entry) → ItemFits i → AllFit es → AllFit (entry_of i bs ∷ es)
    entry-fits (I.Start n) bs es x k = (tt, k)
    entry-fits (I.Statement e) bs es x k = (tt, k)
    entry-fits (I.Column c) bs es x k = (tt, k)
    entry-fits (I.Condition o y) bs es x k = (tt, k)
    entry-fits (I.Network a n) bs es x k = (x, k)
    entry-fits I.Value bs es x k = (tt, k)
    entry-fits I.End bs es x k = (tt, k)

    by : (r : Record) → RecordFits r → ((p : ℕ) → AllFit (walk f t p)) → AllFit (after_record t (walk f t) r)
    by (R.Is i begin size) x k = entry-fits i (take size (drop begin t)) (walk f t (begin + size)) x (k (begin + size))
    by R.Cut x k = tt
    by R.Strange x k = tt

pub table_fits : (t : List ℕ) → Bytes t → AllFit (entries_of t)
unfolding entries_from
table_fits t h = walk-fits (length t - 0) t 0 h

-- so have those that its statements list
abbrev pub AllSmall : List Listed → Type 0
AllSmall l = (x : Listed) → In x l → Small x

-- one element more
in-cons : {A : Type 0} (P : A → Type 0) (x : A) (l : List A) → P x → ((y : A) → In y l → P y) → (y : A) → In y (x ∷ l) → P y
in-cons P x l p f y (inl e) = rw e p
in-cons P x l p f y (inr i) = f y i

list-small : (l : List Listed) (es : List Entry) → AllFit (listed_for l es) → AllSmall l × AllFit es
list-small [] es h = (λ x i. absurd i, h)
list-small (Listed.text bs ∷ l) es h =
    let k = list-small l es h.1 in
    (in-cons Small (Listed.text bs) l tt k.0, k.1)
list-small (Listed.range a n ∷ l) es h =
    let k = list-small l es h.1 in
    (in-cons Small (Listed.range a n) l h.0 k.0, k.1)

elements-small : (xs : List Element) (es : List Entry) → AllFit (elements_for xs es) → ((e : Element) → In e xs → AllSmall e.values) × AllFit es
elements-small [] es h = (λ x i. absurd i, h)
elements-small (x ∷ xs) es h =
    let here = list-small x.values (elements_for xs es) h.1 in
    let more = elements-small xs es here.1 in
    (in-cons (λ (e : Element). AllSmall e.values) x xs here.0 more.0, more.1)

conditions-small : (xs : List Condition) (es : List Entry) → AllFit (conditions_for xs es) → ((e : Condition) → In e xs → AllSmall e.values) × AllFit es
conditions-small [] es h = (λ x i. absurd i, h)
conditions-small (x ∷ xs) es h =
    let here = list-small x.values (conditions_for xs es) h.1 in
    let more = conditions-small xs es here.1 in
    (in-cons (λ (c : Condition). AllSmall c.values) x xs here.0 more.0, more.1)

pub record SmallRow (s : Statement) : Type 0 where
  pub elements : (e : Element) → In e s.elements → AllSmall e.values
  pub conditions : (c : Condition) → In c s.conditions → AllSmall c.values

pub rows-small : (rows : List Statement) → AllFit (statements_for rows) → (s : Statement) → In s rows → SmallRow s
rows-small [] h = λ s i. absurd i
rows-small (x ∷ rows) h =
    let p = elements-small x.elements (conditions_for x.conditions (statements_for rows)) h.1 in
    let q = conditions-small x.conditions (statements_for rows) p.1 in
    in-cons SmallRow x rows (record { elements = p.0; conditions = q.0 }) (rows-small rows q.1)
