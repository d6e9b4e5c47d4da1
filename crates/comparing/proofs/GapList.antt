-- What follows from `Gaps`, which says which list is the list of gaps, for requests of any length. `Counted` says how many
-- there are and `IsGap` which is gap k; `AlikeFrom .. 0` says that every statement of both tables holds alike of both requests, column by
-- column; a request has eight columns, and its strings may be of any length.
use Rattle.std.proofs.Common.{ℕ, ◌<◌, ◌≡◌, refl, sym, ◌∙◌, subst, Bool, true, false, true≢false, List, [], ◌∷◌, ◌↔◌, arith, length, get_or}
use Rattle.stored.specs.Reading.{reading, ReadAnswer as A}
use Rattle.stored.specs.Tables.{Statement}
use Rattle.judging.specs.Requests.{Value}
use Rattle.judging.specs.Meaning.{is_allowed}
use Rattle.judging.specs.Judging.{rows_of, judgement, Judgement as J}
use Rattle.comparing.specs.Order.{Earlier, In}
use Rattle.comparing.specs.Requests.{Each, IsRequest}
use Rattle.comparing.specs.Gaps.{AlikeFrom, FirstOf, Gap, Gaps, Counted, IsGap}
use Rattle.comparing.proofs.Order.{earlier-asym}
use Rattle.comparing.proofs.Unique.{firsts-unique, firsts-admitted}
use Rattle.comparing.proofs.Members.{in-at, ascending-at}
use Rattle.comparing.proofs.Judged.{judged-exactly}

module _ (first second : List Statement) where
  -- Every request that the first table allows and the second does not is alike, column by column, to a listed one.
  pub gaps-complete : (list : List (List Value)) → Gaps first second list
      → (r : List Value) → IsRequest r → is_allowed r first ≡ true → is_allowed r second ≡ false
      → (s : List Value) × In s list × AlikeFrom first second 0 r s
  gaps-complete list g r ok a m = g.complete r ok (record { allowed = a; missed = m })

  -- Of two listed gaps the one listed before is the earlier, and they are not alike.
  pub gaps-once : (list : List (List Value)) → Gaps first second list
      → (i j : ℕ) → i < j → j < length list
      → Earlier (get_or list i []) (get_or list j []) × (AlikeFrom first second 0 (get_or list i []) (get_or list j []) → ⊥)
  gaps-once list g i j up low =
      let p = ascending-at Earlier list [] g.order i j up low in (
        p,
        λ alike. apart p (firsts-unique first second 0 (get_or list i []) (get_or list j [])
            (g.firsts (get_or list i []) (in-at list i [] (omega arith))) (g.firsts (get_or list j []) (in-at list j [] low)) alike),
      )
    where
      apart : Earlier (get_or list i []) (get_or list j []) → get_or list i [] ≡ get_or list j [] → ⊥
      apart p e =
          let q : Earlier (get_or list i []) (get_or list i []) = subst (λ (r : List Value). Earlier (get_or list i []) r) (sym e) p in
          earlier-asym (get_or list i []) (get_or list i []) q q

  -- The number of gaps is 0 exactly when every request that the first table allows is allowed by the second.
  pub none-exactly : Counted first second 0 ↔ ((r : List Value) → IsRequest r → is_allowed r first ≡ true → is_allowed r second ≡ true)
  none-exactly = (to, from)
    where
      empty : (l : List (List Value)) (r : List Value) → 0 ≡ length l → In r l → ⊥
      empty [] r e i = i
      empty (s ∷ l) r e i = omega arith

      to : Counted first second 0 → (r : List Value) → IsRequest r → is_allowed r first ≡ true → is_allowed r second ≡ true
      to c r ok a = by (is_allowed r second) refl
        where
          by : (t : Bool) → is_allowed r second ≡ t → t ≡ true
          by true e = refl
          by false e =
              let m = gaps-complete c.list c.gaps r ok a e in
              absurd (empty c.list m.0 c.size m.1)

      from : ((r : List Value) → IsRequest r → is_allowed r first ≡ true → is_allowed r second ≡ true) → Counted first second 0
      from all =
          record {
            list = [];
            gaps =
                record {
                  firsts = λ r i. absurd i;
                  gap = λ r i. absurd i;
                  order = tt;
                  complete = λ r ok g. absurd (true≢false (sym (all r ok g.allowed) ∙ g.missed));
                };
            size = refl;
          }

module _ (first second : List Statement) (k : ℕ) (r : List Value) (g : IsGap first second k r) where
  -- gap k is listed
  pub gap-listed : In r g.list
  gap-listed = subst (λ (s : List Value). In s g.list) (sym g.here) (in-at g.list k [] g.low)

  -- each of its columns holds a first value
  pub gap-firsts : Each (FirstOf first second) 0 r
  gap-firsts = g.gaps.firsts r gap-listed

  -- it is a request
  pub gap-request : IsRequest r
  gap-request = firsts-admitted first second 0 r gap-firsts

-- The judge, given the request that is gap k, says Allowed by the first table and does not by the second.
pub gap-shows : (a b : List ℕ) (m n : ℕ) → reading a ≡ A.Accepted m → reading b ≡ A.Accepted n
    → (k : ℕ) (r : List Value) → IsGap (rows_of a) (rows_of b) k r
    → (judgement a r ≡ J.Allowed) × (judgement b r ≡ J.Allowed → ⊥)
gap-shows a b m n ra rb k r g = (
  (judged-exactly a m ra r ok).1 gap.allowed,
  λ e. true≢false (sym ((judged-exactly b n rb r ok).0 e) ∙ gap.missed),
)
  where
    ok : IsRequest r
    ok = gap-request (rows_of a) (rows_of b) k r g

    gap : Gap (rows_of a) (rows_of b) r
    gap = g.gaps.gap r (gap-listed (rows_of a) (rows_of b) k r g)

-- `none-exactly` in the judge's words: two tables that read have no gaps exactly when every request that the judge allows by the first
-- it allows by the second.
pub none-judged : (a b : List ℕ) (m n : ℕ) → reading a ≡ A.Accepted m → reading b ≡ A.Accepted n
    → Counted (rows_of a) (rows_of b) 0 ↔ ((r : List Value) → IsRequest r → judgement a r ≡ J.Allowed → judgement b r ≡ J.Allowed)
none-judged a b m n ra rb = (
  λ c r ok e. (judged-exactly b n rb r ok).1 ((none-exactly (rows_of a) (rows_of b)).0 c r ok ((judged-exactly a m ra r ok).0 e)),
  λ all. (none-exactly (rows_of a) (rows_of b)).1
      (λ r ok e. (judged-exactly b n rb r ok).0 (all r ok ((judged-exactly a m ra r ok).1 e))),
)
