-- One step of the machine, seen from the grammar: where it leads, and that what may come there may come here behind the byte.
use Rattle.std.proofs.Common.{Option, Some, ℕ, suc, ◌<◌, ◌≡◌, refl, sym, ◌∙◌, Bool, true, false, List, [], ◌∷◌, eqb, ltb, length, arith, ltb-true, ltb-false, eqb-true}
use Rattle.json_text.specs.Bytes.{is_blank}
use Rattle.json_text.specs.Machinery.Strings.{inside_step}
use Rattle.json_text.specs.Machinery.Numbers.{numeral_step}
use Rattle.json_text.specs.Machinery.Words.{due_byte, due_next}
use Rattle.json_text.specs.Machinery.Machine.{goes, counted, in_text, spelled, after_step, value_step, behind_role, step_in}
use Rattle.json_text.specs.Grammar.{Part, Reads, Blanks}
use Rattle.json_text.specs.declared.strings.Inside.{Inside}
use Rattle.json_text.specs.declared.strings.Inside.TheVariants as I
use Rattle.json_text.specs.declared.strings.Within.{Within}
use Rattle.json_text.specs.declared.strings.Within.TheVariants as W
use Rattle.json_text.specs.declared.numbers.Numeral.{Numeral}
use Rattle.json_text.specs.declared.numbers.Numeral.TheVariants as N
use Rattle.json_text.specs.declared.numbers.Counted.{Counted}
use Rattle.json_text.specs.declared.numbers.Counted.TheVariants as C
use Rattle.json_text.specs.declared.words.Due.{Due}
use Rattle.json_text.specs.declared.words.Due.TheVariants as D
use Rattle.json_text.specs.declared.machine.Role.{Role}
use Rattle.json_text.specs.declared.machine.Role.TheVariants as R
use Rattle.json_text.specs.declared.machine.Phase.{Phase}
use Rattle.json_text.specs.declared.machine.Phase.TheVariants as P
use Rattle.json_text.specs.declared.machine.State.{State}
use Rattle.json_text.proofs.Choosing.{never, choose}
use Rattle.json_text.proofs.Stacks.{Bracket, code, half, is-full}
use Rattle.json_text.proofs.Stacks.Bracket.{list, object}
use Rattle.json_text.proofs.Complete.{after_list, after-object}
use Rattle.json_text.proofs.Remaining.{letters, Closes, Then, Rest, InList, InObject, FitsRole, Fits}
use Rattle.json_text.proofs.Inside.{inside_back, inside-closes, number-back, number-whole, number-ends}

abbrev pub at : Phase → List Bracket → State
at p ks = record { phase = p; stack = code ks }

pub record Stepped (p : Phase) (ks : List Bracket) (b : ℕ) (s : State) : Type 0 where
  pub phase : Phase
  pub stack : List Bracket
  pub same : s ≡ at phase stack
  pub fits : Fits phase stack
  pub back : (t : List ℕ) → Rest phase stack t → Rest p ks (b ∷ t)

-- a step to a phase and a stack
leads : (p : Phase) (ks : List Bracket) (b : ℕ) (s : State) (q : Phase) (ls : List Bracket) → Fits q ls
    → ((t : List ℕ) → Rest q ls t → Rest p ks (b ∷ t)) → Some (at q ls) ≡ Some s → Stepped p ks b s
leads p ks b s q ls f k e = record { phase = q; stack = ls; same = cc; fits = f; back = k }

-- a blank in front of a part
blank-then : (p : Part) (n : ℕ) (ks : List Bracket) (b : ℕ) (t : List ℕ) → is_blank b ≡ true → Then p n ks t → Then p n ks (b ∷ t)
blank-then p n ks b t e x = (x.0, Reads.blank e x.1, x.2)

blank-closes : (ks : List Bracket) (b : ℕ) (t : List ℕ) → is_blank b ≡ true → Closes ks t → Closes ks (b ∷ t)
blank-closes [] b t e x = Blanks.more e x
blank-closes (k ∷ ks) b t e x = (x.0, Reads.blank e x.1, x.2)

-- fewer than eight are open
room : (ks : List Bracket) → code ks < 256 → length ks < 8
room ks h = go (ltb (length ks) 8) refl
  where
    go : (x : Bool) → ltb (length ks) 8 ≡ x → length ks < 8
    go true e = ltb-true (length ks) 8 e
    go false e = absurd (omega (arith, is-full ks (ltb-false (length ks) 8 e)))

-- the same step from another phase
from : (p q : Phase) (ks : List Bracket) (b : ℕ) (s : State) → ((t : List ℕ) → Rest p ks (b ∷ t) → Rest q ks (b ∷ t)) → Stepped p ks b s → Stepped q ks b s
from p q ks b s k x =
    record { phase = x.phase; stack = x.stack; same = x.same; fits = x.fits; back = λ t y. k t (x.back t y) }

module _ (b : ℕ) (s : State) where
  Is : Option State → Type 0
  Is v = v ≡ Some s

  -- behind a value
  after-steps : (ks : List Bracket) → after_step (code ks) b ≡ Some s → Stepped P.After ks b s
  unfolding Is
  after-steps [] h =
      choose Is (is_blank b) _ _ (λ e. leads P.After [] b s P.After [] tt (λ t. blank-closes [] b t e)) (λ e h. never (cc)) h
  after-steps (list ∷ ks) h =
      choose Is (is_blank b) _ _
      (λ e. leads P.After (list ∷ ks) b s P.After (list ∷ ks) tt (λ t. blank-closes (list ∷ ks) b t e))
      (λ e. choose Is (eqb b 0x2C) _ _
      (λ e. leads P.After (list ∷ ks) b s P.Value (list ∷ ks) tt
      (λ t x. (x.2.0, rw (eqb-true b 0x2C e) (Reads.next_element x.1 x.2.1), x.2.2)))
      (λ e. choose Is (eqb b 0x5D) _ _
      (λ e. leads P.After (list ∷ ks) b s P.After ks tt (λ t x. (t, rw (eqb-true b 0x5D e) Reads.end_elements, x)))
      (λ e h. never (cc))))
      (sym (after_list ks b) ∙ h)
  after-steps (object ∷ ks) h =
      choose Is (is_blank b) _ _
      (λ e. leads P.After (object ∷ ks) b s P.After (object ∷ ks) tt (λ t. blank-closes (object ∷ ks) b t e))
      (λ e. choose Is (eqb b 0x2C) _ _
      (λ e. leads P.After (object ∷ ks) b s P.Member (object ∷ ks) tt
      (λ t x. (x.0, rw (eqb-true b 0x2C e) (Reads.next_member x.1), x.2)))
      (λ e. choose Is (eqb b 0x7D) _ _
      (λ e. leads P.After (object ∷ ks) b s P.After ks tt (λ t x. (t, rw (eqb-true b 0x7D e) Reads.end_members, x)))
      (λ e h. never (cc))))
      (sym (after-object ks b) ∙ h)

  number-steps : (n : Numeral) (ks : List Bracket) → step_in (P.Number n) (code ks) b ≡ Some s → Stepped (P.Number n) ks b s
  number-steps n ks = go (numeral_step n b) refl
    where
      go : (c : Counted) → numeral_step n b ≡ c → counted (code ks) b c ≡ Some s → Stepped (P.Number n) ks b s
      go (C.Goes m) e h =
          leads (P.Number n) ks b s (P.Number m) ks tt (λ t x. (x.0, number-back n b t x.0 m e x.1, x.2)) h
      go C.Ends e h =
          from P.After (P.Number n) ks b s (λ t x. (b ∷ t, number-whole n (b ∷ t) (number-ends n b e), x)) (after-steps ks h)
      go C.Fails e h = never (cc)

  value-steps : (ks : List Bracket) → value_step (code ks) b ≡ Some s → Stepped P.Value ks b s
  unfolding Is
  value-steps ks h =
      choose Is (is_blank b) _ _
      (λ e. leads P.Value ks b s P.Value ks tt (λ t. blank-then Part.value (length ks) ks b t e))
      (λ e. choose Is (eqb b 0x22) _ _
      (λ e. leads P.Value ks b s (P.Text R.Content I.Plain) ks tt
      (λ t x. (x.0, rw (eqb-true b 0x22 e) (Reads.string x.1), x.2)))
      (λ e. choose Is (eqb b 0x5B) _ _
      (λ e. choose Is (ltb (code ks) 256) _ _
      (λ l. leads P.Value ks b s P.FirstElement (list ∷ ks) tt
      (λ t x. (x.0, rw (eqb-true b 0x5B e) (Reads.list (room ks (ltb-true (code ks) 256 l)) x.1), x.2)))
      (λ l h. never (cc)))
      (λ e. choose Is (eqb b 0x7B) _ _
      (λ e. choose Is (ltb (code ks) 256) _ _
      (λ l. leads P.Value ks b s P.FirstMember (object ∷ ks) tt
      (λ t x. (x.0, rw (eqb-true b 0x7B e) (Reads.object (room ks (ltb-true (code ks) 256 l)) x.1), x.2)))
      (λ l h. never (cc)))
      (λ e. choose Is (eqb b 0x74) _ _
      (λ e. leads P.Value ks b s (P.Word D.Rue) ks tt (λ t x. (x.0, rw (eqb-true b 0x74 e, x.1) Reads.true_word, x.2)))
      (λ e. choose Is (eqb b 0x66) _ _
      (λ e. leads P.Value ks b s (P.Word D.Alse) ks tt (λ t x. (x.0, rw (eqb-true b 0x66 e, x.1) Reads.false_word, x.2)))
      (λ e. choose Is (eqb b 0x6E) _ _
      (λ e. leads P.Value ks b s (P.Word D.Ull) ks tt (λ t x. (x.0, rw (eqb-true b 0x6E e, x.1) Reads.null_word, x.2)))
      (λ e. choose Is (eqb b 0x2D) _ _
      (λ e. leads P.Value ks b s (P.Number N.Minus) ks tt (λ t x. (x.0, rw (eqb-true b 0x2D e) (Reads.negative x.1), x.2)))
      (λ e h. from (P.Number N.Minus) P.Value ks b s (λ t x. (x.0, Reads.number x.1, x.2)) (number-steps N.Minus ks h)))))))))
      h

  element-steps : (ks : List Bracket) → InList ks → step_in P.FirstElement (code ks) b ≡ Some s → Stepped P.FirstElement ks b s
  unfolding Is
  element-steps [] f h = absurd f
  element-steps (object ∷ ks) f h = absurd f
  element-steps (list ∷ ks) f h =
      choose Is (is_blank b) _ _
      (λ e. leads P.FirstElement (list ∷ ks) b s P.FirstElement (list ∷ ks) tt (λ t. blank-then Part.elements (suc (length ks)) ks b t e))
      (λ e. choose Is (eqb b 0x5D) _ _
      (λ e h. leads P.FirstElement (list ∷ ks) b s P.After ks tt (λ t x. (t, rw (eqb-true b 0x5D e) Reads.no_element, x)) (rw (half list ks) at h))
      (λ e h. from P.Value P.FirstElement (list ∷ ks) b s
      (λ t x. (x.2.0, Reads.first_element x.1 x.2.1, x.2.2)) (value-steps (list ∷ ks) h)))
      h

  name-steps : (ks : List Bracket) → InObject ks → step_in P.Member (code ks) b ≡ Some s → Stepped P.Member ks b s
  unfolding Is
  name-steps [] f h = absurd f
  name-steps (list ∷ ks) f h = absurd f
  name-steps (object ∷ ks) f h =
      choose Is (is_blank b) _ _
      (λ e. leads P.Member (object ∷ ks) b s P.Member (object ∷ ks) tt (λ t. blank-then Part.member (suc (length ks)) ks b t e))
      (λ e. choose Is (eqb b 0x22) _ _
      (λ e. leads P.Member (object ∷ ks) b s (P.Text R.Name I.Plain) (object ∷ ks) tt
      (λ t x. (x.2.0, rw (eqb-true b 0x22 e) (Reads.named x.1 x.2.1), x.2.2)))
      (λ e h. never (cc)))
      h

  member-steps : (ks : List Bracket) → InObject ks → step_in P.FirstMember (code ks) b ≡ Some s → Stepped P.FirstMember ks b s
  unfolding Is
  member-steps [] f h = absurd f
  member-steps (list ∷ ks) f h = absurd f
  member-steps (object ∷ ks) f h =
      choose Is (is_blank b) _ _
      (λ e. leads P.FirstMember (object ∷ ks) b s P.FirstMember (object ∷ ks) tt (λ t. blank-then Part.members (suc (length ks)) ks b t e))
      (λ e. choose Is (eqb b 0x7D) _ _
      (λ e h. leads P.FirstMember (object ∷ ks) b s P.After ks tt (λ t x. (t, rw (eqb-true b 0x7D e) Reads.no_member, x)) (rw (half object ks) at h))
      (λ e h. from P.Member P.FirstMember (object ∷ ks) b s
      (λ t x. (x.0, Reads.first_member x.1, x.2)) (name-steps (object ∷ ks) tt h)))
      h

  colon-steps : (ks : List Bracket) → InObject ks → step_in P.Colon (code ks) b ≡ Some s → Stepped P.Colon ks b s
  unfolding Is
  colon-steps [] f h = absurd f
  colon-steps (list ∷ ks) f h = absurd f
  colon-steps (object ∷ ks) f h =
      choose Is (is_blank b) _ _
      (λ e. leads P.Colon (object ∷ ks) b s P.Colon (object ∷ ks) tt (λ t. blank-then Part.colon (suc (length ks)) ks b t e))
      (λ e. choose Is (eqb b 0x3A) _ _
      (λ e. leads P.Colon (object ∷ ks) b s P.Value (object ∷ ks) tt
      (λ t x. (x.2.0, rw (eqb-true b 0x3A e) (Reads.content x.1 x.2.1), x.2.2)))
      (λ e h. never (cc)))
      h

  text-steps : (role : Role) (i : Inside) (ks : List Bracket) → FitsRole role ks → step_in (P.Text role i) (code ks) b ≡ Some s
      → Stepped (P.Text role i) ks b s
  text-steps role i ks f = go (inside_step i b) refl
    where
      closed : (role : Role) → FitsRole role ks → inside_step i b ≡ W.Closes → goes (behind_role role) (code ks) ≡ Some s
          → Stepped (P.Text role i) ks b s
      closed R.Name f e = leads (P.Text R.Name i) ks b s P.Colon ks f (λ t x. (t, inside-closes i b t e, x))
      closed R.Content f e = leads (P.Text R.Content i) ks b s P.After ks tt (λ t x. (t, inside-closes i b t e, x))

      go : (v : Within) → inside_step i b ≡ v → in_text (code ks) role v ≡ Some s → Stepped (P.Text role i) ks b s
      go (W.Goes j) e h =
          leads (P.Text role i) ks b s (P.Text role j) ks f (λ t x. (x.0, inside_back i b t x.0 j e x.1, x.2)) h
      go W.Closes e h = closed role f e h
      go W.Fails e h = never (cc)

  -- a letter that is due
  spells : (d e : Due) (ks : List Bracket) → eqb b (due_byte d) ≡ true → letters d ≡ due_byte d ∷ letters e → Some (at (P.Word e) ks) ≡ Some s
      → Stepped (P.Word d) ks b s
  spells d e ks q l =
      leads (P.Word d) ks b s (P.Word e) ks tt (λ t x. (x.0, rw (eqb-true b (due_byte d) q, x.1, l), x.2))

  spells-last : (d : Due) (ks : List Bracket) → eqb b (due_byte d) ≡ true → letters d ≡ due_byte d ∷ [] → Some (at P.After ks) ≡ Some s
      → Stepped (P.Word d) ks b s
  spells-last d ks q l = leads (P.Word d) ks b s P.After ks tt (λ t x. (t, rw (eqb-true b (due_byte d) q, l), x))

  word-steps : (d : Due) (ks : List Bracket) → step_in (P.Word d) (code ks) b ≡ Some s → Stepped (P.Word d) ks b s
  unfolding Is
  word-steps d ks h = choose Is (eqb b (due_byte d)) _ _ (go d) (λ e h. never (cc)) h
    where
      go : (d : Due) → eqb b (due_byte d) ≡ true → spelled (code ks) (due_next d) ≡ Some s → Stepped (P.Word d) ks b s
      go D.Rue e h = spells D.Rue D.Ue ks e refl h
      go D.Ue e h = spells D.Ue D.E ks e refl h
      go D.E e h = spells-last D.E ks e refl h
      go D.Alse e h = spells D.Alse D.Lse ks e refl h
      go D.Lse e h = spells D.Lse D.Se ks e refl h
      go D.Se e h = spells D.Se D.E ks e refl h
      go D.Ull e h = spells D.Ull D.Ll ks e refl h
      go D.Ll e h = spells D.Ll D.L ks e refl h
      go D.L e h = spells-last D.L ks e refl h

  pub steps : (p : Phase) (ks : List Bracket) → Fits p ks → step_in p (code ks) b ≡ Some s → Stepped p ks b s
  steps P.Value ks f h = value-steps ks h
  steps P.FirstElement ks f h = element-steps ks f h
  steps P.FirstMember ks f h = member-steps ks f h
  steps P.Member ks f h = name-steps ks f h
  steps P.Colon ks f h = colon-steps ks f h
  steps P.After ks f h = after-steps ks h
  steps (P.Text role i) ks f h = text-steps role i ks f h
  steps (P.Number n) ks f h = number-steps n ks h
  steps (P.Word d) ks f h = word-steps d ks h
