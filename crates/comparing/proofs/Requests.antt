-- A request is what the judge can be given and does not refuse with 9: the judge refuses the lowest faulty column, a column that is not
-- faulty holds an admitted value, and every admitted value is said by bytes or a number.
use Rattle.std.proofs.Common.{ℕ, suc, ◌+◌, ◌^◌, ◌≤◌, ◌<◌, ◌≡◌, refl, sym, ◌∙◌, ap₂, subst, Bool, true, false, not, ◌&&◌, ◌||◌, List, [], ◌∷◌, ◌↔◌, arith, eqb, leb, ltb, length, ltb-true, ltb-false, leb-true, le-ltb}
use borrow.Author.Tests.{eqb-false}
use Rattle.stored.specs.Choice.{pick}
use Rattle.stored.specs.Values.{byte_in_range, in_range}
use Rattle.stored.specs.Records.{record_at}
use Rattle.stored.specs.Reading.{reading, step_at}
use Rattle.stored.specs.Entries.{Bytes}
use Rattle.stored.proofs.Choosing.{never, both_left, both_right}
use Rattle.judging.specs.Requests.{Value, absent, text, number, columns, key_value, request_of, is_faulty, first_fault}
use Rattle.judging.specs.Judging.{rows_of, Judgement as J}
use Rattle.judging.specs.Meaning.{some_allows, some_denies}
use Rattle.judging.proofs.Promises.{refused-request}
use Rattle.judging.proofs.Refusing.{table-reads, request-sound}
use Rattle.comparing.specs.Requests.{AdmitsNeeded, AdmitsOptional, AdmitsAddress, Admitted, Each, IsRequest}
use Rattle.comparing.specs.Compared.{bytes_in, address_in, shape_of}
use Rattle.comparing.specs.Outcomes.{IsTable}
use Rattle.comparing.specs.Means.{Said, NotRefused}
use Rattle.comparing.proofs.Eight.{of-eight}
use Rattle.comparing.proofs.Alike.{each-length}
use Rattle.comparing.proofs.Judged.{no-faults}
use Rattle.comparing.proofs.show.ShownRequest.{needed-bytes, key-bytes, address-number}

-- bytes from 21 to 7E hex are bytes
pub in-range-bytes : (s : List ℕ) → in_range s ≡ true → Bytes s
in-range-bytes [] e = tt
in-range-bytes (b ∷ s) e =
    let high = leb-true b 0x7E (both_right (leb 0x21 b) (leb b 0x7E) (both_left (byte_in_range b) (in_range s) e)) in
    (omega arith, in-range-bytes s (both_right (byte_in_range b) (in_range s) e))

needed-said : (v : Value) → AdmitsNeeded v → Bytes (bytes_in v)
needed-said absent ok = absurd ok
needed-said (text s) ok = in-range-bytes s ok.1
needed-said (number n) ok = absurd ok

key-said : (v : Value) → AdmitsOptional v → Bytes (bytes_in v)
key-said absent ok = tt
key-said (text s) ok = in-range-bytes s ok
key-said (number n) ok = absurd ok

-- an admitted address has 32 bits
pub address-said : (v : Value) → AdmitsAddress v → address_in v < 2 ^ 32
address-said absent ok = omega arith
address-said (text s) ok = absurd ok
address-said (number n) ok = ok

-- a request can be said
request-said : (r : List Value) → length r ≡ columns → IsRequest r → Said r
request-said = of-eight (λ r. IsRequest r → Said r) eight
  where
    eight : (a b c d e f g h : Value) → IsRequest (a ∷ b ∷ c ∷ d ∷ e ∷ f ∷ g ∷ h ∷ []) → Said (a ∷ b ∷ c ∷ d ∷ e ∷ f ∷ g ∷ h ∷ [])
    eight a b c d e f g h ok =
        record {
          principal = bytes_in a;
          action = bytes_in b;
          resource = bytes_in c;
          present = (shape_of (a ∷ b ∷ c ∷ d ∷ e ∷ f ∷ g ∷ h ∷ [])).present;
          vpc = bytes_in d;
          prefix = bytes_in e;
          vpce = bytes_in f;
          referer = bytes_in g;
          address = address_in h;
          bytes = (
            needed-said a ok.0,
            needed-said b ok.1.0,
            needed-said c ok.1.1.0,
            key-said d ok.1.1.1.0,
            key-said e ok.1.1.1.1.0,
            key-said f ok.1.1.1.1.1.0,
            key-said g ok.1.1.1.1.1.1.0,
          );
          small = address-said h ok.1.1.1.1.1.1.1.0;
          is =
              ap₂ ◌∷◌ (sym (needed-bytes a ok.0 _ refl))
              (ap₂ ◌∷◌ (sym (needed-bytes b ok.1.0 _ refl))
              (ap₂ ◌∷◌ (sym (needed-bytes c ok.1.1.0 _ refl))
              (ap₂ ◌∷◌ (sym (key-bytes d ok.1.1.1.0 _ refl))
              (ap₂ ◌∷◌ (sym (key-bytes e ok.1.1.1.1.0 _ refl))
              (ap₂ ◌∷◌ (sym (key-bytes f ok.1.1.1.1.1.0 _ refl))
              (ap₂ ◌∷◌ (sym (key-bytes g ok.1.1.1.1.1.1.0 _ refl))
              (ap₂ ◌∷◌ (sym (address-number h ok.1.1.1.1.1.1.1.0)) refl)))))));
        }

-- a verdict is no refusal
verdict-refuses : (denies allows : Bool) (n c : ℕ) → pick denies J.DeniedByRule (pick allows J.Allowed J.NotMentioned) ≡ J.Refused n c → ⊥
verdict-refuses true allows n c e = never (cc)
verdict-refuses false true n c e = never (cc)
verdict-refuses false false n c e = never (cc)

-- so what has no faulty column is not refused
pub sound-taken : (r : List Value) → first_fault 0 r ≡ columns → NotRefused r
sound-taken r sound t (n, reads) c e =
    verdict-refuses (some_denies r (rows_of t)) (some_allows r (rows_of t)) 9 c
    (request-sound r (rows_of t) (first_fault 0 r) refl (omega arith) ∙ table-reads t r n reads ∙ e)

-- `01 00 05` is a table
empty-table : IsTable (0x01 ∷ 0x00 ∷ 0x05 ∷ [])
unfolding reading step_at record_at
empty-table = (0, refl)

-- what is not refused has no faulty column
not-faulty : (r : List Value) → NotRefused r → columns ≤ first_fault 0 r
not-faulty r taken = by (ltb (first_fault 0 r) columns) refl
  where
    by : (t : Bool) → ltb (first_fault 0 r) columns ≡ t → columns ≤ first_fault 0 r
    by true e =
        absurd (taken (0x01 ∷ 0x00 ∷ 0x05 ∷ []) empty-table (first_fault 0 r)
        (refused-request (0x01 ∷ 0x00 ∷ 0x05 ∷ []) r empty-table.0 empty-table.1 (ltb-true (first_fault 0 r) columns e)))
    by false e = ltb-false (first_fault 0 r) columns e

-- no column is faulty, one by one
none-faulty : (column : ℕ) (r : List Value) → column + length r ≡ columns → columns ≤ first_fault column r
    → Each (λ c v. is_faulty c v ≡ false) column r
none-faulty column [] size high = omega arith
none-faulty column (v ∷ r) size high = by (is_faulty column v) refl high (none-faulty (suc column) r (omega arith))
  where
    by : (t : Bool) → is_faulty column v ≡ t → columns ≤ pick t column (first_fault (suc column) r)
        → (columns ≤ first_fault (suc column) r → Each (λ c w. is_faulty c w ≡ false) (suc column) r)
        → (is_faulty column v ≡ false) × Each (λ c w. is_faulty c w ≡ false) (suc column) r
    by true e h more = absurd (omega arith)
    by false e h more = (e, more h)

-- a string that is not faulty lies in range, and in columns 0 to 2 it has a byte
sound-needed : (s : List ℕ) → (eqb (length s) 0 || not (in_range s)) ≡ false → AdmitsNeeded (text s)
sound-needed s e = by (eqb (length s) 0) refl (in_range s) refl e
  where
    by : (t : Bool) → eqb (length s) 0 ≡ t → (u : Bool) → in_range s ≡ u → (t || not u) ≡ false → (0 < length s) × (in_range s ≡ true)
    by true f u g e = never (cc)
    by false f true g e = (some (eqb-false (length s) 0 f), g)
      where
        some : (length s ≡ 0 → ⊥) → 0 < length s
        some ne = omega arith
    by false f false g e = never (cc)

sound-text : (s : List ℕ) → not (in_range s) ≡ false → in_range s ≡ true
sound-text s e = by (in_range s) e
  where
    by : (t : Bool) → not t ≡ false → t ≡ true
    by true e = refl
    by false e = sym e

sound-key : (here : Bool) (s : List ℕ) → ((column : ℕ) → 3 ≤ column → is_faulty column (key_value here s) ≡ false → AdmitsOptional (key_value here s))
sound-key true s column high e =
    sound-text s (subst (λ (t : Bool). ((t && eqb (length s) 0) || not (in_range s)) ≡ false) (le-ltb column 3 high) e)
sound-key false s column high e = tt

sound-address : (here : Bool) (n : ℕ) → n < 2 ^ 32 → AdmitsAddress (pick here (number n) absent)
sound-address true n small = small
sound-address false n small = tt

-- what can be said and is not refused is a request
said-request : (r : List Value) → Said r → NotRefused r → IsRequest r
said-request r said taken = subst IsRequest (sym said.is) admitted
  where
    whole : List Value
    whole = request_of said.principal said.action said.resource said.present said.vpc said.prefix said.vpce said.referer said.address

    sound : Each (λ c v. is_faulty c v ≡ false) 0 whole
    sound = none-faulty 0 whole refl (not-faulty whole (subst NotRefused said.is taken))

    admitted : IsRequest whole
    admitted = (
      sound-needed said.principal sound.0,
      (
        sound-needed said.action sound.1.0,
        (
          sound-needed said.resource sound.1.1.0,
          (
            sound-key said.present.vpc said.vpc 3 (omega arith) sound.1.1.1.0,
            (
              sound-key said.present.prefix said.prefix 4 (omega arith) sound.1.1.1.1.0,
              (
                sound-key said.present.vpce said.vpce 5 (omega arith) sound.1.1.1.1.1.0,
                (
                  sound-key said.present.referer said.referer 6 (omega arith) sound.1.1.1.1.1.1.0,
                  (sound-address said.present.address said.address said.small, refl),
                ),
              ),
            ),
          ),
        ),
      ),
    )

pub requests-all : (r : List Value) → IsRequest r ↔ (Said r × NotRefused r)
requests-all r = (
  λ ok. (request-said r (omega (arith, each-length Admitted 0 r ok)) ok, sound-taken r (no-faults 0 r ok)),
  λ both. said-request r both.0 both.1,
)
