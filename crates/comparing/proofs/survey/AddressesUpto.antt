-- The loop over the edges of networks, as far as it has come: what was found, and that the rest of the way leads to what is found in the end.
use Rattle.std.proofs.Common.{ℕ, zero, suc, ◌+◌, ◌*◌, ◌^◌, ◌≤◌, ◌<◌, ◌≡◌, refl, sym, ap, ap₂, ◌∙◌, Bool, true, false, List, [], ◌∷◌, ◌++◌, map, arith, eqb, ltb, length, take, length-append, ne_eqb}
use Rattle.std.proofs.Math.ListN.{length-map}
use Rattle.stored.specs.Choice.{pick, some}
use Rattle.stored.specs.Tables.{Statement}
use Rattle.judging.specs.Requests.{absent, number}
use Rattle.states.specs.Machinery.Rows.{prints_at}
use Rattle.states.proofs.Parts.{part-kept}
use Rattle.columns.specs.Values.{networks_in}
use Rattle.columns.specs.Machinery.Edges.{next_edge}
use Rattle.columns.specs.Machinery.Both.{FewNetworks}
use Rattle.comparing.specs.Machinery.Product.{print_of}
use Rattle.comparing.specs.Machinery.Adding.{address_at, adding, adding_edges}
use Rattle.comparing.specs.Machinery.Survey.{prints_between, add_print, Added, Gathered}
use Rattle.comparing.proofs.survey.AddingPrints.{prints-none, prints-length, adding-printed}
use Rattle.comparing.proofs.survey.Addresses.{AddressesFound, gather-addresses}
use Rattle.comparing.proofs.survey.EdgeSteps.{edges-on, edges-past}

-- what joins only makes longer
adding-grows : (print : ℕ → ℕ) (found : List ℕ) (x : ℕ) → length found ≤ length (adding print found x)
adding-grows print found x = by (some (λ y. eqb (print y) (print x)) found)
  where
    by : (t : Bool) → length found ≤ length (pick t found (found ++ (x ∷ [])))
    by true = omega arith
    by false = omega (arith, length-append found (x ∷ []))

edges-grow : (fuel : ℕ) (ns : List (ℕ × ℕ)) (print : ℕ → ℕ) (found : List ℕ) (x : ℕ) → length found ≤ length (adding_edges fuel ns print found x)
edges-grow zero ns print found x = omega arith
edges-grow (suc fuel) ns print found x = by (ltb x (2 ^ 32)) (edges-grow fuel ns print (adding print found x) (next_edge ns x))
  where
    by : (t : Bool) → length (adding print found x) ≤ length (adding_edges fuel ns print (adding print found x) (next_edge ns x))
        → length found ≤ length (pick t (adding_edges fuel ns print (adding print found x) (next_edge ns x)) found)
    by true h = omega (arith, adding-grows print found x)
    by false h = omega arith

-- the footprint of an address, or of absence
abbrev pub address_print : List Statement → List Statement → ℕ → ℕ
address_print first second a = print_of first second 7 (address_at a)

-- all that is found from an address on, with what was found before
abbrev pub all_from : List Statement → List Statement → List ℕ → ℕ → List ℕ
all_from first second found x =
    adding_edges (2 * length (networks_in (first ++ second)) + 1) (networks_in (first ++ second)) (address_print first second) found x

pub record AddressesUpto (first second : List Statement) (words : List ℕ) (from to x : ℕ) : Type 0 where
  pub found : List ℕ
  pub prints : prints_between words from to ≡ map (address_print first second) found
  pub size : to ≡ from + length found
  pub rest : all_from first second found x ≡ all_from first second (2 ^ 32 ∷ []) 0

module _ (first second : List Statement) (few : FewNetworks (first ++ second)) where
  ended : AddressesFound first second (address_print first second) (all_from first second (2 ^ 32 ∷ []) 0)
  ended =
      gather-addresses first second (address_print first second) (λ a h. refl)
      (2 * length (networks_in (first ++ second)) + 1) (omega arith)

  -- there is always room for one more
  pub upto-room : (words : List ℕ) (from to x : ℕ) → AddressesUpto first second words from to x → to ≤ from + 258
  upto-room words from to x u =
      omega (
        arith,
        few,
        u.size,
        ended.few,
        ap length u.rest,
        edges-grow (2 * length (networks_in (first ++ second)) + 1) (networks_in (first ++ second)) (address_print first second) u.found x,
      )

  -- absence comes first
  pub upto-begins : (words after : List ℕ) (from to p : ℕ) → prints_at + suc from ≤ length after → p ≡ print_of first second 7 absent
      → Added words after from from p to → AddressesUpto first second after from to 0
  upto-begins words after from to p room is added =
      record {
        found = 2 ^ 32 ∷ [];
        prints = there;
        size =
            let low = added.low in
            let high = added.high in
            omega (arith, sym (prints-length after from to added.low (omega arith)) ∙ ap length there);
        rest = refl;
      }
    where
      there : prints_between after from to ≡ map (address_print first second) (2 ^ 32 ∷ [])
      there = added.prints ∙ ap₂ add_print (prints-none words from) is

  -- one address more
  pub upto-on : (words after : List ℕ) (from to x p last : ℕ) → from ≤ to → prints_at + suc to ≤ length after → x < 2 ^ 32
      → p ≡ print_of first second 7 (number x) → AddressesUpto first second words from to x → Added words after from to p last
      → AddressesUpto first second after from last (next_edge (networks_in (first ++ second)) x)
  upto-on words after from to x p last up room low is u added =
      record {
        found = adding (address_print first second) u.found x;
        prints = there;
        size =
            let less = added.low in
            let high = added.high in
            omega (
              arith,
              sym (prints-length after from last (omega arith) (omega arith))
                  ∙ ap length there
                  ∙ length-map (adding (address_print first second) u.found x) (address_print first second),
            );
        rest = sym (edges-on (networks_in (first ++ second)) (address_print first second) u.found x low) ∙ u.rest;
      }
    where
      shown : print_of first second 7 (number x) ≡ address_print first second x
      shown = ap (λ (t : Bool). print_of first second 7 (pick t absent (number x))) (sym (ne_eqb x (2 ^ 32) (λ w. omega arith)))

      there : prints_between after from last ≡ map (address_print first second) (adding (address_print first second) u.found x)
      there = added.prints ∙ ap₂ add_print u.prints (is ∙ shown) ∙ adding-printed (address_print first second) u.found x

  -- behind the last address
  pub upto-ends : (before words : List ℕ) (from to x : ℕ) → 2 ^ 32 ≤ x → AddressesUpto first second words from to x
      → take (prints_at + from) words ≡ take (prints_at + from) before → length words ≡ length before
      → Gathered first second 7 before words from to
  upto-ends before words from to x past u kept same =
      record {
        list = map address_at found;
        firsts = ended.firsts;
        prints = u.prints ∙ ap (map (address_print first second)) all ∙ ended.prints;
        size = omega (arith, u.size, ap length all, length-map found address_at);
        some = omega (arith, ended.some, length-map found address_at);
        few = omega (arith, ended.few, length-map found address_at, few);
        kept = part-kept words before (prints_at + from) prints_at from kept (omega arith);
        same = same;
      }
    where
      found : List ℕ
      found = all_from first second (2 ^ 32 ∷ []) 0

      all : u.found ≡ found
      all =
          sym (edges-past (2 * length (networks_in (first ++ second)) + 1) (networks_in (first ++ second)) (address_print first second) u.found x past)
          ∙ u.rest
