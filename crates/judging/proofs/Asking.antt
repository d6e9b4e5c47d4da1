-- A request of which another says, key by key, whether it is there: its columns are those that `request_of` lists.
use Rattle.std.proofs.Common.{ℕ, ◌≡◌, refl, Bool, true, false, List}
use Rattle.std.specs.Bool.{then_some}
use Rattle.std.specs.Borrow.{Bor}
use Rattle.stored.specs.Choice.{pick}
use Rattle.judging.specs.Requests.{absent, number, Present, key_value, key_of, address_of, columns_of, request_of}

pub key_of-then_some : (here : Bool) (s : Bor (List ℕ)) → key_of (then_some here s) ≡ key_value here s.now
key_of-then_some true s = refl
key_of-then_some false s = refl

pub address_of-then_some : (here : Bool) (a : ℕ) → address_of (then_some here a) ≡ pick here (number a) absent
address_of-then_some true a = refl
address_of-then_some false a = refl

pub columns_of-then_some : (principal action resource : Bor (List ℕ)) (present : Present) (vpc prefix vpce referer : Bor (List ℕ)) (address : ℕ)
    → columns_of (record {
      principal = principal;
      action = action;
      resource = resource;
      vpc = then_some present.vpc vpc;
      prefix = then_some present.prefix prefix;
      vpce = then_some present.vpce vpce;
      referer = then_some present.referer referer;
      address = then_some present.address address;
    })
    ≡ request_of principal.now action.now resource.now present vpc.now prefix.now vpce.now referer.now address
columns_of-then_some principal action resource present vpc prefix vpce referer address =
    simp (key_of-then_some, address_of-then_some)
