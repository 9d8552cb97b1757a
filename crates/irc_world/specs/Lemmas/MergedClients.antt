-- Which clients a hall has that two halls became.
use Rattle.std.proofs.Common.{◌≡◌, ℕ, Bool, true, false, cond, not, Option, Some, None, List, []}
use Rattle.std.proofs.Common.{◌∷◌, ◌++◌, refl, sym, ◌∙◌, ap}
use Rattle.std.specs.Ordering.{nat_cmp}
use Rattle.std.specs.Cmp.{nat_cmp_total}
use Rattle.std.specs.FinMap.{get, find, entries, retain_keys, get-from_entries, get-entries}
use Rattle.std.specs.FinMap.{get-retain_keys, nat_cmp-IsAntisymmetric}
use Rattle.irc_room.specs.Room.{Room}
use Rattle.irc_stage.specs.declared.clients.Client.{Client}
use Rattle.irc_stage.specs.RoomMachine.{Clients}
use Rattle.irc_stage.specs.Lemmas.Numbers.{same_number}
use Rattle.irc_world.specs.World.{Hall}
use Rattle.irc_world.specs.Stepping.{merged, surviving, clashes_in}

-- the first of two clients that is there
abbrev pub first_of : Option Client → Option Client → Option Client
first_of None other = other
first_of (Some client) other = Some client

find_in_both : (client : ℕ) (xs ys : List (ℕ × Client))
    → find nat_cmp client (xs ++ ys) ≡ first_of (find nat_cmp client xs) (find nat_cmp client ys)
find_in_both client [] ys = refl
find_in_both client (x ∷ xs) ys = by (same_number client x.0) (find_in_both client xs ys)
  where
    by : (b : Bool) → find nat_cmp client (xs ++ ys) ≡ first_of (find nat_cmp client xs)
        (find nat_cmp client ys) → cond b (Some x.1) (find nat_cmp client (xs ++ ys))
        ≡ first_of (cond b (Some x.1) (find nat_cmp client xs)) (find nat_cmp client ys)
    by true later = refl
    by false later = later

pub get-kept : (clients : Clients) (passes : ℕ → Bool) (client : ℕ)
    → get (retain_keys clients passes) client ≡ cond (passes client) (get clients client) None
get-kept clients passes client =
    get-retain_keys clients passes client
    (λ other one. ap passes (sym (nat_cmp-IsAntisymmetric client other one)))

-- a client that survives a merge
abbrev pub survivor : Room → Clients → ℕ → Option Client
survivor other clients client =
    cond (not (clashes_in other (get clients client))) (get clients client) None

pub get-merged : (one other : Hall) (client : ℕ) → get (merged one other).clients client
    ≡ first_of (survivor other.room one.clients client) (survivor one.room other.clients client)
get-merged one other client =
    get-from_entries nat_cmp_total (entries (surviving other.room one.clients)
    ++ entries (surviving one.room other.clients)) client
    ∙ find_in_both client (entries (surviving other.room one.clients))
    (entries (surviving one.room other.clients))
    ∙ ap (λ o. first_of o (find nat_cmp client (entries (surviving one.room other.clients))))
    (sym (get-entries (surviving other.room one.clients) client)
    ∙ get-kept one.clients (λ c. not (clashes_in other.room (get one.clients c))) client)
    ∙ ap (first_of (survivor other.room one.clients client))
    (sym (get-entries (surviving one.room other.clients) client)
    ∙ get-kept other.clients (λ c. not (clashes_in one.room (get other.clients c))) client)
