-- A client that connects to a network whose links carry bytes.
use Rattle.std.proofs.Common.{◌≡◌, ℕ, zero, suc, ◌+◌, Bool, true, false, is_some, Some, None, List}
use Rattle.std.proofs.Common.{[], ◌∷◌, ◌++◌, length, refl, ◌∙◌, ap, arith, unwrap_or, if◌then◌else◌}
use Rattle.std.specs.List.{flat_map, slice_get}
use Rattle.irc_relay.specs.Links.{Name}
use Rattle.irc_stage.specs.ClientTold.{client_told}
use Rattle.irc_stage.specs.Handle.{connects}
use Rattle.irc_stage.specs.View.{View}
use Rattle.irc_server.specs.declared.event.Event.{Event}
use Rattle.irc_server.specs.declared.event.Event.TheVariants.{Connect}
use Rattle.irc_server.specs.Served.{of_client, served}
use Rattle.irc_network.specs.Node.{Served, reply, serves_read_event}
use Rattle.irc_world.specs.Refused.{no_such_server}
use Rattle.irc_world.specs.Stepping.{connect}
use Rattle.irc_world.specs.World.{home_in}
use Rattle.irc_network.specs.Network.{Network, begun, given, item_kept, next_client, server_place}
use Rattle.irc_network.specs.Network.{node_asked, node_asked_if, with_client}
use Rattle.irc_network.specs.Refusing.{fault_at_rest}
use Rattle.irc_network.specs.ByteNetwork.{ByteNetwork, item_given, queues_written}
use Rattle.irc_daemons.specs.Receiving.{bytes_received}

-- ---- one more in a list

pub get_past : {A : Type 0} (xs : List A) (n : ℕ) → n ≡ length xs → slice_get xs n ≡ None
get_past [] n is = refl
get_past (x ∷ xs) zero is = cc is
get_past (x ∷ xs) (suc n) is = get_past xs n (cc is)

pub get_last : {A : Type 0} (xs : List A) (x : A) (n : ℕ) → n ≡ length xs
    → slice_get (xs ++ x ∷ []) n ≡ Some x
get_last [] x zero is = refl
get_last [] x (suc n) is = cc is
get_last (y ∷ xs) x zero is = cc is
get_last (y ∷ xs) x (suc n) is = get_last xs x n (cc is)

pub get_front : {A : Type 0} (xs : List A) (x : A) (n : ℕ) → is_some (slice_get xs n) ≡ true
    → slice_get (xs ++ x ∷ []) n ≡ slice_get xs n
get_front [] x n there = cc there
get_front (y ∷ xs) x zero there = refl
get_front (y ∷ xs) x (suc n) there = get_front xs x n there

pub one_longer : {A : Type 0} (xs : List A) (x : A) → length (xs ++ x ∷ []) ≡ suc (length xs)
one_longer [] x = refl
one_longer (y ∷ xs) x = ap suc (one_longer xs x)

-- an empty one changes nothing of what is joined
empty_last : (xs : List (List (List ℕ))) (n : ℕ)
    → unwrap_or (slice_get (xs ++ [] ∷ []) n) [] ≡ unwrap_or (slice_get xs n) []
empty_last [] zero = refl
empty_last [] (suc n) = refl
empty_last (x ∷ xs) zero = refl
empty_last (x ∷ xs) (suc n) = empty_last xs n

-- ---- the network with one client more

abbrev pub with_one : Name → ByteNetwork → ByteNetwork
with_one name net = record { network = with_client name net.network; pipes = net.pipes }

pub same_bytes : (name : Name) (net : Network) (client : ℕ)
    → bytes_received (with_client name net) client ≡ bytes_received net client
same_bytes name net zero = refl
same_bytes name net (suc earlier) =
    ap (λ lines. flat_map (λ text. text) lines) (empty_last net.received earlier)

pub home_kept : (homes : List Name) (name : Name) (client : ℕ) → is_some (home_in homes client)
    ≡ true → home_in (homes ++ name ∷ []) client ≡ home_in homes client
home_kept homes name zero there = cc there
home_kept homes name (suc earlier) there = get_front homes name earlier there

pub given_connect : (net : ByteNetwork) (place client : ℕ) (name host : List ℕ)
    → server_place net.network name ≡ Some place → next_client net.network ≡ client
    → (item_given (connect name host) net).state
    ≡ queues_written (item_kept (connect name host) (node_asked place (of_client
    (connects client host)) (begun (with_client name net.network)))).state net.pipes
unfolding item_given given
given_connect net place client name host at next =
    ap
    (λ o. queues_written
    (item_kept (connect name host) (node_asked_if o (of_client (connects (next_client net.network)
    host)) (begun (with_client name net.network)))).state net.pipes)
    at
    ∙ ap
    (λ n. queues_written
    (item_kept (connect name host) (node_asked place (of_client (connects n host))
    (begun (with_client name net.network)))).state net.pipes) next

pub not_refused_here : (net : Network) (place : ℕ) (name host : List ℕ)
    → server_place net name ≡ Some place → fault_at_rest net (connect name host) ≡ None
not_refused_here net place name host at =
    ap (λ o. if is_some o then None else Some no_such_server) at

pub next_is : (homes : List Name) (came : ℕ) → came ≡ length homes → length homes + 1 ≡ suc came
next_is homes came same = omega (arith, same)

-- ---- its server

silent_connect : (view : View) (conn : ℕ) (host : List ℕ)
    → (served view (of_client (connects conn host))).out ≡ []
unfolding served client_told
silent_connect view conn host = refl

module _ (view : View) (conn : ℕ) (host : List ℕ) where
  abbrev said : Bool → Served
  said b =
      if b then record {
        state = (served view (of_client (connects conn host))).state;
        out = (served view (of_client (connects conn host))).out;
      }
      else record { state = view; out = [] }

  said_by : (b : Bool) → (said b).out ≡ []
  said_by true = silent_connect view conn host
  said_by false = refl

  pub view_of_served : serves_read_event view (of_client (connects conn host)) ≡ true → (reply view
      (of_client (connects conn host))).state ≡ (served view (of_client (connects conn host))).state
  view_of_served serves = ap (λ b. (said b).state) serves

  pub nothing_said : (reply view (of_client (connects conn host))).out ≡ []
  nothing_said = said_by (serves_read_event view (of_client (connects conn host)))

-- the host of one that connects
abbrev pub host_of : Event → List ℕ
host_of (Connect conn host) = host
host_of other = []
