-- As bytes come to a server, no client comes to be at two servers, and each server that is known
-- stays behind a link that counts.
use Rattle.std.proofs.Common.{◌≡◌, ◌≤◌, ℕ, Bool, true, false, is_some, Some, List, ◌++◌}
use Rattle.std.proofs.Common.{length, nat_eq, refl, sym, ◌∙◌, ap, subst, le-add_right}
use Rattle.std.proofs.lemmas.Bool.{eqb-true}
use Rattle.std.proofs.lemmas.List.{length-append}
use Rattle.std.specs.FinMap.{get}
use Rattle.std.proofs.lemmas.Option.{same_Some}
use Rattle.irc_stage.specs.Ways.{AreEnds}
use Rattle.irc_server.specs.Own.{ServedKeepsEnds}
use Rattle.irc_network.specs.Node.{Served}
use Rattle.irc_stage.specs.View.{View}
use Rattle.irc_pipes.specs.Pipes.{Pipes}
use Rattle.irc_network.specs.ByteNetwork.{ByteNetwork, bytes_come, completed_in}
use Rattle.irc_network.specs.Network.{begun}
use Rattle.irc_network.specs.ByteNetwork.{pipes_come}
use Rattle.irc_network.specs.Whole.{IsTidy}
use Rattle.irc_daemons.specs.Clients.{ClientsStay}
use Rattle.irc_daemons.proofs.GoesOn.{GoesOn, bytes_go_on}
use Rattle.irc_daemons.proofs.LackingWords.{AreAllEnds, AreOwn}
use Rattle.irc_daemons.proofs.OwnClients.{all_bring_nobody, all_keep_ends, all_replies}
use Rattle.irc_daemons.proofs.Sent.{server_at}

-- as many bytes as are in front
pub front_enough : (front rest bytes : List ℕ) → bytes ≡ front ++ rest → length front ≤ length bytes
front_enough front rest bytes is =
    subst (λ n. length front ≤ n) (sym (ap (λ bs. length bs) is ∙ length-append front rest))
    (le-add_right (length front) (length rest))

-- ---- one server does something by which no client comes to it

module _ (place : ℕ) (next : Served) (along : Pipes) (old new : ByteNetwork)
    (goes : GoesOn place next along old new) (view : View)
    (at : server_at old.network place ≡ Some (Some view))
  where
    -- the server at this place is the one that replied
    is_next : (x : ℕ) (one : View) → server_at new.network x ≡ Some (Some one)
        → nat_eq x place ≡ true → next.state ≡ one
    is_next x one is same =
        let found : Some next.state ≡ Some one =
        same_Some (Some next.state) (Some one) (sym goes.server
        ∙ ap (server_at new.network) (sym (eqb-true x place same)) ∙ is) in
        same_Some next.state one found

    pub ends_then : AreEnds next.state.ends next.state.routes → AreAllEnds old.network
        → AreAllEnds new.network
    ends_then ends all x one is = by (nat_eq x place) refl
      where
        by : (b : Bool) → nat_eq x place ≡ b → AreEnds one.ends one.routes
        by true same = subst (λ (v : View). AreEnds v.ends v.routes) (is_next x one is same) ends
        by false two = all x one (sym (goes.others x two) ∙ is)

    -- the client was there before
    record Was (x client : ℕ) : Type 0 where
      server : View
      is : server_at old.network x ≡ Some (Some server)
      has : is_some (get server.clients client) ≡ true

    module _ (nobody : (client : ℕ) → is_some (get view.clients client) ≡ false
        → is_some (get next.state.clients client) ≡ false) where
      was : (x client : ℕ) (one : View) → server_at new.network x ≡ Some (Some one)
          → is_some (get one.clients client) ≡ true → Was x client
      was x client one is has = by (nat_eq x place) refl
        where
          had : nat_eq x place ≡ true → (b : Bool) → is_some (get view.clients client) ≡ b
              → b ≡ true
          had same true there = refl
          had same false none =
              cc (sym (nobody client none) ∙ ap (λ (v : View). is_some (get v.clients client))
              (is_next x one is same) ∙ has)

          by : (b : Bool) → nat_eq x place ≡ b → Was x client
          by true same = record {
            server = view;
            is = ap (server_at old.network) (eqb-true x place same) ∙ at;
            has = had same (is_some (get view.clients client)) refl;
          }
          by false two = record { server = one; is = sym (goes.others x two) ∙ is; has = has }

      pub own_then : AreOwn old.network → AreOwn new.network
      own_then own x y client one other one_is other_is one_has other_has =
          let first = was x client one one_is one_has in
          let second = was y client other other_is other_has in
          own x y client first.server second.server first.is second.is first.has second.has

-- ---- bytes come

module _ (from to count : ℕ) (net : ByteNetwork) (tidy : IsTidy net) (view : View)
    (at : server_at net.network to ≡ Some (Some view))
  where
    abbrev next : Served
    next = all_replies from view (completed_in net from to count)

    abbrev last : ByteNetwork
    last = (bytes_come from to count (begun net)).state

    goes_on_so : GoesOn to next (pipes_come net from to count) net last
    goes_on_so = bytes_go_on from to count net view tidy at

    pub ends_still : ServedKeepsEnds → AreAllEnds net.network
        → AreAllEnds (bytes_come from to count (begun net)).state.network
    ends_still keeps ends =
        ends_then to next (pipes_come net from to count) net last goes_on_so view at
        (all_keep_ends keeps from view (completed_in net from to count) (ends to view at)) ends

    pub own_still : ClientsStay → AreOwn net.network
        → AreOwn (bytes_come from to count (begun net)).state.network
    own_still stay own =
        own_then to next (pipes_come net from to count) net last goes_on_so view at
        (all_bring_nobody stay from view (completed_in net from to count)) own
