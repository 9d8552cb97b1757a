-- What an item does, where all that servers put out is written at once.
use Rattle.std.proofs.Common.{◌≡◌, ℕ, Some, None, List, ◌∷◌, sym, ◌∙◌, ap}
use Rattle.std.proofs.Common.{subst}
use Rattle.std.specs.Option.{option_map_or}
use Rattle.irc_relay.specs.Links.{Name, links_without}
use Rattle.irc_server.specs.Served.{ReadEvent, link_down, link_up}
use Rattle.irc_forest.specs.Forests.{Forest, name_at}
use Rattle.irc_forest.specs.declared.places.EndPlaces.{EndPlaces}
use Rattle.irc_pipes.specs.Pipes.{SamePipes, Pipes}
use Rattle.irc_world.specs.Stepping.{cut, link}
use Rattle.irc_network.specs.ByteNetwork.{ByteNetwork}
use Rattle.irc_network.specs.ByteNetwork.{progress_written, lost_along, pipes_after}
use Rattle.irc_network.specs.Histories.{Past}
use Rattle.irc_network.specs.Lemmas.NodesStay.{asked_stays}
use Rattle.irc_network.specs.Loops.Progress.{AreNamed, asked_out, ends_now, way_closed, way_opened}
use Rattle.irc_network.specs.Network.{LinkPlaces, Node, begun, done_by}
use Rattle.irc_network.specs.Network.{link_places}
use Rattle.irc_network.specs.Network.{servers_linked, servers_parted}
use Rattle.irc_network.specs.Network.{Progress, node_asked}
use Rattle.irc_network.specs.Whole.{IsTidy}
use Rattle.irc_network.proofs.AskedOut.{written_between}
use Rattle.irc_network.proofs.Places.{whole}
use Rattle.irc_network.proofs.SentOut.{tidy_alone}
use Rattle.irc_network.proofs.StaysTidy.{closed_tidy, opened_tidy}

-- ---- two servers, one after the other

pub both_asked : SamePipes → (near far : ℕ) (one other : ReadEvent) (start : ByteNetwork)
    (middle last : Progress ByteNetwork) → IsTidy start
    → middle ≡ asked_out near one (begun start) → last ≡ asked_out far other middle
    → last ≡ progress_written (node_asked far other (node_asked near one (begun start.network)))
    start.pipes
both_asked same near far one other start middle last tidy first then =
    then ∙ ap (asked_out far other) first
    ∙ written_between same far other (node_asked near one (begun start.network)) start.pipes
    tidy.lean (tidy.rows ∙ sym (asked_stays near one (begun start.network)))

-- ---- a link more

abbrev pub linked_by : Name → Name → ByteNetwork → ByteNetwork
linked_by near far net = record net {
  network = record net.network {
    links = record { near = near; far = far } ∷ net.network.links;
  };
}

abbrev pub opened : Name → Name → LinkPlaces → ByteNetwork → ByteNetwork
opened near far ends net =
    way_opened ends.far ends.near (way_opened ends.near ends.far (linked_by near far net))

pub opened_is_tidy : (near far : Name) (ends : LinkPlaces) (net : ByteNetwork) → IsTidy net
    → IsTidy (opened near far ends net)
opened_is_tidy near far ends net tidy =
    opened_tidy ends.far ends.near (way_opened ends.near ends.far (linked_by near far net))
    (opened_tidy ends.near ends.far (linked_by near far net)
    (record { quiet = tidy.quiet; rows = tidy.rows; lean = tidy.lean }))

pub servers_were_linked : SamePipes → (near far : Name) (ends : LinkPlaces) (net : ByteNetwork)
    (middle last : Progress ByteNetwork) → IsTidy net
    → link_places net.network near far ≡ Some ends
    → middle ≡ asked_out ends.near (link_up ends.far (Some far))
    (begun (opened near far ends net))
    → last ≡ asked_out ends.far (link_up ends.near None) middle
    → last ≡ progress_written (done_by (link near far) net.network) net.pipes
servers_were_linked same near far ends net middle last tidy are first then =
    both_asked same ends.near ends.far (link_up ends.far (Some far)) (link_up ends.near None)
    (opened near far ends net) middle last (opened_is_tidy near far ends net tidy) first then
    ∙ sym (ap (λ o. progress_written (option_map_or (servers_linked near far net.network) o
    (begun net.network)) net.pipes) are)

pub none_linked : (near far : Name) (net : ByteNetwork) → IsTidy net
    → link_places net.network near far ≡ None
    → begun net ≡ progress_written (done_by (link near far) net.network) net.pipes
none_linked near far net tidy none =
    sym (tidy_alone (begun net) tidy)
    ∙ sym (ap (λ o. progress_written (option_map_or (servers_linked near far net.network) o
    (begun net.network)) net.pipes) none)

-- ---- a link fewer

abbrev pub unlinked_by : Name → Name → ByteNetwork → ByteNetwork
unlinked_by near far net = record net {
  network = record net.network { links = links_without net.network.links near far };
}

abbrev pub closed : Name → Name → LinkPlaces → ByteNetwork → ByteNetwork
closed near far ends net =
    way_closed ends.far ends.near (way_closed ends.near ends.far (unlinked_by near far net))

pub closed_is_tidy : (near far : Name) (ends : LinkPlaces) (net : ByteNetwork) → IsTidy net
    → IsTidy (closed near far ends net)
closed_is_tidy near far ends net tidy =
    closed_tidy ends (unlinked_by near far net)
    (record { quiet = tidy.quiet; rows = tidy.rows; lean = tidy.lean })

pub servers_were_parted : SamePipes → (near far : Name) (ends : LinkPlaces) (net : ByteNetwork)
    (middle last : Progress ByteNetwork) → IsTidy net
    → link_places net.network near far ≡ Some ends
    → middle ≡ asked_out ends.near (link_down ends.far) (begun (closed near far ends net))
    → last ≡ asked_out ends.far (link_down ends.near) middle
    → last ≡ progress_written (done_by (cut near far) net.network)
    (pipes_after net.network (cut near far) net.pipes)
servers_were_parted same near far ends net middle last tidy are first then =
    both_asked same ends.near ends.far (link_down ends.far) (link_down ends.near)
    (closed near far ends net) middle last (closed_is_tidy near far ends net tidy) first then
    ∙ sym (ap (λ o. progress_written (option_map_or (servers_parted near far net.network) o
    (begun net.network)) (lost_along o net.pipes)) are)

pub none_parted : (near far : Name) (net : ByteNetwork) → IsTidy net
    → link_places net.network near far ≡ None
    → begun net ≡ progress_written (done_by (cut near far) net.network)
    (pipes_after net.network (cut near far) net.pipes)
none_parted near far net tidy none =
    sym (tidy_alone (begun net) tidy)
    ∙ sym (ap (λ o. progress_written (option_map_or (servers_parted near far net.network) o
    (begun net.network)) (lost_along o net.pipes)) none)

-- ---- as the code does it, field by field

pub closed_so : (near far : Name) (ends : EndPlaces) (forest new : Forest) (nodes : List Node)
    (pipes : Pipes) (homes : List Name) (past : Past) (taken : ℕ) (old first second : ByteNetwork)
    → whole forest nodes pipes homes past taken ≡ old
    → new ≡ record forest {
      links = links_without forest.links (name_at forest.names ends.near)
          (name_at forest.names ends.far);
    }
    → AreNamed old.network ends near far
    → first ≡ way_closed ends.near ends.far (whole new nodes pipes homes past taken)
    → second ≡ way_closed ends.far ends.near first → second ≡ closed near far (ends_now ends) old
closed_so near far ends forest new nodes pipes homes past taken old first second is cut_is are one
    other =
    let named = subst (λ (net : ByteNetwork). AreNamed net.network ends near far) (sym is) are in
    other ∙ ap (way_closed ends.far ends.near) (one
    ∙ ap (λ (f : Forest). way_closed ends.near ends.far (whole f nodes pipes homes past taken))
    cut_is)
    ∙ (λ i. closed (named.near_named i) (named.far_named i) (ends_now ends)
    (whole forest nodes pipes homes past taken))
    ∙ ap (closed near far (ends_now ends)) is

pub closed_tidily : (near far : Name) (ends : EndPlaces) (forest new : Forest) (nodes : List Node)
    (pipes : Pipes) (homes : List Name) (past : Past) (taken : ℕ) (old first second : ByteNetwork)
    → whole forest nodes pipes homes past taken ≡ old
    → new ≡ record forest {
      links = links_without forest.links (name_at forest.names ends.near)
          (name_at forest.names ends.far);
    }
    → AreNamed old.network ends near far
    → first ≡ way_closed ends.near ends.far (whole new nodes pipes homes past taken)
    → second ≡ way_closed ends.far ends.near first → IsTidy old → IsTidy second
closed_tidily near far ends forest new nodes pipes homes past taken old first second is
    changed are one
    other tidy =
    subst IsTidy
    (sym (closed_so near far ends forest new nodes pipes homes past taken old first second is
    changed are one other)) (closed_is_tidy near far (ends_now ends) old tidy)

pub opened_so : (near far : Name) (ends : EndPlaces) (forest new : Forest) (nodes : List Node)
    (pipes : Pipes) (homes : List Name) (past : Past) (taken : ℕ) (old first second : ByteNetwork)
    → whole forest nodes pipes homes past taken ≡ old
    → new ≡ record forest {
      links = record {
        near = name_at forest.names ends.near;
        far = name_at forest.names ends.far;
      } ∷ forest.links;
    }
    → AreNamed old.network ends near far
    → first ≡ way_opened ends.near ends.far (whole new nodes pipes homes past taken)
    → second ≡ way_opened ends.far ends.near first → second ≡ opened near far (ends_now ends) old
opened_so near far ends forest new nodes pipes homes past taken old first second is linked_is are
    one other =
    let named = subst (λ (net : ByteNetwork). AreNamed net.network ends near far) (sym is) are in
    other ∙ ap (way_opened ends.far ends.near) (one
    ∙ ap (λ (f : Forest). way_opened ends.near ends.far (whole f nodes pipes homes past taken))
    linked_is)
    ∙ (λ i. opened (named.near_named i) (named.far_named i) (ends_now ends)
    (whole forest nodes pipes homes past taken))
    ∙ ap (opened near far (ends_now ends)) is

pub opened_tidily : (near far : Name) (ends : EndPlaces) (forest new : Forest) (nodes : List Node)
    (pipes : Pipes) (homes : List Name) (past : Past) (taken : ℕ) (old first second : ByteNetwork)
    → whole forest nodes pipes homes past taken ≡ old
    → new ≡ record forest {
      links = record {
        near = name_at forest.names ends.near;
        far = name_at forest.names ends.far;
      } ∷ forest.links;
    }
    → AreNamed old.network ends near far
    → first ≡ way_opened ends.near ends.far (whole new nodes pipes homes past taken)
    → second ≡ way_opened ends.far ends.near first → IsTidy old → IsTidy second
opened_tidily near far ends forest new nodes pipes homes past taken old first second is
    changed are one
    other tidy =
    subst IsTidy
    (sym (opened_so near far ends forest new nodes pipes homes past taken old first second is
    changed are one other)) (opened_is_tidy near far (ends_now ends) old tidy)
