-- What moves do to a server with links: it has no client and no link more, each known server stays
-- behind a link that counts, and what is put out goes to clients and on links that it had.
use Rattle.std.proofs.Common.{◌≡◌, ℕ, Bool, true, false, cond, not, is_some, Option, Some, None}
use Rattle.std.proofs.Common.{List, sym, ◌∙◌, ap, map, filter_map, subst}
use Rattle.std.specs.FinMap.{entries, from_entries, get, get-from_entries, retain_keys}
use Rattle.std.specs.Cmp.{nat_cmp_total}
use Rattle.std.specs.List.{list_all}
use Rattle.std.specs.Ordering.{nat_cmp}
use Rattle.irc_names.specs.Lemmas.PlainFacts.{list_all-filter}
use Rattle.irc_batch.specs.Batches.{Sent, is_number, line_on}
use Rattle.irc_line.specs.Messages.{Written, text}
use Rattle.irc_stage.specs.Ends.{End, Ends, is_met}
use Rattle.irc_stage.specs.Ways.{AreEnds, but, links_toward, met_links, ways_toward}
use Rattle.irc_routes.specs.Known.{Known, link_key, next_hop}
use Rattle.irc_stage.specs.RoomMachine.{Clients}
use Rattle.irc_stage.specs.View.{View}
use Rattle.irc_stage.specs.EffectTold.{Served, is_another, on_links, with_sent}
use Rattle.irc_stage.specs.Lemmas.Counting.{get-kept}
use Rattle.irc_server.specs.Own.{is_its_own}
use Rattle.irc_server.specs.Connected.{has_client, has_link}
use Rattle.irc_server.specs.Moves.{Mover, Move, does, comes, shows, takes_out, learns, forgets}
use Rattle.irc_server.specs.Moves.{Moves}
use Rattle.irc_server.specs.Lemmas.ServedByMoves.{ends_stay, kept, one, same_clients}
use Rattle.irc_server.proofs.AllOf.{all-append, all-gained, all-map, all_entries, all_found}
use Rattle.irc_server.proofs.AllOf.{all_keys}
use Rattle.irc_server.proofs.MetEnds.{added_met, left_met, there}
use Rattle.irc_server.proofs.PutOut.{Passes, came_by, puts_out}

-- a server after something, of what it was at the start
pub record IsOwn (start : View) (s : Served) : Type 0 where
  pub clients : (conn : ℕ) → has_client s.state conn ≡ true → has_client start conn ≡ true
  pub ends : (link : ℕ) → has_link s.state link ≡ true → has_link start link ≡ true
  pub met : AreEnds s.state.ends s.state.routes
  pub out : list_all (is_its_own start) s.out ≡ true

-- ---- one move

-- no client is there more
kept_client : (clients : Clients) (nick : List ℕ) (q : ℕ)
    → is_some (get (retain_keys clients (is_another clients nick)) q) ≡ true
    → is_some (get clients q) ≡ true
kept_client clients nick q is = either (is_another clients nick q)
    (sym (ap is_some (get-kept clients (is_another clients nick) q)) ∙ is)
  where
    either : (b : Bool) → is_some (cond b (get clients q) None) ≡ true
        → is_some (get clients q) ≡ true
    either true is = is
    either false is = absurd (cc is)

clients_fewer : {By : Mover → Type 0} {s t : Served} → Move By s t → (q : ℕ)
    → has_client t.state q ≡ true → has_client s.state q ≡ true
clients_fewer (does {s} conn effect by) q is = sym (same_clients effect s.state.clients q) ∙ is
clients_fewer (comes {s} arrival effect by counts) q is =
    sym (same_clients effect s.state.clients q) ∙ is
clients_fewer (shows {s} arrival effect by counts) q is =
    sym (same_clients effect s.state.clients q) ∙ is
clients_fewer (takes_out {s} arrival nick words true by there) q is =
    kept_client s.state.clients nick q is
clients_fewer (takes_out {s} arrival nick words false by there) q is =
    kept_client s.state.clients nick q is
clients_fewer other q is = is

-- each known server stays behind a link that counts
met_stays : {By : Mover → Type 0} {s t : Served} → Move By s t
    → AreEnds s.state.ends s.state.routes → AreEnds t.state.ends t.state.routes
met_stays (learns {s} number uplink name distance token info by here) met =
    added_met s.state.ends s.state.routes number uplink name distance token info met here
met_stays (forgets {s} arrival name by) met = left_met s.state.ends s.state.routes name met
met_stays (takes_out arrival nick words true by there) met = met
met_stays (takes_out arrival nick words false by there) met = met
met_stays other met = met

module _ (start : View) where
  -- ---- on links

  lines_own : (links : List ℕ) (parts : Written) → list_all (has_link start) links ≡ true
      → list_all (is_its_own start) (on_links links parts) ≡ true
  lines_own links parts had = all-map (has_link start) (is_its_own start)
      (λ link. line_on link (text parts)) (λ link is. is) links had

  met_own : (ends : Ends) → ((link : ℕ) → is_some (get ends link) ≡ true
      → has_link start link ≡ true) → list_all (has_link start) (met_links ends) ≡ true
  met_own ends had =
      all-map (λ (e : ℕ × End). has_link start e.0) (has_link start) (λ (e : ℕ × End). e.0)
      (λ e is. is) _
      (list_all-filter (λ (e : ℕ × End). has_link start e.0) (λ (e : ℕ × End). is_met e.1)
      (entries ends)
      (all_entries ends (has_link start) had))

  toward_own : (ends : Ends) (known : Known) → ((link : ℕ) → is_some (get ends link) ≡ true
      → has_link start link ≡ true) → AreEnds ends known → (homes : List (List ℕ))
      → list_all (has_link start) (links_toward known homes) ≡ true
  toward_own ends known had met homes =
      all_keys (from_entries {R = nat_cmp} (map link_key hops)) (has_link start)
      (λ q is. all_found (has_link start) q hops
      (all-gained (has_link start) (next_hop known)
      (λ name link is. had link (there (get ends link) (met name link is))) homes)
      (sym (ap is_some (get-from_entries nat_cmp_total (map link_key hops) q)) ∙ is))
    where
      hops : List ℕ
      hops = filter_map (next_hop known) homes

  but_own : (arrival : Option ℕ) (links : List ℕ) → list_all (has_link start) links ≡ true
      → list_all (has_link start) (but arrival links) ≡ true
  but_own arrival links had =
      list_all-filter (has_link start) (λ link. not (is_number arrival link)) links had

  -- what a move puts out is its own
  own_passes : (By : Mover → Type 0) (s : Served) → IsOwn start s
      → Passes By (is_its_own start) s.state
  own_passes By s own = record {
    to_client = λ conn line is. own.clients conn is;
    closing = own.clients;
    on_ways = λ mover by homes parts.
        lines_own (but (came_by mover) (ways_toward s.state.ends s.state.routes homes)) parts
        (but_own (came_by mover) (ways_toward s.state.ends s.state.routes homes) (toward homes));
  }
    where
      toward : (o : Option (List (List ℕ)))
          → list_all (has_link start) (ways_toward s.state.ends s.state.routes o) ≡ true
      toward None = met_own s.state.ends own.ends
      toward (Some homes) = toward_own s.state.ends s.state.routes own.ends own.met homes

  pub sent_own : (sent : List Sent) → list_all (is_its_own start) sent ≡ true → (s : Served)
      → IsOwn start s → IsOwn start (with_sent sent s)
  sent_own sent all s own = record {
    clients = own.clients;
    ends = own.ends;
    met = own.met;
    out = all-append (is_its_own start) s.out sent own.out all;
  }

  pub moves_own : (By : Mover → Type 0) {s t : Served} → Moves By s t → IsOwn start s
      → IsOwn start t
  moves_own By moves own = kept By (IsOwn start) move_own moves own
    where
      move_own : (s t : Served) → Move By s t → IsOwn start s → IsOwn start t
      move_own s t move own =
          let out = puts_out By (is_its_own start) move (own_passes By s own) in record {
            clients = λ conn is. own.clients conn (clients_fewer move conn is);
            ends = λ link is. own.ends link
                (sym (ap (λ ends. is_some (get ends link)) (ends_stay (one move))) ∙ is);
            met = met_stays move own.met;
            out = subst (λ sent. list_all (is_its_own start) sent ≡ true) (sym out.behind)
                (all-append (is_its_own start) s.out out.more own.out out.all);
          }
