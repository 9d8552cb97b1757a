use Rattle.std.proofs.Common.{◌≡◌, ◌++◌, map, drop}
use Rattle.std.specs.List.{list_all, filter_map}
use Rattle.toml.specs.Data.{as_table}
use Rattle.toml.specs.View.{view}
use Rattle.irc_settings.specs.Configuration.{peer_at, peer_told}
use Rattle.irc_settings.specs.Keys.{is_peer, is_table}
use Rattle.irc_settings.proofs.peers.all_peers.Given as goal

-- what is found stands before what the values that are left tell
abbrev pub invariant-loop-value : goal.invariant-loop-value
invariant-loop-value l = record {
  tested : list_all (is_table is_peer) (map view l.fn.values) ≡ list_all (is_table is_peer)
      (map view (drop l.value-index l.values));
  told : map peer_at (filter_map as_table (map view l.fn.values)) ≡ map peer_told l.found.items
      ++ map peer_at (filter_map as_table (map view (drop l.value-index l.values)));
}
