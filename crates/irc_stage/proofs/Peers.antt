-- The peer of a name, as it is known.
use Rattle.std.proofs.Common.{◌≡◌, ℕ, Bool, true, false, cond, Some, List, [], ◌∷◌, find, map}
use Rattle.std.proofs.Common.{option_map, refl}
use Rattle.irc_stage.specs.declared.peer.Peer.{Peer}
use Rattle.irc_stage.specs.View.{is_named, is_peer_named, known_peer}

pub found_known : (name : List ℕ) (peers : List Peer) → find (is_named name) (map known_peer peers)
    ≡ option_map known_peer (find (is_peer_named name) peers)
found_known name [] = refl
found_known name (peer ∷ peers) = by (is_peer_named name peer) (found_known name peers)
  where
    by : (b : Bool) → find (is_named name) (map known_peer peers)
        ≡ option_map known_peer (find (is_peer_named name) peers)
        → cond b (Some (known_peer peer)) (find (is_named name) (map known_peer peers))
        ≡ option_map known_peer (cond b (Some peer) (find (is_peer_named name) peers))
    by true rest = refl
    by false rest = rest
