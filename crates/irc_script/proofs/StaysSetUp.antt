-- The servers of a script stay as they are set up, whatever it does.
use Rattle.std.proofs.Common.{◌≡◌, ℕ, Bool, true, false, Option, Some, None, List, [], ◌∷◌, map}
use Rattle.std.proofs.Common.{sym, refl, ◌∙◌, ap, if◌then◌else◌}
use Rattle.std.specs.List.{filter_map}
use Rattle.std.specs.Option.{option_and_then, option_map_or}
use Rattle.irc_net.specs.ByteNetwork.{ByteNetwork}
use Rattle.irc_net.specs.declared.fault.NetFault.{NetFault}
use Rattle.irc_net.specs.Calls.{delivery, line_between, piece_between, pipe_between}
use Rattle.irc_net.specs.Faults.{deliver_fault, item_fault}
use Rattle.irc_net.specs.Laws.{SettingsStay}
use Rattle.irc_net.specs.Network.{Progress, LinkPlaces, begun, link_places}
use Rattle.irc_net.specs.SetUp.{setting_at, settings_of}
use Rattle.irc_net.specs.World.{Setting}
use Rattle.irc_relay.specs.Links.{Name}
use Rattle.irc_pipes.specs.Pipes.{has_byte, through_line_feed}
use Rattle.irc_script.specs.Moves.{Move, gives, delivers_line, takes_bytes, settles_all}
use Rattle.irc_script.specs.Networks.{first_net, first_node, in_name_order, script_setting}
use Rattle.irc_script.specs.Networks.{script_settings}
use Rattle.irc_script.specs.Runs.{Comes, MoveOutcome, Plays, Runs, delivered_by, delivered_or, end}
use Rattle.irc_script.specs.Runs.{given_or, move, nothing, request, taken_or}
use Rattle.irc_script.specs.Scripts.{Request}

-- ---- as it begins

nodes_set_up : (names ordered : List Name)
    → filter_map setting_at (map (first_node names) ordered) ≡ map (script_setting names) ordered
nodes_set_up names [] = refl
nodes_set_up names (name ∷ ordered) =
    ap (λ settings. script_setting names name ∷ settings) (nodes_set_up names ordered)

pub first_set_up : (names : List Name)
    → settings_of (first_net names).network ≡ script_settings names
first_set_up names = nodes_set_up names (in_name_order names)

-- ---- move by move

abbrev settings_at : MoveOutcome → List Setting
settings_at outcome = settings_of outcome.network.network

module _ (law : SettingsStay) where
  line_set_up : (first : ByteNetwork) (o : Option LinkPlaces) (progress : Progress ByteNetwork)
      → option_and_then (line_between first) o ≡ Some progress
      → settings_of progress.state.network ≡ settings_of first.network
  line_set_up first None progress is = absurd (cc is)
  line_set_up first (Some ends) progress is = by (has_byte (pipe_between first ends)) is
    where
      count : ℕ
      count = through_line_feed (pipe_between first ends).bytes

      same_some : (a b : Progress ByteNetwork) → Some a ≡ Some b → a ≡ b
      same_some a b e = cc e

      by : (b : Bool)
          → ◌≡◌ {A = Option (Progress ByteNetwork)} (if b then Some (piece_between count first ends)
          else None) (Some progress)
          → settings_of progress.state.network ≡ settings_of first.network
      by true e = ap (λ (c : Progress ByteNetwork). settings_of c.state.network)
          (sym (same_some (piece_between count first ends) progress e))
          ∙ (law.come first ends.near ends.far count).settings
      by false e = absurd (cc e)

  piece_set_up : (first : ByteNetwork) (count : ℕ) (o : Option LinkPlaces)
      → settings_of (option_map_or (piece_between count first) o (begun first)).state.network
      ≡ settings_of first.network
  piece_set_up first count None = refl
  piece_set_up first count (Some ends) = (law.come first ends.near ends.far count).settings

  comes_set_up : (first : ByteNetwork) (m : Move) (outcome : MoveOutcome) → Comes first m outcome
      → settings_at outcome ≡ settings_of first.network
  comes_set_up first (gives item) outcome is = ap settings_at is ∙ by (item_fault first item)
    where
      by : (o : Option NetFault) → settings_at (given_or o item first) ≡ settings_of first.network
      by None = (law.given first item).settings
      by (Some fault) = refl
  comes_set_up first (delivers_line from to) outcome is =
      ap settings_at is ∙ by (deliver_fault first from to)
    where
      took : (o : Option (Progress ByteNetwork)) → delivery first from to ≡ o
          → settings_at (delivered_by o first) ≡ settings_of first.network
      took None none = refl
      took (Some progress) some =
          line_set_up first (link_places first.network from to) progress some

      by : (o : Option NetFault)
          → settings_at (delivered_or o from to first) ≡ settings_of first.network
      by None = took (delivery first from to) refl
      by (Some fault) = refl
  comes_set_up first (takes_bytes from to count) outcome is =
      ap settings_at is ∙ by (deliver_fault first from to)
    where
      by : (o : Option NetFault)
          → settings_at (taken_or o from to count first) ≡ settings_of first.network
      by None = piece_set_up first count (link_places first.network from to)
      by (Some fault) = refl
  comes_set_up first settles_all outcome is =
      (law.settled first outcome.network is.count is.receipts is.settles).settings

  plays_set_up : {first last : ByteNetwork} {moves : List Move} {text : List ℕ}
      → Plays first moves last text → settings_of last.network ≡ settings_of first.network
  plays_set_up nothing = refl
  plays_set_up {first = first} (move {m = m} outcome comes text_is rest) = plays_set_up rest
      ∙ comes_set_up first m outcome comes

  pub runs_set_up : {first last : ByteNetwork} {requests : List Request} {text : List ℕ}
      → Runs first requests last text → settings_of last.network ≡ settings_of first.network
  runs_set_up end = refl
  runs_set_up (request text_is plays rest) = runs_set_up rest ∙ plays_set_up plays
