-- A network stays sound whatever a script does to it.
use Rattle.std.proofs.Common.{◌≡◌, ℕ, Bool, true, false, Option, Some, None, List, sym, subst, refl}
use Rattle.std.proofs.Common.{if◌then◌else◌}
use Rattle.std.specs.Bool.{⊤}
use Rattle.std.specs.List.{AllByRecursion}
use Rattle.std.specs.Option.{option_and_then, option_map_or}
use Rattle.std.proofs.lemmas.Option.{same_Some}
use Rattle.irc_net.specs.ByteNetwork.{ByteNetwork}
use Rattle.irc_net.specs.declared.fault.NetFault.{NetFault}
use Rattle.irc_net.specs.Calls.{delivery, line_between, piece_between, pipe_between}
use Rattle.irc_net.specs.Faults.{deliver_fault, item_fault}
use Rattle.irc_net.specs.Laws.{StaysKept}
use Rattle.irc_net.specs.OneRoom.{IsKeptSound}
use Rattle.irc_net.specs.Network.{Progress, LinkPlaces, begun, link_places}
use Rattle.irc_pipes.specs.Pipes.{has_byte, through_line_feed}
use Rattle.irc_net.specs.WithinLimits.{IsItemWithin}
use Rattle.irc_script.specs.Moves.{Move, gives, delivers_line, takes_bytes, settles_all, moves_of}
use Rattle.irc_script.specs.Runs.{Comes, MoveOutcome, Plays, Runs, delivered_by, delivered_or, end}
use Rattle.irc_script.specs.Runs.{given_or, move, nothing, request, taken_or}
use Rattle.irc_script.specs.Scripts.{Request}

-- what a move gives is within the limits
abbrev pub IsMoveWithin : Move → Type 0
IsMoveWithin (gives item) = IsItemWithin item
IsMoveWithin (delivers_line from to) = ⊤
IsMoveWithin (takes_bytes from to count) = ⊤
IsMoveWithin settles_all = ⊤

abbrev pub IsRequestWithin : Request → Type 0
IsRequestWithin r = AllByRecursion IsMoveWithin (moves_of r)

-- a network that comes of another one is sound, as the outcome of a move
abbrev IsKeptIn : MoveOutcome → Type 0
IsKeptIn outcome = IsKeptSound outcome.network

-- the line that comes between two servers, if one does
line_kept : StaysKept → (first : ByteNetwork) (o : Option LinkPlaces)
    (progress : Progress ByteNetwork) → option_and_then (line_between first) o ≡ Some progress
    → IsKeptSound first → IsKeptSound progress.state
line_kept laws first None progress is kept = absurd (cc is)
line_kept laws first (Some ends) progress is kept = by (has_byte (pipe_between first ends)) is
  where
    count : ℕ
    count = through_line_feed (pipe_between first ends).bytes

    by : (b : Bool)
        → ◌≡◌ {A = Option (Progress ByteNetwork)} (if b then Some (piece_between count first ends)
        else None) (Some progress) → IsKeptSound progress.state
    by true e =
        subst (λ (c : Progress ByteNetwork). IsKeptSound c.state)
        (same_Some (piece_between count first ends)
        progress e) (laws.come first ends.near ends.far count kept)
    by false e = absurd (cc e)

-- the bytes that come between two servers, if there are such
piece_kept : StaysKept → (first : ByteNetwork) (count : ℕ)
    (o : Option LinkPlaces) → IsKeptSound first
    → IsKeptSound (option_map_or (piece_between count first) o (begun first)).state
piece_kept laws first count None kept = kept
piece_kept laws first count (Some ends) kept = laws.come first ends.near ends.far count kept

pub comes_kept : StaysKept → (first : ByteNetwork) (m : Move) (outcome : MoveOutcome)
    → IsMoveWithin m → Comes first m outcome → IsKeptSound first → IsKeptSound outcome.network
comes_kept laws first (gives item) outcome within is kept = by (item_fault first item) refl is
  where
    by : (o : Option NetFault) → item_fault first item ≡ o → outcome ≡ given_or o item first
        → IsKeptSound outcome.network
    by None none e = subst IsKeptIn (sym e) (laws.given first item kept none within)
    by (Some fault) some e = subst IsKeptIn (sym e) kept
comes_kept laws first (delivers_line from to) outcome within is kept =
    by (deliver_fault first from to) is
  where
    took : (o : Option (Progress ByteNetwork)) → delivery first from to ≡ o
        → outcome ≡ delivered_by o first → IsKeptSound outcome.network
    took None none e = subst IsKeptIn (sym e) kept
    took (Some progress) some e = subst IsKeptIn (sym e)
        (line_kept laws first (link_places first.network from to) progress some kept)

    by : (o : Option NetFault) → outcome ≡ delivered_or o from to first
        → IsKeptSound outcome.network
    by None e = took (delivery first from to) refl e
    by (Some fault) e = subst IsKeptIn (sym e) kept
comes_kept laws first (takes_bytes from to count) outcome within is kept =
    by (deliver_fault first from to) is
  where
    by : (o : Option NetFault) → outcome ≡ taken_or o from to count first
        → IsKeptSound outcome.network
    by None e = subst IsKeptIn (sym e)
        (piece_kept laws first count (link_places first.network from to) kept)
    by (Some fault) e = subst IsKeptIn (sym e) kept
comes_kept laws first settles_all outcome within is kept =
    laws.settled first outcome.network is.count is.receipts kept is.settles

pub plays_kept : StaysKept → {first last : ByteNetwork} {moves : List Move} {text : List ℕ}
    → AllByRecursion IsMoveWithin moves → Plays first moves last text → IsKeptSound first
    → IsKeptSound last
plays_kept laws within nothing kept = kept
plays_kept laws {first = first} within (move {m = m} outcome comes text_is rest) kept =
    plays_kept laws within.1 rest (comes_kept laws first m outcome within.0 comes kept)

pub runs_kept : StaysKept → {first last : ByteNetwork} {requests : List Request} {text : List ℕ}
    → AllByRecursion IsRequestWithin requests → Runs first requests last text → IsKeptSound first
    → IsKeptSound last
runs_kept laws within end kept = kept
runs_kept laws within (request text_is plays rest) kept =
    runs_kept laws within.1 rest (plays_kept laws within.0 plays kept)
