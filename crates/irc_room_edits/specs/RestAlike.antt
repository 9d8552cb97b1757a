-- Servers with rooms whose documents are edited, whatever overlaps: once nothing is on its way in a
-- part, all servers of the part hold the same users, homes, members with flags, modes, keys,
-- limits, bans, topics and spellings.
--
-- a.net - b.net - c.net, in #c al of a.net, bo of b.net and cy of c.net, all operators
--   :al TOPIC #c :one   :bo KICK #c cy :out   :cy NICK zed   :cy MODE #c +k x   all said at once
--   at rest all three have #c with the topic one and the key x, al and bo in it, and zed outside
use Rattle.std.specs.Prelude.{◌≡◌, List, []}
use Rattle.irc_relay.specs.Links.{Name, AreJoined}
use Rattle.irc_documents.specs.Editing.{Editing}
use Rattle.irc_documents.specs.Laws.{IsQuietPart}
use Rattle.irc_documents.specs.Networks.{AllMayBe, Net, Step, after_all}
use Rattle.irc_documents.specs.Pieces.{Cut, in_pieces}
use Rattle.irc_effects.specs.After.{after}
use Rattle.irc_effects.specs.Effects.{IsPossible}
use Rattle.irc_effects.specs.Limits.{IsWithinLimits, KeepsLimits}
use Rattle.irc_effects.specs.declared.effect.Effect.{Effect}
use Rattle.irc_effects.specs.Room.{Room, IsWellFormed}
use Rattle.irc_edited_rooms.specs.Documents.{Document, Edit}
use Rattle.irc_edited_rooms.specs.EditedRooms.{edited_rooms}
use Rattle.irc_room_edits.specs.AllNicks.{all_nicks}
use Rattle.irc_room_edits.specs.Documents.{document}
use Rattle.irc_room_edits.specs.Edits.{edits_of}
use Rattle.irc_room_edits.specs.Places.{Place}
use Rattle.irc_room_edits.specs.SameRooms.{HoldTheSame}

-- what a server is given at once, or reads at once: edits one behind another, as those of one
-- effect
abbrev pub Piece : Type 0
Piece = List (Edit Place)

-- each server has a room, and its document is that of the room
pub record HaveRooms (net : Net (Document Place) Piece) (room : Name → Room) : Type 0 where
  pub well : (s : Name) → IsWellFormed (room s)
  pub within : (s : Name) → IsWithinLimits (room s)
  pub documents : (s : Name) → net.doc s ≡ document (room s)

-- pieces are passed on cut in any way that keeps what they do
abbrev pub pieces : Cut (edited_rooms {Place = Place} all_nicks) → Editing (Document Place) Piece
pieces cut = in_pieces (edited_rooms all_nicks) cut

abbrev pub RoomsRestAlike : Type 0
RoomsRestAlike = (cut : Cut (edited_rooms all_nicks)) (start : Net (Document Place) Piece)
    (steps : List (Step Piece)) → start.links ≡ [] → AllMayBe (pieces cut) start steps
    → (room : Name → Room) → HaveRooms (after_all (pieces cut) start steps) room → (s t : Name)
    → AreJoined (after_all (pieces cut) start steps).links s t
    → IsQuietPart (pieces cut) (after_all (pieces cut) start steps) s
    → HoldTheSame (room s) (room t)

-- What is given to a server with a room may be an effect that can be done there: its edits may be
-- made, and the server's document is then that of the room behind it.
pub record IsGiven (cut : Cut (edited_rooms all_nicks)) (room : Room)
    (effect : Effect) : Type 0 where
  pub may : (pieces cut).may (document room) (edits_of room effect)
  pub same : (pieces cut).done (document room) (edits_of room effect)
      ≡ document (after room effect)

abbrev pub EffectsCanBeGiven : Type 0
EffectsCanBeGiven = (cut : Cut (edited_rooms all_nicks)) (room : Room) (effect : Effect)
    → IsWellFormed room → IsWithinLimits room → IsPossible room effect → KeepsLimits effect
    → IsGiven cut room effect
