-- What holds of effects as edits.
use Rattle.std.specs.Prelude.{◌≡◌, ℕ, true, List}
use Rattle.irc_names.specs.Fold.{key}
use Rattle.irc_names.specs.Names.{IsChannel, IsNick}
use Rattle.irc_documents.specs.Lists.{all_done, AllMay}
use Rattle.irc_effects.specs.declared.effect.Effect.{Effect}
use Rattle.irc_effects.specs.After.{after, titled_by}
use Rattle.irc_effects.specs.Effects.{IsPossible}
use Rattle.irc_effects.specs.Limits.{IsWithinLimits, KeepsLimits}
use Rattle.irc_effects.specs.Room.{Room, IsWellFormed}
use Rattle.irc_edited_rooms.specs.Documents.{Document, Edit, Nick, IsSound, is_name}
use Rattle.irc_edited_rooms.specs.EditedRooms.{edited_rooms}
use Rattle.irc_room_edits.specs.Documents.{document}
use Rattle.irc_room_edits.specs.Edits.{edits_of, spelling_edits}
use Rattle.irc_room_edits.specs.Places.{Place}

-- all nicknames are among these
abbrev pub HasAllNicks : List Nick → Type 0
HasAllNicks names = (nick : List ℕ) → IsNick nick → is_name names (key nick) ≡ true

-- these edits can be made in one document, one behind another, and make another one of it
pub record Lead (names : List Nick) (one : Document Place) (edits : List (Edit Place))
    (other : Document Place) : Type 0 where
  pub may : AllMay (edited_rooms names) one edits
  pub same : all_done (edited_rooms names) one edits ≡ other

-- The document of a room is sound.
abbrev pub DocumentsAreSound : Type 0
DocumentsAreSound = (names : List Nick) → HasAllNicks names → (room : Room) → IsWellFormed room
    → IsWithinLimits room → IsSound names (document room)

-- An effect that can be done in a room is the edits that it is said to be.
abbrev pub EffectsAreEdits : Type 0
EffectsAreEdits = (names : List Nick) → HasAllNicks names → (room : Room) (effect : Effect)
    → IsWellFormed room → IsWithinLimits room → IsPossible room effect → KeepsLimits effect
    → Lead names (document room) (edits_of room effect) (document (after room effect))

abbrev pub SpellingsAreEdits : Type 0
SpellingsAreEdits = (names : List Nick) → HasAllNicks names → (room : Room) (name : List ℕ)
    → IsChannel name → IsWellFormed room → IsWithinLimits room
    → Lead names (document room) (spelling_edits room name) (document (titled_by name room))
