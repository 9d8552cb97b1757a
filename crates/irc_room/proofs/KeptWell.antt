-- A room is well formed behind a change that was made, and behind one that was not.
use Rattle.std.proofs.Common.{◌≡◌, sym, subst}
use Rattle.std.specs.Prelude.{Result, Ok, Err, OnOk, OnErr}
use Rattle.irc_names.specs.Tables.{Table}
use Rattle.irc_users.specs.UserTable.{NumberedUsers}
use Rattle.irc_channels.specs.declared.channel.Channel.{Channel}
use Rattle.irc_effects.specs.declared.effect.Effect.{Effect}
use Rattle.irc_effects.specs.After.{after}
use Rattle.irc_effects.specs.Effects.{IsPossible}
use Rattle.irc_effects.specs.Room.{IsWellFormed}
use Rattle.irc_effects.specs.Lemmas.WellFormedLaw.{after_is_well_formed}
use Rattle.irc_room.specs.Codes.{room_of}

pub kept_well : {T E : Type 0} (result : Result T E) (users new_users : NumberedUsers)
    (channels new_channels : Table Channel) (effect : Effect) → IsWellFormed
    (room_of users.users channels) → IsPossible (room_of users.users channels) effect → OnOk result
    (room_of new_users.users new_channels ≡ after (room_of users.users channels) effect)
    → OnErr result ((new_users ≡ users) × (new_channels ≡ channels))
    → IsWellFormed (room_of new_users.users new_channels)
kept_well (Ok done) users new_users channels new_channels effect well possible changed refused =
    subst IsWellFormed (sym changed)
    (after_is_well_formed (room_of users.users channels) effect well possible)
kept_well (Err fault) users new_users channels new_channels effect well possible changed refused =
    let same : room_of users.users channels ≡ room_of new_users.users new_channels =
    λ i. room_of (sym refused.0 i).users (sym refused.1 i) in
    subst IsWellFormed same well
