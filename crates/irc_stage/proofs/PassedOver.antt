-- Who speaks is passed over by its connection: it is the one that the index has under its nickname.
use Rattle.std.proofs.Common.{◌≡◌, ℕ, Bool, Option, Some, None, List, refl, sym, ◌∙◌, ap}
use Rattle.arrayvec.specs.ArrayVec.{ArrayVec}
use Rattle.irc_names.specs.Fold.{key}
use Rattle.irc_names.specs.Tables.{Table, row}
use Rattle.irc_room.specs.effect.Effect.TheVariants.{Say}
use Rattle.irc_room.specs.effect.Target.{Target}
use Rattle.irc_stage.specs.declared.origin.Origin.{Origin}
use Rattle.irc_stage.specs.declared.origin.Origin.TheVariants.{Client, Link, Own}
use Rattle.irc_stage.specs.RoomMachine.{RoomMachine, client_of}
use Rattle.irc_stage.specs.Loops.Speaking.{conn_of, IsSpoken}
use Rattle.irc_stage.specs.Loops.Parts.{IsIndex, IsRegisteredAs}
use Rattle.irc_stage.specs.Lemmas.Matching.{named_is}

-- whom no client speaks for has no connection
nobody : (machine : RoomMachine) (by_nick : Table ℕ) → IsIndex machine.clients by_nick
    → (by : List ℕ) → ((conn : ℕ) → IsRegisteredAs (key by) (client_of machine conn) → ⊥)
    → (found : Option ℕ) → row by_nick (key by) ≡ found → None ≡ row by_nick (key by)
nobody machine by_nick index by spoken None is = sym is
nobody machine by_nick index by spoken (Some conn) is =
    absurd (spoken conn (index.there (key by) conn is))

pub is_its_conn : (origin : Origin) (machine : RoomMachine) (by_nick : Table ℕ)
    → IsIndex machine.clients by_nick → (by : List ℕ) (notice : Bool) (target : Target)
    (words : ArrayVec ℕ) → IsSpoken origin machine (Say by notice target words)
    → conn_of origin ≡ row by_nick (key by)
is_its_conn (Client speaker) machine by_nick index by notice target words spoken =
    named_is (key by) (client_of machine speaker.conn) spoken
    (λ nick is named. sym (index.found speaker.conn nick is) ∙ ap (row by_nick) named)
is_its_conn (Link link) machine by_nick index by notice target words spoken =
    nobody machine by_nick index by spoken (row by_nick (key by)) refl
is_its_conn Own machine by_nick index by notice target words spoken =
    nobody machine by_nick index by spoken (row by_nick (key by)) refl
