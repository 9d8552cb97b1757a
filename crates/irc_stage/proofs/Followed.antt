-- Who listens where is known still when clients come and go, and when an effect is followed.
use Rattle.std.proofs.Common.{◌≡◌, ℕ, Option, Some, None, refl, sym, ap, subst}
use Rattle.irc_names.specs.Fold.{key}
use Rattle.irc_names.specs.Tables.{Table, row}
use Rattle.irc_room.specs.effect.Effect.{Effect}
use Rattle.irc_room.specs.effect.Effect.TheVariants.{Rename}
use Rattle.irc_room.specs.After.{after}
use Rattle.irc_room.specs.Applying.{ServerRoom}
use Rattle.irc_room.specs.Room.{Room}
use Rattle.irc_stage.specs.declared.clients.Client.{Client}
use Rattle.irc_stage.specs.declared.clients.Client.TheVariants.{Registering, Registered}
use Rattle.irc_stage.specs.RoomMachine.{Clients}
use Rattle.irc_stage.specs.Lemmas.Matching.{named_is}
use Rattle.irc_stage.specs.Loops.Listening.{Lists, AreSo, BringsNone, IsListenerGone}
use Rattle.irc_stage.specs.Loops.Listening.{IsListenerSeated}
use Rattle.irc_stage.specs.Loops.Parts.{departed, entered, IsIndex, LeavesApart}
use Rattle.irc_stage.proofs.ListsKept.{left_so, own_gone, seated_so}

module _ (room : Room) (by_nick : Table ℕ) (old new : Lists) (so : AreSo old room by_nick) where
  same_lists : new ≡ old → AreSo new room by_nick
  same_lists is = subst (λ (lists : Lists). AreSo lists room by_nick) (sym is) so

  pub seated : (conn : ℕ) (client : Client) → IsListenerSeated room conn client old new
      → AreSo new room (entered conn client by_nick)
  seated conn (Registering pending) is = same_lists is
  seated conn (Registered nick) sets = seated_so room by_nick nick old new so conn sets

  pub taken_out : (client : Option Client) → IsListenerGone room client old new
      → AreSo new room (departed client by_nick)
  taken_out None is = same_lists is
  taken_out (Some (Registering pending)) is = same_lists is
  taken_out (Some (Registered nick)) leaves =
      left_so room by_nick nick old new so (own_gone (key nick) old new room by_nick so leaves)

-- with the index as it is then
pub so_by : (lists : Lists) (room : Room) (index other : Table ℕ) → index ≡ other
    → AreSo lists room other → AreSo lists room index
so_by lists room index other is so = subst (AreSo lists room) (sym is) so

-- and with the room as it is then
pub so_in : (lists : Lists) (kept now : ServerRoom) (effect : Effect) (index other : Table ℕ)
    → now ≡ record kept { room = after kept.room effect } → index ≡ other
    → AreSo lists (after kept.room effect) other → AreSo lists now.room index
so_in lists kept now effect index other now_is is so =
    subst (λ (k : ServerRoom). AreSo lists k.room index) (sym now_is)
    (so_by lists (after kept.room effect) index other is so)

-- a nickname that a user takes is no other client's
pub brings_none : (clients : Clients) (by_nick : Table ℕ) → IsIndex clients by_nick
    → (effect : Effect) → LeavesApart effect clients → BringsNone effect by_nick
brings_none clients by_nick index (Rename nick new) apart =
    λ none. by (row by_nick (key new)) refl none
  where
    by : (o : Option ℕ) → row by_nick (key new) ≡ o → row by_nick (key nick) ≡ None
        → row by_nick (key new) ≡ None
    by None at none = at
    by (Some conn) at none =
        named_is (key new) _ (index.there (key new) conn at) (λ name is named.
        let found = index.found conn name is in
        let folds = ap (row by_nick) (apart conn name is named) in cc)
brings_none clients by_nick index other apart = tt
