use Rattle.std.proofs.Common.{◌≡◌, ◌∙◌, ap, refl, sym, subst, Some, map}
use Rattle.irc_names.specs.Fold.{key}
use Rattle.irc_names.specs.Tables.{row, each}
use Rattle.irc_tables.specs.RowViews.{row_entry}
use Rattle.irc_channels.specs.Channels.{has_member, is_invited, renamed}
use Rattle.irc_room.specs.Indexes.{folds_of, names_in, AreIndexed, IsFreeOf}
use Rattle.irc_room.specs.Loops.InTurn.{in_turn}
use Rattle.irc_room.proofs.Invitations.{renamed_in_turn}
use Rattle.irc_room.proofs.Memberships.{still_indexed, tells_at, tells_renamed}
use Rattle.irc_room.proofs.Memberships.{tells_reinvited}
use Rattle.irc_room.proofs.indexed_channels.IndexedChannels.rename_user.Goals as goal

-- the indexes tell the same where there is a way in each
indexed : (c : goal.After-rename-3)
    → AreIndexed c.self.inside.rows c.make_way.new.self.rows c.make_way-2.new.self.rows
indexed c =
    still_indexed c.self.inside.rows c.self.inside.joined.rows c.self.inside.invited.rows
    c.make_way.new.self.rows c.make_way-2.new.self.rows c.self.invariant
    c.make_way.ensures.alike c.make_way-2.ensures.alike

-- all channels are as they are with the nickname changed in each
all_renamed : (c : goal.After-rename-3) → c.rename_in_each-2.new.channels ≡ each (λ channel.
    Some (renamed (key c.args.nick.now) (key c.args.new.now) channel)) c.self.inside.rows
all_renamed c =
    let joined = c.make_way.new.self.rows in
    let invited = c.make_way-2.new.self.rows in
    let one = map row_entry c.names.result.now in
    let other = map row_entry c.names-2.result.now in
    c.rename_in_each-2.ensures
    ∙ ap (in_turn (λ channel. Some (renamed (key c.args.nick.now) (key c.args.new.now) channel))
    (folds_of other)) c.rename_in_each.ensures
    ∙ renamed_in_turn c.self.inside.rows joined invited (key c.args.nick.now) (indexed c) one other
    (c.names.ensures ∙ ap (λ n. names_in (row joined (key n))) c.as_bytes.ensures.value)
    (c.names-2.ensures ∙ ap (λ n. names_in (row invited (key n))) c.as_bytes-2.ensures.value)
    (key c.args.new.now)

pub returns-clause-channels : goal.returns-clause-channels
returns-clause-channels c = all_renamed c ∙ ap (each
    (λ channel. Some (renamed (key c.args.nick.now) (key c.args.new.now) channel))) c.self.view_is

pub invariant_of-self : goal.invariant_of-self
invariant_of-self c =
    still_indexed c.self.inside.rows c.self.inside.joined.rows c.self.inside.invited.rows
    c.make_way.new.self.rows c.self.inside.invited.rows c.self.invariant
    c.make_way.ensures.alike (record { at = λ n name. refl })

pub invariant_of-self-2 : goal.invariant_of-self-2
invariant_of-self-2 c =
    let nick = key c.args.nick.now in
    let new = key c.args.new.now in
    let free = subst (λ t. IsFreeOf t nick new) (sym c.self.view_is) c.requires.free in record {
      joined =
          tells_at has_member _ _ _ (all_renamed c)
          (tells_renamed c.make_way.new.self.rows _ nick new c.self.inside.rows
          (indexed c).joined free c.rename-2.ensures);
      invited =
          tells_at is_invited _ _ _ (all_renamed c)
          (tells_reinvited c.make_way-2.new.self.rows _ nick new c.self.inside.rows
          (indexed c).invited free c.rename-3.ensures);
    }
