use Rattle.std.proofs.Common.{◌≡◌, ◌∙◌, ap, sym, subst, None, map}
use Rattle.irc_names.specs.Fold.{key}
use Rattle.irc_names.specs.Tables.{row, alter, each}
use Rattle.irc_tables.specs.RowViews.{row_entry}
use Rattle.irc_channels.specs.Channels.{has_member, is_invited, without_user}
use Rattle.irc_room.specs.Indexes.{folds_of, names_in, AreInhabited, TellsOfOthers}
use Rattle.irc_room.specs.Loops.InTurn.{in_turn}
use Rattle.irc_room.proofs.Invitations.{gone_in_turn, others_at_first, others_are_all}
use Rattle.irc_room.proofs.Memberships.{tells_at, tells_without}
use Rattle.irc_room.proofs.indexed_channels.IndexedChannels.remove_user.Goals as goal

pub remove_from_each-requires : goal.remove_from_each-requires
remove_from_each-requires c =
    others_at_first c.self.inside.invited.rows _
    (key c.args.nick.now) c.self.inside.rows c.self.invariant.invited
    (c.take-invited.ensures.after ∙ ap
    (λ n. alter (key n) (λ _. None) c.self.inside.invited.rows) c.as_bytes-2.ensures.value)

-- the user is gone from all channels
all_without : (c : goal.Joined-joined) → c.remove_from_each-2.new.channels
    ≡ each (without_user (key c.args.nick.now)) c.self.inside.rows
all_without c =
    let nick = key c.args.nick.now in
    let joined = c.self.inside.joined.rows in
    let invited = c.self.inside.invited.rows in
    let one = map row_entry c.rows_of.result.now in
    let other = map row_entry c.rows_of-2.result.now in
    c.remove_from_each-2.ensures.after
    ∙ ap (in_turn (without_user nick) (folds_of other)) c.remove_from_each.ensures.after
    ∙ gone_in_turn c.self.inside.rows joined invited nick c.self.invariant one other
    (c.rows_of.ensures ∙ ap names_in (c.take-joined.ensures.value
    ∙ ap (λ n. row joined (key n)) c.as_bytes.ensures.value))
    (c.rows_of-2.ensures ∙ ap names_in (c.take-invited.ensures.value
    ∙ ap (λ n. row invited (key n)) c.as_bytes-2.ensures.value))
    (subst AreInhabited (sym c.self.view_is) c.requires)

pub returns : goal.returns
returns c = all_without c ∙ ap (each (without_user (key c.args.nick.now))) c.self.view_is

pub invariant_of-self : goal.invariant_of-self
invariant_of-self c =
    let nick = key c.args.nick.now in
    let rows = c.self.inside.rows in record {
      joined =
          tells_at has_member _ _ _ (all_without c)
          (tells_without c.self.inside.joined.rows _ nick rows c.self.invariant.joined
          (c.take-joined.ensures.after ∙ ap (λ n.
          alter (key n) (λ _. None) c.self.inside.joined.rows) c.as_bytes.ensures.value));
      invited =
          tells_at is_invited _ _ _ (all_without c)
          (others_are_all nick rows _
          (subst (λ t. TellsOfOthers nick t c.remove_from_each-2.new.invited.rows)
          (all_without c) c.remove_from_each-2.ensures.others));
    }
