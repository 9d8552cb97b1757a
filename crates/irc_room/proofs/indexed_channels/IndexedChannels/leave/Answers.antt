use Rattle.std.proofs.Common.{subst, sym, ◌∙◌, ap}
use Rattle.std.specs.Option.{option_and_then}
use Rattle.irc_names.specs.Fold.{key}
use Rattle.irc_names.specs.Tables.{row}
use Rattle.irc_names.specs.TableLaws.{same_fold}
use Rattle.irc_channels.specs.Channels.{has_member, is_invited, left}
use Rattle.irc_effects.specs.Lemmas.Rows.{alter_same}
use Rattle.irc_room.specs.Indexes.{holds, is_ended_with, DropsWhere}
use Rattle.irc_effects.specs.Lemmas.Members.{left_said}
use Rattle.irc_room.proofs.Invitations.{drops_of, left_asked, out_left}
use Rattle.irc_room.proofs.Memberships.{tells_at, tells_dropped}
use Rattle.irc_room.proofs.indexed_channels.IndexedChannels.leave.Goals as goal

pub returns-then-not-is_in : goal.returns-then-not-is_in
returns-then-not-is_in c =
    let nick = key c.args.nick.now in
    let name = key c.args.channel.now in
    sym (alter_same name (option_and_then (left nick)) c.args.self.now
    (out_left nick (row c.args.self.now name)
    (ap (λ t. holds has_member t nick name) (sym c.self.view_is) ∙ sym c.is_in.ensures
    ∙ c.if-not-is_in.true)))

pub invariant_of-self : goal.invariant_of-self
invariant_of-self c =
    let nick = key c.args.nick.now in
    let name = key c.args.channel.now in
    let rows = c.self.inside.rows in
    let change = option_and_then (left nick) in record {
      joined =
          tells_at has_member _ _ _ c.leave.ensures
          (tells_dropped has_member c.self.inside.joined.rows name change rows
          c.self.invariant.joined _ (λ n. same_fold n nick)
          (drops_of _ _ _ c.args.nick.now _ c.args.channel.now c.as_bytes-2.ensures.value
          c.as_bytes-3.ensures.value c.remove.ensures.dropped)
          (λ n. left_said nick (row rows name) n));
      invited =
          tells_at is_invited _ _ _ c.leave.ensures
          (tells_dropped is_invited c.self.inside.invited.rows name change rows
          c.self.invariant.invited _ (λ n. holds (is_ended_with nick) rows n name)
          (subst (λ q. DropsWhere (λ n. holds (is_ended_with nick) rows n
          (key q)) c.self.inside.invited.rows c.forget_if_alone.new.invited.rows (key q))
          c.as_bytes.ensures.value c.forget_if_alone.ensures)
          (λ n. left_asked nick (row rows name) (sym c.is_in.ensures ∙ c.if-not-is_in.false) n));
    }
