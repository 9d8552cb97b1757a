use Rattle.std.proofs.Common.{◌∙◌, ap, refl, sym, option_map}
use Rattle.irc_names.specs.Fold.{key}
use Rattle.irc_names.specs.Tables.{row}
use Rattle.irc_channels.specs.Channels.{has_member, is_invited, invited_too}
use Rattle.irc_effects.specs.Lemmas.Rows.{alter_same}
use Rattle.irc_room.specs.Indexes.{holds, is_uninvited}
use Rattle.irc_room.proofs.Invitations.{drops_of, invited_already, invited_asked}
use Rattle.irc_room.proofs.Invitations.{uninvited_out}
use Rattle.irc_room.proofs.Memberships.{tells_at, tells_added, tells_kept, tells_restored}
use Rattle.irc_room.proofs.Memberships.{mapped_said}
use Rattle.irc_room.proofs.indexed_channels.IndexedChannels.invite.Goals as goal

pub returns-then-not-can_be_invited-clause-ok : goal.returns-then-not-can_be_invited-clause-ok
returns-then-not-can_be_invited-clause-ok c =
    let nick = key c.args.nick.now in
    let name = key c.args.channel.now in
    sym (alter_same name (option_map (invited_too nick)) c.args.self.now
    (invited_already nick (row c.args.self.now name)
    (ap (λ t. holds is_uninvited t nick name) (sym c.self.view_is) ∙ sym c.can_be_invited.ensures
    ∙ c.if-not-can_be_invited.true)))

pub invariant_of-self-in-Ok : goal.invariant_of-self-in-Ok
invariant_of-self-in-Ok c =
    let nick = key c.args.nick.now in
    let name = key c.args.channel.now in
    let rows = c.self.inside.rows in record {
      joined =
          tells_at has_member _ _ _ c.in-Ok.ensures.ok
          (tells_kept has_member c.self.inside.joined.rows name
          (option_map (invited_too nick)) rows c.self.invariant.joined
          (λ n. mapped_said has_member (invited_too nick) (λ m channel. refl) (row rows name) n));
      invited =
          tells_at is_invited _ _ _ c.in-Ok.ensures.ok
          (tells_added is_invited c.self.inside.invited.rows name
          (option_map (invited_too nick)) rows c.self.invariant.invited _ nick
          c.in_ok-add.ensures.ok (λ n. invited_asked nick (row rows name)
          (sym c.can_be_invited.ensures ∙ c.if-not-can_be_invited.false) n));
    }

pub invariant_of-self-in-Err : goal.invariant_of-self-in-Err
invariant_of-self-in-Err c =
    let nick = key c.args.nick.now in
    let name = key c.args.channel.now in
    let rows = c.self.inside.rows in record {
      joined = tells_at has_member _ _ _ c.in-Err.ensures.refused c.self.invariant.joined;
      invited =
          tells_at is_invited _ _ _ c.in-Err.ensures.refused
          (tells_restored (holds is_invited rows) c.self.inside.invited.rows c.add.new.self.rows _
          nick name c.self.invariant.invited
          (uninvited_out nick (row rows name) (sym c.can_be_invited.ensures
          ∙ c.if-not-can_be_invited.false)) c.in_ok-add.ensures.ok
          (drops_of _ _ _ c.args.nick.now _ c.args.channel.now c.as_bytes.ensures.value
          c.as_bytes-in-Err.ensures.value c.remove.ensures.dropped));
    }
