use Rattle.std.proofs.Common.{◌∙◌, ap, sym, Option, Some, unwrap_or}
use Rattle.irc_names.specs.Fold.{key}
use Rattle.irc_names.specs.Tables.{row}
use Rattle.irc_names.specs.TableLaws.{same_fold}
use Rattle.irc_channels.specs.declared.channel.Channel.{Channel}
use Rattle.irc_channels.specs.Channels.{has_member, is_invited, new_channel, joined}
use Rattle.irc_room.specs.Indexes.{holds}
use Rattle.irc_effects.specs.Lemmas.Members.{joined_said}
use Rattle.irc_room.proofs.Invitations.{drops_of, joined_asked}
use Rattle.irc_room.proofs.Memberships.{tells_at, tells_added, tells_dropped, tells_restored}
use Rattle.irc_room.proofs.Memberships.{joined_already}
use Rattle.irc_room.proofs.indexed_channels.IndexedChannels.join.Goals as goal

pub returns-then-is_in-clause-ok : goal.returns-then-is_in-clause-ok
returns-then-is_in-clause-ok c =
    sym (joined_already (key c.args.nick.now) c.args.channel.now c.args.op c.args.self.now
    (sym (ap (λ t. holds has_member t (key c.args.nick.now) (key c.args.channel.now))
    c.self.view_is) ∙ sym c.is_in.ensures ∙ c.if-is_in.true))

pub invariant_of-self-in-Ok : goal.invariant_of-self-in-Ok
invariant_of-self-in-Ok c =
    let name = key c.args.channel.now in
    let nick = key c.args.nick.now in
    let rows = c.self.inside.rows in
    let change : Option Channel → Option Channel =
    λ o. Some (joined nick c.args.op (unwrap_or o (new_channel c.args.channel.now))) in record {
      joined =
          tells_at has_member _ _ _ c.in-Ok.ensures.ok
          (tells_added has_member c.self.inside.joined.rows name change rows c.self.invariant.joined
          _ nick c.in_ok-add.ensures.ok
          (λ n. joined_said nick c.args.channel.now c.args.op (row rows name) n));
      invited =
          tells_at is_invited _ _ _ c.in-Ok.ensures.ok
          (tells_dropped is_invited c.self.inside.invited.rows name change rows
          c.self.invariant.invited _ (λ n. same_fold n nick)
          (drops_of _ _ _ c.args.nick.now _ c.args.channel.now c.as_bytes.ensures.value
          c.as_bytes-in-Ok.ensures.value c.remove.ensures.dropped)
          (λ n. joined_asked nick c.args.channel.now c.args.op (row rows name)
          (sym c.is_in.ensures ∙ c.if-is_in.false) n));
    }

pub invariant_of-self-in-Err : goal.invariant_of-self-in-Err
invariant_of-self-in-Err c =
    let name = key c.args.channel.now in
    let nick = key c.args.nick.now in record {
      joined =
          tells_at has_member _ _ _ c.in-Err.ensures.refused
          (tells_restored (holds has_member c.self.inside.rows) c.self.inside.joined.rows
          c.add.new.self.rows _ nick name c.self.invariant.joined
          (sym c.is_in.ensures ∙ c.if-is_in.false) c.in_ok-add.ensures.ok
          (drops_of _ _ _ c.args.nick.now _ c.args.channel.now c.as_bytes-in-Err.ensures.value
          c.as_bytes-in-Err-2.ensures.value c.remove-in-Err.ensures.dropped));
      invited = tells_at is_invited _ _ _ c.in-Err.ensures.refused c.self.invariant.invited;
    }
