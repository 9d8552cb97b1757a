use Rattle.std.proofs.Common.{option_map}
use Rattle.irc_names.specs.Fold.{key}
use Rattle.irc_names.specs.Tables.{row}
use Rattle.irc_channels.specs.Channels.{has_member, is_invited, all_changed}
use Rattle.irc_room.proofs.Invitations.{invited_changed_modes}
use Rattle.irc_room.proofs.Memberships.{tells_either, tells_kept, mapped_said}
use Rattle.irc_effects.specs.Lemmas.Members.{member_changed_modes}
use Rattle.irc_room.proofs.indexed_channels.IndexedChannels.change_modes.Goals as goal

pub invariant_of-self : goal.invariant_of-self
invariant_of-self c =
    let name = key c.args.channel.now in
    let changes = c.args.changes.now in
    let rows = c.self.inside.rows in record {
      joined =
          tells_either has_member _ c.change_modes.result _ _ _ c.change_modes.ensures.ok
          c.change_modes.ensures.refused
          (tells_kept has_member c.self.inside.joined.rows name
          (option_map (all_changed changes)) rows c.self.invariant.joined
          (λ n. mapped_said has_member (all_changed changes) (λ m channel. member_changed_modes
          changes m channel) (row rows name) n)) c.self.invariant.joined;
      invited =
          tells_either is_invited _ c.change_modes.result _ _ _ c.change_modes.ensures.ok
          c.change_modes.ensures.refused
          (tells_kept is_invited c.self.inside.invited.rows name
          (option_map (all_changed changes)) rows c.self.invariant.invited
          (λ n. mapped_said is_invited (all_changed changes) (λ m channel. invited_changed_modes
          changes m channel) (row rows name) n)) c.self.invariant.invited;
    }
