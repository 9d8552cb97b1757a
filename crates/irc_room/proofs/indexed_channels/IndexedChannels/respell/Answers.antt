use Rattle.std.proofs.Common.{refl, option_map}
use Rattle.irc_names.specs.Fold.{key}
use Rattle.irc_names.specs.Tables.{row}
use Rattle.irc_channels.specs.Channels.{has_member, is_invited, respelled}
use Rattle.irc_room.proofs.Memberships.{tells_at, tells_kept, mapped_said}
use Rattle.irc_room.proofs.indexed_channels.IndexedChannels.respell.Goals as goal

pub invariant_of-self : goal.invariant_of-self
invariant_of-self c =
    let name = key c.args.channel.now in
    let change = respelled c.args.channel.now in
    let rows = c.self.inside.rows in record {
      joined =
          tells_at has_member _ _ _ c.respell.ensures
          (tells_kept has_member c.self.inside.joined.rows name
          (option_map change) rows c.self.invariant.joined
          (λ n. mapped_said has_member change (λ m channel. refl) (row rows name) n));
      invited =
          tells_at is_invited _ _ _ c.respell.ensures
          (tells_kept is_invited c.self.inside.invited.rows name
          (option_map change) rows c.self.invariant.invited
          (λ n. mapped_said is_invited change (λ m channel. refl) (row rows name) n));
    }
