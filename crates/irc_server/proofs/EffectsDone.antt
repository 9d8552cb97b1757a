-- Effects that are taken one after another.
use Rattle.std.proofs.Common.{◌≡◌, ℕ, false, List, [], ◌∷◌, ◌++◌, refl, ◌∙◌, ap}
use Rattle.irc_channels.specs.declared.flags.Flags.{Flags}
use Rattle.irc_merge.specs.Deeds.{flag_given, member_comes}
use Rattle.irc_modes.specs.declared.modes.ModeLetter.TheVariants as letter
use Rattle.irc_room.specs.effect.Effect.{Effect}
use Rattle.irc_room.specs.effect.Effect.TheVariants.{Join}
use Rattle.irc_stage.specs.EffectTold.{Served, all_changed, changed_if}

pub all_changed_twice : (one other : List Effect) (s : Served)
    → all_changed other (all_changed one s) ≡ all_changed (one ++ other) s
all_changed_twice [] other s = refl
all_changed_twice (effect ∷ one) other s = all_changed_twice one other (changed_if effect s)

-- a member comes, and is given its flags
pub member_came : (channel : List ℕ) (member : List ℕ × Flags) (old joined op : Served)
    → joined ≡ changed_if (Join member.0 channel false) old
    → op ≡ all_changed (flag_given member.1.op letter.Operator channel member.0) joined
    → all_changed (flag_given member.1.voice letter.Voice channel member.0) op
    ≡ all_changed (member_comes channel member) old
member_came channel member old joined op come given =
    let ops = flag_given member.1.op letter.Operator channel member.0 in
    let voices = flag_given member.1.voice letter.Voice channel member.0 in
    ap (all_changed voices) given ∙ all_changed_twice ops voices joined
    ∙ ap (all_changed (ops ++ voices)) come
