-- The worked burst, by computing what lists of users and channels say.
use Rattle.std.proofs.Common.{◌≡◌, ℕ, true, false, not, ◌&&◌, Option, List, [], ◌∷◌, ◌++◌, refl}
use Rattle.std.proofs.Common.{◌∙◌, ap, map, filter, fold, length, is_some, codes, nat_eq}
use Rattle.std.proofs.Math.Path.{fun_ext}
use Rattle.std.specs.Fmt.{digits}
use Rattle.std.specs.FinMap.{empty, get-empty, len-empty}
use Rattle.std.specs.Option.{option_map, option_map_or}
use Rattle.irc_names.specs.Fold.{fold as fold_byte, fold_table}
use Rattle.irc_names.specs.Names.{is_key, is_ban_mask}
use Rattle.irc_names.specs.Tables.{fold_cmp}
use Rattle.irc_line.specs.Bytes.{cut}
use Rattle.irc_line.specs.Messages.{line_text}
use Rattle.irc_modes.specs.Modes.{is_limit}
use Rattle.irc_room.specs.Room.{IsWellFormed}
use Rattle.irc_room.specs.Laws.{no_room}
use Rattle.irc_room.specs.Examples.{room_after}
use Rattle.irc_room.specs.Lemmas.ExampleRooms.{list_room, user_is, channel_is}
use Rattle.irc_room.specs.Lemmas.ListedRooms.{all_listed, no_list}
use Rattle.irc_room.specs.Lemmas.WellFormedLaw.{no_room_is_well_formed, after_is_well_formed}
use Rattle.irc_routes.specs.Known.{others, put_among, is_behind, servers_told}
use Rattle.irc_routes.specs.Lemmas.TableRows.{length-values}
use Rattle.irc_routes.specs.declared.server_row.ServerRow.{ServerRow}
use Rattle.irc_merge.specs.Bursts.{burst, in_lines, side_of}
use Rattle.irc_merge.specs.Lemmas.ListedMerge.{burst_listed, list_burst}
use Rattle.irc_merge.specs.Lemmas.WholeSides.{whole_side}
use Rattle.irc_burst_lines.specs.DeedLines.{deed_parts}
use Rattle.irc_burst_lines.specs.BurstLines.{burst_parts, is_near, server_deed}
use Rattle.irc_burst_lines.specs.Examples.{alone, al_comes, al_joins, modes_set, bans_set}
use Rattle.irc_burst_lines.specs.Examples.{topic_set, als_room, OneSideIsTold}

-- ---- al's room is well formed

here : IsWellFormed (room_after (al_comes ∷ []))
unfolding fold_byte fold_table
here =
    after_is_well_formed no_room al_comes no_room_is_well_formed
    (record {
      users_there = refl;
      channel_there = refl;
      nick_free = ap not (user_is [] (codes "al"));
    })

joined : IsWellFormed (room_after (al_comes ∷ al_joins ∷ []))
unfolding fold_byte fold_table
joined =
    after_is_well_formed (room_after (al_comes ∷ [])) al_joins here
    (record {
      users_there = ap (λ b. b && true) (user_is (al_comes ∷ []) (codes "al"));
      channel_there = refl;
      nick_free = refl;
    })

moded : IsWellFormed (room_after (al_comes ∷ al_joins ∷ modes_set ∷ []))
unfolding fold_byte fold_table
moded =
    after_is_well_formed (room_after (al_comes ∷ al_joins ∷ [])) modes_set joined
    (record {
      users_there = refl;
      channel_there = ap is_some
          (channel_is (al_comes ∷ al_joins ∷ []) (codes "#m"));
      nick_free = refl;
    })

banned : IsWellFormed (room_after (al_comes ∷ al_joins ∷ modes_set ∷ bans_set ∷ []))
unfolding fold_byte fold_table is_key is_ban_mask
banned =
    after_is_well_formed (room_after (al_comes ∷ al_joins ∷ modes_set ∷ [])) bans_set moded
    (record {
      users_there = refl;
      channel_there = ap is_some
          (channel_is (al_comes ∷ al_joins ∷ modes_set ∷ []) (codes "#m"));
      nick_free = refl;
    })

well : IsWellFormed (room_after als_room)
unfolding fold_byte fold_table is_key is_ban_mask
well =
    after_is_well_formed
    (room_after (al_comes ∷ al_joins ∷ modes_set ∷ bans_set ∷ [])) topic_set banned
    (record {
      users_there = refl;
      channel_there = ap is_some (channel_is
          (al_comes ∷ al_joins ∷ modes_set ∷ bans_set ∷ []) (codes "#m"));
      nick_free = refl;
    })

-- ---- a.net knows no other server, so all of the room is on its side

none : {X : Type 0} (xs : List X) → length xs ≡ 0 → xs ≡ []
none [] is = refl
none (x ∷ xs) is = cc is

no_servers : (link : ℕ) → servers_told alone link ≡ []
no_servers link =
    ap (λ (rows : List ServerRow). fold put_among [] (filter (λ r. not (is_behind link r)) rows))
    (none (others alone) (length-values {X = ServerRow} empty ∙ len-empty fold_cmp ServerRow))

all_near : (link : ℕ) → is_near alone link ≡ (λ home. true)
all_near link =
    fun_ext (λ home. ap (λ (o : Option ServerRow). not (option_map_or (nat_eq link)
    (option_map (λ (r : ServerRow). r.link) o) false)) (get-empty fold_cmp home))

whole : (link : ℕ) → side_of (is_near alone link) (room_after als_room) ≡ room_after als_room
whole link = ap (λ passes. side_of passes (room_after als_room)) (all_near link)
    ∙ whole_side (room_after als_room) well

-- ---- what is told

listed : (link : ℕ) → burst_parts (room_after als_room) alone link
    ≡ map (deed_parts (room_after als_room) alone) (list_burst (codes "a.net") (list_room als_room))
unfolding burst_parts fold_byte fold_table is_key is_ban_mask
listed link =
    ap (map (deed_parts (room_after als_room) alone))
    ((λ i. map server_deed (no_servers link i) ++ burst (codes "a.net") (whole link i))
    ∙ ap (burst (codes "a.net")) (all_listed no_list als_room)
    ∙ burst_listed (codes "a.net") (list_room als_room)
    (record { users = tt; channels = tt; members = (tt, tt) }))

pub one_side_is_told : OneSideIsTold
unfolding digits fold_byte fold_table is_key is_limit is_ban_mask in_lines cut line_text
one_side_is_told link = ap (map line_text) (listed link)
